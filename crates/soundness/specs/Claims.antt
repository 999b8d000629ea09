-- Which claims are in force where, and what has to hold of a statement for them to be so.
use Rattle.std.specs.Prelude.{◌≡◌, ℕ, zero, suc, ◌+◌, ◌-◌, ◌==◌, ◌||◌, ◌&&◌, Bool, true, false, if◌then◌else◌, List, [], ◌∷◌, ◌++◌, Option, Some, None, ℤ, IsTrue, IsSome, int_le, map, ◌⊎◌}
use Rattle.meaning.specs.Names.{same_name, same_point, bound}
use Rattle.plan.specs.Plan.{Statement, Seq, For, Let, First, Guard, Alloc, Fetch, Store, Publish, Statements, Empty, Then}
use Rattle.plan.specs.Symbols.{Symbols, bind, form_value, largest, turns, points, InRegion}
use Rattle.plan.specs.Rooms.{Room, room, place, same_place}
use Rattle.plan.specs.Lines.{lines}
use Rattle.plan.specs.Semantics.Actions.{Setting, Action, Allot, Take, Put, Change, Give, stored, actions, after}
use Rattle.plan.specs.Semantics.Memory.{place_in}
use Rattle.plan.specs.Semantics.Found.{EachRead}
use Rattle.plan.specs.Semantics.Run.{Source, Input, ByClaim, Unknown}
use Rattle.soundness.specs.Origins.{Given, windowed, Reader, Plain, Within, matches, done_for, answer, left_point, left_variables, right_variables, EachTargetRead}

-- a member of a list
abbrev pub In : {A : Type 0} → A → List A → Type 0
In a [] = ⊥
In a (b ∷ bs) = (a ≡ b) ⊎ In a bs

-- some line of the statement changes the buffer
abbrev mutual
  pub changes : Statement → ℕ → Bool
  changes (Seq all) b = block_changes all b
  changes (For i x kind body) b = changes body b
  changes (Let i pick ls) b = false
  changes (First i a c) b = changes a b || changes c b
  changes (Guard low high body) b = changes body b
  changes (Alloc c f places) b = c == b
  changes (Fetch c f region) b = c == b
  changes (Store c k at e) b = c == b
  changes (Publish c) b = false

  pub block_changes : Statements → ℕ → Bool
  block_changes Empty b = false
  block_changes (Then a rest) b = changes a b || block_changes rest b

-- a later definition
abbrev pub is_update : ℕ → Bool
is_update zero = false
is_update (suc k) = true

module _ (setting : Setting) where
  -- all that the statement's lines change in the buffer are updates of the function
  abbrev mutual
    pub updates : Statement → ℕ → List ℕ → Bool
    updates (Seq all) b f = block_updates all b f
    updates (For i x kind body) b f = updates body b f
    updates (Let i pick ls) b f = true
    updates (First i a c) b f = updates a b f && updates c b f
    updates (Guard low high body) b f = updates body b f
    updates (Alloc c g places) b f = if c == b then false else true
    updates (Fetch c g region) b f = if c == b then false else true
    updates (Store c k at e) b f = if c == b then same_name (setting.buffer_function c) f && is_update k else true
    updates (Publish c) b f = true

    pub block_updates : Statements → ℕ → List ℕ → Bool
    block_updates Empty b f = true
    block_updates (Then a rest) b f = updates a b f && block_updates rest b f

  -- all that the statement's lines change in the buffer is of the function, and the buffer stays
  abbrev mutual
    pub writes : Statement → ℕ → List ℕ → Bool
    writes (Seq all) b f = block_writes all b f
    writes (For i x kind body) b f = writes body b f
    writes (Let i pick ls) b f = true
    writes (First i a c) b f = writes a b f && writes c b f
    writes (Guard low high body) b f = writes body b f
    writes (Alloc c g places) b f = if c == b then false else true
    writes (Fetch c g region) b f = if c == b then same_name (setting.group_function g) f else true
    writes (Store c k at e) b f = if c == b then same_name (setting.buffer_function c) f else true
    writes (Publish c) b f = true

    pub block_writes : Statements → ℕ → List ℕ → Bool
    block_writes Empty b f = true
    block_writes (Then a rest) b f = writes a b f && block_writes rest b f

-- the points that pure stores and fetches write in a buffer
abbrev pub written : ℕ → List Action → List (List ℤ)
written b [] = []
written b (Allot c rooms ∷ later) = written b later
written b (Take c f p ∷ later) = if c == b then p ∷ written b later else written b later
written b (Put c f names p e ∷ later) = if c == b then p ∷ written b later else written b later
written b (Change c f k names at over e ∷ later) = written b later
written b (Give c p ∷ later) = written b later

-- all that is written in the buffer is of the function, and the buffer stays
abbrev pub WritesOnly : ℕ → List ℕ → List Action → Type 0
WritesOnly b f [] = Unit {0}
WritesOnly b f (Allot c rooms ∷ later) = (c == b) ≡ false × WritesOnly b f later
WritesOnly b f (Take c g p ∷ later) = ((c == b) ≡ true → g ≡ f) × WritesOnly b f later
WritesOnly b f (Put c g names p e ∷ later) = ((c == b) ≡ true → g ≡ f) × WritesOnly b f later
WritesOnly b f (Change c g k names at over e ∷ later) = ((c == b) ≡ true → g ≡ f) × WritesOnly b f later
WritesOnly b f (Give c p ∷ later) = WritesOnly b f later

-- nothing else is written where the point lies
abbrev pub ClearOf : Option (List Room) → List ℤ → List (List ℤ) → Type 0
ClearOf rooms p xs = (x : List ℤ) → In x xs → place_in rooms p ≡ place_in rooms x → p ≡ x

-- the same as a test
abbrev pub is_elsewhere : Option (List ℕ) → Option (List ℕ) → Bool
is_elsewhere None None = false
is_elsewhere None (Some q) = true
is_elsewhere (Some p) None = true
is_elsewhere (Some p) (Some q) = if same_place p q then false else true

abbrev pub all_clear : List Room → List ℤ → List (List ℤ) → Bool
all_clear rs p [] = true
all_clear rs p (x ∷ xs) = (same_point p x || is_elsewhere (place rs p) (place rs x)) && all_clear rs p xs

abbrev pub is_clear : Option (List Room) → List ℤ → List (List ℤ) → Bool
is_clear None p xs = false
is_clear (Some rs) p xs = all_clear rs p xs

-- the steps done of a point, if known, after a step n that meets it or not
abbrev pub stepped_status : ℕ → Bool → Option ℕ → Option ℕ
stepped_status n meets None = None
stepped_status n meets (Some d) = Some (if (d == n) && meets then n + 1 else d)

-- a claim in force: with the values of the symbols that it came into force with, and the steps done of each point
pub record Fact : Type 0 where
  pub claim : ℕ
  pub symbols : Symbols
  pub done : List ℤ → Option ℕ

-- what is known at a line: the symbols' values, the buffers' places, and the claims in force
pub record Scope : Type 0 where
  pub symbols : Symbols
  pub rooms : ℕ → Option (List Room)
  pub facts : List Fact

abbrev pub choose_facts : (Fact → Bool) → List Fact → List Fact
choose_facts test [] = []
choose_facts test (h ∷ hs) = if test h then h ∷ choose_facts test hs else choose_facts test hs

-- turns one after another, each with the facts that the one before hands on
abbrev pub EachTurn : (ℤ → List Fact → Type 0) → (ℤ → List Fact → List Fact) → List Fact → List ℤ → Type 0
EachTurn P next carried [] = Unit {0}
EachTurn P next carried (z ∷ zs) = P z carried × EachTurn P next (next z carried) zs

module _ (given : Given) where
  abbrev pub buffer_of : Fact → ℕ
  buffer_of h = (given.outline.claim h.claim).buffer

  abbrev pub function_of : Fact → List ℕ
  function_of h = (given.outline.claim h.claim).function

  abbrev pub InFactRegion : Fact → List ℤ → Type 0
  InFactRegion h p = InRegion h.symbols (given.outline.claim h.claim).region p

  -- the steps done of a point of a buffer after an action
  abbrev pub status_one : ℕ → List ℤ → Action → Option ℕ → Option ℕ
  status_one b p (Allot c rooms) st = if c == b then None else st
  status_one b p (Take c f x) st = if (c == b) && same_point x p then Some (given.all_steps f) else st
  status_one b p (Put c f names x e) st = if (c == b) && same_point x p then Some 0 else st
  status_one b p (Change c f k names at over e) st = if c == b then stepped_status (given.step_at f k over) (matches at p) st else st
  status_one b p (Give c x) st = st

  abbrev pub status_after : ℕ → List ℤ → List Action → Option ℕ → Option ℕ
  status_after b p [] st = st
  status_after b p (a ∷ later) st = status_after b p later (status_one b p a st)

  -- a claim with the number is in force at a point of its region, with these steps done
  abbrev pub InForce : List Fact → ℕ → List ℤ → ℕ → Type 0
  InForce [] c p d = ⊥
  InForce (h ∷ hs) c p d = ((h.claim ≡ c) × InFactRegion h p × (h.done p ≡ Some d)) ⊎ InForce hs c p d

  -- a read of the input within its extents, or of a claim in force at a point of its region
  abbrev pub SourceMayUse : List Fact → Reader → Source → List ℤ → Type 0
  SourceMayUse facts r Input p = IsTrue (given.in_input p)
  SourceMayUse facts r (ByClaim c) p = InForce facts c p (done_for given r c)
  SourceMayUse facts r Unknown p = ⊥

  abbrev pub MayUse : List Fact → Reader → List ℕ → List ℤ → Type 0
  MayUse facts r name p = SourceMayUse facts r (given.outline.source name) p

  -- nothing, or the steps that some claim in force says are done of a point of the buffer
  abbrev pub Earlier : List Fact → ℕ → List ℕ → List ℤ → ℕ → Type 0
  Earlier [] b f p d = ⊥
  Earlier (h ∷ hs) b f p d = ((buffer_of h ≡ b) × (function_of h ≡ f) × InFactRegion h p × (h.done p ≡ Some d)) ⊎ Earlier hs b f p d

  abbrev pub Before : List Fact → ℕ → List ℕ → List ℤ → Option ℕ → Type 0
  Before facts b f p None = Unit {0}
  Before facts b f p (Some d) = Earlier facts b f p d

  -- the claims of buffers that the statement leaves alone
  abbrev pub stable : Statement → List Fact → List Fact
  stable a hs = choose_facts (λ h. if changes a (buffer_of h) then false else true) hs

  -- a claim whose buffer the statement only updates
  abbrev pub is_updated : Statement → Fact → Bool
  is_updated a h = changes a (buffer_of h) && updates given.outline.setting a (buffer_of h) (function_of h)

  -- a claim whose buffer the statement only fills and updates
  abbrev pub is_written : Statement → Fact → Bool
  is_written a h = changes a (buffer_of h) && writes given.outline.setting a (buffer_of h) (function_of h)

  -- the same claim with the steps that actions do, where nothing else is written over it
  abbrev pub advanced : List Action → (ℕ → Option (List Room)) → Fact → Fact
  advanced todo rooms h = record {
    claim = h.claim;
    symbols = h.symbols;
    done = λ p. if is_clear (rooms (buffer_of h)) p (written (buffer_of h) todo) then status_after (buffer_of h) p todo (h.done p) else None;
  }

  -- after a statement: the claims that it leaves alone, and those whose function it writes
  abbrev pub keep : Statement → List Action → (ℕ → Option (List Room)) → List Fact → List Fact
  keep a todo rooms hs = map (advanced todo rooms) (choose_facts (is_written a) hs) ++ stable a hs

  -- what the actions do, after what is known before them, gives the claim's definition at every point of its region
  pub record IsMade (c : ℕ) (todo : List Action) (sc : Scope) : Type 0 where
    pub has_room : IsSome (sc.rooms (given.outline.claim c).buffer)
    pub only : WritesOnly (given.outline.claim c).buffer (given.outline.claim c).function todo
    pub clear : (p : List ℤ) → InRegion sc.symbols (given.outline.claim c).region p → ClearOf (sc.rooms (given.outline.claim c).buffer) p (written (given.outline.claim c).buffer todo)
    pub covers : (p : List ℤ) → InRegion sc.symbols (given.outline.claim c).region p →
        (st : Option ℕ) × Before sc.facts (given.outline.claim c).buffer (given.outline.claim c).function p st
        × (status_after (given.outline.claim c).buffer p todo st ≡ Some (given.steps (given.outline.claim c).function (given.outline.claim c).definition))

  abbrev pub AreMade : List ℕ → List Action → Scope → Type 0
  AreMade [] todo sc = Unit {0}
  AreMade (c ∷ cs) todo sc = IsMade c todo sc × AreMade cs todo sc

  abbrev pub new_fact : Symbols → ℕ → Fact
  new_fact s c = record { claim = c; symbols = s; done = λ p. Some (given.steps (given.outline.claim c).function (given.outline.claim c).definition) }

  abbrev pub more_rooms : Statement → Scope → ℕ → Option (List Room)
  more_rooms (Alloc b f places) sc = λ c. if c == b then Some (map (room sc.symbols) places) else sc.rooms c
  more_rooms _ sc = sc.rooms

  -- what is known after a statement of a block that begins at the line
  abbrev pub onward : Statement → ℕ → Scope → Scope
  onward a line sc = record {
    symbols = after a sc.symbols;
    rooms = more_rooms a sc;
    facts = map (new_fact sc.symbols) (given.outline.named (line + lines a - 1)) ++ keep a (actions given.outline.setting a sc.symbols) sc.rooms sc.facts;
  }

  -- what is known at the end of a block
  abbrev pub block_left : Statements → ℕ → Scope → List Fact
  block_left Empty line sc = sc.facts
  block_left (Then a rest) line sc = block_left rest (line + lines a) (onward a line sc)

  -- the same of any statement: one that is no block leaves what it keeps
  abbrev pub left : Statement → ℕ → Scope → List Fact
  left (Seq all) line sc = block_left all line sc
  left a line sc = keep a (actions given.outline.setting a sc.symbols) sc.rooms sc.facts

  -- the symbols in a turn of a loop
  abbrev pub turn_symbols : Symbols → ℕ → ℤ → ℤ → Symbols
  turn_symbols s i low z = bind s i z (int_le z low)

  -- what is known in one turn of a loop
  abbrev pub in_turn : Symbols → Statement → Scope → List Fact → Scope
  in_turn s body sc carried = record { symbols = s; rooms = sc.rooms; facts = carried ++ stable body sc.facts }

  -- what a turn hands on to the next: the claims of the loop's windows, and those that the loop updates
  abbrev pub handed_on : ℕ → Statement → List Fact → List Fact
  handed_on i body hs = choose_facts (λ h. windowed given.outline i h.claim || is_updated body h) hs

  -- a store lies in its buffer and reads what claims in force say; a step of an update is one of its domain and comes where
  -- its turn is
  abbrev pub IsSoundAction : Action → Scope → Type 0
  IsSoundAction (Put b f names p e) sc = IsSome (place_in (sc.rooms b) p) × EachRead (bound names p) (answer given Plain) (MayUse sc.facts Plain) e
  IsSoundAction (Change b f k names at over e) sc =
      let n = given.step_at f k over in
      let r = Within f n in
      IsTrue (given.in_domain f k over)
      × Earlier sc.facts b f (left_point given names at over r) n
      × EachTargetRead given (left_variables given names at over) at r (MayUse sc.facts r)
      × EachRead (right_variables given names at over r) (answer given r) (MayUse sc.facts r) e
  IsSoundAction _ sc = Unit {0}

  -- the statement that begins at the line keeps inside its buffers and uses only claims in force
  abbrev mutual
    pub IsSound : Statement → ℕ → Scope → Type 0
    IsSound (Seq all) line sc = IsSoundBlock all line sc
    IsSound (For i x kind body) line sc =
        EachTurn
        (λ z carried. IsSound body (line + 1) (in_turn (turn_symbols sc.symbols i (largest sc.symbols x.lower) z) body sc carried))
        (λ z carried. handed_on i body (left body (line + 1) (in_turn (turn_symbols sc.symbols i (largest sc.symbols x.lower) z) body sc carried)))
        (choose_facts (is_updated body) sc.facts) (turns sc.symbols x)
    IsSound (Let i pick ls) line sc = Unit {0}
    IsSound (First i a b) line sc = (sc.symbols.first i ≡ true → IsSound a (line + 1) sc) × (sc.symbols.first i ≡ false → IsSound b (line + 2 + lines a) sc)
    IsSound (Guard low high body) line sc = int_le (form_value low sc.symbols) (form_value high sc.symbols) ≡ true → IsSound body (line + 1) sc
    IsSound (Alloc b f places) line sc = sc.rooms b ≡ None
    IsSound (Fetch b g region) line sc = (p : List ℤ) → In p (points sc.symbols region) → IsSome (place_in (sc.rooms b) p)
    IsSound (Store b k at e) line sc = IsSoundAction (stored given.outline.setting b k at e sc.symbols) sc
    IsSound (Publish c) line sc = (p : List ℤ) → In p (given.outline.setting.own sc.symbols) → InForce sc.facts c p (given.all_steps (given.outline.claim c).function)

    pub IsSoundBlock : Statements → ℕ → Scope → Type 0
    IsSoundBlock Empty line sc = Unit {0}
    IsSoundBlock (Then a rest) line sc =
        IsSound a line sc × AreMade (given.outline.named (line + lines a - 1)) (actions given.outline.setting a sc.symbols) sc × IsSoundBlock rest (line + lines a) (onward a line sc)
