-- What has to be shown of a piece's lines, whatever its symbols stand for.
use Rattle.std.specs.Prelude.{◌≡◌, ℕ, zero, suc, ◌+◌, ◌-◌, ◌==◌, ◌||◌, ◌&&◌, Bool, true, false, not, if◌then◌else◌, List, [], ◌∷◌, ◌++◌, map, flat_map, filter, take, drop, Option, Some, None, ℤ, pos, ◌≤ℤ◌, IsSome, IsTrue}
use Rattle.std.specs.List.{AllByRecursion, list_any, list_all}
use Rattle.tree.specs.Term.{Term, Number, Name, Call, Minus, Binary, Clamp, Cast, Choice, Terms, End, More, Test, Compares, Fails, Both, Either}
use Rattle.tree.specs.Meaning.{value_of}
use Rattle.meaning.specs.Names.{same_name, bound}
use Rattle.lin.specs.Forms.{Form, number}
use Rattle.lin.specs.declared.span.Span1.{Span1}
use Rattle.plan.specs.declared.stmt.Places.{Places}
use Rattle.plan.specs.declared.stmt.Places.TheVariants.{From, Folded}
use Rattle.plan.specs.Plan.{Index, At, Found, Coordinate, Statement, Seq, For, Let, First, Guard, Alloc, Fetch, Store, Publish, Statements, Empty, Then}
use Rattle.plan.specs.declared.certificate.cert.Window.{Window}
use Rattle.plan.specs.Symbols.{Symbols, form_value, InRegion}
use Rattle.plan.specs.Rooms.{room, place}
use Rattle.plan.specs.Lines.{lines}
use Rattle.plan.specs.Semantics.Actions.{Setting, Action, Change, Target, actions}
use Rattle.plan.specs.Semantics.Run.{Source, Input, ByClaim, Unknown}
use Rattle.soundness.specs.Origins.{Outline, Given, Reader, answer, matches, or_same}
use Rattle.soundness.specs.Claims.{In, changes, block_changes, is_update, updates, writes, written, ClearOf, status_after}
use Rattle.soundness.specs.Around.{inside}
use Rattle.soundness.specs.Sliding.{IsSliding}
pub use Rattle.soundness.specs.Around.{Lies, LieIn, Binder, Ranged, Picked, Passed, picked, Respects}

-- ---- spans

-- the span of all numbers
abbrev pub anything : Span1
anything = record { lower = []; upper = [] }

-- the span of the numbers from each form on
abbrev pub from_each : List Form → Span1
from_each ls = record { lower = ls; upper = [] }

-- the span of one number
abbrev pub exactly : Form → Span1
exactly f = record { lower = f ∷ []; upper = f ∷ [] }

-- a buffer in scope
pub record Buffer : Type 0 where
  pub name : ℕ
  pub places : List Places

-- an update's nest that is under way: the claim of the definition before, and the claim that the nest makes
pub record Updating : Type 0 where
  pub before : ℕ
  pub next : ℕ

-- the binders, the buffers in scope, the claims in force, those of them that came into force in this very block, and the
-- updates' nests around the line
pub record Known : Type 0 where
  pub binders : List Binder
  pub buffers : List Buffer
  pub claims : List ℕ
  pub own : List ℕ
  pub updating : List Updating

-- what else obligations refer to: the algorithm, the own region, the claims' lines, and the bounds of forms and of expressions
pub record Rules : Type 0 where
  -- the line of a claim, the line of the first window of a claim, the last definition of a function, the input's extents as spans, and the
  -- region that the pieces own
  pub claim_line : ℕ → ℕ
  pub window_line : ℕ → ℕ
  pub last : List ℕ → ℕ
  pub extents : List Span1
  pub own : List Span1
  -- whether a form is shown to be at most another, and the bounds of an expression whose variables have these names and spans
  pub at_most : List Binder → Form → Form → Bool
  pub interval : List Binder → List (List ℕ) → List Span1 → Term → Span1

-- ---- obligations

-- why a plan is refused
pub data Code : Type 0 where
  -- K2: unknown, or bound twice
  Undefined : Code
  -- K4: an index leaves its buffer or input
  OutOfBuffer : Code
  -- K5: a load without a claim in force
  NotClaimed : Code
  -- K6: a statement does not make its claim
  NotMade : Code
  -- K7: an update's steps out of their order
  OutOfOrder : Code
  -- K8: a window's buffer does not hold its span at each turn
  NotHeld : Code
  -- K12: something else is stored than the definition
  NotTheDefinition : Code

pub data Wanted : Type 0 where
  -- a test of names alone
  Named : Bool → Wanted
  -- each point of the spans has a place
  Seated : List Span1 → List Places → Wanted
  -- each point of the first spans is one of the second
  Inside : List Span1 → List Span1 → Wanted
  -- the statement gives the claim's definition at each point of the claim's region, from nothing or from the definition before
  Made : (claim : ℕ) (from : Option ℕ) (places : List Places) (by : Statement) → Wanted
  -- the statement does the steps of the claim's definition in their order
  InTurn : (claim : ℕ) (by : Statement) → Wanted
  -- the statement makes the claim along the window: all of its region in the first turn of the loop, in later ones what is new
  Slid : (window : Window) (claim : ℕ) (places : List Places) (by : Statement) → Wanted
  -- and so the buffer holds the region at each turn, where this is around the statement
  Held : (window : Window) (around : List Binder) (claim : ℕ) (places : List Places) (by : Statement) → Wanted

pub record Obligation : Type 0 where
  pub code : Code
  pub line : ℕ
  pub binders : List Binder
  pub wanted : Wanted

abbrev pub is_member : ℕ → List ℕ → Bool
is_member c cs = list_any (λ d. d == c) cs

-- the window along which a claim is made, of some windows
abbrev pub window_of : List Window → ℕ → Option Window
window_of [] c = None
window_of (w ∷ ws) c = if w.claim == c then Some w else window_of ws c

-- the place of the first window of a claim among some; how many there are, where none is
abbrev pub first_window : List Window → ℕ → ℕ
first_window [] c = 0
first_window (w ∷ ws) c = if w.claim == c then 0 else first_window ws c + 1

-- the windows whose claims are none of these
abbrev pub without : List ℕ → List Window → List Window
without cs ws = filter (λ w. not (is_member w.claim cs)) ws

-- a line that gives the symbol a number
abbrev pub gives : ℕ → Statement → Bool
gives i (Let j pick ls) = i == j
gives i _ = false

-- the claim is of one statement of the block; no other changes its buffer, and none before it gives the symbol a number
abbrev pub stands_alone : Outline → ℕ → ℕ → Statements → ℕ → Bool
stands_alone outline i c Empty line = false
stands_alone outline i c (Then a rest) line =
    if is_member c (outline.named (line + lines a - 1)) then not (block_changes rest (outline.claim c).buffer)
    else (not (changes a (outline.claim c).buffer) && (not (gives i a) && stands_alone outline i c rest (line + lines a)))

abbrev pub places_of : List Buffer → ℕ → Option (List Places)
places_of [] b = None
places_of (x ∷ xs) b = if b == x.name then Some x.places else places_of xs b

-- a symbol that stands in a form, a span, a binder or places
abbrev pub form_has : ℕ → Form → Bool
form_has i f = list_any (λ t. t.symbol == i) f.terms

abbrev pub span_has : ℕ → Span1 → Bool
span_has i x = list_any (form_has i) x.lower || list_any (form_has i) x.upper

abbrev pub binder_has : ℕ → Binder → Bool
binder_has i (Ranged j x) = (j == i) || span_has i x
binder_has i (Picked j pick ls) = (j == i) || list_any (form_has i) ls
binder_has i (Passed low high) = form_has i low || form_has i high

abbrev pub places_have : ℕ → Places → Bool
places_have i (From l n) = form_has i l
places_have i (Folded n) = false

abbrev pub is_free : Option (List Places) → Bool
is_free None = true
is_free (Some places) = false

abbrev pub or_same_line : Option ℕ → Option ℕ → Option ℕ
or_same_line None o = o
or_same_line (Some line) o = Some line

abbrev pub is_next : ℕ → ℕ → Bool
is_next k zero = false
is_next k (suc j) = j == k

-- steps out of their order, where a statement has a store of the claim's definition at a line; where it has none, it does not make the claim
abbrev pub turn_code : Option ℕ → Code
turn_code None = NotMade
turn_code (Some line) = OutOfOrder

module _ (outline : Outline) (rules : Rules) where
  abbrev pub region_of : ℕ → List Span1
  region_of c = (outline.claim c).region

  abbrev pub has_symbol : ℕ → Span1 → Known → Bool
  has_symbol i x known =
      span_has i x
      || (list_any (binder_has i) known.binders
      || (list_any (λ b. list_any (places_have i) b.places) known.buffers
      || (list_any (λ c. list_any (span_has i) (region_of c)) known.claims
      || list_any (λ u. list_any (span_has i) (region_of u.before) || list_any (span_has i) (region_of u.next)) known.updating)))

  abbrev pub obligation : Code → ℕ → Known → Wanted → Obligation
  obligation code line known wanted = record { code = code; line = line; binders = known.binders; wanted = wanted }

  -- ---- the claims in force

  -- no line of the statement changes the claim's buffer
  abbrev pub is_left : Statement → ℕ → Bool
  is_left a c = not (changes a (outline.claim c).buffer)

  -- the second claim is of the definition after that of the first
  abbrev pub follows : ℕ → ℕ → Bool
  follows c d =
      ((outline.claim c).buffer == (outline.claim d).buffer) && same_name (outline.claim c).function (outline.claim d).function
      && is_next (outline.claim c).definition (outline.claim d).definition

  -- the nests that a statement begins: for each claim that it makes by updates alone, each claim of the definition before
  -- that came into force in its block
  abbrev pub nests_of : Statement → List ℕ → List ℕ → List Updating
  nests_of a next own =
      flat_map (λ c. map (λ d. record { before = d; next = c }) (filter (λ d. follows d c) own))
      (filter (λ c. updates outline.setting a (outline.claim c).buffer (outline.claim c).function) next)

  -- in a statement that next definitions' claims name: the claims of the definitions before stay for that statement's stores
  abbrev pub within : Statement → List ℕ → Known → Known
  within a next known = record {
    binders = known.binders;
    buffers = known.buffers;
    claims = known.claims;
    own = known.own;
    updating = nests_of a next known.own ++ known.updating;
  }

  abbrev pub in_guard : Form → Form → Known → Known
  in_guard low high known = record { binders = Passed low high ∷ known.binders; buffers = known.buffers; claims = known.claims; own = []; updating = known.updating }

  abbrev pub in_block : Known → Known
  in_block known = record { binders = known.binders; buffers = known.buffers; claims = known.claims; own = []; updating = known.updating }

  -- in every turn of a loop: the claims of the buffers that no turn changes
  abbrev pub in_loop : ℕ → Span1 → Statement → Known → Known
  in_loop i x body known = record {
    binders = Ranged i x ∷ known.binders;
    buffers = known.buffers;
    claims = filter (is_left body) known.claims;
    own = [];
    updating = known.updating;
  }

  abbrev pub more_buffers : Statement → List Buffer → List Buffer
  more_buffers (Alloc b f places) bs = record { name = b; places = places } ∷ bs
  more_buffers _ bs = bs

  abbrev pub more_binders : Statement → List Binder → List Binder
  more_binders (Let i pick ls) bs = Picked i pick ls ∷ bs
  more_binders _ bs = bs

  -- a line that gives a symbol its number makes no claim
  abbrev pub makes : Statement → List ℕ → List ℕ
  makes (Let i pick ls) next = []
  makes _ next = next

  -- after a statement: the claims that its last line names, and those whose buffer it leaves alone
  abbrev pub onwards : Statement → List ℕ → Known → Known
  onwards a next known = record {
    binders = more_binders a known.binders;
    buffers = more_buffers a known.buffers;
    claims = makes a next ++ filter (is_left a) known.claims;
    own = makes a next ++ filter (is_left a) known.own;
    updating = known.updating;
  }

  -- ---- the claims that are made along windows

  -- the windows along a loop, whose body's first line this is, of pure definitions' claims that stand alone in the body
  abbrev pub kept_in : ℕ → Statements → ℕ → List Window
  kept_in i row line =
      filter (λ w. (w.symbol == i) && (not (is_update (outline.claim w.claim).definition) && stands_alone outline i w.claim row line)) outline.windows

  -- the same of any body: one that is no block keeps none
  abbrev pub kept_of : ℕ → Statement → ℕ → List Window
  kept_of i (Seq row) line = kept_in i row line
  kept_of i _ line = []

  -- ---- what each line asks for

  abbrev pub seated : Option (List Places) → List Span1 → Wanted
  seated None xs = Named false
  seated (Some places) xs = Seated xs places

  -- a claim in force of a function's last definition
  abbrev pub is_usable : Known → ℕ → Bool
  is_usable known c = is_member c known.claims && ((outline.claim c).definition == rules.last (outline.claim c).function)

  -- the nest does the steps of this definition in this buffer
  abbrev pub serves : ℕ → List ℕ → ℕ → Updating → Bool
  serves b f k u = ((outline.claim u.next).buffer == b) && (same_name (outline.claim u.next).function f && ((outline.claim u.next).definition == k))

  -- the same, but for a call that an update makes of its own function: that is by the claim of the definition before
  abbrev pub may_load : Known → ℕ → List ℕ → ℕ → ℕ → Bool
  may_load known b f zero c = is_usable known c
  may_load known b f (suc k) c =
      if same_name (outline.claim c).function f then list_any (λ u. (u.before == c) && serves b f (suc k) u) known.updating
      else is_usable known c

  -- the points that a left side may be, as far as forms tell
  abbrev pub index_met : Index → Span1
  index_met (At l) = exactly l
  index_met (Found e) = anything

  -- an update's calls of its own function are of points that the same step meets: those of a definition are, since a call has each
  -- variable at its place that stands there alone on the left side
  abbrev pub met : List ℕ → ℕ → List Coordinate → ℕ → List (List Span1)
  met f zero at c = []
  met f (suc k) at c = if same_name (outline.claim c).function f then map (λ x. index_met x.index) at ∷ [] else []

  abbrev pub load_obligations : ℕ → Known → (ℕ → Bool) → (ℕ → List (List Span1)) → Source → List Span1 → List Obligation
  load_obligations line known may meets Input xs = obligation OutOfBuffer line known (Inside xs rules.extents) ∷ []
  load_obligations line known may meets (ByClaim c) xs =
      obligation OutOfBuffer line known (seated (places_of known.buffers (outline.claim c).buffer) xs)
      ∷ obligation NotClaimed line known (Named (may c)) ∷ obligation NotClaimed line known (Inside xs (region_of c))
      ∷ map (λ ys. obligation NotTheDefinition line known (Inside xs ys)) (meets c)
  load_obligations line known may meets Unknown xs = obligation Undefined line known (Named false) ∷ []

  -- the bounds of indices
  abbrev pub intervals : List Binder → List (List ℕ) → List Span1 → Terms → List Span1
  intervals bs names vars End = []
  intervals bs names vars (More a rest) = rules.interval bs names vars a ∷ intervals bs names vars rest

  -- each load of an expression, where the variables have these names and spans
  module _ (line : ℕ) (known : Known) (may : ℕ → Bool) (meets : ℕ → List (List Span1)) (names : List (List ℕ)) (vars : List Span1) where
    abbrev mutual
      pub loads : Term → List Obligation
      loads (Number t n) = []
      loads (Name name) = []
      loads (Call name at) = loads_of_all at ++ load_obligations line known may meets (outline.source name) (intervals known.binders names vars at)
      loads (Minus a) = loads a
      loads (Binary op a b) = loads a ++ loads b
      loads (Clamp a l h) = loads a ++ (loads l ++ loads h)
      loads (Cast t a) = loads a
      loads (Choice c a b) = loads_of_test c ++ (loads a ++ loads b)

      pub loads_of_test : Test → List Obligation
      loads_of_test (Compares by a b) = loads a ++ loads b
      loads_of_test (Fails c) = loads_of_test c
      loads_of_test (Both c d) = loads_of_test c ++ loads_of_test d
      loads_of_test (Either c d) = loads_of_test c ++ loads_of_test d

      pub loads_of_all : Terms → List Obligation
      loads_of_all End = []
      loads_of_all (More a rest) = loads a ++ loads_of_all rest

  -- a coordinate's span as a variable of the left side, and as the place that is written
  abbrev pub index_span : Index → Span1
  index_span (At l) = exactly l
  index_span (Found e) = exactly (number (pos 0))

  abbrev pub variable_span : Coordinate → Span1
  variable_span c = index_span c.index

  abbrev pub index_place : Known → List (List ℕ) → List Span1 → Index → Span1
  index_place known names vars (At l) = exactly l
  index_place known names vars (Found e) = rules.interval known.binders names vars e

  abbrev pub target_span : Known → List (List ℕ) → List Span1 → Coordinate → Span1
  target_span known names vars c = index_place known names vars c.index

  abbrev pub index_loads : ℕ → Known → (ℕ → Bool) → (ℕ → List (List Span1)) → List (List ℕ) → List Span1 → Index → List Obligation
  index_loads line known may meets names vars (At l) = []
  index_loads line known may meets names vars (Found e) = loads line known may meets names vars e

  abbrev pub coordinate_loads : ℕ → Known → (ℕ → Bool) → (ℕ → List (List Span1)) → List (List ℕ) → List Span1 → Coordinate → List Obligation
  coordinate_loads line known may meets names vars c = index_loads line known may meets names vars c.index

  -- an update stands in the nest of its claim
  abbrev pub is_begun : Known → ℕ → List ℕ → ℕ → Bool
  is_begun known b f zero = true
  is_begun known b f (suc k) = list_any (serves b f (suc k)) known.updating

  -- and stores in the claim's region
  abbrev pub claimed : ℕ → Known → ℕ → List ℕ → ℕ → List Span1 → List Obligation
  claimed line known b f zero places = []
  claimed line known b f (suc k) places = map (λ u. obligation NotClaimed line known (Inside places (region_of u.next))) (filter (serves b f (suc k)) known.updating)

  -- the spans of the variables of a store's expression, where its left side has these: an index that is found has the
  -- expression's span
  abbrev pub store_obligations : ℕ → Known → ℕ → List ℕ → ℕ → List Coordinate → List Coordinate → Term → List Obligation
  store_obligations line known b f k at over e =
      let names = map (λ c. c.variable) (at ++ over) in
      let left = map variable_span (at ++ over) in
      let places = map (target_span known names left) at in
      let may = may_load known b f k in
      let meets = met f k at in
      obligation OutOfBuffer line known (seated (places_of known.buffers b) places)
      ∷ obligation NotClaimed line known (Named (is_begun known b f k))
      ∷ (claimed line known b f k places
      ++ (flat_map (coordinate_loads line known may meets names left) at
      ++ loads line known may meets names (places ++ map variable_span over) e))

  -- the statement only updates the claim's buffer: the claim goes on from that of the definition before
  abbrev pub goes_on : Statement → ℕ → Option ℕ
  goes_on a c = if updates outline.setting a (outline.claim c).buffer (outline.claim c).function then Some ((outline.claim c).definition - 1) else None

  abbrev pub made : Option (List Places) → ℕ → Statement → Wanted
  made None c a = Named false
  made (Some places) c a = Made c (goes_on a c) places a

  -- the line of the statement's first store of the definition in the buffer, where the statement begins at the line
  abbrev mutual
    pub store_line : Statement → ℕ → ℕ → ℕ → Option ℕ
    store_line (Seq all) line b d = block_store_line all line b d
    store_line (For i x kind body) line b d = store_line body (line + 1) b d
    store_line (Let i pick ls) line b d = None
    store_line (First i a c) line b d = or_same_line (store_line a (line + 1) b d) (store_line c (line + 2 + lines a) b d)
    store_line (Guard low high body) line b d = store_line body (line + 1) b d
    store_line (Alloc c f places) line b d = None
    store_line (Fetch c g region) line b d = None
    store_line (Store c k at e) line b d = if (c == b) && (k == d) then Some line else None
    store_line (Publish c) line b d = None

    pub block_store_line : Statements → ℕ → ℕ → ℕ → Option ℕ
    block_store_line Empty line b d = None
    block_store_line (Then a rest) line b d = or_same_line (store_line a line b d) (block_store_line rest (line + lines a) b d)

  -- the line at which a claim asks for the order of the nest that begins at the line: its first store of the claim's definition
  abbrev pub turn_line : Statement → ℕ → ℕ → Option ℕ
  turn_line a begin c = store_line a begin (outline.claim c).buffer (outline.claim c).definition

  -- the claims of the definition before that a claim goes on from, and that its region lies in; the nest begins at the line, and
  -- its order is asked at its first store of the claim's definition, or at the claim where it has none
  abbrev pub earlier_obligations : ℕ → ℕ → Known → Statement → ℕ → List Obligation
  earlier_obligations begin line known a c =
      if updates outline.setting a (outline.claim c).buffer (outline.claim c).function then
      obligation NotMade (rules.claim_line c) known (Named (list_any (λ d. follows d c) known.own))
      ∷ obligation (turn_code (turn_line a begin c)) (or_same (turn_line a begin c) (rules.claim_line c)) known (InTurn c a)
      ∷ map (λ d. obligation NotMade (rules.claim_line c) known (Inside (region_of c) (region_of d))) (filter (λ d. follows d c) known.own)
      else []

  -- the statement makes the claim along the window, and the window's buffer holds its rows
  abbrev pub slid : Option (List Places) → Window → ℕ → Statement → Wanted
  slid None w c a = Named false
  slid (Some places) w c a = Slid w c places a

  abbrev pub held : Option (List Places) → Window → List Binder → ℕ → Statement → Wanted
  held None w bs c a = Named false
  held (Some places) w bs c a = Held w bs c places a

  -- that the statement makes the claim: by itself, or along a window
  abbrev pub making_obligations : Option Window → Known → Statement → ℕ → List Obligation
  making_obligations None known a c = obligation NotMade (rules.claim_line c) known (made (places_of known.buffers (outline.claim c).buffer) c a) ∷ []
  making_obligations (Some w) known a c =
      obligation NotMade (rules.claim_line c) known (slid (places_of known.buffers (outline.claim c).buffer) w c a)
      ∷ obligation NotHeld (rules.window_line c) known (held (places_of known.buffers (outline.claim c).buffer) w known.binders c a) ∷ []

  abbrev pub claim_obligations : List Window → ℕ → ℕ → Known → Statement → ℕ → List Obligation
  claim_obligations kept begin line known a c =
      obligation NotMade (rules.claim_line c) known (Named (writes outline.setting a (outline.claim c).buffer (outline.claim c).function))
      ∷ (making_obligations (window_of kept c) known a c ++ earlier_obligations begin line known a c)

  abbrev mutual
    -- what a statement that begins at the line asks for, where it is the body of a loop that keeps these windows
    pub turn_obligations : List Window → Statement → ℕ → Known → List Obligation
    turn_obligations kept (Seq all) line known = block_obligations kept all line (in_block known)
    turn_obligations kept (For i x kind body) line known =
        obligation Undefined line known (Named (not (has_symbol i x known)))
        ∷ turn_obligations (kept_of i body (line + 1)) body (line + 1) (in_loop i x body known)
    turn_obligations kept (Let i pick ls) line known = obligation Undefined line known (Named (not (has_symbol i (from_each ls) known))) ∷ []
    turn_obligations kept (First i a b) line known =
        turn_obligations [] a (line + 1) (in_block known) ++ turn_obligations [] b (line + 2 + lines a) (in_block known)
    turn_obligations kept (Guard low high body) line known = turn_obligations [] body (line + 1) (in_guard low high known)
    turn_obligations kept (Alloc b f places) line known = obligation Undefined line known (Named (is_free (places_of known.buffers b))) ∷ []
    turn_obligations kept (Fetch b g region) line known = obligation OutOfBuffer line known (seated (places_of known.buffers b) region) ∷ []
    turn_obligations kept (Store b k at e) line known =
        let n = outline.setting.dimensions b in store_obligations line known b (outline.setting.buffer_function b) k (take n at) (drop n at) e
    turn_obligations kept (Publish c) line known =
        obligation NotClaimed line known (Named (is_usable known c)) ∷ obligation NotClaimed line known (Inside rules.own (region_of c)) ∷ []

    -- the same of a block: the windows are left of whose claims no statement before is
    pub block_obligations : List Window → Statements → ℕ → Known → List Obligation
    block_obligations kept Empty line known = []
    block_obligations kept (Then a rest) line known =
        let last = line + lines a - 1 in
        turn_obligations [] a line (within a (outline.named last) known)
        ++ (flat_map (claim_obligations kept line last known a) (outline.named last)
        ++ block_obligations (without (outline.named last) kept) rest (line + lines a) (onwards a (outline.named last) known))

  -- what a statement that begins at the line asks for
  abbrev pub obligations : Statement → ℕ → Known → List Obligation
  obligations a line known = turn_obligations [] a line known

-- ---- what an obligation means

-- where the actions begin with so many steps done of each point: each step of the definition is for a point of its domain, and
-- comes where as many steps are done as are before it, at every point that it meets
abbrev pub AreInTurn : Given → ℕ → List ℕ → ℕ → (List ℤ → Option ℕ) → List Action → Type 0
AreInTurn given b f k done todo =
    (xs ys : List Action) (names : List (List ℕ)) (at : List Target) (over : List ℤ) (e : Term) → todo ≡ xs ++ Change b f k names at over e ∷ ys →
    IsTrue (given.in_domain f k over) × ((p : List ℤ) → matches at p ≡ true → status_after given b p xs (done p) ≡ Some (given.step_at f k over))

abbrev pub begun : Given → List ℕ → Option ℕ → Option ℕ
begun given f None = None
begun given f (Some k) = Some (given.steps f k)

module _ (given : Given) where
  abbrev pub MeantAt : Wanted → Symbols → Type 0
  MeantAt (Named test) s = IsTrue test
  MeantAt (Seated xs places) s = (p : List ℤ) → LieIn s xs p → IsSome (place (map (room s) places) p)
  MeantAt (Inside xs ys) s = (p : List ℤ) → LieIn s xs p → LieIn s ys p
  MeantAt (Made c from places a) s =
      let made = given.outline.claim c in
      (p : List ℤ) → InRegion s made.region p →
      (status_after given made.buffer p (actions given.outline.setting a s) (begun given made.function from) ≡ Some (given.steps made.function made.definition))
      × ClearOf (Some (map (room s) places)) p (written made.buffer (actions given.outline.setting a s))
  MeantAt (InTurn c a) s =
      let made = given.outline.claim c in
      AreInTurn given made.buffer made.function made.definition (λ p. begun given made.function (Some (made.definition - 1))) (actions given.outline.setting a s)
  -- what is made along a window is told by the window, since both have to be shown for it
  MeantAt (Slid w c places a) s = Unit {0}
  MeantAt (Held w around c places a) s = Respects around s → IsSliding given w.symbol (inside w.symbol around) c places a s

  -- whatever the symbols stand for
  abbrev pub Meant : Obligation → Type 0
  Meant o = (s : Symbols) → Respects o.binders s → MeantAt o.wanted s

  abbrev pub AllMeant : List Obligation → Type 0
  AllMeant os = AllByRecursion Meant os

-- the rules fit what is given, and the bounds of forms and of expressions hold
pub record Suited (given : Given) (rules : Rules) : Type 0 where
  pub whole : (f : List ℕ) → given.steps f (rules.last f) ≡ given.all_steps f
  pub inside : (s : Symbols) (p : List ℤ) → LieIn s rules.extents p → IsTrue (given.in_input p)
  pub owned : (s : Symbols) (p : List ℤ) → In p (given.outline.setting.own s) → LieIn s rules.own p
  pub bounded : (bs : List Binder) (names : List (List ℕ)) (vars : List Span1) (e : Term) (r : Reader) (s : Symbols) (p : List ℤ) → Respects bs s → LieIn s vars p →
      Lies s (rules.interval bs names vars e) (value_of (bound names p) (answer given r) e).number
  pub ordered : (bs : List Binder) (a b : Form) (s : Symbols) → rules.at_most bs a b ≡ true → Respects bs s → form_value a s ≤ℤ form_value b s

-- plans whose pure stores have forms alone, as those of a definition have: what the theorem on obligations covers
abbrev pub has_form : Index → Bool
has_form (At l) = true
has_form (Found e) = false

abbrev pub is_form : Coordinate → Bool
is_form c = has_form c.index

abbrev pub is_covered_line : ℕ → List Coordinate → List Coordinate → Bool
is_covered_line zero at [] = list_all is_form at
is_covered_line zero at (c ∷ cs) = false
is_covered_line (suc k) at over = true

module _ (setting : Setting) where
  abbrev mutual
    pub is_covered : Statement → Bool
    is_covered (Seq all) = is_covered_block all
    is_covered (For i x kind body) = is_covered body
    is_covered (Let i pick ls) = true
    is_covered (First i a b) = is_covered a && is_covered b
    is_covered (Guard low high body) = is_covered body
    is_covered (Alloc b f places) = true
    is_covered (Fetch b g region) = true
    is_covered (Store b k at e) = is_covered_line k (take (setting.dimensions b) at) (drop (setting.dimensions b) at)
    is_covered (Publish c) = true

    pub is_covered_block : Statements → Bool
    is_covered_block Empty = true
    is_covered_block (Then a rest) = is_covered a && is_covered_block rest
