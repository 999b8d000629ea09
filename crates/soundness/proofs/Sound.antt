-- A sound statement: where what its scope knows is so, its actions are fine, and what is known after it is so.
use Rattle.std.proofs.Common.{◌≡◌, ℕ, ◌+◌, ◌-◌, Bool, true, false, List, [], ◌∷◌, ◌++◌, map, Option, Some, None, refl, sym, ap, ◌∙◌, subst, inl, inr}
use Rattle.std.specs.Prelude.{◌⊎◌, ℤ, IsSome, ◌==◌, ◌||◌, if◌then◌else◌, int_le, flat_map}
use Rattle.tree.specs.declared.value.Value.{Value}
use Rattle.tree.specs.Term.{Term, Number, Name, Call, Minus, Binary, Clamp, Cast, Choice, Terms, End, More, Test, Compares, Fails, Both, Either}
use Rattle.meaning.specs.Names.{same_name, same_point}
use Rattle.plan.specs.Plan.{Statement, Seq, For, Let, First, Guard, Alloc, Fetch, Store, Publish, Statements, Empty, Then}
use Rattle.plan.specs.Symbols.{Symbols, form_value, largest, turns, points}
use Rattle.plan.specs.Rooms.{Room, room, place, same_place}
use Rattle.plan.specs.Lines.{lines}
use Rattle.plan.specs.Semantics.Actions.{Setting, Action, Allot, Take, Put, Change, Give, Target, Fixed, Open, action_for, actions, block_actions, after}
use Rattle.plan.specs.Semantics.Memory.{Memory, read, place_in}
use Rattle.plan.specs.Semantics.Found.{EachRead, EachTestRead, EachReadOfAll}
use Rattle.plan.specs.Semantics.Run.{Source, Input, ByClaim, Unknown}
use Rattle.soundness.specs.Origins.{Origin, origin, Given, Reader, Plain, Within, learn, learn_all, done_for, answer, SourceMayRead, MayRead, left_variables, right_variables, EachTargetRead, AreFine}
use Rattle.soundness.specs.Claims.{status_after, writes, block_writes, is_written, is_elsewhere, all_clear, is_clear, In, changes, block_changes, written, WritesOnly, ClearOf, Fact, Scope, choose_facts, EachTurn, buffer_of, function_of, InFactRegion, InForce, SourceMayUse, MayUse, Earlier, Before, stable, is_updated, advanced, keep, IsMade, AreMade, new_fact, more_rooms, onward, block_left, left, turn_symbols, in_turn, handed_on, IsSoundAction, IsSound, IsSoundBlock}
use Rattle.soundness.proofs.Refines.{same_refl, eq_true, name_true, and_parts}
use Rattle.soundness.proofs.Learned.{point_true, Spares, write_rooms, spares_append, IsSame, same_read, spared, IsKnown, tracked}

pub or_left : (a b : Bool) → (a || b) ≡ false → a ≡ false
or_left true b h = h
or_left false b h = refl

pub or_right : (a b : Bool) → (a || b) ≡ false → b ≡ false
or_right true b h = absurd (cc h)
or_right false b h = h

spares_all : {A : Type 0} (b : ℕ) (f : A → List Action) → ((a : A) → Spares b (f a)) → (xs : List A) → Spares b (flat_map f xs)
spares_all b f h [] = tt
spares_all b f h (x ∷ xs) = spares_append b (f x) (flat_map f xs) (h x) (spares_all b f h xs)

spares_takes : (b c : ℕ) (f : List ℕ) → (c == b) ≡ false → (ps : List (List ℤ)) → Spares b (map (Take c f) ps)
spares_takes b c f h [] = tt
spares_takes b c f h (p ∷ ps) = (h, spares_takes b c f h ps)

spares_gives : (b c : ℕ) (ps : List (List ℤ)) → Spares b (map (Give c) ps)
spares_gives b c [] = tt
spares_gives b c (p ∷ ps) = spares_gives b c ps

spares_store : (v : Bool) (b c : ℕ) (f : List ℕ) (k : ℕ) (names : List (List ℕ)) (at : List Target) (over : List ℤ) (e : Term) → (c == b) ≡ false → Spares b (action_for v c f k names at over e ∷ [])
spares_store true b c f k names at over e h = (h, tt)
spares_store false b c f k names at over e h = (h, tt)

module _ (setting : Setting) where
  -- a buffer that no line changes
  mutual
    pub leaves : (a : Statement) (s : Symbols) (b : ℕ) → changes a b ≡ false → Spares b (actions setting a s)
    leaves (Seq all) s b h = leaves_block all s b h
    leaves (For i x kind body) s b h = spares_all b _ (λ z. leaves body _ b h) (turns s x)
    leaves (Let i pick ls) s b h = tt
    leaves (First i a c) s b h =
        elim (s.first i) as (λ v. Spares b (if v then actions setting a s else actions setting c s)) [ true ↦ leaves a s b (or_left (changes a b) (changes c b) h) | false ↦ leaves c s b (or_right (changes a b) (changes c b) h) ]
    leaves (Guard low high body) s b h =
        elim (int_le (form_value low s) (form_value high s)) as (λ v. Spares b (if v then actions setting body s else [])) [ true ↦ leaves body s b h | false ↦ tt ]
    leaves (Alloc c f places) s b h = (h, tt)
    leaves (Fetch c g region) s b h = spares_takes b c (setting.group_function g) h (points s region)
    leaves (Store c k at e) s b h = spares_store _ b c (setting.buffer_function c) k _ _ _ e h
    leaves (Publish c) s b h = spares_gives b c (setting.own s)

    pub leaves_block : (row : Statements) → (s : Symbols) (b : ℕ) → block_changes row b ≡ false → Spares b (block_actions setting row s)
    leaves_block Empty s b h = tt
    leaves_block (Then a rest) s b h =
        spares_append b (actions setting a s) (block_actions setting rest (after a s)) (leaves a s b (or_left (changes a b) (block_changes rest b) h)) (leaves_block rest (after a s) b (or_right (changes a b) (block_changes rest b) h))

not_both : (v : Bool) → v ≡ true → v ≡ false → ⊥
not_both v h k = cc (h, k)

else_false : (v : Bool) → (if v then false else true) ≡ true → v ≡ false
else_false true h = sym h
else_false false h = refl

-- a buffer that is only written with its function
only_append : (b : ℕ) (f : List ℕ) (xs ys : List Action) → WritesOnly b f xs → WritesOnly b f ys → WritesOnly b f (xs ++ ys)
only_append b f [] ys p q = q
only_append b f (Allot c rooms ∷ later) ys p q = (p.0, only_append b f later ys p.1 q)
only_append b f (Take c g x ∷ later) ys p q = (p.0, only_append b f later ys p.1 q)
only_append b f (Put c g names x e ∷ later) ys p q = (p.0, only_append b f later ys p.1 q)
only_append b f (Change c g k names at over e ∷ later) ys p q = (p.0, only_append b f later ys p.1 q)
only_append b f (Give c x ∷ later) ys p q = only_append b f later ys p q

only_all : {A : Type 0} (b : ℕ) (f : List ℕ) (g : A → List Action) → ((a : A) → WritesOnly b f (g a)) → (xs : List A) → WritesOnly b f (flat_map g xs)
only_all b f g h [] = tt
only_all b f g h (x ∷ xs) = only_append b f (g x) (flat_map g xs) (h x) (only_all b f g h xs)

only_takes : (b : ℕ) (f : List ℕ) (c : ℕ) (g : List ℕ) → ((c == b) ≡ true → g ≡ f) → (ps : List (List ℤ)) → WritesOnly b f (map (Take c g) ps)
only_takes b f c g h [] = tt
only_takes b f c g h (p ∷ ps) = (h, only_takes b f c g h ps)

only_gives : (b : ℕ) (f : List ℕ) (c : ℕ) (ps : List (List ℤ)) → WritesOnly b f (map (Give c) ps)
only_gives b f c [] = tt
only_gives b f c (p ∷ ps) = only_gives b f c ps

when_same : (c b : ℕ) (g f : List ℕ) (v : Bool) → (c == b) ≡ v → (if v then same_name g f else true) ≡ true → (c == b) ≡ true → g ≡ f
when_same c b g f true i h j = name_true g f h
when_same c b g f false i h j = absurd (not_both (c == b) j i)

only_store : (v : Bool) (b : ℕ) (f : List ℕ) (c : ℕ) (g : List ℕ) (k : ℕ) (names : List (List ℕ)) (at : List Target) (over : List ℤ) (e : Term) → ((c == b) ≡ true → g ≡ f) → WritesOnly b f (action_for v c g k names at over e ∷ [])
only_store true b f c g k names at over e h = (h, tt)
only_store false b f c g k names at over e h = (h, tt)

module _ (setting : Setting) where
  mutual
    pub writing : (a : Statement) (s : Symbols) (b : ℕ) (f : List ℕ) → writes setting a b f ≡ true → WritesOnly b f (actions setting a s)
    writing (Seq all) s b f h = writing_block all s b f h
    writing (For i x kind body) s b f h = only_all b f _ (λ z. writing body _ b f h) (turns s x)
    writing (Let i pick ls) s b f h = tt
    writing (First i a c) s b f h =
        elim (s.first i) as (λ v. WritesOnly b f (if v then actions setting a s else actions setting c s)) [ true ↦ writing a s b f (and_parts (writes setting a b f) (writes setting c b f) h).0 | false ↦ writing c s b f (and_parts (writes setting a b f) (writes setting c b f) h).1 ]
    writing (Guard low high body) s b f h =
        elim (int_le (form_value low s) (form_value high s)) as (λ v. WritesOnly b f (if v then actions setting body s else [])) [ true ↦ writing body s b f h | false ↦ tt ]
    writing (Alloc c g places) s b f h = (else_false (c == b) h, tt)
    writing (Fetch c g region) s b f h = only_takes b f c (setting.group_function g) (when_same c b (setting.group_function g) f (c == b) refl h) (points s region)
    writing (Store c k at e) s b f h = only_store _ b f c (setting.buffer_function c) k _ _ _ e (when_same c b (setting.buffer_function c) f (c == b) refl h)
    writing (Publish c) s b f h = only_gives b f c (setting.own s)

    pub writing_block : (row : Statements) → (s : Symbols) (b : ℕ) (f : List ℕ) → block_writes setting row b f ≡ true → WritesOnly b f (block_actions setting row s)
    writing_block Empty s b f h = tt
    writing_block (Then a rest) s b f h =
        only_append b f (actions setting a s) (block_actions setting rest (after a s)) (writing a s b f (and_parts (writes setting a b f) (block_writes setting rest b f) h).0) (writing_block rest (after a s) b f (and_parts (writes setting a b f) (block_writes setting rest b f) h).1)

pub or_cases : (a b : Bool) → (a || b) ≡ true → (a ≡ true) ⊎ (b ≡ true)
or_cases true b h = inl refl
or_cases false b h = inr h

elsewhere_apart : (a b : Option (List ℕ)) → is_elsewhere a b ≡ true → a ≡ b → ⊥
elsewhere_apart None None h e = cc h
elsewhere_apart None (Some q) h e = cc e
elsewhere_apart (Some p) None h e = cc e
elsewhere_apart (Some p) (Some q) h e =
    let same : p ≡ q = cc in
    let yes_same : same_place p q ≡ true = ap (same_place p) (sym same) ∙ same_refl p in
    not_both (same_place p q) yes_same (else_false (same_place p q) h)

-- the test means what it says
clear_means : (rs : List Room) (p : List ℤ) (xs : List (List ℤ)) → all_clear rs p xs ≡ true → ClearOf (Some rs) p xs
clear_means rs p [] h x m e = absurd m
clear_means rs p (y ∷ ys) h x (inr m) e = clear_means rs p ys (and_parts (same_point p y || is_elsewhere (place rs p) (place rs y)) (all_clear rs p ys) h).1 x m e
clear_means rs p (y ∷ ys) h x (inl k) e =
    of (or_cases (same_point p y) (is_elsewhere (place rs p) (place rs y)) (and_parts (same_point p y || is_elsewhere (place rs p) (place rs y)) (all_clear rs p ys) h).0)
  where
    of : (same_point p y ≡ true) ⊎ (is_elsewhere (place rs p) (place rs y) ≡ true) → p ≡ x
    of (inl s) = point_true p y s ∙ sym k
    of (inr s) = absurd (elsewhere_apart (place rs p) (place rs y) s (e ∙ ap (place rs) k))

pub learn_append : (given : Given) (xs ys : List Action) (t : Memory Origin) → learn_all given (xs ++ ys) t ≡ learn_all given ys (learn_all given xs t)
learn_append given [] ys t = refl
learn_append given (x ∷ xs) ys t = learn_append given xs ys (learn given x t)

pub fine_append : (given : Given) (xs ys : List Action) (t : Memory Origin) → AreFine given xs t → AreFine given ys (learn_all given xs t) → AreFine given (xs ++ ys) t
fine_append given [] ys t p q = q
fine_append given (x ∷ xs) ys t p q = (p.0, fine_append given xs ys (learn given x t) p.1 q)

module _ (given : Given) where
  -- memory is known to be what a claim in force says
  abbrev pub FactHolds : Memory Origin → Fact → Type 0
  FactHolds t h = (p : List ℤ) → InFactRegion given h p → IsKnown t (buffer_of given h) (function_of given h) p (h.done p)

  abbrev pub AllHold : Memory Origin → List Fact → Type 0
  AllHold t [] = Unit {0}
  AllHold t (h ∷ hs) = FactHolds t h × AllHold t hs

  pub record Fits (rooms : ℕ → Option (List Room)) (facts : List Fact) (t : Memory Origin) : Type 0 where
    pub has : (b : ℕ) (rs : List Room) → rooms b ≡ Some rs → t.rooms b ≡ Some rs
    pub hold : AllHold t facts

  -- what a sound statement does: its actions are fine, the buffers in scope stay, and what is left at its end holds
  pub record Runs (rooms : ℕ → Option (List Room)) (facts : List Fact) (todo : List Action) (t : Memory Origin) : Type 0 where
    pub fine : AreFine given todo t
    pub has : (b : ℕ) (rs : List Room) → rooms b ≡ Some rs → (learn_all given todo t).rooms b ≡ Some rs
    pub hold : AllHold (learn_all given todo t) facts

  known_some : (t : Memory Origin) (b : ℕ) (f : List ℕ) (p : List ℤ) (st : Option ℕ) (d : ℕ) → st ≡ Some d → IsKnown t b f p st → read t b p ≡ Some (origin f d p)
  known_some t b f p st d e k = let P : Option ℕ → Type 0 = λ o. IsKnown t b f p o in subst P e k

  in_force : (t : Memory Origin) (hs : List Fact) (c : ℕ) (p : List ℤ) (d : ℕ) → AllHold t hs → InForce given hs c p d → read t (given.outline.claim c).buffer p ≡ Some (origin (given.outline.claim c).function d p)
  in_force t [] c p d all m = absurd m
  in_force t (h ∷ hs) c p d all (inl e) =
      subst (λ n. read t (given.outline.claim n).buffer p ≡ Some (origin (given.outline.claim n).function d p)) e.0 (known_some t _ _ p (h.done p) d e.2 (all.0 p e.1))
  in_force t (h ∷ hs) c p d all (inr m) = in_force t hs c p d all.1 m

  earlier : (t : Memory Origin) (hs : List Fact) (b : ℕ) (f : List ℕ) (p : List ℤ) (d : ℕ) → AllHold t hs → Earlier given hs b f p d → read t b p ≡ Some (origin f d p)
  earlier t [] b f p d all m = absurd m
  earlier t (h ∷ hs) b f p d all (inl e) =
      let k : read t (buffer_of given h) p ≡ Some (origin (function_of given h) d p) = known_some t _ _ p (h.done p) d e.3 (all.0 p e.2) in
      ap (λ c. read t c p) (sym e.0) ∙ k ∙ ap (λ g. Some (origin g d p)) e.1
  earlier t (h ∷ hs) b f p d all (inr m) = earlier t hs b f p d all.1 m

  before : (t : Memory Origin) (hs : List Fact) (b : ℕ) (f : List ℕ) (p : List ℤ) (st : Option ℕ) → AllHold t hs → Before given hs b f p st → IsKnown t b f p st
  before t hs b f p None all m = tt
  before t hs b f p (Some d) all m = earlier t hs b f p d all m

  hold_append : (t : Memory Origin) (xs ys : List Fact) → AllHold t xs → AllHold t ys → AllHold t (xs ++ ys)
  hold_append t [] ys p q = q
  hold_append t (x ∷ xs) ys p q = (p.0, hold_append t xs ys p.1 q)

  hold_choose_one : (v : Bool) (t : Memory Origin) (h : Fact) (hs : List Fact) → FactHolds t h → AllHold t hs → AllHold t (if v then h ∷ hs else hs)
  hold_choose_one true t h hs p q = (p, q)
  hold_choose_one false t h hs p q = q

  hold_choose : (test : Fact → Bool) (t : Memory Origin) (hs : List Fact) → AllHold t hs → AllHold t (choose_facts test hs)
  hold_choose test t [] all = tt
  hold_choose test t (h ∷ hs) all = hold_choose_one (test h) t h (choose_facts test hs) all.0 (hold_choose test t hs all.1)

  same_known : (t u : Memory Origin) (b : ℕ) (f : List ℕ) (p : List ℤ) (st : Option ℕ) → IsSame b u t → IsKnown t b f p st → IsKnown u b f p st
  same_known t u b f p None e k = tt
  same_known t u b f p (Some d) e k = same_read b u t p e ∙ k

  stable_one : (v : Bool) (t u : Memory Origin) (h : Fact) (hs : List Fact) → (v ≡ false → IsSame (buffer_of given h) u t) → (AllHold t hs → AllHold u hs) →
      AllHold t (if (if v then false else true) then h ∷ hs else hs) → AllHold u (if (if v then false else true) then h ∷ hs else hs)
  stable_one true t u h hs same rest all = rest all
  stable_one false t u h hs same rest all = ((λ p m. same_known t u _ _ p (h.done p) (same refl) (all.0 p m)), rest all.1)

  -- the claims of buffers that a statement leaves alone
  stay_stable : (a : Statement) (t u : Memory Origin) (hs : List Fact) → ((b : ℕ) → changes a b ≡ false → IsSame b u t) → AllHold t (stable given a hs) → AllHold u (stable given a hs)
  stay_stable a t u [] same all = tt
  stay_stable a t u (h ∷ hs) same all =
      stable_one (changes a (buffer_of given h)) t u h (stable given a hs) (same (buffer_of given h)) (stay_stable a t u hs same) all

  -- the claims of buffers that a statement fills or updates
  advance_one : (a : Statement) (s : Symbols) (t : Memory Origin) (rooms : ℕ → Option (List Room)) (h : Fact) → ((b : ℕ) (rs : List Room) → rooms b ≡ Some rs → t.rooms b ≡ Some rs) → is_written given a h ≡ true → AreFine given (actions given.outline.setting a s) t → FactHolds t h → FactHolds (learn_all given (actions given.outline.setting a s) t) (advanced given (actions given.outline.setting a s) rooms h)
  advance_one a s t rooms h has only_writes fine fact = λ p m.
      point p (fact p m) (rooms (buffer_of given h)) (has (buffer_of given h))
    where
      b : ℕ
      b = buffer_of given h

      f : List ℕ
      f = function_of given h

      point : (p : List ℤ) → IsKnown t (buffer_of given h) (function_of given h) p (h.done p) → (o : Option (List Room)) → ((rs : List Room) → o ≡ Some rs → t.rooms (buffer_of given h) ≡ Some rs) →
          IsKnown (learn_all given (actions given.outline.setting a s) t) (buffer_of given h) (function_of given h) p (if is_clear o p (written (buffer_of given h) (actions given.outline.setting a s)) then status_after given (buffer_of given h) p (actions given.outline.setting a s) (h.done p) else None)
      point p known None r = tt
      point p known (Some rs) r = choice (all_clear rs p (written (buffer_of given h) (actions given.outline.setting a s))) refl
        where
          choice : (v : Bool) → all_clear rs p (written (buffer_of given h) (actions given.outline.setting a s)) ≡ v → IsKnown (learn_all given (actions given.outline.setting a s) t) (buffer_of given h) (function_of given h) p (if v then status_after given (buffer_of given h) p (actions given.outline.setting a s) (h.done p) else None)
          choice true e =
              tracked given (actions given.outline.setting a s) (buffer_of given h) (function_of given h) p t (h.done p) known fine
              (writing given.outline.setting a s (buffer_of given h) (function_of given h) (and_parts (changes a (buffer_of given h)) (writes given.outline.setting a (buffer_of given h) (function_of given h)) only_writes).1)
              (subst (λ o. ClearOf o p (written (buffer_of given h) (actions given.outline.setting a s))) (sym (r rs refl)) (clear_means rs p _ e))
          choice false e = tt

  advance_choice : (v : Bool) (t : Memory Origin) (g : Fact → Fact) (h : Fact) (hs : List Fact) → (v ≡ true → FactHolds t (g h)) → AllHold t (map g hs) → AllHold t (map g (if v then h ∷ hs else hs))
  advance_choice true t g h hs p q = (p refl, q)
  advance_choice false t g h hs p q = q

  advance : (a : Statement) (s : Symbols) (t : Memory Origin) (rooms : ℕ → Option (List Room)) (hs : List Fact) → ((b : ℕ) (rs : List Room) → rooms b ≡ Some rs → t.rooms b ≡ Some rs) → AreFine given (actions given.outline.setting a s) t → AllHold t hs → AllHold (learn_all given (actions given.outline.setting a s) t) (map (advanced given (actions given.outline.setting a s) rooms) (choose_facts (is_written given a) hs))
  advance a s t rooms [] has fine all = tt
  advance a s t rooms (h ∷ hs) has fine all =
      advance_choice (is_written given a h) (learn_all given (actions given.outline.setting a s) t) (advanced given (actions given.outline.setting a s) rooms) h (choose_facts (is_written given a) hs) (λ k. advance_one a s t rooms h has k fine all.0) (advance a s t rooms hs has fine all.1)

  kept : (a : Statement) (s : Symbols) (t : Memory Origin) (rooms : ℕ → Option (List Room)) (hs : List Fact) → ((b : ℕ) (rs : List Room) → rooms b ≡ Some rs → t.rooms b ≡ Some rs) → AreFine given (actions given.outline.setting a s) t → AllHold t hs → AllHold (learn_all given (actions given.outline.setting a s) t) (keep given a (actions given.outline.setting a s) rooms hs)
  kept a s t rooms hs has fine all =
      hold_append (learn_all given (actions given.outline.setting a s) t) (map (advanced given (actions given.outline.setting a s) rooms) (choose_facts (is_written given a) hs)) (stable given a hs) (advance a s t rooms hs has fine all)
      (stay_stable a t (learn_all given (actions given.outline.setting a s) t) hs (λ b e. spared given b (actions given.outline.setting a s) t (leaves given.outline.setting a s b e)) (hold_choose _ t hs all))

  inside : (rooms : ℕ → Option (List Room)) (t : Memory Origin) (b : ℕ) (p : List ℤ) → ((rs : List Room) → rooms b ≡ Some rs → t.rooms b ≡ Some rs) → IsSome (place_in (rooms b) p) → IsSome (place_in (t.rooms b) p)
  inside rooms t b p has = at (rooms b) refl
    where
      at : (o : Option (List Room)) → rooms b ≡ o → IsSome (place_in o p) → IsSome (place_in (t.rooms b) p)
      at None e h = absurd (cc h)
      at (Some rs) e h = subst (λ r. IsSome (place_in r p)) (sym (has rs e)) h

  -- a claim that is made is so
  made : (c : ℕ) (todo : List Action) (sc : Scope) (t : Memory Origin) → Fits sc.rooms sc.facts t → AreFine given todo t → IsMade given c todo sc → FactHolds (learn_all given todo t) (new_fact given sc.symbols c)
  made c todo sc t fits fine h = λ p m.
      let k = h.covers p m in
      known_now p (tracked given todo (given.outline.claim c).buffer (given.outline.claim c).function p t k.0 (before t sc.facts _ _ p k.0 fits.hold k.1) fine h.only (subst (λ r. ClearOf r p (written (given.outline.claim c).buffer todo)) same (h.clear p m))) k.2
    where
      at : (o : Option (List Room)) → sc.rooms (given.outline.claim c).buffer ≡ o → IsSome o → sc.rooms (given.outline.claim c).buffer ≡ t.rooms (given.outline.claim c).buffer
      at None e some = absurd (cc some)
      at (Some rs) e some = e ∙ sym (fits.has (given.outline.claim c).buffer rs e)

      same : sc.rooms (given.outline.claim c).buffer ≡ t.rooms (given.outline.claim c).buffer
      same = at (sc.rooms (given.outline.claim c).buffer) refl h.has_room

      known_now : (p : List ℤ) → {st : Option ℕ} → IsKnown (learn_all given todo t) (given.outline.claim c).buffer (given.outline.claim c).function p st → st ≡ Some (given.steps (given.outline.claim c).function (given.outline.claim c).definition) → read (learn_all given todo t) (given.outline.claim c).buffer p ≡ Some (origin (given.outline.claim c).function (given.steps (given.outline.claim c).function (given.outline.claim c).definition) p)
      known_now p {st} k e = known_some (learn_all given todo t) _ _ p st _ e k

  all_made : (cs : List ℕ) (todo : List Action) (sc : Scope) (t : Memory Origin) → Fits sc.rooms sc.facts t → AreFine given todo t → AreMade given cs todo sc → AllHold (learn_all given todo t) (map (new_fact given sc.symbols) cs)
  all_made [] todo sc t fits fine h = tt
  all_made (c ∷ cs) todo sc t fits fine h = (made c todo sc t fits fine h.0, all_made cs todo sc t fits fine h.1)

  source_may_use : (t : Memory Origin) (hs : List Fact) (r : Reader) → AllHold t hs → (k : Source) (p : List ℤ) → SourceMayUse given hs r k p → SourceMayRead given t r k p
  source_may_use t hs r all Input p h = h
  source_may_use t hs r all (ByClaim c) p h = in_force t hs c p (done_for given r c) all h
  source_may_use t hs r all Unknown p h = h

  may_use : (t : Memory Origin) (hs : List Fact) (r : Reader) → AllHold t hs → (name : List ℕ) (p : List ℤ) → MayUse given hs r name p → MayRead given t r name p
  may_use t hs r all name p h = source_may_use t hs r all (given.outline.source name) p h

  module _ (variables : List ℕ → ℤ) (ans : List ℕ → List ℤ → Value) (P Q : List ℕ → List ℤ → Type 0) (h : (name : List ℕ) (p : List ℤ) → P name p → Q name p) where
    mutual
      pub each_read : (e : Term) → EachRead variables ans P e → EachRead variables ans Q e
      each_read (Number n z) r = r
      each_read (Name name) r = r
      each_read (Call name at) r = (h name _ r.0, each_of_all at r.1)
      each_read (Minus a) r = each_read a r
      each_read (Binary op a b) r = (each_read a r.0, each_read b r.1)
      each_read (Clamp a l u) r = (each_read a r.0, each_read l r.1, each_read u r.2)
      each_read (Cast n a) r = each_read a r
      each_read (Choice c a b) r = (each_test c r.0, each_read a r.1, each_read b r.2)

      pub each_test : (c : Test) → EachTestRead variables ans P c → EachTestRead variables ans Q c
      each_test (Compares by a b) r = (each_read a r.0, each_read b r.1)
      each_test (Fails c) r = each_test c r
      each_test (Both c d) r = (each_test c r.0, each_test d r.1)
      each_test (Either c d) r = (each_test c r.0, each_test d r.1)

      pub each_of_all : (at : Terms) → EachReadOfAll variables ans P at → EachReadOfAll variables ans Q at
      each_of_all End r = r
      each_of_all (More a rest) r = (each_read a r.0, each_of_all rest r.1)

  each_target : (variables : List ℕ → ℤ) (at : List Target) (r : Reader) (P Q : List ℕ → List ℤ → Type 0) → ((name : List ℕ) (p : List ℤ) → P name p → Q name p) → EachTargetRead given variables at r P → EachTargetRead given variables at r Q
  each_target variables [] r P Q h k = tt
  each_target variables (Fixed z ∷ ts) r P Q h k = each_target variables ts r P Q h k
  each_target variables (Open e ∷ ts) r P Q h k = (each_read variables (answer given r) P Q h e k.0, each_target variables ts r P Q h k.1)

  fine_takes : (t : Memory Origin) (b : ℕ) (f : List ℕ) (ps : List (List ℤ)) → ((p : List ℤ) → In p ps → IsSome (place_in (t.rooms b) p)) → AreFine given (map (Take b f) ps) t
  fine_takes t b f [] h = tt
  fine_takes t b f (p ∷ ps) h = (
    h p (inl refl),
    fine_takes (learn given (Take b f p) t) b f ps (λ q m. subst (λ r. IsSome (place_in r q)) (sym (write_rooms b b t p (origin f (given.all_steps f) p))) (h q (inr m))),
  )

  rooms_takes : (t : Memory Origin) (c b : ℕ) (f : List ℕ) (ps : List (List ℤ)) → (learn_all given (map (Take b f) ps) t).rooms c ≡ t.rooms c
  rooms_takes t c b f [] = refl
  rooms_takes t c b f (p ∷ ps) = rooms_takes (learn given (Take b f p) t) c b f ps ∙ write_rooms c b t p (origin f (given.all_steps f) p)

  fine_gives : (t : Memory Origin) (c : ℕ) (ps : List (List ℤ)) → ((p : List ℤ) → In p ps → SourceMayRead given t Plain (ByClaim c) p) → AreFine given (map (Give c) ps) t
  fine_gives t c [] h = tt
  fine_gives t c (p ∷ ps) h = (h p (inl refl), fine_gives t c ps (λ q m. h q (inr m)))

  rooms_gives : (t : Memory Origin) (c b : ℕ) (ps : List (List ℤ)) → (learn_all given (map (Give b) ps) t).rooms c ≡ t.rooms c
  rooms_gives t c b [] = refl
  rooms_gives t c b (p ∷ ps) = rooms_gives t c b ps

  nothing : (rooms : ℕ → Option (List Room)) (t : Memory Origin) (facts : List Fact) → Fits rooms facts t → Runs rooms [] [] t
  nothing rooms t facts fits = record { fine = tt; has = fits.has; hold = tt }

  -- one after the other
  both : (rooms : ℕ → Option (List Room)) (facts : List Fact) (xs ys : List Action) (t : Memory Origin) → AreFine given xs t → Runs rooms facts ys (learn_all given xs t) → Runs rooms facts (xs ++ ys) t
  both rooms facts xs ys t fine h = record {
    fine = fine_append given xs ys t fine h.fine;
    has = λ b rs e. ap (λ u. u.rooms b) (learn_append given xs ys t) ∙ h.has b rs e;
    hold = let P : Memory Origin → Type 0 = λ u. AllHold u facts in subst P (sym (learn_append given xs ys t)) h.hold;
  }

  -- what is handed on is no matter after the last turn
  forget : (rooms : ℕ → Option (List Room)) (facts : List Fact) (todo : List Action) (t : Memory Origin) → Runs rooms facts todo t → Runs rooms [] todo t
  forget rooms facts todo t h = record { fine = h.fine; has = h.has; hold = tt }

  -- the turns of a loop
  loop : (body : Statement) (i : ℕ) (rooms : ℕ → Option (List Room)) (facts : List Fact) (of : ℤ → Symbols) (P : ℤ → List Fact → Type 0) (end : ℤ → List Fact → List Fact) →
      ((z : ℤ) (carried : List Fact) (t : Memory Origin) → P z carried → Fits rooms (carried ++ stable given body facts) t → Runs rooms (end z carried) (actions given.outline.setting body (of z)) t) →
      (zs : List ℤ) (carried : List Fact) (t : Memory Origin) → EachTurn P (λ z c. handed_on given i body (end z c)) carried zs → AllHold t carried → AllHold t (stable given body facts) → ((b : ℕ) (rs : List Room) → rooms b ≡ Some rs → t.rooms b ≡ Some rs) →
      Runs rooms [] (flat_map (λ z. actions given.outline.setting body (of z)) zs) t
  loop body i rooms facts of P end turn [] carried t h now still has = record { fine = tt; has = has; hold = tt }
  loop body i rooms facts of P end turn (z ∷ zs) carried t h now still has =
      let first = turn z carried t h.0 (record { has = has; hold = hold_append t carried _ now still }) in
      let u = learn_all given (actions given.outline.setting body (of z)) t in
      both rooms [] (actions given.outline.setting body (of z)) _ t first.fine
      (loop body i rooms facts of P end turn zs (handed_on given i body (end z carried)) u h.1
      (hold_choose _ u (end z carried) first.hold)
      (stay_stable body t u facts (λ b e. spared given b (actions given.outline.setting body (of z)) t (leaves given.outline.setting body (of z) b e)) still)
      first.has)

  chosen : (v : Bool) (rooms : ℕ → Option (List Room)) (xs ys : List Action) (t : Memory Origin) → (v ≡ true → Runs rooms [] xs t) → (v ≡ false → Runs rooms [] ys t) → Runs rooms [] (if v then xs else ys) t
  chosen true rooms xs ys t p q = p refl
  chosen false rooms xs ys t p q = q refl

  store_rooms : (v : Bool) (b c : ℕ) (f : List ℕ) (k : ℕ) (names : List (List ℕ)) (at : List Target) (over : List ℤ) (e : Term) (t : Memory Origin) → (learn_all given (action_for v c f k names at over e ∷ []) t).rooms b ≡ t.rooms b
  store_rooms true b c f k names at over e t = write_rooms b c t _ (origin f 0 _)
  store_rooms false b c f k names at over e t = refl

  sound_store : (v : Bool) (c : ℕ) (f : List ℕ) (k : ℕ) (names : List (List ℕ)) (at : List Target) (over : List ℤ) (e : Term) (sc : Scope) (t : Memory Origin) → IsSoundAction given (action_for v c f k names at over e) sc → Fits sc.rooms sc.facts t → AreFine given (action_for v c f k names at over e ∷ []) t
  sound_store true c f k names at over e sc t h fits =
      ((inside sc.rooms t c _ (fits.has c) h.0, each_read _ (answer given Plain) (MayUse given sc.facts Plain) (MayRead given t Plain) (may_use t sc.facts Plain fits.hold) e h.1), tt)
  sound_store false c f k names at over e sc t h fits =
      let r = Within f (given.step_at f k over) in (
        (
          h.0,
          earlier t sc.facts c f _ _ fits.hold h.1,
          each_target (left_variables given names at over) at r (MayUse given sc.facts r) (MayRead given t r) (may_use t sc.facts r fits.hold) h.2,
          each_read (right_variables given names at over r) (answer given r) (MayUse given sc.facts r) (MayRead given t r) (may_use t sc.facts r fits.hold) e h.3,
        ),
        tt,
      )

  -- the buffers in scope stay in scope
  grows : (a : Statement) (line : ℕ) (sc : Scope) → IsSound given a line sc → (b : ℕ) (rs : List Room) → sc.rooms b ≡ Some rs → more_rooms given a sc b ≡ Some rs
  grows (Alloc c f places) line sc fresh b rs e = at (b == c) refl
    where
      at : (v : Bool) → (b == c) ≡ v → (if v then Some (map (room sc.symbols) places) else sc.rooms b) ≡ Some rs
      at true k = let bc : b ≡ c = eq_true b c k in let none : sc.rooms b ≡ None = ap sc.rooms bc ∙ fresh in absurd (cc (none, e))
      at false k = e
  grows _ line sc sound b rs e = e

  -- and those of a new scope are there
  has_rooms : (a : Statement) (sc : Scope) (t : Memory Origin) → ((b : ℕ) (rs : List Room) → sc.rooms b ≡ Some rs → t.rooms b ≡ Some rs) → ((b : ℕ) (rs : List Room) → sc.rooms b ≡ Some rs → (learn_all given (actions given.outline.setting a sc.symbols) t).rooms b ≡ Some rs) → (b : ℕ) (rs : List Room) → more_rooms given a sc b ≡ Some rs → (learn_all given (actions given.outline.setting a sc.symbols) t).rooms b ≡ Some rs
  has_rooms (Alloc c f places) sc t has runs b rs e = at (b == c) e
    where
      at : (v : Bool) → (if v then Some (map (room sc.symbols) places) else sc.rooms b) ≡ Some rs → (if v then Some (map (room sc.symbols) places) else t.rooms b) ≡ Some rs
      at true k = k
      at false k = has b rs k
  has_rooms _ sc t has runs b rs e = runs b rs e

  -- a statement that is no block leaves what it keeps
  keeping : (a : Statement) (sc : Scope) (t : Memory Origin) → Fits sc.rooms sc.facts t → Runs sc.rooms [] (actions given.outline.setting a sc.symbols) t → Runs sc.rooms (keep given a (actions given.outline.setting a sc.symbols) sc.rooms sc.facts) (actions given.outline.setting a sc.symbols) t
  keeping a sc t fits h = record { fine = h.fine; has = h.has; hold = kept a sc.symbols t sc.rooms sc.facts fits.has h.fine fits.hold }

  mutual
    pub sound : (a : Statement) (line : ℕ) (sc : Scope) (t : Memory Origin) → IsSound given a line sc → Fits sc.rooms sc.facts t → Runs sc.rooms (left given a line sc) (actions given.outline.setting a sc.symbols) t
    sound (Seq all) line sc t h fits = sound_block all line sc t h fits
    sound (For i x kind body) line sc t h fits =
        keeping (For i x kind body) sc t fits (loop body i sc.rooms sc.facts (turn_symbols given sc.symbols i (largest sc.symbols x.lower)) _ _
        (λ z carried u s k. sound body (line + 1) (in_turn given (turn_symbols given sc.symbols i (largest sc.symbols x.lower) z) body sc carried) u s k)
        (turns sc.symbols x) (choose_facts (is_updated given body) sc.facts) t h
        (hold_choose (is_updated given body) t sc.facts fits.hold) (hold_choose _ t sc.facts fits.hold) fits.has)
    sound (Let i pick ls) line sc t h fits =
        keeping (Let i pick ls) sc t fits (nothing sc.rooms t sc.facts fits)
    sound (First i a c) line sc t h fits =
        keeping (First i a c) sc t fits (chosen (sc.symbols.first i) sc.rooms (actions given.outline.setting a sc.symbols) (actions given.outline.setting c sc.symbols) t (λ e. forget sc.rooms _ _ t (sound a (line + 1) sc t (h.0 e) fits)) (λ e. forget sc.rooms _ _ t (sound c (line + 2 + lines a) sc t (h.1 e) fits)))
    sound (Guard low high body) line sc t h fits =
        keeping (Guard low high body) sc t fits (chosen (int_le (form_value low sc.symbols) (form_value high sc.symbols)) sc.rooms (actions given.outline.setting body sc.symbols) [] t (λ e. forget sc.rooms _ _ t (sound body (line + 1) sc t (h e) fits)) (λ e. nothing sc.rooms t sc.facts fits))
    sound (Alloc c f places) line sc t h fits =
        keeping (Alloc c f places) sc t fits (record { fine = (tt, tt); has = λ b rs e. at b rs e (b == c) refl; hold = tt })
      where
        at : (b : ℕ) (rs : List Room) → sc.rooms b ≡ Some rs → (v : Bool) → (b == c) ≡ v → (if v then Some (map (room sc.symbols) places) else t.rooms b) ≡ Some rs
        at b rs e true k = let bc : b ≡ c = eq_true b c k in let none : sc.rooms b ≡ None = ap sc.rooms bc ∙ h in absurd (cc (none, e))
        at b rs e false k = fits.has b rs e
    sound (Fetch c g region) line sc t h fits =
        keeping (Fetch c g region) sc t fits (let ps = points sc.symbols region in
        record {
          fine = fine_takes t c (given.outline.setting.group_function g) ps (λ p m. inside sc.rooms t c p (fits.has c) (h p m));
          has = λ b rs e. rooms_takes t b c (given.outline.setting.group_function g) ps ∙ fits.has b rs e;
          hold = tt;
        })
    sound (Store c k at e) line sc t h fits =
        keeping (Store c k at e) sc t fits (record {
          fine = sound_store _ c (given.outline.setting.buffer_function c) k _ _ _ e sc t h fits;
          has = λ b rs q. store_rooms _ b c (given.outline.setting.buffer_function c) k _ _ _ e t ∙ fits.has b rs q;
          hold = tt;
        })
    sound (Publish c) line sc t h fits =
        keeping (Publish c) sc t fits (let ps = given.outline.setting.own sc.symbols in
        record {
          fine = fine_gives t c ps (λ p m. in_force t sc.facts c p _ fits.hold (h p m));
          has = λ b rs e. rooms_gives t b c ps ∙ fits.has b rs e;
          hold = tt;
        })

    pub sound_block : (row : Statements) → (line : ℕ) (sc : Scope) (t : Memory Origin) → IsSoundBlock given row line sc → Fits sc.rooms sc.facts t → Runs sc.rooms (block_left given row line sc) (block_actions given.outline.setting row sc.symbols) t
    sound_block Empty line sc t h fits = record { fine = tt; has = fits.has; hold = fits.hold }
    sound_block (Then a rest) line sc t h fits =
        let first = sound a line sc t h.0 fits in
        let todo = actions given.outline.setting a sc.symbols in
        let u = learn_all given todo t in
        let next : Fits (onward given a line sc).rooms (onward given a line sc).facts u = record {
          has = has_rooms a sc t fits.has first.has;
          hold = hold_append u (map (new_fact given sc.symbols) (given.outline.named (line + lines a - 1))) (keep given a todo sc.rooms sc.facts)
              (all_made (given.outline.named (line + lines a - 1)) todo sc t fits first.fine h.1)
              (kept a sc.symbols t sc.rooms sc.facts fits.has first.fine fits.hold);
        } in
        let later = sound_block rest (line + lines a) (onward given a line sc) u h.2 next in
        both sc.rooms _ todo (block_actions given.outline.setting rest (after a sc.symbols)) t first.fine (record {
          fine = later.fine;
          has = λ b rs e. later.has b rs (grows a line sc h.0 b rs e);
          hold = later.hold;
        })
