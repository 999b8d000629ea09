-- Stores: what their actions do, and the points where they write.
use Rattle.std.proofs.Common.{◌≡◌, ℕ, zero, suc, ◌+◌, ◌<◌, List, [], ◌∷◌, ◌++◌, map, take, drop, length, get_or, drop-cons, add-one, Bool, true, false, Option, Some, None, refl, sym, ap, ◌∙◌, append_assoc, ℤ}
use Rattle.std.proofs.lemmas.List.{append-nil}
use Rattle.tree.specs.declared.value.Value.{Value}
use Rattle.tree.specs.Term.{Term}
use Rattle.meaning.specs.Names.{bound}
use Rattle.plan.specs.declared.stmt.Coordinate.{Coordinate as CodeCoordinate}
use Rattle.plan.specs.Plan.{Coordinate}
use Rattle.plan.specs.View.{coordinate_of}
use Rattle.plan.specs.Symbols.{Symbols}
use Rattle.plan.specs.Semantics.Actions.{Target, Fixed, Open, target, fixed, are_fixed, is_pure_store, action_for, store_action, stored}
use Rattle.plan.specs.Semantics.Found.{with, found}
use Rattle.plan.specs.Semantics.Memory.{Memory, write}
use Rattle.plan.specs.Semantics.Run.{Around, look, found_target, act}
use Rattle.std.proofs.lemmas.List.{take-map, map-append, take-append-drop}
use Rattle.std.specs.List.{drop-map}
use Rattle.std.specs.Prelude.{string_bytes}
use Rattle.plan.specs.Semantics.Run.{Source, Input, ByClaim, Unknown, look_at}
use Rattle.interpreter.specs.Pieces.{around, no_cells, setting}
use Rattle.interpreter.specs.declared.piece.Piece.{Piece}
use Rattle.interpreter.specs.Steps.{Progress, steps}
use Rattle.interpreter.specs.Targets.{target_of, known_number, target_number}
use Rattle.interpreter.proofs.Ending.{with_some}

module _ (A : Around) where
  -- what an update does to memory
  abbrev pub changed : List (List ℕ) → List Target → List ℤ → Term → ℕ → Memory Value → Option (Memory Value)
  changed names at over e b m = with (found_target A (bound names (map fixed at ++ over)) at m) (λ p. with (found (bound names (p ++ over)) (look A m) e) (λ v. write m b p v))

  pub fixed_found : (variables : List ℕ → ℤ) (at : List Target) (m : Memory Value) → are_fixed at ≡ true → found_target A variables at m ≡ Some (map fixed at)
  fixed_found variables [] m h = refl
  fixed_found variables (Fixed z ∷ ts) m h = ap (λ (o : Option (List ℤ)). with o (λ zs. Some (z ∷ zs))) (fixed_found variables ts m h)
  fixed_found variables (Open e ∷ ts) m h = absurd (cc)

  pure_acts : (t : Bool) (b : ℕ) (f : List ℕ) (k : ℕ) (names : List (List ℕ)) (at : List Target) (e : Term) (m : Memory Value) → are_fixed at ≡ t →
      act A (action_for t b f k names at [] e) m ≡ changed names at [] e b m
  pure_acts true b f k names at e m h =
      ap (λ (p : List ℤ). with (found (bound names p) (look A m) e) (λ v. write m b (map fixed at) v)) (sym (append-nil (map fixed at)))
      ∙ ap (λ (o : Option (List ℤ)). with o (λ p. with (found (bound names (p ++ [])) (look A m) e) (λ v. write m b p v))) (sym (fixed_found (bound names (map fixed at ++ [])) at m h))
  pure_acts false b f k names at e m h = refl

  -- a pure definition's store does what an update's does
  acts : (b : ℕ) (f : List ℕ) (k : ℕ) (names : List (List ℕ)) (at : List Target) (over : List ℤ) (e : Term) (m : Memory Value) →
      act A (store_action b f k names at over e) m ≡ changed names at over e b m
  acts b f zero names at [] e m = pure_acts (are_fixed at) b f 0 names at e m refl
  acts b f zero names at (z ∷ zs) e m = refl
  acts b f (suc k) names at over e m = refl

  steps_once : (t : Bool) (b : ℕ) (f : List ℕ) (k : ℕ) (names : List (List ℕ)) (at : List Target) (over : List ℤ) (e : Term) (x : Progress) →
      steps A (action_for t b f k names at over e ∷ []) x ≡ with (act A (action_for t b f k names at over e) x.memory) (λ m. Some (record { memory = m; given = x.given }))
  steps_once true b f k names at over e x = with_some _
  steps_once false b f k names at over e x = with_some _

  pub steps_store : (b : ℕ) (f : List ℕ) (k : ℕ) (names : List (List ℕ)) (at : List Target) (over : List ℤ) (e : Term) (x : Progress) →
      steps A (store_action b f k names at over e ∷ []) x ≡ with (changed names at over e b x.memory) (λ m. Some (record { memory = m; given = x.given }))
  steps_store b f k names at over e x =
      steps_once (is_pure_store k at over) b f k names at over e x
      ∙ ap (λ (o : Option (Memory Value)). with o (λ m. Some (record { memory = m; given = x.given }))) (acts b f k names at over e x.memory)

  -- ---- the point of a left side, one coordinate more
  target_first : (variables : List ℕ → ℤ) (t : Target) (ts : List Target) (m : Memory Value) →
      found_target A variables (t ∷ ts) m ≡ with (target_number variables (look A m) t) (λ z. with (found_target A variables ts m) (λ zs. Some (z ∷ zs)))
  target_first variables (Fixed z) ts m = refl
  target_first variables (Open e) ts m = by (found variables (look A m) e)
    where
      by : (o : Option Value) → with o (λ x. with (found_target A variables ts m) (λ zs. Some (x.number ∷ zs))) ≡ with (with o (λ v. Some v.number)) (λ z. with (found_target A variables ts m) (λ zs. Some (z ∷ zs)))
      by None = refl
      by (Some v) = refl

  -- the coordinates from the i-th on, behind these numbers
  abbrev pub points_on : (List ℕ → ℤ) → List Target → Memory Value → List ℤ → Option (List ℤ)
  points_on variables ts m done = with (found_target A variables ts m) (λ zs. Some (done ++ zs))

  pub points_begin : (variables : List ℕ → ℤ) (ts : List Target) (m : Memory Value) → found_target A variables ts m ≡ points_on variables ts m []
  points_begin variables ts m = sym (with_some (found_target A variables ts m))

  put_behind : (done : List ℤ) (z : ℤ) (o : Option (List ℤ)) → with (with o (λ zs. Some (z ∷ zs))) (λ zs. Some (done ++ zs)) ≡ with o (λ zs. Some ((done ++ z ∷ []) ++ zs))
  put_behind done z None = refl
  put_behind done z (Some zs) = ap (λ (l : List ℤ). Some l) (sym (append_assoc done (z ∷ []) zs))

  -- the next coordinate
  pub points_next : (variables : List ℕ → ℤ) (t : Target) (ts : List Target) (m : Memory Value) (done : List ℤ) →
      points_on variables (t ∷ ts) m done ≡ with (target_number variables (look A m) t) (λ z. points_on variables ts m (done ++ z ∷ []))
  points_next variables t ts m done =
      ap (λ (o : Option (List ℤ)). with o (λ zs. Some (done ++ zs))) (target_first variables t ts m) ∙ by (target_number variables (look A m) t)
    where
      by : (o : Option ℤ) → with (with o (λ z. with (found_target A variables ts m) (λ zs. Some (z ∷ zs)))) (λ zs. Some (done ++ zs)) ≡ with o (λ z. points_on variables ts m (done ++ z ∷ []))
      by None = refl
      by (Some z) = put_behind done z (found_target A variables ts m)

map_drop_more : {X Y : Type 0} (f : X → Y) (xs : List X) (i : ℕ) (x : X) → i < length xs → x ≡ get_or xs i x → map f (drop i xs) ≡ f x ∷ map f (drop (i + 1) xs)
map_drop_more f xs i x lt is = ap (map f) (drop-cons xs i x lt ∙ ap (λ y. y ∷ drop (suc i) xs) (sym is)) ∙ ap (λ (n : ℕ). f x ∷ map f (drop n xs)) (sym (add-one i))

-- one coordinate of a store more
pub coordinates_next : (A : Around) (variables : List ℕ → ℤ) (s : Symbols) (cs : List CodeCoordinate) (i : ℕ) (c : CodeCoordinate) (m : Memory Value) (done : List ℤ) (whole : Option (List ℤ)) →
    i < length cs → c ≡ get_or cs i c → whole ≡ points_on A variables (map (target_of s) (drop i cs)) m done →
    whole ≡ with (target_number variables (look A m) (target_of s c)) (λ z. points_on A variables (map (target_of s) (drop (i + 1) cs)) m (done ++ z ∷ []))
coordinates_next A variables s cs i c m done whole lt is so_far =
    so_far ∙ ap (λ (ts : List Target). points_on A variables ts m done) (map_drop_more (target_of s) cs i c lt is)
    ∙ points_next A variables (target_of s c) (map (target_of s) (drop (i + 1) cs)) m done

-- ---- the whole store

pub map_twice : {X Y Z : Type 0} (f : Y → Z) (g : X → Y) (xs : List X) → map f (map g xs) ≡ map (λ x. f (g x)) xs
map_twice f g [] = refl
map_twice f g (x ∷ xs) = ap (λ ys. f (g x) ∷ ys) (map_twice f g xs)

-- what a store does to memory: over these numbers of all coordinates, those of its place, and the others' numbers
abbrev writes : Around → List (List ℕ) → List ℤ → List Target → List ℤ → Term → ℕ → Memory Value → Option (Memory Value)
writes A names full at over e b m = with (found_target A (bound names full) at m) (λ q. with (found (bound names (q ++ over)) (look A m) e) (λ v. write m b q v))

pub names_is : (cs : List CodeCoordinate) → map (λ c. c.variable) (map coordinate_of cs) ≡ map (λ c. string_bytes c.variable) cs
names_is cs = map_twice (λ (c : Coordinate). c.variable) coordinate_of cs

targets_is : (s : Symbols) (n : ℕ) (cs : List CodeCoordinate) → map (target s) (take n (map coordinate_of cs)) ≡ map (target_of s) (take n cs)
targets_is s n cs = ap (map (target s)) (take-map coordinate_of n cs) ∙ map_twice (target s) coordinate_of (take n cs)

over_is : (s : Symbols) (n : ℕ) (cs : List CodeCoordinate) → map (λ c. fixed (target s c)) (drop n (map coordinate_of cs)) ≡ drop n (map (known_number s) cs)
over_is s n cs = ap (map (λ (c : Coordinate). fixed (target s c))) (drop-map coordinate_of n cs) ∙ map_twice (λ (c : Coordinate). fixed (target s c)) coordinate_of (drop n cs) ∙ sym (drop-map (known_number s) n cs)

full_is : (s : Symbols) (n : ℕ) (cs : List CodeCoordinate) → map fixed (map (target s) (take n (map coordinate_of cs))) ++ map (λ c. fixed (target s c)) (drop n (map coordinate_of cs)) ≡ map (known_number s) cs
full_is s n cs =
    ap (λ (l : List ℤ). l ++ map (λ c. fixed (target s c)) (drop n (map coordinate_of cs))) (map_twice fixed (target s) (take n (map coordinate_of cs)))
    ∙ sym (map-append (λ (c : Coordinate). fixed (target s c)) (take n (map coordinate_of cs)) (drop n (map coordinate_of cs)))
    ∙ ap (map (λ (c : Coordinate). fixed (target s c))) (take-append-drop n (map coordinate_of cs))
    ∙ map_twice (λ (c : Coordinate). fixed (target s c)) coordinate_of cs

-- other pieces' cells are read by no store
same_look : (x : Piece) (cell other : List ℕ → List ℤ → Value) (m : Memory Value) → look (around x cell) m ≡ look (around x other) m
same_look x cell other m = λ i name p. by ((around x cell).source name) p i
  where
    by : (t : Source) (p : List ℤ) → look_at (around x cell) m t p ≡ look_at (around x other) m t p
    by Input p = refl
    by (ByClaim c) p = refl
    by Unknown p = refl

same_target : (x : Piece) (cell other : List ℕ → List ℤ → Value) (variables : List ℕ → ℤ) (ts : List Target) (m : Memory Value) →
    found_target (around x cell) variables ts m ≡ found_target (around x other) variables ts m
same_target x cell other variables [] m = refl
same_target x cell other variables (Fixed z ∷ ts) m = ap (λ (o : Option (List ℤ)). with o (λ zs. Some (z ∷ zs))) (same_target x cell other variables ts m)
same_target x cell other variables (Open e ∷ ts) m =
    λ i. with (found variables (same_look x cell other m i) e) (λ v. with (same_target x cell other variables ts m i) (λ zs. Some (v.number ∷ zs)))

same_writes : (x : Piece) (cell other : List ℕ → List ℤ → Value) (names : List (List ℕ)) (full : List ℤ) (at : List Target) (over : List ℤ) (e : Term) (b : ℕ) (m : Memory Value) →
    writes (around x cell) names full at over e b m ≡ writes (around x other) names full at over e b m
same_writes x cell other names full at over e b m =
    λ i. with (same_target x cell other (bound names full) at m i) (λ q. with (found (bound names (q ++ over)) (same_look x cell other m i) e) (λ v. write m b q v))

with_twice : {Y Z W : Type 0} (p : Option Y) (w : Y → Option Z) (k : Z → Option W) → with (with p w) k ≡ with p (λ v. with (w v) k)
with_twice None w k = refl
with_twice (Some v) w k = refl

-- one thing, another on it, and what follows
in_turn : {X Y Z W : Type 0} (o : Option X) (h : X → Option Y) (w : X → Y → Option Z) (k : Z → Option W) → with (with o (λ q. with (h q) (w q))) k ≡ with o (λ q. with (h q) (λ v. with (w q v) k))
in_turn None h w k = refl
in_turn (Some q) h w k = with_twice (h q) (w q) k

-- after a store a run has come to this memory, with nothing more given
abbrev pub sets : ℕ → Progress → List ℤ → Value → Option Progress
sets b p q v = with (write p.memory b q v) (λ m. Some (record { memory = m; given = p.given }))

-- what a store does, by the point that its left side finds and the value of its right side there
pub store_steps : (x : Piece) (cell : List ℕ → List ℤ → Value) (b k n : ℕ) (cs at : List CodeCoordinate) (ns : List ℤ) (e : Term) (s : Symbols) (p : Progress) →
    n ≡ (setting x).dimensions b → ns ≡ map (known_number s) cs → at ≡ take n cs →
    steps (around x cell) (stored (setting x) b k (map coordinate_of cs) e s ∷ []) p
    ≡ with (found_target (around x no_cells) (bound (map (λ c. string_bytes c.variable) cs) ns) (map (target_of s) at) p.memory)
    (λ q. with (found (bound (map (λ c. string_bytes c.variable) cs) (q ++ drop n ns)) (look (around x no_cells) p.memory) e) (sets b p q))
store_steps x cell b k n cs at ns e s p size known left =
    let A = around x cell in
    let m = p.memory in
    let d = (setting x).dimensions b in
    let go : Memory Value → Option Progress = λ m'. Some (record { memory = m'; given = p.given }) in
    let names : List (List ℕ) = map (λ c. string_bytes c.variable) cs in
    steps_store A b ((setting x).buffer_function b) k (map (λ c. c.variable) (map coordinate_of cs)) (map (target s) (take d (map coordinate_of cs))) (map (λ c. fixed (target s c)) (drop d (map coordinate_of cs))) e p
    ∙ (λ i. with (writes A (names_is cs i) (full_is s d cs i) (targets_is s d cs i) (over_is s d cs i) e b m) go)
    ∙ ap (λ (o : Option (Memory Value)). with o go) (same_writes x cell no_cells names (map (known_number s) cs) (map (target_of s) (take d cs)) (drop d (map (known_number s) cs)) e b m)
    ∙ (λ i. with (writes (around x no_cells) names (sym known i) (map (target_of s) (take (sym size i) cs)) (drop (sym size i) (sym known i)) e b m) go)
    ∙ ap (λ (l : List CodeCoordinate). with (writes (around x no_cells) names ns (map (target_of s) l) (drop n ns) e b m) go) (sym left)
    ∙ in_turn (found_target (around x no_cells) (bound names ns) (map (target_of s) at) m) (λ (q : List ℤ). found (bound names (q ++ drop n ns)) (look (around x no_cells) m) e) (λ q v. write m b q v) go
