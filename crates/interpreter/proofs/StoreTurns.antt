-- Stores at the turns of a loop whose coordinates are forms.
use Rattle.std.proofs.Common.{◌≡◌, ℕ, zero, suc, ◌+◌, ◌-◌, ◌<◌, List, [], ◌∷◌, ◌++◌, map, take, drop, true, Option, Some, refl, sym, ap, ◌∙◌, arith, ℤ, pos}
use Rattle.std.specs.Prelude.{◌&&◌, ◌+ℤ◌, string_bytes}
use Rattle.std.proofs.lemmas.Int.{ints}
use Rattle.std.proofs.lemmas.List.{take-map, take-append-drop}
use Rattle.tree.specs.declared.value.Value.{Value}
use Rattle.tree.specs.Term.{Term}
use Rattle.meaning.specs.Names.{bound}
use Rattle.plan.specs.declared.stmt.Coordinate.{Coordinate}
use Rattle.plan.specs.Plan.{Index, At, Found}
use Rattle.plan.specs.View.{coordinate_of}
use Rattle.plan.specs.Symbols.{Symbols, rising}
use Rattle.plan.specs.Semantics.Actions.{fixed, are_fixed, index_target, stored}
use Rattle.plan.specs.Semantics.Found.{with, found}
use Rattle.plan.specs.Semantics.Memory.{Memory}
use Rattle.plan.specs.Semantics.Run.{Around, look, found_target}
use Rattle.interpreter.specs.Pieces.{around, no_cells, setting}
use Rattle.interpreter.specs.Runs.{are_forms, is_form}
use Rattle.interpreter.specs.Steps.{Progress, steps}
use Rattle.interpreter.specs.Targets.{known_number, target_of}
use Rattle.interpreter.specs.declared.piece.Piece.{Piece}
use Rattle.interpreter.proofs.Storing.{fixed_found, map_twice, sets, store_steps}

forms_fixed : (s : Symbols) (cs : List Coordinate) (n : ℕ) → are_forms cs ≡ true → are_fixed (map (target_of s) (take n cs)) ≡ true
forms_fixed s cs zero h = refl
forms_fixed s [] (suc n) h = refl
forms_fixed s (c ∷ cs) (suc n) h = by (coordinate_of c).index (forms_fixed s cs n) h
  where
    by : (x : Index) → (are_forms cs ≡ true → are_fixed (map (target_of s) (take n cs)) ≡ true) → (is_form x && are_forms cs) ≡ true → are_fixed (index_target s x ∷ map (target_of s) (take n cs)) ≡ true
    by (At l) later e = later e
    by (Found t) later e = absurd (cc)

-- the point where the store writes is that of the first numbers
known_target : (A : Around) (variables : List ℕ → ℤ) (s : Symbols) (cs : List Coordinate) (n : ℕ) (m : Memory Value) → are_forms cs ≡ true →
    found_target A variables (map (target_of s) (take n cs)) m ≡ Some (take n (map (known_number s) cs))
known_target A variables s cs n m h =
    fixed_found A variables (map (target_of s) (take n cs)) m (forms_fixed s cs n h)
    ∙ ap (λ (zs : List ℤ). Some zs) (map_twice fixed (target_of s) (take n cs) ∙ sym (take-map (known_number s) n cs))

-- a store that finds its value sets the place of the point
pub turn_stores : (x : Piece) (cell : List ℕ → List ℤ → Value) (b d n : ℕ) (cs : List Coordinate) (e : Term) (s : Symbols) (p : Progress) (v : Value) →
    are_forms cs ≡ true → n ≡ (setting x).dimensions b →
    found (bound (map (λ c. string_bytes c.variable) cs) (map (known_number s) cs)) (look (around x no_cells) p.memory) e ≡ Some v →
    steps (around x cell) (stored (setting x) b d (map coordinate_of cs) e s ∷ []) p ≡ sets b p (take n (map (known_number s) cs)) v
turn_stores x cell b d n cs e s p v forms size h =
    let ns = map (known_number s) cs in
    let names : List (List ℕ) = map (λ c. string_bytes c.variable) cs in
    let find : List ℤ → Option Value = λ l. found (bound names l) (look (around x no_cells) p.memory) e in
    let go : List ℤ → Option Progress = λ q. with (find (q ++ drop n ns)) (sets b p q) in
    store_steps x cell b d n cs (take n cs) ns e s p size refl refl
    ∙ ap (λ (o : Option (List ℤ)). with o go) (known_target (around x no_cells) (bound names ns) s cs n p.memory forms)
    ∙ ap (λ (l : List ℤ). with (find l) (sets b p (take n ns))) (take-append-drop n ns)
    ∙ ap (λ (o : Option Value). with o (sets b p (take n ns))) h

-- one turn more
pub rising_next : (z : ℤ) (n i : ℕ) → i < n → rising (z +ℤ pos i) (n - i) ≡ (z +ℤ pos i) ∷ rising (z +ℤ pos (i + 1)) (n - (i + 1))
rising_next z n i lt =
    let e : n - i ≡ suc (n - (i + 1)) = omega arith in
    let f : (z +ℤ pos i) +ℤ pos 1 ≡ z +ℤ pos (i + 1) = omega (arith, ints) in
    ap (rising (z +ℤ pos i)) e ∙ ap (λ (y : ℤ). (z +ℤ pos i) ∷ rising y (n - (i + 1))) f
