use Rattle.std.proofs.Common.{◌≡◌, suc, ◌-◌, ◌<◌, ◌++◌, ◌∷◌, ℕ, ℤ, List, Option, Some, drop, take, length, map, pos, ◌+ℤ◌, sym, subst, ap, ◌∙◌, rules, arith, w64, SFits, slice_index_or}
use Rattle.std.specs.Prelude.{◌-ℤ◌, ◌*ℤ◌, string_bytes}
use Rattle.std.proofs.Math.Seq.{drop-append_seam}
use Rattle.std.proofs.lemmas.Bool.{ltb-false}
use Rattle.std.proofs.lemmas.Int.{to_z-of_z}
use Rattle.tree.specs.declared.value.Value.{Value}
use Rattle.meaning.specs.Names.{bound}
use Rattle.plan.specs.declared.stmt.Coordinate.{Coordinate}
use Rattle.plan.specs.View.{coordinate_of}
use Rattle.plan.specs.Semantics.Memory.{Memory}
use Rattle.plan.specs.Semantics.Run.{look}
use Rattle.interpreter.specs.Buffers.Blocks.{memory_of}
use Rattle.interpreter.specs.Evaluation.Lanes.{number_at}
use Rattle.interpreter.specs.Pieces.{around, no_cells}
use Rattle.interpreter.specs.Runs.{numbers_at, IsBut}
use Rattle.interpreter.specs.Updates.{columns_at, place_number, place_numbers}
use Rattle.interpreter.specs.declared.evaluation.lanes.Number.{Number}
use Rattle.interpreter.proofs.FoundRuns.{if_some}
use Rattle.interpreter.proofs.Spots.{by_first}
use Rattle.interpreter.proofs.Updating.{coordinates_front, front_same, known_first, numbers_length}
use Rattle.interpreter.proofs.updates.+coordinates_run.Goals as goal

pub returns-else-registers-count : goal.returns-else-registers-count
returns-else-registers-count t c =
    let r = c.args.reader.now in
    let n = c.args.count in
    let cs = c.args.coordinates.now in
    let xs = c.args.first.now in
    let ys = c.args.second.now in
    let item = c.coordinate-item.result in
    let later : List Coordinate = take (length cs - 1) (drop 1 cs) in
    let x : ℤ = slice_index_or xs 0 (pos 0) in
    let y : ℤ = slice_index_or ys 0 (pos 0) in
    let x_fits : SFits w64 x = search rules in
    let y_fits : SFits w64 y = search rules in
    let xs1 : List ℤ = take (length xs - 1) (drop 1 xs) in
    let ys1 : List ℤ = take (length ys - 1) (drop 1 ys) in
    let cs_is : cs ≡ item ∷ later = by_first cs item (omega (arith, ltb-false)) ∙ ap (λ (z : Coordinate). z ∷ later) (sym c.coordinate-item.is) in
    let xs_is : xs ≡ x ∷ xs1 = by_first xs (pos 0) (omega (arith, ltb-false)) in
    let ys_is : ys ≡ y ∷ ys1 = by_first ys (pos 0) (omega (arith, ltb-false)) in
    let mid : List Number = c.coordinate_run.new.registers in
    let mine : List Number = c.split_at_mut-rest.result.0.now in
    let back : List Number = c.split_at_mut-rest.result.1.now in
    let rest : List Number = c.coordinates_run.new.registers in
    let wide : length mine ≡ n = c.split_at_mut-rest.ensures.front_len in
    let behind : rest ≡ drop n (mine ++ rest) = sym (drop-append_seam mine rest) ∙ ap (λ (l : ℕ). drop l (mine ++ rest)) wide in
    let whole : mid ≡ mine ++ back = c.split_at_mut-rest.ensures.value in
    let V : ℕ → List ℕ → ℤ = λ k. bound (map (λ v. string_bytes v.variable) r.coordinates.now) (numbers_at r.first.now r.second.now k) in
    let L : Memory Value → List ℕ → List ℤ → Option Value = λ m. look (around r.piece.now no_cells) m in
    let p = c.args.places in
    let q : ℕ = p - 1 in
    let up : suc q ≡ p = omega (arith, ltb-false) in
    let z : ℕ → ℤ = λ k. x +ℤ (y -ℤ x) *ℤ pos k in
    if_some c.coordinates_run.result
    (λ _. (m : Memory Value) → IsBut r.buffer (memory_of r.memory.now) m → (k : ℕ) → k < n →
    place_numbers (V k) (L m) q later (numbers_at xs1 ys1 k) ≡ Some (columns_at n q rest k ++ drop q (numbers_at xs1 ys1 k))) _
    (λ _ h m but k lt.
    subst (λ (g : ℕ). place_numbers (V k) (L m) g cs (numbers_at xs ys k) ≡ Some (columns_at n g (mine ++ rest) k ++ drop g (numbers_at xs ys k))) up
    ((λ i. place_numbers (V k) (L m) (suc q) (cs_is i) (numbers_at (xs_is i) (ys_is i) k))
    ∙ coordinates_front (V k) (L m) q n k item later (z k) (numbers_at xs1 ys1 k) mid (mine ++ rest)
    (ap (λ (g : ℕ). place_number (V k) (L m) g (coordinate_of item).index (z k)) up
    ∙ ap (λ (v : ℤ). place_number (V k) (L m) p (coordinate_of item).index v) (λ i. sym (to_z-of_z w64 x x_fits) i +ℤ (sym (to_z-of_z w64 y y_fits) i -ℤ sym (to_z-of_z w64 x x_fits) i) *ℤ pos k)
    ∙ c.in_ok-coordinate_run-in-len1-up-len1-up-len1-up.ensures m but k lt)
    (h m but k lt ∙ ap (λ (zs : List Number). Some (columns_at n q zs k ++ drop q (numbers_at xs1 ys1 k))) behind)
    (front_same mine rest back k (omega (arith, lt, wide)) ∙ ap (λ (zs : List Number). number_at zs k) (sym whole))
    ∙ (λ i. Some (columns_at n (suc q) (mine ++ rest) k ++ drop (suc q) (numbers_at (sym xs_is i) (sym ys_is i) k)))))
    c.coordinates_run.ensures

pub returns-then-places-eq0 : goal.returns-then-places-eq0
returns-then-places-eq0 t c = λ m but k lt.
    let r = c.args.reader.now in
    let V : List ℕ → ℤ = bound (map (λ v. string_bytes v.variable) r.coordinates.now) (numbers_at r.first.now r.second.now k) in
    let cs = c.args.coordinates.now in
    let known = numbers_at c.args.first.now c.args.second.now k in
    let none : 0 ≡ c.args.places = omega arith in
    let there : length known ≡ length cs = numbers_length c.args.first.now c.args.second.now k ∙ omega arith in
    subst (λ (p : ℕ). place_numbers V (look (around r.piece.now no_cells) m) p cs known ≡ Some (columns_at c.args.count p c.args.registers.now k ++ drop p known)) none
    (known_first V (look (around r.piece.now no_cells) m) cs known there)
