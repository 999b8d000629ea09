-- The symbols of a piece's grid point lie in the spans of the grid.
use Rattle.std.proofs.Common.{◌≡◌, ℕ, zero, suc, ◌+◌, ◌*◌, ◌/◌, ◌<◌, List, [], ◌∷◌, ◌++◌, sym, ap, ◌∙◌, subst, arith}
use Rattle.std.specs.Prelude.{pos}
use Rattle.std.proofs.Math.Nat.{div-lt_iff_lt-mul, mod-lt}
use Rattle.std.proofs.lemmas.Int.{ints}
use Rattle.plan.specs.Symbols.{Symbols}
use Rattle.plan.specs.Certificate.Cells.{piece_count, grid_point, grid_value, grid_symbols}
use Rattle.soundness.specs.Obligations.{Binder, Ranged, Picked, Passed, Lies, Respects}
use Rattle.soundness.specs.Binders.View.{grid_binders, grid_from, grid_span}

pub respects_both : (bs cs : List Binder) (s : Symbols) → Respects bs s → Respects cs s → Respects (bs ++ cs) s
respects_both [] cs s h k = k
respects_both (Ranged i x ∷ bs) cs s h k = (h.0, respects_both bs cs s h.1 k)
respects_both (Picked i pick ls ∷ bs) cs s h k = (h.0, respects_both bs cs s h.1 k)
respects_both (Passed low high ∷ bs) cs s h k = (h.0, respects_both bs cs s h.1 k)

-- each coordinate is below its count
abbrev AreBelow : List ℕ → List ℕ → Type 0
AreBelow [] xs = Unit {0}
AreBelow (n ∷ ns) [] = ⊥
AreBelow (n ∷ ns) (x ∷ xs) = (x < n) × AreBelow ns xs

some_width : (n w m : ℕ) → n < w * m → 0 < w
some_width n zero m h = absurd (omega arith)
some_width n (suc w) m h = omega arith

below_grid : (ms : List ℕ) (n : ℕ) → n < piece_count ms → AreBelow ms (grid_point ms n)
below_grid [] n h = tt
below_grid (m ∷ ms) n h =
    let some : 0 < m = some_width n m (piece_count ms) h in
    let rest : n / m < piece_count ms = (div-lt_iff_lt-mul {k = m} {x = n} {y = piece_count ms} some).1 (omega (arith, h)) in
    (mod-lt n some, below_grid ms (n / m) rest)

lies_below : (s : Symbols) (n x : ℕ) → x < n → Lies s (grid_span n) (pos x)
lies_below s n x h = ((omega (arith, ints), tt), (omega (arith, ints, h), tt))

respects_from : (i : ℕ) (ns xs : List ℕ) (s : Symbols) → AreBelow ns xs → ((j : ℕ) → s.value (i + j) ≡ grid_value xs j) → Respects (grid_from i ns) s
respects_from i [] xs s h v = tt
respects_from i (n ∷ ns) [] s h v = absurd h
respects_from i (n ∷ ns) (x ∷ xs) s h v =
    let here : s.value i ≡ pos x = let e : i ≡ i + 0 = omega arith in ap s.value e ∙ v 0 in
    let later : (j : ℕ) → s.value ((i + 1) + j) ≡ grid_value xs j = λ j. let e : (i + 1) + j ≡ i + suc j = omega arith in ap s.value e ∙ v (suc j) in
    respects_both (grid_from (i + 1) ns) (Ranged i (grid_span n) ∷ []) s (respects_from (i + 1) ns xs s h.1 later)
    (subst (λ z. Lies s (grid_span n) z) (sym here) (lies_below s n x h.0), tt)

pub grid_respected : (grid : List ℕ) (k : ℕ) → k < piece_count grid → Respects (grid_binders grid) (grid_symbols (grid_point grid k))
grid_respected grid k h = respects_from 0 grid (grid_point grid k) (grid_symbols (grid_point grid k)) (below_grid grid k h)
    (λ j. let e : 0 + j ≡ j = omega arith in ap (grid_value (grid_point grid k)) e)
