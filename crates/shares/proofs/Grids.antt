-- Grid points by their numbers.
use Rattle.std.proofs.Common.{◌≡◌, ℕ, zero, suc, ◌+◌, ◌*◌, ◌/◌, ◌%◌, ◌<◌, ◌≤◌, ◌^◌, List, [], ◌∷◌, length, get_or, drop, arith, ap, refl, drop-cons, add-one}
use Rattle.std.proofs.lemmas.Nat.{div_below}
use Rattle.std.proofs.Math.Nat.{mul_comm}
use Rattle.std.specs.Prelude.{All}
use Rattle.std.specs.List.{AllByRecursion}
use Rattle.std.proofs.lemmas.List.Elements.{recursion_from_All, All-from_recursion}
use Rattle.shares.specs.Walked.{IsExtent}
use Rattle.plan.specs.Certificate.Cells.{grid_point, piece_count}
use Rattle.shares.specs.declared.boxes.Side.{Side}
use Rattle.shares.specs.Boxes.{grid_sides, point_count}

pub point_more : (grid : List ℕ) (i d rest : ℕ) → i < length grid → grid_point (drop i grid) rest ≡ (rest % get_or grid i d) ∷ grid_point (drop (i + 1) grid) (rest / get_or grid i d)
point_more grid i d rest h = rw (drop-cons grid i d h, add-one) refl

pub count_more : (grid : List ℕ) (i d : ℕ) → i < length grid → piece_count (drop i grid) ≡ get_or grid i d * piece_count (drop (i + 1) grid)
count_more grid i d h = rw (drop-cons grid i d h, add-one) refl

pub some_left : (m k n : ℕ) → n < m * k → 0 < m
some_left zero k n h = absurd (omega (arith, h))
some_left (suc m) k n h = omega arith

pub div_left : (m k n : ℕ) → n < m * k → n / m < k
div_left m k n h = let e = mul_comm m k in div_below n m k (some_left m k n h) (omega (arith, h, e))

pub point_end : (grid : List ℕ) (i rest : ℕ) → length grid ≤ i → grid_point (drop i grid) rest ≡ []
point_end [] zero rest h = refl
point_end [] (suc i) rest h = refl
point_end (x ∷ xs) zero rest h = absurd (omega (arith, h))
point_end (x ∷ xs) (suc i) rest h = point_end xs i rest (omega (arith, h))

pub grid_count : (grid : List ℕ) → point_count (grid_sides grid) ≡ piece_count grid
grid_count [] = refl
grid_count (m ∷ ms) = ap (λ (n : ℕ). m * n) (grid_count ms)

extents_each : (grid : List ℕ) → AllByRecursion (λ m. m ≤ 2 ^ 20) grid → AllByRecursion IsExtent (grid_sides grid)
extents_each [] h = tt
extents_each (m ∷ ms) h = ((omega arith, h.0), extents_each ms h.1)

pub grid_extents : (grid : List ℕ) → All (λ m. m ≤ 2 ^ 20) grid → All IsExtent (grid_sides grid)
grid_extents grid h = All-from_recursion IsExtent (grid_sides grid) (extents_each grid (recursion_from_All (λ m. m ≤ 2 ^ 20) grid h))

some_each : (grid : List ℕ) → AllByRecursion (λ s. 1 ≤ s.count) (grid_sides grid) → AllByRecursion (λ m. 1 ≤ m) grid
some_each [] h = tt
some_each (m ∷ ms) h = (h.0, some_each ms h.1)

pub grid_some : (grid : List ℕ) → All (λ (s : Side). 1 ≤ s.count) (grid_sides grid) → All (λ m. 1 ≤ m) grid
grid_some grid h = All-from_recursion (λ (m : ℕ). 1 ≤ m) grid (some_each grid (recursion_from_All (λ (s : Side). 1 ≤ s.count) (grid_sides grid) h))
