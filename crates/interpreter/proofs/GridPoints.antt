-- Grid points, symbol by symbol.
use Rattle.std.proofs.Common.{◌≡◌, ℕ, zero, suc, ◌+◌, ◌*◌, ◌/◌, ◌%◌, ◌^◌, ◌<◌, List, [], ◌∷◌, ◌++◌, drop, length, get_or, sym, ap, ◌∙◌, subst, arith, append_assoc}
use Rattle.std.proofs.Math.Nat.{div-lt_iff_lt-mul, div-le_self, mod-le}
use Rattle.std.proofs.lemmas.List.{drop_more}
use Rattle.plan.specs.Certificate.Cells.{grid_point, piece_count}

-- parts of a number are no larger than it
pub remainder_small : (n w : ℕ) → n < 2 ^ 32 → n % w < 2 ^ 32
remainder_small n w h = let le = mod-le n w in omega (arith, le, h)

pub quotient_small : (n w : ℕ) → n < 2 ^ 32 → n / w < 2 ^ 32
quotient_small n w h = let le = div-le_self n w in omega (arith, le, h)

pub quotient_below : (n w m : ℕ) → 0 < w → n < w * m → n / w < m
quotient_below n w m some h = (div-lt_iff_lt-mul {k = w} {x = n} {y = m} some).1 (omega arith)

pub some_width : (n w m : ℕ) → n < w * m → 0 < w
some_width n zero m h = absurd (omega arith)
some_width n (suc w) m h = omega arith

-- so many coordinates are known, and the rest is the grid point of what is left
pub record IsUnderWay (grid : List ℕ) (rank i : ℕ) (at : List ℕ) (rest : ℕ) : Type 0 where
  pub point : at ++ grid_point (drop i grid) rest ≡ grid_point grid rank
  pub inside : rest < piece_count (drop i grid)

next_inside : (grid : List ℕ) (rank i : ℕ) (at : List ℕ) (rest : ℕ) → i < length grid → IsUnderWay grid rank i at rest → rest < get_or grid i 0 * piece_count (drop (i + 1) grid)
next_inside grid rank i at rest l h = subst (λ xs. rest < piece_count xs) (drop_more grid i 0 l) h.inside

-- an extent of which points are left is not 0
pub some_extent : (grid : List ℕ) (rank i : ℕ) (at : List ℕ) (rest : ℕ) → i < length grid → IsUnderWay grid rank i at rest → 0 < get_or grid i 0
some_extent grid rank i at rest l h = some_width rest (get_or grid i 0) (piece_count (drop (i + 1) grid)) (next_inside grid rank i at rest l h)

pub further : (grid : List ℕ) (rank i : ℕ) (at : List ℕ) (rest : ℕ) → i < length grid → IsUnderWay grid rank i at rest → IsUnderWay grid rank (i + 1) (at ++ (rest % get_or grid i 0) ∷ []) (rest / get_or grid i 0)
further grid rank i at rest l h =
    let w = get_or grid i 0 in
    let more = drop (i + 1) grid in
    record {
      point = append_assoc at ((rest % w) ∷ []) (grid_point more (rest / w)) ∙ ap (λ xs. at ++ grid_point xs rest) (sym (drop_more grid i 0 l)) ∙ h.point;
      inside = quotient_below rest w (piece_count more) (some_extent grid rank i at rest l h) (next_inside grid rank i at rest l h);
    }
