-- The symbols of a grid, one more at a time.
use Rattle.std.proofs.Common.{◌≡◌, ℕ, ◌+◌, List, [], ◌∷◌, ◌++◌, length, ap, ◌∙◌, arith}
use Rattle.soundness.specs.Obligations.{Binder, Ranged}
use Rattle.soundness.specs.Binders.View.{grid_binders, grid_from, grid_span}

grid_more_from : (k : ℕ) (ns : List ℕ) (n : ℕ) → grid_from k (ns ++ n ∷ []) ≡ Ranged (k + length ns) (grid_span n) ∷ grid_from k ns
grid_more_from k [] n = ap (λ (i : ℕ). Ranged i (grid_span n) ∷ []) (omega arith)
grid_more_from k (m ∷ ns) n =
    ap (λ (l : List Binder). l ++ Ranged k (grid_span m) ∷ []) (grid_more_from (k + 1) ns n)
    ∙ ap (λ (i : ℕ). Ranged i (grid_span n) ∷ grid_from (k + 1) ns ++ Ranged k (grid_span m) ∷ []) (omega arith)

-- one more symbol of a grid
pub grid_more : (ns : List ℕ) (n : ℕ) → grid_binders (ns ++ n ∷ []) ≡ Ranged (length ns) (grid_span n) ∷ grid_binders ns
grid_more ns n = grid_more_from 0 ns n ∙ ap (λ (i : ℕ). Ranged i (grid_span n) ∷ grid_binders ns) (omega arith)
