-- Registers with the same numbers: the points that they hold are the same.
use Rattle.std.proofs.Common.{◌≡◌, ◌∷◌, ℕ, suc, List, drop, Bool, true, false, sym, ap, ◌∙◌}
use Rattle.std.specs.Bool.{OnTrue}
use Rattle.interpreter.specs.Evaluation.Lanes.{number_at}
use Rattle.interpreter.specs.Updates.{columns_at}
use Rattle.interpreter.specs.declared.evaluation.lanes.Number.{Number}

pub on_both : (b : Bool) (P Q : Type 0) → (P → Q) → OnTrue b P → OnTrue b Q
on_both true P Q f h = f h
on_both false P Q f h = tt

-- one register more
pub more_same : (n w v k : ℕ) (xs ys us vs : List Number) → w ≡ suc v → us ≡ drop n xs → vs ≡ drop n ys → number_at xs k ≡ number_at ys k → columns_at n v us k ≡ columns_at n v vs k →
    columns_at n w xs k ≡ columns_at n w ys k
more_same n w v k xs ys us vs is left right first later =
    let behind : columns_at n v (drop n xs) k ≡ columns_at n v (drop n ys) k =
    ap (λ (l : List Number). columns_at n v l k) (sym left) ∙ later ∙ ap (λ (l : List Number). columns_at n v l k) right in
    ap (λ (u : ℕ). columns_at n u xs k) is ∙ (λ i. first i ∷ behind i) ∙ ap (λ (u : ℕ). columns_at n u ys k) (sym is)
