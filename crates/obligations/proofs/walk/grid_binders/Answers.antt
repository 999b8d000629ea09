use Rattle.std.proofs.Common.{◌≡◌, ℕ, List, ◌∷◌, length, take, get_or, sym, ap, ◌∙◌, arith}
use Rattle.std.proofs.lemmas.List.{take_more, length-take-le}
use Rattle.soundness.specs.Obligations.{Binder, Ranged}
use Rattle.soundness.specs.Binders.View.{binders_of, grid_binders, grid_span}
use Rattle.obligations.proofs.Bound.{binders_pushed}
use Rattle.obligations.proofs.Grid.{grid_more}
use Rattle.obligations.proofs.walk.grid_binders.Goals as goal

pub loop-symbol-preserved : goal.loop-symbol-preserved
loop-symbol-preserved c =
    let ns = c.args.counts.now in
    let i = c.loop-symbol.symbol in
    let n = get_or ns i 0 in
    let count : length (take i ns) ≡ i = length-take-le i ns (omega arith) in
    ap binders_of c.in_ok-push.ensures.items ∙ binders_pushed c.loop-symbol.binders.items _
    ∙ ap (λ (l : List Binder). Ranged i (grid_span n) ∷ l) c.loop-symbol.invariant
    ∙ ap (λ (k : ℕ). Ranged k (grid_span n) ∷ grid_binders (take i ns)) (sym count)
    ∙ sym (ap grid_binders (take_more ns i 0 c.loop-symbol-test.true) ∙ grid_more (take i ns) n)
