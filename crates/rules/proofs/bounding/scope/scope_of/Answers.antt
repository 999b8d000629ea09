use Rattle.std.proofs.Common.{◌∙◌, sym, ap, arith, ◌++◌, ◌∷◌, []}
use Rattle.std.proofs.lemmas.List.FromFn.{map-range_with_len_more}
use Rattle.soundness.specs.Binders.View.{binders_of}
use Rattle.rules.specs.Bounding.Scopes.{binding_of}
use Rattle.rules.proofs.bounding.scope.scope_of.Goals as goal

pub loop-symbol-preserved : goal.loop-symbol-preserved
loop-symbol-preserved c =
    let more = map-range_with_len_more (binding_of (binders_of c.args.binders.now)) 0 c.loop-symbol.symbol c.loop-symbol.symbol (omega arith) in
    let bs = binders_of c.args.binders.now in
    c.in_ok-push.ensures.ok ∙ ap (λ b. c.loop-symbol.scope ++ b ∷ []) (c.in_ok-binding_of.ensures) ∙ ap (λ r. r ++ binding_of bs c.loop-symbol.symbol ∷ []) c.loop-symbol.invariant ∙ sym more
