use Rattle.std.proofs.Common.{◌≡◌, ◌+◌, ◌++◌, ◌∷◌, [], List, length, length-append, arith, ap, sym, subst}
use Rattle.std.proofs.lemmas.List.Elements.{All-push}
use Rattle.lin.specs.declared.span.Span1.{Span1}
use Rattle.shares.specs.Boxes.{AreLimited, IsLimited}
use Rattle.shares.proofs.Cutting.{none_limited}
use Rattle.shares.proofs.before.blank.Goals as goal

pub loop-preserved : goal.loop-preserved
loop-preserved c =
    let made = c.loop.made in
    let span : Span1 = record { lower = c.new.result; upper = c.new-in-loop.result } in
    let low : AreLimited c.new.result = subst AreLimited (sym c.new.ensures) none_limited in
    let high : AreLimited c.new-in-loop.result = subst AreLimited (sym c.new-in-loop.ensures) none_limited in
    let path : c.push.new.self ≡ made ++ span ∷ [] = c.in_ok-push.ensures.ok in
    let more = length-append made (span ∷ []) in
    let long = ap length path in
    let before = c.loop.invariant.1 in (
      subst IsLimited (sym path) (All-push (λ (x : Span1). AreLimited x.lower × AreLimited x.upper) made span c.loop.invariant.0 (low, high)),
      omega (arith, more, long, before),
    )
