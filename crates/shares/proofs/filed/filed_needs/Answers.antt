use Rattle.std.proofs.Common.{◌∙◌, ◌++◌, ◌∷◌, [], List, map, take, ap, sym, subst, arith}
use Rattle.std.proofs.lemmas.List.{take_all, take_more}
use Rattle.plan.specs.declared.certificate.cert.Need.{Need}
use Rattle.shares.specs.Filed.{AreFiled}
use Rattle.shares.proofs.Filing.{row}
use Rattle.shares.proofs.filed.filed_needs.Goals as goal

pub loop-need-preserved : goal.loop-need-preserved
loop-need-preserved c =
    let ns = c.args.needs.now in
    let k = c.loop-need.need-index in
    let d : Need = c.need-item.result in
    let next = take_more ns k d c.loop-need-test.true ∙ ap (λ (n : Need). take k ns ++ n ∷ []) (sym c.need-item.is) in
    subst (λ (ms : List Need). AreFiled ms c.args.groups (map row c.file.new.lists.items)) (sym next) (c.in_ok-file.ensures c.args.groups (take k ns) c.loop-need.invariant)

pub returns : goal.returns
returns c =
    let ns = c.args.needs.now in
    let k = c.loop-need.need-index in
    let end = c.loop-need.auto.need-index-end in
    subst (λ (ms : List Need). AreFiled ms c.args.groups (map row c.loop-need.lists.items)) (take_all k ns (omega (arith, c.loop-need-test.false, end))) c.loop-need.invariant
