use Rattle.std.proofs.Common.{◌≡◌, ◌∙◌, ◌+◌, ◌++◌, ◌∷◌, ◌<◌, [], List, length, map, take, get_or, ap, sym, subst, arith, Bor}
use Rattle.std.proofs.lemmas.List.{length-map, map-append, take_all, take_more}
use Rattle.plan.specs.Plan.{Plan}
use Rattle.plan.specs.View.{plan_of}
use Rattle.plan.specs.declared.certificate.cert.Need.{Need}
use Rattle.shares.specs.Gathered.{AreGathered}
use Rattle.shares.specs.Shared.{NeedIsShared}
use Rattle.shares.proofs.Gathering.{nothing_gathered, numbers_settled}
use Rattle.shares.proofs.Needing.{lent_at}
use Rattle.shares.proofs.gathered.group_needs.Goals as goal

pub loop-need-init : goal.loop-need-init
loop-need-init c =
    let f : Bor Need → Need = λ n. n.now in
    nothing_gathered (plan_of c.args.layout.now.plan.now) c.args.group c.new-numbers.result.items (map f c.new-moving.result.items) c.new-numbers.ensures.items (ap (map f) c.new-moving.ensures.items)

pub gather-requires-clause-need : goal.gather-requires-clause-need
gather-requires-clause-need c =
    let p : Plan = plan_of c.args.layout.now.plan.now in
    let f : Bor Need → Need = λ n. n.now in
    let ls = c.args.lines.now in
    let k = c.loop-need.need-index in
    let d : Bor Need = c.need-item.result in
    let long = length-map ls f in
    let less : k < length (map f ls) = omega (arith, c.loop-need-test.true, long) in
    let is : d.now ≡ get_or (map f ls) k d.now = ap f c.need-item.is ∙ sym (lent_at ls k d) in
    subst (NeedIsShared p) (sym is) (c.requires.lines k d.now less).1

pub gather-requires-clause-group : goal.gather-requires-clause-group
gather-requires-clause-group c =
    let f : Bor Need → Need = λ n. n.now in
    let ls = c.args.lines.now in
    let k = c.loop-need.need-index in
    let d : Bor Need = c.need-item.result in
    let long = length-map ls f in
    let less : k < length (map f ls) = omega (arith, c.loop-need-test.true, long) in
    let is : d.now ≡ get_or (map f ls) k d.now = ap f c.need-item.is ∙ sym (lent_at ls k d) in
    subst (λ (n : Need). n.group ≡ c.args.group) (sym is) (c.requires.lines k d.now less).0

pub loop-need-preserved : goal.loop-need-preserved
loop-need-preserved c =
    let p : Plan = plan_of c.args.layout.now.plan.now in
    let g = c.args.group in
    let f : Bor Need → Need = λ n. n.now in
    let ls = c.args.lines.now in
    let k = c.loop-need.need-index in
    let d : Bor Need = c.need-item.result in
    let numbers = c.gather.new.numbers.items in
    let moving = map f c.gather.new.moving.items in
    let next : map f (take (k + 1) ls) ≡ map f (take k ls) ++ d.now ∷ [] =
    ap (map f) (take_more ls k d c.loop-need-test.true ∙ ap (λ (x : Bor Need). take k ls ++ x ∷ []) (sym c.need-item.is)) ∙ map-append f (take k ls) (d ∷ []) in
    let more : AreGathered p g (map f (take (k + 1) ls)) numbers moving = subst (λ (ns : List Need). AreGathered p g ns numbers moving) (sym next) (c.in_ok-gather.ensures (map f (take k ls)) c.loop-need.invariant) in
    numbers_settled p g (map f (take (k + 1) ls)) numbers moving more c.settle_doubled.new.numbers.items c.in_ok-settled.ensures

pub returns : goal.returns
returns c =
    let p : Plan = plan_of c.args.layout.now.plan.now in
    let g = c.args.group in
    let f : Bor Need → Need = λ n. n.now in
    let ls = c.args.lines.now in
    let k = c.loop-need.need-index in
    let numbers = c.loop-need.numbers.items in
    let moving = map f c.loop-need.moving.items in
    let end = c.loop-need.auto.need-index-end in
    let whole = ap (map f) (take_all k ls (omega (arith, c.loop-need-test.false, end))) in
    numbers_settled p g (map f ls) numbers moving (subst (λ (ns : List Need). AreGathered p g ns numbers moving) whole c.loop-need.invariant) c.settle.new.numbers.items c.in_ok-settle.ensures.members
