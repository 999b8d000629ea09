use Rattle.std.proofs.Common.{◌≡◌, ◌∙◌, ◌+◌, ◌∷◌, ◌<◌, [], ℕ, List, Some, length, length-append, map, sym, ap, subst, arith, Bor}
use Rattle.std.specs.Prelude.{slice_get}
use Rattle.std.proofs.lemmas.List.{length-map}
use Rattle.plan.specs.Plan.{Plan}
use Rattle.plan.specs.View.{plan_of}
use Rattle.plan.specs.declared.certificate.cert.Need.{Need}
use Rattle.shares.specs.declared.gathered.GroupNeeds.{GroupNeeds}
use Rattle.shares.specs.Filed.{needs_in, AreLinesOf}
use Rattle.shares.specs.Gathered.{IsGathered}
use Rattle.shares.specs.Repeated.{AreOuterOf}
use Rattle.shares.proofs.Filing.{row}
use Rattle.shares.proofs.Gathering.{lines_outer, lines_within}
use Rattle.shares.proofs.Grouped.{lines_grouped}
use Rattle.shares.proofs.Groups.{push_each}
use Rattle.shares.proofs.Seated.{lines_at}
use Rattle.shares.proofs.gathered.gathered_needs.Goals as goal

pub group_needs-requires-clause-lines : goal.group_needs-requires-clause-lines
group_needs-requires-clause-lines c =
    let x = c.args.layout.now in
    let p : Plan = plan_of x.plan.now in
    let ns = c.args.lines.now in
    let k = c.loop-group.group in
    let f : Bor Need → Need = λ n. n.now in
    let long = length-map c.args.filed.now row in
    let all = c.requires.filed.count in
    let listed : k < length x.plan.now.groups.items = omega (arith, c.loop-group-test.true, long, all) in
    let here : map f c.deref.result.now ≡ needs_in ns k = lines_at ns (length x.plan.now.groups.items) c.args.filed.now c.requires.filed k listed c.index-filed-group.result c.index-filed-group.is c.deref.result.now c.deref.ensures.value in
    let kept = c.in_ok-kept.kept.items in
    let outer : AreOuterOf (map f kept) (needs_in ns k) = subst (AreOuterOf (map f kept)) here c.in_ok-kept.ensures in
    subst (λ (ls : List (Bor Need)). AreLinesOf p k (map f ls)) (sym c.as_slice.ensures.value) (lines_within p k (needs_in ns k) (map f kept) outer (lines_grouped p k ns c.requires.lines))

pub loop-group-preserved : goal.loop-group-preserved
loop-group-preserved c =
    let x = c.args.layout.now in
    let p : Plan = plan_of x.plan.now in
    let ns = c.args.lines.now in
    let k = c.loop-group.group in
    let f : Bor Need → Need = λ n. n.now in
    let long = length-map c.args.filed.now row in
    let all = c.requires.filed.count in
    let listed : k < length x.plan.now.groups.items = omega (arith, c.loop-group-test.true, long, all) in
    let here : map f c.deref.result.now ≡ needs_in ns k = lines_at ns (length x.plan.now.groups.items) c.args.filed.now c.requires.filed k listed c.index-filed-group.result c.index-filed-group.is c.deref.result.now c.deref.ensures.value in
    let old = c.loop-group.made.items in
    let made = c.in_ok-needs.needs in
    let kept = c.in_ok-kept.kept.items in
    let outer : AreOuterOf (map f kept) (needs_in ns k) = subst (AreOuterOf (map f kept)) here c.in_ok-kept.ensures in
    let gathered : IsGathered p k (map f kept) made = subst (λ (ls : List (Bor Need)). IsGathered p k (map f ls) made) c.as_slice.ensures.value c.in_ok-needs.ensures in
    let more : IsGathered p k (needs_in ns k) made = lines_outer p k (needs_in ns k) (map f kept) outer (lines_grouped p k ns c.requires.lines) made.numbers.items (map f made.moving.items) gathered in
    record {
      count = ap length c.in_ok-push.ensures.items ∙ length-append old (made ∷ []) ∙ ap (λ (n : ℕ). n + 1) c.loop-group.invariant.count;
      each = subst (λ (xs : List GroupNeeds). (g : ℕ) (y : GroupNeeds) → slice_get xs g ≡ Some y → IsGathered p g (needs_in ns g) y) (sym c.in_ok-push.ensures.items)
          (push_each (λ g y. IsGathered p g (needs_in ns g) y) old made c.loop-group.invariant.each (subst (λ (n : ℕ). IsGathered p n (needs_in ns n) made) (sym c.loop-group.invariant.count) more));
    }
