use Rattle.std.proofs.Common.{◌≡◌, ◌∙◌, ◌+◌, ◌++◌, ◌∷◌, [], ℕ, List, length, map, arith, ap, sym, subst, append_assoc, Some}
use Rattle.std.specs.List.{range_with_len}
use Rattle.std.proofs.lemmas.List.{append-nil, length-map}
use Rattle.std.proofs.lemmas.List.FromFn.{map-range_with_len_more}
use Rattle.plan.specs.Plan.{Group}
use Rattle.plan.specs.View.{group_of}
use Rattle.plan.specs.declared.plan.Group.{Group as CodeGroup}
use Rattle.plan.specs.declared.certificate.cert.Own.{Own}
use Rattle.shares.specs.Before.{whole}
use Rattle.shares.proofs.Cutting.{whole_here}
use Rattle.shares.proofs.before.push_wholes.Goals as goal

pub loop-number-init : goal.loop-number-init
loop-number-init c = sym (append-nil c.args.owns.now.items)

pub loop-number-preserved : goal.loop-number-preserved
loop-number-preserved c =
    let n = c.loop-number.number in
    let begun = c.args.owns.now.items in
    let gs : List Group = map group_of c.args.groups.now in
    let row : List Own = map (whole gs) (range_with_len 0 n) in
    let made : Own = record { group = n; region = c.in_ok-region.region } in
    let is : made ≡ whole gs n = whole_here c.args.groups.now n c.index-groups-number.result c.in_ok-region.region (let less = c.loop-number-test.true in let end = c.loop-number.auto.number-end in omega (arith, less, end)) c.index-groups-number.is (c.in_ok-region.ensures ∙ ap (λ (g : CodeGroup). g.region) (sym c.index-groups-number.is)) in
    c.in_ok-push.ensures.items ∙ ap (λ (xs : List Own). xs ++ made ∷ []) c.loop-number.invariant
    ∙ ap (λ (x : Own). (begun ++ row) ++ x ∷ []) is
    ∙ append_assoc begun row (whole gs n ∷ [])
    ∙ ap (λ (xs : List Own). begun ++ xs) (sym (map-range_with_len_more (whole gs) 0 n n (let e : 0 + n ≡ n = omega arith in e)))

pub returns : goal.returns
returns c =
    let gs : List Group = map group_of c.args.groups.now in
    let begun = c.args.owns.now.items in
    let end = c.loop-number.auto.number-end in
    let many = length-map c.args.groups.now group_of in
    let all : c.loop-number.number ≡ length gs = omega (arith, c.loop-number-test.false, end, many) in
    subst (λ (n : ℕ). c.loop-number.owns.items ≡ begun ++ map (whole gs) (range_with_len 0 n)) all c.loop-number.invariant
