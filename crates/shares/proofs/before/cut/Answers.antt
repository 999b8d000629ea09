use Rattle.std.proofs.Common.{◌≡◌, ◌∙◌, ◌+◌, ◌++◌, ◌<◌, ◌≤◌, List, length, take, get_or, map, arith, ap, sym, subst, Option, Some}
use Rattle.std.specs.Prelude.{MatchOption, slice_get}
use Rattle.std.proofs.lemmas.List.{length-map}
use Rattle.plan.specs.Plan.{Group, Plan}
use Rattle.plan.specs.View.{group_of, plan_of}
use Rattle.plan.specs.declared.plan.Group.{Group as CodeGroup}
use Rattle.plan.specs.declared.certificate.cert.Own.{Own}
use Rattle.plan.specs.declared.certificate.cert.Need.{Need}
use Rattle.plan.specs.Certificate.Certificate.{Certificate, certificate_of}
use Rattle.shares.specs.Before.{blank_needs, wholes}
use Rattle.shares.specs.Shared.{IsLike}
use Rattle.shares.proofs.Cutting.{is_cut}
use Rattle.shares.proofs.Groups.{get_mapped}
use Rattle.shares.proofs.before.cut.Goals as goal

pub returns : goal.returns
returns c =
    let p : Plan = plan_of c.args.plan.now in
    let cert : Certificate = certificate_of c.args.cert.now in
    let d : Certificate = certificate_of (record { own = c.push_wholes.new.owns; needs = c.in_ok-needs.needs; claims = c.new.result; windows = c.new-2.result }) in
    let kept = c.kept_count-kept.result in
    let groups = c.args.plan.now.groups.items in
    let x = c.index.result.now in
    let region = c.in_ok-region.region in
    let whole_of : List CodeGroup → List Own = λ gs. wholes (map group_of gs) in
    let owns : d.own ≡ take kept cert.own ++ wholes p.groups =
    c.in_ok-push_wholes.ensures
    ∙ ap (λ (os : List Own). os ++ whole_of c.deref-2.result.now) (c.in_ok-own.ensures ∙ ap (λ (os : List Own). take kept os) c.deref.ensures.value)
    ∙ ap (λ (gs : List CodeGroup). take kept cert.own ++ whole_of gs) c.deref-2.ensures.value in
    let needs : d.needs ≡ blank_needs region cert.needs = c.in_ok-needs.ensures ∙ ap (blank_needs region) c.deref-3.ensures.value in
    let some = c.requires.some in
    let long = length-map groups group_of in
    let at : slice_get p.groups 0 ≡ Some (group_of x) = get_mapped group_of groups 0 x (omega (arith, some, long)) ∙ ap (λ (g : CodeGroup). Some (group_of g)) (sym c.index.ensures) in
    let len = c.len.ensures in
    let ok = x.grid.ok.0 in
    let many : c.len.result ≡ length x.grid.items = omega (arith, len, ok) in
    let first = subst (λ (o : Option Group). MatchOption o ⊥ (λ g. IsLike region (length g.grid))) (sym at) (subst (IsLike region) many c.in_ok-region.ensures) in
    is_cut p cert c.args.line c.requires.drawn c.requires.own kept c.kept_count-kept.ensures d owns region first needs
