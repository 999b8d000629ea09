use Rattle.std.proofs.Common.{◌≡◌, ◌∙◌, ap, sym, List, Option, Some, None}
use Rattle.std.specs.Prelude.{MatchOption}
use Rattle.lin.proofs.Limits.{if_ok}
use Rattle.plan.specs.Plan.{Plan}
use Rattle.plan.specs.View.{plan_of}
use Rattle.plan.specs.Certificate.Certificate.{Certificate, certificate_of}
use Rattle.plan.specs.declared.certificate.cert.Need.{Need}
use Rattle.soundness.specs.declared.outline.refusals.code.K.TheVariants.{K11}
use Rattle.shares.specs.Made.{IsUnserved, need_place}
use Rattle.shares.specs.Owned.{IsLowestCode, IsParted}
use Rattle.shares.proofs.Codes.{lowest_none, lowest_alone}
use Rattle.shares.proofs.own.code_of_parted.Goals as goal

pub returns-in-Some : goal.returns-in-Some
returns-in-Some c =
    let x = c.args.layout.now in
    let p : Plan = plan_of x.plan.now in
    let cert : Certificate = certificate_of x.cert.now in
    let n = c.args.group in
    let parted : IsParted p cert n = c.requires.parted in
    let place : need_place cert.needs n ≡ Some c.in-Some.field-0 = ap (λ (ns : List Need). need_place ns n) (sym c.deref.ensures.value) ∙ sym c.need_place.ensures ∙ c.in-Some.is in
    lowest_none p cert n parted.apart parted.inside parted.whole c.in-Some.field-0 place

pub returns-in-None : goal.returns-in-None
returns-in-None c =
    let x = c.args.layout.now in
    let p : Plan = plan_of x.plan.now in
    let cert : Certificate = certificate_of x.cert.now in
    let n = c.args.group in
    let parted : IsParted p cert n = c.requires.parted in
    let alone : need_place cert.needs n ≡ None = ap (λ (ns : List Need). need_place ns n) (sym c.deref.ensures.value) ∙ sym c.need_place.ensures ∙ c.in-None.is in
    if_ok c.alone_code.result (λ code. MatchOption code (¬ IsUnserved p cert n) (λ k. (k ≡ K11) × IsUnserved p cert n)) (IsLowestCode p cert n) (λ code told. lowest_alone p cert n parted.apart parted.inside parted.whole alone code told)
    c.alone_code.ensures
