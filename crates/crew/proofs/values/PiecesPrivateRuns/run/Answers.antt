use Rattle.std.proofs.Common.{◌<◌, length, sym, ◌∙◌, subst, arith}
use Rattle.std.proofs.lemmas.Option.{same_Some}
use Rattle.algo.specs.View.{picture_of}
use Rattle.checked_plan.specs.View.{plan_checked}
use Rattle.plan.specs.Certificate.Cells.{pieces}
use Rattle.plan.specs.Plan.{Plan}
use Rattle.piece.specs.Places.Places.{IsPlaceOf}
use Rattle.crew.proofs.Runs as runs
use Rattle.crew.proofs.values.PiecesPrivateRuns.run.Goals as goal

pub place_of-place-requires : goal.place_of-place-requires
place_of-place-requires g c =
    let all = c.requires.runs.0.0.all in
    let lt = c.requires.piece in
    subst (λ (z : Plan). c.args.piece < length (pieces z)) (sym c.plan.ensures) (omega (arith, all, lt))

pub run_in-requires-clause-input : goal.run_in-requires-clause-input
run_in-requires-clause-input g c = c.requires.runs.0.0.extents

pub run_in-requires-clause-place : goal.run_in-requires-clause-place
run_in-requires-clause-place g c =
    let s = c.args.self.now in
    let q = s.checked.now in
    let n = c.place_of-place.result.group in
    let k = c.place_of-place.result.rank in
    let place : IsPlaceOf (plan_checked q).groups c.args.piece n k = subst (λ (z : Plan). IsPlaceOf z.groups c.args.piece n k) c.plan.ensures c.place_of-place.ensures in
    place

pub run_in-requires-clause-memory : goal.run_in-requires-clause-memory
run_in-requires-clause-memory g c =
    let s = c.args.self.now in
    let q = s.checked.now in
    let n = c.place_of-place.result.group in
    let k = c.place_of-place.result.rank in
    let place : IsPlaceOf (plan_checked q).groups c.args.piece n k = subst (λ (z : Plan). IsPlaceOf z.groups c.args.piece n k) c.plan.ensures c.place_of-place.ensures in
    runs.scratch g.J.Run.layout g.J.Run.values q (picture_of s.inputs.now) s.most c.requires.runs c.args.desk.now.scratch c.requires.scratch c.args.piece n k place

pub unreachable-requires : goal.unreachable-requires
unreachable-requires g c =
    let s = c.args.self.now in
    let q = s.checked.now in
    let n = c.place_of-place.result.group in
    let k = c.place_of-place.result.rank in
    let place : IsPlaceOf (plan_checked q).groups c.args.piece n k = subst (λ (z : Plan). IsPlaceOf z.groups c.args.piece n k) c.plan.ensures c.place_of-place.ensures in
    let some = runs.gives g.J.Run.layout g.J.Run.values q (picture_of s.inputs.now) s.most c.requires.runs c.args.desk.now.scratch c.requires.scratch c.args.piece n k place c.args.desk.now.looked c.requires.looked c.requires.piece in
    let room = runs.room g.J.Run.layout g.J.Run.values q (picture_of s.inputs.now) s.most c.requires.runs c.args.desk.now.scratch c.requires.scratch c.args.piece n k place c.args.desk.now.looked c.requires.looked c.requires.piece in
    runs.never _ _ _ _ _ c.in_default.ensures.gives some room

pub returns-clause-values : goal.returns-clause-values
returns-clause-values g c =
    let s = c.args.self.now in
    let q = s.checked.now in
    let n = c.place_of-place.result.group in
    let k = c.place_of-place.result.rank in
    let place : IsPlaceOf (plan_checked q).groups c.args.piece n k = subst (λ (z : Plan). IsPlaceOf z.groups c.args.piece n k) c.plan.ensures c.place_of-place.ensures in
    let some = runs.gives g.J.Run.layout g.J.Run.values q (picture_of s.inputs.now) s.most c.requires.runs c.args.desk.now.scratch c.requires.scratch c.args.piece n k place c.args.desk.now.looked c.requires.looked c.requires.piece in
    same_Some _ _ (sym c.in-Ok.ensures.gives ∙ some)

pub returns-clause-scratch : goal.returns-clause-scratch
returns-clause-scratch g c =
    let s = c.args.self.now in
    let q = s.checked.now in
    let n = c.place_of-place.result.group in
    let k = c.place_of-place.result.rank in
    let place : IsPlaceOf (plan_checked q).groups c.args.piece n k = subst (λ (z : Plan). IsPlaceOf z.groups c.args.piece n k) c.plan.ensures c.place_of-place.ensures in
    runs.again g.J.Run.layout g.J.Run.values q (picture_of s.inputs.now) s.most c.requires.runs c.args.desk.now.scratch c.requires.scratch c.args.piece n k place c.run_in.new.scratch c.in-Ok.ensures.memory
