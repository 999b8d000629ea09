use Rattle.std.proofs.Common.{rules, ◌≡◌, ◌<◌, ℤ, List, Option, Some, length, map, sym, ap, ◌∙◌, subst, arith}
use Rattle.std.specs.Prelude.{vec_capacity}
use Rattle.std.proofs.lemmas.List.{length-map}
use Rattle.std.proofs.lemmas.Option.{same_Some}
use Rattle.checked_plan.specs.View.{plan_checked}
use Rattle.checked_plan.specs.declared.output.plan_cells.PlanCells.{PlanCells}
use Rattle.plan.specs.Certificate.Cells.{pieces}
use Rattle.plan.specs.Plan.{Plan}
use Rattle.piece.specs.Places.Places.{IsPlaceOf}
use Rattle.steps.specs.Seats.{IsMost}
use Rattle.steps.specs.Work.{targets_on, work_on}
use Rattle.steps.proofs.OnePiece as runs
use Rattle.steps.proofs.job.PlanJobRuns.run.Goals as goal

pub place_of-place-requires : goal.place_of-place-requires
place_of-place-requires c = subst (λ (z : Plan). c.args.piece < length (pieces z)) (sym c.plan.ensures) c.requires.piece

pub tell-requires : goal.tell-requires
tell-requires c =
    let s = c.args.self.now in
    let work = work_on s.checked.now s.inputs.now in
    let long = ap length c.as_slice.ensures.value ∙ ap length c.requires.looked ∙ length-map (work.fetched c.args.piece) (targets_on s.checked.now s.inputs.now) in
    let room = (c.requires.desk.room c.args.piece c.requires.piece).0 in
    omega (arith, long, room)

pub run_in-requires-clause-input : goal.run_in-requires-clause-input
run_in-requires-clause-input c =
    let s = c.args.self.now in
    let x = s.checked.now in
    let i = s.inputs.now in
    let j = c.args.piece in
    let n = c.place_of-place.result.group in
    let k = c.place_of-place.result.rank in
    let place : IsPlaceOf (plan_checked x).groups j n k = subst (λ (z : Plan). IsPlaceOf z.groups j n k) c.plan.ensures c.place_of-place.ensures in
    runs.extents x i s.input c.args.desk.now.scratch c.requires.desk.scratch j n k place

pub run_in-requires-clause-place : goal.run_in-requires-clause-place
run_in-requires-clause-place c =
    let s = c.args.self.now in
    let x = s.checked.now in
    let i = s.inputs.now in
    let j = c.args.piece in
    let n = c.place_of-place.result.group in
    let k = c.place_of-place.result.rank in
    let place : IsPlaceOf (plan_checked x).groups j n k = subst (λ (z : Plan). IsPlaceOf z.groups j n k) c.plan.ensures c.place_of-place.ensures in
    place

pub run_in-requires-clause-memory : goal.run_in-requires-clause-memory
run_in-requires-clause-memory c =
    let s = c.args.self.now in
    let x = s.checked.now in
    let i = s.inputs.now in
    let j = c.args.piece in
    let n = c.place_of-place.result.group in
    let k = c.place_of-place.result.rank in
    let place : IsPlaceOf (plan_checked x).groups j n k = subst (λ (z : Plan). IsPlaceOf z.groups j n k) c.plan.ensures c.place_of-place.ensures in
    runs.scratch x i s.input c.args.desk.now.scratch c.requires.desk.scratch j n k place

pub unreachable-requires : goal.unreachable-requires
unreachable-requires c =
    let s = c.args.self.now in
    let x = s.checked.now in
    let i = s.inputs.now in
    let j = c.args.piece in
    let n = c.place_of-place.result.group in
    let k = c.place_of-place.result.rank in
    let place : IsPlaceOf (plan_checked x).groups j n k = subst (λ (z : Plan). IsPlaceOf z.groups j n k) c.plan.ensures c.place_of-place.ensures in
    let plan : c.tell.new.told.cells.now.checked.now ≡ x = ap (λ (z : PlanCells). z.checked.now) c.tell.ensures.same.0 ∙ c.requires.desk.plan in
    let values = c.tell.ensures.values ∙ c.as_slice.ensures.value in
    let right = runs.right x i s.input c.args.desk.now.scratch c.requires.desk.scratch j n k place c.runs_are_the_work.ensures c.tell.new.told c.args.numbers.now.items plan c.tell.ensures.same.1 values c.requires.piece c.requires.looked in
    let room = runs.room x i s.input c.args.desk.now.scratch c.requires.desk.scratch j n k place c.requires.piece in
    runs.never _ _ _ _ _ c.in_default.ensures.gives right room

pub copy_given-requires : goal.copy_given-requires
copy_given-requires c =
    let s = c.args.self.now in
    let x = s.checked.now in
    let i = s.inputs.now in
    let j = c.args.piece in
    let n = c.place_of-place.result.group in
    let k = c.place_of-place.result.rank in
    let place : IsPlaceOf (plan_checked x).groups j n k = subst (λ (z : Plan). IsPlaceOf z.groups j n k) c.plan.ensures c.place_of-place.ensures in
    let plan : c.tell.new.told.cells.now.checked.now ≡ x = ap (λ (z : PlanCells). z.checked.now) c.tell.ensures.same.0 ∙ c.requires.desk.plan in
    let values = c.tell.ensures.values ∙ c.as_slice.ensures.value in
    let work = work_on x i in
    let right = runs.right x i s.input c.args.desk.now.scratch c.requires.desk.scratch j n k place c.runs_are_the_work.ensures c.tell.new.told c.args.numbers.now.items plan c.tell.ensures.same.1 values c.requires.piece c.requires.looked in
    let given = same_Some _ _ (sym c.in-Ok.ensures.gives ∙ right) in
    let long = ap length given ∙ length-map (work.own j) (targets_on x i) in
    let room = (c.requires.room j c.requires.piece).1 in
    omega (arith, long, room)

pub returns-clause-desk : goal.returns-clause-desk
returns-clause-desk c =
    let s = c.args.self.now in
    let x = s.checked.now in
    let i = s.inputs.now in
    let j = c.args.piece in
    let n = c.place_of-place.result.group in
    let k = c.place_of-place.result.rank in
    let place : IsPlaceOf (plan_checked x).groups j n k = subst (λ (z : Plan). IsPlaceOf z.groups j n k) c.plan.ensures c.place_of-place.ensures in
    let plan : c.tell.new.told.cells.now.checked.now ≡ x = ap (λ (z : PlanCells). z.checked.now) c.tell.ensures.same.0 ∙ c.requires.desk.plan in
    let values = c.tell.ensures.values ∙ c.as_slice.ensures.value in
    record {
      scratch = runs.again x i s.input c.args.desk.now.scratch c.requires.desk.scratch j n k place c.run_in.new.scratch c.in-Ok.ensures.memory;
      plan = plan;
      room = subst (IsMost (work_on x i)) (sym c.tell.ensures.room) c.requires.desk.room;
    }

pub returns-clause-values : goal.returns-clause-values
returns-clause-values c =
    let s = c.args.self.now in
    let x = s.checked.now in
    let i = s.inputs.now in
    let j = c.args.piece in
    let n = c.place_of-place.result.group in
    let k = c.place_of-place.result.rank in
    let place : IsPlaceOf (plan_checked x).groups j n k = subst (λ (z : Plan). IsPlaceOf z.groups j n k) c.plan.ensures c.place_of-place.ensures in
    let plan : c.tell.new.told.cells.now.checked.now ≡ x = ap (λ (z : PlanCells). z.checked.now) c.tell.ensures.same.0 ∙ c.requires.desk.plan in
    let values = c.tell.ensures.values ∙ c.as_slice.ensures.value in
    let some : List ℤ → Option (List ℤ) = λ vs. Some vs in
    ap some c.copy_given.ensures.items ∙ sym c.in-Ok.ensures.gives ∙ runs.gives x i s.input c.args.desk.now.scratch c.requires.desk.scratch j n k place c.runs_are_the_work.ensures c.tell.new.told c.args.numbers.now.items plan c.tell.ensures.same.1 values
