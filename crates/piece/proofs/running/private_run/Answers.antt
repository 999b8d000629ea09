use Rattle.std.proofs.Common.{◌≡◌, ◌<◌, List, ℕ, ℤ, Option, Some, MatchOption, length, map, sym, ap, ◌∙◌, subst}
use Rattle.std.specs.Prelude.{slice_get}
use Rattle.algo.specs.View.{picture_of, samples_of}
use Rattle.meaning.specs.Value.{Calls}
use Rattle.plan.specs.Plan.{Group, Plan}
use Rattle.plan.specs.declared.plan.Group.{Group as CodeGroup}
use Rattle.plan.specs.View.{group_of}
use Rattle.plan.specs.Certificate.Certificate.{Certificate}
use Rattle.plan.specs.Certificate.Cells.{pieces}
use Rattle.checked_plan.specs.declared.checked.Checked.{Checked}
use Rattle.checked_plan.specs.View.{algorithm_checked, certificate_checked, plan_checked}
use Rattle.checked_plan.specs.declared.output.plan_cells.PlanCells.{PlanCells}
use Rattle.headline.specs.Work.{looked_value, work_of}
use Rattle.interpreter.specs.Scratches.{IsScratchFor}
use Rattle.piece.specs.Looked.{cells_of_piece}
use Rattle.piece.specs.Places.Places.{IsPlaceOf}
use Rattle.piece.proofs.Runs.{listed, run_here, same_extents}
use Rattle.piece.proofs.running.private_run.Goals as goal

pub place_of-place-requires : goal.place_of-place-requires
place_of-place-requires c =
    let same = c.plan-plan.ensures ∙ ap (λ (z : Checked). plan_checked z) c.checked-checked.ensures in
    subst (λ (q : Plan). c.args.piece < length (pieces q)) (sym same) c.requires.piece

pub own-requires : goal.own-requires
own-requires c =
    let P : Checked → Type 0 = λ z. c.args.piece < length z.pieces.items in
    subst P (sym c.checked-checked.ensures) (listed c.args.cells.now.checked.now (samples_of c.args.inputs.now) c.args.piece c.requires.piece)

pub run_in-requires-clause-input : goal.run_in-requires-clause-input
run_in-requires-clause-input c =
    let x = c.args.cells.now.checked.now in
    let P : Checked → Type 0 = λ z. (picture_of c.args.inputs.now).extents ≡ (plan_checked z).input.extents in
    subst P (sym c.checked-checked.ensures) (c.requires.input.extents ∙ sym (same_extents (algorithm_checked x) (plan_checked x) (certificate_checked x) x.ready))

pub run_in-requires-clause-place : goal.run_in-requires-clause-place
run_in-requires-clause-place c =
    subst (λ (q : Plan). IsPlaceOf q.groups c.args.piece c.place_of-place.result.group c.place_of-place.result.rank) c.plan-plan.ensures c.place_of-place.ensures

pub run_in-requires-clause-memory : goal.run_in-requires-clause-memory
run_in-requires-clause-memory c =
    let y = c.checked-checked.result.now in
    let n = c.place_of-place.result.group in
    let k = c.place_of-place.result.rank in
    let place : IsPlaceOf (plan_checked y).groups c.args.piece n k = subst (λ (q : Plan). IsPlaceOf q.groups c.args.piece n k) c.plan-plan.ensures c.place_of-place.ensures in
    let stands = ap (λ (q : Plan). slice_get q.groups n) c.plan-plan.ensures ∙ place.at in
    let at = ap (λ (gs : List CodeGroup). slice_get (map group_of gs) n) c.deref.ensures.value ∙ stands in
    let x = c.in_ok-scratch.scratch in
    let fits = subst (λ (d : Certificate). IsScratchFor x d n place.g) c.cert.ensures (c.in_ok-scratch.ensures.fits n place.g at) in
    subst (λ (o : Option Group). MatchOption o ⊥ (IsScratchFor x (certificate_checked y) n)) (sym place.at) fits

pub returns-in-Ok : goal.returns-in-Ok
returns-in-Ok c =
    let y = c.checked-checked.result.now in
    let j = c.args.piece in
    let n = c.place_of-place.result.group in
    let k = c.place_of-place.result.rank in
    let samples = samples_of c.args.inputs.now in
    let looked = c.args.looked.now in
    let seen = c.in_ok-told.told in
    let place : IsPlaceOf (plan_checked y).groups j n k = subst (λ (q : Plan). IsPlaceOf q.groups j n k) c.plan-plan.ensures c.place_of-place.ensures in
    let T : Checked → ℕ → List ℤ → Calls = λ z m vs. looked_value (algorithm_checked z) (plan_checked z) (cells_of_piece (plan_checked z) m) vs in
    let same : seen.cells.now.checked.now ≡ y = ap (λ (z : PlanCells). z.checked.now) c.in_ok-told.ensures.0 ∙ sym c.checked-checked.ensures in
    let calls : T seen.cells.now.checked.now seen.piece seen.looked.items ≡ T y j looked = λ i. T (same i) (c.in_ok-told.ensures.1 i) (c.in_ok-told.ensures.2 i) in
    let run = run_here c.runs_are_the_work.ensures y samples looked (T seen.cells.now.checked.now seen.piece seen.looked.items) j n k place calls in
    let moved = ap (λ (z : Checked). (work_of (algorithm_checked z) (plan_checked z) (certificate_checked z) samples).private_run j looked) c.checked-checked.ensures in
    let items : List ℤ → Option (List ℤ) = λ vs. Some vs in
    ap items c.copy_given.ensures.items ∙ sym c.in-Ok.ensures.gives ∙ run ∙ moved

pub returns-in-Err-Fault : goal.returns-in-Err-Fault
returns-in-Err-Fault c =
    let y = c.checked-checked.result.now in
    let j = c.args.piece in
    let n = c.place_of-place.result.group in
    let k = c.place_of-place.result.rank in
    let samples = samples_of c.args.inputs.now in
    let looked = c.args.looked.now in
    let seen = c.in_ok-told.told in
    let place : IsPlaceOf (plan_checked y).groups j n k = subst (λ (q : Plan). IsPlaceOf q.groups j n k) c.plan-plan.ensures c.place_of-place.ensures in
    let T : Checked → ℕ → List ℤ → Calls = λ z m vs. looked_value (algorithm_checked z) (plan_checked z) (cells_of_piece (plan_checked z) m) vs in
    let same : seen.cells.now.checked.now ≡ y = ap (λ (z : PlanCells). z.checked.now) c.in_ok-told.ensures.0 ∙ sym c.checked-checked.ensures in
    let calls : T seen.cells.now.checked.now seen.piece seen.looked.items ≡ T y j looked = λ i. T (same i) (c.in_ok-told.ensures.1 i) (c.in_ok-told.ensures.2 i) in
    let run = run_here c.runs_are_the_work.ensures y samples looked (T seen.cells.now.checked.now seen.piece seen.looked.items) j n k place calls in
    let moved = ap (λ (z : Checked). (work_of (algorithm_checked z) (plan_checked z) (certificate_checked z) samples).private_run j looked) c.checked-checked.ensures in
    let none = rw c.in-Err-Fault.field-0-is at c.in-Err-Fault.ensures.gives in
    sym none ∙ run ∙ moved
