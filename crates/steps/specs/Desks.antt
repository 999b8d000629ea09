-- The memory that the private runs of a checked plan's pieces take.
use Rattle.std.specs.Prelude.{◌≡◌, vec_capacity}
use Rattle.algo.specs.declared.inputs.Inputs.{Inputs}
use Rattle.checked_plan.specs.declared.checked.Checked.{Checked}
use Rattle.checked_plan.specs.View.{plan_checked, certificate_checked}
use Rattle.interpreter.specs.Scratches.{room_of, IsScratchForAll}
use Rattle.interpreter.specs.declared.scratch.Scratch.{Scratch}
use Rattle.orders.specs.Work.{Work}
use Rattle.plan.specs.Plan.{Plan}
use Rattle.plan.specs.Certificate.Certificate.{Certificate}
use Rattle.steps.specs.Seats.{IsMost}
use Rattle.steps.specs.Work.{work_on}
use Rattle.steps.specs.declared.desk.Desk.{Desk}

-- the scratch has all the memory that a run of any piece takes
pub record HasMemory (work : Work) (p : Plan) (c : Certificate) (x : Scratch) : Type 0 where
  pub groups : IsScratchForAll x c p.groups
  pub given : IsMost work (room_of x)

-- the desk has the memory of each piece's run, and room for what it is told
pub record IsDeskFor (x : Checked) (i : Inputs) (d : Desk) : Type 0 where
  pub scratch : HasMemory (work_on x i) (plan_checked x) (certificate_checked x) d.scratch
  pub plan : d.told.cells.now.checked.now ≡ x
  pub room : IsMost (work_on x i) (vec_capacity d.told.looked)
