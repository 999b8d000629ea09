-- Refusals of schedules, and of plan files that were made of them, as refusals of the program.
use Rattle.lower.specs.declared.error.LowerError.{LowerError}
use Rattle.lower.specs.declared.error.LowerError.TheVariants as lowering
use Rattle.soundness.specs.declared.outline.refusals.code.K.TheVariants.{K14}
use Rattle.commands.specs.declared.pipeline.fault.Fault.{Fault}
use Rattle.commands.specs.declared.pipeline.fault.Fault.TheVariants.{Memory, Rule, Plan, Form, Limit}
use Rattle.commands.specs.declared.pipeline.rule.BrokenRule.TheVariants.{Region}
use Rattle.commands.specs.Pipeline.Faults.{schedule_fault}

abbrev pub lower_fault : LowerError → Fault
lower_fault lowering.Memory = Memory
lower_fault (lowering.Schedule error) = schedule_fault error
lower_fault (lowering.Broken rule function) = Rule (Region rule) function

-- a plan file that was written by the compiler and is not read passes a limit
abbrev pub limit_fault : Fault → Fault
limit_fault (Form line) = Plan K14 line
limit_fault (Limit line) = Plan K14 line
limit_fault fault = fault
