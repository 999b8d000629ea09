-- Refusals of the crates below as refusals of the program.
use Rattle.std.specs.Prelude.{ℕ}
use Rattle.algo.specs.declared.error.AlgoError.{AlgoError}
use Rattle.algo.specs.declared.error.AlgoError.TheVariants as text
use Rattle.algo.specs.declared.error.Code.TheVariants.{BadToken, BadForm, TooLarge}
use Rattle.sched.specs.declared.error.SchedError.{SchedError}
use Rattle.sched.specs.declared.error.SchedError.TheVariants as schedule
use Rattle.sched.specs.Rules.{number_of as directive_number}
use Rattle.sched.specs.RegionRules.{region_number}
use Rattle.spelling.specs.declared.lines.error.TextError.{TextError}
use Rattle.spelling.specs.declared.lines.error.TextError.TheVariants as read
use Rattle.audit.specs.declared.refusal.CheckError.{CheckError}
use Rattle.audit.specs.declared.refusal.CheckError.TheVariants as plan
use Rattle.plain.specs.declared.error.PlainError.{PlainError}
use Rattle.plain.specs.declared.error.PlainError.TheVariants as plain
use Rattle.crop.specs.declared.error.CropError.{CropError}
use Rattle.crop.specs.declared.error.CropError.TheVariants as crop
use Rattle.crop.specs.declared.scene_error.SceneError.{SceneError}
use Rattle.crop.specs.declared.scene_error.SceneError.TheVariants as scene
use Rattle.pnm.specs.declared.error.PnmError.{PnmError}
use Rattle.pnm.specs.declared.error.PnmError.TheVariants as image
use Rattle.commands.specs.declared.pipeline.fault.Fault.{Fault}
use Rattle.commands.specs.declared.pipeline.rule.BrokenRule.{BrokenRule}
use Rattle.commands.specs.declared.pipeline.rule.BrokenRule.TheVariants.{Directive, Region}
use Rattle.crew.specs.declared.running.RunError.{RunError}
use Rattle.crew.specs.declared.running.RunError.TheVariants as run
use Rattle.commands.specs.declared.pipeline.fault.Fault.TheVariants.{Memory, Algo, Schedule, Rule, Names, Plan, Image, Form, Limit, Budget, Unfinished, Outside, Uncut}

abbrev pub text_fault : AlgoError → Fault
text_fault text.Memory = Memory
text_fault (text.Refused code span) = Algo code span

abbrev pub scene_fault : SceneError → Fault
scene_fault (scene.Text e) = text_fault e
scene_fault (scene.Reduction name) = Uncut name

abbrev pub crop_fault : CropError → Fault
crop_fault crop.Memory = Memory
crop_fault crop.Outside = Outside
crop_fault (crop.Limit name) = Uncut name

abbrev pub schedule_fault : SchedError → Fault
schedule_fault schedule.Memory = Memory
schedule_fault (schedule.BadToken span) = Schedule BadToken span
schedule_fault (schedule.BadForm span) = Schedule BadForm span
schedule_fault (schedule.TooLarge span) = Schedule TooLarge span
schedule_fault (schedule.Broken rule function) = Rule (Directive rule) function
schedule_fault schedule.UnfitNames = Names

-- the number of a rule of schedules
abbrev pub rule_number : BrokenRule → ℕ
rule_number (Directive rule) = directive_number rule
rule_number (Region rule) = region_number rule

abbrev pub read_fault : TextError → Fault
read_fault read.Memory = Memory
read_fault (read.Form line) = Form line
read_fault (read.Limit line) = Limit line

abbrev pub plan_fault : CheckError → Fault
plan_fault plan.Memory = Memory
plan_fault (plan.Refused code line) = Plan code line

abbrev pub image_fault : PnmError → Fault
image_fault image.Memory = Memory
image_fault e = Image e

abbrev pub plain_fault : PlainError → Fault
plain_fault plain.Memory = Memory
plain_fault plain.Budget = Budget

abbrev pub run_fault : RunError → Fault
run_fault run.Memory = Memory
run_fault (run.Unfinished piece) = Unfinished piece
