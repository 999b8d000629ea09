-- Why no plan file comes of a schedule, step by step.
use Rattle.std.proofs.Common.{inl, inr, refl, List, ℕ, IfOk, Result, Ok, Err, string_bytes}
use Rattle.std.specs.Global.{Global}
use Rattle.std.specs.declared.string.String.{String}
use Rattle.meaning.specs.Algorithm.{Algorithm}
use Rattle.clap.specs.Words.{Text}
use Rattle.sched.specs.Schedule.{Schedule}
use Rattle.commands.specs.declared.pipeline.fault.Fault.{Fault}
use Rattle.commands.specs.declared.pipeline.fault.Fault.TheVariants.{Memory, Algo, Schedule as NoSchedule, Rule, Names, Plan, Form, Limit, Order, Image, Budget, Unfinished, Outside, Uncut, Difference}
use Rattle.stencil.specs.Compiles.{HasScheduleFile, IsPlanOfFile, IsScheduleFault}
use Rattle.commands.specs.Files.{Contents, SameFiles}
use Rattle.stencil.specs.Compiling.{IsPlanText, IsUnaccepted}
use Rattle.stencil.specs.Faults.{limit_fault}
use Rattle.commands.specs.Pipeline.PlanFiles.{HasPlan, IsFileRefused}
use Rattle.commands.proofs.Kept.{held_before}

-- what is said of a plan file's text that is refused is said of one that was compiled
pub unaccepted : (a : Algorithm) (text : List ℕ) (fault : Fault) → IsFileRefused a text fault → IsUnaccepted a text (limit_fault fault)
unaccepted a text Memory h = tt
unaccepted a text (Form line) h = inr (refl, inl h)
unaccepted a text (Limit line) h = inr (refl, inr h)
unaccepted a text (Plan code line) h = inl h
unaccepted a text (Algo code span) h = absurd h
unaccepted a text (NoSchedule code span) h = absurd h
unaccepted a text (Rule rule function) h = absurd h
unaccepted a text Names h = absurd h
unaccepted a text Order h = absurd h
unaccepted a text (Image e) h = absurd h
unaccepted a text Budget h = absurd h
unaccepted a text (Unfinished piece) h = absurd h
unaccepted a text Outside h = absurd h
unaccepted a text (Uncut name) h = absurd h
unaccepted a text Difference h = absurd h

-- what a schedule's file is afterwards it was before
pub schedule_before : (a b : Contents) (name : Text) (s : Schedule) → SameFiles a b → HasScheduleFile b name s → HasScheduleFile a name s
schedule_before a b name s same h = (h.0, held_before a b name h.0 same h.1, h.2)

pub schedule_fault_before : (a b : Contents) (name : Text) (fault : Fault) → SameFiles a b → IsScheduleFault b name fault → IsScheduleFault a name fault
schedule_fault_before a b name fault same (inl device) = inl device
schedule_fault_before a b name fault same (inr h) = inr (h.0, held_before a b name h.0 same h.1, h.2)

-- what is known of a plan file that was compiled, beside the file of its schedule
pub plan_of_file : (files : Contents) (a : Algorithm) (name : Text) (s : Schedule) → HasScheduleFile files name s → (r : Result (String Global) Fault)
    → IfOk r (λ file. IsPlanText a s (string_bytes file)) → IfOk r (λ file. HasPlan a (string_bytes file)) → IfOk r (λ file. IsPlanOfFile files a name (string_bytes file))
plan_of_file files a name s scheduled (Ok file) made planned = record { schedule = s; scheduled = scheduled; of_schedule = made; planned = planned }
plan_of_file files a name s scheduled (Err e) made planned = tt
