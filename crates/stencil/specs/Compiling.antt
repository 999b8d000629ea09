-- From a schedule to the file of a plan: what a text is read as, and why no plan file comes of it.
use Rattle.std.specs.Prelude.{◌≡◌, ◌⊎◌, ℕ, true, List, ⊤}
use Rattle.meaning.specs.Algorithm.{Algorithm}
use Rattle.sched.specs.Schedule.{Schedule}
use Rattle.sched.specs.Grammar.{IsTextOf}
use Rattle.sched.specs.Legal.{IsLegal}
use Rattle.sched.specs.Text.{IsRefused as IsRefusedText}
use Rattle.sched.specs.declared.error.SchedError.{SchedError}
use Rattle.lower.specs.Stored.{stored_functions}
use Rattle.regions.specs.Faults.{are_whole}
use Rattle.lower.specs.Refused.{AreRegionsKept, AreSmall, AreUsesInside, IsRefused as IsRefusedSchedule}
use Rattle.lower.specs.Groups.{AreGroupsMade}
use Rattle.completeness.specs.Laws.{HasOwnLines, WholeStands}
use Rattle.completeness.specs.Fitting.{SplitsOnce}
use Rattle.completeness.specs.Told.{SplitsPlainly, TellsLimitsAlone}
use Rattle.completeness.specs.OfPlans.{file_text, IsFileOfPlan, AreStoresSmall, AreFormulasSmall}
use Rattle.lower.specs.declared.error.LowerError.{LowerError}
use Rattle.lower.specs.declared.lowering.Lowered.{Lowered}
use Rattle.soundness.specs.declared.outline.refusals.code.K.{K}
use Rattle.soundness.specs.declared.outline.refusals.code.K.TheVariants.{K14}
use Rattle.plan.specs.View.{plan_of}
use Rattle.plan.specs.declared.plan.Plan.{Plan as PlanMade}
use Rattle.plan.specs.declared.certificate.cert.Cert.{Cert}
use Rattle.plan.specs.Certificate.Certificate.{certificate_of}
use Rattle.spelling.specs.declared.lines.error.TextError.TheVariants as read
use Rattle.cert.specs.File.File.{IsRefusedFile}
use Rattle.commands.specs.declared.pipeline.fault.Fault.{Fault}
use Rattle.commands.specs.declared.pipeline.fault.Fault.TheVariants.{Memory, Plan}
use Rattle.commands.specs.Pipeline.Faults.{schedule_fault}
use Rattle.stencil.specs.Faults.{lower_fault}
use Rattle.commands.specs.Pipeline.PlanFiles.{IsAccepted, IsWrong}

-- ---- the schedule's text

-- the text stands for this schedule and nothing else
pub record IsScheduleText (text : List ℕ) (s : Schedule) : Type 0 where
  pub found : IsTextOf text s
  pub only : (other : Schedule) → IsTextOf text other → other ≡ s

-- the text is no schedule, for the reason that the error names
pub record IsScheduleRefused (text : List ℕ) (fault : Fault) : Type 0 where
  pub error : SchedError
  pub refused : IsRefusedText text error
  pub is : fault ≡ schedule_fault error

-- ---- the schedule

-- the schedule is refused for the algorithm, for the reason that the error names
pub record IsNotLowered (a : Algorithm) (s : Schedule) (fault : Fault) : Type 0 where
  pub error : LowerError
  pub refused : IsRefusedSchedule a s error
  pub is : fault ≡ lower_fault error

-- why there is no text of a plan: memory runs out, or the schedule is refused
abbrev pub IsUnwritten : Algorithm → Schedule → Fault → Type 0
IsUnwritten a s fault = (fault ≡ Memory) ⊎ IsNotLowered a s fault

-- ---- the plan

-- what `lower` says of the plan that it makes of a legal schedule, and of its certificate, and what follows: each group has a line of what its pieces own;
-- where whole functions make no inner loop of a split parallel and split none again, these part the cells and are served by those that they need; and where
-- loops are split plainly, whatever the checker tells is a limit; where they are split once at most, the text is a file of this plan alone, but for the limits of
-- files; and the stores of whole functions are small where their definitions are
pub record IsLowered (a : Algorithm) (s : Schedule) (l : Lowered) : Type 0 where
  pub legal : IsLegal a s
  pub small : AreSmall a s
  pub regions : AreRegionsKept a s
  pub uses : AreUsesInside a s
  pub groups : AreGroupsMade a s l
  pub own_lines : HasOwnLines (plan_of l.plan) (certificate_of l.certificate)
  pub shares : WholeStands a s l
  pub limits : SplitsPlainly a s → TellsLimitsAlone a (plan_of l.plan) (certificate_of l.certificate)
  pub file : SplitsOnce a s → IsFileOfPlan (plan_of l.plan) (certificate_of l.certificate)
  pub stores : are_whole (stored_functions a s) ≡ true → AreFormulasSmall a s → AreStoresSmall (plan_of l.plan)

-- the text of the plan that is made of the schedule, with its certificate
pub record IsPlanText (a : Algorithm) (s : Schedule) (text : List ℕ) : Type 0 where
  pub made : Lowered
  pub lowered : IsLowered a s made
  pub written : text ≡ file_text (plan_of made.plan) (certificate_of made.certificate)

-- the checker has accepted this plan with its certificate, as it was read of that text; where loops are split once at most, they are those that were made
pub record IsCompiledPlan (a : Algorithm) (s : Schedule) (plan : PlanMade) (cert : Cert) : Type 0 where
  pub text : List ℕ
  pub of_schedule : IsPlanText a s text
  pub accepted : IsAccepted a text plan cert
  pub same : SplitsOnce a s → (plan_of plan ≡ plan_of of_schedule.made.plan) × (certificate_of cert ≡ certificate_of of_schedule.made.certificate)

-- the reader of plan files refuses the text at this line
abbrev pub IsUnread : List ℕ → ℕ → Type 0
IsUnread text line = IsRefusedFile text (read.Form line) ⊎ IsRefusedFile text (read.Limit line)

-- why the text of a compiled plan is not accepted: it says a plan that the checker rightly refuses with this code and line, or the
-- reader refuses it at the line, which is told as K14; want of memory says nothing
abbrev pub IsUnaccepted : Algorithm → List ℕ → Fault → Type 0
IsUnaccepted a text Memory = ⊤
IsUnaccepted a text (Plan code line) = IsWrong a text code line ⊎ ((code ≡ K14) × IsUnread text line)
IsUnaccepted a text _ = ⊥

-- a limit is told of the text, as K14: one of the checker's, which its plan passes at this line, or one of the reader's, which this line of the text passes;
-- want of memory says nothing
abbrev pub IsLimit : Algorithm → List ℕ → Fault → Type 0
IsLimit a text Memory = ⊤
IsLimit a text (Plan code line) = (code ≡ K14) × (IsWrong a text code line ⊎ IsRefusedFile text (read.Limit line))
IsLimit a text _ = ⊥

-- the schedule is legal, and the text of the plan that is made of it is not accepted: where loops are split plainly, for a limit; and where they are split once at
-- most and definitions are small, the text is read, and it is the checker that refuses its plan
pub record IsRefusedPlan (a : Algorithm) (s : Schedule) (fault : Fault) : Type 0 where
  pub text : List ℕ
  pub of_schedule : IsPlanText a s text
  pub refused : IsUnaccepted a text fault
  pub limit : SplitsPlainly a s → IsLimit a text fault
  pub wrong : SplitsOnce a s → AreFormulasSmall a s → (code : K) (line : ℕ) → fault ≡ Plan code line → IsWrong a text code line

-- why no plan file comes of a schedule
abbrev pub IsNotCompiled : Algorithm → Schedule → Fault → Type 0
IsNotCompiled a s fault = (fault ≡ Memory) ⊎ (IsNotLowered a s fault ⊎ IsRefusedPlan a s fault)
