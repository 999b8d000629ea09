-- What the command that compiles a schedule does to the files.
use Rattle.std.specs.Prelude.{◌⊎◌, ℕ, List}
use Rattle.clap.specs.Words.{Text}
use Rattle.meaning.specs.Algorithm.{Algorithm}
use Rattle.algo.specs.Refusal.{IsAlgorithmText}
use Rattle.sched.specs.Schedule.{Schedule}
use Rattle.commands.specs.declared.pipeline.fault.Fault.{Fault}
use Rattle.commands.specs.Asked.{AskedCompile}
use Rattle.commands.specs.Files.{Contents, Holds, IsPut, Puts, SameFiles, SameOthers}
use Rattle.commands.specs.Pictures.{IsOfDevice, IsTextFault, IsUnput}
use Rattle.stencil.specs.Compiling.{IsNotCompiled, IsPlanText, IsScheduleRefused, IsScheduleText}
use Rattle.commands.specs.Pipeline.PlanFiles.{HasPlan}

-- there is a file of that name, and it is the text of this schedule
abbrev pub HasScheduleFile : Contents → Text → Schedule → Type 0
HasScheduleFile files name s = (bytes : List ℕ) × Holds files name bytes × IsScheduleText bytes s

-- why it is that of none: the device or memory, or its bytes are no schedule's text
abbrev pub IsScheduleFault : Contents → Text → Fault → Type 0
IsScheduleFault files name fault = IsOfDevice fault ⊎ ((bytes : List ℕ) × Holds files name bytes × IsScheduleRefused bytes fault)

-- the bytes are the file of the plan that is made of the algorithm by that file's schedule, and the checker accepts it
pub record IsPlanOfFile (files : Contents) (a : Algorithm) (name : Text) (bytes : List ℕ) : Type 0 where
  pub schedule : Schedule
  pub scheduled : HasScheduleFile files name schedule
  pub of_schedule : IsPlanText a schedule bytes
  pub planned : HasPlan a bytes

-- why there is none
abbrev pub IsUncompiled : Contents → Algorithm → Text → Fault → Type 0
IsUncompiled files a name fault = IsScheduleFault files name fault ⊎ ((s : Schedule) × HasScheduleFile files name s × IsNotCompiled a s fault)

-- the plan file was put, and nothing else
abbrev pub IsPlanPut : Contents → Contents → AskedCompile → Algorithm → Type 0
IsPlanPut old new a x = IsPut old new a.plan (IsPlanOfFile old x a.schedule)

-- why it was not put, and what stands then
abbrev pub IsPlanUnput : Contents → Contents → AskedCompile → Algorithm → Fault → Type 0
IsPlanUnput old new a x fault = IsUnput old new a.plan (IsPlanOfFile old x a.schedule) (IsUncompiled old x a.schedule) fault

-- ---- what is done

-- the bytes are the file of the plan that is made of the one file's algorithm by the other file's schedule, which is legal, and the checker accepts it
pub record IsCompiled (files : Contents) (a : AskedCompile) (bytes : List ℕ) : Type 0 where
  pub text : List ℕ
  pub algorithm : Algorithm
  pub schedule : Schedule
  pub holds_text : Holds files a.algorithm text
  pub is_text : IsAlgorithmText text algorithm
  pub scheduled : HasScheduleFile files a.schedule schedule
  pub of_schedule : IsPlanText algorithm schedule bytes
  pub planned : HasPlan algorithm bytes

-- the plan file was put, and nothing else
abbrev pub IsDone : Contents → Contents → AskedCompile → Type 0
IsDone old new a = (bytes : List ℕ) × IsCompiled old a bytes × Puts old new a.plan bytes

-- ---- why something is refused

-- the algorithm's text is refused
pub record TextRefused (files : Contents) (a : AskedCompile) (fault : Fault) : Type 0 where
  pub text : List ℕ
  pub holds_text : Holds files a.algorithm text
  pub refused : IsTextFault text fault

-- it is accepted, and the schedule's text is refused
pub record ScheduleRefused (files : Contents) (a : AskedCompile) (fault : Fault) : Type 0 where
  pub text : List ℕ
  pub algorithm : Algorithm
  pub holds_text : Holds files a.algorithm text
  pub is_text : IsAlgorithmText text algorithm
  pub refused : IsScheduleFault files a.schedule fault

-- both texts are accepted, and no plan file comes of the schedule
pub record PlanRefused (files : Contents) (a : AskedCompile) (fault : Fault) : Type 0 where
  pub text : List ℕ
  pub algorithm : Algorithm
  pub schedule : Schedule
  pub holds_text : Holds files a.algorithm text
  pub is_text : IsAlgorithmText text algorithm
  pub scheduled : HasScheduleFile files a.schedule schedule
  pub refused : IsNotCompiled algorithm schedule fault

-- why nothing was put
abbrev pub IsReason : Contents → AskedCompile → Fault → Type 0
IsReason files a fault = IsOfDevice fault ⊎ (TextRefused files a fault ⊎ (ScheduleRefused files a fault ⊎ PlanRefused files a fault))

-- the plan was compiled and checked, and its file could not be put
abbrev pub IsNotPut : Contents → Contents → AskedCompile → Fault → Type 0
IsNotPut old new a fault = IsOfDevice fault × SameOthers old new a.plan × ((bytes : List ℕ) × IsCompiled old a bytes)

-- nothing was put, for a reason; or all else had succeeded, and all files but the plan are as before
abbrev pub IsRefused : Contents → Contents → AskedCompile → Fault → Type 0
IsRefused old new a fault = (SameFiles old new × IsReason old a fault) ⊎ IsNotPut old new a fault
