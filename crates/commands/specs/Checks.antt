-- What the command that checks a plan file finds.
use Rattle.std.specs.Prelude.{◌⊎◌, ℕ, List}
use Rattle.meaning.specs.Algorithm.{Algorithm}
use Rattle.algo.specs.Refusal.{IsAlgorithmText}
use Rattle.commands.specs.declared.pipeline.fault.Fault.{Fault}
use Rattle.commands.specs.Asked.{AskedCheck}
use Rattle.commands.specs.Files.{Contents, Holds}
use Rattle.commands.specs.Pictures.{HasPlanFile, IsOfDevice, IsPlanFault, IsTextFault}

-- the one file is an algorithm's text, and the other the file of a plan of it that the checker accepts
pub record IsChecked (files : Contents) (a : AskedCheck) : Type 0 where
  pub text : List ℕ
  pub algorithm : Algorithm
  pub holds_text : Holds files a.algorithm text
  pub is_text : IsAlgorithmText text algorithm
  pub planned : HasPlanFile files a.plan algorithm

-- the algorithm's text is refused
pub record TextRefused (files : Contents) (a : AskedCheck) (fault : Fault) : Type 0 where
  pub text : List ℕ
  pub holds_text : Holds files a.algorithm text
  pub refused : IsTextFault text fault

-- it is accepted, and the plan file is refused
pub record PlanRefused (files : Contents) (a : AskedCheck) (fault : Fault) : Type 0 where
  pub text : List ℕ
  pub algorithm : Algorithm
  pub holds_text : Holds files a.algorithm text
  pub is_text : IsAlgorithmText text algorithm
  pub refused : IsPlanFault files a.plan algorithm fault

-- why a plan is not accepted, or the answer can't be told
abbrev pub IsCheckRefused : Contents → AskedCheck → Fault → Type 0
IsCheckRefused files a fault = IsOfDevice fault ⊎ (TextRefused files a fault ⊎ PlanRefused files a fault)
