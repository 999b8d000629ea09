-- What a picture is computed by.
use Rattle.std.specs.Prelude.{◌≡◌, List, ℕ, ⊤}
use Rattle.clap.specs.Words.{Text}
use Rattle.meaning.specs.Algorithm.{Algorithm}
use Rattle.algo.specs.declared.algorithm.Algo.{Algo}
use Rattle.algo.specs.View.{algorithm_of}
use Rattle.checked_plan.specs.declared.checked.Checked.{Checked}
use Rattle.checked_plan.specs.View.{algorithm_checked, certificate_checked, plan_checked}
use Rattle.commands.specs.declared.pipeline.fault.Fault.{Fault}
use Rattle.commands.specs.declared.pipeline.fault.Fault.TheVariants.{Memory}
use Rattle.commands.specs.Pipeline.PlanFiles.{IsAccepted}
use Rattle.plain.specs.Picture.{AllWithin}
use Rattle.commands.specs.Pipeline.Pictures.{IsBudgetSpent}
use Rattle.commands.specs.declared.picture.Means.{Means}
use Rattle.commands.specs.declared.picture.Means.TheVariants as means
use Rattle.commands.specs.Asked.{AskedWay, Plain, File}
use Rattle.commands.specs.Files.{Contents, Holds}
use Rattle.commands.specs.Pictures.{IsWithin, stores_told}

-- the algorithm whose picture it is
abbrev pub algo_meant : Means → Algo
algo_meant (means.Definitions algo most) = algo.now
algo_meant (means.File checked workers) = checked.algo.now

-- the file of that name is that of this checked plan of the algorithm
abbrev pub IsOfFile : Contents → Text → Algorithm → Checked → Type 0
IsOfFile files name a checked = (bytes : List ℕ) × Holds files name bytes × IsAccepted a bytes checked.plan checked.cert

-- how many stores a checked plan makes
abbrev pub stores_checked : Checked → ℕ
stores_checked x = stores_told (algorithm_checked x) (plan_checked x) (certificate_checked x)

-- an algorithm's picture is computed this way by these means: within the evaluations that are asked for; or by a file with the
-- file's plan, which the checker accepts, by as many workers as are asked for and within the stores
abbrev pub AreMeans : Contents → AskedWay → Algorithm → Means → Type 0
AreMeans files (Plain n) a (means.Definitions algo most) = most ≡ n
AreMeans files (File name n most) a (means.File checked m) = IsOfFile files name a checked × IsWithin most (stores_checked checked) × (m ≡ n)
AreMeans files _ _ _ = ⊥

-- no pixel took more evaluations than it may
abbrev pub IsAfforded : Means → List ℕ → Type 0
IsAfforded (means.Definitions algo most) samples = AllWithin (algorithm_of algo.now) samples most
IsAfforded (means.File checked workers) samples = ⊤

-- why no picture comes of them
abbrev pub IsHalted : Means → List ℕ → Fault → Type 0
IsHalted (means.Definitions algo most) samples fault = IsBudgetSpent (algorithm_of algo.now) samples most fault
IsHalted (means.File checked workers) samples fault = fault ≡ Memory
