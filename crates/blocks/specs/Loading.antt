-- Expressions as a plan stores them: each call of a stored function is a load by a claim.
-- What crates below need of it stands there: `sched`.
use Rattle.std.specs.Prelude.{ℕ, List}
use Rattle.blocks.specs.declared.loading.Load.{Load}

-- a function, and the claim by which it is loaded
abbrev pub load_of : Load → List ℕ × ℕ
load_of l = (l.function.now, l.claim)
