-- The limits of an expression with calls put in, and when it is refused for them.
use Rattle.std.specs.Prelude.{ℕ, ◌≤◌, ⊤}
use Rattle.tree.specs.Term.{Term, Test, Terms}
use Rattle.tree.specs.Tree.{node_count, cond_count, node_counts, depth, test_depth, depths}
use Rattle.subst.specs.declared.error.SubstError.{SubstError}
use Rattle.subst.specs.declared.error.SubstError.TheVariants.{Memory, Updates, TooLarge}

-- within the limits: its nodes, and those on a way down
abbrev pub Within : ℕ → ℕ → Type 0
Within nodes levels = (nodes ≤ 4096) × (levels ≤ 256)

abbrev pub IsWithin : Term → Type 0
IsWithin e = Within (node_count e) (depth e)

abbrev pub IsTestWithin : Test → Type 0
IsTestWithin c = Within (cond_count c) (test_depth c)

-- the indices of one call
abbrev pub AreWithin : Terms → Type 0
AreWithin at = Within (node_counts at) (depths at)

-- a size is refused only where it passes the limits, unless memory ran out
abbrev pub IsSizeRefused : SubstError → ℕ → ℕ → Type 0
IsSizeRefused Memory nodes levels = ⊤
IsSizeRefused Updates nodes levels = ⊥
IsSizeRefused TooLarge nodes levels = ¬ Within nodes levels

abbrev pub IsRefused : SubstError → Term → Type 0
IsRefused error e = IsSizeRefused error (node_count e) (depth e)

abbrev pub IsTestRefused : SubstError → Test → Type 0
IsTestRefused error c = IsSizeRefused error (cond_count c) (test_depth c)

abbrev pub AreRefused : SubstError → Terms → Type 0
AreRefused error at = IsSizeRefused error (node_counts at) (depths at)

-- only memory ran out
abbrev pub IsMemory : SubstError → Type 0
IsMemory Memory = ⊤
IsMemory Updates = ⊥
IsMemory TooLarge = ⊥
