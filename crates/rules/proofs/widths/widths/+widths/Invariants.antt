use Rattle.std.proofs.Common.{◌≡◌, ℕ, drop}
use Rattle.plan.specs.Lists.{list_statements}
use Rattle.plan.specs.Plan.{block}
use Rattle.soundness.specs.Binders.View.{binders_of}
use Rattle.rules.specs.Widths.Widths.{block_wide_lines, told}
use Rattle.rules.proofs.widths.widths.+widths.Given as goal

-- the lines of the block are those of what is left of it, after the binders there
abbrev pub invariant-first_of_all-loop-stmt : goal.invariant-first_of_all-loop-stmt
invariant-first_of_all-loop-stmt g l = (n : ℕ) → l.line ≡ told n → (m : ℕ) × (l.next ≡ told m)
    × (block_wide_lines (g.B.Bounds.rules l.bounds) (binders_of l.binders) n (block (list_statements l.all))
    ≡ block_wide_lines (g.B.Bounds.rules l.bounds) (binders_of l.inside.items) m (block (list_statements (drop l.stmt-index l.all))))
