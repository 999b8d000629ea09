-- What is found by counting under what is known of symbols.
use Rattle.std.specs.Prelude.{◌≡◌, ℕ, List, length, sum_by, ℤ, int_le}
use Rattle.lin.specs.declared.span.Span1.{Span1}
use Rattle.plan.specs.Plan.{Statement, Statements}
use Rattle.plan.specs.Symbols.{Symbols, bind, points}
use Rattle.interpreter.specs.Narrow.{BlockIsNarrow, RegionIsNarrow, StatementIsNarrow}
use Rattle.report.specs.declared.known.Binding.{Binding}
use Rattle.report.specs.declared.counting.Turns.{Turns}
use Rattle.report.specs.Costs.{capped, up_to}
use Rattle.report.specs.Known.{AllowsAll}
use Rattle.report.specs.Ranges.{numbers, Holds}
use Rattle.report.specs.Tally.{block_tally, tally, Counted}

-- the region has so many points, whatever of these values the symbols have
abbrev pub IsPointCount : List Binding → List Span1 → ℕ → Type 0
IsPointCount known region n = (s : Symbols) → AllowsAll known s → RegionIsNarrow s region → n ≡ capped (length (points s region))

-- the forms that the statement comes to are small; what pieces own is not asked
abbrev pub Fits : Statement → Symbols → Type 0
Fits a s = StatementIsNarrow (λ _. Unit {0}) a s

abbrev pub BlockFits : Statements → Symbols → Type 0
BlockFits all s = BlockIsNarrow (λ _. Unit {0}) all s

-- the lines of the statement count so often, as far as is counted, whatever of these values the symbols have
pub record IsTally (x : Counted) (known : List Binding) (a : Statement) (n : ℕ) : Type 0 where
  pub is : (s : Symbols) → AllowsAll known s → Fits a s → up_to x.enough n ≡ up_to x.enough (tally x a s)

pub record IsBlockTally (x : Counted) (known : List Binding) (all : Statements) (n : ℕ) : Type 0 where
  pub is : (s : Symbols) → AllowsAll known s → BlockFits all s → up_to x.enough n ≡ up_to x.enough (block_tally x all s)

-- the symbols in a turn of a loop
abbrev pub in_turn : Symbols → Turns → ℤ → Symbols
in_turn s turns z = bind s turns.symbol z (int_le z turns.start)

-- the lines of a loop's body count so often in these turns, as far as is counted
pub record IsTurnsTally (x : Counted) (known : List Binding) (body : Statement) (turns : Turns) (n : ℕ) : Type 0 where
  pub is : (s : Symbols) → AllowsAll known s → ((z : ℤ) → Holds turns.range z → Fits body (in_turn s turns z))
      → up_to x.enough n ≡ up_to x.enough (sum_by (λ z. tally x body (in_turn s turns z)) (numbers turns.range))
