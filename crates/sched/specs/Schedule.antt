-- A schedule as such: what its text says. The rows of a directive are those of the program's types, whose names are seen as their bytes.
use Rattle.std.specs.Prelude.{ℕ, List}
use Rattle.sched.specs.declared.schedule.Home.{Home}
use Rattle.sched.specs.declared.schedule.Fold.{Fold}
use Rattle.sched.specs.declared.schedule.Split.{Split}
use Rattle.sched.specs.declared.schedule.Tile.{Tile}

-- what is said of one function
pub data DirectiveText : Type 0 where
  compute_root : DirectiveText
  compute_at : Home → DirectiveText
  store_at : Home → DirectiveText
  fold : Fold → DirectiveText
  split : Split → DirectiveText
  tile : Tile → DirectiveText
  reorder : List (List ℕ) → DirectiveText
  unroll : List ℕ → DirectiveText
  vectorize : List ℕ → DirectiveText
  parallel : List ℕ → DirectiveText

-- a function's name and what is said of it
pub record ScheduledText : Type 0 where
  pub function : List ℕ
  pub directives : List DirectiveText

-- a whole schedule, in the order of its text
abbrev pub Schedule : Type 0
Schedule = List ScheduledText
