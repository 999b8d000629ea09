-- Lines that store.
use Rattle.std.specs.Prelude.{◌≡◌, Option, Some, None, map}
use Rattle.tree.specs.Term.{term_of}
use Rattle.plan.specs.Plan.{Statement, Seq, Store, Statements, Empty, Then}
use Rattle.plan.specs.View.{coordinate_of}
use Rattle.interpreter.specs.declared.runs.StoreLine.{StoreLine}

-- the statement of a block that has one alone
abbrev pub alone : Statements → Option Statement
alone Empty = None
alone (Then a Empty) = Some a
alone (Then a (Then b rest)) = None

-- and of a statement, in one block at most
abbrev pub one_line : Statement → Option Statement
one_line (Seq all) = alone all
one_line a = Some a

-- the statement is this line
pub record IsStore (a : Statement) (x : StoreLine) : Type 0 where
  pub is : a ≡ Store x.buffer x.definition (map coordinate_of x.coordinates.now) (term_of x.value.now)

-- the statement is this line, or a block of it alone
pub record IsStoreLine (a : Statement) (x : StoreLine) : Type 0 where
  pub line : Statement
  pub one : one_line a ≡ Some line
  pub store : IsStore line x
