-- Statements and groups in lists.
use Rattle.std.specs.Prelude.{List, map}
use Rattle.plan.specs.declared.stmt.Stmt.{Stmt}
use Rattle.plan.specs.declared.plan.Group.{Group as CodeGroup}
use Rattle.plan.specs.Plan.{Statement, Group}
use Rattle.plan.specs.View.{statement_of, group_of}

abbrev pub list_statements : List Stmt → List Statement
list_statements = map statement_of

abbrev pub list_groups : List CodeGroup → List Group
list_groups = map group_of
