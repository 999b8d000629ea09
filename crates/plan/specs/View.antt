-- What a plan in memory says.
use Rattle.std.specs.Prelude.{ℕ, List, map, string_bytes}
use Rattle.tree.specs.Term.{term_of}
use Rattle.plan.specs.declared.stmt.Index.{Index as CodeIndex}
use Rattle.plan.specs.declared.stmt.Index.TheVariants.{Form as FormIndex, Found as FoundIndex}
use Rattle.plan.specs.declared.stmt.Coordinate.{Coordinate as CodeCoordinate}
use Rattle.plan.specs.declared.stmt.Stmt.{Stmt, Seq' as Block, For' as Loop, Let as Naming, First' as AtFirst, Guard' as Where, Alloc as Allocation, Fetch as Fetching, Store as Storing, Publish as Publishing, Row_of-Stmt, end_of-Stmt, more_of-Stmt}
use Rattle.plan.specs.declared.plan.Declaration.{Declaration as CodeDeclaration}
use Rattle.plan.specs.declared.plan.Group.{Group as CodeGroup}
use Rattle.plan.specs.declared.plan.Plan.{Plan as CodePlan}
use Rattle.plan.specs.Plan.{Index, At, Found, Coordinate, Statement, Seq, For, Let, First, Guard, Alloc, Fetch, Store, Publish, Statements, Empty, Then, Declaration, Group, Plan}

abbrev pub index_of : CodeIndex → Index
index_of (FormIndex form) = At form
index_of (FoundIndex e) = Found (term_of e)

abbrev pub coordinate_of : CodeCoordinate → Coordinate
coordinate_of c = record { variable = string_bytes c.variable; index = index_of c.index }

abbrev mutual
  pub statement_of : Stmt → Statement
  statement_of (Block shape all) = Seq (statements_of all)
  statement_of (Loop i x kind p body) = For i x kind (statement_of body)
  statement_of (Naming i pick forms) = Let i pick forms
  statement_of (AtFirst i p a q b) = First i (statement_of a) (statement_of b)
  statement_of (Where low high p body) = Guard low high (statement_of body)
  statement_of (Allocation b f places) = Alloc b (string_bytes f) places.items
  statement_of (Fetching b g region) = Fetch b g region
  statement_of (Storing b k at e) = Store b k (map coordinate_of at.items) (term_of e)
  statement_of (Publishing c) = Publish c

  pub statements_of : {n : _} → Row_of-Stmt n → Statements
  statements_of end_of-Stmt = Empty
  statements_of (more_of-Stmt a rest) = Then (statement_of a) (statements_of rest)

abbrev pub declaration_of : CodeDeclaration → Declaration
declaration_of d = record { name = string_bytes d.name; ty = d.ty; extents = d.extents.items }

abbrev pub group_of : CodeGroup → Group
group_of g = record { function = string_bytes g.function; region = g.region; grid = g.grid.items; body = statement_of g.body }

abbrev pub plan_of : CodePlan → Plan
plan_of p = record { name = string_bytes p.name; input = declaration_of p.input; output = declaration_of p.output; groups = map group_of p.groups.items }
