-- Plans whose names and expressions a text can say.
use Rattle.std.specs.Prelude.{◌≡◌, ◌<◌, ◌≤◌, ◌⊎◌, ℕ, List, ◌∷◌, length, Some, slice_get}
use Rattle.std.specs.List.{AllByRecursion}
use Rattle.std.specs.Fmt.{decimal}
use Rattle.tree.specs.Term.{Term}
use Rattle.tree.specs.Tree.{depth}
use Rattle.meaning.specs.Algorithm.{Algorithm}
use Rattle.algo.specs.Words.{IsName, IsNamed}
use Rattle.algo.specs.Written.{IsWrittenBy, AreExpressionsWritten}
use Rattle.plan.specs.Plan.{Index, At, Found, Coordinate, Statement, Seq, For, Let, First, Guard, Alloc, Fetch, Store, Publish, Statements, Empty, Then, Group, Plan}
use Rattle.plan.specs.Certificate.Certificate.{Certificate}
use Rattle.completeness.specs.Laws.{NamesNoLoad, OfWholeFunctions}

-- `@`, whose code is 64, and the number of a claim, of so many
abbrev pub IsLoadOf : ℕ → List ℕ → Type 0
IsLoadOf count x = (k : ℕ) × (k < count) × (x ≡ 64 ∷ decimal k)

-- a name of a text, or a load by a claim
abbrev pub IsCalledBy : ℕ → List ℕ → Type 0
IsCalledBy count x = IsName x ⊎ IsLoadOf count x

-- a text says the expression, its calls by such names, and it has at most 256 levels
pub record IsSaid (count : ℕ) (e : Term) : Type 0 where
  pub written : IsWrittenBy (IsCalledBy count) e
  pub levels : depth e ≤ 256

abbrev pub IsIndexSaid : ℕ → Index → Type 0
IsIndexSaid count (At form) = Unit {0}
IsIndexSaid count (Found e) = IsSaid count e

pub record IsCoordinateSaid (count : ℕ) (c : Coordinate) : Type 0 where
  pub variable : IsName c.variable
  pub index : IsIndexSaid count c.index

-- the same of each function, each coordinate and each stored expression that a statement names
abbrev mutual
  pub IsStatementSaid : ℕ → Statement → Type 0
  IsStatementSaid count (Seq all) = AreStatementsSaid count all
  IsStatementSaid count (For i x kind body) = IsStatementSaid count body
  IsStatementSaid count (Let i pick forms) = Unit {0}
  IsStatementSaid count (First i a b) = IsStatementSaid count a × IsStatementSaid count b
  IsStatementSaid count (Guard low high body) = IsStatementSaid count body
  IsStatementSaid count (Alloc b f places) = IsName f
  IsStatementSaid count (Fetch b g region) = Unit {0}
  IsStatementSaid count (Store b k at e) = AllByRecursion (IsCoordinateSaid count) at × IsSaid count e
  IsStatementSaid count (Publish k) = Unit {0}

  pub AreStatementsSaid : ℕ → Statements → Type 0
  AreStatementsSaid count Empty = Unit {0}
  AreStatementsSaid count (Then a rest) = IsStatementSaid count a × AreStatementsSaid count rest

pub record IsGroupSaid (count : ℕ) (g : Group) : Type 0 where
  pub function : IsName g.function
  pub body : IsStatementSaid count g.body

-- all names of the plan, and its expressions, whose loads are by the certificate's claims, of which there are few
pub record IsPlanSaid (p : Plan) (c : Certificate) : Type 0 where
  pub name : IsName p.name
  pub input : IsName p.input.name
  pub output : IsName p.output.name
  pub few : length c.claims < 10000
  pub groups : (k : ℕ) (g : Group) → slice_get p.groups k ≡ Some g → IsGroupSaid (length c.claims) g

-- so it is of the plan that is made of an algorithm whose names and expressions a text says, under a schedule under which each stored function is a root function that
-- is computed at no loop, whatever the loops
abbrev pub PlansAreSaid : Type 0
PlansAreSaid = OfWholeFunctions (λ a p c. IsNamed a → AreExpressionsWritten a → IsPlanSaid p c)

-- and where the algorithm's names are those of a text, none reads as a load
abbrev pub NamesAreNoLoads : Type 0
NamesAreNoLoads = (a : Algorithm) → IsNamed a → NamesNoLoad a
