-- Loops that are written out turn by turn, and loops that run one turn after another: which of the two changes nothing of what a plan does.
use Rattle.std.specs.Prelude.{◌≡◌, ℕ, List, map, Some, ℤ, slice_get}
use Rattle.tree.specs.declared.value.Value.{Value}
use Rattle.plan.specs.declared.stmt.Kind.{Kind}
use Rattle.plan.specs.declared.stmt.Kind.TheVariants.{Serial, Unroll, Vector}
use Rattle.plan.specs.Plan.{Statement, Seq, For, Let, First, Guard, Alloc, Fetch, Store, Publish, Statements, Empty, Then, Group, Plan}
use Rattle.plan.specs.Lines.{group_line, certificate_line}
use Rattle.plan.specs.Symbols.{Symbols}
use Rattle.plan.specs.Certificate.Certificate.{Certificate}
use Rattle.plan.specs.Certificate.Cells.{cells, pieces}
use Rattle.plan.specs.Semantics.Actions.{Setting, actions}
use Rattle.plan.specs.Semantics.Setting.{piece_run}

-- the kind of a loop that is not written out
abbrev pub rolled_kind : Kind → Kind
rolled_kind Serial = Serial
rolled_kind Unroll = Serial
rolled_kind Vector = Vector

-- the same statement with none of its loops written out
abbrev mutual
  pub rolled : Statement → Statement
  rolled (Seq all) = Seq (block_rolled all)
  rolled (For i x kind body) = For i x (rolled_kind kind) (rolled body)
  rolled (Let i pick forms) = Let i pick forms
  rolled (First i a b) = First i (rolled a) (rolled b)
  rolled (Guard low high body) = Guard low high (rolled body)
  rolled (Alloc b f places) = Alloc b f places
  rolled (Fetch b g region) = Fetch b g region
  rolled (Store b k at e) = Store b k at e
  rolled (Publish c) = Publish c

  pub block_rolled : Statements → Statements
  block_rolled Empty = Empty
  block_rolled (Then a rest) = Then (rolled a) (block_rolled rest)

-- the same group and plan
abbrev pub group_rolled : Group → Group
group_rolled g = record { function = g.function; region = g.region; grid = g.grid; body = rolled g.body }

abbrev pub plan_rolled : Plan → Plan
plan_rolled p = record { name = p.name; input = p.input; output = p.output; groups = map group_rolled p.groups }

-- two plans that differ in nothing but in which of their loops are written out and which run one turn after another
abbrev pub AreAlike : Plan → Plan → Type 0
AreAlike p q = plan_rolled p ≡ plan_rolled q

-- both have the same cells, pieces and lines, and the piece of a group at a grid point gives the same, or makes a fault, in both
pub record DoTheSame (p q : Plan) : Type 0 where
  pub cells : cells p ≡ cells q
  pub pieces : pieces p ≡ pieces q
  pub lines : (n : ℕ) → group_line p n ≡ group_line q n
  pub certificate : certificate_line p ≡ certificate_line q
  pub runs : (c : Certificate) (samples : List ℕ) (cell : List ℕ → List ℤ → Value) (n : ℕ) (g h : Group) (at : List ℕ) →
      slice_get p.groups n ≡ Some g → slice_get q.groups n ≡ Some h → piece_run p c samples cell n g at ≡ piece_run q c samples cell n h at

-- a statement does the same, cell by cell, where none of its loops is written out
abbrev pub ActionsStay : Type 0
ActionsStay = (setting : Setting) (a : Statement) (s : Symbols) → actions setting a s ≡ actions setting (rolled a) s

abbrev pub AlikeDoTheSame : Type 0
AlikeDoTheSame = (p q : Plan) → AreAlike p q → DoTheSame p q
