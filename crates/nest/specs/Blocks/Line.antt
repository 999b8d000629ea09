-- The lines of a plan's text, by what they say.
use Rattle.std.specs.Prelude.{ℕ, List}
use Rattle.tree.specs.Term.{Term}
use Rattle.lin.specs.Forms.{Form}
use Rattle.lin.specs.declared.span.Span1.{Span1}
use Rattle.plan.specs.declared.stmt.Kind.{Kind}
use Rattle.plan.specs.declared.stmt.Pick.{Pick}
use Rattle.plan.specs.declared.stmt.Places.{Places}
use Rattle.plan.specs.Plan.{Declaration, Coordinate}

pub data Line : Type 0 where
  PlanLine : (name : List ℕ) → Line
  InputLine : (input : Declaration) → Line
  OutputLine : (output : Declaration) → Line
  GroupLine : (number : ℕ) (function : List ℕ) (region : List Span1) (grid : List ℕ) → Line
  ForLine : (symbol : ℕ) (span : Span1) (kind : Kind) → Line
  LetLine : (symbol : ℕ) (pick : Pick) (forms : List Form) → Line
  FirstLine : (symbol : ℕ) → Line
  ElseLine : Line
  GuardLine : (low high : Form) → Line
  EndLine : Line
  AllocLine : (buffer : ℕ) (function : List ℕ) (places : List Places) → Line
  FetchLine : (buffer group : ℕ) (region : List Span1) → Line
  StoreLine : (buffer definition : ℕ) (coordinates : List Coordinate) (value : Term) → Line
  PublishLine : (claim : ℕ) → Line
