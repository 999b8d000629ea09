-- Plans as such: what their text says, without where its parts are stored.
use Rattle.std.specs.Prelude.{ℕ, List, [], ◌∷◌}
use Rattle.numeric.specs.declared.ty.Ty.{Ty}
use Rattle.tree.specs.Term.{Term}
use Rattle.lin.specs.Forms.{Form}
use Rattle.lin.specs.declared.span.Span1.{Span1}
use Rattle.plan.specs.declared.stmt.Kind.{Kind}
use Rattle.plan.specs.declared.stmt.Pick.{Pick}
use Rattle.plan.specs.declared.stmt.Places.{Places}

-- where a store writes: a form, or what an expression comes to
pub data Index : Type 0 where
  At : Form → Index
  Found : Term → Index

-- a variable and what it stands for
pub record Coordinate : Type 0 where
  pub variable : List ℕ
  pub index : Index

mutual
  pub data Statement : Type 0 where
    Seq : (statements : Statements) → Statement
    For : (symbol : ℕ) (span : Span1) (kind : Kind) (body : Statement) → Statement
    Let : (symbol : ℕ) (pick : Pick) (forms : List Form) → Statement
    First : (symbol : ℕ) (first later : Statement) → Statement
    Guard : (low high : Form) (body : Statement) → Statement
    Alloc : (buffer : ℕ) (function : List ℕ) (places : List Places) → Statement
    Fetch : (buffer group : ℕ) (region : List Span1) → Statement
    Store : (buffer definition : ℕ) (coordinates : List Coordinate) (value : Term) → Statement
    Publish : (claim : ℕ) → Statement

  pub data Statements : Type 0 where
    Empty : Statements
    Then : Statement → Statements → Statements

-- a list of statements as those of a block
abbrev pub block : List Statement → Statements
block [] = Empty
block (a ∷ rest) = Then a (block rest)

-- the name, type and extents of an input or output
pub record Declaration : Type 0 where
  pub name : List ℕ
  pub ty : Ty
  pub extents : List ℕ

-- the pieces of one root function
pub record Group : Type 0 where
  pub function : List ℕ
  pub region : List Span1
  pub grid : List ℕ
  pub body : Statement

pub record Plan : Type 0 where
  pub name : List ℕ
  pub input : Declaration
  pub output : Declaration
  pub groups : List Group
