-- An algorithm as such: what its text says, without where its parts are stored or stand in the text.
use Rattle.std.specs.Prelude.{ℕ, List, ℤ}
use Rattle.numeric.specs.declared.ty.Ty.{Ty}
use Rattle.tree.specs.Term.{Term}

-- a reduction variable and its range, both ends included
pub record Range : Type 0 where
  pub variable : List ℕ
  pub low : ℤ
  pub high : ℤ

-- an update: its reduction domain, the place that it sets, and what it sets there
pub record Change : Type 0 where
  pub ranges : List Range
  pub at : List Term
  pub value : Term

-- a function: its pure definition over its variables, and its updates in order
pub record Function : Type 0 where
  pub name : List ℕ
  pub ty : Ty
  pub variables : List (List ℕ)
  pub value : Term
  pub changes : List Change

-- one input, functions in order, and the output, which is one of them, over its extents
pub record Algorithm : Type 0 where
  pub name : List ℕ
  pub input : List ℕ
  pub input_ty : Ty
  pub input_extents : List ℕ
  pub functions : List Function
  pub output : List ℕ
  pub output_extents : List ℕ
