-- What names stand for, by an algorithm, its input, bindings, and the answers so far.
use Rattle.std.specs.Prelude.{◌≡◌, ◌≢◌, ◌<◌, ℕ, List, [], true, false, ℤ, pos, slice_index_or, take, All, Option, Some, None}
use Rattle.std.proofs.Props.{props}
use Rattle.numeric.specs.declared.ty.Ty.{Ty}
use Rattle.numeric.specs.declared.ty.Ty.TheVariants.{U8}
use Rattle.tree.specs.Term.{Number}
use Rattle.tree.specs.Names.{IsIndex, AnswersWithin}
use Rattle.meaning.specs.Conditions.{callable}
use Rattle.meaning.specs.Image.View.{Picture}
use Rattle.meaning.specs.Image.Raster.{sample}
use Rattle.meaning.specs.Algorithm.{Change, Function, Algorithm}
use Rattle.meaning.specs.Names.{same_name}
use Rattle.plain.specs.Works.{Entry, recorded}

-- the k-th function, counted from 0
abbrev pub function_at : Algorithm → ℕ → Function
function_at a k = slice_index_or a.functions k (record { name = []; ty = U8; variables = []; value = Number U8 (pos 0); changes = [] })

-- the i-th update of a function, counted from 0
abbrev pub change_at : Function → ℕ → Change
change_at f i = slice_index_or f.changes i (record { ranges = []; at = []; value = Number U8 (pos 0) })

-- none of the first k functions has the name
abbrev pub NoneBefore : Algorithm → ℕ → List ℕ → Type 0
NoneBefore a k name = (i : ℕ) → i < k → (function_at a i).name ≢ name

-- the j-th function is one of the first k, and the first of the name
pub record IsFirstNamed (a : Algorithm) (k : ℕ) (name : List ℕ) (j : ℕ) : Type 0 where
  pub below : j < k
  pub none : NoneBefore a j name
  pub named : (function_at a j).name ≡ name

-- what a call answers: the input its sample, any other what is recorded
abbrev pub answered : Algorithm → Picture → List Entry → List ℕ → List ℤ → ℤ
answered a p entries name at = elim (same_name a.input name) [ true ↦ sample p.extents p.samples at | false ↦ recorded entries name at ]

-- each number is a value of an index
abbrev pub AreIndices : List ℤ → Type 0
AreIndices zs = All IsIndex zs

-- what can be called, over the input and the first k functions, is answered with a value of its type
abbrev pub AnswerWithin : Algorithm → ℕ → (List ℕ → List ℤ → ℤ) → Type 0
AnswerWithin a k answers = (name : List ℕ) (at : List ℤ) → All IsIndex at → AnswersWithin (callable a (take k a.functions) name) (answers name at)

-- these facts have at most one proof each
pub AreIndices-prop : (zs : List ℤ) → IsProp (AreIndices zs)
AreIndices-prop zs = Prim.hlevel props

within : (o : Option (Ty × ℕ)) (z : ℤ) → IsProp (AnswersWithin o z)
within None z = Prim.hlevel props
within (Some f) z = Prim.hlevel props

pub AnswerWithin-prop : (a : Algorithm) (k : ℕ) (answers : List ℕ → List ℤ → ℤ) → IsProp (AnswerWithin a k answers)
AnswerWithin-prop a k answers = Prim.hlevel (props, within)
