-- Laws of moved expressions.
use Rattle.std.specs.Prelude.{◌≡◌, ℕ, List, ℤ, pos, map, Bool, Option, Some, IsSome, IsTrue, ◌≤ℤ◌}
use Rattle.std.specs.List.{AllByRecursion}
use Rattle.numeric.specs.declared.ty.Ty.TheVariants.{I32}
use Rattle.numeric.specs.Wrap.{IsOf}
use Rattle.tree.specs.Term.{Term}
use Rattle.tree.specs.declared.value.Value.{Value}
use Rattle.tree.specs.Meaning.{value_of}
use Rattle.tree.specs.Names.{AreAsTold, IsIndex}
use Rattle.tree.specs.Typing.{type_of}
use Rattle.tree.specs.Uses.{calls_made}
use Rattle.crop.specs.declared.cut.Stretch.{Stretch}
use Rattle.crop.specs.Moving.{Move, moved, shifted, against, moved_point}

-- the value lies between the ends that are told of it
abbrev pub IsBetween : Option Stretch → ℤ → Type 0
IsBetween told z = (r : Stretch) → told ≡ Some r → (r.low ≤ℤ z) × (z ≤ℤ r.high)

-- what a move has to be: `v` and `k` give the variables and the answers of calls before it, `w` and `q` after it, and calls are moved at the points that are inside
pub record IsMove (m : Move) (known : List ℕ → Bool) (v w : List ℕ → ℤ) (k q : List ℕ → List ℤ → Value) (inside : List ℕ → List ℤ → Bool) : Type 0 where
  pub told : AreAsTold known m.functions v k
  pub variables_within : (name : List ℕ) → IsTrue (known name) → IsOf I32 (w name)
  pub variables : (name : List ℕ) → IsTrue (known name) → v name ≡ shifted (m.variables name) (w name)
  pub answers : (name : List ℕ) (at : List ℤ) → AllByRecursion IsIndex at → IsTrue (inside name at) → q name (moved_point (map against (m.origins name)) at) ≡ k name at
  pub between : (e : Term) → IsSome (type_of known m.functions e) → IsBetween (m.ends e) (value_of v k e).number

-- a moved expression has the value that the expression had, where its calls are inside
abbrev pub ExpressionsMove : Type 0
ExpressionsMove =
    (m : Move) (known : List ℕ → Bool) (v w : List ℕ → ℤ) (k q : List ℕ → List ℤ → Value) (inside : List ℕ → List ℤ → Bool) → IsMove m known v w k q inside
    → (e : Term) → IsSome (type_of known m.functions e) → AllByRecursion (λ c. IsTrue (inside c.name c.at)) (calls_made v k e)
    → value_of w q (moved m (pos 0) e) ≡ value_of v k e
