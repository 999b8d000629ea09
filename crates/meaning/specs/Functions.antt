-- What holds of the functions of a well-formed algorithm and of their values.
use Rattle.std.specs.Prelude.{◌≡◌, ℕ, ◌<◌, List, All, ℤ, pos, Some, slice_get, ◌⊎◌}
use Rattle.numeric.specs.declared.ty.Ty.TheVariants.{I32}
use Rattle.numeric.specs.Wrap.{IsOf}
use Rattle.tree.specs.Meaning.{typed}
use Rattle.tree.specs.Uses.{EachCall}
use Rattle.meaning.specs.Image.Raster.{sample}
use Rattle.meaning.specs.Algorithm.{Change, Function, Algorithm}
use Rattle.meaning.specs.Conditions.{IsAlgorithm}
use Rattle.meaning.specs.Value.{Calls, value_at_step, calls_before, calls_of, value_of_function, value_of_function_at_step, output_value}

-- f is the k-th function, counted from 0
abbrev pub IsAt : Algorithm → ℕ → Function → Type 0
IsAt a k f = slice_get a.functions k ≡ Some f

-- the name is the input's, or that of a function before the k-th
abbrev pub GoesBack : Algorithm → ℕ → List ℕ → Type 0
GoesBack a k name = (name ≡ a.input) ⊎ ((j : ℕ) × (g : Function) × (j < k) × IsAt a j g × (g.name ≡ name))

-- calls go to the input and to earlier functions, and on the right side of an update to the function itself
pub record CallsGoBack : Type 0 where
  pub pure : (a : Algorithm) (k : ℕ) (f : Function) → IsAlgorithm a → IsAt a k f → EachCall (λ name at. GoesBack a k name) f.value
  pub left : (a : Algorithm) (k : ℕ) (f : Function) (i : ℕ) (u : Change) → IsAlgorithm a → IsAt a k f → slice_get f.changes i ≡ Some u →
      All (EachCall (λ name at. GoesBack a k name)) u.at
  pub right : (a : Algorithm) (k : ℕ) (f : Function) (i : ℕ) (u : Change) → IsAlgorithm a → IsAt a k f → slice_get f.changes i ≡ Some u →
      EachCall (λ name at. GoesBack a k name ⊎ (name ≡ f.name)) u.value

-- all calls by these names answer alike
abbrev pub AgreeBefore : Algorithm → ℕ → Calls → Calls → Type 0
AgreeBefore a k calls others = (name : List ℕ) → GoesBack a k name → (at : List ℤ) → calls name at ≡ others name at

pub record ValuesStandOnThoseBefore : Type 0 where
  -- only what the input and the functions before it answer counts for the value of a function
  pub alone : (a : Algorithm) (k : ℕ) (f : Function) (calls others : Calls) → IsAlgorithm a → IsAt a k f → AgreeBefore a k calls others →
      (s : ℕ) (p : List ℤ) → value_at_step calls f s p ≡ value_at_step others f s p
  -- a call of a function gives its value, in the end and in each function after it
  pub called : (a : Algorithm) (samples : List ℕ) (k : ℕ) (f : Function) (p : List ℤ) → IsAlgorithm a → IsAt a k f →
      calls_of a samples f.name p ≡ typed f.ty (value_of_function a samples k p)
  pub called_before : (a : Algorithm) (samples : List ℕ) (j k : ℕ) (f : Function) (p : List ℤ) → IsAlgorithm a → IsAt a j f → j < k →
      calls_before a samples k f.name p ≡ typed f.ty (value_of_function a samples j p)
  -- a call of the input gives its sample
  pub input : (a : Algorithm) (samples : List ℕ) (p : List ℤ) → IsAlgorithm a → calls_of a samples a.input p ≡ typed a.input_ty (sample a.input_extents samples p)
  pub input_before : (a : Algorithm) (samples : List ℕ) (k : ℕ) (p : List ℤ) → IsAlgorithm a → calls_before a samples k a.input p ≡ typed a.input_ty (sample a.input_extents samples p)
  -- a function's value is that of its definitions, whose calls give the values of the finished functions
  pub finished : (a : Algorithm) (samples : List ℕ) (k : ℕ) (f : Function) (s : ℕ) (p : List ℤ) → IsAlgorithm a → IsAt a k f →
      value_of_function_at_step a samples k s p ≡ value_at_step (calls_of a samples) f s p
  pub output : (a : Algorithm) (samples : List ℕ) (k : ℕ) (f : Function) (p : List ℤ) → IsAlgorithm a → IsAt a k f → f.name ≡ a.output →
      output_value a samples p ≡ value_of_function a samples k p

-- each sample is a value of the input's type
abbrev pub AreSamples : Algorithm → List ℕ → Type 0
AreSamples a samples = All (λ s. IsOf a.input_ty (pos s)) samples

-- the coordinates of a point are i32 values
abbrev pub IsPoint : List ℤ → Type 0
IsPoint p = All (IsOf I32) p

-- at each point the value of a function, also half done, is a value of its type
pub record ValuesAreOfTheirTypes : Type 0 where
  pub at_step : (a : Algorithm) (samples : List ℕ) (k : ℕ) (f : Function) (s : ℕ) (p : List ℤ) → IsAlgorithm a → AreSamples a samples → IsAt a k f → IsPoint p →
      IsOf f.ty (value_of_function_at_step a samples k s p)
  pub whole : (a : Algorithm) (samples : List ℕ) (k : ℕ) (f : Function) (p : List ℤ) → IsAlgorithm a → AreSamples a samples → IsAt a k f → IsPoint p →
      IsOf f.ty (value_of_function a samples k p)
