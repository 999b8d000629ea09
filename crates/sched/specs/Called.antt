-- What can be called by a name in a definition: a function or the input.
use Rattle.std.specs.Prelude.{ℕ, List, length, Option, Some, None, true, false}
use Rattle.numeric.specs.declared.ty.Ty.{Ty}
use Rattle.meaning.specs.Names.{same_name}
use Rattle.meaning.specs.Algorithm.{Function, Algorithm}
use Rattle.meaning.specs.Conditions.{function_named}

-- the type and the number of indices of a function
abbrev pub function_call : Option Function → Option (Ty × ℕ)
function_call None = None
function_call (Some f) = Some (f.ty, length f.variables)

-- those of the input, where it has this name
abbrev pub input_call : Algorithm → List ℕ → Option (Ty × ℕ)
input_call a name = elim (same_name a.input name) [ true ↦ Some (a.input_ty, length a.input_extents) | false ↦ None ]

abbrev pub or_input : Option (Ty × ℕ) → Option (Ty × ℕ) → Option (Ty × ℕ)
or_input (Some found) input = Some found
or_input None input = input

abbrev pub called : Algorithm → List ℕ → Option (Ty × ℕ)
called a name = or_input (function_call (function_named a.functions name)) (input_call a name)
