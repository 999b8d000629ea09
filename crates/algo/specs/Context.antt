-- What the statements read so far are: an input and well-formed functions.
use Rattle.std.specs.Prelude.{◌≡◌, ℕ, ◌≤◌, List, [], ◌∷◌, map, take, length, Some, slice_get, string_bytes}
use Rattle.std.specs.declared.string.String.{String}
use Rattle.std.specs.Global.{Global}
use Rattle.numeric.specs.declared.ty.Ty.{Ty}
use Rattle.tree.specs.Term.{Term}
use Rattle.tree.specs.Typing.{type_of}
use Rattle.meaning.specs.Algorithm as said
use Rattle.meaning.specs.Names.{is_among}
use Rattle.meaning.specs.Conditions.{AreDistinct, IsFunction, callable}
use Rattle.algo.specs.declared.function.Port.{Port}
use Rattle.algo.specs.declared.function.Function.{Function}
use Rattle.algo.specs.Parts.{names_of, functions_of}

-- the algorithm that has this input alone
abbrev pub only_input : Port → said.Algorithm
only_input input = record {
  name = [];
  input = string_bytes input.name;
  input_ty = input.shape.ty;
  input_extents = input.shape.extents.items;
  functions = [];
  output = [];
  output_extents = [];
}

abbrev pub function_names : List said.Function → List (List ℕ)
function_names = map (λ f. f.name)

-- functions that can stand in an algorithm with this input
pub record AreFunctions (a : said.Algorithm) (fs : List said.Function) : Type 0 where
  pub few : length fs ≤ 64
  pub names : AreDistinct (a.input ∷ function_names fs)
  pub functions : (k : ℕ) (f : said.Function) → slice_get fs k ≡ Some f → IsFunction a (take k fs) f

-- the expression has the type, over these variables, these functions and the input
abbrev pub HasType : List (String Global) → List (String Global × Function) → Port → Ty → Term → Type 0
HasType variables entries input t e = type_of (is_among (names_of variables)) (callable (only_input input) (functions_of entries)) e ≡ Some t
