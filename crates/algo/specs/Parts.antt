-- What the parts of an algorithm say, without where they are stored and stand in the text.
use Rattle.std.specs.Prelude.{ℕ, List, map, Some, None, string_bytes}
use Rattle.std.specs.declared.string.String.{String}
use Rattle.std.specs.Global.{Global}
use Rattle.numeric.specs.declared.ty.Ty.{Ty}
use Rattle.numeric.specs.declared.ty.Ty.TheVariants.{U8}
use Rattle.tree.specs.Term.{term_of, list_terms}
use Rattle.meaning.specs.Image.View.{Frame}
use Rattle.meaning.specs.Algorithm as said
use Rattle.meaning.specs.Conditions.{function_named}
use Rattle.algo.specs.declared.function.Port.{Port}
use Rattle.algo.specs.declared.function.Range.{Range}
use Rattle.algo.specs.declared.function.Update.{Update}
use Rattle.algo.specs.declared.function.Function.{Function}

abbrev pub range_of : Range → said.Range
range_of d = record { variable = string_bytes d.variable; low = d.low; high = d.high }

abbrev pub change_of : Update → said.Change
change_of u = record { ranges = map range_of u.ranges.items; at = list_terms u.at.items; value = term_of u.value }

-- the names of a list
abbrev pub names_of : List (String Global) → List (List ℕ)
names_of = map string_bytes

-- a function and its name
abbrev pub function_of : String Global × Function → said.Function
function_of e = record { name = string_bytes e.0; ty = e.1.ty; variables = names_of e.1.variables.items; value = term_of e.1.value; changes = map change_of e.1.updates.items }

-- the functions of these entries, in their order
abbrev pub functions_of : List (String Global × Function) → List said.Function
functions_of = map function_of

-- the algorithm of this name with this input, these functions and this output
abbrev pub algorithm_from : String Global → Port → List (String Global × Function) → Port → said.Algorithm
algorithm_from name input entries output = record {
  name = string_bytes name;
  input = string_bytes input.name;
  input_ty = input.shape.ty;
  input_extents = input.shape.extents.items;
  functions = functions_of entries;
  output = string_bytes output.name;
  output_extents = output.shape.extents.items;
}

-- the type and the extents of an algorithm's input
abbrev pub input_frame : said.Algorithm → Frame
input_frame a = record { ty = a.input_ty; extents = a.input_extents }

-- the type of the function that is the output, and u8 where no function is
abbrev pub output_type : said.Algorithm → Ty
output_type a = elim (function_named a.functions a.output) [ Some f ↦ f.ty | None ↦ U8 ]

-- the type and the extents of an algorithm's picture
abbrev pub output_frame : said.Algorithm → Frame
output_frame a = record { ty = output_type a; extents = a.output_extents }
