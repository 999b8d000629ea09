-- An algorithm with other functions and extents, and what a cut keeps of an algorithm's functions.
use Rattle.std.specs.Prelude.{◌≡◌, ℕ, List, length, Some, MatchOption, slice_get}
use Rattle.meaning.specs.Algorithm.{Function, Algorithm}
use Rattle.crop.specs.Cutting.{Kept, Cut, kept_named, KeepsTile, IsClosedAt}

-- the same names and the same type of the input; these functions, and these extents of the input and of the output
abbrev pub rebuilt : Algorithm → List Function → List ℕ → List ℕ → Algorithm
rebuilt a functions input_extents output_extents = record {
  name = a.name;
  input = a.input;
  input_ty = a.input_ty;
  input_extents = input_extents;
  functions = functions;
  output = a.output;
  output_extents = output_extents;
}

-- of what a cut has to be, what is said of the functions
pub record IsKept (a : Algorithm) (cut : Cut) : Type 0 where
  pub each : length cut.kept ≡ length a.functions
  pub output : MatchOption (kept_named a.functions cut.kept a.output) ⊥ (KeepsTile cut.tile)
  pub closed : (k : ℕ) (f : Function) (kept : Kept) → slice_get a.functions k ≡ Some f → slice_get cut.kept k ≡ Some (Some kept) → IsClosedAt a cut k f kept
