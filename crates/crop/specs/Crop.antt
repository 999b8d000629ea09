-- The crop law.
use Rattle.std.specs.Prelude.{◌≡◌, ℕ, List, ℤ, map, IsSome}
use Rattle.std.specs.List.{AllByRecursion}
use Rattle.numeric.specs.declared.ty.Ty.TheVariants.{I32}
use Rattle.numeric.specs.Wrap.{IsOf}
use Rattle.meaning.specs.Algorithm.{Algorithm}
use Rattle.meaning.specs.Conditions.{callable}
use Rattle.meaning.specs.Functions.{AreSamples}
use Rattle.meaning.specs.Value.{calls_of}
use Rattle.meaning.specs.Picture.{picture}
use Rattle.crop.specs.Narrow.{IsScene}
use Rattle.crop.specs.Moving.{against, moved_point}
use Rattle.crop.specs.Cutting.{Cut, origin_named, region_named, algorithm_cut, cut_samples, InsideIf, IsCut}

-- what a cut gives of the samples of an input
pub record Crops (a : Algorithm) (cut : Cut) (samples : List ℕ) : Type 0 where
  -- the picture of the tile's algorithm on the part of the input is the tile of the picture
  pub picture : picture (algorithm_cut a cut) (cut_samples a.input_extents samples cut.part) ≡ cut_samples a.output_extents (picture a samples) cut.tile
  -- at each point that is asked for, a call of a function that is kept, or of the input, gives in the tile's algorithm, at the point less the origin, what it gave
  pub values : (name : List ℕ) (at : List ℤ) → AllByRecursion (IsOf I32) at → IsSome (callable a a.functions name) → InsideIf (region_named a cut name) at
      → calls_of (algorithm_cut a cut) (cut_samples a.input_extents samples cut.part) name (moved_point (map against (origin_named a cut name)) at) ≡ calls_of a samples name at

-- each cut of an algorithm does, also of one whose extents are wide
abbrev pub CropLaw : Type 0
CropLaw = (a : Algorithm) (cut : Cut) (samples : List ℕ) → IsScene a → IsCut a cut → AreSamples a samples → Crops a cut samples
