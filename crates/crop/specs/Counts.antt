-- How many evaluations the values of a cut algorithm take.
use Rattle.std.specs.Prelude.{◌≡◌, ℕ, List, ℤ, map, IsSome}
use Rattle.std.specs.List.{AllByRecursion}
use Rattle.numeric.specs.declared.ty.Ty.TheVariants.{I32}
use Rattle.numeric.specs.Wrap.{IsOf}
use Rattle.meaning.specs.Algorithm.{Algorithm}
use Rattle.meaning.specs.Conditions.{callable}
use Rattle.meaning.specs.Functions.{AreSamples}
use Rattle.meaning.specs.Count.{Costs, priced, output_count}
use Rattle.crop.specs.declared.cropping.Rect.{Rect}
use Rattle.crop.specs.declared.cut.Stretch.{Stretch}
use Rattle.crop.specs.Narrow.{IsScene}
use Rattle.crop.specs.Moving.{against, moved_point}
use Rattle.crop.specs.Cutting.{Cut, lows, origin_named, region_named, algorithm_cut, cut_samples, IsInBox, InsideIf, IsCut}
use Rattle.crop.specs.Tile.{IsTileOf, box_of}
use Rattle.crop.specs.Mosaic.{point_in}

-- what the calls cost in the tile's algorithm, on the part of the input: how many evaluations each takes, where nothing is remembered
abbrev pub cut_costs : Algorithm → Cut → List ℕ → Costs
cut_costs a cut samples = (priced (algorithm_cut a cut) (cut_samples a.input_extents samples cut.part)).costs

-- and each sample of its output
abbrev pub cut_count : Algorithm → Cut → List ℕ → List ℤ → ℕ
cut_count a cut samples = output_count (algorithm_cut a cut) (cut_samples a.input_extents samples cut.part)

-- a cut keeps the counts of evaluations
pub record KeepsCounts (a : Algorithm) (cut : Cut) (samples : List ℕ) : Type 0 where
  -- at each point that is asked for, a call of a function that is kept, or of the input, takes in the tile's algorithm, at the
  -- point less the origin, as many as it took
  pub calls : (name : List ℕ) (at : List ℤ) → AllByRecursion (IsOf I32) at → IsSome (callable a a.functions name) → InsideIf (region_named a cut name) at
      → cut_costs a cut samples name (moved_point (map against (origin_named a cut name)) at) ≡ (priced a samples).costs name at
  -- each sample of the tile, at its point less the tile's corner, takes as many as in the whole
  pub output : (at : List ℤ) → IsInBox cut.tile at → cut_count a cut samples (moved_point (map against (lows cut.tile)) at) ≡ output_count a samples at

-- each cut of an algorithm does, also of one whose extents are wide
abbrev pub CountLaw : Type 0
CountLaw = (a : Algorithm) (cut : Cut) (samples : List ℕ) → IsScene a → IsCut a cut → AreSamples a samples → KeepsCounts a cut samples

-- the algorithm of a tile, on the part of the input, takes for each sample of the rectangle as many evaluations as the whole
abbrev pub KeepsTileCounts : Algorithm → Rect → Algorithm → List Stretch → Type 0
KeepsTileCounts a rect t part =
    (samples : List ℕ) (p : List ℤ) → AreSamples a samples → IsInBox (box_of a.output_extents rect) p
    → output_count t (cut_samples a.input_extents samples part) (point_in a rect p) ≡ output_count a samples p

-- each does
abbrev pub TileCountLaw : Type 0
TileCountLaw = (a : Algorithm) (rect : Rect) (t : Algorithm) (part : List Stretch) → IsScene a → IsTileOf a rect t part → KeepsTileCounts a rect t part
