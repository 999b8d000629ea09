-- The picture of an algorithm.
use Rattle.std.specs.Prelude.{ℕ, List, map}
use Rattle.std.specs.List.{range_with_len}
use Rattle.meaning.specs.Image.Raster.{natural, raster_point, sample_count}
use Rattle.meaning.specs.Algorithm.{Algorithm}
use Rattle.meaning.specs.Value.{output_value}

-- the output's samples, in raster order
abbrev pub picture : Algorithm → List ℕ → List ℕ
picture a samples = map (λ n. natural (output_value a samples (raster_point a.output_extents n))) (range_with_len 0 (sample_count a.output_extents))
