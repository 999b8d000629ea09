-- Samples of an image side by side.
use Rattle.std.specs.Prelude.{ℕ, List}
use Rattle.interpreter.specs.declared.samples.SampleRow.{SampleRow}
use Rattle.interpreter.specs.declared.samples.SampleRow.TheVariants.{Bytes, Words}

-- the samples, however they are kept
abbrev pub sampled : SampleRow → List ℕ
sampled (Bytes bytes) = bytes.now
sampled (Words words) = words.now
