-- What algorithms and inputs say.
use Rattle.std.specs.Prelude.{ℕ, ◌≤◌, List, length, MatchOption, slice_get, vec_capacity}
use Rattle.meaning.specs.Image.View.{Frame, image_of, HasShape, Picture}
use Rattle.meaning.specs.declared.image.samples.Samples.{Samples}
use Rattle.meaning.specs.declared.image.samples.Samples.TheVariants.{Bytes, Words}
use Rattle.meaning.specs.Algorithm.{Algorithm}
use Rattle.meaning.specs.Picture.{picture}
use Rattle.algo.specs.declared.algorithm.Algo.{Algo}
use Rattle.algo.specs.declared.inputs.Inputs.{Inputs}
use Rattle.algo.specs.Frames.{own_frame}
use Rattle.algo.specs.Parts.{algorithm_from, input_frame, output_type}

abbrev pub algorithm_of : Algo → Algorithm
algorithm_of a = algorithm_from a.name a.input a.functions.entries a.output

-- the algorithm has a function of this number, counted from 0, with so many updates or more
abbrev pub HasDefinition : Algorithm → ℕ → ℕ → Type 0
HasDefinition a f k = MatchOption (slice_get a.functions f) ⊥ (λ g. k ≤ length g.changes)

-- an image as the input of an algorithm
abbrev pub picture_of : Inputs → Picture
picture_of i = image_of i.image

abbrev pub samples_of : Inputs → List ℕ
samples_of i = (picture_of i).samples

-- how many bytes the memory of its samples holds, where they are kept in one byte each
abbrev pub memory_in : Samples → ℕ
memory_in (Bytes bytes) = vec_capacity bytes
memory_in (Words words) = 0

abbrev pub memory_of : Inputs → ℕ
memory_of i = memory_in i.image.samples

-- the type and the extents of the image
abbrev pub frame_of : Inputs → Frame
frame_of i = own_frame (picture_of i)

-- the image is one for the algorithm
abbrev pub IsFor : Algo → Inputs → Type 0
IsFor a i = HasShape (input_frame (algorithm_of a)) (picture_of i)

-- the picture that an algorithm, read without any schedule, says of these samples of its input
abbrev pub picture_said : Algorithm → List ℕ → Picture
picture_said a samples = record { ty = output_type a; extents = a.output_extents; samples = picture a samples }
