-- The laws of reading and writing, each of them the contract of a function.
use Rattle.std.specs.Prelude.{◌≡◌, ℕ, List, Ok, nat_lt}
use Rattle.meaning.specs.Image.View.{Frame, Picture, IsShape, HasShape}
use Rattle.pnm.specs.Grammar.{Each, IsFile}
use Rattle.pnm.specs.Reading.{reading, wanted_of}
use Rattle.pnm.specs.Text.{text_of}

-- what the grammar calls a file of an image is read as that image
abbrev pub FilesAreRead : Type 0
FilesAreRead = (f : Frame) (bytes samples : List ℕ) → IsShape f → IsFile (wanted_of f) bytes samples → reading (wanted_of f) bytes ≡ Ok samples

-- the written form of an image is a file of it
abbrev pub TextsAreFiles : Type 0
TextsAreFiles = (f : Frame) (p : Picture) → IsShape f → HasShape f p → IsFile (wanted_of f) (text_of p) p.samples

-- what was written is read as the image
abbrev pub WrittenIsRead : Type 0
WrittenIsRead = (f : Frame) (p : Picture) → IsShape f → HasShape f p → reading (wanted_of f) (text_of p) ≡ Ok p.samples

-- what is read is a file of the grammar
abbrev pub ReadFilesAreFiles : Type 0
ReadFilesAreFiles = (f : Frame) (bytes samples : List ℕ) → IsShape f → Each (λ b. nat_lt b 256) bytes → reading (wanted_of f) bytes ≡ Ok samples → IsFile (wanted_of f) bytes samples
