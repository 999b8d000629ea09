-- The words that are left without those that ask for more of a refusal.
use Rattle.std.proofs.Common.{Bool, List}
use Rattle.std.specs.Prelude.{if◌then◌else◌}
use Rattle.clap.specs.Words.{Text}
use Rattle.commands.specs.Line.{stated}

-- what is left of the words from a place on: all of them, where `--` stands before it
abbrev pub left_of : Bool → List Text → List Text
left_of are_names words = if are_names then words else stated words
