-- What is known of an order stays so while no file changes.
use Rattle.std.proofs.Common.{Option, None, Some, inl, inr}
use Rattle.clap.specs.Words.{Text}
use Rattle.commands.specs.declared.pipeline.fault.Fault.{Fault}
use Rattle.commands.specs.Draws.{HasOrder, IsUnordered}
use Rattle.commands.specs.Files.{Contents, SameFiles}
use Rattle.commands.proofs.Kept.{held_before}

pub ordered_before : (a b : Contents) (order : Option Text) → SameFiles a b → HasOrder b order → HasOrder a order
ordered_before a b None same h = tt
ordered_before a b (Some name) same h = (h.0, held_before a b name h.0 same h.1, h.2)

pub unordered_before : (a b : Contents) (order : Option Text) (fault : Fault) → SameFiles a b → IsUnordered b order fault → IsUnordered a order fault
unordered_before a b None fault same h = absurd h
unordered_before a b (Some name) fault same (inl device) = inl device
unordered_before a b (Some name) fault same (inr h) = inr (h.0, held_before a b name h.0 same h.1, h.2)
