use Rattle.std.proofs.Common.{◌≡◌, ◌++◌, ℕ, drop, map}
use Rattle.soundness.specs.Outline.Flaws.{line_told}
use Rattle.shares.specs.Lets.{namings_of}
use Rattle.shares.specs.Noted.{lines_noted, told_line}
use Rattle.shares.proofs.Noting.{lines_in}
use Rattle.shares.proofs.counts.+noting.Given as goal

abbrev pub invariant-note_block_fetches-loop-stmt : goal.invariant-note_block_fetches-loop-stmt
invariant-note_block_fetches-loop-stmt l =
    (at : ℕ) → l.line ≡ line_told at →
    (now : ℕ) × (l.begun ≡ line_told now)
    × (lines_noted l.noted.items ++ map told_line (lines_in l.group (namings_of l.known.items) (drop l.stmt-index l.all) now)
    ≡ lines_noted l.initial.noted.items ++ map told_line (lines_in l.group (namings_of l.lets) l.all at))
