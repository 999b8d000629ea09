use Rattle.std.proofs.Common.{◌≡◌}
use Rattle.interpreter.specs.Buffers.Marks.{word_in}
use Rattle.interpreter.specs.Buffers.PlaceBits.{low_byte}
use Rattle.interpreter.proofs.EachWord.{WordsBelow}
use Rattle.interpreter.proofs.buffers.setting.narrow_each.Given as goal

abbrev pub invariant-loop-turn : goal.invariant-loop-turn
invariant-loop-turn l = WordsBelow (λ k w. w ≡ low_byte (word_in l.words k)) l.turn l.initial.out l.out
