use Rattle.std.proofs.Common.{◌≡◌, ◌++◌, map, pos, take}
use Rattle.std.specs.Prelude.{vec_capacity}
use Rattle.numeric.specs.Wrap.{wrap}
use Rattle.interpreter.specs.LowBits.{low_bits}
use Rattle.interpreter.proofs.given.with_words.Given as goal

abbrev pub invariant-loop-word : goal.invariant-loop-word
invariant-loop-word g l = record {
  items : l.bits.items ≡ l.initial.bits.items ++ map (λ w. low_bits (wrap g.W.Width.ty (pos w))) (take l.word-index l.words);
  room : vec_capacity l.bits ≡ vec_capacity l.initial.bits;
}
