use Rattle.std.proofs.Common.{◌≡◌, ◌+◌, ◌++◌, length, map, pos, take}
use Rattle.std.specs.Prelude.{vec_capacity}
use Rattle.numeric.specs.Wrap.{wrap}
use Rattle.interpreter.specs.LowBits.{numbers_of, IsKept}
use Rattle.interpreter.proofs.given.append_apart.Given as goal

abbrev pub invariant-loop-word : goal.invariant-loop-word
invariant-loop-word g l = record {
  numbers : numbers_of l.words ≡ numbers_of l.initial.words ++ map (λ w. wrap g.W.Width.ty (pos w)) (take l.word-index l.more);
  kept : IsKept l.words;
  long : length l.words.bits.items ≡ length l.initial.words.bits.items + l.word-index;
  bits : vec_capacity l.words.bits ≡ vec_capacity l.initial.words.bits;
  wides : vec_capacity l.words.wides ≡ vec_capacity l.initial.words.wides;
}
