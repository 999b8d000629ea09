use Rattle.std.proofs.Common.{◌≡◌, ◌+◌, ◌++◌, length, map, pos, take}
use Rattle.std.specs.Prelude.{vec_capacity}
use Rattle.numeric.specs.Wrap.{wrap}
use Rattle.interpreter.specs.LowBits.{numbers_of, IsKept}
use Rattle.interpreter.proofs.given.append_narrow.Given as goal

abbrev pub invariant-loop-byte : goal.invariant-loop-byte
invariant-loop-byte g l = record {
  numbers : numbers_of l.words ≡ numbers_of l.initial.words ++ map (λ w. wrap g.W.Width.ty (pos w)) (take l.byte-index l.more);
  kept : IsKept l.words;
  long : length l.words.bits.items ≡ length l.initial.words.bits.items + l.byte-index;
  bits : vec_capacity l.words.bits ≡ vec_capacity l.initial.words.bits;
  wides : vec_capacity l.words.wides ≡ vec_capacity l.initial.words.wides;
}
