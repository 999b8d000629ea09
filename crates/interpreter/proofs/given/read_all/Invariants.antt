use Rattle.std.proofs.Common.{◌≡◌, map, pos, take}
use Rattle.std.specs.Prelude.{vec_capacity}
use Rattle.numeric.specs.Wrap.{wrap}
use Rattle.interpreter.proofs.given.read_all.Given as goal

abbrev pub invariant-loop-word : goal.invariant-loop-word
invariant-loop-word l = record {
  items : l.numbers.items ≡ map (λ w. wrap l.ty (pos w)) (take l.word-index l.bits);
  room : vec_capacity l.numbers ≡ vec_capacity l.initial.numbers;
}
