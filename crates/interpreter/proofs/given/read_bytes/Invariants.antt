use Rattle.std.proofs.Common.{◌≡◌, map, pos, take}
use Rattle.std.specs.Prelude.{vec_capacity}
use Rattle.numeric.specs.Wrap.{wrap}
use Rattle.numeric.specs.declared.ty.Ty.TheVariants.{U8}
use Rattle.interpreter.proofs.given.read_bytes.Given as goal

abbrev pub invariant-loop-byte : goal.invariant-loop-byte
invariant-loop-byte l = record {
  items : l.numbers.items ≡ map (λ w. wrap U8 (pos w)) (take l.byte-index l.bytes);
  room : vec_capacity l.numbers ≡ vec_capacity l.initial.numbers;
}
