use Rattle.std.proofs.Common.{◌≡◌, map, pos, take}
use Rattle.numeric.specs.Wrap.{wrap}
use Rattle.numeric.specs.declared.ty.Ty.TheVariants.{U8}
use Rattle.interpreter.specs.LowBits.{low_bits}
use Rattle.interpreter.proofs.given.see_bytes.Given as goal

abbrev pub invariant-loop-byte : goal.invariant-loop-byte
invariant-loop-byte l = record {
  so_far : map (λ w. low_bits (wrap U8 (pos w))) (take l.byte-index l.bytes) ≡ take l.byte-index l.bytes;
}
