use Rattle.std.proofs.Common.{arith}
use Rattle.std.proofs.lemmas.Int.{ints, clamps}
use Rattle.crop.proofs.boxes.part_side.Goals as goal

pub returns-then-low-high : goal.returns-then-low-high
returns-then-low-high c = record {
  from = omega (arith, ints, clamps);
  rises = omega (arith, ints, clamps);
  to = omega (arith, ints, clamps);
  holds = λ z a b d e. (omega (arith, ints, clamps), omega (arith, ints, clamps));
  first = λ h. omega (arith, ints, clamps);
}
