use Rattle.std.proofs.Common.{◌≡◌, drop}
use Rattle.std.specs.Prelude.{fold}
use Rattle.crop.specs.Narrow.{with_one}
use Rattle.crop.proofs.narrow.with_ones.Given as goal

abbrev pub invariant-loop-place : goal.invariant-loop-place
invariant-loop-place l = fold with_one l.text l.places ≡ fold with_one l.made.items (drop l.place-index l.places)
