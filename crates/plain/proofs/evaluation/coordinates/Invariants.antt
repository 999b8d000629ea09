use Rattle.std.proofs.Common.{◌≡◌, take}
use Rattle.meaning.specs.Functions.{IsPoint}
use Rattle.plain.proofs.evaluation.coordinates.Given as goal

abbrev pub invariant-loop-coordinate : goal.invariant-loop-coordinate
invariant-loop-coordinate l = record {
  same : l.coordinates.items ≡ take l.coordinate-index l.at;
  inside : IsPoint l.coordinates.items;
}
