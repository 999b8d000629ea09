use Rattle.std.proofs.Common.{◌≡◌, take}
use Rattle.crop.specs.Cutting.{spans_of}
use Rattle.crop.proofs.regions.region_of.Given as goal

abbrev pub invariant-loop-stretch : goal.invariant-loop-stretch
invariant-loop-stretch l = l.region ≡ spans_of (take l.stretch-index l.stretches)
