use Rattle.std.proofs.Common.{◌≡◌, take}
use Rattle.shares.specs.Before.{blank_needs}
use Rattle.shares.proofs.before.blank_needs.Given as goal

abbrev pub invariant-loop-need : goal.invariant-loop-need
invariant-loop-need l = l.made.items ≡ blank_needs l.region (take l.need-index l.all)
