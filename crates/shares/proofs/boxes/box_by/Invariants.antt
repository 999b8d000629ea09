use Rattle.std.proofs.Common.{◌≡◌, take}
use Rattle.std.specs.Prelude.{All}
use Rattle.shares.specs.Lets.{symbols_at}
use Rattle.shares.specs.Boxes.{sides}
use Rattle.shares.specs.Walked.{IsNear}
use Rattle.shares.proofs.boxes.box_by.Given as goal

abbrev pub invariant-loop-span : goal.invariant-loop-span
invariant-loop-span l = record { sides : l.found.items ≡ sides (symbols_at l.at l.lets) (take l.span-index l.region); near : All IsNear l.found.items }
