use Rattle.std.proofs.Common.{◌≡◌, drop}
use Rattle.shares.specs.Made.{need_place}
use Rattle.shares.proofs.Lines.{further}
use Rattle.shares.proofs.stands.need_place.Given as goal

abbrev pub invariant-loop-need : goal.invariant-loop-need
invariant-loop-need l = record {
  place : l.place ≡ l.need-index;
  whole : need_place l.all l.group ≡ further l.need-index (need_place (drop l.need-index l.all) l.group);
}
