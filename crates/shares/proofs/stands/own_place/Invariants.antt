use Rattle.std.proofs.Common.{◌≡◌, ◌+◌, drop}
use Rattle.shares.specs.Made.{own_place}
use Rattle.shares.proofs.stands.own_place.Given as goal

abbrev pub invariant-loop-own : goal.invariant-loop-own
invariant-loop-own l = record {
  place : l.place ≡ l.own-index;
  whole : own_place l.all l.group ≡ l.own-index + own_place (drop l.own-index l.all) l.group;
}
