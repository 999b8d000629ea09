use Rattle.audit.proofs.OfVerdict.Ready.{accepted_ready}
use Rattle.audit.proofs.verdict.laws.accepted_is_ready.Goals as goal

pub returns : goal.returns
returns c = accepted_ready (record {
  published = c.groups_are_published.ensures;
  covered = c.bodies_are_covered.ensures;
  definitions = c.stores_are_definitions.ensures;
  free = c.groups_are_free.ensures;
  near = c.groups_are_near.ensures;
  regions = c.regions_are_small.ensures;
  small = c.plans_are_small.ensures;
  apart = c.groups_are_apart.ensures;
  clear = c.no_flaw_is_clear.ensures;
  suited = c.rules_are_suited.ensures;
  narrow = c.near_is_narrow.ensures;
  right = c.accepted_is_right.ensures.right;
  sound = c.accepted_is_right.ensures.sound;
  bodies = c.accepted_is_right.ensures.bodies;
  set = c.set_are_indices.ensures;
  given = c.given_are_indices.ensures;
  numbered = c.cells_are_numbered.ensures;
  places = c.pieces_are_numbered.ensures;
  parts = c.parts_are_the_work.ensures;
  told = c.cells_are_apart.ensures;
})
