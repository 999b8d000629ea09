use Rattle.audit.proofs.OfVerdict.Right.{accepted_bodies, accepted_right, accepted_sound}
use Rattle.audit.proofs.verdict.shown.laws.accepted_is_right.Goals as goal

pub returns-clause-right : goal.returns-clause-right
returns-clause-right c = accepted_right (record {
  plans = c.plans_are_right.ensures;
  runs = c.pieces_run_right.ensures;
  output = c.output_is_there.ensures;
  numbers = c.pieces_are_numbered.ensures;
  sound = c.shown_is_sound.ensures;
  nests = c.slid_nests_are_right.ensures;
  counted = c.domains_are_counted.ensures;
  placed = c.definitions_stay.ensures.where_possible;
  sides = c.put_in_keeps_the_value.ensures.updates;
  raster = c.raster_is_order.ensures;
})

pub returns-clause-sound : goal.returns-clause-sound
returns-clause-sound c = accepted_sound (record {
  plans = c.plans_are_right.ensures;
  runs = c.pieces_run_right.ensures;
  output = c.output_is_there.ensures;
  numbers = c.pieces_are_numbered.ensures;
  sound = c.shown_is_sound.ensures;
  nests = c.slid_nests_are_right.ensures;
  counted = c.domains_are_counted.ensures;
  placed = c.definitions_stay.ensures.where_possible;
  sides = c.put_in_keeps_the_value.ensures.updates;
  raster = c.raster_is_order.ensures;
})

pub returns-clause-bodies : goal.returns-clause-bodies
returns-clause-bodies c = accepted_bodies (record {
  plans = c.plans_are_right.ensures;
  runs = c.pieces_run_right.ensures;
  output = c.output_is_there.ensures;
  numbers = c.pieces_are_numbered.ensures;
  sound = c.shown_is_sound.ensures;
  nests = c.slid_nests_are_right.ensures;
  counted = c.domains_are_counted.ensures;
  placed = c.definitions_stay.ensures.where_possible;
  sides = c.put_in_keeps_the_value.ensures.updates;
  raster = c.raster_is_order.ensures;
})
