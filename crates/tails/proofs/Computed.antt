-- The tests of split loops, computed.
use Rattle.std.proofs.Common.{refl}
use Rattle.tails.specs.Worked.{TenIsCut, CutsAreNested, TilesAreCut, ClaimsAreMade}
use Rattle.tails.specs.WorkedOrder.{PointsRise}
use Rattle.tails.specs.WorkedUpdates.{UpdatesAreInTurn}

pub ten_is_cut : TenIsCut
ten_is_cut = record {
  guard = refl;
  guard_once = refl;
  not_eleven = refl;
  gap = refl;
  too_few = refl;
  too_early = refl;
  overlap = refl;
  twice = refl;
  roundup = refl;
  roundup_once = refl;
  no_turn = refl;
  shift = refl;
  shift_twice = refl;
  shift_more = refl;
  shift_too_far = refl;
  shift_by_largest = refl;
  shift_gap = refl;
  shift_other_order = refl;
  shift_outside = refl;
  inner_outside = refl;
  inner_outside_once = refl;
  guard_too_small = refl;
  let_too_small = refl;
  guard_is_wide = refl;
  unused_loop = refl;
  unused_loop_twice = refl;
  unused_guard = refl;
}

pub cuts_are_nested : CutsAreNested
cuts_are_nested = record { ones_cover = refl; ones_once = refl; ones_outside_once = refl; twice_cut = refl }

pub tiles_are_cut : TilesAreCut
tiles_are_cut = record {
  guard = refl;
  guard_once = refl;
  roundup = refl;
  shift = refl;
  shift_once = refl;
  shift_too_far = refl;
  exchanged = refl;
  diagonal = refl;
  spine = refl;
  with_let = refl;
  let_is_dropped = refl;
  with_guard = refl;
  guard_is_shown = refl;
  guard_is_not_shown = refl;
  twice_stored = refl;
}

pub claims_are_made : ClaimsAreMade
claims_are_made = record {
  guard = refl;
  guard_wide = refl;
  guard_early = refl;
  guard_few = refl;
  guard_gap = refl;
  wider = refl;
  no_place = refl;
  folded = refl;
  swapped = refl;
  swapped_small = refl;
  swapped_let = refl;
  swapped_wide = refl;
  shift = refl;
  shift_more = refl;
  shift_less = refl;
  shift_largest = refl;
  shift_gap = refl;
  shift_whole = refl;
  roundup = refl;
  plain = refl;
  no_loop = refl;
}

pub updates_are_in_turn : UpdatesAreInTurn
updates_are_in_turn = record {
  piece = refl;
  piece_made = refl;
  piece_wide = refl;
  piece_few = refl;
  piece_many = refl;
  inner = refl;
  inner_made = refl;
  inner_wide = refl;
  inner_few = refl;
  inner_twice = refl;
  twice_made = refl;
  between = refl;
  between_made = refl;
  between_named = refl;
  between_split = refl;
  outside = refl;
  outside_twice = refl;
  guarded = refl;
  guarded_made = refl;
  guarded_small = refl;
  guarded_left_out = refl;
  two = refl;
  two_exchanged = refl;
  two_missing = refl;
  found = refl;
  found_made = refl;
  found_twice = refl;
}

pub points_rise : PointsRise
points_rise = record {
  plain = refl;
  constant = refl;
  no_step = refl;
  falling = refl;
  guard = refl;
  guard_behind = refl;
  roundup = refl;
  shift = refl;
  shift_outside = refl;
  gap = refl;
  longer = refl;
  longer_behind_guard = refl;
  inner_outside = refl;
  swapped_outside = refl;
  twice_cut = refl;
  ones_rise = refl;
  one_turn_outside = refl;
  let_around = refl;
  unused = refl;
  again = refl;
  again_is_twice = refl;
  tile_guarded = refl;
  tile_rounded = refl;
  tile_shifted = refl;
  exchanged = refl;
  in_rows = refl;
  in_tiles = refl;
  first_constant = refl;
  second_constant = refl;
  diagonal = refl;
}
