-- Windows, computed.
use Rattle.std.proofs.Common.{refl}
use Rattle.tails.specs.Windows.Worked.{ThreeRowsSlide, SplitRowsSlide, SpansAreWindows}

pub three_rows_slide : ThreeRowsSlide
three_rows_slide = record {
  slid = refl;
  held = refl;
  seven_slid = refl;
  seven_held = refl;
  two_slid = refl;
  two_held = refl;
  window_alone = refl;
  buffer_alone = refl;
  no_fold = refl;
  from_two = refl;
  from_zero_slid = refl;
  from_zero_held = refl;
  first_lacks = refl;
  other_loop = refl;
  other_window = refl;
  other_dimension = refl;
  no_dimension = refl;
  unfolded_slid = refl;
  unfolded_held = refl;
  unfolded_three = refl;
  past_slid = refl;
  past_three = refl;
  past_four = refl;
  at_limit = refl;
  past_limit = refl;
  by_let = refl;
}

pub split_rows_slide : SplitRowsSlide
split_rows_slide = record {
  with_guard = refl;
  with_roundup = refl;
  with_shift = refl;
  with_inner_outside = refl;
  with_rows_split = refl;
  no_place = refl;
  along_inner = refl;
  along_outer = refl;
  along_outer_lacks = refl;
  past_outer = refl;
  past_inner = refl;
  in_block = refl;
  over_block = refl;
  behind_guard = refl;
  with_chain = refl;
  in_chain = refl;
}

pub spans_are_windows : SpansAreWindows
spans_are_windows = record { three = refl; not_two = refl; any_number = refl; falls = refl; upper_falls = refl; still = refl; with_let = refl; grows = refl }
