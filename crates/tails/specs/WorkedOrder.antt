-- Split loops whose points rise, and others, written out.
use Rattle.std.specs.Prelude.{◌≡◌, true, false, List, [], ◌∷◌, pos, negsuc}
use Rattle.lin.specs.Forms.{Form, number}
use Rattle.plan.specs.declared.stmt.Pick.TheVariants.{Max}
use Rattle.plan.specs.Semantics.Worked.{plus, symbol, constants}
use Rattle.tails.specs.Steps.{Step, Tested, Named}
use Rattle.tails.specs.Maps.{is_once}
use Rattle.tails.specs.Order.{is_ordered}
use Rattle.tails.specs.Worked.{spans, turns_over, guarded, guarded_form, swapped, shifted, shifted_outside, start_at, start_form, over_two, less_four, ones, ones_outside, ones_form, nested, nested_form, tile_guard, tile_round, tile_shift, tile_forms, shift_forms}

abbrev pub rises : List Step → List Form → Type 0
rises steps fs = is_ordered steps fs ≡ true

abbrev pub unshown : List Step → List Form → Type 0
unshown steps fs = is_ordered steps fs ≡ false

-- the inner loop outside, and the coordinate as it is
abbrev pub inner_first : List Step
inner_first = turns_over 2 (constants (pos 0) (pos 3)) ∷ turns_over 1 (constants (pos 0) (pos 2)) ∷ []

-- a guard behind both loops
abbrev pub with_guard : List Step
with_guard = turns_over 1 (constants (pos 0) (pos 2)) ∷ turns_over 2 (constants (pos 0) (pos 3)) ∷ Tested guarded_form (number (pos 9)) ∷ []

-- a loop that no coordinate names, around both and inside both
abbrev pub unused_around : List Step
unused_around = turns_over 4 (constants (pos 0) (pos 1)) ∷ guarded (constants (pos 0) (pos 2)) (constants (pos 0) (pos 3))

abbrev pub unused_inside : List Step
unused_inside = turns_over 1 (constants (pos 0) (pos 2)) ∷ turns_over 2 (constants (pos 0) (pos 3)) ∷ turns_over 4 (constants (pos 0) (pos 1)) ∷ []

-- six by four, row after row: each coordinate cut by two, blocks of the second outside all of the first
abbrev pub rows : List Step
rows = turns_over 4 (constants (pos 0) (pos 1)) ∷ turns_over 3 (constants (pos 0) (pos 1)) ∷ turns_over 2 (constants (pos 0) (pos 2)) ∷ turns_over 1 (constants (pos 0) (pos 1)) ∷ []

-- the same in tiles of two by two
abbrev pub tiles : List Step
tiles = turns_over 4 (constants (pos 0) (pos 1)) ∷ turns_over 2 (constants (pos 0) (pos 2)) ∷ turns_over 3 (constants (pos 0) (pos 1)) ∷ turns_over 1 (constants (pos 0) (pos 1)) ∷ []

abbrev pub rows_forms : List Form
rows_forms = over_two (pos 0) (pos 1) 1 (pos 2) 2 ∷ over_two (pos 0) (pos 1) 3 (pos 2) 4 ∷ []

-- the second coordinate's blocks begin at the largest of two forms of the symbol around
abbrev pub from_largest : List Step
from_largest = Named 2 Max (symbol 0 ∷ number (pos 0) ∷ []) ∷ turns_over 3 (constants (pos 0) (pos 2)) ∷ turns_over 4 (constants (pos 0) (pos 3)) ∷ []

abbrev pub from_largest_form : Form
from_largest_form = record { constant = pos 0; terms = record { symbol = 2; factor = pos 1 } ∷ record { symbol = 3; factor = pos 4 } ∷ record { symbol = 4; factor = pos 1 } ∷ [] }

pub record PointsRise : Type 0 where
  -- one coordinate: over a loop, a constant, no loop at all
  pub plain : rises (turns_over 1 (constants (pos 0) (pos 9)) ∷ []) (symbol 1 ∷ [])
  pub constant : rises (turns_over 1 (constants (pos 0) (pos 9)) ∷ []) (number (pos 3) ∷ [])
  pub no_step : rises [] (symbol 1 ∷ [])
  pub falling : unshown (turns_over 1 (constants (pos 0) (pos 9)) ∷ []) (plus (pos 9) (negsuc 0) 1 ∷ [])
  -- ten numbers cut by four, with each tail
  pub guard : rises (guarded (constants (pos 0) (pos 2)) (spans (number (pos 0) ∷ []) (number (pos 3) ∷ less_four (pos 9) ∷ []))) (guarded_form ∷ [])
  pub guard_behind : rises with_guard (guarded_form ∷ [])
  pub roundup : rises (guarded (constants (pos 0) (pos 2)) (constants (pos 0) (pos 3))) (guarded_form ∷ [])
  pub shift : unshown (shifted (start_at (plus (pos 0) (pos 4) 1 ∷ number (pos 6) ∷ [])) (constants (pos 0) (pos 3))) (start_form ∷ [])
  pub shift_outside : unshown shifted_outside (over_two (pos 0) (pos 1) 1 (pos 1) 3 ∷ [])
  -- a gap between blocks is no fault, and a longer block is
  pub gap : rises (guarded (constants (pos 0) (pos 2)) (constants (pos 0) (pos 2))) (guarded_form ∷ [])
  pub longer : unshown (guarded (constants (pos 0) (pos 2)) (constants (pos 0) (pos 4))) (guarded_form ∷ [])
  pub longer_behind_guard : unshown (guarded (constants (pos 0) (pos 2)) (spans (number (pos 0) ∷ []) (number (pos 4) ∷ less_four (pos 9) ∷ []))) (guarded_form ∷ [])
  -- the loops in the other order
  pub inner_outside : unshown inner_first (guarded_form ∷ [])
  pub swapped_outside : unshown (swapped (pos 9) (pos 9)) (symbol 3 ∷ [])
  -- cut again, and blocks of one number
  pub twice_cut : rises nested (nested_form ∷ [])
  pub ones_rise : rises ones (ones_form ∷ [])
  pub one_turn_outside : rises ones_outside (ones_form ∷ [])
  -- blocks from a let on that stands around them
  pub let_around : rises from_largest (from_largest_form ∷ [])
  -- a loop that no coordinate names: inside, points come again at once; around, all of them do
  pub unused : unshown unused_around (guarded_form ∷ [])
  pub again : rises unused_inside (guarded_form ∷ [])
  pub again_is_twice : is_once unused_inside (guarded_form ∷ []) ≡ false
  -- two coordinates: the second outside, the first outside, a constant beside, one loop for both
  pub tile_guarded : rises tile_guard tile_forms
  pub tile_rounded : rises tile_round tile_forms
  pub tile_shifted : rises tile_shift shift_forms
  pub exchanged : unshown tile_round (over_two (pos 0) (pos 4) 0 (pos 1) 2 ∷ over_two (pos 0) (pos 2) 1 (pos 1) 3 ∷ [])
  pub in_rows : rises rows rows_forms
  pub in_tiles : unshown tiles rows_forms
  pub first_constant : rises (turns_over 2 (constants (pos 0) (pos 3)) ∷ []) (number (pos 7) ∷ symbol 2 ∷ [])
  pub second_constant : rises (turns_over 2 (constants (pos 0) (pos 3)) ∷ []) (symbol 2 ∷ number (pos 7) ∷ [])
  pub diagonal : rises (turns_over 2 (constants (pos 0) (pos 3)) ∷ []) (symbol 2 ∷ symbol 2 ∷ [])
