-- A claim that is made along a window: by one nest in the first turn of a loop, by another, of the new rows alone, in each later one.
use Rattle.std.specs.Prelude.{ℕ, zero, suc, ◌==◌, ◌||◌, ◌&&◌, Bool, true, false, not, List, [], ◌∷◌, ◌++◌, map, take, drop, slice_get, Option, Some, None, pos, ◌-ℤ◌}
use Rattle.std.specs.List.{list_any, list_all}
use Rattle.std.specs.Option.{option_map_or}
use Rattle.lin.specs.Forms.{Form, number, factor_of, combined}
use Rattle.lin.specs.declared.span.Span1.{Span1}
use Rattle.plan.specs.declared.certificate.cert.Window.{Window}
use Rattle.plan.specs.declared.stmt.Places.{Places}
use Rattle.plan.specs.declared.stmt.Places.TheVariants.{From, Folded}
use Rattle.plan.specs.Plan.{Statement, First}
use Rattle.plan.specs.Semantics.Actions.{Setting}
use Rattle.plan.specs.Certificate.Certificate.{Claim}
use Rattle.soundness.specs.Around.{Binder, inside}
use Rattle.soundness.specs.Obligations.{Rules, exactly, span_has}
use Rattle.soundness.specs.Shown.{is_within, is_seated}
use Rattle.tails.specs.Steps.{Step, spine_of, binder, along}
use Rattle.tails.specs.Moves.{is_outer}
use Rattle.tails.specs.Maps.{is_scoped, covers}
use Rattle.tails.specs.Stored.{Stored, stored_by, has_places}
use Rattle.tails.specs.Windows.Spans.{is_window}

-- ---- new rows

-- the row above where the form was in the turn before; None where that leaves the limits
abbrev pub row_above : ℕ → Form → Option Form
row_above i u = combined u (pos 1) (number (pos 1 -ℤ factor_of u.terms i))

-- a span's rows from a form on
abbrev pub rows_from : Span1 → Form → Span1
rows_from x f = record { lower = x.lower ++ f ∷ []; upper = x.upper }

-- a region with a span in the place of a dimension's
abbrev pub region_with : ℕ → List Span1 → Span1 → List Span1
region_with d xs y = take d xs ++ y ∷ drop (suc d) xs

-- ---- places

-- the fold is that of the places, 0 where they are not folded
abbrev pub is_fold_of : ℕ → Places → Bool
is_fold_of n (From l m) = n == 0
is_fold_of n (Folded m) = n == m

-- no form names the loop's symbol, or one bound inside the loop
abbrev pub is_still : ℕ → List Binder → Span1 → Bool
is_still i inner x = not (span_has i x) && (list_all (is_outer inner) x.lower && list_all (is_outer inner) x.upper)

-- how many dimensions there are before one: of it, and of the dimensions behind the first
abbrev pub one_less : Option ℕ → Option ℕ
one_less None = None
one_less (Some zero) = None
one_less (Some (suc d)) = Some d

-- it stands first
abbrev pub is_here : Option ℕ → Bool
is_here None = false
is_here (Some zero) = true
is_here (Some (suc d)) = false

-- whether the first dimension is asked of: the one alone, or all others
abbrev pub is_asked : (alone : Bool) → Option ℕ → Bool
is_asked true d = is_here d
is_asked false d = not (is_here d)

module _ (rules : Rules) (bs : List Binder) where
  -- ---- what a nest stores, and the region

  -- the span and what is stored at the form lie together within so many numbers from an outer form on
  abbrev pub lie_from : List Step → Span1 → Form → ℕ → Form → Bool
  lie_from steps x f n l = is_outer (along steps) l && (is_seated rules bs x (From l n) && is_seated rules (along steps ++ bs) (exactly f) (From l n))

  -- from some lower form on
  abbrev pub are_together : List Step → Span1 → Form → ℕ → Bool
  are_together steps x f n = list_any (lie_from steps x f n) x.lower

  -- where the coordinate is folded
  abbrev pub axis_holds : List Step → Span1 → Form → Places → Bool
  axis_holds steps x f (From l n) = true
  axis_holds steps x f (Folded n) = are_together steps x f n

  -- in the dimension that so many stand before, or in all others
  abbrev pub hold : (alone : Bool) → Option ℕ → List Step → List Span1 → List Form → List Places → Bool
  hold alone d steps [] [] [] = true
  hold alone d steps (x ∷ xs) (f ∷ fs) (a ∷ places) = (not (is_asked alone d) || axis_holds steps x f a) && hold alone (one_less d) steps xs fs places
  hold alone d steps _ _ _ = false

  -- ---- the window

  -- the window's span is the region's in its dimension, its fold that of the places
  abbrev pub is_axis : Window → Span1 → Places → Bool
  is_axis w x a = (is_within rules bs x w.span && is_within rules bs w.span x) && (is_window rules bs w.symbol w.fold x && is_fold_of w.fold a)

  -- and the region moves along no dimension behind it
  abbrev pub moves_first : Window → Span1 → List Span1 → Places → Bool
  moves_first w x xs a = is_axis w x a && list_all (is_still w.symbol (inside w.symbol bs)) xs

  -- nor along one before it
  abbrev pub is_along : Window → ℕ → List Span1 → List Places → Bool
  is_along w zero (x ∷ xs) (a ∷ places) = moves_first w x xs a
  is_along w (suc d) (x ∷ xs) (a ∷ places) = is_still w.symbol (inside w.symbol bs) x && is_along w d xs places
  is_along w d _ _ = false

  -- ---- one nest

  module _ (region : List Span1) where
    -- it reaches the region's rows above where an upper form was in the turn before
    abbrev pub reaches_above : ℕ → ℕ → Span1 → Stored → Form → Bool
    reaches_above i d x n u = option_map_or (λ f. covers rules bs n.steps n.forms (region_with d region (rows_from x f))) (row_above i u) false

    -- of each upper form
    abbrev pub reaches_new : ℕ → ℕ → Stored → Bool
    reaches_new i d n = option_map_or (λ (x : Span1). list_all (reaches_above i d x n) x.upper) (slice_get region d) false

    module _ (places : List Places) where
      -- the points have places, and in the other dimensions what is stored leaves those of the region alone
      abbrev pub others_stay : ℕ → Stored → Bool
      others_stay d n = has_places true rules bs n places && (is_scoped (map binder n.steps) && hold false (Some d) n.steps region n.forms places)

      -- and in the window's dimension
      abbrev pub one_stays : ℕ → Option Stored → Bool
      one_stays d None = false
      one_stays d (Some n) = hold true (Some d) n.steps region n.forms places

      -- it makes the region
      abbrev pub makes_all : ℕ → Option Stored → Bool
      makes_all d None = false
      makes_all d (Some n) = others_stay d n && covers rules bs n.steps n.forms region

      -- or the rows that are new
      abbrev pub makes_new : ℕ → ℕ → Option Stored → Bool
      makes_new i d None = false
      makes_new i d (Some n) = others_stay d n && reaches_new i d n

-- what an arm stores of the claim
abbrev pub arm : Setting → Claim → Statement → Option Stored
arm setting claim a = stored_by setting claim (spine_of a claim.buffer)

module _ (setting : Setting) (rules : Rules) (bs : List Binder) (claim : Claim) (places : List Places) where
  -- the first turn makes the whole region, each later one what lies above some upper form of the turn before
  abbrev pub is_slid : Window → Statement → Bool
  is_slid w (First i a c) =
      (i == w.symbol) && (makes_all rules bs claim.region places w.dimension (arm setting claim a)
      && makes_new rules bs claim.region places w.symbol w.dimension (arm setting claim c))
  is_slid w _ = false

  abbrev pub arms_stay : ℕ → Statement → Bool
  arms_stay d (First i a c) = one_stays rules bs claim.region places d (arm setting claim a) && one_stays rules bs claim.region places d (arm setting claim c)
  arms_stay d _ = false

  -- the buffer holds the window's rows at each turn of its loop
  abbrev pub is_held : Window → Statement → Bool
  is_held w a =
      is_window rules bs w.symbol w.fold w.span && (is_along rules bs w w.dimension claim.region places && arms_stay w.dimension a)

-- without a window: a nest makes the claim's region in a buffer that may be folded, and what it stores leaves the places of the region's
-- points alone, in the first dimension and in all others
abbrev pub makes_folded : Rules → List Binder → Claim → List Places → Option Stored → Bool
makes_folded rules bs claim places o = makes_all rules bs claim.region places 0 o && one_stays rules bs claim.region places 0 o
