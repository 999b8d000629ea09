-- The tests that a nest of plain loops or a fetch makes a claim, and that an update's nest does its steps in turn.
use Rattle.std.specs.Prelude.{ℕ, zero, suc, ◌==◌, ◌||◌, ◌&&◌, Bool, true, false, not, if◌then◌else◌, List, [], ◌∷◌, ◌++◌, map, filter, reverse, length, take, drop, Option, Some, None}
use Rattle.std.specs.List.{list_any, list_all}
use Rattle.lin.specs.Forms.{number}
use Rattle.lin.specs.Search.{is_empty}
use Rattle.lin.specs.declared.span.Span1.{Span1}
use Rattle.meaning.specs.Algorithm.{Range}
use Rattle.meaning.specs.Names.{same_name}
use Rattle.plan.specs.declared.stmt.Places.{Places}
use Rattle.plan.specs.declared.stmt.Places.TheVariants.{From, Folded}
use Rattle.plan.specs.Plan.{Index, At, Found, Coordinate, Statement, Fetch, Store}
use Rattle.plan.specs.Semantics.Actions.{Setting}
use Rattle.plan.specs.Certificate.Certificate.{Claim}
use Rattle.soundness.specs.Origins.{Outline}
use Rattle.soundness.specs.Obligations.{Binder, Ranged, Rules, exactly, anything, span_has, binder_has, places_have, is_next, is_form}
use Rattle.soundness.specs.Shown.{is_within, are_within, is_seated, are_seated, Nests}
use Rattle.soundness.specs.Nests.Nest.{Loop, Nest, nest_of, is_symbol}

-- ---- loops and coordinates

-- exactly one of the coordinates is the symbol
abbrev pub is_once : ℕ → List Coordinate → Bool
is_once i [] = false
is_once i (c ∷ cs) = if is_symbol i c then not (list_any (is_symbol i) cs) else is_once i cs

-- the coordinate is found by an expression, or is the symbol of a loop
abbrev pub is_given : List Loop → Coordinate → Bool
is_given ls c = not (is_form c) || list_any (λ l. is_symbol l.symbol c) ls

-- no two loops have one symbol
abbrev pub are_apart : List Loop → Bool
are_apart [] = true
are_apart (l ∷ ls) = not (list_any (λ m. l.symbol == m.symbol) ls) && are_apart ls

abbrev pub has_ends : Span1 → Bool
has_ends x = not (is_empty x.lower) && not (is_empty x.upper)

-- the loop's span has both ends, and none of the nest's symbols
abbrev pub is_outside : List Loop → Loop → Bool
is_outside ls m = has_ends m.span && list_all (λ l. not (span_has l.symbol m.span)) ls

-- each loop is that of exactly one coordinate, and each coordinate that is a form is the symbol of one loop
abbrev pub are_matched : List Loop → List Coordinate → Bool
are_matched ls cs = are_apart ls && (list_all (is_outside ls) ls && (list_all (λ l. is_once l.symbol cs) ls && list_all (is_given ls) cs))

-- the region's span at the coordinate that is the symbol
abbrev pub span_at : ℕ → List Coordinate → List Span1 → Option Span1
span_at i [] xs = None
span_at i (c ∷ cs) [] = None
span_at i (c ∷ cs) (x ∷ xs) = if is_symbol i c then Some x else span_at i cs xs

-- the symbol of the loop is one of the coordinates
abbrev pub is_among : List Coordinate → Loop → Bool
is_among cs l = list_any (is_symbol l.symbol) cs

-- the loop's symbol stands in no binder and in no place
abbrev pub is_new : List Binder → List Places → Loop → Bool
is_new bs places l = not (list_any (binder_has l.symbol) bs) && not (list_any (places_have l.symbol) places)

-- the binders of the loops and those round them
abbrev pub binders_in : List Loop → List Binder → List Binder
binders_in [] bs = bs
binders_in (l ∷ ls) bs = binders_in ls (Ranged l.symbol l.span ∷ bs)

-- what is known of a coordinate before an expression is evaluated
abbrev pub index_known : Index → Span1
index_known (At l) = exactly l
index_known (Found e) = anything

abbrev pub known_span : Coordinate → Span1
known_span c = index_known c.index

-- from the first to the last number of a range
abbrev pub range_span : Range → Span1
range_span d = record { lower = number d.low ∷ []; upper = number d.high ∷ [] }

module _ (rules : Rules) (bs : List Binder) where
  -- the region's span at the loop's coordinate is shown to lie in the loop's span
  abbrev pub is_run : Option Span1 → Span1 → Bool
  is_run None y = false
  is_run (Some x) y = is_within rules bs x y

  abbrev pub runs_over : List Coordinate → List Span1 → Loop → Bool
  runs_over cs region l = is_run (span_at l.symbol cs region) l.span

  -- the loop runs over the range, and no further
  abbrev pub is_whole : Span1 → Range → Bool
  is_whole x d = is_within rules bs x (range_span d) && is_within rules bs (range_span d) x

  -- the loops are those of the coordinates, one after another, and each runs over its range
  abbrev pub are_whole : List Loop → List Coordinate → List Range → Bool
  are_whole [] [] [] = true
  are_whole (l ∷ ls) (c ∷ cs) (d ∷ ds) = is_symbol l.symbol c && (is_whole l.span d && are_whole ls cs ds)
  are_whole _ _ _ = false

  -- of the loops of the reduction that of the last variable is the outermost, and each runs over its variable's range
  abbrev pub is_reduced : Option (List Range) → List Coordinate → List Loop → Bool
  is_reduced None over ls = false
  is_reduced (Some ds) over ls = are_whole (filter (is_among over) ls) (reverse over) (reverse ds)

  -- the span is shown to have at most so many numbers
  abbrev pub is_short : Span1 → ℕ → Bool
  is_short x n = list_any (λ l. is_seated rules bs x (From l n)) x.lower

  -- where a span's coordinate is folded it has at most as many numbers as places
  abbrev pub fits_fold : Span1 → Places → Bool
  fits_fold x (From l n) = true
  fits_fold x (Folded n) = is_short x n

  abbrev pub fold_holds : List Span1 → List Places → Bool
  fold_holds [] places = true
  fold_holds (x ∷ xs) [] = true
  fold_holds (x ∷ xs) (a ∷ places) = fits_fold x a && fold_holds xs places

  -- the same of the loop whose symbol a coordinate is
  abbrev pub loops_hold : List Loop → List Coordinate → List Places → Bool
  loops_hold ls [] places = true
  loops_hold ls (c ∷ cs) [] = true
  loops_hold ls (c ∷ cs) (a ∷ places) = list_any (λ l. is_symbol l.symbol c && fits_fold l.span a) ls && loops_hold ls cs places

-- ---- nests

module _ (setting : Setting) where
  -- the coordinates of a store's left side, and its reduction variables
  abbrev pub left_of : ℕ → List Coordinate → List Coordinate
  left_of b at = take (setting.dimensions b) at

  abbrev pub over_of : ℕ → List Coordinate → List Coordinate
  over_of b at = drop (setting.dimensions b) at

  module _ (rules : Rules) where
    -- the loops run over the claim's region, of each coordinate's span by one loop
    abbrev pub covers : List Binder → Claim → List Coordinate → List Loop → Bool
    covers bs claim left ls = (length left == length claim.region) && list_all (runs_over rules bs left claim.region) ls

    -- the points of the store have places of their own in the buffer
    abbrev pub has_places : List Binder → List Coordinate → List Loop → List Places → Bool
    has_places bs left ls places =
        loops_hold rules bs ls left places && (list_all (is_new bs places) ls && are_seated rules (binders_in ls bs) (map known_span left) places)

    -- a nest of the function's pure definition round the store of it
    abbrev pub is_filled : List Binder → Claim → List Places → List Loop → Statement → Bool
    is_filled bs claim places ls (Store b zero at e) =
        (claim.definition == 0) && (same_name (setting.buffer_function b) claim.function
        && (list_all is_form (left_of b at) && (is_empty (over_of b at)
        && (are_matched ls (left_of b at) && (covers bs claim (left_of b at) ls && has_places bs (left_of b at) ls places)))))
    is_filled bs claim places ls _ = false

    -- a fetch of the claim's region, of the function after all its updates
    abbrev pub is_fetched : List Binder → Claim → List Places → List Loop → Statement → Bool
    is_fetched bs claim places [] (Fetch b g region) =
        same_name (setting.group_function g) claim.function && ((claim.definition == rules.last claim.function)
        && (list_all has_ends region && (are_within rules bs claim.region region && (fold_holds rules bs region places && are_seated rules bs region places))))
    is_fetched bs claim places _ _ = false

    -- a definition of a function has a reduction domain, the pure one and unknown ones have none
    module _ (domain : List ℕ → ℕ → Option (List Range)) where
      -- an update's nest that does each step of the claim's definition in its turn: the loops of its pure variables may stand
      -- inside or outside of those of the reduction
      abbrev pub is_ordered : List Binder → Claim → List Loop → Statement → Bool
      is_ordered bs claim ls (Store b (suc k) at e) =
          (claim.definition == suc k) && (same_name (setting.buffer_function b) claim.function
          && (list_all is_form (over_of b at) && (are_matched ls (left_of b at ++ over_of b at)
          && is_reduced rules bs (domain claim.function (suc k)) (over_of b at) ls)))
      is_ordered bs claim ls _ = false

      -- and does so at each point of the claim's region
      abbrev pub is_advanced : List Binder → Claim → List Loop → Statement → Bool
      is_advanced bs claim ls (Store b k at e) =
          is_ordered bs claim ls (Store b k at e) && ((length (left_of b at) == length claim.region)
          && list_all (λ l. is_among (over_of b at) l || runs_over rules bs (left_of b at) claim.region l) ls)
      is_advanced bs claim ls _ = false

      abbrev pub makes : List Binder → Claim → (from : Option ℕ) → List Places → Option Nest → Bool
      makes bs claim from places None = false
      makes bs claim None places (Some n) = is_filled bs claim places n.loops n.line || is_fetched bs claim places n.loops n.line
      makes bs claim (Some k) places (Some n) = is_next k claim.definition && is_advanced bs claim n.loops n.line

      abbrev pub is_in_order : List Binder → Claim → Option Nest → Bool
      is_in_order bs claim None = false
      is_in_order bs claim (Some n) = is_ordered bs claim n.loops n.line

-- the tests of nests: none is along a window
abbrev pub plain_nests : Outline → Rules → (List ℕ → ℕ → Option (List Range)) → Nests
plain_nests outline rules domain = record {
  is_made = λ bs c from places a. makes outline.setting rules domain bs (outline.claim c) from places (nest_of a (outline.claim c).buffer);
  is_in_turn = λ bs c a. is_in_order outline.setting rules domain bs (outline.claim c) (nest_of a (outline.claim c).buffer);
  is_slid = λ bs w c places a. false;
  is_held = λ bs w c places a. false;
}
