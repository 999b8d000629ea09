-- When a function that is computed inside a loop slides along it, what it holds in each turn then, and from where on its later turns make what is new.
-- What crates below need of it stands there: `sched`.
use Rattle.std.specs.Prelude.{ℕ, ◌+◌, ◌-◌, ◌==◌, nat_lt, ℤ, pos, int_lt, int_le, Bool, true, false, not, ◌&&◌, ◌||◌, if◌then◌else◌, List, [], ◌∷◌, ◌++◌, length, Option, Some, None}
use Rattle.std.specs.Prelude.{slice_get}
use Rattle.std.specs.Option.{is_some}
use Rattle.std.specs.Ordering.{int_eq}
use Rattle.std.specs.List.{list_any, list_all}
use Rattle.lin.specs.Forms.{Form, factor_of, number, combined}
use Rattle.lin.specs.Search.{at_most, is_empty}
use Rattle.lin.specs.declared.scope.Binding.{Binding}
use Rattle.lin.specs.declared.span.Span1.{Span1}
use Rattle.meaning.specs.Names.{same_name}
use Rattle.sched.specs.declared.skeleton.Step.{Step}
use Rattle.sched.specs.declared.skeleton.Step.TheVariants.{Turns, Named, Tested}
use Rattle.sched.specs.Standing.{◌>>=◌}
use Rattle.regions.specs.declared.sliding.Track.{Track}
use Rattle.regions.specs.declared.sliding.Sliding.{Sliding}
use Rattle.sched.specs.Stored.{FormulaText, StoredText}
use Rattle.sched.specs.Blocks.{difference}
use Rattle.sched.specs.Taken.{freed, shortest}
use Rattle.regions.specs.Windows.{window_size, all_fit}
use Rattle.regions.specs.Turned.{symbol}
use Rattle.sched.specs.Slid.{is_single}

-- ---- the loop

-- the loop along which a function may slide: its symbol, what it runs over, the symbols of the lets behind it, and whether a guard stands there
pub record TrackText : Type 0 where
  pub symbol : ℕ
  pub span : Span1
  pub lets : List ℕ
  pub is_guarded : Bool

abbrev pub lets_of : List Step → List ℕ
lets_of [] = []
lets_of (Turns i x kind ∷ steps) = lets_of steps
lets_of (Named i pick forms ∷ steps) = i ∷ lets_of steps
lets_of (Tested low high ∷ steps) = lets_of steps

abbrev pub is_test : Step → Bool
is_test (Turns i x kind) = false
is_test (Named i pick forms) = false
is_test (Tested low high) = true

abbrev pub track_here : Step → List Step → Option TrackText
track_here (Turns i x kind) behind = Some (record { symbol = i; span = x; lets = lets_of behind; is_guarded = list_any is_test behind })
track_here (Named i pick forms) behind = None
track_here (Tested low high) behind = None

abbrev pub or_here : Option TrackText → Option TrackText → Option TrackText
or_here (Some t) here = Some t
or_here None here = here

-- the innermost loop of the steps, with what stands behind it
abbrev pub track_of : List Step → Option TrackText
track_of [] = None
track_of (s ∷ steps) = or_here (track_of steps) (track_here s steps)

-- ---- spans that move

-- the form has the symbol
abbrev pub has : Form → ℕ → Bool
has f s = not (int_eq (factor_of f.terms s) (pos 0))

abbrev pub is_low : Form → ℕ → Bool
is_low f s = int_le (pos 0) (factor_of f.terms s)

module _ (t : TrackText) where
  -- the form has the loop's symbol, or that of a let behind it
  abbrev pub is_named : Form → Bool
  is_named f = has f t.symbol || list_any (has f) t.lets

  abbrev pub moves : Span1 → Bool
  moves x = list_any is_named x.lower || list_any is_named x.upper

  -- the form does not fall as the loop turns
  abbrev pub is_rising : Form → Bool
  is_rising f = is_low f t.symbol && list_all (is_low f) t.lets

  abbrev pub rises : Span1 → Bool
  rises x = list_all is_rising x.lower && list_all is_rising x.upper

  -- of the dimensions from this one on the only one that moves, where this one before them does; None where there are several, or an end of it falls
  abbrev pub slid_from : ℕ → List Span1 → Option ℕ → Option ℕ
  slid_from d [] found = found
  slid_from d (x ∷ xs) found =
      if moves x then (if is_some found then None else (if rises x then slid_from (d + 1) xs (Some d) else None)) else slid_from (d + 1) xs found

  -- the dimension in which a region slides
  abbrev pub sliding_dimension : List Span1 → Option ℕ
  sliding_dimension r = slid_from 0 r None

-- the loop may have a second turn
abbrev pub is_repeated : List Binding → TrackText → Bool
is_repeated scope t = elim (shortest scope t.span) [ Some b ↦ int_lt (pos 1) b.1 | None ↦ true ]

-- neither a let nor a guard stands behind the loop
abbrev pub is_bare : TrackText → Bool
is_bare t = is_empty t.lets && not t.is_guarded

-- ---- what it holds

-- what a form needs to be one past what it was in the turn before
abbrev pub offset : ℕ → Form → ℤ
offset s f = difference (pos 1) (factor_of f.terms s)

-- one past what a form was in the turn before
abbrev pub past : ℕ → Form → Option Form
past s f = combined (number (offset s f)) (pos 1) f

-- the same of each upper form, behind others
abbrev pub add_new : ℕ → List Form → List Form → Option (List Form)
add_new s [] before = Some before
add_new s (f ∷ fs) before = past s f >>= λ g. add_new s fs (before ++ g ∷ [])

abbrev pub new_from : ℕ → Span1 → Option (List Form)
new_from s x = add_new s x.upper []

-- the form is shown to be at most each of the others
abbrev pub is_below : List Binding → Form → List Form → Bool
is_below scope f [] = true
is_below scope f (g ∷ gs) = if at_most scope f g then is_below scope f gs else false

abbrev pub is_open : Span1 → Bool
is_open x = is_empty x.lower || is_empty x.upper

module _ (scope : List Binding) (t : TrackText) where
  -- the turns join: those of these lower forms that move are shown to be at most one past each end of the turn before
  abbrev pub are_joined : List Form → List Form → Bool
  are_joined new [] = true
  are_joined new (f ∷ fs) = if is_named t f then (if is_below scope f new then are_joined new fs else false) else are_joined new fs

  abbrev pub joined : Span1 → Span1 → Option (Option Span1)
  joined x held = new_from t.symbol held >>= λ new. Some (if are_joined new x.lower then Some held else None)

  -- the span freed of the lets behind the loop, where it does not fall and the turns join; None where a form leaves the limits
  abbrev pub over_loop : Span1 → Option (Option Span1)
  over_loop x = freed scope t.lets x >>= λ held. if is_open held then Some None else (if rises t held then joined x held else Some None)

-- the region with another span in a dimension
abbrev pub with_span : ℕ → Span1 → ℕ → List Span1 → List Span1
with_span d s p [] = []
with_span d s p (x ∷ xs) = (if p == d then s else x) ∷ with_span d s (p + 1) xs

abbrev pub is_split : StoredText → ℕ → Bool
is_split g d = elim (slice_get g.subject.variables d) [ Some x ↦ list_any (λ c. same_name c.whole x) g.placed.cuts | None ↦ false ]

abbrev pub if_told : Option (Option Span1) → Option Span1
if_told None = None
if_told (Some o) = o

abbrev pub freed_region : StoredText → List Binding → TrackText → ℕ → List Span1 → Option (List Span1)
freed_region g scope t d r = slice_get r d >>= λ x. if is_split g d then None else (if_told (over_loop scope t x) >>= λ s. Some (with_span d s 0 r))

-- what a function without updates holds in each turn: the region that is needed, or behind lets that one freed of them; None behind a guard, where it is split in that
-- dimension, or where the turns do not join
abbrev pub held_region : StoredText → List FormulaText → List Binding → TrackText → ℕ → List Span1 → Option (List Span1)
held_region g fs scope t d r = if t.is_guarded then None else (if not (is_single fs) then None else (if is_empty t.lets then Some r else freed_region g scope t d r))

-- ---- what is new

-- another of these forms, of which the first has the place q, than the one at p is shown to be at least this one
abbrev pub is_spare : List Binding → Form → ℕ → ℕ → List Form → Bool
is_spare scope f p q [] = false
is_spare scope f p q (g ∷ gs) = if not (q == p) && at_most scope f g then true else is_spare scope f p (q + 1) gs

-- the first of these, from the place p on, that is not needed beside all; else the last
abbrev pub spare_from : List Binding → List Form → ℕ → List Form → ℕ
spare_from scope all p [] = length all - 1
spare_from scope all p (f ∷ fs) = if is_spare scope f p 0 all then p else spare_from scope all (p + 1) fs

-- the place of a form that makes room for one more, where there are four
abbrev pub spare_place : List Binding → List Form → ℕ
spare_place scope fs = if nat_lt (length fs) 4 then length fs else spare_from scope fs 0 fs

abbrev pub others_from : ℕ → ℕ → List Form → List Form
others_from spare p [] = []
others_from spare p (f ∷ fs) = if p == spare then others_from spare (p + 1) fs else f ∷ others_from spare (p + 1) fs

-- the span from the symbol behind all these on
abbrev pub from_symbol : List Binding → Span1 → Span1
from_symbol scope x = record { lower = symbol (length scope) ∷ others_from (spare_place scope x.lower) 0 x.lower; upper = x.upper }

-- the region, in this dimension from there on
abbrev pub new_region : List Binding → ℕ → ℕ → List Span1 → List Span1
new_region scope d p [] = []
new_region scope d p (x ∷ xs) = (if p == d then from_symbol scope x else x) ∷ new_region scope d (p + 1) xs

-- ---- folds

abbrev pub fit_along : StoredText → List Binding → Option (List ℕ) → Option Span1 → Bool
fit_along g scope (Some x) (Some s) = all_fit x (window_size scope s) g.placed.folds
fit_along g scope _ _ = false

-- each fold of the function is of the dimension along which it slides, with places for its window
abbrev pub folds_fit : StoredText → List Binding → List Span1 → Option ℕ → Bool
folds_fit g scope r None = is_empty g.placed.folds
folds_fit g scope r (Some d) = fit_along g scope (slice_get g.subject.variables d) (slice_get r d)

-- ---- as memory keeps them

abbrev pub track_seen : Track → TrackText
track_seen t = record { symbol = t.symbol; span = t.span; lets = t.lets.items; is_guarded = t.is_guarded }

abbrev pub sliding_seen : Sliding → TrackText × ℕ
sliding_seen s = (track_seen s.track, s.dimension)
