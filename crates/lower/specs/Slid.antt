-- When a function that is computed inside a loop slides along it, what it holds in each turn then, and from where on its later turns make what is new.
-- What crates below need of it stands there: `sched`, `regions`.
use Rattle.std.specs.Prelude.{◌≡◌, ℕ, ◌-◌, Bool, true, false, ◌&&◌, if◌then◌else◌, List, [], ◌∷◌, ◌++◌, length, Option, Some, None, slice_get}
use Rattle.lin.specs.Forms.{Form}
use Rattle.lin.specs.Search.{is_empty}
use Rattle.lin.specs.declared.scope.Binding.{Binding}
use Rattle.lin.specs.declared.scope.Binding.TheVariants.{LetMin}
use Rattle.lin.specs.declared.span.Span1.{Span1}
use Rattle.meaning.specs.Names.{same_name}
use Rattle.sched.specs.declared.skeleton.Step.{Step}
use Rattle.sched.specs.Standing.{◌>>=◌}
use Rattle.sched.specs.declared.hosts.Spot.{Spot}
use Rattle.sched.specs.Stored.{FormulaText, StoredText}
use Rattle.sched.specs.Fetches.{Entry}
use Rattle.sched.specs.Placed.{LaterText, PlacedText}
use Rattle.blocks.specs.Placed.{same_spot}
use Rattle.regions.specs.Demanded.{steps_at, is_scattered}
use Rattle.blocks.specs.Parted.{kept_region}
use Rattle.lower.specs.Parted.{nests_kept, nests_over}
use Rattle.regions.specs.Slid.{TrackText, track_of, sliding_dimension, is_repeated, is_bare, new_from, held_region, new_region, folds_fit}

-- ---- where it may slide

abbrev pub dimension_along : Option (TrackText × ℕ) → Option ℕ
dimension_along None = None
dimension_along (Some x) = Some x.1

abbrev pub unless_scattered : StoredText → TrackText → ℕ → Option (TrackText × ℕ)
unless_scattered g t d = if is_scattered g d then None else Some (t, d)

-- along the innermost loop of these steps, in the dimension in which the region slides
abbrev pub sliding_in : StoredText → List Span1 → List Step → Option (TrackText × ℕ)
sliding_in g r steps = track_of steps >>= λ t. sliding_dimension t r >>= unless_scattered g t

-- the loop and the dimension along which a function slides of which this region is needed at its place: its buffer stands outside of that, and the region slides along the
-- innermost loop there, in a dimension in which no update sets points elsewhere
abbrev pub sliding_at : Entry → List PlacedText → StoredText → Spot → Spot → List Span1 → Option (TrackText × ℕ)
sliding_at e is g home store r = if same_spot home store then None else (steps_at e is home >>= sliding_in g r)

-- none of the functions before the one of this name is folded
abbrev pub are_unfolded_before : List ℕ → List Entry → Bool
are_unfolded_before x [] = true
are_unfolded_before x (e ∷ es) = if same_name e.0.subject.name x then true else (if is_empty e.0.placed.folds then are_unfolded_before x es else false)

-- behind lets it holds more than is needed: only where its own fold has places for that, and none that it may call is folded
abbrev pub may_hold : List Entry → StoredText → List Binding → List Span1 → TrackText → ℕ → Bool
may_hold es g scope r t d = if is_bare t then true else (folds_fit g scope r (Some d) && are_unfolded_before g.subject.name es)

-- ---- whether it slides

module _ (es : List Entry) (g : StoredText) (fs : List FormulaText) (scope : List Binding) (r : List Span1) where
  abbrev pub if_held : TrackText → ℕ → List Span1 → Option (List Span1)
  if_held t d h = if may_hold es g scope h t d then Some h else None

  -- what it holds in each turn of the loop along which it slides; None where each turn makes all
  abbrev pub held_along : TrackText × ℕ → Option (List Span1)
  held_along x = if is_repeated scope x.0 then (held_region g fs scope x.0 x.1 r >>= if_held x.0 x.1) else None

-- the turns after the first one: along that loop, in that dimension, from the least of these forms on, which the symbol behind all others stands for; where no loop of the
-- function is split, its nests are its loops over what is new, and where some are, these with what their splits put behind them
pub record IsLater (g : StoredText) (fs : List FormulaText) (kept : Option (List Span1)) (x : TrackText × ℕ) (scope : List Binding) (h : List Span1) (l : LaterText) : Type 0 where
  pub symbol : l.symbol ≡ x.0.symbol
  pub dimension : l.dimension ≡ x.1
  pub span : Span1
  pub along : slice_get h x.1 ≡ Some span
  pub first_new : new_from x.0.symbol span ≡ Some l.first_new
  pub scoped : l.scope ≡ scope ++ LetMin l.first_new ∷ []
  pub new : l.region ≡ new_region scope x.1 0 h
  pub nested : nests_kept g fs l.scope (new_region scope x.1 0 h) kept ≡ Some l.nests

abbrev pub HasLater : StoredText → List FormulaText → Option (List Span1) → TrackText × ℕ → List Binding → List Span1 → Option LaterText → Type 0
HasLater g fs kept x scope h None = slice_get h x.1 ≡ None
HasLater g fs kept x scope h (Some l) = IsLater g fs kept x scope h l

-- the same as one answer; None where a form leaves the limits
module _ (g : StoredText) (fs : List FormulaText) (kept : List Span1) (x : TrackText × ℕ) (scope : List Binding) (h : List Span1) where
  -- from the least of these forms on
  abbrev pub later_from : List Form → Option LaterText
  later_from new =
      let inner = scope ++ LetMin new ∷ [] in
      let region = new_region scope x.1 0 h in
      nests_over g fs inner region kept >>= λ nests. Some (record {
        symbol = x.0.symbol;
        dimension = x.1;
        first_new = new;
        new = length inner - 1;
        scope = inner;
        region = region;
        nests = nests;
      })

  abbrev pub later_along : Option Span1 → Option (Option LaterText)
  later_along None = Some None
  later_along (Some s) = new_from x.0.symbol s >>= λ new. later_from new >>= λ l. Some (Some l)

  abbrev pub later_turns : Option (Option LaterText)
  later_turns = later_along (slice_get h x.1)

-- it holds this region in each turn, of which the later ones make what is new; so many symbols stand around its buffer
pub record HoldsSome (g : StoredText) (fs : List FormulaText) (n : ℕ) (x : TrackText × ℕ) (scope : List Binding) (h held : List Span1) (later : Option LaterText) : Type 0 where
  pub is : held ≡ h
  pub turns : HasLater g fs (kept_region n scope h) x scope h later

-- each turn makes all that is needed
pub record HoldsNone (r held : List Span1) (later : Option LaterText) : Type 0 where
  pub is : held ≡ r
  pub none : later ≡ None

abbrev pub HoldsBy : StoredText → List FormulaText → ℕ → TrackText × ℕ → List Binding → List Span1 → Option (List Span1) → List Span1 → Option LaterText → Type 0
HoldsBy g fs n x scope r None held later = HoldsNone r held later
HoldsBy g fs n x scope r (Some h) held later = HoldsSome g fs n x scope h held later

-- what a function holds in each turn, and its turns after the first one, where it may slide along this loop in this dimension
abbrev pub Holds : List Entry → StoredText → List FormulaText → ℕ → List Binding → List Span1 → Option (TrackText × ℕ) → List Span1 → Option LaterText → Type 0
Holds es g fs n scope r None held later = HoldsNone r held later
Holds es g fs n scope r (Some x) held later = HoldsBy g fs n x scope r (held_along es g fs scope r x) held later

-- the same as one answer: the region that it holds, and its later turns
module _ (g : StoredText) (fs : List FormulaText) (n : ℕ) (scope : List Binding) (r : List Span1) where
  abbrev pub turns_held : TrackText × ℕ → Option (List Span1) → Option (List Span1 × Option LaterText)
  turns_held x None = Some (r, None)
  turns_held x (Some h) = kept_region n scope h >>= λ kept. later_turns g fs kept x scope h >>= λ l. Some (h, l)

  abbrev pub turns_of : List Entry → Option (TrackText × ℕ) → Option (List Span1 × Option LaterText)
  turns_of es None = Some (r, None)
  turns_of es (Some x) = turns_held x (held_along es g fs scope r x)
