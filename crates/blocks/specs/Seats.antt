-- The places of the buffer of a function that is computed inside loops: from which form on in each dimension, and how many.
use Rattle.std.specs.Prelude.{ℕ, ◌+◌, ℤ, pos, int_lt, if◌then◌else◌, List, [], ◌∷◌, ◌++◌, map, Option, Some, None, slice_get}
use Rattle.std.specs.Option.{option_map}
use Rattle.lin.specs.Forms.{Form}
use Rattle.lin.specs.Search.{at_most}
use Rattle.lin.specs.declared.scope.Binding.{Binding}
use Rattle.lin.specs.declared.span.Span1.{Span1}
use Rattle.plan.specs.declared.stmt.Places.{Places}
use Rattle.plan.specs.declared.stmt.Places.TheVariants.{From}
use Rattle.sched.specs.Skeleton.{NestText, nest_seen}
use Rattle.sched.specs.Standing.{◌>>=◌}
use Rattle.blocks.specs.declared.storage.Arms.{Arms}
use Rattle.blocks.specs.declared.storage.Best.{Best}
use Rattle.sched.specs.Placed.{LaterText, later_seen}
use Rattle.blocks.specs.Rounded.{larger, stored_from}
use Rattle.sched.specs.Taken.{SiteText, at_least_one, places_count}
use Rattle.sched.specs.Windows.{size_below}

-- what a function stores: its nests, and those of the turns after the first one
pub record ArmsText : Type 0 where
  pub scope : List Binding
  pub nests : List NestText
  pub later : Option LaterText

abbrev pub arms_seen : Arms → ArmsText
arms_seen a = record { scope = a.scope.now; nests = map nest_seen a.nests.now; later = option_map (λ l. later_seen l.now) a.later }

-- ---- what is stored

-- up to the last number that the later turns store, or so many
abbrev pub later_from : Option LaterText → ℕ → Form → ℤ → Option ℤ
later_from None d origin least = Some least
later_from (Some l) d origin least = stored_from l.scope d origin l.nests least

-- from the form on so many numbers hold what is needed up to these forms, and what is stored
abbrev pub seats_from : List Binding → ArmsText → ℕ → Form → List Form → Option ℤ
seats_from outer arms d origin upper =
    at_least_one (size_below outer origin upper) >>= λ needed. stored_from arms.scope d origin arms.nests needed >>= later_from arms.later d origin

-- ---- what is called

-- and what a call needs, from the first of its lower forms on which the form is shown to be at most
abbrev pub called_from : List Binding → Form → List Form → List Form → Option ℤ
called_from scope origin upper [] = None
called_from scope origin upper (f ∷ fs) = if at_most scope origin f then at_least_one (size_below scope origin upper) else called_from scope origin upper fs

abbrev pub call_by : List Binding → Form → ℤ → Option Span1 → Option ℤ
call_by scope origin least None = Some least
call_by scope origin least (Some s) = called_from scope origin s.upper s.lower >>= λ most. Some (larger least most)

abbrev pub call_from : List Binding → ℕ → Form → List Span1 → ℤ → Option ℤ
call_from scope d origin c least = call_by scope origin least (slice_get c d)

abbrev pub calls_from : List Binding → ℕ → Form → List (List Span1) → ℤ → Option ℤ
calls_from scope d origin [] least = Some least
calls_from scope d origin (c ∷ cs) least = call_from scope d origin c least >>= calls_from scope d origin cs

abbrev pub sites_from : ℕ → Form → List SiteText → ℤ → Option ℤ
sites_from d origin [] least = Some least
sites_from d origin (s ∷ ss) least = calls_from s.scope d origin s.calls least >>= sites_from d origin ss

-- ---- the places

abbrev pub held_from : List Binding → ArmsText → List SiteText → ℕ → Form → List Form → Option ℤ
held_from outer arms ss d origin upper = seats_from outer arms d origin upper >>= sites_from d origin ss

-- these places, where they are fewer
abbrev pub with_count : Form → Option ℤ → Best → Best
with_count origin None best = best
with_count origin (Some n) best = if int_lt n best.least then record { places = Some (From origin (places_count n)); least = n } else best

module _ (outer : List Binding) (arms : ArmsText) (ss : List SiteText) where
  -- from the one of these lower forms on that asks for the fewest
  abbrev pub places_from : ℕ → List Form → List Form → Best → Option Places
  places_from d upper [] best = best.places
  places_from d upper (f ∷ fs) best = places_from d upper fs (with_count f (held_from outer arms ss d f upper) best)

  abbrev pub places_over : ℕ → Span1 → Option Places
  places_over d s = places_from d s.upper s.lower (record { places = None; least = pos 9223372036854775807 })

module _ (outer : List Binding) (arms : ArmsText) (ss : List SiteText) where
  abbrev pub or_stored : ℕ → Span1 → Option Places → Option Places
  or_stored d s (Some p) = Some p
  or_stored d s None = places_over outer arms [] d s

  -- shown to hold what is called too, where bounds tell such places
  abbrev pub places_for : ℕ → Span1 → Option Places
  places_for d s = or_stored d s (places_over outer arms ss d s)

  abbrev pub add_places : ℕ → List Span1 → List Places → Option (List Places)
  add_places d [] before = Some before
  add_places d (s ∷ rest) before = places_for d s >>= λ p. add_places (d + 1) rest (before ++ p ∷ [])
