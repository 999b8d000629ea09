-- What is needed of a function at a place of a nest: what stands around the place, the calls of the function there and inside of it, and the region that they need.
-- What crates below need of it stands there: `sched`.
use Rattle.std.specs.Prelude.{ℕ, zero, suc, ◌+◌, ◌==◌, Bool, true, false, ◌&&◌, if◌then◌else◌, List, [], ◌∷◌, ◌++◌, length, take, nat_le, Option, Some, None, slice_get}
use Rattle.std.specs.Option.{is_some}
use Rattle.std.specs.List.{list_any}
use Rattle.lin.specs.Regions.{span_inside}
use Rattle.lin.specs.declared.scope.Binding.{Binding}
use Rattle.lin.specs.declared.span.Span1.{Span1}
use Rattle.meaning.specs.Algorithm.{Algorithm}
use Rattle.sched.specs.declared.numbers.Extent.{Extent}
use Rattle.sched.specs.declared.skeleton.Step.{Step}
use Rattle.sched.specs.Skeleton.{NestText}
use Rattle.sched.specs.Standing.{◌>>=◌}
use Rattle.sched.specs.declared.hosts.Host.{Host}
use Rattle.sched.specs.declared.hosts.Host.TheVariants.{Own, Inner as Inside, Later as Anew}
use Rattle.sched.specs.declared.hosts.Spot.{Spot}
use Rattle.sched.specs.Stored.{FormulaText, StoredText}
use Rattle.sched.specs.Around.{head_scope, bind_steps}
use Rattle.sched.specs.Bounded.{whole}
use Rattle.sched.specs.Taken.{SiteText}
use Rattle.regions.specs.Taken.{add_sites, needed_span}
use Rattle.sched.specs.Fetches.{Entry}
use Rattle.sched.specs.Placed.{LaterText, PlacedText, same_host, same_number}
use Rattle.regions.specs.Homes.{host_at}
use Rattle.sched.specs.Demanded.{number_of, is_rounded}

-- ---- what stands around a place

-- the symbols around the nests of one that is computed inside, and of that one over what is new
abbrev pub scope_of : Option PlacedText → List Binding
scope_of None = []
scope_of (Some i) = i.scope

abbrev pub later_scope_of : Option LaterText → List Binding
later_scope_of None = []
later_scope_of (Some l) = l.scope

abbrev pub later_scope_at : Option PlacedText → List Binding
later_scope_at o = later_scope_of (o >>= λ i. i.later)

-- around all nests of a host
abbrev pub scope_over : Entry → List PlacedText → Host → List Binding
scope_over e is Own = head_scope e.1.skeleton
scope_over e is (Inside n) = scope_of (slice_get is n)
scope_over e is (Anew n) = later_scope_at (slice_get is n)

-- the nest in which a place is; None over the grid
abbrev pub nest_at : Entry → List PlacedText → Spot → Option NestText
nest_at e is s = s.definition >>= λ d. host_at e is s.host >>= λ t. slice_get t.nests d

-- the first so many steps, if there are as many
abbrev pub first_steps : ℕ → List Step → Option (List Step)
first_steps k steps = if nat_le k (length steps) then Some (take k steps) else None

-- the steps around a place
abbrev pub steps_at : Entry → List PlacedText → Spot → Option (List Step)
steps_at e is s = nest_at e is s >>= λ n. first_steps s.depth n.steps

abbrev pub with_steps : List Binding → Option (List Step) → List Binding
with_steps scope None = scope
with_steps scope (Some steps) = bind_steps scope steps

-- the symbols around a place
abbrev pub scope_at : Entry → List PlacedText → Spot → List Binding
scope_at e is s = with_steps (scope_over e is s.host) (steps_at e is s)

-- a place in the nests of the same host is no further outside than another: in the same nest, and by no fewer steps; over the grid all of them are not
abbrev pub is_behind : Spot → Spot → Bool
is_behind home s = if is_some s.definition then (same_number home.definition s.definition && nat_le s.depth home.depth) else true

-- a function is computed at the place, or in the nests of one of which this says so
abbrev pub inside_by : (ℕ → Bool) → Spot → PlacedText → Bool
inside_by says s i = if same_host i.home.host s.host then is_behind i.home s else elim (number_of i.home.host) [ Some m ↦ says m | None ↦ false ]

-- the function of this number is computed at the place, or in the nests of one that is; functions stand inside one another at most so deep
abbrev pub stands_inside : List PlacedText → Spot → ℕ → ℕ → Bool
stands_inside is s zero n = false
stands_inside is s (suc deep) n = elim (slice_get is n) [ Some i ↦ inside_by (stands_inside is s deep) s i | None ↦ false ]

module _ (a : Algorithm) (x : List ℕ) where
  -- the calls in the nests over what is new, where their last block runs past the end of what is needed; else these are among those in the other nests
  abbrev pub add_later : StoredText → List FormulaText → Option LaterText → List SiteText → Option (List SiteText)
  add_later g fs None before = Some before
  add_later g fs (Some l) before = if is_rounded g l.dimension then add_sites a g l.scope None x 0 fs l.nests before else Some before

  -- the calls in the nests of one that is computed inside, behind others
  abbrev pub add_inner : PlacedText → List SiteText → Option (List SiteText)
  add_inner i before = add_sites a i.function i.scope None x 0 i.formulas i.nests before >>= add_later i.function i.formulas i.later

  abbrev pub add_if : Bool → PlacedText → List SiteText → Option (List SiteText)
  add_if b i before = if b then add_inner i before else Some before

  -- those of the functions from this number on, of all these, that are computed at the place or further inside
  abbrev pub add_inside : List PlacedText → Spot → ℕ → List PlacedText → List SiteText → Option (List SiteText)
  add_inside is s n [] before = Some before
  add_inside is s n (i ∷ rest) before = add_if (stands_inside is s (length is) n) i before >>= add_inside is s (n + 1) rest

-- the calls of the function of this name at a place: in the host's nest of the place's definition, or in all of its nests over the grid, and in those of what is computed
-- there or further inside
abbrev pub sites_at : Algorithm → Entry → List PlacedText → Spot → List ℕ → Option (List SiteText)
sites_at a e is s x =
    host_at e is s.host >>= λ t. add_sites a t.function (scope_over e is s.host) s.definition x 0 t.formulas t.nests [] >>= add_inside a x is s 0 is

-- ---- what they need

-- some update sets points at other numbers of this dimension than the variable's
abbrev pub is_scattered : StoredText → ℕ → Bool
is_scattered g d = list_any (λ y. y == d) g.subject.scattered

module _ (scope : List Binding) (ss : List SiteText) (g : StoredText) where
  -- all of it, or the union of what the calls need, each freed of the symbols inside of the place
  abbrev pub needed_dimension : ℕ → Extent → Option Span1
  needed_dimension d e = if is_scattered g d then Some (whole e) else needed_span scope ss d

  -- from this dimension on, behind others
  abbrev pub add_needed : ℕ → List Extent → List Span1 → Option (List Span1)
  add_needed d [] before = Some before
  add_needed d (e ∷ es) before = needed_dimension d e >>= λ s. add_needed (d + 1) es (before ++ s ∷ [])

  -- of a function over this region, as bounds tell it of the calls; None where they do not
  abbrev pub needed_region : List Extent → Option (List Span1)
  needed_region es = add_needed 0 es []

-- ---- where that is not shown to lie in the function's region

-- each span is shown to lie in the other one
abbrev pub are_inside : List Binding → List Span1 → List Span1 → Bool
are_inside scope [] ws = true
are_inside scope (s ∷ ss) [] = true
are_inside scope (s ∷ ss) (w ∷ ws) = if span_inside scope s w then are_inside scope ss ws else false

-- the span that is told, where that alone is shown to lie in what there is
abbrev pub better : List Binding → Span1 → Span1 → Span1 → Span1
better scope s t w = if span_inside scope s w then s else (if span_inside scope t w then t else s)

abbrev pub add_better : List Binding → List Span1 → List Span1 → List Span1 → List Span1 → List Span1
add_better scope [] ts ws before = before
add_better scope (s ∷ ss) [] ws before = before
add_better scope (s ∷ ss) (t ∷ ts) [] before = before
add_better scope (s ∷ ss) (t ∷ ts) (w ∷ ws) before = add_better scope ss ts ws (before ++ better scope s t w ∷ [])
