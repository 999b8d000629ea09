-- What splits with `guard` tell of the numbers of loops, also where no guard has to stand for it, and what is needed of a function at a place by that.
use Rattle.std.specs.Prelude.{ℕ, ◌+◌, ◌==◌, pos, negsuc, nat_lt, nat_le, Bool, false, ◌&&◌, if◌then◌else◌, List, [], ◌∷◌, ◌++◌, length, map, Option, Some, None, slice_get}
use Rattle.std.specs.List.{list_any}
use Rattle.std.specs.Ordering.{int_eq}
use Rattle.lin.specs.Forms.{Form, combined, without}
use Rattle.lin.specs.declared.form.Multiple.{Multiple}
use Rattle.lin.specs.declared.scope.Binding.{Binding}
use Rattle.lin.specs.declared.span.Span1.{Span1}
use Rattle.meaning.specs.Algorithm.{Algorithm}
use Rattle.meaning.specs.Names.{same_name}
use Rattle.plan.specs.declared.stmt.Pick.TheVariants.{Min}
use Rattle.sched.specs.declared.schedule.Split.{Split}
use Rattle.sched.specs.declared.schedule.Tail.TheVariants.{Guard, Roundup, Shift}
use Rattle.sched.specs.declared.skeleton.Step.{Step}
use Rattle.sched.specs.declared.skeleton.Step.TheVariants.{Turns, Named, Tested}
use Rattle.sched.specs.Skeleton.{NestText}
use Rattle.sched.specs.Standing.{◌>>=◌, alone, last_term}
use Rattle.regions.specs.declared.guarded.Told.{Told}
use Rattle.sched.specs.declared.hosts.Host.{Host}
use Rattle.sched.specs.declared.hosts.Spot.{Spot}
use Rattle.sched.specs.Stored.{FormulaText, StoredText}
use Rattle.sched.specs.Around.{bind_steps}
use Rattle.sched.specs.Bounded.{whole}
use Rattle.sched.specs.Taken.{SiteText}
use Rattle.regions.specs.Taken.{add_sites}
use Rattle.sched.specs.Fetches.{Entry}
use Rattle.sched.specs.Placed.{LaterText, PlacedText}
use Rattle.regions.specs.Homes.{host_at}
use Rattle.regions.specs.Demanded.{scope_over, stands_inside, add_better}
use Rattle.sched.specs.Demanded.{number_of, is_rounded}
use Rattle.sched.specs.Parted.{told_forms}
use Rattle.sched.specs.Settled.{limited}

-- ---- the last number

-- the split is one of the loop of this name, with `guard`
abbrev pub is_guarding : List ℕ → Split → Bool
is_guarding x c = elim c.tail [ Guard ↦ same_name c.whole x | Roundup ↦ false | Shift ↦ false ]

abbrev pub only : List Form → Option Form
only [] = None
only (f ∷ []) = Some f
only (f ∷ g ∷ fs) = None

-- the form that bounds show to be the last number of a span; None where it is not one
abbrev pub last_of : List Binding → Span1 → Option Form
last_of scope s = only (told_forms scope Min s.upper)

abbrev pub last_if : Bool → List Binding → Span1 → Option Form
last_if b scope s = if b then last_of scope s else None

-- the last number of a dimension of a function over a region, where its loop is split with `guard`
abbrev pub last_number : StoredText → List Binding → List Span1 → ℕ → Option Form
last_number g scope region d = slice_get g.subject.variables d >>= λ x. slice_get region d >>= λ s. last_if (list_any (is_guarding x) g.placed.cuts) scope s

-- ---- positions

-- the steps of a nest, in which positions are told to be at most last numbers, and the next symbol
pub record ToldText : Type 0 where
  pub steps : List Step
  pub next : ℕ

-- the loop of this symbol, which has at most three upper forms
abbrev pub is_open_loop : ℕ → Step → Bool
is_open_loop i (Turns j s kind) = (j == i) && nat_lt (length s.upper) 4
is_open_loop i (Named j pick forms) = false
is_open_loop i (Tested low high) = false

abbrev pub open_term : List Step → Multiple → Option ℕ
open_term steps t = if int_eq t.factor (pos 1) && list_any (is_open_loop t.symbol) steps then Some t.symbol else None

-- the last symbol of the form, where it is that of such a loop of the nest and counts once
abbrev pub innermost : List Step → Form → Option ℕ
innermost steps f = elim (last_term f) [ Some t ↦ open_term steps t | None ↦ None ]

abbrev pub is_from : ℕ → Multiple → Bool
is_from from t = nat_le from t.symbol

-- the form has several symbols, and one from this one on
abbrev pub is_joined : ℕ → Form → Bool
is_joined from f = nat_lt 1 (length f.terms) && list_any (is_from from) f.terms

-- by a further upper form of a loop, which leaves the position as it is
abbrev pub keep_by_loop : ℕ → Form → Form → ToldText → Option (Form × ToldText)
keep_by_loop i f last t = combined last (negsuc 0) (without f i) >>= λ limit. Some (f, record t { steps = map (limited i limit) t.steps })

-- by a let for the smaller of both, which is the position then
abbrev pub keep_by_let : Form → Form → ToldText → Form × ToldText
keep_by_let f last t = (alone t.next, record { steps = t.steps ++ Named t.next Min (f ∷ last ∷ []) ∷ []; next = t.next + 1 })

abbrev pub keep_by : Option ℕ → Form → Form → ToldText → Option (Form × ToldText)
keep_by (Some i) f last t = keep_by_loop i f last t
keep_by None f last t = Some (keep_by_let f last t)

-- a position is told to be at most the last number, where it is put together of several symbols of which one, from this one on, stands inside of the place
abbrev pub keep : ℕ → Form → Form → ToldText → Option (Form × ToldText)
keep from f last t = if is_joined from f then keep_by (innermost t.steps f) f last t else Some (f, t)

-- ---- nests

abbrev pub keep_if : ℕ → Form → Option Form → ToldText → Option (Form × ToldText)
keep_if from f None t = Some (f, t)
keep_if from f (Some last) t = keep from f last t

-- a coordinate, of which the last number is this
abbrev pub told_at : ℕ → Option Form → Option Form → ToldText → Option (Option Form × ToldText)
told_at from None last t = Some (None, t)
told_at from (Some f) last t = keep_if from f last t >>= λ x. Some (Some x.0, x.1)

-- the steps of a nest inside of these symbols, in which no position is told yet
abbrev pub told_from : List Binding → List Step → ToldText
told_from scope steps = record { steps = steps; next = length (bind_steps scope steps) }

module _ (g : StoredText) (scope : List Binding) (region : List Span1) (from : ℕ) where
  -- those from this dimension on, behind others
  abbrev pub add_told : ℕ → List (Option Form) → List (Option Form) → ToldText → Option (List (Option Form) × ToldText)
  add_told d [] before t = Some (before, t)
  add_told d (o ∷ os) before t = told_at from o (last_number g scope region d) t >>= λ x. add_told (d + 1) os (before ++ x.0 ∷ []) x.1

  -- the nest of a function over a region, in which each position in a loop that is split with `guard` is told to be at most the last number
  abbrev pub told_nest : NestText → Option NestText
  told_nest n = add_told 0 n.at [] (told_from scope n.steps) >>= λ x. Some (record { steps = x.1.steps; at = x.0 })

  abbrev pub add_nests : List NestText → List NestText → Option (List NestText)
  add_nests [] before = Some before
  add_nests (n ∷ ns) before = told_nest n >>= λ m. add_nests ns (before ++ m ∷ [])

  -- the same of each of these; None where a form leaves the limits
  abbrev pub told_nests : List NestText → Option (List NestText)
  told_nests ns = add_nests ns []

-- ---- the calls

abbrev pub region_in : Option PlacedText → List Span1
region_in None = []
region_in (Some i) = i.region

abbrev pub region_by : Entry → List PlacedText → Option ℕ → List Span1
region_by e is None = map whole e.1.region
region_by e is (Some n) = region_in (slice_get is n)

-- over what the nests of a host go; what is new ends as all of it does
abbrev pub region_over : Entry → List PlacedText → Host → List Span1
region_over e is h = region_by e is (number_of h)

module _ (a : Algorithm) (x : List ℕ) (from : ℕ) where
  -- the calls of the function of this name in nests of another one over a region, as guarded splits tell them, behind others
  abbrev pub add_told_sites : StoredText → List FormulaText → List Binding → List Span1 → Option ℕ → List NestText → List SiteText → Option (List SiteText)
  add_told_sites g fs scope region only ns before = told_nests g scope region from ns >>= λ ms. add_sites a g scope only x 0 fs ms before

  abbrev pub add_told_later : PlacedText → Option LaterText → List SiteText → Option (List SiteText)
  add_told_later i None before = Some before
  add_told_later i (Some l) before = if is_rounded i.function l.dimension then add_told_sites i.function i.formulas l.scope i.region None l.nests before else Some before

  abbrev pub add_told_inner : PlacedText → List SiteText → Option (List SiteText)
  add_told_inner i before = add_told_sites i.function i.formulas i.scope i.region None i.nests before >>= add_told_later i i.later

  abbrev pub add_told_if : Bool → PlacedText → List SiteText → Option (List SiteText)
  add_told_if b i before = if b then add_told_inner i before else Some before

  -- those of the functions from this number on, of all these, that are computed at the place or further inside
  abbrev pub add_told_inside : List PlacedText → Spot → ℕ → List PlacedText → List SiteText → Option (List SiteText)
  add_told_inside is s n [] before = Some before
  add_told_inside is s n (i ∷ rest) before = add_told_if (stands_inside is s (length is) n) i before >>= add_told_inside is s (n + 1) rest

  -- the calls at a place, as guarded splits tell them; symbols from that one on stand inside of it
  abbrev pub told_sites_at : Entry → List PlacedText → Spot → Option (List SiteText)
  told_sites_at e is s =
      host_at e is s.host >>= λ t. add_told_sites t.function t.formulas (scope_over e is s.host) (region_over e is s.host) s.definition t.nests []
      >>= add_told_inside is s 0 is

abbrev pub with_told : List Binding → List Span1 → Option (List Span1) → List Span1 → List Span1
with_told scope q None ws = q
with_told scope q (Some ts) ws = add_better scope q ts ws []

-- ---- as memory keeps it

abbrev pub told_seen : Told → ToldText
told_seen t = record { steps = t.steps.items; next = t.next }
