-- What a piece fetches of another function, dimension by dimension: the numbers that its calls need, as tight as forms over the grid tell it, or else all of them;
-- how many places the buffer has; and which pieces own what is fetched.
-- What crates below need of it stands there: `sched`.
use Rattle.std.specs.Prelude.{◌≡◌, ℕ, ◌+◌, ◌-◌, ◌==◌, ℤ, pos, ◌+ℤ◌, ◌-ℤ◌, int_lt, Bool, true, false, not, ◌&&◌, if◌then◌else◌, List, [], ◌∷◌, ◌++◌, length, Option, Some, None, Result, Ok}
use Rattle.std.specs.Prelude.{Err, slice_get, nat_lt}
use Rattle.numeric.specs.declared.ty.Ty.TheVariants.{I32}
use Rattle.tree.specs.Term.{Terms, End, More}
use Rattle.lin.specs.Forms.{Form, number}
use Rattle.lin.specs.Regions.{span_inside}
use Rattle.lin.specs.Search.{is_empty}
use Rattle.lin.specs.declared.scope.Binding.{Binding}
use Rattle.lin.specs.declared.span.Span1.{Span1}
use Rattle.bounds.specs.Spans.{choice_of}
use Rattle.plan.specs.declared.stmt.Places.{Places}
use Rattle.plan.specs.declared.stmt.Places.TheVariants.{From}
use Rattle.meaning.specs.Algorithm.{Algorithm}
use Rattle.meaning.specs.Names.{same_name}
use Rattle.algo.specs.Scoping.Standing.{Written}
use Rattle.sched.specs.declared.numbers.Extent.{Extent}
use Rattle.sched.specs.Skeleton.{NestText, SkeletonText}
use Rattle.sched.specs.Standing.{◌>>=◌}
use Rattle.regions.specs.declared.fetching.Part.{Part}
use Rattle.sched.specs.declared.stop.Stop.{Stop}
use Rattle.sched.specs.declared.stop.Stop.TheVariants.{Memory, Limit}
use Rattle.sched.specs.Stored.{FormulaText, StoredText, calls_in}
use Rattle.sched.specs.Around.{AroundText, interval_in, head_scope, around}
use Rattle.sched.specs.Bounded.{whole}
use Rattle.sched.specs.Regions.{symbols_from}
use Rattle.sched.specs.Taken.{SiteText, freed, shortest, run_of, places_count}

module _ (a : Algorithm) (r : AroundText) where
  -- what indices stay within, behind others
  abbrev pub add_spans : Terms → List Span1 → Option (List Span1)
  add_spans End before = Some before
  add_spans (More e es) before = interval_in a r e >>= λ s. add_spans es (before ++ s ∷ [])

  abbrev pub add_call : List ℕ → Written → List (List Span1) → Option (List (List Span1))
  add_call x c before = if same_name c.name x then (add_spans c.at [] >>= λ ss. Some (before ++ ss ∷ [])) else Some before

  -- those of the calls that are of the function of this name
  abbrev pub add_calls : List ℕ → List Written → List (List Span1) → Option (List (List Span1))
  add_calls x [] before = Some before
  add_calls x (c ∷ cs) before = add_call x c before >>= add_calls x cs

abbrev pub with_site : List Binding → List (List Span1) → List SiteText → List SiteText
with_site scope [] before = before
with_site scope (c ∷ cs) before = before ++ record { scope = scope; calls = c ∷ cs } ∷ []

-- all definitions are asked, or one alone
abbrev pub is_asked : Option ℕ → ℕ → Bool
is_asked None d = true
is_asked (Some e) d = e == d

module _ (a : Algorithm) (g : StoredText) (outer : List Binding) (x : List ℕ) where
  abbrev pub add_site : ℕ → FormulaText → NestText → List SiteText → Option (List SiteText)
  add_site d f n before = around a g outer n f d >>= λ r. add_calls a r x (calls_in f) [] >>= λ cs. Some (with_site r.scope cs before)

module _ (a : Algorithm) (g : StoredText) (outer : List Binding) (only : Option ℕ) (x : List ℕ) where
  abbrev pub add_asked : ℕ → FormulaText → NestText → List SiteText → Option (List SiteText)
  add_asked d f n before = if is_asked only d then add_site a g outer x d f n before else Some before

  -- of the definitions from this number on, in these nests
  abbrev pub add_sites : ℕ → List FormulaText → List NestText → List SiteText → Option (List SiteText)
  add_sites d fs [] before = Some before
  add_sites d [] (n ∷ ns) before = Some before
  add_sites d (f ∷ fs) (n ∷ ns) before = add_asked d f n before >>= add_sites (d + 1) fs ns

-- of a function whose definitions and loops these are
abbrev pub sites_of : Algorithm → StoredText → List FormulaText → SkeletonText → List ℕ → Option (List SiteText)
sites_of a g fs k x = add_sites a g (head_scope k) None x 0 fs k.nests []

module _ (grid : List Binding) where
  -- a value of the one or of the other, which are 32-bit numbers
  abbrev pub either : Option Span1 → Span1 → Option Span1
  either None s = Some s
  either (Some k) s = choice_of grid I32 k s

  abbrev pub with_call : List Binding → List ℕ → ℕ → List Span1 → Option Span1 → Option (Option Span1)
  with_call scope inner d c known = slice_get c d >>= λ s. freed scope inner s >>= λ f. either known f >>= λ u. Some (Some u)

  abbrev pub with_calls : List Binding → List ℕ → ℕ → List (List Span1) → Option Span1 → Option (Option Span1)
  with_calls scope inner d [] known = Some known
  with_calls scope inner d (c ∷ cs) known = with_call scope inner d c known >>= with_calls scope inner d cs

  -- the calls' spans over the grid alone, and their union, the first ones first
  abbrev pub with_sites : ℕ → List SiteText → Option Span1 → Option (Option Span1)
  with_sites d [] known = Some known
  with_sites d (s ∷ ss) known = with_calls s.scope (symbols_from (length grid) (length s.scope - length grid)) d s.calls known >>= with_sites d ss

  abbrev pub needed_span : List SiteText → ℕ → Option Span1
  needed_span ss d = with_sites d ss None >>= λ o. o

-- ---- cut to a region

abbrev pub is_number : Form → Bool
is_number f = is_empty f.terms

-- the first three forms that are no numbers
abbrev pub add_symbolic : List Form → List Form → List Form
add_symbolic kept [] = kept
add_symbolic kept (f ∷ fs) = if not (is_number f) && nat_lt (length kept) 3 then add_symbolic (kept ++ f ∷ []) fs else add_symbolic kept fs

-- the greatest of a number and those among the forms
abbrev pub greatest_from : List Form → ℤ → ℤ
greatest_from [] z = z
greatest_from (f ∷ fs) z = greatest_from fs (if is_number f && int_lt z f.constant then f.constant else z)

abbrev pub least_from : List Form → ℤ → ℤ
least_from [] z = z
least_from (f ∷ fs) z = least_from fs (if is_number f && int_lt f.constant z then f.constant else z)

-- the span with the ends of a region as further forms
abbrev pub cut : Span1 → Extent → Span1
cut s e = record {
  lower = add_symbolic [] s.lower ++ number (greatest_from s.lower e.low) ∷ [];
  upper = add_symbolic [] s.upper ++ number (least_from s.upper (e.low +ℤ pos e.count -ℤ pos 1)) ∷ [];
}

-- each call of a place is shown to lie in the span
abbrev pub holds_call : List Binding → ℕ → Span1 → List Span1 → Bool
holds_call scope d s c = elim (slice_get c d) [ Some called ↦ span_inside scope called s | None ↦ false ]

abbrev pub holds_calls : List Binding → ℕ → Span1 → List (List Span1) → Bool
holds_calls scope d s [] = true
holds_calls scope d s (c ∷ cs) = if holds_call scope d s c then holds_calls scope d s cs else false

abbrev pub hold_calls : List SiteText → ℕ → Span1 → Bool
hold_calls [] d s = true
hold_calls (t ∷ ts) d s = if holds_calls t.scope d s t.calls then hold_calls ts d s else false

-- all of a dimension
abbrev pub all_of : Extent → Part
all_of e = record { span = whole e; places = From (number e.low) e.count }

-- a part, or all where there is none
abbrev pub or_all : Extent → Option Part → Part
or_all e None = all_of e
or_all e (Some p) = p

module _ (grid : List Binding) (ss : List SiteText) where
  -- a span and the numbers that have places are shown to hold all calls, and the places the span
  abbrev pub is_shown : ℕ → Span1 → Span1 → Bool
  is_shown d s seats = if hold_calls ss d s then (if hold_calls ss d seats then span_inside grid s seats else false) else false

  -- with places from this form on, if that is shown
  abbrev pub shown : ℕ → Span1 → Form → ℤ → Span1 → Option Part
  shown d s origin n seats = if is_shown d s seats then Some (record { span = s; places = From origin (places_count n) }) else None

  abbrev pub seated : ℕ → Span1 → Option Part
  seated d s = shortest grid s >>= λ b. slice_get s.lower b.0 >>= λ origin. run_of origin b.1 >>= λ seats. shown d s origin b.1 seats

  -- what the calls need of a dimension, cut to the region
  abbrev pub needed_part : ℕ → Extent → Option Span1
  needed_part d e = needed_span grid ss d >>= λ s. Some (cut s e)

  abbrev pub tight : ℕ → Extent → Option Part
  tight d e = needed_part d e >>= seated d

  abbrev pub part_of : ℕ → Extent → Part
  part_of d e = or_all e (tight d e)

  -- the region that is fetched, from this dimension on, and the places of its buffer
  abbrev pub taken_region : ℕ → List Extent → List Span1
  taken_region d [] = []
  taken_region d (e ∷ es) = (part_of d e).span ∷ taken_region (d + 1) es

  abbrev pub taken_places : ℕ → List Extent → List Places
  taken_places d [] = []
  taken_places d (e ∷ es) = (part_of d e).places ∷ taken_places (d + 1) es

-- ---- as it is found

-- a part, or that there is none within the limits; of want of memory nothing
abbrev pub FindsPart : Result (Option Part) Stop → Option Part → Type 0
FindsPart (Ok o) told = told ≡ o
FindsPart (Err Memory) told = Unit {0}
FindsPart (Err Limit) told = told ≡ None

-- the same of a span's places: the part is the span with them
abbrev pub FindsPlaces : Span1 → Result (Option Places) Stop → Option Part → Type 0
FindsPlaces s (Ok None) told = told ≡ None
FindsPlaces s (Ok (Some places)) told = told ≡ Some (record { span = s; places = places })
FindsPlaces s (Err e) told = FindsPart (Err e) told
