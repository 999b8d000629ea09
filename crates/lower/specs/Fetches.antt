-- What a piece fetches of other root functions, and what the certificate says of it: which pieces are needed, and by which claims it is loaded.
-- What crates below need of it stands there: `sched`, `blocks`.
use Rattle.std.specs.Prelude.{◌≡◌, ℕ, ◌+◌, ◌==◌, ℤ, Bool, not, ◌&&◌, if◌then◌else◌, List, [], ◌∷◌, Option, Some}
use Rattle.lin.specs.declared.span.Span1.{Span1}
use Rattle.lin.specs.Spans.{IsInSpan}
use Rattle.plan.specs.declared.stmt.Places.{Places}
use Rattle.plan.specs.declared.certificate.cert.Claim.{Claim}
use Rattle.plan.specs.declared.certificate.cert.Need.{Need}
use Rattle.sched.specs.declared.numbers.Extent.{Extent}
use Rattle.sched.specs.Stored.{FormulaText}
use Rattle.regions.specs.Stored.{some_calls}
use Rattle.sched.specs.Bounded.{whole}
use Rattle.sched.specs.Loading.{Loads}
use Rattle.regions.specs.Needs.{pieces_needed}
use Rattle.sched.specs.Taken.{SiteText}
use Rattle.regions.specs.Taken.{taken_region, taken_places}
use Rattle.lin.specs.declared.scope.Binding.{Binding}
use Rattle.sched.specs.Fetches.{Entry}
use Rattle.blocks.specs.Fetches.{FetchText, Claims, last_number}

-- ---- of which functions

-- the group of this number is another one than n, and one of these definitions calls its function
abbrev pub is_fetched : List FormulaText → ℕ → ℕ → Entry → Bool
is_fetched us n h e = not (h == n) && some_calls e.0.subject.name us

abbrev pub fetched_if : Bool → ℕ → Entry → List (ℕ × Entry) → List (ℕ × Entry)
fetched_if b h e rest = if b then (h, e) ∷ rest else rest

-- the groups of which one of n fetches, where these are the functions of the groups from h on, in their order
abbrev pub fetched_groups : List FormulaText → ℕ → ℕ → List Entry → List (ℕ × Entry)
fetched_groups us n h [] = []
fetched_groups us n h (e ∷ es) = fetched_if (is_fetched us n h e) h e (fetched_groups us n (h + 1) es)

-- ---- within a region

-- each number of the one span is one of the other, whatever the symbols stand for
abbrev pub LiesIn : Span1 → Span1 → Type 0
LiesIn a b = (v : ℕ → ℤ) (z : ℤ) → IsInSpan a v z → IsInSpan b v z

-- in as many dimensions, each number is one of the region's
abbrev pub LieIn : List Span1 → List Extent → Type 0
LieIn [] [] = Unit {0}
LieIn [] (e ∷ es) = ⊥
LieIn (s ∷ ss) [] = ⊥
LieIn (s ∷ ss) (e ∷ es) = LiesIn s (whole e) × LieIn ss es

-- ---- of which points

-- the calls that are found of a function, by its name
abbrev pub Calls : Type 0
Calls = List ℕ → Option (List SiteText)

-- by these calls, over this grid, this is what is fetched of a function of this name and region, and these are the buffer's places
pub record IsTaken (calls : Calls) (grid : List Binding) (x : List ℕ) (es : List Extent) (taken : List Span1) (seats : List Places) : Type 0 where
  pub sites : List SiteText
  pub called : calls x ≡ Some sites
  pub region : taken ≡ taken_region grid sites 0 es
  pub places : seats ≡ taken_places grid sites 0 es

-- the same, and that each point of it is one of that region
pub record IsPart (calls : Calls) (grid : List Binding) (e : Entry) (f : FetchText) : Type 0 where
  pub taken : IsTaken calls grid e.0.subject.name e.1.region f.region f.places
  pub inside : LieIn f.region e.1.region

-- pieces of n fetch this of the group h: points of its function, of which they need the pieces that own them, and which are then claimed, as its last definition
-- leaves them; the buffer's line is this one, and the next has the fetch
pub record IsFetched (n b line h : ℕ) (e : Entry) (f : FetchText) (need : Need) (claim : Claim) : Type 0 where
  pub buffered : f.buffer ≡ b
  pub named : f.function ≡ e.0.subject.name
  pub grouped : f.group ≡ h
  pub needing : need.group ≡ n
  pub needed : need.needed ≡ h
  pub pieces : need.region ≡ pieces_needed e.0 e.1.region e.1.skeleton.grid f.region
  pub claimed : Claims (line + 1) b e.0.subject.name (last_number e.2) f.region claim

-- each of these groups, as far as calls need it, into buffers from b on, by lines from this one on, with a need line and a claim for each, in the same order
abbrev pub AreFetched : Calls → List Binding → ℕ → ℕ → ℕ → List (ℕ × Entry) → List FetchText → List Need → List Claim → Type 0
AreFetched s t n b line [] [] [] [] = Unit {0}
AreFetched s t n b line (x ∷ xs) (f ∷ fs) (w ∷ ws) (c ∷ cs) = IsFetched n b line x.0 x.1 f w c × IsPart s t x.1 f × AreFetched s t n (b + 1) (line + 2) xs fs ws cs
AreFetched s t n b line _ _ _ _ = ⊥

-- each is loaded by its claim, where the first of them has this number
abbrev pub loads_from : ℕ → List FetchText → Loads
loads_from c [] = []
loads_from c (f ∷ fs) = (f.function, c) ∷ loads_from (c + 1) fs
