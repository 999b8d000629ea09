-- What holds of a certificate whose lines have no flaw.
use Rattle.std.specs.Prelude.{◌≡◌, ℕ, ◌<◌, true, List, take, length, Some, MatchOption, slice_get}
use Rattle.lin.specs.declared.span.Span1.{Span1}
use Rattle.meaning.specs.Algorithm.{Algorithm}
use Rattle.plan.specs.Plan.{Group, Plan}
use Rattle.plan.specs.declared.certificate.cert.Own.{Own}
use Rattle.plan.specs.declared.certificate.cert.Need.{Need}
use Rattle.plan.specs.declared.certificate.cert.Window.{Window}
use Rattle.plan.specs.Certificate.Certificate.{Claim, Certificate}
use Rattle.plan.specs.Certificate.Cells.{own_region}
use Rattle.soundness.specs.Outline.Forms.{spans_are_over, spans_are_within_limits, have_ends, grid_symbols}
use Rattle.validation.specs.Certificate.Certificate.{claim_is_known, window_is_known, is_used, span_is_within_limits, has_ends}

-- so many spans with one to four forms at each end, within the limits, in the symbols of a grid of so many numbers
pub record IsRegion (count grid : ℕ) (region : List Span1) : Type 0 where
  pub long : length region ≡ count
  pub symbols : spans_are_over (grid_symbols grid) region ≡ true
  pub limits : spans_are_within_limits region ≡ true
  pub ends : have_ends region ≡ true

-- a region of the needed group's grid, in the symbols of the group's own
abbrev pub IsNeed : List Group → Need → Type 0
IsNeed groups n = MatchOption (slice_get groups n.group) ⊥ (λ g. MatchOption (slice_get groups n.needed) ⊥ (λ h. IsRegion (length h.grid) (length g.grid) n.region))

-- a claim of what is known, with one to four forms at each end, within the limits
pub record IsClaim (a : Algorithm) (p : Plan) (k : Claim) : Type 0 where
  pub known : claim_is_known a.functions p.groups k ≡ true
  pub limits : spans_are_within_limits k.region ≡ true
  pub ends : have_ends k.region ≡ true

-- a window of what is known, with one to four forms at each end, within the limits, which is used
pub record IsWindow (p : Plan) (c : Certificate) (i : ℕ) (w : Window) : Type 0 where
  pub known : window_is_known p.groups c.claims w ≡ true
  pub limits : span_is_within_limits w.span ≡ true
  pub used : is_used p c (take i c.windows) w ≡ true
  pub ends : has_ends w.span ≡ true

-- each group has an own region
abbrev pub EachHasOwn : Plan → Certificate → Type 0
EachHasOwn p c = (n : ℕ) (g : Group) → slice_get p.groups n ≡ Some g → MatchOption (own_region c.own n) ⊥ (IsRegion (length g.region) (length g.grid))

-- and no second line of one
abbrev pub EachHasOne : Certificate → Type 0
EachHasOne c = (i j : ℕ) (o q : Own) → i < j → slice_get c.own i ≡ Some o → slice_get c.own j ≡ Some q → o.group ≡ q.group → ⊥

abbrev pub AreNeeds : Plan → Certificate → Type 0
AreNeeds p c = (i : ℕ) (n : Need) → slice_get c.needs i ≡ Some n → IsNeed p.groups n

-- own and needed regions are regions of what is known
pub record HasRegions (p : Plan) (c : Certificate) : Type 0 where
  pub own : EachHasOwn p c
  pub once : EachHasOne c
  pub needs : AreNeeds p c

-- and claims and windows are of what is known
pub record IsClear (a : Algorithm) (p : Plan) (c : Certificate) : Type 0 where
  pub own : EachHasOwn p c
  pub once : EachHasOne c
  pub needs : AreNeeds p c
  pub claims : (i : ℕ) (k : Claim) → slice_get c.claims i ≡ Some k → IsClaim a p k
  pub windows : (i : ℕ) (w : Window) → slice_get c.windows i ≡ Some w → IsWindow p c i w
