-- What is wrong with the lines of certificates, in the words of the file format.
use Rattle.std.specs.Prelude.{◌≡◌, ℕ, ◌<◌, ◌≤◌, List, take, length, Some, MatchOption, Contains, slice_get, ◌⊎◌}
use Rattle.std.specs.List.{Any}
use Rattle.meaning.specs.Algorithm.{Algorithm}
use Rattle.meaning.specs.Conditions.{function_named}
use Rattle.plan.specs.Plan.{Plan}
use Rattle.plan.specs.Lines.{certificate_line}
use Rattle.plan.specs.declared.certificate.cert.Own.{Own}
use Rattle.plan.specs.declared.certificate.cert.Need.{Need}
use Rattle.plan.specs.declared.certificate.cert.Window.{Window}
use Rattle.plan.specs.Certificate.Certificate.{Claim, Certificate}
use Rattle.plan.specs.Certificate.Lines.{own_line, need_line, claim_line, window_line}
use Rattle.plan.specs.Semantics.Setting.{allocated}
use Rattle.soundness.specs.Outline.Flaws.{line_told}
use Rattle.soundness.specs.Outline.Forms.{grid_symbols}
use Rattle.validation.specs.Wide.{SpanIsWide, RegionIsWide, SpanIsUnlisted, RegionIsUnlisted, SpanNamesOther, RegionNamesOther}
use Rattle.validation.specs.Certificate.Placing.{Place, place_at}

-- this is so of the one of these at the line, where each has a line of its own
pub record IsLine {A : Type 0} (xs : List A) (line_of : ℕ → ℕ) (IsSo : ℕ → A → Type 0) (line : ℕ) : Type 0 where
  pub number : ℕ
  pub item : A
  pub there : slice_get xs number ≡ Some item
  pub line_is : line_told (line_of number) ≡ line
  pub so : IsSo number item

-- the line is one of an own region, of a needed region, of a claim or of a window, and this is so of that
pub record IsOneOf (p : Plan) (c : Certificate) (Owns : ℕ → Own → Type 0) (Needs : ℕ → Need → Type 0) (Claims : ℕ → Claim → Type 0) (Windows : ℕ → Window → Type 0) (line : ℕ) : Type 0 where
  pub is : IsLine c.own (own_line (certificate_line p)) Owns line ⊎ (IsLine c.needs (need_line c (certificate_line p)) Needs line
      ⊎ (IsLine c.claims (claim_line c (certificate_line p)) Claims line ⊎ IsLine c.windows (window_line c (certificate_line p)) Windows line))

-- ---- K2

-- an earlier line is of the group; or that is unknown, or has another number of coordinates, or the region names no grid symbol of it
abbrev pub OwnNamesUnknown : Plan → Certificate → ℕ → Own → Type 0
OwnNamesUnknown p c i o =
    Any (λ q. q.group ≡ o.group) (take i c.own)
    ⊎ MatchOption (slice_get p.groups o.group) (Unit {0}) (λ g. ¬ (length o.region ≡ length g.region) ⊎ RegionNamesOther (grid_symbols (length g.grid)) o.region)

-- one of the groups is unknown, or the needed one's grid has another number of counts, or the region names no grid symbol of the other
abbrev pub NeedNamesUnknown : Plan → Need → Type 0
NeedNamesUnknown p n =
    MatchOption (slice_get p.groups n.group) (Unit {0})
    (λ g. MatchOption (slice_get p.groups n.needed) (Unit {0}) (λ h. ¬ (length n.region ≡ length h.grid) ⊎ RegionNamesOther (grid_symbols (length g.grid)) n.region))

-- no statement ends at the claim's line; or the buffer is out of scope there, or another function's; or a symbol of the region is
abbrev pub PlaceLacks : Claim → Place → Type 0
PlaceLacks k x =
    ¬ Contains x.spot.buffers k.buffer
    ⊎ (MatchOption (allocated x.group.body k.buffer) (Unit {0}) (λ b. ¬ (b.function ≡ k.function)) ⊎ RegionNamesOther x.spot.symbols k.region)

-- the function or the definition is unknown, or the region has another number of spans than the function has variables
abbrev pub ClaimNamesUnknown : Algorithm → Plan → Claim → Type 0
ClaimNamesUnknown a p k =
    MatchOption (function_named a.functions k.function) (Unit {0}) (λ f. (length f.changes < k.definition) ⊎ ¬ (length k.region ≡ length f.variables))
    ⊎ MatchOption (place_at p.groups k.line) (Unit {0}) (PlaceLacks k)

-- the claim is unknown, or has no such dimension; or its statement stands in no loop over the symbol, or the span names one out of
-- scope there
abbrev pub WindowNamesUnknown : Plan → Certificate → Window → Type 0
WindowNamesUnknown p c w =
    MatchOption (slice_get c.claims w.claim) (Unit {0})
    (λ k. (length k.region ≤ w.dimension) ⊎ MatchOption (place_at p.groups k.line) (Unit {0}) (λ x. ¬ Contains x.spot.loops w.symbol ⊎ SpanNamesOther x.spot.symbols w.span))

-- what the line names is unknown or out of scope
abbrev pub IsUnknownAt : Algorithm → Plan → Certificate → ℕ → Type 0
IsUnknownAt a p c = IsOneOf p c (OwnNamesUnknown p c) (λ i n. NeedNamesUnknown p n) (λ i k. ClaimNamesUnknown a p k) (λ i w. WindowNamesUnknown p c w)

-- ---- K3

-- a form of the line is out of the limits of linear forms
abbrev pub IsWideAt : Plan → Certificate → ℕ → Type 0
IsWideAt p c = IsOneOf p c (λ i o. RegionIsWide o.region) (λ i n. RegionIsWide n.region) (λ i k. RegionIsWide k.region) (λ i w. SpanIsWide w.span)

-- ---- K14

-- an end of a span of the line has no form or more than four; or it is the line of a claim behind the 4096th
abbrev pub PassesLimitAt : Plan → Certificate → ℕ → Type 0
PassesLimitAt p c = IsOneOf p c (λ i o. RegionIsUnlisted o.region) (λ i n. RegionIsUnlisted n.region) (λ i k. RegionIsUnlisted k.region ⊎ (4096 ≤ i)) (λ i w. SpanIsUnlisted w.span)
