-- Lines of certificates that name what is unknown, with a form out of the limits, or past a limit.
use Rattle.std.proofs.Common.{◌≡◌, ℕ, ◌<◌, ◌≤◌, List, take, length, Bool, true, false, Option, Some, None, MatchOption, refl, subst, inl, inr}
use Rattle.std.specs.Prelude.{◌⊎◌, ◌&&◌, ◌==◌, not, nat_le, nat_lt, slice_get, Contains}
use Rattle.std.specs.List.{Any, list_any}
use Rattle.std.proofs.lemmas.List.Folds.{Any-from_list_any, list_any-from_Any}
use Rattle.lin.specs.declared.span.Span1.{Span1}
use Rattle.meaning.specs.Algorithm.{Function, Algorithm}
use Rattle.meaning.specs.Conditions.{function_named}
use Rattle.meaning.proofs.Cases.{name_differs}
use Rattle.plan.specs.Plan.{Group, Plan}
use Rattle.plan.specs.declared.certificate.cert.Own.{Own}
use Rattle.plan.specs.declared.certificate.cert.Window.{Window}
use Rattle.plan.specs.Certificate.Certificate.{Claim, Certificate}
use Rattle.plan.specs.Semantics.Setting.{Buffer, allocated}
use Rattle.soundness.specs.Outline.Flaws.{first_of}
use Rattle.soundness.specs.Outline.Forms.{are_over, spans_are_over, have_ends, grid_symbols}
use Rattle.validation.specs.Told.{IsTold}
use Rattle.validation.specs.Wide.{SpanIsWide, RegionIsWide, SpanIsUnlisted, RegionIsUnlisted, SpanNamesOther, RegionNamesOther}
use Rattle.validation.specs.Groups.Lines.{is_one_of}
use Rattle.validation.specs.Certificate.Placing.{Place, place_at}
use Rattle.validation.specs.Certificate.Certificate.{fits, is_owned, is_region_of, own_is_known, is_need_of, is_of_buffer, is_of_function, is_at, claim_is_known, is_along, is_window_of, flaws_of_certificate}
use Rattle.validation.specs.Certificate.Wrong.{OwnNamesUnknown, NeedNamesUnknown, PlaceLacks, ClaimNamesUnknown, WindowNamesUnknown, IsUnknownAt, IsWideAt, PassesLimitAt}
use Rattle.validation.proofs.Told.{on_either}
use Rattle.validation.proofs.Wide.{and_fails, fails_left, fails_right, past, is_past, same_number, number_same, not_contained, contains_not, span_names, named_in_span, region_names, named_in_region, span_is_wide, wide_span, region_is_wide, wide_region, span_unlisted_is, span_is_unlisted, region_unlisted_is, region_is_unlisted}
use Rattle.validation.proofs.Unknown.{differ, different, names_differ, not_is, is_not, not_before, before_not}
use Rattle.validation.proofs.CertificateTold.{of_names, of_forms, of_limits, certificate_told}

-- ---- regions

-- another number of spans, or a symbol that is none of these
abbrev Unfit : ℕ → List ℕ → List Span1 → Type 0
Unfit count symbols region = ¬ (length region ≡ count) ⊎ RegionNamesOther symbols region

unfit : (count : ℕ) (symbols : List ℕ) (region : List Span1) → fits count symbols region ≡ false → Unfit count symbols region
unfit count symbols region h = on_either (and_fails (length region == count) (spans_are_over symbols region) h) (λ k. inl (differ (length region) count k)) (λ k. inr (region_names symbols region k))

fits_not : (count : ℕ) (symbols : List ℕ) (region : List Span1) → Unfit count symbols region → fits count symbols region ≡ false
fits_not count symbols region (inl h) = fails_left (length region == count) (spans_are_over symbols region) (different (length region) count h)
fits_not count symbols region (inr h) = fails_right (length region == count) (spans_are_over symbols region) (named_in_region symbols region h)

owned_is : (os : List Own) (n : ℕ) → is_owned os n ≡ true → Any (λ q. q.group ≡ n) os
owned_is os n h = of (Any-from_list_any (λ q. q.group == n) os h)
  where
    of : Any (λ q. (q.group == n) ≡ true) os → Any (λ q. q.group ≡ n) os
    of (k, q, lt, at, e) = (k, q, lt, at, same_number q.group n e)

is_owned_so : (os : List Own) (n : ℕ) → Any (λ q. q.group ≡ n) os → is_owned os n ≡ true
is_owned_so os n (k, q, lt, at, e) = list_any-from_Any (λ q. q.group == n) os (k, q, lt, at, subst (λ (m : ℕ). (q.group == m) ≡ true) e (number_same q.group))

region_of_is : (w : Option Group) (region : List Span1) → is_region_of w region ≡ false → MatchOption w (Unit {0}) (λ g. Unfit (length g.region) (grid_symbols (length g.grid)) region)
region_of_is None region h = tt
region_of_is (Some g) region h = unfit (length g.region) (grid_symbols (length g.grid)) region h

is_no_region : (w : Option Group) (region : List Span1) → MatchOption w (Unit {0}) (λ g. Unfit (length g.region) (grid_symbols (length g.grid)) region) → is_region_of w region ≡ false
is_no_region None region h = refl
is_no_region (Some g) region h = fits_not (length g.region) (grid_symbols (length g.grid)) region h

abbrev NeedLacks : Option Group → Option Group → List Span1 → Type 0
NeedLacks w v region = MatchOption w (Unit {0}) (λ g. MatchOption v (Unit {0}) (λ h. Unfit (length h.grid) (grid_symbols (length g.grid)) region))

need_of_is : (w v : Option Group) (region : List Span1) → is_need_of w v region ≡ false → NeedLacks w v region
need_of_is None v region h = tt
need_of_is (Some g) None region h = tt
need_of_is (Some g) (Some x) region h = unfit (length x.grid) (grid_symbols (length g.grid)) region h

is_no_need : (w v : Option Group) (region : List Span1) → NeedLacks w v region → is_need_of w v region ≡ false
is_no_need None v region h = refl
is_no_need (Some g) None region h = refl
is_no_need (Some g) (Some x) region h = fits_not (length x.grid) (grid_symbols (length g.grid)) region h

-- ---- claims

function_lacks : (w : Option Function) (k : Claim) → is_of_function w k ≡ false → MatchOption w (Unit {0}) (λ f. (length f.changes < k.definition) ⊎ ¬ (length k.region ≡ length f.variables))
function_lacks None k h = tt
function_lacks (Some f) k h = on_either (and_fails (nat_le k.definition (length f.changes)) (length k.region == length f.variables) h)
    (λ e. inl (past k.definition (length f.changes) e)) (λ e. inr (differ (length k.region) (length f.variables) e))

lacks_function : (w : Option Function) (k : Claim) → MatchOption w (Unit {0}) (λ f. (length f.changes < k.definition) ⊎ ¬ (length k.region ≡ length f.variables)) → is_of_function w k ≡ false
lacks_function None k h = refl
lacks_function (Some f) k (inl h) = fails_left (nat_le k.definition (length f.changes)) (length k.region == length f.variables) (is_past k.definition (length f.changes) h)
lacks_function (Some f) k (inr h) = fails_right (nat_le k.definition (length f.changes)) (length k.region == length f.variables) (different (length k.region) (length f.variables) h)

buffer_lacks : (w : Option Buffer) (k : Claim) → is_of_buffer w k ≡ false → MatchOption w (Unit {0}) (λ b. ¬ (b.function ≡ k.function))
buffer_lacks None k h = tt
buffer_lacks (Some b) k h = names_differ b.function k.function h

lacks_buffer : (w : Option Buffer) (k : Claim) → MatchOption w (Unit {0}) (λ b. ¬ (b.function ≡ k.function)) → is_of_buffer w k ≡ false
lacks_buffer None k h = refl
lacks_buffer (Some b) k h = name_differs b.function k.function h

module _ (k : Claim) where
  abbrev scope : Place → Bool
  scope x = list_any (λ b. b == k.buffer) x.spot.buffers

  abbrev held : Place → Bool
  held x = is_of_buffer (allocated x.group.body k.buffer) k

  abbrev over : Place → Bool
  over x = spans_are_over x.spot.symbols k.region

  place_lacks : (w : Option Place) → is_at w k ≡ false → MatchOption w (Unit {0}) (PlaceLacks k)
  place_lacks None h = tt
  place_lacks (Some x) h = on_either (and_fails (scope x) (held x && over x) h)
      (λ e. inl (not_contained x.spot.buffers k.buffer e))
      (λ e. on_either (and_fails (held x) (over x) e) (λ q. inr (inl (buffer_lacks (allocated x.group.body k.buffer) k q))) (λ q. inr (inr (region_names x.spot.symbols k.region q))))

  lacks_in : (x : Place) → PlaceLacks k x → is_at (Some x) k ≡ false
  lacks_in x (inl h) = fails_left (scope x) (held x && over x) (contains_not x.spot.buffers k.buffer h)
  lacks_in x (inr (inl h)) = fails_right (scope x) (held x && over x) (fails_left (held x) (over x) (lacks_buffer (allocated x.group.body k.buffer) k h))
  lacks_in x (inr (inr h)) = fails_right (scope x) (held x && over x) (fails_right (held x) (over x) (named_in_region x.spot.symbols k.region h))

  lacks_place : (w : Option Place) → MatchOption w (Unit {0}) (PlaceLacks k) → is_at w k ≡ false
  lacks_place None h = refl
  lacks_place (Some x) h = lacks_in x h

-- ---- windows

module _ (w : Window) where
  abbrev WayLacks : Place → Type 0
  WayLacks x = ¬ Contains x.spot.loops w.symbol ⊎ SpanNamesOther x.spot.symbols w.span

  abbrev around : Place → Bool
  around x = is_one_of x.spot.loops w.symbol

  abbrev ends : Place → Bool
  ends x = are_over x.spot.symbols w.span.lower && are_over x.spot.symbols w.span.upper

  way_lacks : (o : Option Place) → is_along o w ≡ false → MatchOption o (Unit {0}) WayLacks
  way_lacks None h = tt
  way_lacks (Some x) h = on_either (and_fails (around x) (ends x) h) (λ e. inl (not_contained x.spot.loops w.symbol e)) (λ e. inr (span_names x.spot.symbols w.span e))

  lacks_here : (x : Place) → WayLacks x → is_along (Some x) w ≡ false
  lacks_here x (inl h) = fails_left (around x) (ends x) (contains_not x.spot.loops w.symbol h)
  lacks_here x (inr h) = fails_right (around x) (ends x) (named_in_span x.spot.symbols w.span h)

  lacks_way : (o : Option Place) → MatchOption o (Unit {0}) WayLacks → is_along o w ≡ false
  lacks_way None h = refl
  lacks_way (Some x) h = lacks_here x h

  module _ (groups : List Group) where
    abbrev ClaimLacks : Claim → Type 0
    ClaimLacks k = (length k.region ≤ w.dimension) ⊎ MatchOption (place_at groups k.line) (Unit {0}) WayLacks

    window_lacks : (o : Option Claim) → is_window_of groups o w ≡ false → MatchOption o (Unit {0}) ClaimLacks
    window_lacks None h = tt
    window_lacks (Some k) h = on_either (and_fails (nat_lt w.dimension (length k.region)) (is_along (place_at groups k.line) w) h)
        (λ e. inl (not_before w.dimension (length k.region) e)) (λ e. inr (way_lacks (place_at groups k.line) e))

    lacks_claim : (k : Claim) → ClaimLacks k → is_window_of groups (Some k) w ≡ false
    lacks_claim k (inl h) = fails_left (nat_lt w.dimension (length k.region)) (is_along (place_at groups k.line) w) (before_not w.dimension (length k.region) h)
    lacks_claim k (inr h) = fails_right (nat_lt w.dimension (length k.region)) (is_along (place_at groups k.line) w) (lacks_way (place_at groups k.line) h)

    lacks_window : (o : Option Claim) → MatchOption o (Unit {0}) ClaimLacks → is_window_of groups o w ≡ false
    lacks_window None h = refl
    lacks_window (Some k) h = lacks_claim k h

-- ---- what is told

module _ (a : Algorithm) (p : Plan) (c : Certificate) where
  own_unknown : (i : ℕ) (o : Own) → own_is_known p.groups (take i c.own) o ≡ false → OwnNamesUnknown p c i o
  own_unknown i o h = on_either (and_fails (not (is_owned (take i c.own) o.group)) (is_region_of (slice_get p.groups o.group) o.region) h)
      (λ e. inl (owned_is (take i c.own) o.group (not_is (is_owned (take i c.own) o.group) e))) (λ e. inr (region_of_is (slice_get p.groups o.group) o.region e))

  unknown_own : (i : ℕ) (o : Own) → OwnNamesUnknown p c i o → own_is_known p.groups (take i c.own) o ≡ false
  unknown_own i o (inl h) = fails_left (not (is_owned (take i c.own) o.group)) (is_region_of (slice_get p.groups o.group) o.region)
      (is_not (is_owned (take i c.own) o.group) (is_owned_so (take i c.own) o.group h))
  unknown_own i o (inr h) = fails_right (not (is_owned (take i c.own) o.group)) (is_region_of (slice_get p.groups o.group) o.region) (is_no_region (slice_get p.groups o.group) o.region h)

  claim_unknown : (i : ℕ) (k : Claim) → claim_is_known a.functions p.groups k ≡ false → ClaimNamesUnknown a p k
  claim_unknown i k h = on_either (and_fails (is_of_function (function_named a.functions k.function) k) (is_at (place_at p.groups k.line) k) h)
      (λ e. inl (function_lacks (function_named a.functions k.function) k e)) (λ e. inr (place_lacks k (place_at p.groups k.line) e))

  unknown_claim : (i : ℕ) (k : Claim) → ClaimNamesUnknown a p k → claim_is_known a.functions p.groups k ≡ false
  unknown_claim i k (inl h) = fails_left (is_of_function (function_named a.functions k.function) k) (is_at (place_at p.groups k.line) k) (lacks_function (function_named a.functions k.function) k h)
  unknown_claim i k (inr h) = fails_right (is_of_function (function_named a.functions k.function) k) (is_at (place_at p.groups k.line) k) (lacks_place k (place_at p.groups k.line) h)

  pub unknown_told : IsTold 2 (IsUnknownAt a p c) (first_of (flaws_of_certificate a p c))
  unknown_told = certificate_told a p c 2 (λ t. t.names) of_names (OwnNamesUnknown p c) (λ i n. NeedNamesUnknown p n) (λ i k. ClaimNamesUnknown a p k) (λ i w. WindowNamesUnknown p c w)
      own_unknown (λ i n h. need_of_is (slice_get p.groups n.group) (slice_get p.groups n.needed) n.region h) claim_unknown (λ i w h. window_lacks w p.groups (slice_get c.claims w.claim) h)
      unknown_own (λ i n h. is_no_need (slice_get p.groups n.group) (slice_get p.groups n.needed) n.region h) unknown_claim (λ i w h. lacks_window w p.groups (slice_get c.claims w.claim) h)

  pub wide_told : IsTold 3 (IsWideAt p c) (first_of (flaws_of_certificate a p c))
  wide_told = certificate_told a p c 3 (λ t. t.forms) of_forms (λ i o. RegionIsWide o.region) (λ i n. RegionIsWide n.region) (λ i k. RegionIsWide k.region) (λ i w. SpanIsWide w.span)
      (λ i o h. region_is_wide o.region h) (λ i n h. region_is_wide n.region h) (λ i k h. region_is_wide k.region h) (λ i w h. span_is_wide w.span h)
      (λ i o h. wide_region o.region h) (λ i n h. wide_region n.region h) (λ i k h. wide_region k.region h) (λ i w h. wide_span w.span h)

  abbrev Many : ℕ → Claim → Type 0
  Many i k = RegionIsUnlisted k.region ⊎ (4096 ≤ i)

  claim_past : (i : ℕ) (k : Claim) → (have_ends k.region && nat_lt i 4096) ≡ false → Many i k
  claim_past i k h = on_either (and_fails (have_ends k.region) (nat_lt i 4096) h) (λ e. inl (region_unlisted_is k.region e)) (λ e. inr (not_before i 4096 e))

  past_claim : (i : ℕ) (k : Claim) → Many i k → (have_ends k.region && nat_lt i 4096) ≡ false
  past_claim i k (inl h) = fails_left (have_ends k.region) (nat_lt i 4096) (region_is_unlisted k.region h)
  past_claim i k (inr h) = fails_right (have_ends k.region) (nat_lt i 4096) (before_not i 4096 h)

  pub limits_told : IsTold 14 (PassesLimitAt p c) (first_of (flaws_of_certificate a p c))
  limits_told = certificate_told a p c 14 (λ t. t.limits) of_limits (λ i o. RegionIsUnlisted o.region) (λ i n. RegionIsUnlisted n.region) Many (λ i w. SpanIsUnlisted w.span)
      (λ i o h. region_unlisted_is o.region h) (λ i n h. region_unlisted_is n.region h) claim_past (λ i w h. span_unlisted_is w.span h)
      (λ i o h. region_is_unlisted o.region h) (λ i n h. region_is_unlisted n.region h) past_claim (λ i w h. span_is_unlisted w.span h)
