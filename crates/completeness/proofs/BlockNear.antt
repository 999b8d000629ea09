-- The indices of a definition whose coordinates are light are light where they are simple, or where no symbol goes far.
use Rattle.std.proofs.Common.{◌≡◌, ℕ, zero, suc, ◌+◌, ◌≤◌, ◌^◌, Bool, true, false, List, [], ◌∷◌, ◌++◌, map, Option, Some, None, refl, sym, ap, ◌∙◌, subst, inl, inr, ◌⊎◌, arith}
use Rattle.std.specs.Prelude.{ℤ, pos, ◌+ℤ◌, ◌*ℤ◌, nat_lt, if◌then◌else◌, slice_get}
use Rattle.std.specs.List.{AllByRecursion, list_all}
use Rattle.std.proofs.lemmas.Int.{ints}
use Rattle.numeric.specs.declared.ty.Ty.TheVariants.{I32}
use Rattle.tree.specs.Term.{Term, Terms, End, More}
use Rattle.lin.specs.Forms.{Form, value_of as form_value, is_within_limits}
use Rattle.lin.specs.declared.form.Multiple.{Multiple}
use Rattle.lin.specs.declared.scope.Binding.{Binding}
use Rattle.lin.specs.declared.span.Span1.{Span1}
use Rattle.lin.proofs.TermLemmas.{all_weaker}
use Rattle.bounds.specs.Spans.{range_of}
use Rattle.bounds.proofs.ListSound.{all-append}
use Rattle.meaning.specs.Algorithm.{Algorithm}
use Rattle.soundness.proofs.Refines.{and_parts}
use Rattle.algo.specs.Scoping.Standing.{Written}
use Rattle.sched.specs.declared.skeleton.Known.{Known}
use Rattle.sched.specs.declared.nest.Turning.{Turning}
use Rattle.sched.specs.Standing.{form_named}
use Rattle.sched.specs.Skeleton.{BodyText, NestText, variables_at, ranges_at, is_missing}
use Rattle.sched.proofs.Standings.{found_all}
use Rattle.sched.specs.Called.{called}
use Rattle.sched.specs.Stored.{FormulaText, StoredText, calls_in, left_at}
use Rattle.sched.specs.Around.{AroundText, exactly, form_span, bind_steps, interval_in, left_around, coordinate_span, coordinates_behind, around}
use Rattle.blocks.proofs.Laying.{bound, same}
use Rattle.completeness.specs.Simple.{is_simple, are_simple, is_simple_left, has_simple_indices}
use Rattle.completeness.proofs.MoreNumbers.{IsFewSpan}
use Rattle.completeness.proofs.LeftHeld.{AreCallsFew}
use Rattle.completeness.proofs.Boxes.{ArePlain, weight_at, weight, IsLight, IsLightSpan, span_light, span_few}
use Rattle.completeness.proofs.RangedLefts.{left_got}
use Rattle.completeness.proofs.SimpleSpans.{SpanKeeps, simple_kept}
use Rattle.completeness.proofs.HeldWhole.{HasIndex, AreCallsLight}
use Rattle.completeness.proofs.BlockSums.{multiple, pair}

-- ---- the first number of a block and a number within it, added

module _ (z : ℤ) (s c m : ℕ) where
  -- one of both, the lesser symbol first
  pub pair_either : (P : List Multiple → Type 0) → P (multiple s (pos c) ∷ multiple m (pos 1) ∷ []) → P (multiple m (pos 1) ∷ multiple s (pos c) ∷ []) → P (pair z s (pos c) m).terms
  pair_either P h k = of (nat_lt s m)
    where
      of : (b : Bool) → P (if b then multiple s (pos c) ∷ multiple m (pos 1) ∷ [] else multiple m (pos 1) ∷ multiple s (pos c) ∷ [])
      of true = h
      of false = k

  -- where both are 0 it is the first number of all
  pub pair_value : (v : ℕ → ℤ) → v s ≡ pos 0 → v m ≡ pos 0 → form_value (pair z s (pos c) m) v ≡ z
  pair_value v first second =
      pair_either (λ ts. form_value (record { constant = z; terms = ts }) v ≡ z) ((λ j. z +ℤ (pos c *ℤ first j +ℤ (pos 1 *ℤ second j +ℤ pos 0))) ∙ one (pos c))
      ((λ j. z +ℤ (pos 1 *ℤ second j +ℤ (pos c *ℤ first j +ℤ pos 0))) ∙ two (pos c))
    where
      one : (f : ℤ) → z +ℤ (f *ℤ pos 0 +ℤ (pos 1 *ℤ pos 0 +ℤ pos 0)) ≡ z
      one f = omega (arith, ints)

      two : (f : ℤ) → z +ℤ (pos 1 *ℤ pos 0 +ℤ (f *ℤ pos 0 +ℤ pos 0)) ≡ z
      two f = omega (arith, ints)

-- what is so of no form, and of each that stands for a name, is so of those of a nest's coordinates
module _ (Q : Option Form → Type 0) (none : Q None) (ks : List Known) (each : AllByRecursion (λ k. Q (Some k.form)) ks) where
  named_so : (x : List ℕ) → Q (form_named ks x)
  named_so x = of (form_named ks x) refl
    where
      of : (o : Option Form) → form_named ks x ≡ o → Q o
      of None e = none
      of (Some f) e = found_all (λ y g. Q (Some g)) ks x f each e

  pub variables_so : (b : BodyText) (d : ℕ) (xs : List (List ℕ)) → AllByRecursion Q (variables_at b d xs ks)
  variables_so b d [] = tt
  variables_so b d (x ∷ xs) = (of (is_missing b d), variables_so b (d + 1) xs)
    where
      of : (t : Bool) → Q (if t then None else form_named ks x)
      of true = none
      of false = named_so x

  pub ranges_so : (ds : List Turning) → AllByRecursion Q (ranges_at ds ks)
  ranges_so [] = tt
  ranges_so (d ∷ ds) = (named_so d.name, ranges_so ds)

-- ---- light coordinates

-- what the coordinates of a nest stay within is light, where their forms are
module _ (scope : List Binding) where
  abbrev pub IsLightList : List Multiple → Type 0
  IsLightList ts = weight scope ts ≤ 2 ^ 38 + 2 ^ 37 + 2 ^ 36

  abbrev pub IsLightIf : Option Form → Type 0
  IsLightIf None = Unit {0}
  IsLightIf (Some f) = IsLightList f.terms

  pub no_weight : IsLightList []
  no_weight = omega arith

  abbrev AreLight : Span1 → Type 0
  AreLight x = SpanKeeps IsLightList no_weight x

  pub kept_light : (x : Span1) → AreLight x → IsLightSpan scope x
  kept_light x h = (
    all_weaker (λ f. IsLightList f.terms) (IsLight scope) (λ f k limited. inl k) x.lower h.0,
    all_weaker (λ f. IsLightList f.terms) (IsLight scope) (λ f k limited. inl k) x.upper h.1,
  )

  module _ (a : Algorithm) (r : AroundText) (f : FormulaText) (lefts : (d : ℕ) (e : Term) → left_at f d ≡ Some e → (x : Span1) → interval_in a r e ≡ Some x → AreLight x) where
    coordinate_light : (o : Option Form) (d : ℕ) (x : Span1) → IsLightIf o → coordinate_span a r o (left_at f d) ≡ Some x → AreLight x
    coordinate_light (Some g) d x h e = subst AreLight (same (exactly g) x e) ((h, tt), (h, tt))
    coordinate_light None d x h e = of (left_at f d) refl e
      where
        of : (i : Option Term) → left_at f d ≡ i → coordinate_span a r None i ≡ Some x → AreLight x
        of None k q = subst AreLight (same (range_of I32) x q) ((no_weight, tt), (no_weight, tt))
        of (Some t) k q = lefts d t k x q

    coordinates_light : (before : List Span1) (d : ℕ) (os : List (Option Form)) (out : List Span1) → AllByRecursion AreLight before → AllByRecursion IsLightIf os →
        coordinates_behind a r f before d os ≡ Some out → AllByRecursion AreLight out
    coordinates_light before d [] out h k e = subst (AllByRecursion AreLight) (same before out e) h
    coordinates_light before d (o ∷ os) out h k e =
        let b = bound (coordinate_span a r o (left_at f d)) (λ x. coordinates_behind a r f (before ++ x ∷ []) (d + 1) os) out e in
        coordinates_light (before ++ b.value ∷ []) (d + 1) os out (all-append AreLight before (b.value ∷ []) h (coordinate_light o d b.value k.0 b.is, tt)) k.1 b.comes

-- a simple index of such coordinates is light
index_of : (e : Term) (es : Terms) → HasIndex e es → are_simple es ≡ true → is_simple e ≡ true
index_of e End m h = absurd m
index_of e (More x es) (inl is) h = ap is_simple is ∙ (and_parts (is_simple x) (are_simple es) h).0
index_of e (More x es) (inr m) h = index_of e es m (and_parts (is_simple x) (are_simple es) h).1

call_at : (cs : List Written) (i : ℕ) (c : Written) → slice_get cs i ≡ Some c → list_all (λ (y : Written). are_simple y.at) cs ≡ true → are_simple c.at ≡ true
call_at [] i c at h = absurd (cc at)
call_at (y ∷ cs) zero c at h = ap (λ (z : Written). are_simple z.at) (sym (same y c at)) ∙ (and_parts (are_simple y.at) (list_all (λ (z : Written). are_simple z.at) cs) h).0
call_at (y ∷ cs) (suc i) c at h = call_at cs i c at (and_parts (are_simple y.at) (list_all (λ (z : Written). are_simple z.at) cs) h).1

spans_light : (scope : List Binding) (os : List (Option Form)) → AllByRecursion (IsLightIf scope) os → AllByRecursion (AreLight scope) (map form_span os)
spans_light scope [] h = tt
spans_light scope (None ∷ os) h = (((no_weight scope, tt), (no_weight scope, tt)), spans_light scope os h.1)
spans_light scope (Some f ∷ os) h = (((h.0, tt), (h.0, tt)), spans_light scope os h.1)

simple_at : (os : List (Option Term)) (j : ℕ) (e : Term) → slice_get os j ≡ Some (Some e) → list_all is_simple_left os ≡ true → is_simple e ≡ true
simple_at [] j e at h = absurd (cc at)
simple_at (o ∷ os) zero e at h = ap is_simple_left (sym (same o (Some e) at)) ∙ (and_parts (is_simple_left o) (list_all is_simple_left os) h).0
simple_at (o ∷ os) (suc j) e at h = simple_at os j e at (and_parts (is_simple_left o) (list_all is_simple_left os) h).1

module _ (a : Algorithm) (u : StoredText) (outer : List Binding) (w : NestText) (f : FormulaText) (d : ℕ) (simple : has_simple_indices f ≡ true)
    (light : AllByRecursion (IsLightIf (bind_steps outer w.steps)) w.at) where
  abbrev scope : List Binding
  scope = bind_steps outer w.steps

  abbrev plain_left : AroundText
  plain_left = left_around u outer w d

  -- what a left index stays within, too
  pub lefts_light : (j : ℕ) (e : Term) → left_at f j ≡ Some e → (x : Span1) → interval_in a plain_left e ≡ Some x → AreLight scope x
  lefts_light j e at_j x found =
      let index = simple_at f.at j e (left_got f j e at_j) (and_parts (list_all (λ (y : Written). are_simple y.at) (calls_in f)) (list_all is_simple_left f.at) simple).1 in
      simple_kept (λ ts. IsLightList scope ts) (no_weight scope) scope (called a) plain_left.variables plain_left.coordinates (spans_light scope w.at light) e index x found

  -- what an index stays within
  index_kept : (r : AroundText) → around a u outer w f d ≡ Some r → (i : ℕ) (c : Written) → slice_get (calls_in f) i ≡ Some c → (e : Term) → HasIndex e c.at → (x : Span1) →
      interval_in a r e ≡ Some x → AreLight r.scope x
  index_kept r stands i c at e m x found =
      let z = bound (coordinates_behind a plain_left f [] 0 w.at) (λ cs. Some (record plain_left { coordinates = cs })) r stands in
      let is : record plain_left { coordinates = z.value } ≡ r = same (record plain_left { coordinates = z.value }) r z.comes in
      let coordinates = coordinates_light scope a plain_left f lefts_light [] 0 w.at z.value tt light z.is in
      let index : is_simple e ≡ true = index_of e c.at m (call_at (calls_in f) i c at (and_parts (list_all (λ (y : Written). are_simple y.at) (calls_in f)) (list_all is_simple_left f.at) simple).0) in
      let here : interval_in a (record plain_left { coordinates = z.value }) e ≡ Some x = ap (λ (t : AroundText). interval_in a t e) is ∙ found in
      let kept_here = simple_kept (λ ts. IsLightList scope ts) (no_weight scope) scope (called a) plain_left.variables z.value coordinates e index x here in
      subst (λ (t : AroundText). AreLight t.scope x) is kept_here

  pub simple_light : (r : AroundText) → around a u outer w f d ≡ Some r → AreCallsLight a r (calls_in f)
  simple_light r stands i c at e m x found = kept_light r.scope x (index_kept r stands i c at e m x found)

  pub simple_few : (r : AroundText) → around a u outer w f d ≡ Some r → AreCallsFew a r (calls_in f)
  simple_few r stands i c at e m x found =
      let h = index_kept r stands i c at e m x found in (
        all_weaker (λ (g : Form). IsLightList r.scope g.terms) (λ (g : Form). is_within_limits g ≡ true → weight r.scope g.terms ≤ 2 ^ 38 + 2 ^ 37 + 2 ^ 36) (λ g k limited. k) x.lower h.0,
        all_weaker (λ (g : Form). IsLightList r.scope g.terms) (λ (g : Form). is_within_limits g ≡ true → weight r.scope g.terms ≤ 2 ^ 38 + 2 ^ 37 + 2 ^ 36) (λ g k limited. k) x.upper h.1,
      )

-- where no symbol goes far each index is light
pub few_calls_light : (a : Algorithm) (u : StoredText) (outer : List Binding) (w : NestText) (f : FormulaText) (d : ℕ) → ((n : ℕ) → weight_at (bind_steps outer w.steps) n ≤ 73728) →
    ArePlain (bind_steps outer w.steps) ⊎ ((n : ℕ) → weight_at (bind_steps outer w.steps) n ≤ 49152) →
    (r : AroundText) → around a u outer w f d ≡ Some r → AreCallsLight a r (calls_in f)
few_calls_light a u outer w f d few plain r stands i c at e m x found =
    let left : AroundText = left_around u outer w d in
    let z = bound (coordinates_behind a left f [] 0 w.at) (λ cs. Some (record left { coordinates = cs })) r stands in
    let is : record left { coordinates = z.value } ≡ r = same (record left { coordinates = z.value }) r z.comes in
    subst (λ (t : AroundText). IsLightSpan t.scope x) is (span_light (bind_steps outer w.steps) few plain x)

pub few_calls_few : (a : Algorithm) (u : StoredText) (outer : List Binding) (w : NestText) (f : FormulaText) (d : ℕ) → ((n : ℕ) → weight_at (bind_steps outer w.steps) n ≤ 73728) →
    ((n : ℕ) → weight_at (bind_steps outer w.steps) n ≤ 49152) → (r : AroundText) → around a u outer w f d ≡ Some r → AreCallsFew a r (calls_in f)
few_calls_few a u outer w f d few fewer r stands i c at e m x found =
    let left : AroundText = left_around u outer w d in
    let z = bound (coordinates_behind a left f [] 0 w.at) (λ cs. Some (record left { coordinates = cs })) r stands in
    let is : record left { coordinates = z.value } ≡ r = same (record left { coordinates = z.value }) r z.comes in
    subst (λ (t : AroundText). IsFewSpan t.scope x) is (span_few (bind_steps outer w.steps) few (inr fewer) fewer x)
