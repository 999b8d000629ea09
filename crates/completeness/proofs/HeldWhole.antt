-- All numbers of a dimension of a function hold each index at which a later function calls it, as the checker tests it, where around that one's store all symbols are of loops over some
-- numbers near 0.
use Rattle.std.proofs.Common.{◌≡◌, ℕ, zero, suc, ◌+◌, ◌<◌, Bool, true, false, List, [], ◌∷◌, ◌++◌, length, Option, Some, None, IsSome, refl, sym, ap, ◌∙◌, subst, inl, inr, ◌⊎◌, arith}
use Rattle.std.specs.Prelude.{pos, negsuc, ◌≤ℤ◌, if◌then◌else◌, slice_get}
use Rattle.std.specs.List.{AllByRecursion}
use Rattle.std.proofs.lemmas.Int.{ints}
use Rattle.std.proofs.lemmas.List.{length-append}
use Rattle.std.proofs.lemmas.Option.{slice_get_within}
use Rattle.tree.specs.Term.{Term, Number, Name, Call, Minus, Binary, Clamp, Cast, Choice, Terms, End, More, Test, Compares, Fails, Both, Either}
use Rattle.tree.specs.Uses.{EachCall, EachCallOfTest, EachCallOfAll}
use Rattle.tree.specs.Typing.{type_of, index_count}
use Rattle.lin.specs.Forms.{Form, number}
use Rattle.lin.specs.Regions.{span_inside}
use Rattle.lin.specs.declared.form.Multiple.{Multiple}
use Rattle.lin.specs.declared.scope.Binding.{Binding}
use Rattle.lin.specs.declared.span.Span1.{Span1}
use Rattle.lin.proofs.TermLemmas.{all_weaker}
use Rattle.bounds.specs.Projection.Elimination.{is_inner}
use Rattle.bounds.specs.Projection.Projection.{negated}
use Rattle.meaning.specs.Algorithm.{Algorithm}
use Rattle.meaning.specs.Names.{same_name}
use Rattle.headline.proofs.Members.{got}
use Rattle.algo.specs.Scoping.Standing.{Written, calls_of, calls_of_test, calls_of_all}
use Rattle.sched.specs.declared.numbers.Extent.{Extent}
use Rattle.sched.specs.Standing.{◌>>=◌}
use Rattle.sched.specs.Called.{called}
use Rattle.sched.specs.Around.{AroundText, interval_in}
use Rattle.regions.specs.Regions.{ends_of, are_within}
use Rattle.sched.specs.Regions.{symbols_from}
use Rattle.sched.specs.Bounded.{whole}
use Rattle.regions.specs.Taken.{add_spans, add_call, add_calls, holds_call, holds_calls}
use Rattle.lower.specs.Held.{AreTyped}
use Rattle.lower.specs.Owning.{IsExtent}
use Rattle.blocks.proofs.Laying.{bound, same}
use Rattle.completeness.proofs.Standing.{Taken}
use Rattle.completeness.proofs.TakenSites.{Has}
use Rattle.completeness.proofs.RegionBounds.{IsEnded}
use Rattle.completeness.proofs.Only.{Only, SpanOnly, only_combined}
use Rattle.completeness.proofs.Sited.{Below}
use Rattle.completeness.proofs.Boxes.{AreBoxes, IsLightSpan}
use Rattle.completeness.proofs.FreedEnds.{AreOver, inside_all, whole_inside}
use Rattle.completeness.proofs.CallEnds.{IsIndexEnded, AreIndicesEnded}

abbrev Ends : Type 0
Ends = Taken _ _ are_within

-- ---- lists

has_either : {A : Type 0} (x : A) (xs ys : List A) → Has x (xs ++ ys) → Has x xs ⊎ Has x ys
has_either x [] ys h = inr h
has_either x (z ∷ xs) ys (inl e) = inl (inl e)
has_either x (z ∷ xs) ys (inr h) = elim (has_either x xs ys h) [ inl k ↦ inl (inr k) | inr k ↦ inr k ]

got_first : {A : Type 0} (xs ys : List A) (i : ℕ) (x : A) → slice_get xs i ≡ Some x → slice_get (xs ++ ys) i ≡ Some x
got_first [] ys i x e = absurd (cc e)
got_first (z ∷ xs) ys zero x e = e
got_first (z ∷ xs) ys (suc i) x e = got_first xs ys i x e

got_last : {A : Type 0} (xs : List A) (x : A) (k : ℕ) → length xs ≡ k → slice_get (xs ++ x ∷ []) k ≡ Some x
got_last [] x zero e = refl
got_last [] x (suc k) e = absurd (omega (arith, e))
got_last (z ∷ xs) x zero e = absurd (omega (arith, e))
got_last (z ∷ xs) x (suc k) e = got_last xs x k (omega (arith, e))

-- ---- what is so of each call, one by one

module _ (P : List ℕ → Terms → Type 0) where
  abbrev All : List Written → Type 0
  All cs = AllByRecursion (λ c. P c.name c.at) cs

  join : (xs ys : List Written) → All xs → All ys → All (xs ++ ys)
  join [] ys a b = b
  join (x ∷ xs) ys a b = (a.0, join xs ys a.1 b)

  mutual
    pub all_calls : (e : Term) → EachCall P e → All (calls_of e)
    all_calls (Number t n) h = tt
    all_calls (Name name) h = tt
    all_calls (Call name at) h = (h.0, indices_calls at h.1)
    all_calls (Minus a) h = all_calls a h
    all_calls (Binary op a b) h = join (calls_of a) (calls_of b) (all_calls a h.0) (all_calls b h.1)
    all_calls (Clamp a l u) h = join (calls_of a ++ calls_of l) (calls_of u) (join (calls_of a) (calls_of l) (all_calls a h.0) (all_calls l h.1)) (all_calls u h.2)
    all_calls (Cast t a) h = all_calls a h
    all_calls (Choice c a b) h = join (calls_of_test c ++ calls_of a) (calls_of b) (join (calls_of_test c) (calls_of a) (test_calls c h.0) (all_calls a h.1)) (all_calls b h.2)

    test_calls : (c : Test) → EachCallOfTest P c → All (calls_of_test c)
    test_calls (Compares by a b) h = join (calls_of a) (calls_of b) (all_calls a h.0) (all_calls b h.1)
    test_calls (Fails c) h = test_calls c h
    test_calls (Both c d) h = join (calls_of_test c) (calls_of_test d) (test_calls c h.0) (test_calls d h.1)
    test_calls (Either c d) h = join (calls_of_test c) (calls_of_test d) (test_calls c h.0) (test_calls d h.1)

    indices_calls : (at : Terms) → EachCallOfAll P at → All (calls_of_all at)
    indices_calls End h = tt
    indices_calls (More a rest) h = join (calls_of a) (calls_of_all rest) (all_calls a h.0) (indices_calls rest h.1)

-- ---- the calls that are found

module _ (a : Algorithm) (r : AroundText) (x : List ℕ) where
  -- what the indices of one of these calls stay within
  pub record IsFrom (cs : List Written) (ss : List Span1) : Type 0 where
    pub place : ℕ
    pub call : Written
    pub there : slice_get cs place ≡ Some call
    pub named : same_name call.name x ≡ true
    pub added : add_spans a r call.at [] ≡ Some ss

  pub calls_from : (cs : List Written) (before out : List (List Span1)) → add_calls a r x cs before ≡ Some out → (ss : List Span1) → Has ss out → Has ss before ⊎ IsFrom cs ss
  calls_from [] before out e ss h = inl (subst (λ (o : List (List Span1)). Has ss o) (sym (same before out e)) h)
  calls_from (c ∷ cs) before out e ss h =
      let b = bound (add_call a r x c before) (add_calls a r x cs) out e in
      of b.value b.is (calls_from cs b.value out b.comes ss h)
    where
      by : (value : List (List Span1)) (v : Bool) → same_name c.name x ≡ v → (if v then (add_spans a r c.at [] >>= λ ts. Some (before ++ ts ∷ [])) else Some before) ≡ Some value → Has ss value →
          Has ss before ⊎ IsFrom (c ∷ cs) ss
      by value true s q k =
          let d = bound (add_spans a r c.at []) (λ ts. Some (before ++ ts ∷ [])) value q in
          let is = same (before ++ d.value ∷ []) value d.comes in
          elim (has_either ss before (d.value ∷ []) (subst (λ (o : List (List Span1)). Has ss o) (sym is) k)) [
            | inl old ↦ inl old
            | inr new ↦ elim new [
              | inl this ↦ inr (record { place = 0; call = c; there = refl; named = s; added = d.is ∙ ap (λ (ts : List Span1). Some ts) (sym this) })
              | inr none ↦ absurd none
            ]
          ]
      by value false s q k = inl (subst (λ (o : List (List Span1)). Has ss o) (sym (same before value q)) k)

      of : (value : List (List Span1)) → add_call a r x c before ≡ Some value → Has ss value ⊎ IsFrom cs ss → Has ss before ⊎ IsFrom (c ∷ cs) ss
      of value q (inl k) = by value (same_name c.name x) refl q k
      of value q (inr k) = inr (record { place = suc k.place; call = k.call; there = k.there; named = k.named; added = k.added })

-- ---- the indices of a call

-- it is one of these indices
abbrev pub HasIndex : Term → Terms → Type 0
HasIndex e End = ⊥
HasIndex e (More x es) = (e ≡ x) ⊎ HasIndex e es

-- what each index of these calls stays within is light
abbrev pub AreCallsLight : Algorithm → AroundText → List Written → Type 0
AreCallsLight a r cs =
    (i : ℕ) (c : Written) → slice_get cs i ≡ Some c → (e : Term) → HasIndex e c.at → (s : Span1) → interval_in a r e ≡ Some s → IsLightSpan r.scope s

module _ (a : Algorithm) (r : AroundText) (known : List ℕ → Bool) (region : List Extent) where
  spans_keep : (es : Terms) (before out : List Span1) → add_spans a r es before ≡ Some out → (i : ℕ) (s : Span1) → slice_get before i ≡ Some s → slice_get out i ≡ Some s
  spans_keep End before out e i s at = subst (λ (o : List Span1). slice_get o i ≡ Some s) (same before out e) at
  spans_keep (More t es) before out e i s at =
      let b = bound (interval_in a r t) (λ u. add_spans a r es (before ++ u ∷ [])) out e in
      spans_keep es (before ++ b.value ∷ []) out b.comes i s (got_first before (b.value ∷ []) i s at)

  -- the index at this place has ends, and what it stays within is among these
  record IsSpanAt (all : Terms) (out : List Span1) (d : ℕ) : Type 0 where
    index : Term
    among : HasIndex index all
    ended : IsIndexEnded a r index region d
    typed : IsSome (type_of known (called a) index)
    there : slice_get out d ≡ Some ended.span

  span_at : (all es : Terms) → ((e : Term) → HasIndex e es → HasIndex e all) → (k : ℕ) (before out : List Span1) → length before ≡ k → AreIndicesEnded a r region k es →
      AreTyped known (called a) es → add_spans a r es before ≡ Some out → (j : ℕ) → j < index_count es → IsSpanAt all out (k + j)
  span_at all End some k before out long h g e j lt = absurd (omega (arith, lt))
  span_at all (More t es) some k before out long h g e zero lt =
      let b = bound (interval_in a r t) (λ u. add_spans a r es (before ++ u ∷ [])) out e in
      let is : h.0.span ≡ b.value = same h.0.span b.value (sym h.0.bounds ∙ b.is) in
      let none : k ≡ k + 0 = omega arith in
      let here : IsSpanAt all out k = record {
        index = t;
        among = some t (inl refl);
        ended = h.0;
        typed = g.0;
        there = spans_keep es (before ++ b.value ∷ []) out b.comes k b.value (got_last before b.value k long) ∙ ap (λ (s : Span1). Some s) (sym is);
      } in
      subst (IsSpanAt all out) none here
  span_at all (More t es) some k before out long h g e (suc j) lt =
      let b = bound (interval_in a r t) (λ u. add_spans a r es (before ++ u ∷ [])) out e in
      let many = length-append before (b.value ∷ []) in
      let next : (k + 1) + j ≡ k + suc j = omega arith in
      subst (IsSpanAt all out) next (span_at all es (λ x m. some x (inr m)) (k + 1) (before ++ b.value ∷ []) out (omega (arith, many, long)) h.1 g.1 b.comes j (omega (arith, lt)))

-- where there are numbers of each loop, all numbers of the dimension hold the call
module _ (a : Algorithm) (r : AroundText) (known : List ℕ → Bool) (boxes : AreBoxes r.scope)
    (order : (e : Term) (s : Span1) (ends : Ends) → interval_in a r e ≡ Some s → IsSome (type_of known (called a) e) → ends_of r.scope s ≡ Some ends → ends.low ≤ℤ ends.high)
    (region : List Extent) (extents : AllByRecursion IsExtent region) (ended : AllByRecursion IsEnded region) where
  abbrev over : List Multiple → Type 0
  over ts = AreOver r.scope boxes ts

  abbrev inner : ℕ → Type 0
  inner m = is_inner (symbols_from 0 (length r.scope)) m ≡ true

  forms_over : (fs : List Form) → AllByRecursion (Only (Below (length r.scope))) fs → AllByRecursion (λ (f : Form). over f.terms) fs
  forms_over fs h =
      all_weaker (Only (Below (length r.scope))) (λ f. over f.terms)
      (λ f k. all_weaker (λ t. t.symbol < length r.scope) (λ t. inner t.symbol) (λ t l. inside_all r.scope boxes t.symbol l) f.terms k) fs h

  negation_over : (m nf : Form) → negated m ≡ Some nf → over m.terms → over nf.terms
  negation_over m nf e h = only_combined inner (number (pos 0)) (negsuc 0) m tt h nf e

  pub call_held : (es : Terms) (ss : List Span1) → ((e : Term) → HasIndex e es → (s : Span1) → interval_in a r e ≡ Some s → IsLightSpan r.scope s) → AreIndicesEnded a r region 0 es →
      AreTyped known (called a) es → add_spans a r es [] ≡ Some ss →
      AllByRecursion (SpanOnly (Below (length r.scope))) ss → index_count es ≡ length region → (d : ℕ) (x : Extent) → slice_get region d ≡ Some x → holds_call r.scope d (whole x) ss ≡ true
  call_held es ss light h g e only count d x at =
      let within = slice_get_within region d x at in
      let none : 0 + d ≡ d = omega arith in
      let y : IsSpanAt a r known region es ss d =
      subst (IsSpanAt a r known region es ss) none (span_at a r known region es es (λ t m. m) 0 [] ss refl h g e d (omega (arith, within, count))) in
      let s : Span1 = y.ended.span in
      let ends : Ends = y.ended.ends in
      let le : ends.low ≤ℤ ends.high = order y.index s ends y.ended.bounds y.typed y.ended.freed in
      let low = y.ended.inside ends.low (omega (arith, ints)) le x at in
      let high = y.ended.inside ends.high le (omega (arith, ints)) x at in
      let extent : IsExtent x = got IsExtent region d x extents at in
      let last : IsEnded x = got IsEnded region d x ended at in
      let from = extent.from in
      let some = extent.some in
      let low_from = low.0 in
      let low_to = low.1 in
      let high_from = high.0 in
      let high_to = high.1 in
      let forms : SpanOnly (Below (length r.scope)) s = got (SpanOnly (Below (length r.scope))) ss d s only y.there in
      let inside : span_inside r.scope s (whole x) ≡ true =
      whole_inside r.scope boxes s ends x y.ended.freed (forms_over s.lower forms.0) (forms_over s.upper forms.1) negation_over (light y.index y.among s y.ended.bounds) low.0 high.1
      (omega (arith, ints, from, last, some)) (omega (arith, ints, from, last, some))
      (omega (arith, ints, from, last, some, low_from, low_to)) (omega (arith, ints, from, last, some, high_from, high_to)) in
      ap (λ (o : Option Span1). elim o [ Some z ↦ span_inside r.scope z (whole x) | None ↦ false ]) y.there ∙ inside

-- ---- sites

pub holds_each : (scope : List Binding) (d : ℕ) (s : Span1) (cs : List (List Span1)) → ((ss : List Span1) → Has ss cs → holds_call scope d s ss ≡ true) → holds_calls scope d s cs ≡ true
holds_each scope d s [] h = refl
holds_each scope d s (c ∷ cs) h =
    ap (λ (b : Bool). if b then holds_calls scope d s cs else false) (h c (inl refl)) ∙ holds_each scope d s cs (λ ss k. h ss (inr k))

pub all_has : {A : Type 0} (P : A → Type 0) (xs : List A) (x : A) → AllByRecursion P xs → Has x xs → P x
all_has P [] x h k = absurd k
all_has P (y ∷ xs) x h (inl is) = subst P (sym is) h.0
all_has P (y ∷ xs) x h (inr k) = all_has P xs x h.1 k
