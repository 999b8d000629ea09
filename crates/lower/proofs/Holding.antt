-- What calls need of a function holds each of them.
use Rattle.std.proofs.Common.{◌≡◌, ℕ, zero, suc, ◌+◌, ◌-◌, Bool, true, false, List, [], ◌∷◌, ◌++◌, length, map, Option, Some, None, refl, sym, ap, subst, ◌∙◌, inl, inr, append-nil}
use Rattle.std.proofs.Common.{append_assoc, arith}
use Rattle.std.proofs.lemmas.List.Elements.{recursion_from_All, All-from_recursion}
use Rattle.std.specs.Prelude.{ℤ, if◌then◌else◌, slice_get}
use Rattle.std.specs.List.{AllByRecursion}
use Rattle.numeric.specs.Wrap.{IsOf}
use Rattle.numeric.specs.declared.ty.Ty.TheVariants.{I32}
use Rattle.lin.specs.Spans.{HoldsIn, IsInSpan, IsInRegion}
use Rattle.lin.specs.declared.scope.Binding.{Binding}
use Rattle.lin.specs.declared.span.Span1.{Span1}
use Rattle.bounds.proofs.SpanSound.{Low, High, Lies, either-lies}
use Rattle.bounds.proofs.ProjectionSound.{span-holds}
use Rattle.sched.specs.declared.numbers.Extent.{Extent}
use Rattle.sched.specs.Standing.{◌>>=◌}
use Rattle.sched.specs.Stored.{StoredText}
use Rattle.sched.specs.Bounded.{whole}
use Rattle.sched.specs.Regions.{symbols_from}
use Rattle.sched.specs.Taken.{SiteText, freed}
use Rattle.regions.specs.Taken.{either, with_call, with_calls, with_sites, needed_span}
use Rattle.regions.specs.Demanded.{is_scattered, needed_dimension, add_needed}
use Rattle.lower.specs.Held.{NeedsHoldCalls}
use Rattle.blocks.proofs.Laying.{bound, same}

-- ---- spans

lies : (s : Span1) (v : ℕ → ℤ) (z : ℤ) → IsInSpan s v z → Lies s v z
lies s v z h = (recursion_from_All (Low v z) s.lower h.0, recursion_from_All (High v z) s.upper h.1)

is_in : (s : Span1) (v : ℕ → ℤ) (z : ℤ) → Lies s v z → IsInSpan s v z
is_in s v z h = (All-from_recursion (Low v z) s.lower h.0, All-from_recursion (High v z) s.upper h.1)

freed_holds : (scope : List Binding) (inner : List ℕ) (s f : Span1) (v : ℕ → ℤ) (z : ℤ) → HoldsIn scope v → freed scope inner s ≡ Some f → IsInSpan s v z → IsInSpan f v z
freed_holds scope [] s f v z fits e h = subst (λ (t : Span1). IsInSpan t v z) (same s f e) h
freed_holds scope (i ∷ is) s f v z fits e h = span-holds scope (i ∷ is) s f e v v z fits (λ n k. refl) h

-- a span is known, and holds the number
abbrev Known : Option Span1 → (ℕ → ℤ) → ℤ → Type 0
Known None v z = ⊥
Known (Some s) v z = IsInSpan s v z

module _ (grid : List Binding) (v : ℕ → ℤ) (z : ℤ) (fits : HoldsIn grid v) (of : IsOf I32 z) where
  either_keeps : (k : Option Span1) (s u : Span1) → Known k v z → either grid k s ≡ Some u → IsInSpan u v z
  either_keeps None s u h e = absurd h
  either_keeps (Some k) s u h e = is_in u v z (either-lies grid v fits I32 k s z of (inl (lies k v z h)) u e)

  either_takes : (k : Option Span1) (s u : Span1) → IsInSpan s v z → either grid k s ≡ Some u → IsInSpan u v z
  either_takes None s u h e = subst (λ (t : Span1). IsInSpan t v z) (same s u e) h
  either_takes (Some k) s u h e = is_in u v z (either-lies grid v fits I32 k s z of (inr (lies s v z h)) u e)

  -- ---- calls

  module _ (scope : List Binding) (inner : List ℕ) (d : ℕ) where
    abbrev by_span : Option Span1 → Span1 → Option (Option Span1)
    by_span known s = freed scope inner s >>= λ f. either grid known f >>= λ u. Some (Some u)

    call_keeps : (c : List Span1) (known o : Option Span1) → Known known v z → with_call grid scope inner d c known ≡ Some o → Known o v z
    call_keeps c known o h e =
        let s = bound (slice_get c d) (by_span known) o e in
        let f = bound (freed scope inner s.value) (λ f. either grid known f >>= λ u. Some (Some u)) o s.comes in
        let u = bound (either grid known f.value) (λ u. Some (Some u)) o f.comes in
        subst (λ (p : Option Span1). Known p v z) (same (Some u.value) o u.comes) (either_keeps known f.value u.value h u.is)

    call_takes : (c : List Span1) (known o : Option Span1) (x : Span1) → HoldsIn scope v → slice_get c d ≡ Some x → IsInSpan x v z → with_call grid scope inner d c known ≡ Some o → Known o v z
    call_takes c known o x standing there h e =
        let s = bound (slice_get c d) (by_span known) o e in
        let f = bound (freed scope inner s.value) (λ f. either grid known f >>= λ u. Some (Some u)) o s.comes in
        let u = bound (either grid known f.value) (λ u. Some (Some u)) o f.comes in
        let at : IsInSpan s.value v z = subst (λ (t : Span1). IsInSpan t v z) (same x s.value (sym there ∙ s.is)) h in
        let free : IsInSpan f.value v z = freed_holds scope inner s.value f.value v z standing f.is at in
        subst (λ (p : Option Span1). Known p v z) (same (Some u.value) o u.comes) (either_takes known f.value u.value free u.is)

    calls_keep : (cs : List (List Span1)) (known o : Option Span1) → Known known v z → with_calls grid scope inner d cs known ≡ Some o → Known o v z
    calls_keep [] known o h e = subst (λ (p : Option Span1). Known p v z) (same known o e) h
    calls_keep (c ∷ cs) known o h e =
        let b = bound (with_call grid scope inner d c known) (with_calls grid scope inner d cs) o e in
        calls_keep cs b.value o (call_keeps c known b.value h b.is) b.comes

    calls_take : (cs : List (List Span1)) (m : ℕ) (c : List Span1) (known o : Option Span1) (x : Span1) → HoldsIn scope v → slice_get cs m ≡ Some c → slice_get c d ≡ Some x → IsInSpan x v z
        → with_calls grid scope inner d cs known ≡ Some o → Known o v z
    calls_take [] m c known o x standing is there h e = absurd (no is)
      where
        no : None ≡ Some c → ⊥
        no q = cc
    calls_take (y ∷ cs) zero c known o x standing is there h e =
        let b = bound (with_call grid scope inner d y known) (with_calls grid scope inner d cs) o e in
        let at : slice_get y d ≡ Some x = ap (λ (l : List Span1). slice_get l d) (same y c is) ∙ there in
        calls_keep cs b.value o (call_takes y known b.value x standing at h b.is) b.comes
    calls_take (y ∷ cs) (suc m) c known o x standing is there h e =
        let b = bound (with_call grid scope inner d y known) (with_calls grid scope inner d cs) o e in
        calls_take cs m c b.value o x standing is there h b.comes

  -- ---- sites

  abbrev by_site : ℕ → SiteText → Option Span1 → Option (Option Span1)
  by_site d s known = with_calls grid s.scope (symbols_from (length grid) (length s.scope - length grid)) d s.calls known

  sites_keep : (d : ℕ) (ss : List SiteText) (known o : Option Span1) → Known known v z → with_sites grid d ss known ≡ Some o → Known o v z
  sites_keep d [] known o h e = subst (λ (p : Option Span1). Known p v z) (same known o e) h
  sites_keep d (s ∷ ss) known o h e =
      let b = bound (by_site d s known) (with_sites grid d ss) o e in
      sites_keep d ss b.value o (calls_keep s.scope (symbols_from (length grid) (length s.scope - length grid)) d s.calls known b.value h b.is) b.comes

  sites_take : (d : ℕ) (ss : List SiteText) (n m : ℕ) (t : SiteText) (c : List Span1) (known o : Option Span1) (x : Span1) → slice_get ss n ≡ Some t → HoldsIn t.scope v
      → slice_get t.calls m ≡ Some c → slice_get c d ≡ Some x → IsInSpan x v z → with_sites grid d ss known ≡ Some o → Known o v z
  sites_take d [] n m t c known o x is standing call there h e = absurd (no is)
    where
      no : None ≡ Some t → ⊥
      no q = cc
  sites_take d (s ∷ ss) zero m t c known o x is standing call there h e =
      let b = bound (by_site d s known) (with_sites grid d ss) o e in
      let at : s ≡ t = same s t is in
      let fit : HoldsIn s.scope v = subst (λ (r : SiteText). HoldsIn r.scope v) (sym at) standing in
      let called : slice_get s.calls m ≡ Some c = ap (λ (r : SiteText). slice_get r.calls m) at ∙ call in
      sites_keep d ss b.value o (calls_take s.scope (symbols_from (length grid) (length s.scope - length grid)) d s.calls m c known b.value x fit called there h b.is) b.comes
  sites_take d (s ∷ ss) (suc n) m t c known o x is standing call there h e =
      let b = bound (by_site d s known) (with_sites grid d ss) o e in
      sites_take d ss n m t c b.value o x is standing call there h b.comes

  told : (o : Option Span1) (s : Span1) → Known o v z → o ≡ Some s → IsInSpan s v z
  told o s h e = subst (λ (p : Option Span1). Known p v z) e h

-- ---- dimensions

module _ (scope : List Binding) (ss : List SiteText) (g : StoredText) (n m : ℕ) (t : SiteText) (c : List Span1) (v : ℕ → ℤ) (fits : HoldsIn scope v)
    (site : slice_get ss n ≡ Some t) (standing : HoldsIn t.scope v) (call : slice_get t.calls m ≡ Some c) where
  span_holds : (d : ℕ) (x s : Span1) (z : ℤ) → IsOf I32 z → slice_get c d ≡ Some x → IsInSpan x v z → needed_span scope ss d ≡ Some s → IsInSpan s v z
  span_holds d x s z of there h e =
      let b = bound (with_sites scope d ss None) (λ o. o) s e in
      told scope v z fits of b.value s (sites_take scope v z fits of d ss n m t c None b.value x site standing call there h b.is) b.comes

  either_way : (b : Bool) (d : ℕ) (e : Extent) (x s : Span1) (z : ℤ) → IsOf I32 z → slice_get c d ≡ Some x → IsInSpan x v z → IsInSpan (whole e) v z
      → (if b then Some (whole e) else needed_span scope ss d) ≡ Some s → IsInSpan s v z
  either_way true d e x s z of there h all is = subst (λ (q : Span1). IsInSpan q v z) (same (whole e) s is) all
  either_way false d e x s z of there h all is = span_holds d x s z of there h is

  push : (rs : List Span1) (s : Span1) (p : List ℤ) (z : ℤ) → IsInRegion rs v p → IsInSpan s v z → IsInRegion (rs ++ s ∷ []) v (p ++ z ∷ [])
  push [] s [] z h i = (i, tt)
  push [] s (y ∷ p) z h i = absurd h
  push (r ∷ rs) s [] z h i = absurd h
  push (r ∷ rs) s (y ∷ p) z h i = (h.0, push rs s p z h.1 i)

  region_holds : (d : ℕ) (es : List Extent) (xs before q : List Span1) (p zs : List ℤ) → ((k : ℕ) (x : Span1) → slice_get xs k ≡ Some x → slice_get c (d + k) ≡ Some x)
      → IsInRegion xs v zs → IsInRegion (map whole es) v zs → AllByRecursion (IsOf I32) zs → IsInRegion before v p → add_needed scope ss g d es before ≡ Some q → IsInRegion q v (p ++ zs)
  region_holds d [] xs before q p [] from h all of known e =
      subst (λ (l : List ℤ). IsInRegion q v l) (sym (append-nil p)) (subst (λ (l : List Span1). IsInRegion l v p) (same before q e) known)
  region_holds d [] xs before q p (z ∷ zs) from h all of known e = absurd all
  region_holds d (x ∷ es) xs before q p [] from h all of known e = absurd all
  region_holds d (x ∷ es) [] before q p (z ∷ zs) from h all of known e = absurd h
  region_holds d (x ∷ es) (y ∷ xs) before q p (z ∷ zs) from h all of known e =
      let b = bound (needed_dimension scope ss g d x) (λ s. add_needed scope ss g (d + 1) es (before ++ s ∷ [])) q e in
      let here : slice_get c d ≡ Some y = ap (λ (k : ℕ). slice_get c k) (sym (zero_more d)) ∙ from 0 y refl in
      let holds : IsInSpan b.value v z = either_way (is_scattered g d) d x y b.value z of.0 here h.0 all.0 b.is in
      subst (λ (l : List ℤ). IsInRegion q v l) (append_assoc p (z ∷ []) zs)
      (region_holds (d + 1) es xs (before ++ b.value ∷ []) q (p ++ z ∷ []) zs (λ k w at. ap (λ (j : ℕ). slice_get c j) (one_more d k) ∙ from (suc k) w at) h.1 all.1 of.1 (push before b.value p z known holds) b.comes)
    where
      zero_more : (j : ℕ) → j + 0 ≡ j
      zero_more j = omega arith

      one_more : (j k : ℕ) → j + 1 + k ≡ j + suc k
      one_more j k = omega arith

get_before : {A : Type 0} (xs ys : List A) (k : ℕ) (x : A) → slice_get xs k ≡ Some x → slice_get (xs ++ ys) k ≡ Some x
get_before [] ys k x h = absurd (no h)
  where
    no : None ≡ Some x → ⊥
    no q = cc
get_before (y ∷ xs) ys zero x h = h
get_before (y ∷ xs) ys (suc k) x h = get_before xs ys k x h

pub needs_hold_calls : NeedsHoldCalls
needs_hold_calls scope g es ss q needed n m t more c site around call v p standing at of all =
    let fits : HoldsIn scope v = λ k b is. standing k b (ap (λ (l : List Binding). slice_get l k) around ∙ get_before scope more k b is) in
    region_holds scope ss g n m t c v fits site standing call 0 es c [] q [] p (λ k x is. ap (λ (j : ℕ). slice_get c j) (none_more k) ∙ is) at all of tt needed
  where
    none_more : (k : ℕ) → 0 + k ≡ k
    none_more k = omega arith
