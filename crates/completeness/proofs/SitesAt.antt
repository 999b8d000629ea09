-- What is known around the store of each definition: by it the definition's calls are bounded, and it is the site of what is fetched for them.
use Rattle.std.proofs.Common.{◌≡◌, ℕ, zero, suc, ◌+◌, Bool, true, false, List, [], ◌∷◌, Some, None, refl, ap, ◌∙◌, subst, arith}
use Rattle.std.specs.Prelude.{if◌then◌else◌, slice_get}
use Rattle.lin.specs.declared.scope.Binding.{Binding}
use Rattle.lin.specs.declared.span.Span1.{Span1}
use Rattle.meaning.specs.Algorithm.{Algorithm}
use Rattle.sched.specs.Standing.{◌>>=◌}
use Rattle.sched.specs.Skeleton.{NestText}
use Rattle.sched.specs.Stored.{FormulaText, StoredText, calls_in}
use Rattle.sched.specs.Around.{AroundText, around}
use Rattle.blocks.specs.Bounded.{are_bounded, is_definition_bounded, is_bounded}
use Rattle.sched.specs.Taken.{SiteText}
use Rattle.regions.specs.Taken.{add_calls, with_site, add_site, add_sites}
use Rattle.blocks.proofs.Laying.{bound, same}
use Rattle.completeness.proofs.TakenSites.{Has, has_last, sites_kept}

module _ (a : Algorithm) (g : StoredText) (outer : List Binding) where
  -- ---- bounds

  module _ (region : List Span1) where
    -- what is known around the store of the definition of this number, by which each of its calls is bounded
    pub record IsBoundedAt (d : ℕ) (u : FormulaText) (w : NestText) : Type 0 where
      pub known : AroundText
      pub is : around a g outer w u d ≡ Some known
      pub bounded : are_bounded a known u region g.subject.name (calls_in u) ≡ Some true

    goes_on : (e : ℕ) (fs : List FormulaText) (ns : List NestText) (v : Bool) → (if v then is_bounded a g outer region (e + 1) fs ns else Some false) ≡ Some true →
        (v ≡ true) × (is_bounded a g outer region (e + 1) fs ns ≡ Some true)
    goes_on e fs ns true q = (refl, q)
    goes_on e fs ns false q = absurd (cc q)

    pub bounded_at : (e : ℕ) (fs : List FormulaText) (ns : List NestText) → is_bounded a g outer region e fs ns ≡ Some true → (d : ℕ) (u : FormulaText) (w : NestText) → slice_get fs d ≡ Some u →
        slice_get ns d ≡ Some w → IsBoundedAt (e + d) u w
    bounded_at e [] ns h d u w at there = absurd (cc at)
    bounded_at e (f ∷ fs) [] h d u w at there = absurd (cc h)
    bounded_at e (f ∷ fs) (n ∷ ns) h zero u w at there =
        let b = bound (is_definition_bounded a g outer region e f n) (λ is. if is then is_bounded a g outer region (e + 1) fs ns else Some false) true h in
        let more = goes_on e fs ns b.value b.comes in
        let r = bound (around a g outer n f e) (λ r. are_bounded a r f region g.subject.name (calls_in f)) b.value b.is in
        let none : e ≡ e + 0 = omega arith in
        let here : IsBoundedAt e f n = record { known = r.value; is = r.is; bounded = r.comes ∙ ap (λ (v : Bool). Some v) more.0 } in
        subst (λ (m : ℕ). IsBoundedAt m u w) none
        (subst (λ (y : NestText). IsBoundedAt e u y) (same n w there) (subst (λ (x : FormulaText). IsBoundedAt e x n) (same f u at) here))
    bounded_at e (f ∷ fs) (n ∷ ns) h (suc d) u w at there =
        let b = bound (is_definition_bounded a g outer region e f n) (λ is. if is then is_bounded a g outer region (e + 1) fs ns else Some false) true h in
        let more = goes_on e fs ns b.value b.comes in
        let next : (e + 1) + d ≡ e + suc d = omega arith in
        subst (λ (m : ℕ). IsBoundedAt m u w) next (bounded_at (e + 1) fs ns more.1 d u w at there)

  -- ---- sites

  module _ (x : List ℕ) where
    -- the site of the definition of this number is one of these
    pub record IsSiteAt (d : ℕ) (u : FormulaText) (w : NestText) (out : List SiteText) : Type 0 where
      pub known : AroundText
      pub is : around a g outer w u d ≡ Some known
      pub calls : List (List Span1)
      pub added : add_calls a known x (calls_in u) [] ≡ Some calls
      pub site : (ss : List Span1) → Has ss calls → Has (record { scope = known.scope; calls = calls }) out

    pub one_site : (scope : List Binding) (cs : List (List Span1)) (before : List SiteText) (ss : List Span1) → Has ss cs → Has (record { scope = scope; calls = cs }) (with_site scope cs before)
    one_site scope [] before ss h = absurd h
    one_site scope (c ∷ cs) before ss h = has_last (record { scope = scope; calls = c ∷ cs }) before

    pub site_at : (e : ℕ) (fs : List FormulaText) (ns : List NestText) (before out : List SiteText) → add_sites a g outer None x e fs ns before ≡ Some out → (d : ℕ) (u : FormulaText) (w : NestText) →
        slice_get fs d ≡ Some u → slice_get ns d ≡ Some w → IsSiteAt (e + d) u w out
    site_at e fs [] before out h d u w at there = absurd (cc there)
    site_at e [] (n ∷ ns) before out h d u w at there = absurd (cc at)
    site_at e (f ∷ fs) (n ∷ ns) before out h zero u w at there =
        let b = bound (add_site a g outer x e f n before) (add_sites a g outer None x (e + 1) fs ns) out h in
        let r = bound (around a g outer n f e) (λ r. add_calls a r x (calls_in f) [] >>= λ cs. Some (with_site r.scope cs before)) b.value b.is in
        let c = bound (add_calls a r.value x (calls_in f) []) (λ cs. Some (with_site r.value.scope cs before)) b.value r.comes in
        let is = same (with_site r.value.scope c.value before) b.value c.comes in
        let t : SiteText = record { scope = r.value.scope; calls = c.value } in
        let none : e ≡ e + 0 = omega arith in
        let here : IsSiteAt e f n out = record {
          known = r.value;
          is = r.is;
          calls = c.value;
          added = c.is;
          site = λ ss k. sites_kept a g outer x (e + 1) fs ns t b.value out b.comes (subst (λ (o : List SiteText). Has t o) is (one_site r.value.scope c.value before ss k));
        } in
        subst (λ (m : ℕ). IsSiteAt m u w out) none
        (subst (λ (y : NestText). IsSiteAt e u y out) (same n w there) (subst (λ (z : FormulaText). IsSiteAt e z n out) (same f u at) here))
    site_at e (f ∷ fs) (n ∷ ns) before out h (suc d) u w at there =
        let b = bound (add_site a g outer x e f n before) (add_sites a g outer None x (e + 1) fs ns) out h in
        let next : (e + 1) + d ≡ e + suc d = omega arith in
        subst (λ (m : ℕ). IsSiteAt m u w out) next (site_at (e + 1) fs ns b.value out b.comes d u w at there)
