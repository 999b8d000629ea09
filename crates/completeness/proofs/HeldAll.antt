-- All numbers of a dimension of a function hold each index at which a later function calls it, in whichever definition, as the checker tests it, where that one's left indices are variables
-- and around its stores all symbols are of loops over some numbers near 0.
use Rattle.std.proofs.Common.{IsSome, ◌≡◌, ℕ, suc, ◌+◌, ◌≤◌, Bool, true, false, List, [], ◌∷◌, ◌++◌, length, Some, None, refl, sym, ap, ◌∙◌, subst, inl, inr, arith}
use Rattle.std.specs.Prelude.{◌≤ℤ◌, if◌then◌else◌, slice_get}
use Rattle.std.specs.List.{AllByRecursion}
use Rattle.numeric.specs.declared.ty.Ty.{Ty}
use Rattle.tree.specs.Term.{Term}
use Rattle.tree.specs.Typing.{type_of, index_count}
use Rattle.lin.specs.declared.scope.Binding.{Binding}
use Rattle.lin.specs.declared.span.Span1.{Span1}
use Rattle.meaning.specs.Algorithm.{Algorithm}
use Rattle.meaning.specs.Names.{is_among}
use Rattle.meaning.proofs.InliningTyped.{answer-is}
use Rattle.soundness.proofs.Refines.{name_true}
use Rattle.headline.proofs.Members.{got}
use Rattle.sched.specs.declared.numbers.Extent.{Extent}
use Rattle.sched.specs.Standing.{◌>>=◌}
use Rattle.sched.specs.Skeleton.{NestText}
use Rattle.sched.specs.Called.{called}
use Rattle.sched.specs.Stored.{FormulaText, StoredText, calls_in}
use Rattle.sched.specs.Around.{AroundText, interval_in, head_scope, bind_steps, names_with, left_around, coordinates_behind, around}
use Rattle.sched.specs.Regions.{LaidText}
use Rattle.regions.specs.Regions.{ends_of, are_within}
use Rattle.sched.specs.Bounded.{whole}
use Rattle.sched.specs.Taken.{SiteText}
use Rattle.regions.specs.Taken.{add_calls, with_site, add_site, add_sites, holds_calls, hold_calls}
use Rattle.lower.specs.Owning.{IsExtent}
use Rattle.blocks.proofs.Laying.{bound, same}
use Rattle.completeness.proofs.TakenSites.{Has, sites_kept}
use Rattle.completeness.proofs.SitesAt.{one_site}
use Rattle.completeness.proofs.RegionBounds.{IsEnded}
use Rattle.completeness.proofs.LoadedTerms.{IsTypedCall}
use Rattle.completeness.proofs.Only.{SpanOnly}
use Rattle.completeness.proofs.Sited.{Below, SiteOnly}
use Rattle.completeness.proofs.Boxes.{AreBoxes}
use Rattle.completeness.proofs.CallEnds.{IsCallOf, AreIndicesEnded}
use Rattle.completeness.proofs.FirstNumbers.{some_typed}
use Rattle.completeness.proofs.Standing.{Taken}
use Rattle.completeness.proofs.HeldWhole.{AreCallsLight, calls_from, call_held, holds_each, all_has}

-- ---- sites

hold_both : (xs ys : List SiteText) (d : ℕ) (s : Span1) → hold_calls xs d s ≡ true → hold_calls ys d s ≡ true → hold_calls (xs ++ ys) d s ≡ true
hold_both [] ys d s h k = k
hold_both (t ∷ xs) ys d s h k = of (holds_calls t.scope d s t.calls) h (λ q. hold_both xs ys d s q k)
  where
    of : (v : Bool) → (if v then hold_calls xs d s else false) ≡ true → (hold_calls xs d s ≡ true → hold_calls (xs ++ ys) d s ≡ true) → (if v then hold_calls (xs ++ ys) d s else false) ≡ true
    of true q rest = rest q
    of false q rest = absurd (cc q)

with_held : (scope : List Binding) (d : ℕ) (s : Span1) (cs : List (List Span1)) (before : List SiteText) → hold_calls before d s ≡ true → holds_calls scope d s cs ≡ true →
    hold_calls (with_site scope cs before) d s ≡ true
with_held scope d s [] before h k = h
with_held scope d s (c ∷ cs) before h k =
    hold_both before (record { scope = scope; calls = c ∷ cs } ∷ []) d s h (ap (λ (b : Bool). if b then true else false) k)

abbrev Ends : Type 0
Ends = Taken _ _ are_within

-- ---- a definition

module _ (a : Algorithm) (u : StoredText) (m : LaidText) (fs : List FormulaText) (formulas : u.formulas ≡ Some fs) where
  abbrev outer : List Binding
  outer = head_scope m.skeleton

  abbrev names : ℕ → List (List ℕ)
  names d = names_with u.variables u.changes d

  -- what is so of a definition and its nest
  pub record IsNearNest (d : ℕ) (f : FormulaText) (w : NestText) : Type 0 where
    pub is : slice_get fs d ≡ Some f
    pub nested : slice_get m.skeleton.nests d ≡ Some w
    pub boxes : AreBoxes (bind_steps (head_scope m.skeleton) w.steps)
    pub order : (r : AroundText) → around a u (head_scope m.skeleton) w f d ≡ Some r → (e : Term) (span : Span1) (ends : Ends) → interval_in a r e ≡ Some span →
        IsSome (type_of (is_among (names d)) (called a) e) → ends_of r.scope span ≡ Some ends → ends.low ≤ℤ ends.high
    pub light : (r : AroundText) → around a u (head_scope m.skeleton) w f d ≡ Some r → AreCallsLight a r (calls_in f)
    pub typed : AllByRecursion (λ c. IsTypedCall (is_among (names d)) (called a) c.name c.at) (calls_in f)

  module _ (x : List ℕ) (region : List Extent) (extents : AllByRecursion IsExtent region) (ended : AllByRecursion IsEnded region) (takes : (t : Ty × ℕ) → called a x ≡ Some t → t.1 ≡ length region)
      (ends : (c : IsCallOf a u m x) → index_count c.call.at ≤ length region → AreIndicesEnded a c.standing region 0 c.call.at) (dim : ℕ) (e : Extent) (at : slice_get region dim ≡ Some e) where
    -- each call of the definition is held
    definition_held : (d : ℕ) (f : FormulaText) (w : NestText) → IsNearNest d f w → (r : AroundText) → around a u outer w f d ≡ Some r → (calls : List (List Span1)) →
        add_calls a r x (calls_in f) [] ≡ Some calls → AllByRecursion (AllByRecursion (SpanOnly (Below (length r.scope)))) calls → holds_calls r.scope dim (whole e) calls ≡ true
    definition_held d f w h r stands calls added only =
        let left : AroundText = left_around u outer w d in
        let z = bound (coordinates_behind a left f [] 0 w.at) (λ cs. Some (record left { coordinates = cs })) r stands in
        let is : record left { coordinates = z.value } ≡ r = same (record left { coordinates = z.value }) r z.comes in
        let left_boxes : AreBoxes left.scope = h.boxes in
        let r_boxes : AreBoxes r.scope = subst (λ (t : AroundText). AreBoxes t.scope) is left_boxes in
        let order = h.order r stands in
        holds_each r.scope dim (whole e) calls (λ cs has. elim (calls_from a r x (calls_in f) [] calls added cs has) [
          | inl old ↦ absurd old
          | inr k ↦
              (let known = is_among left.variables in
              let t = got (λ c. IsTypedCall known (called a) c.name c.at) (calls_in f) k.place k.call h.typed k.there in
              let answer = answer-is (called a k.call.name) (index_count k.call.at) t.1.0 t.1.1 in
              let name : k.call.name ≡ x = name_true k.call.name x k.named in
              let takes_here = takes answer.0 (ap (called a) (sym name) ∙ answer.1) in
              let count : index_count k.call.at ≡ length region = sym answer.2 ∙ takes_here in
              let few : index_count k.call.at ≤ length region = omega (arith, count) in
              let call : IsCallOf a u m x = record {
                number = d;
                formulas = fs;
                formula = f;
                nest = w;
                standing = r;
                defined = formulas;
                is = h.is;
                nested = h.nested;
                stands = stands;
                place = k.place;
                call = k.call;
                there = k.there;
                named = k.named;
              } in
              let forms = all_has (AllByRecursion (SpanOnly (Below (length r.scope)))) calls cs only has in
              call_held a r known r_boxes order region extents ended k.call.at cs (h.light r stands k.place k.call k.there) (ends call few) (some_typed known (called a) k.call.at t.0)
              k.added forms count dim e at)
        ])

    -- what is known of the forms of the site of these calls, where there are some
    site_only : (n : ℕ) (gs : List FormulaText) (ns : List NestText) (t : SiteText) (before out : List SiteText) → add_sites a u outer None x n gs ns before ≡ Some out → AllByRecursion SiteOnly out →
        Has t before → SiteOnly t
    site_only n gs ns t before out h only has = all_has SiteOnly out t only (sites_kept a u outer x n gs ns t before out h has)

    calls_only : (r : AroundText) (calls : List (List Span1)) → ((ss : List Span1) → Has ss calls → SiteOnly (record { scope = r.scope; calls = calls })) →
        AllByRecursion (AllByRecursion (SpanOnly (Below (length r.scope)))) calls
    calls_only r [] h = tt
    calls_only r (c ∷ cs) h = (h c (inl refl)).calls

    -- so all sites hold
    pub sites_held : (n : ℕ) (gs : List FormulaText) (ns : List NestText) (before out : List SiteText) → add_sites a u outer None x n gs ns before ≡ Some out → AllByRecursion SiteOnly out →
        ((j : ℕ) (f : FormulaText) (w : NestText) → slice_get gs j ≡ Some f → slice_get ns j ≡ Some w → IsNearNest (n + j) f w) → hold_calls before dim (whole e) ≡ true →
        hold_calls out dim (whole e) ≡ true
    sites_held n gs [] before out h only near held = ap (λ (o : List SiteText). hold_calls o dim (whole e)) (sym (same before out h)) ∙ held
    sites_held n [] (w ∷ ns) before out h only near held = ap (λ (o : List SiteText). hold_calls o dim (whole e)) (sym (same before out h)) ∙ held
    sites_held n (f ∷ gs) (w ∷ ns) before out h only near held =
        let b = bound (add_site a u outer x n f w before) (add_sites a u outer None x (n + 1) gs ns) out h in
        let r = bound (around a u outer w f n) (λ r. add_calls a r x (calls_in f) [] >>= λ cs. Some (with_site r.scope cs before)) b.value b.is in
        let c = bound (add_calls a r.value x (calls_in f) []) (λ cs. Some (with_site r.value.scope cs before)) b.value r.comes in
        let is = same (with_site r.value.scope c.value before) b.value c.comes in
        let t : SiteText = record { scope = r.value.scope; calls = c.value } in
        let none : n + 0 ≡ n = omega arith in
        let here : IsNearNest n f w = subst (λ (j : ℕ). IsNearNest j f w) none (near 0 f w refl refl) in
        let of_it : (ss : List Span1) → Has ss c.value → SiteOnly t =
        λ ss k. site_only (n + 1) gs ns t b.value out b.comes only (subst (λ (o : List SiteText). Has t o) is (one_site a u outer x r.value.scope c.value before ss k)) in
        let all = definition_held n f w here r.value r.is c.value c.is (calls_only r.value c.value of_it) in
        let more : hold_calls b.value dim (whole e) ≡ true =
        ap (λ (o : List SiteText). hold_calls o dim (whole e)) (sym is) ∙ with_held r.value.scope dim (whole e) c.value before held all in
        sites_held (n + 1) gs ns b.value out b.comes only
        (λ j f' w' at_f at_w. let next : n + suc j ≡ (n + 1) + j = omega arith in subst (λ (i : ℕ). IsNearNest i f' w') next (near (suc j) f' w' at_f at_w)) more
