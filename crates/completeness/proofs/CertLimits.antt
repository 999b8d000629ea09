-- Of the certificate's lines of a plan whose loops are split once, by whatever tails, no more than limits of numbers is told: their forms are within the limits of forms.
use Rattle.std.proofs.Common.{◌≡◌, ℕ, zero, suc, ◌+◌, Bool, true, false, ◌&&◌, List, [], ◌∷◌, ◌++◌, Option, Some, None, refl, sym, ap, ◌∙◌, subst, arith}
use Rattle.std.specs.Prelude.{nat_lt, not, take, slice_get}
use Rattle.std.specs.List.{AllByRecursion}
use Rattle.lin.specs.Forms.{Form, is_within_limits}
use Rattle.lin.specs.declared.span.Span1.{Span1}
use Rattle.lin.proofs.TermLemmas.{all_weaker}
use Rattle.bounds.proofs.ListSound.{all-append}
use Rattle.meaning.specs.Algorithm.{Algorithm}
use Rattle.meaning.specs.Conditions.{IsAlgorithm}
use Rattle.plan.specs.declared.plan.Group.{Group as CodeGroup}
use Rattle.plan.specs.declared.certificate.cert.Own.{Own}
use Rattle.plan.specs.declared.certificate.cert.Need.{Need}
use Rattle.plan.specs.declared.certificate.cert.Window.{Window}
use Rattle.plan.specs.Plan.{Plan}
use Rattle.plan.specs.View.{plan_of}
use Rattle.plan.specs.Certificate.Certificate.{Claim, Certificate, certificate_of}
use Rattle.plan.specs.Certificate.Cells.{own_region}
use Rattle.soundness.specs.Outline.Flaws.{Flaw}
use Rattle.soundness.specs.Outline.Forms.{are_within_limits, spans_are_within_limits, have_ends}
use Rattle.validation.specs.Certificate.Certificate.{is_region_of, own_is_known, need_is_known, claim_is_known, cert_flaws}
use Rattle.validation.specs.Certificate.Certificate.{own_flaws, need_flaws, claim_flaws, window_flaws, flaws_of_regions, flaws_of_claims, flaws_of_certificate}
use Rattle.validation.specs.Certificate.Lines.{line_flaws, each_line}
use Rattle.sched.specs.Schedule.{Schedule}
use Rattle.sched.specs.Legal.{IsLegal}
use Rattle.lower.specs.declared.lowering.Lowered.{Lowered}
use Rattle.sched.specs.Stored.{StoredText}
use Rattle.lower.specs.Stored.{stored_functions, has_large}
use Rattle.regions.specs.Faults.{are_whole}
use Rattle.lower.specs.Faults.{region_fault}
use Rattle.lower.specs.Groups.{AreOwned, HasGroups}
use Rattle.completeness.specs.Laws.{LinesAreKnown}
use Rattle.completeness.specs.Owed.{IsNearSpan, IsWithinSpan}
use Rattle.completeness.specs.Fitting.{IsSplitOnce}
use Rattle.completeness.proofs.Owned.{some_same, own_found}
use Rattle.completeness.proofs.Served.{made_at}
use Rattle.completeness.proofs.NearClaims.{span_within, group_near, claims_near}
use Rattle.completeness.proofs.NeedForms.{needs_good}

abbrev AreLimits : List Flaw → Type 0
AreLimits fs = AllByRecursion (λ (f : Flaw). f.code ≡ 14) fs

-- ---- lines

forms_small : (fs : List Form) → AllByRecursion (λ f. is_within_limits f ≡ true) fs → are_within_limits fs ≡ true
forms_small [] h = refl
forms_small (f ∷ fs) h = (let here = h.0 in let rest = forms_small fs h.1 in λ i. here i && rest i)

pub spans_small : (xs : List Span1) → AllByRecursion IsWithinSpan xs → spans_are_within_limits xs ≡ true
spans_small [] h = refl
spans_small (x ∷ xs) h =
    let low = forms_small x.lower h.0.0 in
    let high = forms_small x.upper h.0.1 in
    let rest = spans_small xs h.1 in
    λ i. (low i && high i) && rest i

-- where what the line names is known, and its forms are within the limits
line_limits : (known small listed : Bool) (line : ℕ) → known ≡ true → small ≡ true → AreLimits (line_flaws known small listed line)
line_limits true true true line e s = tt
line_limits true true false line e s = (refl, tt)
line_limits true false listed line e s = absurd (cc s)
line_limits false small listed line e s = absurd (cc e)

each_limits : {A : Type 0} (f : ℕ → A → List Flaw) (n : ℕ) (xs : List A) → ((i : ℕ) (x : A) → slice_get xs i ≡ Some x → AreLimits (f (n + i) x)) → AreLimits (each_line f n xs)
each_limits f n [] h = tt
each_limits f n (x ∷ xs) h =
    all-append (λ (y : Flaw). y.code ≡ 14) (f n x) (each_line f (n + 1) xs) (let none : n + 0 ≡ n = omega arith in subst (λ (i : ℕ). AreLimits (f i x)) none (h 0 x refl))
    (each_limits f (n + 1) xs (λ i y at. let next : n + suc i ≡ (n + 1) + i = omega arith in subst (λ (j : ℕ). AreLimits (f j y)) next (h (suc i) y at)))

module _ (a : Algorithm) (p : Plan) (c : Certificate) (k : LinesAreKnown a p c) (own : (i : ℕ) (o : Own) → slice_get c.own i ≡ Some o → AllByRecursion IsWithinSpan o.region)
    (needs : (i : ℕ) (w : Need) → slice_get c.needs i ≡ Some w → AllByRecursion IsWithinSpan w.region)
    (claimed : (i : ℕ) (m : Claim) → slice_get c.claims i ≡ Some m → AllByRecursion IsWithinSpan m.region) where
  abbrev IsLimit : Flaw → Type 0
  IsLimit f = f.code ≡ 14

  own_known : (i : ℕ) (o : Own) → slice_get c.own i ≡ Some o → own_is_known p.groups (take i c.own) o ≡ true
  own_known i o at = ap (λ (b : Bool). not b && is_region_of (slice_get p.groups o.group) o.region) (k.own_lines.once i o at) ∙ k.own i o at

  regions : AreLimits (flaws_of_regions p c)
  regions =
      all-append IsLimit (cert_flaws p c) (each_line (own_flaws p c) 0 c.own ++ each_line (need_flaws p c) 0 c.needs) (subst AreLimits (sym k.own_lines.each) tt)
      (all-append IsLimit (each_line (own_flaws p c) 0 c.own) (each_line (need_flaws p c) 0 c.needs)
      (each_limits (own_flaws p c) 0 c.own (λ i o at. own_limits (0 + i) i o (omega arith) at))
      (each_limits (need_flaws p c) 0 c.needs (λ i n at.
      line_limits (need_is_known p.groups n) (spans_are_within_limits n.region) (have_ends n.region) _ (k.needs i n at) (spans_small n.region (needs i n at)))))
    where
      own_limits : (j i : ℕ) (o : Own) → i ≡ j → slice_get c.own i ≡ Some o → AreLimits (own_flaws p c j o)
      own_limits j i o e at =
          subst (λ (m : ℕ). AreLimits (own_flaws p c m o)) e
          (line_limits (own_is_known p.groups (take i c.own) o) (spans_are_within_limits o.region) (have_ends o.region) _ (own_known i o at) (spans_small o.region (own i o at)))

  claims : AreLimits (flaws_of_claims a p c)
  claims =
      all-append IsLimit (each_line (claim_flaws a p c) 0 c.claims) (each_line (window_flaws p c) 0 c.windows)
      (each_limits (claim_flaws a p c) 0 c.claims (λ i m at.
      line_limits (claim_is_known a.functions p.groups m) (spans_are_within_limits m.region) (have_ends m.region && nat_lt (0 + i) 4096) _ (k.claims i m at)
      (spans_small m.region (claimed i m at))))
      (subst (λ (ws : List Window). AreLimits (each_line (window_flaws p c) 0 ws)) (sym k.windows) tt)

  pub all_limits : AreLimits (flaws_of_certificate a p c)
  all_limits = all-append IsLimit (flaws_of_regions p c) (flaws_of_claims a p c) regions claims

-- ---- plans whose loops are split once

-- each own region is of a group
pub own_group : (ps : List CodeGroup) (os : List Own) (m : ℕ) → AreOwned m ps os → (i : ℕ) (o : Own) → slice_get os i ≡ Some o → (q : CodeGroup) × (slice_get ps i ≡ Some q)
own_group ps [] m h i o at = absurd (cc at)
own_group [] (w ∷ os) m h i o at = absurd h
own_group (p ∷ ps) (w ∷ os) m h zero o at = (p, refl)
own_group (p ∷ ps) (w ∷ os) m h (suc i) o at = own_group ps os (m + 1) h.1 i o at

pub at_each : {A : Type 0} (P : A → Type 0) (xs : List A) (i : ℕ) (x : A) → AllByRecursion P xs → slice_get xs i ≡ Some x → P x
at_each P [] i x h e = absurd (cc e)
at_each P (y ∷ xs) zero x h e = subst P (some_same y x e) h.0
at_each P (y ∷ xs) (suc i) x h e = at_each P xs i x h.1 e

module _ (a : Algorithm) (sch : Schedule) (l : Lowered) (well : IsAlgorithm a) (legal : IsLegal a sch) (small : has_large (stored_functions a sch) ≡ false)
    (kept : region_fault a (stored_functions a sch) ≡ None) (all : are_whole (stored_functions a sch) ≡ true) (groups : HasGroups a (stored_functions a sch) l)
    (once : (n : ℕ) (u : StoredText) → slice_get (stored_functions a sch) n ≡ Some u → IsSplitOnce u) where
  pub own_within : (i : ℕ) (o : Own) → slice_get l.certificate.own.items i ≡ Some o → AllByRecursion IsWithinSpan o.region
  own_within i o at =
      let x = own_group l.plan.groups.items l.certificate.own.items 0 groups.owned i o at in
      let me = made_at a sch l well legal small kept all groups i x.0 x.1 in
      let own = (group_near a sch l well legal small kept all groups once i x.0 x.1).1 in
      let none : 0 + i ≡ i = omega arith in
      let region : me.own.region ≡ o.region =
      some_same me.own.region o.region (sym me.told ∙ sym (ap (λ (j : ℕ). own_told j) none) ∙ own_found l.plan.groups.items l.certificate.own.items 0 groups.owned i o at) in
      let here : AllByRecursion IsNearSpan o.region = subst (AllByRecursion IsNearSpan) (sym me.owned ∙ region) own in
      all_weaker IsNearSpan IsWithinSpan span_within o.region here
    where
      own_told : ℕ → Option (List Span1)
      own_told j = own_region l.certificate.own.items j

  pub certificate_limits : LinesAreKnown a (plan_of l.plan) (certificate_of l.certificate) → AreLimits (flaws_of_certificate a (plan_of l.plan) (certificate_of l.certificate))
  certificate_limits k =
      all_limits a (plan_of l.plan) (certificate_of l.certificate) k (λ i o at. own_within i o at)
      (λ i w at. at_each (λ n. AllByRecursion IsWithinSpan n.region) l.certificate.needs.items i w (needs_good a sch l well legal small kept all groups) at)
      (λ i m at. (claims_near a sch l well legal small kept all groups once i m at).0)
