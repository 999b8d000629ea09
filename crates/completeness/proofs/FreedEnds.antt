-- The ends of a span that is freed of all symbols are those of one of its forms; so the span is shown to lie in the numbers between ends that hold these, where loops run over numbers.
use Rattle.std.proofs.Common.{◌≡◌, ℕ, zero, suc, ◌+◌, ◌<◌, ◌≤◌, ◌^◌, Bool, true, false, ◌&&◌, ◌||◌, List, [], ◌∷◌, length, map, Option, Some, None, refl, sym, ap, ◌∙◌, inl, inr, arith}
use Rattle.std.specs.Prelude.{ℤ, pos, negsuc, ◌==◌, ◌+ℤ◌, ◌-ℤ◌, ◌*ℤ◌, ◌≤ℤ◌, int_le, option_and_then, if◌then◌else◌}
use Rattle.std.specs.List.{AllByRecursion, list_any}
use Rattle.std.specs.Int.RustNames.{unsigned_abs}
use Rattle.std.proofs.lemmas.Int.{ints}
use Rattle.std.proofs.lemmas.Bool.Decides.{nat_tests}
use Rattle.lin.specs.Forms.{Form, number}
use Rattle.lin.specs.declared.form.Multiple.{Multiple}
use Rattle.lin.specs.Regions.{span_inside}
use Rattle.lin.specs.Search.{at_most}
use Rattle.lin.specs.declared.scope.Binding.{Binding}
use Rattle.lin.specs.declared.span.Span1.{Span1}
use Rattle.bounds.specs.Lists.{all_combined}
use Rattle.bounds.specs.Spans.{span_of, multiples}
use Rattle.bounds.specs.Projection.Elimination.{is_inner, eliminated}
use Rattle.bounds.specs.Projection.Projection.{negated, form_bounds, side_bounds, projected_span}
use Rattle.bounds.proofs.ListSound.{AllIn, all_in_some, kept-all, all_combined-all}
use Rattle.sched.specs.declared.numbers.Extent.{Extent}
use Rattle.regions.specs.Regions.{number_of, greater, less, greatest_number, least_number, ends_between, ends_of, are_within}
use Rattle.sched.specs.Regions.{symbols_from}
use Rattle.sched.specs.Bounded.{whole}
use Rattle.blocks.proofs.Laying.{bound, same}
use Rattle.completeness.proofs.Standing.{Taken}
use Rattle.completeness.proofs.TakenSites.{Has}
use Rattle.completeness.proofs.Boxes.{AreBoxes, IsLight, IsLightSpan, has_all, one_of_all, fold_all, shown_above, shown_under}

abbrev Ends : Type 0
Ends = Taken _ _ are_within

-- ---- lists

any_by : {A : Type 0} (f : A → Bool) (xs : List A) (x : A) → Has x xs → f x ≡ true → list_any f xs ≡ true
any_by f [] x k e = absurd k
any_by f (y ∷ xs) x (inl is) e = ap (λ (b : Bool). b || list_any f xs) (ap f (sym is) ∙ e)
any_by f (y ∷ xs) x (inr k) e = or_second (f y) (list_any f xs) (any_by f xs x k e)
  where
    or_second : (a b : Bool) → b ≡ true → (a || b) ≡ true
    or_second true b h = refl
    or_second false b h = h

-- ---- numbers among forms

number_constant : (f : Form) (c : ℤ) → number_of f ≡ Some c → f.constant ≡ c
number_constant f c e = of f.terms e
  where
    of : (ts : List Multiple) → (elim ts [ [] ↦ Some f.constant | t ∷ us ↦ None ]) ≡ Some c → f.constant ≡ c
    of [] q = same f.constant c q
    of (t ∷ us) q = absurd (cc q)

greatest_has : (fs : List Form) (c : ℤ) → greatest_number fs ≡ Some c → (g : Form) × Has g fs × (g.constant ≡ c)
greatest_has [] c e = absurd (cc e)
greatest_has (f ∷ fs) c e = of (number_of f) refl (greatest_number fs) refl e (λ d q. greatest_has fs d q)
  where
    of : (o : Option ℤ) → number_of f ≡ o → (p : Option ℤ) → greatest_number fs ≡ p → greater o p ≡ Some c → ((d : ℤ) → greatest_number fs ≡ Some d → (g : Form) × Has g fs × (g.constant ≡ d)) →
        (g : Form) × Has g (f ∷ fs) × (g.constant ≡ c)
    of None q p k e rest = (let r = rest c (k ∙ e) in (r.0, inr r.1, r.2))
    of (Some a) q None k e rest = (f, inl refl, number_constant f c (q ∙ e))
    of (Some a) q (Some b) k e rest = by (int_le b a) e
      where
        by : (t : Bool) → (if t then Some a else Some b) ≡ Some c → (g : Form) × Has g (f ∷ fs) × (g.constant ≡ c)
        by true h = (f, inl refl, number_constant f c (q ∙ h))
        by false h = (let r = rest c (k ∙ h) in (r.0, inr r.1, r.2))

least_has : (fs : List Form) (c : ℤ) → least_number fs ≡ Some c → (g : Form) × Has g fs × (g.constant ≡ c)
least_has [] c e = absurd (cc e)
least_has (f ∷ fs) c e = of (number_of f) refl (least_number fs) refl e (λ d q. least_has fs d q)
  where
    of : (o : Option ℤ) → number_of f ≡ o → (p : Option ℤ) → least_number fs ≡ p → less o p ≡ Some c → ((d : ℤ) → least_number fs ≡ Some d → (g : Form) × Has g fs × (g.constant ≡ d)) →
        (g : Form) × Has g (f ∷ fs) × (g.constant ≡ c)
    of None q p k e rest = (let r = rest c (k ∙ e) in (r.0, inr r.1, r.2))
    of (Some a) q None k e rest = (f, inl refl, number_constant f c (q ∙ e))
    of (Some a) q (Some b) k e rest = by (int_le a b) e
      where
        by : (t : Bool) → (if t then Some a else Some b) ≡ Some c → (g : Form) × Has g (f ∷ fs) × (g.constant ≡ c)
        by true h = (f, inl refl, number_constant f c (q ∙ h))
        by false h = (let r = rest c (k ∙ h) in (r.0, inr r.1, r.2))

-- ---- the forms that ends come of

module _ (scope : List Binding) (inner : List ℕ) where
  -- of an upper form
  abbrev IsFreed : List Form → Form → Type 0
  IsFreed fs g = (m : Form) × (us : List Form) × Has m fs × (eliminated scope inner m ≡ Some us) × Has g us

  -- of a lower one, whose negation is freed
  abbrev IsNegated : List Form → Form → Type 0
  IsNegated fs g =
      (m : Form) × (nf : Form) × (us : List Form) × (u : Form) × Has m fs × (negated m ≡ Some nf) × (eliminated scope inner nf ≡ Some us) × Has u us
      × (g.constant ≡ pos 0 +ℤ negsuc 0 *ℤ u.constant)

  uppers_freed : (fs : List Form) → AllIn (IsFreed fs) (side_bounds scope inner true fs)
  uppers_freed fs =
      fold_all scope (IsFreed fs) (Some []) (map (form_bounds scope inner true) fs) (all_in_some (IsFreed fs) [] tt) (each fs (λ m h. h))
    where
      each : (ms : List Form) → ((m : Form) → Has m ms → Has m fs) → AllByRecursion (λ o. AllIn (IsFreed fs) o) (map (form_bounds scope inner true) ms)
      each [] w = tt
      each (m ∷ ms) w = ((λ us e. has_all (IsFreed fs) us (λ g k. (m, us, w m (inl refl), e, k))), each ms (λ x k. w x (inr k)))

  lowers_freed : (fs : List Form) → AllIn (IsNegated fs) (side_bounds scope inner false fs)
  lowers_freed fs =
      fold_all scope (IsNegated fs) (Some []) (map (form_bounds scope inner false) fs) (all_in_some (IsNegated fs) [] tt) (each fs (λ m h. h))
    where
      freed_by : (m nf : Form) (us : List Form) → Has m fs → negated m ≡ Some nf → eliminated scope inner nf ≡ Some us → AllIn (IsNegated fs) (multiples (negsuc 0) us)
      freed_by m nf us has n e =
          kept-all (IsNegated fs) (all_combined (number (pos 0) ∷ []) (negsuc 0) us)
          (all_combined-all (λ a. a ≡ number (pos 0)) (λ u. Has u us) (IsNegated fs) (negsuc 0)
          (λ a u is k. (m, nf, us, u, has, n, e, k, ap (λ (f : Form). f.constant +ℤ negsuc 0 *ℤ u.constant) is)) (number (pos 0) ∷ []) us (refl, tt) (has_all (λ u. Has u us) us (λ u k. k)))

      one : (m : Form) → Has m fs → (o : Option Form) → negated m ≡ o →
          AllIn (IsNegated fs) (option_and_then (λ bounds. multiples (negsuc 0) bounds) (option_and_then (λ n. eliminated scope inner n) o))
      one m has None q = λ xs e. absurd (cc e)
      one m has (Some nf) q = two (eliminated scope inner nf) refl
        where
          two : (p : Option (List Form)) → eliminated scope inner nf ≡ p → AllIn (IsNegated fs) (option_and_then (λ bounds. multiples (negsuc 0) bounds) p)
          two None e = λ xs k. absurd (cc k)
          two (Some us) e = freed_by m nf us has q e

      each : (ms : List Form) → ((m : Form) → Has m ms → Has m fs) → AllByRecursion (λ o. AllIn (IsNegated fs) o) (map (form_bounds scope inner false) ms)
      each [] w = tt
      each (m ∷ ms) w = (one m (w m (inl refl)) (negated m) refl, each ms (λ x k. w x (inr k)))

span_parts : (a b : Option (List Form)) (p : Span1) → span_of a b ≡ Some p → (a ≡ Some p.lower) × (b ≡ Some p.upper)
span_parts None b p e = absurd (cc e)
span_parts (Some l) None p e = absurd (cc e)
span_parts (Some l) (Some u) p e = (let is = same (record { lower = l; upper = u }) p e in (ap (λ (x : Span1). Some x.lower) is, ap (λ (x : Span1). Some x.upper) is))

ends_parts : (o p : Option ℤ) (e : Ends) → ends_between o p ≡ Some e → (o ≡ Some e.low) × (p ≡ Some e.high)
ends_parts None p e h = absurd (cc h)
ends_parts (Some a) None e h = absurd (cc h)
ends_parts (Some a) (Some b) e h = (let is = same (record { low = a; high = b }) e h in (ap (λ (q : Ends). Some q.low) is, ap (λ (q : Ends). Some q.high) is))

-- ---- a span in the numbers between ends

all_inner : (s n m : ℕ) → s ≤ m → m < s + n → is_inner (symbols_from s n) m ≡ true
all_inner s zero m low less = absurd (omega (arith, low, less))
all_inner s (suc n) m low less = of (s == m) refl (λ q. all_inner (s + 1) n m (omega (arith, low, q)) (omega (arith, less)))
  where
    of : (b : Bool) → (s == m) ≡ b → (s < m → is_inner (symbols_from (s + 1) n) m ≡ true) → (b || is_inner (symbols_from (s + 1) n) m) ≡ true
    of true e rest = refl
    of false e rest = rest (grind (arith, nat_tests, e, low))

module _ (scope : List Binding) (boxes : AreBoxes scope) where
  abbrev symbols : List ℕ
  symbols = symbols_from 0 (length scope)

  pub inside_all : (m : ℕ) → m < length scope → is_inner symbols m ≡ true
  inside_all m less = all_inner 0 (length scope) m (omega arith) (omega (arith, less))

  -- each symbol of the form is one of the scope's
  abbrev pub AreOver : List Multiple → Type 0
  AreOver ts = AllByRecursion (λ t. is_inner symbols t.symbol ≡ true) ts

  pub whole_inside : (s : Span1) (e : Ends) (x : Extent) → ends_of scope s ≡ Some e → AllByRecursion (λ (f : Form). AreOver f.terms) s.lower → AllByRecursion (λ (f : Form). AreOver f.terms) s.upper →
      ((m nf : Form) → negated m ≡ Some nf → AreOver m.terms → AreOver nf.terms) → IsLightSpan scope s → x.low ≤ℤ e.low → e.high ≤ℤ (x.low +ℤ pos x.count -ℤ pos 1) →
      unsigned_abs x.low ≤ 2 ^ 32 → unsigned_abs (x.low +ℤ pos x.count -ℤ pos 1) ≤ 2 ^ 32 → unsigned_abs e.low ≤ 2 ^ 31 → unsigned_abs e.high ≤ 2 ^ 31 → span_inside scope s (whole x) ≡ true
  whole_inside s e x found lowers uppers negations light low high low_near high_near from_near to_near =
      let b = bound (projected_span scope symbols s) (λ p. ends_between (greatest_number p.lower) (least_number p.upper)) e found in
      let p = b.value in
      let ends = ends_parts (greatest_number p.lower) (least_number p.upper) e b.comes in
      let sides = span_parts (side_bounds scope symbols false s.lower) (side_bounds scope symbols true s.upper) p b.is in
      let g = greatest_has p.lower e.low ends.0 in
      let h = least_has p.upper e.high ends.1 in
      let n = one_of_all (IsNegated scope symbols s.lower) p.lower g.0 (lowers_freed scope symbols s.lower p.lower sides.0) g.1 in
      let f = one_of_all (IsFreed scope symbols s.upper) p.upper h.0 (uppers_freed scope symbols s.upper p.upper sides.1) h.1 in
      let u = n.3 in
      let negation : e.low ≡ pos 0 +ℤ negsuc 0 *ℤ u.constant = sym g.2 ∙ n.8 in
      let over_low = one_of_all (λ (f : Form). AreOver f.terms) s.lower n.0 lowers n.4 in
      let over_high = one_of_all (λ (f : Form). AreOver f.terms) s.upper f.0 uppers f.2 in
      let above : at_most scope (number x.low) n.0 ≡ true =
      shown_above scope symbols boxes inside_all n.0 n.1 n.2 u x.low n.5 n.6 n.7 (negations n.0 n.1 n.5 over_low) (one_of_all (IsLight scope) s.lower n.0 light.0 n.4)
      (omega (arith, ints, negation, low)) low_near (omega (arith, ints, negation, from_near)) in
      let is_high = h.2 in
      let under : at_most scope f.0 (number (x.low +ℤ pos x.count -ℤ pos 1)) ≡ true =
      shown_under scope symbols boxes inside_all f.0 f.1 h.0 (x.low +ℤ pos x.count -ℤ pos 1) f.3 f.4 over_high (one_of_all (IsLight scope) s.upper f.0 light.1 f.2) (omega (
        arith,
        ints,
        is_high,
        high,
      )) high_near (omega (arith, ints, is_high, to_near)) in
      let one = any_by (λ m. at_most scope (number x.low) m) s.lower n.0 n.4 above in
      let two = any_by (λ m. at_most scope m (number (x.low +ℤ pos x.count -ℤ pos 1))) s.upper f.0 f.2 under in
      λ i. (one i && true) && (two i && true)
