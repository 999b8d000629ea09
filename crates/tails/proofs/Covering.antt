-- A region that is shown to lie in what is reached is visited.
use Rattle.std.proofs.Common.{◌≡◌, ℕ, Bool, true, false, List, [], ◌∷◌, map, Option, Some, None, refl, sym, ap, ◌∙◌, subst, inl, inr, arith}
use Rattle.std.specs.Prelude.{ℤ, ◌+ℤ◌, ◌*ℤ◌, ◌≤ℤ◌, ◌⊎◌, if◌then◌else◌}
use Rattle.std.specs.List.{AllByRecursion, list_any, list_all}
use Rattle.std.proofs.lemmas.Int.{ints}
use Rattle.lin.specs.Forms.{Form, factor_of}
use Rattle.lin.specs.Search.{is_empty}
use Rattle.lin.specs.declared.span.Span1.{Span1}
use Rattle.plan.specs.declared.stmt.Pick.{Pick}
use Rattle.plan.specs.declared.stmt.Pick.TheVariants.{Min, Max}
use Rattle.plan.specs.Symbols.{Symbols, bind, form_value}
use Rattle.soundness.specs.Claims.{In}
use Rattle.soundness.specs.Obligations.{Binder, Ranged, Picked, Passed, Respects, Lies, LieIn, Rules, picked}
use Rattle.soundness.specs.Shown.{is_within, are_within}
use Rattle.soundness.proofs.Forms.{rec_weaker}
use Rattle.soundness.proofs.Refines.{and_parts}
use Rattle.soundness.proofs.Sound.{or_cases}
use Rattle.tails.specs.Steps.{binder, binds}
use Rattle.tails.specs.Moves.{expanded, reached}
use Rattle.tails.specs.Maps.{visited, is_scoped, or_these, spelled_by, spelled, spelled_out, lies_within}
use Rattle.tails.specs.Laws.{CoversIsVisited}
use Rattle.tails.proofs.Chosen.{respects_head, respects_tail}
use Rattle.tails.proofs.Values.{rest_of, split_value, bound_value}
use Rattle.tails.proofs.Lets.{Closes, picked_holds, expanded_back}
use Rattle.tails.proofs.Reaching.{reached_is_visited}
use Rattle.tails.proofs.Walk.{respects_forward, any_reverse, walk}

-- ---- lets around the steps

module _ (s : Symbols) (i : ℕ) (m : ℤ) (is : s.value i ≡ m) (P : ℤ → Type 0) (ls : List Form) (closes : Closes P s ls m) where
  bound_same : (f : Form) → form_value f (bind s i m true) ≡ form_value f s
  bound_same f = bound_value f i s m true ∙ ap (λ z. rest_of f i s +ℤ factor_of f.terms i *ℤ z) (sym is) ∙ sym (split_value f i s)

  spelled_back : (fs : List Form) → AllByRecursion (λ f. P (form_value f s)) (or_these fs (expanded false (λ a b. false) i ls fs)) → AllByRecursion (λ f. P (form_value f s)) fs
  spelled_back fs h = of (expanded false (λ a b. false) i ls fs) refl h
    where
      of : (o : Option (List Form)) → expanded false (λ a b. false) i ls fs ≡ o → AllByRecursion (λ f. P (form_value f s)) (or_these fs o) → AllByRecursion (λ f. P (form_value f s)) fs
      of None e k = k
      of (Some gs) e k =
          rec_weaker (λ f. P (form_value f (bind s i m true))) (λ f. P (form_value f s)) (λ f a. subst P (bound_same f) a) fs
          (expanded_back false (λ a b. false) i P s m ls closes fs gs e k)

by_pick : (s : Symbols) (i : ℕ) (pick : Pick) (ls : List Form) → s.value i ≡ picked pick ls s → is_empty ls ≡ false → (y : Span1) (q : ℤ) → Lies s (spelled_by i pick ls y) q → Lies s y q
by_pick s i Min ls is some y q lie = (
  lie.0,
  spelled_back s i (picked Min ls s) is (λ v. q ≤ℤ v) ls (λ r c sign h. picked_holds (λ v. q ≤ℤ (r +ℤ c *ℤ v)) s Min ls some h) y.upper lie.1,
)
by_pick s i Max ls is some y q lie = (
  spelled_back s i (picked Max ls s) is (λ v. v ≤ℤ q) ls (λ r c sign h. picked_holds (λ v. (r +ℤ c *ℤ v) ≤ℤ q) s Max ls some h) y.lower lie.0,
  lie.1,
)

one_back : (s : Symbols) (b : Binder) → Respects (b ∷ []) s → (y : Span1) (q : ℤ) → Lies s (spelled b y) q → Lies s y q
one_back s (Ranged i x) r y q lie = lie
one_back s (Passed low high) r y q lie = lie
one_back s (Picked i pick ls) r y q lie = of (is_empty ls) refl lie
  where
    of : (v : Bool) → is_empty ls ≡ v → Lies s (if v then y else spelled_by i pick ls y) q → Lies s y q
    of true e k = k
    of false e k = by_pick s i pick ls r.0 e y q k

all_back : (s : Symbols) (bs : List Binder) → Respects bs s → (y : Span1) (q : ℤ) → Lies s (spelled_out bs y) q → Lies s y q
all_back s [] r y q lie = lie
all_back s (b ∷ bs) r y q lie = one_back s b (respects_head b bs s r) y q (all_back s bs (respects_tail b bs s r) (spelled b y) q lie)

spans_back : (s : Symbols) (bs : List Binder) → Respects bs s → (ys : List Span1) (p : List ℤ) → LieIn s (map (spelled_out bs) ys) p → LieIn s ys p
spans_back s bs r [] [] lie = tt
spans_back s bs r [] (q ∷ qs) lie = absurd lie
spans_back s bs r (y ∷ ys) [] lie = absurd lie
spans_back s bs r (y ∷ ys) (q ∷ qs) lie = (all_back s bs r y q lie.0, spans_back s bs r ys qs lie.1)

-- ---- a region in spans

module _ (rules : Rules) (bs : List Binder) (s : Symbols) (ordered : (a b : Form) → rules.at_most bs a b ≡ true → form_value a s ≤ℤ form_value b s) where
  lower_from : (m : Form) (z : ℤ) (ls : List Form) → list_any (λ l. rules.at_most bs m l) ls ≡ true → AllByRecursion (λ l. form_value l s ≤ℤ z) ls → form_value m s ≤ℤ z
  lower_from m z [] h a = absurd (cc h)
  lower_from m z (l ∷ ls) h a = of (or_cases (rules.at_most bs m l) (list_any (λ l. rules.at_most bs m l) ls) h) (λ k. lower_from m z ls k a.1)
    where
      of : (rules.at_most bs m l ≡ true) ⊎ (list_any (λ l. rules.at_most bs m l) ls ≡ true) → (list_any (λ l. rules.at_most bs m l) ls ≡ true → form_value m s ≤ℤ z) → form_value m s ≤ℤ z
      of (inl k) rest = let g = ordered m l k in let here = a.0 in omega (arith, ints, g, here)
      of (inr k) rest = rest k

  upper_from : (m : Form) (z : ℤ) (us : List Form) → list_any (λ u. rules.at_most bs u m) us ≡ true → AllByRecursion (λ u. z ≤ℤ form_value u s) us → z ≤ℤ form_value m s
  upper_from m z [] h a = absurd (cc h)
  upper_from m z (u ∷ us) h a = of (or_cases (rules.at_most bs u m) (list_any (λ u. rules.at_most bs u m) us) h) (λ k. upper_from m z us k a.1)
    where
      of : (rules.at_most bs u m ≡ true) ⊎ (list_any (λ u. rules.at_most bs u m) us ≡ true) → (list_any (λ u. rules.at_most bs u m) us ≡ true → z ≤ℤ form_value m s) → z ≤ℤ form_value m s
      of (inl k) rest = let g = ordered u m k in let here = a.0 in omega (arith, ints, g, here)
      of (inr k) rest = rest k

  lowers_from : (x : Span1) (z : ℤ) (ms : List Form) → list_all (λ m. list_any (λ l. rules.at_most bs m l) x.lower) ms ≡ true → Lies s x z → AllByRecursion (λ m. form_value m s ≤ℤ z) ms
  lowers_from x z [] h l = tt
  lowers_from x z (m ∷ ms) h l =
      let k = and_parts (list_any (λ l. rules.at_most bs m l) x.lower) (list_all (λ m. list_any (λ l. rules.at_most bs m l) x.lower) ms) h in
      (lower_from m z x.lower k.0 l.0, lowers_from x z ms k.1 l)

  uppers_from : (x : Span1) (z : ℤ) (ms : List Form) → list_all (λ m. list_any (λ u. rules.at_most bs u m) x.upper) ms ≡ true → Lies s x z → AllByRecursion (λ m. z ≤ℤ form_value m s) ms
  uppers_from x z [] h l = tt
  uppers_from x z (m ∷ ms) h l =
      let k = and_parts (list_any (λ u. rules.at_most bs u m) x.upper) (list_all (λ m. list_any (λ u. rules.at_most bs u m) x.upper) ms) h in
      (upper_from m z x.upper k.0 l.1, uppers_from x z ms k.1 l)

  pub all_within : (xs ys : List Span1) → are_within rules bs xs ys ≡ true → (p : List ℤ) → LieIn s xs p → LieIn s ys p
  all_within [] [] h p l = l
  all_within [] (y ∷ ys) h p l = absurd (cc h)
  all_within (x ∷ xs) [] h p l = absurd (cc h)
  all_within (x ∷ xs) (y ∷ ys) h [] l = absurd l
  all_within (x ∷ xs) (y ∷ ys) h (z ∷ zs) l =
      let k = and_parts (is_within rules bs x y) (are_within rules bs xs ys) h in
      let j = and_parts (list_all (λ m. list_any (λ l. rules.at_most bs m l) x.lower) y.lower) (list_all (λ m. list_any (λ u. rules.at_most bs u m) x.upper) y.upper) k.0 in
      ((lowers_from x z y.lower j.0 l.0, uppers_from x z y.upper j.1 l.0), all_within xs ys k.1 zs l.1)

pub covers_is_visited : CoversIsVisited
covers_is_visited rules bs steps fs region s p ordered r h lie = of (reached (rules.at_most bs) steps fs) refl both.1
  where
    both : (is_scoped (map binder steps) ≡ true) × (lies_within rules bs region (reached (rules.at_most bs) steps fs) ≡ true)
    both = and_parts (is_scoped (map binder steps)) (lies_within rules bs region (reached (rules.at_most bs) steps fs)) h

    of : (o : Option (List Span1)) → reached (rules.at_most bs) steps fs ≡ o → lies_within rules bs region o ≡ true → In p (visited steps fs s)
    of None e k = absurd (cc k)
    of (Some spans) e k =
        let inside = spans_back s bs r spans p (all_within rules bs s ordered region (map (spelled_out bs) spans) k p lie) in
        let met = reached_is_visited (rules.at_most bs) steps fs spans s p ordered e inside in
        subst (λ p. In p (visited steps fs s)) met.2
        (walk steps fs s met.0 both.0 (respects_forward (map binder steps) met.0 met.1) (λ i k. met.3 i (any_reverse (binds i) (map binder steps) k)))
