-- Between which numbers the values of forms lie.
use Rattle.std.proofs.Common.{◌≡◌, ℕ, suc, ◌+◌, ◌-◌, ◌%◌, ◌<◌, ◌≤◌, drop, Bool, true, false, ◌&&◌, List, [], ◌∷◌, ◌++◌, length, take, map, fold, get_or, refl, sym, ap, ◌∙◌, subst}
use Rattle.std.proofs.Common.{arith, ℤ, ◌+ℤ◌, ◌*ℤ◌, w64, SFits, to_z, of_z}
use Rattle.std.specs.Int.{int_max, int_min, int_wrap}
use Rattle.std.specs.List.{list_all}
use Rattle.std.proofs.lemmas.Bool.Decides.{Decides-int_eq}
use Rattle.std.proofs.lemmas.Int.{ints, int_max_is, int_min_is}
use Rattle.std.proofs.lemmas.List.{take_more, map-append}
use Rattle.std.proofs.lemmas.List.Sums.{fold_push}
use Rattle.lin.specs.Forms.{Form, sum_of}
use Rattle.lin.specs.declared.form.Multiple.{Multiple}
use Rattle.plan.specs.Symbols.{Symbols, form_value, largest, smallest}
use Rattle.interpreter.specs.Narrow.{FormIsNarrow, FormsAreNarrow}
use Rattle.interpreter.proofs.Summing.{wrapped_sum, number_fits, rest_of}
use Rattle.report.specs.declared.known.Binding.{Binding}
use Rattle.report.specs.declared.ranges.Range.{Range}
use Rattle.report.specs.Known.{known_of, Allows, AllowsAll, IsSettled, AllSettled}
use Rattle.report.specs.Ranges.{has_one, lows, Holds, IsOne}

-- ---- symbols that can have but one value

and_both : (a b : Bool) → (a && b) ≡ true → (a ≡ true) × (b ≡ true)
and_both true b h = (refl, h)
and_both false b h = absurd (cc)

value_settled : (b : Binding) (z : ℤ) (f : Bool) → has_one b ≡ true → Allows b z f → z ≡ b.low
value_settled b z f h a = let e : b.low ≡ b.high = (Decides-int_eq b.low b.high).0 h in omega (arith, ints, a.low, a.high)

sum_settled : (known : List Binding) (s : Symbols) (ts : List Multiple) → AllowsAll known s → list_all (λ t. has_one (known_of known t.symbol)) ts ≡ true → sum_of ts s.value ≡ sum_of ts (lows known)
sum_settled known s [] all h = refl
sum_settled known s (t ∷ ts) all h =
    let both = and_both (has_one (known_of known t.symbol)) (list_all (λ u. has_one (known_of known u.symbol)) ts) h in
    let here : s.value t.symbol ≡ lows known t.symbol = value_settled (known_of known t.symbol) (s.value t.symbol) (s.first t.symbol) both.0 (all t.symbol) in
    let rest : sum_of ts s.value ≡ sum_of ts (lows known) = sum_settled known s ts all both.1 in
    (λ j. t.factor *ℤ here j +ℤ rest j)

pub settled_value : (known : List Binding) (s : Symbols) (l : Form) (ts : List Multiple) (a r : ℤ) → AllowsAll known s → FormIsNarrow s l → ts ≡ l.terms → a ≡ l.constant → SFits w64 a → SFits w64 r
    → r ≡ int_wrap w64 (sum_of ts (lows known)) → list_all (λ t. has_one (known_of known t.symbol)) l.terms ≡ true
    → to_z w64 ((of_z w64 a + of_z w64 r) % 18446744073709551616) ≡ form_value l s
settled_value known s l ts a r all narrow terms constant fa fr e settled =
    let same : sum_of ts (lows known) ≡ sum_of l.terms s.value = ap (λ (us : List Multiple). sum_of us (lows known)) terms ∙ sym (sum_settled known s l.terms all settled) in
    let whole : SFits w64 (a +ℤ sum_of l.terms s.value) = subst (λ (z : ℤ). SFits w64 (z +ℤ sum_of l.terms s.value)) (sym constant) (number_fits _ narrow.value) in
    wrapped_sum a r (sum_of l.terms s.value) fa fr (e ∙ ap (int_wrap w64) same) whole
    ∙ ap (λ (z : ℤ). z +ℤ sum_of l.terms s.value) constant

-- ---- the settled

settled_one : (b : Binding) → IsSettled b → has_one b ≡ true
settled_one b h = (Decides-int_eq b.low b.high).1 h.value

pub all_have_one : (known : List Binding) (ts : List Multiple) → AllSettled known → list_all (λ t. has_one (known_of known t.symbol)) ts ≡ true
all_have_one known [] h = refl
all_have_one known (t ∷ ts) h =
    ap (λ (b : Bool). b && list_all (λ u. has_one (known_of known u.symbol)) ts) (settled_one (known_of known t.symbol) (h t.symbol)) ∙ all_have_one known ts h

pub is_one : (v z : ℤ) → v ≡ z → Holds (record { low = v; high = v }) z
is_one v z e = record { low = omega (arith, ints); high = omega (arith, ints) }

pub not_settled : {P : Type 0} (known : List Binding) (ts : List Multiple) (r : Bool) → r ≡ false → r ≡ list_all (λ t. has_one (known_of known t.symbol)) ts → AllSettled known → P
not_settled known ts r f e h = let g : list_all (λ t. has_one (known_of known t.symbol)) ts ≡ true = all_have_one known ts h in absurd (cc)

-- ---- the largest and the smallest

abbrev max_of : Range → Range → Range
max_of r q = record { low = int_max r.low q.low; high = int_max r.high q.high }

abbrev min_of : Range → Range → Range
min_of r q = record { low = int_min r.low q.low; high = int_min r.high q.high }

holds_max : (r q : Range) (x y : ℤ) → Holds r x → Holds q y → Holds (max_of r q) (int_max x y)
holds_max r q x y h k = record {
  low = omega (arith, ints, int_max_is r.low q.low, int_max_is x y, h.low, k.low);
  high = omega (arith, ints, int_max_is r.high q.high, int_max_is x y, h.high, k.high);
}

holds_min : (r q : Range) (x y : ℤ) → Holds r x → Holds q y → Holds (min_of r q) (int_min x y)
holds_min r q x y h k = record {
  low = omega (arith, ints, int_min_is r.low q.low, int_min_is x y, h.low, k.low);
  high = omega (arith, ints, int_min_is r.high q.high, int_min_is x y, h.high, k.high);
}

fold_more : (m : ℤ → ℤ → ℤ) (s : Symbols) (z : ℤ) (forms : List Form) (i : ℕ) (d : Form) → i < length forms → d ≡ get_or forms i d →
    fold m z (map (λ l. form_value l s) (take (i + 1) forms)) ≡ m (fold m z (map (λ l. form_value l s) (take i forms))) (form_value d s)
fold_more m s z forms i d lt is =
    ap (fold m z) (ap (map (λ (l : Form). form_value l s)) (take_more forms i d lt ∙ ap (λ (y : Form). take i forms ++ y ∷ []) (sym is))
    ∙ map-append (λ (l : Form). form_value l s) (take i forms) (d ∷ []))
    ∙ fold_push m z (map (λ (l : Form). form_value l s) (take i forms)) (form_value d s)

narrow_at : (s : Symbols) (forms : List Form) (i : ℕ) (d : Form) → i < length forms → d ≡ get_or forms i d → FormsAreNarrow s forms → FormIsNarrow s d
narrow_at s forms i d lt is h = subst (FormIsNarrow s) (sym is) (h i d lt)

pub next_max : (s : Symbols) (z : ℤ) (forms : List Form) (i : ℕ) (d : Form) (found r result : Range) → i < length forms → d ≡ get_or forms i d → result ≡ max_of found r → FormsAreNarrow s forms
    → Holds found (fold int_max z (map (λ l. form_value l s) (take i forms))) → (FormIsNarrow s d → Holds r (form_value d s))
    → Holds result (fold int_max z (map (λ l. form_value l s) (take (i + 1) forms)))
next_max s z forms i d found r result lt is e narrow h k =
    subst (λ (q : Range). Holds q (fold int_max z (map (λ l. form_value l s) (take (i + 1) forms)))) (sym e) (subst (Holds (max_of found r)) (sym (fold_more int_max s z forms i d lt is))
    (holds_max found r (fold int_max z (map (λ l. form_value l s) (take i forms))) (form_value d s) h (k (narrow_at s forms i d lt is narrow))))

pub next_min : (s : Symbols) (z : ℤ) (forms : List Form) (i : ℕ) (d : Form) (found r result : Range) → i < length forms → d ≡ get_or forms i d → result ≡ min_of found r → FormsAreNarrow s forms
    → Holds found (fold int_min z (map (λ l. form_value l s) (take i forms))) → (FormIsNarrow s d → Holds r (form_value d s))
    → Holds result (fold int_min z (map (λ l. form_value l s) (take (i + 1) forms)))
next_min s z forms i d found r result lt is e narrow h k =
    subst (λ (q : Range). Holds q (fold int_min z (map (λ l. form_value l s) (take (i + 1) forms)))) (sym e) (subst (Holds (min_of found r)) (sym (fold_more int_min s z forms i d lt is))
    (holds_min found r (fold int_min z (map (λ l. form_value l s) (take i forms))) (form_value d s) h (k (narrow_at s forms i d lt is narrow))))

pub one_max : (found r result : Range) → result ≡ max_of found r → IsOne found → IsOne r → IsOne result
one_max found r result e h k = ap (λ (q : Range). q.low) e ∙ (λ j. int_max (h j) (k j)) ∙ sym (ap (λ (q : Range). q.high) e)

pub one_min : (found r result : Range) → result ≡ min_of found r → IsOne found → IsOne r → IsOne result
one_min found r result e h k = ap (λ (q : Range). q.low) e ∙ (λ j. int_min (h j) (k j)) ∙ sym (ap (λ (q : Range). q.high) e)

pub whole_max : (s : Symbols) (forms : List Form) (d : Form) (r result : Range) → 1 ≤ length forms → d ≡ get_or forms 0 d → FormsAreNarrow s forms → (FormIsNarrow s d → Holds r (form_value d s))
    → ((z : ℤ) → FormsAreNarrow s (take (length forms - 1) (drop 1 forms)) → Holds r z → Holds result (fold int_max z (map (λ l. form_value l s) (take (length forms - 1) (drop 1 forms)))))
    → Holds result (largest s forms)
whole_max s [] d r result some is narrow first rest = absurd (omega arith)
whole_max s (x ∷ xs) d r result some is narrow first rest =
    let e : take (length (x ∷ xs) - 1) (drop 1 (x ∷ xs)) ≡ xs = rest_of x xs in
    let f : d ≡ x = is in
    let behind : FormsAreNarrow s xs = λ k y lt. narrow (suc k) y (omega arith) in
    let here : Holds r (form_value x s) = subst (λ (y : Form). Holds r (form_value y s)) f (first (subst (FormIsNarrow s) (sym f) (narrow 0 x (omega arith)))) in
    subst (λ (ys : List Form). Holds result (fold int_max (form_value x s) (map (λ l. form_value l s) ys))) e (rest (form_value x s) (subst (FormsAreNarrow s) (sym e) behind) here)

pub whole_min : (s : Symbols) (forms : List Form) (d : Form) (r result : Range) → 1 ≤ length forms → d ≡ get_or forms 0 d → FormsAreNarrow s forms → (FormIsNarrow s d → Holds r (form_value d s))
    → ((z : ℤ) → FormsAreNarrow s (take (length forms - 1) (drop 1 forms)) → Holds r z → Holds result (fold int_min z (map (λ l. form_value l s) (take (length forms - 1) (drop 1 forms)))))
    → Holds result (smallest s forms)
whole_min s [] d r result some is narrow first rest = absurd (omega arith)
whole_min s (x ∷ xs) d r result some is narrow first rest =
    let e : take (length (x ∷ xs) - 1) (drop 1 (x ∷ xs)) ≡ xs = rest_of x xs in
    let f : d ≡ x = is in
    let behind : FormsAreNarrow s xs = λ k y lt. narrow (suc k) y (omega arith) in
    let here : Holds r (form_value x s) = subst (λ (y : Form). Holds r (form_value y s)) f (first (subst (FormIsNarrow s) (sym f) (narrow 0 x (omega arith)))) in
    subst (λ (ys : List Form). Holds result (fold int_min (form_value x s) (map (λ l. form_value l s) ys))) e (rest (form_value x s) (subst (FormsAreNarrow s) (sym e) behind) here)
