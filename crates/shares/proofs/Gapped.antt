-- How much upper ends pass lower ends at most between two corners of a box of grid points.
use Rattle.std.proofs.Common.{◌≡◌, ℕ, zero, suc, ◌+◌, ◌-◌, ◌*◌, ◌<◌, ◌≤◌, ◌^◌, List, [], ◌∷◌, length, take, drop, get_or, ap, sym, ◌∙◌, subst, arith, lit<, Bool, true, false}
use Rattle.std.specs.Prelude.{ℤ, pos, ◌+ℤ◌, ◌-ℤ◌, ◌*ℤ◌, ◌≤ℤ◌, ◌<ℤ◌, ◌==◌, int_le}
use Rattle.std.proofs.lemmas.Bool.Decides.{nat_tests}
use Rattle.std.proofs.lemmas.Int.{ints, to_z-of_z}
use Rattle.std.proofs.lemmas.List.{length-drop, take_all}
use Rattle.std.proofs.Math.IntN.{*ℤ_comm}
use Rattle.lin.specs.Forms.{Form, sum_of, AreWithin, IsWithin}
use Rattle.lin.specs.declared.form.Multiple.{Multiple}
use Rattle.lin.specs.declared.span.Span1.{Span1}
use Rattle.lin.proofs.Machine.{product_bits, product_within, sum_within, within_fits}
use Rattle.numeric.proofs.Ints.{distribute_right}
use Rattle.plan.specs.Symbols.{Symbols, clipped, form_value, largest, rising, smallest, turns}
use Rattle.plan.specs.Certificate.Cells.{grid_symbols, grid_value}
use Rattle.shares.specs.declared.gaps.Lead.{Lead}
use Rattle.shares.specs.Corners.{IsBetween, end_value}
use Rattle.shares.specs.Gaps.{AreBelow, IsGapBelow, Leads}
use Rattle.shares.proofs.Cornered.{end_above, largest_has, no_turn, smallest_has}
use mir.Val.{to_z, of_z, SFits}
use mir.Syntax.{w64}

-- ---- multiples that come first

zero_product : (x : ℤ) → pos 0 *ℤ x ≡ pos 0
zero_product x = *ℤ_comm (pos 0) x ∙ omega (arith, ints)

product_sum : (g f e x : ℤ) → g +ℤ f ≡ e → g *ℤ x +ℤ f *ℤ x ≡ e *ℤ x
product_sum g f e x h = sym (distribute_right g f x) ∙ ap (λ (z : ℤ). z *ℤ x) h

upper_first : (a b c : ℤ) → ((a +ℤ b) -ℤ c) ≡ (a +ℤ (b -ℤ c))
upper_first a b c = omega (arith, ints)

lower_first : (p q b c : ℤ) → p +ℤ q ≡ pos 0 → (b -ℤ (q +ℤ c)) ≡ (p +ℤ (b -ℤ c))
lower_first p q b c e = omega (arith, ints, e)

both_first : (p q r b c : ℤ) → r +ℤ q ≡ p → ((p +ℤ b) -ℤ (q +ℤ c)) ≡ (r +ℤ (b -ℤ c))
both_first p q r b c e = omega (arith, ints, e)

pub leads_upper : (t : Multiple) (us ls : List Multiple) → IsWithin (2 ^ 20) t.factor → Leads (t ∷ us) ls (record { term = t; upper = 1; lower = 0 })
leads_upper t us ls h = record {
  value = λ v. upper_first (t.factor *ℤ v t.symbol) (sum_of us v) (sum_of ls v);
  small = omega (arith, h);
  some = omega arith;
  upper = omega arith;
  lower = omega arith;
}

pub leads_lower : (t : Multiple) (g : ℤ) (us ls : List Multiple) → IsWithin (2 ^ 20) t.factor → g +ℤ t.factor ≡ pos 0 → Leads us (t ∷ ls) (record { term = record { symbol = t.symbol; factor = g }; upper = 0; lower = 1 })
leads_lower t g us ls h e = record {
  value = λ v. lower_first (g *ℤ v t.symbol) (t.factor *ℤ v t.symbol) (sum_of us v) (sum_of ls v) (product_sum g t.factor (pos 0) (v t.symbol) e ∙ zero_product (v t.symbol));
  small = omega (arith, ints, h, e);
  some = omega arith;
  upper = omega arith;
  lower = omega arith;
}

pub leads_both : (t u : Multiple) (g : ℤ) (us ls : List Multiple) → IsWithin (2 ^ 20) t.factor → IsWithin (2 ^ 20) u.factor → t.symbol ≡ u.symbol → g +ℤ u.factor ≡ t.factor →
    Leads (t ∷ us) (u ∷ ls) (record { term = record { symbol = u.symbol; factor = g }; upper = 1; lower = 1 })
leads_both t u g us ls h k same e = record {
  value = λ v. both_first (t.factor *ℤ v t.symbol) (u.factor *ℤ v u.symbol) (g *ℤ v u.symbol) (sum_of us v) (sum_of ls v)
      (product_sum g u.factor t.factor (v u.symbol) e ∙ ap (λ (s : ℕ). t.factor *ℤ v s) (sym same));
  small = omega (arith, ints, h, k, e);
  some = omega arith;
  upper = omega arith;
  lower = omega arith;
}

pub leads_lower_at : (us ls : List Multiple) (n : Multiple) (g : ℤ) → 0 < length ls → g +ℤ (get_or ls 0 n).factor ≡ pos 0 → AreWithin (2 ^ 20) ls →
    Leads us ls (record { term = record { symbol = (get_or ls 0 n).symbol; factor = g }; upper = 0; lower = 1 })
leads_lower_at us [] n g less e h = absurd (omega (arith, less))
leads_lower_at us (l ∷ ls) n g less e h = leads_lower l g us ls h.0 e

pub first_within : (ts : List Multiple) (n : Multiple) → 0 < length ts → AreWithin (2 ^ 20) ts → IsWithin (2 ^ 20) (get_or ts 0 n).factor
first_within [] n less h = absurd (omega (arith, less))
first_within (t ∷ ts) n less h = h.0

pub some_terms : (ts : List Multiple) (b : Bool) → b ≡ (length ts == 0) → b ≡ false → 0 < length ts
some_terms [] b e f = absurd (cc (sym e ∙ f))
some_terms (t ∷ ts) b e f = omega arith

-- ---- numbers of the machine

difference_within : (m n : ℕ) (a b : ℤ) → IsWithin m a → IsWithin n b → IsWithin (m + n) (a -ℤ b)
difference_within m n a b h k = omega (arith, ints, h, k)

taken_back : (a b : ℤ) → (a -ℤ b) +ℤ b ≡ a
taken_back a b = omega (arith, ints)

pub difference_bits : (a b : ℤ) → IsWithin (2 ^ 20) a → IsWithin (2 ^ 20) b → to_z w64 (of_z w64 (to_z w64 (of_z w64 a) -ℤ to_z w64 (of_z w64 b))) +ℤ b ≡ a
difference_bits a b h k =
    let x = to_z-of_z w64 a (within_fits (2 ^ 20) a h (lit< tt)) in
    let y = to_z-of_z w64 b (within_fits (2 ^ 20) b k (lit< tt)) in
    let whole = to_z-of_z w64 (a -ℤ b) (within_fits (2 ^ 20 + 2 ^ 20) (a -ℤ b) (difference_within (2 ^ 20) (2 ^ 20) a b h k) (lit< tt)) in
    (λ i. to_z w64 (of_z w64 (x i -ℤ y i)) +ℤ b) ∙ ap (λ (z : ℤ). z +ℤ b) whole ∙ taken_back a b

pub negated_bits : (b : ℤ) → IsWithin (2 ^ 20) b → to_z w64 (of_z w64 (pos 0 -ℤ to_z w64 (of_z w64 b))) +ℤ b ≡ pos 0
negated_bits b k =
    let y = to_z-of_z w64 b (within_fits (2 ^ 20) b k (lit< tt)) in
    let whole = to_z-of_z w64 (pos 0 -ℤ b) (within_fits (0 + 2 ^ 20) (pos 0 -ℤ b) (difference_within 0 (2 ^ 20) (pos 0) b (omega arith) k) (lit< tt)) in
    (λ i. to_z w64 (of_z w64 (pos 0 -ℤ y i)) +ℤ b) ∙ ap (λ (z : ℤ). z +ℤ b) whole ∙ taken_back (pos 0) b

-- ---- sums of multiples

pub within_drop : (n m : ℕ) (ts : List Multiple) → AreWithin m ts → AreWithin m (drop n ts)
within_drop zero m ts h = h
within_drop (suc n) m [] h = h
within_drop (suc n) m (t ∷ ts) h = within_drop n m ts h.1

sum_most : (x a b m r : ℤ) → x ≡ a +ℤ b → a ≤ℤ m → b ≤ℤ r → x ≤ℤ (m +ℤ r)
sum_most x a b m r e h k = omega (arith, ints, e, h, k)

pub gap_next : (low high : List ℕ) (us ls : List Multiple) (d : Lead) (m r : ℤ) → Leads us ls d → m ≡ d.term.factor *ℤ end_value high low d.term →
    AreBelow low high (drop d.upper us) (drop d.lower ls) r → AreBelow low high us ls (m +ℤ r)
gap_next low high us ls d m r leads is rest at between =
    let v = (grid_symbols at).value in
    let most : (d.term.factor *ℤ grid_value at d.term.symbol) ≤ℤ m = subst (λ (z : ℤ). (d.term.factor *ℤ grid_value at d.term.symbol) ≤ℤ z) (sym is) (end_above low high at between d.term.factor d.term.symbol) in
    sum_most (sum_of us v -ℤ sum_of ls v) (d.term.factor *ℤ grid_value at d.term.symbol) (sum_of (drop d.upper us) v -ℤ sum_of (drop d.lower ls) v) m r (leads.value v) most (rest at between)

most_small : (d : Lead) (e : ℤ) → IsWithin (2 ^ 21) d.term.factor → IsWithin (2 ^ 20) e → IsWithin (2 ^ 41) (d.term.factor *ℤ e)
most_small d e h k = product_within (2 ^ 21) (2 ^ 20) d.term.factor e h k

pub most_fits : (a b : ℤ) → IsWithin (2 ^ 21) a → IsWithin (2 ^ 20) b → SFits w64 (to_z w64 (of_z w64 a) *ℤ to_z w64 (of_z w64 b))
most_fits a b h k =
    rw (to_z-of_z w64 a (within_fits (2 ^ 21) a h (lit< tt)), to_z-of_z w64 b (within_fits (2 ^ 20) b k (lit< tt)))
    (within_fits (2 ^ 41) (a *ℤ b) (product_within (2 ^ 21) (2 ^ 20) a b h k) (lit< tt))

pub most_bits : (a b : ℤ) → IsWithin (2 ^ 21) a → IsWithin (2 ^ 20) b → to_z w64 (of_z w64 (to_z w64 (of_z w64 a) *ℤ to_z w64 (of_z w64 b))) ≡ a *ℤ b
most_bits a b h k =
    product_bits a b (within_fits (2 ^ 21) a h (lit< tt)) (within_fits (2 ^ 20) b k (lit< tt)) (within_fits (2 ^ 41) (a *ℤ b) (product_within (2 ^ 21) (2 ^ 20) a b h k) (lit< tt))

both_within : (m r : ℤ) → IsWithin (2 ^ 41) m → IsWithin (2 ^ 45) r → SFits w64 (m +ℤ r)
both_within m r h k = within_fits (2 ^ 41 + 2 ^ 45) (m +ℤ r) (sum_within (2 ^ 41) (2 ^ 45) m r h k) (lit< tt)

pub rest_fits : (p m r : ℤ) → p ≡ m → IsWithin (2 ^ 41) m → IsWithin (2 ^ 45) r → SFits w64 (p +ℤ to_z w64 (of_z w64 r))
rest_fits p m r e h k =
    let y = to_z-of_z w64 r (within_fits (2 ^ 45) r k (lit< tt)) in
    subst (λ (z : ℤ). SFits w64 z) (λ i. sym e i +ℤ sym y i) (both_within m r h k)

pub rest_bits : (p m r : ℤ) → p ≡ m → IsWithin (2 ^ 41) m → IsWithin (2 ^ 45) r → to_z w64 (of_z w64 (p +ℤ to_z w64 (of_z w64 r))) ≡ m +ℤ r
rest_bits p m r e h k =
    let y = to_z-of_z w64 r (within_fits (2 ^ 45) r k (lit< tt)) in
    (λ i. to_z w64 (of_z w64 (e i +ℤ y i))) ∙ to_z-of_z w64 (m +ℤ r) (both_within m r h k)

pub rest_whole : (n : ℕ) (ts : List Multiple) → take (length ts - n) (drop n ts) ≡ drop n ts
rest_whole n ts = take_all (length ts - n) (drop n ts) (omega (arith, length-drop n ts))

count_left : (a b x y u l : ℕ) → x ≡ a - u → y ≡ b - l → u ≤ a → l ≤ b → 1 ≤ u + l → x + y + 1 ≤ a + b
count_left a b x y u l e f h k some = omega (arith, e, f, h, k, some)

wider : (m n : ℕ) (z : ℤ) → m ≤ n → IsWithin m z → IsWithin n z
wider m n z h k = omega (arith, h, k)

module _ (us ls : List Multiple) (d : Lead) (leads : Leads us ls d) where
  fewer : length (drop d.upper us) + length (drop d.lower ls) + 1 ≤ length us + length ls
  fewer = count_left (length us) (length ls) (length (drop d.upper us)) (length (drop d.lower ls)) d.upper d.lower (length-drop d.upper us) (length-drop d.lower ls) leads.upper leads.lower leads.some

  pub rest_small : (r : ℤ) → length us + length ls ≤ 16 → IsWithin ((length (drop d.upper us) + length (drop d.lower ls)) * 2 ^ 41) r → IsWithin (2 ^ 45) r
  rest_small r few h = wider ((length (drop d.upper us) + length (drop d.lower ls)) * 2 ^ 41) (2 ^ 45) r (omega (arith, fewer, few)) h

  pub sum_small : (m r : ℤ) → IsWithin (2 ^ 41) m → IsWithin ((length (drop d.upper us) + length (drop d.lower ls)) * 2 ^ 41) r → IsWithin ((length us + length ls) * 2 ^ 41) (m +ℤ r)
  sum_small m r h k =
      let n = (length (drop d.upper us) + length (drop d.lower ls)) * 2 ^ 41 in
      wider (2 ^ 41 + n) ((length us + length ls) * 2 ^ 41) (m +ℤ r) (omega (arith, fewer)) (sum_within (2 ^ 41) n m r h k)

-- ---- forms and spans

pub apart_fits : (a b : ℤ) → IsWithin (2 ^ 40) a → IsWithin (2 ^ 40) b → SFits w64 (to_z w64 (of_z w64 a) -ℤ to_z w64 (of_z w64 b))
apart_fits a b h k =
    rw (to_z-of_z w64 a (within_fits (2 ^ 40) a h (lit< tt)), to_z-of_z w64 b (within_fits (2 ^ 40) b k (lit< tt)))
    (within_fits (2 ^ 40 + 2 ^ 40) (a -ℤ b) (difference_within (2 ^ 40) (2 ^ 40) a b h k) (lit< tt))

pub apart_bits : (a b : ℤ) → IsWithin (2 ^ 40) a → IsWithin (2 ^ 40) b → to_z w64 (of_z w64 (to_z w64 (of_z w64 a) -ℤ to_z w64 (of_z w64 b))) ≡ a -ℤ b
apart_bits a b h k =
    let x = to_z-of_z w64 a (within_fits (2 ^ 40) a h (lit< tt)) in
    let y = to_z-of_z w64 b (within_fits (2 ^ 40) b k (lit< tt)) in
    (λ i. to_z w64 (of_z w64 (x i -ℤ y i))) ∙ to_z-of_z w64 (a -ℤ b) (within_fits (2 ^ 40 + 2 ^ 40) (a -ℤ b) (difference_within (2 ^ 40) (2 ^ 40) a b h k) (lit< tt))

pub apart_within : (a b : ℤ) → IsWithin (2 ^ 40) a → IsWithin (2 ^ 40) b → IsWithin (2 ^ 41) (a -ℤ b)
apart_within a b h k = difference_within (2 ^ 40) (2 ^ 40) a b h k

few_terms : (m n : ℕ) → m ≤ 8 → n ≤ 8 → (m + n) * 2 ^ 41 ≤ 2 ^ 45
few_terms m n h k = omega (arith, h, k)

pub terms_small : (us ls : List Multiple) (r : ℤ) → length us ≤ 8 → length ls ≤ 8 → IsWithin ((length us + length ls) * 2 ^ 41) r → IsWithin (2 ^ 45) r
terms_small us ls r h k w = wider ((length us + length ls) * 2 ^ 41) (2 ^ 45) r (few_terms (length us) (length ls) h k) w

gap_of : (a b s t m : ℤ) → (s -ℤ t) ≤ℤ m → ((a +ℤ s) -ℤ (b +ℤ t)) ≤ℤ ((a -ℤ b) +ℤ m)
gap_of a b s t m h = omega (arith, ints, h)

pub form_gap : (low high : List ℕ) (u l : Form) (m z : ℤ) → AreBelow low high u.terms l.terms m → z ≡ (u.constant -ℤ l.constant) +ℤ m → IsGapBelow low high u l z
form_gap low high u l m z h e at between =
    let s = grid_symbols at in
    subst (λ (y : ℤ). (form_value u s -ℤ form_value l s) ≤ℤ y) (sym e) (gap_of u.constant l.constant (sum_of u.terms s.value) (sum_of l.terms s.value) m (h at between))

apart : (a b c z : ℤ) → (a -ℤ b) ≤ℤ z → z <ℤ pos 0 → b ≤ℤ c → a <ℤ c
apart a b c z h k l = omega (arith, ints, h, k, l)

pub never_reaches : (low high : List ℕ) (u d : Form) (ls : List Form) (k : ℕ) (z : ℤ) → k < length ls → d ≡ get_or ls k d → IsGapBelow low high u d z → z <ℤ pos 0 →
    (at : List ℕ) → IsBetween low high at → form_value u (grid_symbols at) <ℤ largest (grid_symbols at) ls
never_reaches low high u d ls k z less is h past at between =
    let s = grid_symbols at in
    let has : form_value d s ≤ℤ largest s ls = subst (λ (f : Form). form_value f s ≤ℤ largest s ls) (sym is) (largest_has s ls k d less) in
    apart (form_value u s) (form_value d s) (largest s ls) z (h at between) past has

below : (a b c : ℤ) → a ≤ℤ b → b <ℤ c → a <ℤ c
below a b c h k = omega (arith, ints, h, k)

never_meets : (s : Symbols) (x : Span1) (k : ℕ) (u : Form) → k < length x.upper → u ≡ get_or x.upper k u → form_value u s <ℤ largest s x.lower → turns s x ≡ []
never_meets s x k u less is past =
    let has : smallest s x.upper ≤ℤ form_value u s = subst (λ (f : Form). smallest s x.upper ≤ℤ form_value f s) (sym is) (smallest_has s x.upper k u less) in
    ap (rising (largest s x.lower)) (no_turn (largest s x.lower) (smallest s x.upper) (below (smallest s x.upper) (form_value u s) (largest s x.lower) has past))

pub never_meets_at : (s : Symbols) (x : Span1) (us ls : List Form) → us ≡ x.upper → ls ≡ x.lower → (k : ℕ) (u : Form) → k < length us → u ≡ get_or us k u → form_value u s <ℤ largest s ls → turns s x ≡ []
never_meets_at s x us ls e f k u less is past =
    never_meets s x k u (subst (λ (fs : List Form). k < length fs) e less) (subst (λ (fs : List Form). u ≡ get_or fs k u) e is) (subst (λ (fs : List Form). form_value u s <ℤ largest s fs) f past)

-- ---- a form that is at most another at each grid point between two

pub not_more : (z : ℤ) → int_le z (pos 0) ≡ true → z ≤ℤ pos 0
not_more z e = grind (arith, nat_tests, ints)

at_most : (a b c z : ℤ) → (a -ℤ b) ≤ℤ z → z ≤ℤ pos 0 → b ≤ℤ c → a ≤ℤ c
at_most a b c z h k l = omega (arith, ints, h, k, l)

at_least : (a b c z : ℤ) → (a -ℤ b) ≤ℤ z → z ≤ℤ pos 0 → c ≤ℤ a → c ≤ℤ b
at_least a b c z h k l = omega (arith, ints, h, k, l)

module _ (low high : List ℕ) (f d : Form) (others : List Form) (k : ℕ) (z : ℤ) (less : k < length others) (is : d ≡ get_or others k d) (most : z ≤ℤ pos 0) where
  pub reached_at : IsGapBelow low high f d z → (at : List ℕ) → IsBetween low high at → form_value f (grid_symbols at) ≤ℤ largest (grid_symbols at) others
  reached_at h at between =
      let s = grid_symbols at in
      let has : form_value d s ≤ℤ largest s others = subst (λ (g : Form). form_value g s ≤ℤ largest s others) (sym is) (largest_has s others k d less) in
      at_most (form_value f s) (form_value d s) (largest s others) z (h at between) most has

  pub kept_below_at : IsGapBelow low high d f z → (at : List ℕ) → IsBetween low high at → smallest (grid_symbols at) others ≤ℤ form_value f (grid_symbols at)
  kept_below_at h at between =
      let s = grid_symbols at in
      let has : smallest s others ≤ℤ form_value d s = subst (λ (g : Form). smallest s others ≤ℤ form_value g s) (sym is) (smallest_has s others k d less) in
      at_least (form_value d s) (form_value f s) (smallest s others) z (h at between) most has
