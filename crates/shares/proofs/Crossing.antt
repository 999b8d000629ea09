-- Two dimensions that exclude one another.
use Rattle.std.proofs.Common.{◌≡◌, ℕ, ◌+◌, ◌-◌, ◌<◌, List, [], length, take, drop, get_or, ap, sym, ◌∙◌, subst, arith, inl, inr}
use Rattle.std.specs.Prelude.{ℤ, pos, ◌+ℤ◌, ◌-ℤ◌, ◌≤ℤ◌, ◌<ℤ◌, ◌⊎◌}
use Rattle.std.proofs.lemmas.Int.{ints, by_lt_z}
use Rattle.std.proofs.lemmas.List.{length-drop, take_all}
use Rattle.lin.specs.Forms.{Form}
use Rattle.lin.specs.declared.span.Span1.{Span1}
use Rattle.plan.specs.Symbols.{Symbols, form_value, largest, points, rising, smallest, turns}
use Rattle.shares.specs.Across.{IsSumOf}
use Rattle.shares.proofs.Cornered.{largest_has, no_point, no_turn, points_behind, smallest_has}

first_more : (z a b w : ℤ) → z <ℤ (a +ℤ w) → a ≤ℤ b → z <ℤ (b +ℤ w)
first_more z a b w h k = omega (arith, ints, h, k)

second_more : (z w a b : ℤ) → z <ℤ (w +ℤ a) → a ≤ℤ b → z <ℤ (w +ℤ b)
second_more z w a b h k = omega (arith, ints, h, k)

first_less : (a b w z : ℤ) → (b +ℤ w) <ℤ z → a ≤ℤ b → (a +ℤ w) <ℤ z
first_less a b w z h k = omega (arith, ints, h, k)

second_less : (w a b z : ℤ) → (w +ℤ b) <ℤ z → a ≤ℤ b → (w +ℤ a) <ℤ z
second_less w a b z h k = omega (arith, ints, h, k)

below_by : (a b z : ℤ) → (a -ℤ b) ≤ℤ z → z <ℤ pos 0 → a <ℤ b
below_by a b z h k = omega (arith, ints, h, k)

other_less : (a b l m : ℤ) → (a +ℤ b) <ℤ (l +ℤ m) → l ≤ℤ a → b <ℤ m
other_less a b l m h k = omega (arith, ints, h, k)

-- a form that is below another by a number is below the two of which that is the sum
pub below_sum : (s : Symbols) (upper sum lower other : Form) (z : ℤ) → (form_value upper s -ℤ form_value sum s) ≤ℤ z → z <ℤ pos 0 → IsSumOf sum lower other → form_value upper s <ℤ (form_value lower s +ℤ form_value other s)
below_sum s upper sum lower other z h past is = subst (λ (y : ℤ). form_value upper s <ℤ y) (is s.value) (below_by (form_value upper s) (form_value sum s) z h past)

pub below_largest : (s : Symbols) (z w : ℤ) (ls : List Form) (k : ℕ) (d : Form) → k < length ls → d ≡ get_or ls k d → z <ℤ (form_value d s +ℤ w) → z <ℤ (largest s ls +ℤ w)
below_largest s z w ls k d less is h =
    first_more z (form_value d s) (largest s ls) w h (subst (λ (f : Form). form_value f s ≤ℤ largest s ls) (sym is) (largest_has s ls k d less))

pub below_largest_behind : (s : Symbols) (z w : ℤ) (ls : List Form) (k : ℕ) (d : Form) → k < length ls → d ≡ get_or ls k d → z <ℤ (w +ℤ form_value d s) → z <ℤ (w +ℤ largest s ls)
below_largest_behind s z w ls k d less is h =
    second_more z w (form_value d s) (largest s ls) h (subst (λ (f : Form). form_value f s ≤ℤ largest s ls) (sym is) (largest_has s ls k d less))

pub smallest_below : (s : Symbols) (z w : ℤ) (us : List Form) (k : ℕ) (d : Form) → k < length us → d ≡ get_or us k d → (form_value d s +ℤ w) <ℤ z → (smallest s us +ℤ w) <ℤ z
smallest_below s z w us k d less is h =
    first_less (smallest s us) (form_value d s) w z h (subst (λ (f : Form). smallest s us ≤ℤ form_value f s) (sym is) (smallest_has s us k d less))

smallest_below_behind : (s : Symbols) (z w : ℤ) (us : List Form) (k : ℕ) (d : Form) → k < length us → d ≡ get_or us k d → (w +ℤ form_value d s) <ℤ z → (w +ℤ smallest s us) <ℤ z
smallest_below_behind s z w us k d less is h =
    second_less w (smallest s us) (form_value d s) z h (subst (λ (f : Form). smallest s us ≤ℤ form_value f s) (sym is) (smallest_has s us k d less))

no_numbers : (s : Symbols) (x : Span1) → smallest s x.upper <ℤ largest s x.lower → turns s x ≡ []
no_numbers s x less = ap (rising (largest s x.lower)) (no_turn (largest s x.lower) (smallest s x.upper) less)

-- of two spans whose ends are together too far apart one has no number
pub one_is_empty : (s : Symbols) (x y : Span1) (us ls : List Form) → us ≡ y.upper → ls ≡ y.lower → (k : ℕ) (u : Form) → k < length us → u ≡ get_or us k u →
    (smallest s x.upper +ℤ form_value u s) <ℤ (largest s x.lower +ℤ largest s ls) → (turns s x ≡ []) ⊎ (turns s y ≡ [])
one_is_empty s x y us ls e f k u less is h =
    let both = smallest_below_behind s (largest s x.lower +ℤ largest s ls) (smallest s x.upper) us k u less is h in
    let ends : (smallest s x.upper +ℤ smallest s y.upper) <ℤ (largest s x.lower +ℤ largest s y.lower) =
    subst (λ (fs : List Form). (smallest s x.upper +ℤ smallest s fs) <ℤ (largest s x.lower +ℤ largest s y.lower)) e
    (subst (λ (fs : List Form). (smallest s x.upper +ℤ smallest s us) <ℤ (largest s x.lower +ℤ largest s fs)) f both) in
    by_lt_z (smallest s x.upper) (largest s x.lower) (λ first. inl (no_numbers s x first))
    (λ from. inr (no_numbers s y (other_less (smallest s x.upper) (smallest s y.upper) (largest s x.lower) (largest s y.lower) ends from)))

pub other_empty : (s : Symbols) (x y : Span1) (ys : List Span1) (k : ℕ) → k < length ys → y ≡ get_or ys k y → (turns s x ≡ []) ⊎ (turns s y ≡ []) → (turns s x ≡ []) ⊎ (points s ys ≡ [])
other_empty s x y ys k less is h = elim h [ inl first ↦ inl first | inr second ↦ inr (no_point s ys k y less is second) ]

rest_whole : (n : ℕ) (xs : List Span1) → take (length xs - n) (drop n xs) ≡ drop n xs
rest_whole n xs = take_all (length xs - n) (drop n xs) (omega (arith, length-drop n xs))

-- a region has no point where one of its spans has no number or those behind it have none
pub no_point_behind : (s : Symbols) (xs : List Span1) (k : ℕ) (x : Span1) → k < length xs → x ≡ get_or xs k x → (turns s x ≡ []) ⊎ (points s (take (length xs - (k + 1)) (drop (k + 1) xs)) ≡ []) → points s xs ≡ []
no_point_behind s xs k x less is h = elim h [
  | inl none ↦ no_point s xs k x less is none
  | inr none ↦ points_behind s xs (k + 1) (ap (points s) (sym (rest_whole (k + 1) xs)) ∙ none)
]
