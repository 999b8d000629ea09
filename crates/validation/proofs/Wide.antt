-- Forms out of the limits, and the test for them.
use Rattle.std.proofs.Common.{◌≡◌, ℕ, ◌^◌, ◌<◌, List, [], ◌∷◌, length, Bool, true, false, refl, sym, ap, ◌∙◌, subst, arith, inl, inr}
use Rattle.std.specs.Prelude.{◌⊎◌, ◌&&◌, ◌||◌, ◌==◌, not, nat_le, Contains}
use Rattle.std.specs.List.{Any, list_all, list_any}
use Rattle.std.specs.Int.RustNames.{unsigned_abs}
use Rattle.std.proofs.lemmas.Bool.{false≢true}
use Rattle.std.proofs.lemmas.Bool.Decides.{nat_tests}
use Rattle.std.proofs.lemmas.List.Folds.{Any-from_list_any, list_any-from_Any}
use Rattle.lin.specs.Forms.{Form, is_within_limits}
use Rattle.lin.specs.declared.form.Multiple.{Multiple}
use Rattle.lin.specs.declared.span.Span1.{Span1}
use Rattle.tree.specs.Term.{Term}
use Rattle.tree.specs.Tree.{node_count, depth}
use Rattle.soundness.specs.Outline.Forms.{is_over, are_over, spans_are_over, are_within_limits, spans_are_within_limits, is_listed, have_ends}
use Rattle.validation.specs.Stored.Sizes.{is_small}
use Rattle.validation.specs.Wide.{IsWide, SpanIsWide, RegionIsWide, IsUnlisted, SpanIsUnlisted, RegionIsUnlisted, NamesOther, SpanNamesOther, RegionNamesOther, IsLarge}
use Rattle.validation.proofs.Told.{on_either}

-- ---- tests that fail

pub and_fails : (b c : Bool) → (b && c) ≡ false → (b ≡ false) ⊎ (c ≡ false)
and_fails true c h = inr h
and_fails false c h = inl refl

pub fails_left : (b c : Bool) → b ≡ false → (b && c) ≡ false
fails_left true c h = absurd (false≢true (sym h))
fails_left false c h = refl

pub fails_right : (b c : Bool) → c ≡ false → (b && c) ≡ false
fails_right true c h = h
fails_right false c h = refl

any_map : {A : Type 0} (P Q : A → Type 0) (f : (x : A) → P x → Q x) (xs : List A) → Any P xs → Any Q xs
any_map P Q f xs (k, x, lt, at, h) = (k, x, lt, at, f x h)

-- a test of all fails where it fails of one
module _ {A : Type 0} (t : A → Bool) where
  not_all : (xs : List A) → list_all t xs ≡ false → list_any (λ x. not (t x)) xs ≡ true
  not_all [] h = absurd (false≢true (sym h))
  not_all (x ∷ xs) h = of (t x) h (not_all xs)
    where
      of : (b : Bool) → (b && list_all t xs) ≡ false → (list_all t xs ≡ false → list_any (λ x. not (t x)) xs ≡ true) → (not b || list_any (λ x. not (t x)) xs) ≡ true
      of true k f = f k
      of false k f = refl

  some_not : (xs : List A) → list_any (λ x. not (t x)) xs ≡ true → list_all t xs ≡ false
  some_not [] h = absurd (false≢true h)
  some_not (x ∷ xs) h = of (t x) h (some_not xs)
    where
      of : (b : Bool) → (not b || list_any (λ x. not (t x)) xs) ≡ true → (list_any (λ x. not (t x)) xs ≡ true → list_all t xs ≡ false) → (b && list_all t xs) ≡ false
      of true k f = f k
      of false k f = refl

  not_true : (b : Bool) → not b ≡ true → b ≡ false
  not_true true h = absurd (false≢true h)
  not_true false h = refl

  module _ (W : A → Type 0) where
    pub any_fails : ((x : A) → t x ≡ false → W x) → (xs : List A) → list_all t xs ≡ false → Any W xs
    any_fails f xs h = any_map (λ x. not (t x) ≡ true) W (λ x e. f x (not_true (t x) e)) xs (Any-from_list_any (λ x. not (t x)) xs (not_all xs h))

    pub all_fail : ((x : A) → W x → t x ≡ false) → (xs : List A) → Any W xs → list_all t xs ≡ false
    all_fail f xs h = some_not xs (list_any-from_Any (λ x. not (t x)) xs (any_map W (λ x. not (t x) ≡ true) (λ x w. ap not (f x w)) xs h))

-- ---- forms

pub past : (m n : ℕ) → nat_le m n ≡ false → n < m
past m n h = grind (arith, nat_tests)

pub is_past : (m n : ℕ) → n < m → nat_le m n ≡ false
is_past m n h = grind (arith, nat_tests)

abbrev few : Form → Bool
few f = nat_le (length f.terms) 8

abbrev factors : Form → Bool
factors f = list_all (λ t. nat_le (unsigned_abs t.factor) (2 ^ 20)) f.terms

abbrev constant : Form → Bool
constant f = nat_le (unsigned_abs f.constant) (2 ^ 40)

pub form_is_wide : (f : Form) → is_within_limits f ≡ false → IsWide f
form_is_wide f h = of (and_fails (few f && factors f) (constant f) h)
  where
    two : (few f ≡ false) ⊎ (factors f ≡ false) → IsWide f
    two (inl e) = inl (past (length f.terms) 8 e)
    two (inr e) = inr (inl (any_fails (λ (t : Multiple). nat_le (unsigned_abs t.factor) (2 ^ 20)) (λ t. 2 ^ 20 < unsigned_abs t.factor) (λ t k. past (unsigned_abs t.factor) (2 ^ 20) k) f.terms e))

    of : ((few f && factors f) ≡ false) ⊎ (constant f ≡ false) → IsWide f
    of (inl e) = two (and_fails (few f) (factors f) e)
    of (inr e) = inr (inr (past (unsigned_abs f.constant) (2 ^ 40) e))

pub wide_form : (f : Form) → IsWide f → is_within_limits f ≡ false
wide_form f (inl h) = fails_left (few f && factors f) (constant f) (fails_left (few f) (factors f) (is_past (length f.terms) 8 h))
wide_form f (inr (inl h)) =
    let e = all_fail (λ (t : Multiple). nat_le (unsigned_abs t.factor) (2 ^ 20)) (λ t. 2 ^ 20 < unsigned_abs t.factor) (λ t k. is_past (unsigned_abs t.factor) (2 ^ 20) k) f.terms h in
    fails_left (few f && factors f) (constant f) (fails_right (few f) (factors f) e)
wide_form f (inr (inr h)) = fails_right (few f && factors f) (constant f) (is_past (unsigned_abs f.constant) (2 ^ 40) h)

-- ---- spans and regions

pub forms_are_wide : (fs : List Form) → are_within_limits fs ≡ false → Any IsWide fs
forms_are_wide fs h = any_fails is_within_limits IsWide form_is_wide fs h

pub wide_forms : (fs : List Form) → Any IsWide fs → are_within_limits fs ≡ false
wide_forms fs h = all_fail is_within_limits IsWide wide_form fs h

pub span_is_wide : (x : Span1) → (are_within_limits x.lower && are_within_limits x.upper) ≡ false → SpanIsWide x
span_is_wide x h = on_either (and_fails (are_within_limits x.lower) (are_within_limits x.upper) h) (λ e. inl (forms_are_wide x.lower e)) (λ e. inr (forms_are_wide x.upper e))

pub wide_span : (x : Span1) → SpanIsWide x → (are_within_limits x.lower && are_within_limits x.upper) ≡ false
wide_span x (inl h) = fails_left (are_within_limits x.lower) (are_within_limits x.upper) (wide_forms x.lower h)
wide_span x (inr h) = fails_right (are_within_limits x.lower) (are_within_limits x.upper) (wide_forms x.upper h)

pub region_is_wide : (xs : List Span1) → spans_are_within_limits xs ≡ false → RegionIsWide xs
region_is_wide xs h = any_fails (λ (x : Span1). are_within_limits x.lower && are_within_limits x.upper) SpanIsWide span_is_wide xs h

pub wide_region : (xs : List Span1) → RegionIsWide xs → spans_are_within_limits xs ≡ false
wide_region xs h = all_fail (λ (x : Span1). are_within_limits x.lower && are_within_limits x.upper) SpanIsWide wide_span xs h

-- ---- how many forms

pub unlisted_is : (fs : List Form) → is_listed fs ≡ false → IsUnlisted fs
unlisted_is fs h = on_either (and_fails (nat_le 1 (length fs)) (nat_le (length fs) 4) h)
    (λ e. let k = past 1 (length fs) e in inl (omega (arith, k)))
    (λ e. inr (past (length fs) 4 e))

pub is_unlisted : (fs : List Form) → IsUnlisted fs → is_listed fs ≡ false
is_unlisted fs (inl h) = fails_left (nat_le 1 (length fs)) (nat_le (length fs) 4) (is_past 1 (length fs) (omega (arith, h)))
is_unlisted fs (inr h) = fails_right (nat_le 1 (length fs)) (nat_le (length fs) 4) (is_past (length fs) 4 h)

pub span_unlisted_is : (x : Span1) → (is_listed x.lower && is_listed x.upper) ≡ false → SpanIsUnlisted x
span_unlisted_is x h = on_either (and_fails (is_listed x.lower) (is_listed x.upper) h) (λ e. inl (unlisted_is x.lower e)) (λ e. inr (unlisted_is x.upper e))

pub span_is_unlisted : (x : Span1) → SpanIsUnlisted x → (is_listed x.lower && is_listed x.upper) ≡ false
span_is_unlisted x (inl h) = fails_left (is_listed x.lower) (is_listed x.upper) (is_unlisted x.lower h)
span_is_unlisted x (inr h) = fails_right (is_listed x.lower) (is_listed x.upper) (is_unlisted x.upper h)

pub region_unlisted_is : (xs : List Span1) → have_ends xs ≡ false → RegionIsUnlisted xs
region_unlisted_is xs h = any_fails (λ (x : Span1). is_listed x.lower && is_listed x.upper) SpanIsUnlisted span_unlisted_is xs h

pub region_is_unlisted : (xs : List Span1) → RegionIsUnlisted xs → have_ends xs ≡ false
region_is_unlisted xs h = all_fail (λ (x : Span1). is_listed x.lower && is_listed x.upper) SpanIsUnlisted span_is_unlisted xs h

-- ---- symbols

pub same_number : (m n : ℕ) → (m == n) ≡ true → m ≡ n
same_number m n h = grind (arith, nat_tests)

pub number_same : (n : ℕ) → (n == n) ≡ true
number_same n = grind (arith, nat_tests)

pub contains_is : (xs : List ℕ) (i : ℕ) → list_any (λ s. s == i) xs ≡ true → Contains xs i
contains_is xs i h = of (Any-from_list_any (λ s. s == i) xs h)
  where
    of : Any (λ s. (s == i) ≡ true) xs → Contains xs i
    of (k, s, lt, at, e) = subst (λ (j : ℕ). Contains xs j) (same_number s i e) (k, lt, at)

pub is_contained : (xs : List ℕ) (i : ℕ) → Contains xs i → list_any (λ s. s == i) xs ≡ true
is_contained xs i (k, lt, at) = list_any-from_Any (λ s. s == i) xs (k, i, lt, at, number_same i)

pub not_contained : (xs : List ℕ) (i : ℕ) → list_any (λ s. s == i) xs ≡ false → ¬ Contains xs i
not_contained xs i h c = false≢true (sym h ∙ is_contained xs i c)

pub contains_not : (xs : List ℕ) (i : ℕ) → ¬ Contains xs i → list_any (λ s. s == i) xs ≡ false
contains_not xs i h = of (list_any (λ s. s == i) xs) (λ e. h (contains_is xs i e))
  where
    of : (b : Bool) → ¬ (b ≡ true) → b ≡ false
    of true f = absurd (f refl)
    of false f = refl

module _ (symbols : List ℕ) where
  abbrev known : Multiple → Bool
  known t = list_any (λ s. s == t.symbol) symbols

  abbrev Unknown : Multiple → Type 0
  Unknown t = ¬ Contains symbols t.symbol

  pub other_named : (f : Form) → is_over symbols f ≡ false → NamesOther symbols f
  other_named f h = any_fails known Unknown (λ t e. not_contained symbols t.symbol e) f.terms h

  pub names_other : (f : Form) → NamesOther symbols f → is_over symbols f ≡ false
  names_other f h = all_fail known Unknown (λ t e. contains_not symbols t.symbol e) f.terms h

  pub others_named : (fs : List Form) → are_over symbols fs ≡ false → Any (NamesOther symbols) fs
  others_named fs h = any_fails (is_over symbols) (NamesOther symbols) other_named fs h

  pub name_others : (fs : List Form) → Any (NamesOther symbols) fs → are_over symbols fs ≡ false
  name_others fs h = all_fail (is_over symbols) (NamesOther symbols) names_other fs h

  pub span_names : (x : Span1) → (are_over symbols x.lower && are_over symbols x.upper) ≡ false → SpanNamesOther symbols x
  span_names x h = on_either (and_fails (are_over symbols x.lower) (are_over symbols x.upper) h) (λ e. inl (others_named x.lower e)) (λ e. inr (others_named x.upper e))

  pub named_in_span : (x : Span1) → SpanNamesOther symbols x → (are_over symbols x.lower && are_over symbols x.upper) ≡ false
  named_in_span x (inl h) = fails_left (are_over symbols x.lower) (are_over symbols x.upper) (name_others x.lower h)
  named_in_span x (inr h) = fails_right (are_over symbols x.lower) (are_over symbols x.upper) (name_others x.upper h)

  pub region_names : (xs : List Span1) → spans_are_over symbols xs ≡ false → RegionNamesOther symbols xs
  region_names xs h = any_fails (λ (x : Span1). are_over symbols x.lower && are_over symbols x.upper) (SpanNamesOther symbols) span_names xs h

  pub named_in_region : (xs : List Span1) → RegionNamesOther symbols xs → spans_are_over symbols xs ≡ false
  named_in_region xs h = all_fail (λ (x : Span1). are_over symbols x.lower && are_over symbols x.upper) (SpanNamesOther symbols) named_in_span xs h

-- ---- large expressions

pub large_is : (e : Term) → is_small e ≡ false → IsLarge e
large_is e h = on_either (and_fails (nat_le (node_count e) 4096) (nat_le (depth e) 256) h) (λ k. inl (past (node_count e) 4096 k)) (λ k. inr (past (depth e) 256 k))

pub is_large : (e : Term) → IsLarge e → is_small e ≡ false
is_large e (inl h) = fails_left (nat_le (node_count e) 4096) (nat_le (depth e) 256) (is_past (node_count e) 4096 h)
is_large e (inr h) = fails_right (nat_le (node_count e) 4096) (nat_le (depth e) 256) (is_past (depth e) 256 h)
