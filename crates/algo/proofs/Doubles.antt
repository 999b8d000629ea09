-- Names among others.
use Rattle.std.proofs.Common.{◌≡◌, ◌<◌, ◌≤◌, ◌+◌, ℕ, zero, suc, List, [], ◌∷◌, ◌++◌, length, map, take, drop, drop-cons, get_or, Bool, true, false, ◌||◌, Some, refl, ap, sym, ◌∙◌, subst, arith, ◌⊎◌, inl, inr}
use Rattle.std.specs.Prelude.{slice_get}
use Rattle.std.specs.Option.{option_map}
use Rattle.std.proofs.lemmas.Bool.{false≢true}
use Rattle.std.proofs.lemmas.List.{take_all, take_more, map-append, take-map, take-append-drop}
use Rattle.std.proofs.lemmas.Option.{slice_get-map, slice_get_within, slice_get-get_or}
use Rattle.meaning.specs.Names.{same_name, is_among}
use Rattle.meaning.specs.Conditions.{AreDistinct}
use Rattle.meaning.proofs.Cases.{same_name_is, name_same}
use Rattle.algo.specs.Scoping.Doubles.{IsFirstDouble}

some_sig : {A : Type 0} {x y : A} → Some x ≡ Some y → x ≡ y
some_sig e = cc

or_cases : (b c : Bool) → (b || c) ≡ true → (b ≡ true) ⊎ (c ≡ true)
or_cases true c h = inl refl
or_cases false c h = inr h

-- what stands in a list stands in a longer one
stands_left : (xs ys : List (List ℕ)) (i : ℕ) (x : List ℕ) → slice_get xs i ≡ Some x → slice_get (xs ++ ys) i ≡ Some x
stands_left [] ys i x h = cc
stands_left (z ∷ xs) ys zero x h = h
stands_left (z ∷ xs) ys (suc i) x h = stands_left xs ys i x h

stands_at_seam : (xs : List (List ℕ)) (x : List ℕ) → slice_get (xs ++ x ∷ []) (length xs) ≡ Some x
stands_at_seam [] x = refl
stands_at_seam (z ∷ xs) x = stands_at_seam xs x

-- a name of a list with one more is of the list, or the one more
pushed_cases : (xs : List (List ℕ)) (x : List ℕ) (i : ℕ) (y : List ℕ) → slice_get (xs ++ x ∷ []) i ≡ Some y → (slice_get xs i ≡ Some y) ⊎ ((i ≡ length xs) × (x ≡ y))
pushed_cases [] x zero y h = inr (refl, some_sig h)
pushed_cases [] x (suc i) y h = cc
pushed_cases (z ∷ xs) x zero y h = inl h
pushed_cases (z ∷ xs) x (suc i) y h = elim (pushed_cases xs x i y h) [ inl e ↦ inl e | inr e ↦ inr (omega (arith, e.0), e.1) ]

-- a name is among others where it stands at one of their places
pub among_stands : (xs : List (List ℕ)) (x : List ℕ) → is_among xs x ≡ true → (i : ℕ) × (slice_get xs i ≡ Some x)
among_stands [] x h = absurd (false≢true h)
among_stands (z ∷ xs) x h = elim (or_cases (same_name z x) (is_among xs x) h) [
  | inl e ↦ (zero, ap Some (same_name_is z x e))
  | inr e ↦ let s = among_stands xs x e in (suc s.0, s.1)
]

or_true : (b : Bool) → (b || true) ≡ true
or_true true = refl
or_true false = refl

pub stands_among : (xs : List (List ℕ)) (i : ℕ) (x : List ℕ) → slice_get xs i ≡ Some x → is_among xs x ≡ true
stands_among [] i x h = cc
stands_among (z ∷ xs) zero x h = ap (λ b. b || is_among xs x) (name_same z x (some_sig h))
stands_among (z ∷ xs) (suc i) x h = ap (λ b. same_name z x || b) (stands_among xs i x h) ∙ or_true (same_name z x)

pub distinct_none : AreDistinct []
distinct_none i j x p q = cc

pub distinct_left : (xs ys : List (List ℕ)) → AreDistinct (xs ++ ys) → AreDistinct xs
distinct_left xs ys h i j x p q = h i j x (stands_left xs ys i x p) (stands_left xs ys j x q)

pub distinct_take : (xs : List (List ℕ)) (n : ℕ) → AreDistinct xs → AreDistinct (take n xs)
distinct_take xs n h = distinct_left (take n xs) (drop n xs) (subst AreDistinct (sym (take-append-drop n xs)) h)

-- one more name that does not stand before
pub distinct_push : (xs : List (List ℕ)) (x : List ℕ) → AreDistinct xs → is_among xs x ≡ false → AreDistinct (xs ++ x ∷ [])
distinct_push xs x h new i j y p q =
    let old : (k : ℕ) → slice_get xs k ≡ Some y → x ≡ y → ⊥ = λ k s e. false≢true (sym new ∙ ap (is_among xs) e ∙ stands_among xs k y s) in
    elim (pushed_cases xs x i y p) [
      | inl a ↦ elim (pushed_cases xs x j y q) [ inl b ↦ h i j y a b | inr b ↦ absurd (old i a b.1) ]
      | inr a ↦ elim (pushed_cases xs x j y q) [ inl b ↦ absurd (old j b a.1) | inr b ↦ a.0 ∙ sym b.0 ]
    ]

-- one more name that stands before
pub doubled : (xs : List (List ℕ)) (x : List ℕ) → is_among xs x ≡ true → AreDistinct (xs ++ x ∷ []) → ⊥
doubled xs x h distinct =
    let s = among_stands xs x h in
    let same = distinct s.0 (length xs) x (stands_left xs (x ∷ []) s.0 x s.1) (stands_at_seam xs x) in
    omega (arith, same, slice_get_within xs s.0 x s.1)

-- the names of a list of named things
module _ {Z : Type 0} (name_of : Z → List ℕ) where
  names-more : (zs : List Z) (i : ℕ) (z : Z) → i < length zs → z ≡ get_or zs i z → map name_of (take (i + 1) zs) ≡ map name_of (take i zs) ++ name_of z ∷ []
  names-more zs i z lt is = ap (map name_of) (take_more zs i z lt) ∙ map-append name_of (take i zs) (get_or zs i z ∷ []) ∙ ap (λ y. map name_of (take i zs) ++ name_of y ∷ []) (sym is)

  -- a name that none before has leaves the names distinct
  pub distinct_so_far : (zs : List Z) (i : ℕ) (z : Z) → i < length zs → z ≡ get_or zs i z → is_among (map name_of (take i zs)) (name_of z) ≡ false
      → AreDistinct (map name_of (take i zs)) → AreDistinct (map name_of (take (i + 1) zs))
  distinct_so_far zs i z lt is new h = subst AreDistinct (sym (names-more zs i z lt is)) (distinct_push (map name_of (take i zs)) (name_of z) h new)

  -- a name that one before has is the first double
  pub double_found : (zs : List Z) (i : ℕ) (z : Z) → i < length zs → z ≡ get_or zs i z → is_among (map name_of (take i zs)) (name_of z) ≡ true
      → AreDistinct (map name_of (take i zs)) → IsFirstDouble (map name_of zs) i
  double_found zs i z lt is old h =
      record {
        name = name_of z;
        stands = slice_get-map name_of zs i ∙ ap (λ o. option_map name_of o) (slice_get-get_or zs i z lt ∙ ap Some (sym is));
        before = ap (λ l. is_among l (name_of z)) (take-map name_of i zs) ∙ old;
        distinct = subst AreDistinct (sym (take-map name_of i zs)) h;
      }

  pub double_refuses : (zs : List Z) (i : ℕ) (z : Z) → i < length zs → z ≡ get_or zs i z → is_among (map name_of (take i zs)) (name_of z) ≡ true → AreDistinct (map name_of zs) → ⊥
  double_refuses zs i z lt is old h =
      doubled (map name_of (take i zs)) (name_of z) old (subst AreDistinct (take-map name_of (i + 1) zs ∙ names-more zs i z lt is) (distinct_take (map name_of zs) (i + 1) h))

  -- one name of a list answers whether a name is among them
  among_split : (zs : List Z) (i : ℕ) (z : Z) (x : List ℕ) → i < length zs → z ≡ get_or zs i z
      → is_among (map name_of (drop i zs)) x ≡ (same_name (name_of z) x || is_among (map name_of (drop (i + 1) zs)) x)
  among_split zs i z x lt is =
      let next : suc i ≡ i + 1 = omega arith in
      ap (λ l. is_among (map name_of l) x) (drop-cons zs i z lt)
      ∙ ap (λ y. same_name (name_of y) x || is_among (map name_of (drop (suc i) zs)) x) (sym is)
      ∙ ap (λ j. same_name (name_of z) x || is_among (map name_of (drop j zs)) x) next

  pub among_found : (zs : List Z) (i : ℕ) (z : Z) (x : List ℕ) → i < length zs → z ≡ get_or zs i z → same_name (name_of z) x ≡ true
      → is_among (map name_of (drop i zs)) x ≡ is_among (map name_of zs) x → true ≡ is_among (map name_of zs) x
  among_found zs i z x lt is same rest = sym (sym rest ∙ among_split zs i z x lt is ∙ ap (λ b. b || is_among (map name_of (drop (i + 1) zs)) x) same)

  pub among_passed : (zs : List Z) (i : ℕ) (z : Z) (x : List ℕ) → i < length zs → z ≡ get_or zs i z → same_name (name_of z) x ≡ false
      → is_among (map name_of (drop i zs)) x ≡ is_among (map name_of zs) x → is_among (map name_of (drop (i + 1) zs)) x ≡ is_among (map name_of zs) x
  among_passed zs i z x lt is other rest = sym (ap (λ b. b || is_among (map name_of (drop (i + 1) zs)) x) other) ∙ sym (among_split zs i z x lt is) ∙ rest

  -- when all are seen
  pub distinct_whole : (zs : List Z) (i : ℕ) → length zs ≤ i → AreDistinct (map name_of (take i zs)) → AreDistinct (map name_of zs)
  distinct_whole zs i h = subst (λ l. AreDistinct (map name_of l)) (take_all i zs h)
