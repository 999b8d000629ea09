-- Turns of loops and points of regions, and the places of coordinates.
use Rattle.std.proofs.Common.{◌≡◌, ℕ, zero, suc, Bool, true, false, List, [], ◌∷◌, ◌++◌, map, Option, Some, None, refl, sym, subst, inl, inr, arith}
use Rattle.std.specs.Prelude.{ℤ, pos, negsuc, ◌+ℤ◌, ◌-ℤ◌, ◌≤ℤ◌, ◌<ℤ◌, IsSome, if◌then◌else◌, ◌⊎◌, flat_map, nat_lt}
use Rattle.std.proofs.lemmas.Bool.Decides.{nat_tests}
use Rattle.std.proofs.lemmas.Int.{ints, by_lt_z}
use Rattle.lin.specs.declared.span.Span1.{Span1}
use Rattle.plan.specs.Symbols.{Symbols, rising, clipped, turns, points, largest, smallest}
use Rattle.plan.specs.Rooms.{below, joined}
use Rattle.soundness.specs.Claims.{In, EachTurn, Fact}

pub each_turn : (P : ℤ → List Fact → Type 0) (next : ℤ → List Fact → List Fact) (zs : List ℤ) (carried : List Fact) → ((z : ℤ) → In z zs → (c : List Fact) → P z c) → EachTurn P next carried zs
each_turn P next [] carried h = tt
each_turn P next (z ∷ zs) carried h = (h z (inl refl) carried, each_turn P next zs (next z carried) (λ y m. h y (inr m)))

rising_bounds : (n : ℕ) (low z : ℤ) → In z (rising low n) → (low ≤ℤ z) × (z <ℤ (low +ℤ pos n))
rising_bounds zero low z m = absurd m
rising_bounds (suc n) low z (inl e) = (omega (arith, ints), omega (arith, ints))
rising_bounds (suc n) low z (inr m) = let k = rising_bounds n (low +ℤ pos 1) z m in (omega (arith, ints), omega (arith, ints))

rising_has : (n : ℕ) (low z : ℤ) → low ≤ℤ z → z <ℤ (low +ℤ pos n) → In z (rising low n)
rising_has zero low z h k = absurd (omega (arith, ints))
rising_has (suc n) low z h k = by_lt_z low z (λ l. inr (rising_has n (low +ℤ pos 1) z (omega (arith, ints)) (omega (arith, ints)))) (λ l. inl (omega (arith, ints)))

clip_in : (w low high z : ℤ) → w ≡ (high +ℤ pos 1) -ℤ low → In z (rising low (clipped w)) → (low ≤ℤ z) × (z ≤ℤ high)
clip_in (pos n) low high z e m = let k = rising_bounds n low z m in (k.0, omega (arith, ints, k.1))
clip_in (negsuc n) low high z e m = absurd m

clip_has : (w low high z : ℤ) → w ≡ (high +ℤ pos 1) -ℤ low → low ≤ℤ z → z ≤ℤ high → In z (rising low (clipped w))
clip_has (pos n) low high z e h k = rising_has n low z h (omega (arith, ints))
clip_has (negsuc n) low high z e h k = absurd (omega (arith, ints))

-- the turns of a span whose ends are known
pub turns_within : (s : Symbols) (x : Span1) (low high z : ℤ) → largest s x.lower ≡ low → smallest s x.upper ≡ high → In z (turns s x) → (low ≤ℤ z) × (z ≤ℤ high)
turns_within s x low high z e f m =
    let k = clip_in _ (largest s x.lower) (smallest s x.upper) z refl m in
    (subst (λ l. l ≤ℤ z) e k.0, subst (λ u. z ≤ℤ u) f k.1)

pub turns_have : (s : Symbols) (x : Span1) (low high z : ℤ) → largest s x.lower ≡ low → smallest s x.upper ≡ high → low ≤ℤ z → z ≤ℤ high → In z (turns s x)
turns_have s x low high z e f h k = clip_has _ (largest s x.lower) (smallest s x.upper) z refl (subst (λ l. l ≤ℤ z) (sym e) h) (subst (λ u. z ≤ℤ u) (sym f) k)

pub in_append : {A : Type 0} (x : A) (xs ys : List A) → In x (xs ++ ys) → In x xs ⊎ In x ys
in_append x [] ys m = inr m
in_append x (y ∷ xs) ys (inl e) = inl (inl e)
in_append x (y ∷ xs) ys (inr m) = of (in_append x xs ys m)
  where
    of : In x xs ⊎ In x ys → In x (y ∷ xs) ⊎ In x ys
    of (inl n) = inl (inr n)
    of (inr n) = inr n

pub in_flat : {A B : Type 0} (f : A → List B) (y : B) (xs : List A) → In y (flat_map f xs) → (x : A) × In x xs × In y (f x)
in_flat f y [] m = absurd m
in_flat f y (x ∷ xs) m = of (in_append y (f x) (flat_map f xs) m) (λ n. in_flat f y xs n)
  where
    of : In y (f x) ⊎ In y (flat_map f xs) → (In y (flat_map f xs) → (z : _) × In z xs × In y (f z)) → (z : _) × In z (x ∷ xs) × In y (f z)
    of (inl n) rest = (x, inl refl, n)
    of (inr n) rest = let k = rest n in (k.0, inr k.1, k.2)

pub in_map : {A B : Type 0} (f : A → B) (y : B) (xs : List A) → In y (map f xs) → (x : A) × In x xs × (y ≡ f x)
in_map f y [] m = absurd m
in_map f y (x ∷ xs) (inl e) = (x, inl refl, e)
in_map f y (x ∷ xs) (inr m) = let k = in_map f y xs m in (k.0, inr k.1, k.2)

-- the first coordinate of a point of a region, and the rest
pub point_parts : (s : Symbols) (x : Span1) (xs : List Span1) (p : List ℤ) → In p (points s (x ∷ xs)) → (z : ℤ) × (q : List ℤ) × (p ≡ z ∷ q) × In z (turns s x) × In q (points s xs)
point_parts s x xs p m =
    let a = in_flat (λ q. map (λ z. z ∷ q) (turns s x)) p (points s xs) m in
    let b = in_map (λ z. z ∷ a.0) p (turns s x) a.2 in
    (b.0, a.0, b.2, b.1, a.1)

pub only_nil : (q : List ℤ) → In q ([] ∷ []) → q ≡ []
only_nil q (inl e) = e
only_nil q (inr m) = absurd m

pub below_some : (n k : ℕ) (z : ℤ) → below n z ≡ Some k → z ≡ pos k
below_some n k (pos j) e = of (nat_lt j n) e
  where
    of : (v : Bool) → (if v then Some j else None) ≡ Some k → pos j ≡ pos k
    of true e = cc
    of false e = absurd (cc e)
below_some n k (negsuc j) e = absurd (cc e)

pub below_has : (n : ℕ) (z : ℤ) → pos 0 ≤ℤ z → z <ℤ pos n → IsSome (below n z)
below_has n (pos k) h l = let lt : nat_lt k n ≡ true = grind (arith, nat_tests, ints) in rw lt refl
below_has n (negsuc k) h l = absurd (omega (arith, ints))

pub joined_some : (a : Option ℕ) (b : Option (List ℕ)) → IsSome a → IsSome b → IsSome (joined a b)
joined_some None b h k = absurd (cc h)
joined_some (Some i) None h k = absurd (cc k)
joined_some (Some i) (Some ks) h k = refl

pub joined_parts : (a : Option ℕ) (b : Option (List ℕ)) (k : ℕ) (ks : List ℕ) → joined a b ≡ Some (k ∷ ks) → (a ≡ Some k) × (b ≡ Some ks)
joined_parts None b k ks e = absurd (cc e)
joined_parts (Some i) None k ks e = absurd (cc e)
joined_parts (Some i) (Some is) k ks e = let l : i ∷ is ≡ k ∷ ks = cc in (cc, cc)

pub joined_none : (a : Option ℕ) (b : Option (List ℕ)) → joined a b ≡ Some [] → ⊥
joined_none None b e = cc e
joined_none (Some i) None e = cc e
joined_none (Some i) (Some is) e = cc e
