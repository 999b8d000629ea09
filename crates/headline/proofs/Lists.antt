-- Places in lists that are joined end to end.
use Rattle.std.proofs.Common.{◌≡◌, ℕ, zero, suc, ◌+◌, ◌*◌, ◌<◌, List, [], ◌∷◌, ◌++◌, length, map, Some, refl, sym, ap, ◌∙◌, subst, inl, inr, arith}
use Rattle.std.specs.Prelude.{ℤ, ◌⊎◌, slice_get, flat_map, option_map}
use Rattle.std.proofs.Math.Nat.{mul-suc}
use Rattle.std.proofs.lemmas.List.{length-map}

pub at_left : {A : Type 0} (xs ys : List A) (n : ℕ) (x : A) → slice_get xs n ≡ Some x → slice_get (xs ++ ys) n ≡ Some x
at_left [] ys n x e = absurd (cc)
at_left (y ∷ xs) ys zero x e = e
at_left (y ∷ xs) ys (suc n) x e = at_left xs ys n x e

pub at_right : {A : Type 0} (xs ys : List A) (n i : ℕ) → n ≡ length xs + i → slice_get (xs ++ ys) n ≡ slice_get ys i
at_right [] ys n i e = let same : n ≡ i = omega arith in ap (slice_get ys) same
at_right (x ∷ xs) ys zero i e = absurd (omega arith)
at_right (x ∷ xs) ys (suc n) i e = at_right xs ys n i (omega arith)

-- a place of two lists joined is one of the first or of the second
abbrev pub Parted : {A : Type 0} → List A → List A → ℕ → A → Type 0
Parted xs ys n x = (slice_get xs n ≡ Some x) ⊎ ((i : ℕ) × (n ≡ length xs + i) × (slice_get ys i ≡ Some x))

pub parted : {A : Type 0} (xs ys : List A) (n : ℕ) (x : A) → slice_get (xs ++ ys) n ≡ Some x → Parted xs ys n x
parted [] ys n x e = inr (n, omega arith, e)
parted (y ∷ xs) ys zero x e = inl e
parted {A} (y ∷ xs) ys (suc n) x e = on (parted xs ys n x e)
  where
    on : Parted xs ys n x → Parted (y ∷ xs) ys (suc n) x
    on (inl k) = inl k
    on (inr k) = let e : n ≡ length xs + k.0 = k.1 in inr (k.0, omega arith, k.2)

pub at_below : {A : Type 0} (xs : List A) (n : ℕ) → n < length xs → (x : A) × (slice_get xs n ≡ Some x)
at_below [] n h = absurd (omega arith)
at_below (x ∷ xs) zero h = (x, refl)
at_below (x ∷ xs) (suc n) h = at_below xs n (omega arith)

some_is : {A : Type 0} (x y : A) → Some x ≡ Some y → x ≡ y
some_is x y e = cc

-- the place of what a map gives
pub at_map : {A B : Type 0} (f : A → B) (xs : List A) (n : ℕ) (x : A) → slice_get xs n ≡ Some x → slice_get (map f xs) n ≡ Some (f x)
at_map f [] n x e = absurd (cc)
at_map f (y ∷ xs) zero x e = ap (option_map f) e
at_map f (y ∷ xs) (suc n) x e = at_map f xs n x e

pub from_map : {A B : Type 0} (f : A → B) (xs : List A) (n : ℕ) (y : B) → slice_get (map f xs) n ≡ Some y → (x : A) × (slice_get xs n ≡ Some x) × (y ≡ f x)
from_map f [] n y e = absurd (cc)
from_map f (x ∷ xs) zero y e = (x, refl, sym (some_is (f x) y e))
from_map f (x ∷ xs) (suc n) y e = from_map f xs n y e

-- ---- rows one after another: each first coordinate with each rest, the first fastest

abbrev pub row : List ℤ → List ℤ → List (List ℤ)
row ts q = map (λ z. z ∷ q) ts

abbrev pub rows : List ℤ → List (List ℤ) → List (List ℤ)
rows ts ps = flat_map (λ q. map (λ z. z ∷ q) ts) ps

pub at_rows : (ts : List ℤ) (ps : List (List ℤ)) (i j n : ℕ) (z : ℤ) (q : List ℤ) → slice_get ts i ≡ Some z → slice_get ps j ≡ Some q → n ≡ i + length ts * j → slice_get (rows ts ps) n ≡ Some (z ∷ q)
at_rows ts [] i j n z q e f h = absurd (cc)
at_rows ts (p ∷ ps) i zero n z q e f h =
    let same : p ≡ q = cc in
    let first : n ≡ i = omega arith in
    at_left (row ts p) (rows ts ps) n (z ∷ q) (ap (slice_get (row ts p)) first ∙ at_map (λ z. z ∷ p) ts i z e ∙ ap (λ r. Some (z ∷ r)) same)
at_rows ts (p ∷ ps) i (suc j) n z q e f h =
    let more : length ts * suc j ≡ length ts * j + length ts = mul-suc (length ts) j in
    let long : length (row ts p) ≡ length ts = length-map ts (λ z. z ∷ p) in
    at_right (row ts p) (rows ts ps) n (i + length ts * j) (omega arith) ∙ at_rows ts ps i j (i + length ts * j) z q e f refl

-- where a place of the rows is
pub record InRows (ts : List ℤ) (ps : List (List ℤ)) (n : ℕ) (r : List ℤ) : Type 0 where
  pub i : ℕ
  pub j : ℕ
  pub z : ℤ
  pub q : List ℤ
  pub first : slice_get ts i ≡ Some z
  pub rest : slice_get ps j ≡ Some q
  pub number : n ≡ i + length ts * j
  pub is : r ≡ z ∷ q

pub in_rows : (ts : List ℤ) (ps : List (List ℤ)) (n : ℕ) (r : List ℤ) → slice_get (rows ts ps) n ≡ Some r → InRows ts ps n r
in_rows ts [] n r e = absurd (cc)
in_rows ts (p ∷ ps) n r e = of (parted (row ts p) (rows ts ps) n r e) (λ m k. in_rows ts ps m r k)
  where
    of : Parted (row ts p) (rows ts ps) n r → ((m : ℕ) → slice_get (rows ts ps) m ≡ Some r → InRows ts ps m r) → InRows ts (p ∷ ps) n r
    of (inl k) rest = let a = from_map (λ z. z ∷ p) ts n r k in
        record { i = n; j = 0; z = a.0; q = p; first = a.1; rest = refl; number = omega arith; is = a.2 }
    of (inr k) rest =
        let a = rest k.0 k.2 in
        let more : length ts * suc a.j ≡ length ts * a.j + length ts = mul-suc (length ts) a.j in
        let long : length (row ts p) ≡ length ts = length-map ts (λ z. z ∷ p) in
        let here : n ≡ length (row ts p) + k.0 = k.1 in
        let there : k.0 ≡ a.i + length ts * a.j = a.number in
        record { i = a.i; j = suc a.j; z = a.z; q = a.q; first = a.first; rest = a.rest; number = omega arith; is = a.is }

-- ---- what groups give, one after another

module _ {G A : Type 0} (count : G → ℕ) (f : ℕ → G → List A) where
  abbrev pub blocks : ℕ → List G → List A
  blocks k [] = []
  blocks k (g ∷ gs) = f k g ++ blocks (k + 1) gs

  abbrev pub offset : List G → ℕ → ℕ
  offset [] m = 0
  offset (g ∷ gs) zero = 0
  offset (g ∷ gs) (suc m) = count g + offset gs m

  pub at_blocks : ((k : ℕ) (g : G) → length (f k g) ≡ count g) → (gs : List G) (k m r n j : ℕ) (g : G) (x : A) → slice_get gs m ≡ Some g → j ≡ k + m → slice_get (f j g) r ≡ Some x → n ≡ offset gs m + r → slice_get (blocks k gs) n ≡ Some x
  at_blocks long [] k m r n j g x e d h num = absurd (cc)
  at_blocks long (y ∷ gs) k zero r n j g x e d h num =
      let same : y ≡ g = cc in
      let this : k ≡ j = omega arith in
      let here : n ≡ r = omega arith in
      at_left (f k y) (blocks (k + 1) gs) n x ((λ i. slice_get (f (this i) (same i)) (here i)) ∙ h)
  at_blocks long (y ∷ gs) k (suc m) r n j g x e d h num =
      let size : length (f k y) ≡ count y = long k y in
      at_right (f k y) (blocks (k + 1) gs) n (offset gs m + r) (omega arith) ∙ at_blocks long gs (k + 1) m r (offset gs m + r) j g x e (omega arith) h refl

  -- where a place of the blocks is
  pub record InBlocks (k : ℕ) (gs : List G) (n : ℕ) (x : A) : Type 0 where
    pub m : ℕ
    pub r : ℕ
    pub g : G
    pub block : slice_get gs m ≡ Some g
    pub place : slice_get (f (k + m) g) r ≡ Some x
    pub number : n ≡ offset gs m + r

  pub in_blocks : ((k : ℕ) (g : G) → length (f k g) ≡ count g) → (gs : List G) (k n : ℕ) (x : A) → slice_get (blocks k gs) n ≡ Some x → InBlocks k gs n x
  in_blocks long [] k n x e = absurd (cc)
  in_blocks long (y ∷ gs) k n x e = of (parted (f k y) (blocks (k + 1) gs) n x e) (λ i h. in_blocks long gs (k + 1) i x h)
    where
      of : Parted (f k y) (blocks (k + 1) gs) n x → ((i : ℕ) → slice_get (blocks (k + 1) gs) i ≡ Some x → InBlocks (k + 1) gs i x) → InBlocks k (y ∷ gs) n x
      of (inl h) rest =
          let this : k ≡ k + 0 = omega arith in
          record { m = 0; r = n; g = y; block = refl; place = subst (λ j. slice_get (f j y) n ≡ Some x) this h; number = omega arith }
      of (inr h) rest =
          let a = rest h.0 h.2 in
          let size : length (f k y) ≡ count y = long k y in
          let here : n ≡ length (f k y) + h.0 = h.1 in
          let there : h.0 ≡ offset gs a.m + a.r = a.number in
          let this : (k + 1) + a.m ≡ k + suc a.m = omega arith in
          record { m = suc a.m; r = a.r; g = a.g; block = a.block; place = subst (λ j. slice_get (f j a.g) a.r ≡ Some x) this a.place; number = omega arith }
