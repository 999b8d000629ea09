-- Sums over numbers and over the values of symbols, each as often as its weight says.
use Rattle.std.proofs.Common.{◌≡◌, ℕ, zero, suc, ◌+◌, ◌*◌, ◌^◌, ◌-◌, ◌<◌, ◌≤◌, Bool, true, false, List, [], ◌∷◌, ◌++◌, length, map, flat_map, get_or, replicate, refl, sym, ap, ◌∙◌, subst}
use Rattle.std.proofs.Common.{arith, ℤ, pos, ◌+ℤ◌}
use Rattle.std.proofs.Math.ListN.{set}
use Rattle.std.proofs.Math.Nat.{mul_comm}
use Rattle.std.specs.Prelude.{if◌then◌else◌, sum, sum_by}
use Rattle.std.specs.List.{AllByRecursion}
use Rattle.std.specs.Ordering.{int_eq}
use Rattle.std.proofs.lemmas.Int.{ints}
use Rattle.std.proofs.lemmas.List.Concat.{flat_map-cons}
use Rattle.std.proofs.lemmas.List.Sums.{sum_by-append, sum_by-cons, sum_by_push, sum-map}
use Rattle.plan.specs.Symbols.{rising}
use Rattle.report.specs.Costs.{capped, up_to}
use Rattle.report.specs.Weighing.{all_weights, weight_of, weighted, weighted_all, Weighed}
use Rattle.report.proofs.Sums.{both_up_to, saturated}

-- ---- products as far as a limit

spread : (w a b : ℕ) → w * (a + b) ≡ w * a + w * b
spread zero a b = omega arith
spread (suc w) a b =
    let h : w * (a + b) ≡ w * a + w * b = spread w a b in
    let e : suc w * (a + b) ≡ (a + b) + w * (a + b) = omega arith in
    let f : suc w * a ≡ a + w * a = omega arith in
    let g : suc w * b ≡ b + w * b = omega arith in
    omega (arith, h, e, f, g)

spread_left : (v w a : ℕ) → (v + w) * a ≡ v * a + w * a
spread_left v w a = mul_comm (v + w) a ∙ spread a v w ∙ (λ j. mul_comm a v j + mul_comm a w j)

pub times_up_to : (m w a b : ℕ) → up_to m a ≡ up_to m b → up_to m (w * a) ≡ up_to m (w * b)
times_up_to m zero a b e = let p : 0 * a ≡ 0 * b = omega arith in ap (up_to m) p
times_up_to m (suc w) a b e =
    let p : suc w * a ≡ a + w * a = omega arith in
    let q : suc w * b ≡ b + w * b = omega arith in
    ap (up_to m) p ∙ both_up_to m a (w * a) b (w * b) e (times_up_to m w a b e) ∙ ap (up_to m) (sym q)

limit_lower : (m a b : ℕ) → m < 2 ^ 64 → capped a ≡ capped b → up_to m a ≡ up_to m b
limit_lower m a b h e = omega arith

-- a factor that stopped at the greatest number
pub capped_times : (m p c : ℕ) → m < 2 ^ 64 → up_to m (capped p * c) ≡ up_to m (p * c)
capped_times m p c h = limit_lower m (capped p * c) (p * c) h (saturated p c (2 ^ 64 - 1))

-- ---- sums over numbers

pub weighted_alike : (m : ℕ) (f h : ℤ → ℕ) → ((z : ℤ) → up_to m (f z) ≡ up_to m (h z)) → (low : ℤ) (ws : List ℕ) → up_to m (weighted f low ws) ≡ up_to m (weighted h low ws)
weighted_alike m f h e low [] = refl
weighted_alike m f h e low (w ∷ ws) =
    both_up_to m (w * f low) (weighted f (low +ℤ pos 1) ws) (w * h low) (weighted h (low +ℤ pos 1) ws) (times_up_to m w (f low) (h low) (e low)) (weighted_alike m f h e (low +ℤ pos 1) ws)

pub weighted_add : (f h : ℤ → ℕ) (low : ℤ) (ws : List ℕ) → weighted (λ z. f z + h z) low ws ≡ weighted f low ws + weighted h low ws
weighted_add f h low [] = omega arith
weighted_add f h low (w ∷ ws) =
    let e : w * (f low + h low) ≡ w * f low + w * h low = spread w (f low) (h low) in
    let k : weighted (λ z. f z + h z) (low +ℤ pos 1) ws ≡ weighted f (low +ℤ pos 1) ws + weighted h (low +ℤ pos 1) ws = weighted_add f h (low +ℤ pos 1) ws in
    (λ j. e j + k j) ∙ shuffled (w * f low) (w * h low) (weighted f (low +ℤ pos 1) ws) (weighted h (low +ℤ pos 1) ws)
  where
    shuffled : (a b c d : ℕ) → a + b + (c + d) ≡ a + c + (b + d)
    shuffled a b c d = omega arith

pub weighted_none : (f : ℤ → ℕ) → ((z : ℤ) → f z ≡ 0) → (low : ℤ) (ws : List ℕ) → weighted f low ws ≡ 0
weighted_none f h low [] = refl
weighted_none f h low (w ∷ ws) =
    let e : w * 0 ≡ 0 = omega arith in
    (λ j. (ap (λ (n : ℕ). w * n) (h low) ∙ e) j + weighted_none f h (low +ℤ pos 1) ws j)

sum_head : (w : ℕ) (ws : List ℕ) → sum (w ∷ ws) ≡ w + sum ws
sum_head w ws = sum-cons w ws
  where
    sum-cons : (w : ℕ) (ws : List ℕ) → sum (w ∷ ws) ≡ w + sum ws
    sum-cons w ws =
        ap (λ (l : List ℕ). sum (w ∷ l)) (sym (map-same ws))
        ∙ sum-map (λ n. n) (w ∷ ws) ∙ sum_by-cons (λ n. n) w ws
        ∙ ap (λ (n : ℕ). w + n) (sym (sum-map (λ n. n) ws) ∙ ap sum (map-same ws))
      where
        map-same : (l : List ℕ) → map (λ n. n) l ≡ l
        map-same [] = refl
        map-same (n ∷ l) = ap (λ (k : List ℕ). n ∷ k) (map-same l)

pub weighted_same : (c : ℕ) (low : ℤ) (ws : List ℕ) → weighted (λ z. c) low ws ≡ sum ws * c
weighted_same c low [] = let e : 0 * c ≡ 0 = omega arith in sym e
weighted_same c low (w ∷ ws) = ap (λ (n : ℕ). w * c + n) (weighted_same c (low +ℤ pos 1) ws) ∙ sym (spread_left w (sum ws) c) ∙ ap (λ (n : ℕ). n * c) (sym (sum_head w ws))

-- one number more
pub weighted_push : (f : ℤ → ℕ) (low : ℤ) (ws : List ℕ) (w : ℕ) → weighted f low (ws ++ w ∷ []) ≡ weighted f low ws + w * f (low +ℤ pos (length ws))
weighted_push f low [] w =
    let e : low ≡ low +ℤ pos 0 = omega (arith, ints) in
    let k : w * f low + 0 ≡ 0 + w * f low = omega arith in
    k ∙ ap (λ (z : ℤ). 0 + w * f z) e
weighted_push f low (v ∷ ws) w =
    let e : low +ℤ pos 1 +ℤ pos (length ws) ≡ low +ℤ pos (suc (length ws)) = omega (arith, ints) in
    ap (λ (n : ℕ). v * f low + n) (weighted_push f (low +ℤ pos 1) ws w ∙ ap (λ (z : ℤ). weighted f (low +ℤ pos 1) ws + w * f z) e)
    ∙ joined (v * f low) (weighted f (low +ℤ pos 1) ws) (w * f (low +ℤ pos (suc (length ws))))
  where
    joined : (a b c : ℕ) → a + (b + c) ≡ a + b + c
    joined a b c = omega arith

-- each number once
pub weighted_ones : (f : ℤ → ℕ) (low : ℤ) (n : ℕ) → weighted f low (replicate n 1) ≡ sum_by f (rising low n)
weighted_ones f low zero = refl
weighted_ones f low (suc n) =
    let e : 1 * f low ≡ f low = omega arith in
    (λ j. e j + weighted_ones f (low +ℤ pos 1) n j) ∙ sym (sum_by-cons f low (rising (low +ℤ pos 1) n))

pub weighted_zeros : (f : ℤ → ℕ) (low : ℤ) (n : ℕ) → weighted f low (replicate n 0) ≡ 0
weighted_zeros f low zero = refl
weighted_zeros f low (suc n) =
    let e : 0 * f low ≡ 0 = omega arith in
    (λ j. e j + weighted_zeros f (low +ℤ pos 1) n j)

-- a number weighs more
pub weighted_more : (m w : ℕ) (g : ℤ → ℕ) → m < 2 ^ 64 → (ws : List ℕ) (k : ℕ) (low : ℤ) → k < length ws →
    up_to m (weighted g low (set ws k (capped (get_or ws k 0 + w)))) ≡ up_to m (weighted g low ws + w * g (low +ℤ pos k))
weighted_more m w g small [] k low lt = absurd (omega arith)
weighted_more m w g small (v ∷ ws) zero low lt =
    let e : low ≡ low +ℤ pos 0 = omega (arith, ints) in
    let rest : ℕ = weighted g (low +ℤ pos 1) ws in
    both_up_to m (capped (v + w) * g low) rest ((v + w) * g low) rest (capped_times m (v + w) (g low) small) refl
    ∙ ap (λ (n : ℕ). up_to m (n + rest)) (spread_left v w (g low))
    ∙ ap (up_to m) (swapped (v * g low) (w * g low) rest)
    ∙ ap (λ (z : ℤ). up_to m (v * g low + rest + w * g z)) e
  where
    swapped : (a b c : ℕ) → a + b + c ≡ a + c + b
    swapped a b c = omega arith
weighted_more m w g small (v ∷ ws) (suc k) low lt =
    let e : low +ℤ pos 1 +ℤ pos k ≡ low +ℤ pos (suc k) = omega (arith, ints) in
    let rest : ℕ = weighted g (low +ℤ pos 1) ws in
    both_up_to m (v * g low) (weighted g (low +ℤ pos 1) (set ws k (capped (get_or ws k 0 + w)))) (v * g low) (rest + w * g (low +ℤ pos 1 +ℤ pos k)) refl
    (weighted_more m w g small ws k (low +ℤ pos 1) (omega arith))
    ∙ ap (λ (z : ℤ). up_to m (v * g low + (rest + w * g z))) e
    ∙ ap (up_to m) (joined (v * g low) rest (w * g (low +ℤ pos (suc k))))
  where
    joined : (a b c : ℕ) → a + (b + c) ≡ a + b + c
    joined a b c = omega arith

rising_push : (n : ℕ) (low : ℤ) → rising low (suc n) ≡ rising low n ++ (low +ℤ pos n) ∷ []
rising_push zero low = let e : low ≡ low +ℤ pos 0 = omega (arith, ints) in ap (λ (z : ℤ). z ∷ []) e
rising_push (suc n) low =
    let e : low +ℤ pos 1 +ℤ pos n ≡ low +ℤ pos (suc n) = omega (arith, ints) in
    ap (λ (l : List ℤ). low ∷ l) (rising_push n (low +ℤ pos 1) ∙ ap (λ (z : ℤ). rising (low +ℤ pos 1) n ++ z ∷ []) e)

-- the numbers at these places weigh more, and one more does
pub added_more : (m w : ℕ) (g : ℤ → ℕ) (low : ℤ) (from place : ℕ) (old now new : List ℕ) → m < 2 ^ 64 → from ≤ place → place < length now → new ≡ set now place (capped (get_or now place 0 + w))
    → up_to m (weighted g low now) ≡ up_to m (weighted g low old + w * sum_by g (rising (low +ℤ pos from) (place - from)))
    → up_to m (weighted g low new) ≡ up_to m (weighted g low old + w * sum_by g (rising (low +ℤ pos from) (place + 1 - from)))
added_more m w g low from place old now new small le lt is h =
    let n : ℕ = place - from in
    let z : ℤ = low +ℤ pos from in
    let a : place + 1 - from ≡ suc n = omega (arith, le) in
    let b : z +ℤ pos n ≡ low +ℤ pos place = omega (arith, ints, le) in
    let c : sum_by g (rising z (place + 1 - from)) ≡ sum_by g (rising z n) + g (low +ℤ pos place) =
    ap (λ (k : ℕ). sum_by g (rising z k)) a ∙ ap (sum_by g) (rising_push n z) ∙ sum_by_push g (rising z n) (z +ℤ pos n) ∙ ap (λ (y : ℤ). sum_by g (rising z n) + g y) b in
    let d : w * sum_by g (rising z (place + 1 - from)) ≡ w * sum_by g (rising z n) + w * g (low +ℤ pos place) = ap (λ (k : ℕ). w * k) c ∙ spread w (sum_by g (rising z n)) (g (low +ℤ pos place)) in
    ap (λ (l : List ℕ). up_to m (weighted g low l)) is
    ∙ weighted_more m w g small now place low lt
    ∙ both_up_to m (weighted g low now) (w * g (low +ℤ pos place)) (weighted g low old + w * sum_by g (rising z n)) (w * g (low +ℤ pos place)) h refl
    ∙ ap (up_to m) (joined (weighted g low old) (w * sum_by g (rising z n)) (w * g (low +ℤ pos place)) ∙ ap (λ (k : ℕ). weighted g low old + k) (sym d))
  where
    joined : (a b c : ℕ) → a + b + c ≡ a + (b + c)
    joined a b c = omega arith

-- none does yet
pub added_none : (m w : ℕ) (g : ℤ → ℕ) (low : ℤ) (from : ℕ) (old : List ℕ) → up_to m (weighted g low old) ≡ up_to m (weighted g low old + w * sum_by g (rising (low +ℤ pos from) (from - from)))
added_none m w g low from old =
    let e : from - from ≡ 0 = omega arith in
    let z : w * 0 ≡ 0 = omega arith in
    let k : weighted g low old ≡ weighted g low old + 0 = omega arith in
    ap (up_to m) (k ∙ ap (λ (n : ℕ). weighted g low old + n) (sym (ap (λ (n : ℕ). w * sum_by g (rising (low +ℤ pos from) n)) e ∙ z)))

-- ---- sums over lists

pub sum_flat : {X Y : Type 0} (g : Y → ℕ) (h : X → List Y) (xs : List X) → sum_by g (flat_map h xs) ≡ sum_by (λ x. sum_by g (h x)) xs
sum_flat g h [] = refl
sum_flat g h (x ∷ xs) =
    ap (sum_by g) (flat_map-cons h x xs)
    ∙ sum_by-append g (h x) (flat_map h xs)
    ∙ ap (λ (n : ℕ). sum_by g (h x) + n) (sum_flat g h xs)
    ∙ sym (sum_by-cons (λ y. sum_by g (h y)) x xs)

pub sum_map : {X Y : Type 0} (g : Y → ℕ) (h : X → Y) (xs : List X) → sum_by g (map h xs) ≡ sum_by (λ x. g (h x)) xs
sum_map g h [] = refl
sum_map g h (x ∷ xs) = sum_by-cons g (h x) (map h xs) ∙ ap (λ (n : ℕ). g (h x) + n) (sum_map g h xs) ∙ sym (sum_by-cons (λ y. g (h y)) x xs)

pub sum_same : {X : Type 0} (f g : X → ℕ) (xs : List X) → AllByRecursion (λ x. f x ≡ g x) xs → sum_by f xs ≡ sum_by g xs
sum_same f g [] h = refl
sum_same f g (x ∷ xs) h = sum_by-cons f x xs ∙ (λ j. h.0 j + sum_same f g xs h.1 j) ∙ sym (sum_by-cons g x xs)

pub sum_alike : {X : Type 0} (m : ℕ) (f g : X → ℕ) (xs : List X) → AllByRecursion (λ x. up_to m (f x) ≡ up_to m (g x)) xs → up_to m (sum_by f xs) ≡ up_to m (sum_by g xs)
sum_alike m f g [] h = refl
sum_alike m f g (x ∷ xs) h =
    ap (up_to m) (sum_by-cons f x xs)
    ∙ both_up_to m (f x) (sum_by f xs) (g x) (sum_by g xs) h.0 (sum_alike m f g xs h.1)
    ∙ ap (up_to m) (sym (sum_by-cons g x xs))

pub sum_add : {X : Type 0} (f g : X → ℕ) (xs : List X) → sum_by (λ x. f x + g x) xs ≡ sum_by f xs + sum_by g xs
sum_add f g [] = omega arith
sum_add f g (x ∷ xs) =
    sum_by-cons (λ y. f y + g y) x xs
    ∙ ap (λ (n : ℕ). f x + g x + n) (sum_add f g xs)
    ∙ shuffled (f x) (g x) (sum_by f xs) (sum_by g xs)
    ∙ (λ j. sym (sum_by-cons f x xs) j + sym (sum_by-cons g x xs) j)
  where
    shuffled : (a b c d : ℕ) → a + b + (c + d) ≡ a + c + (b + d)
    shuffled a b c d = omega arith

pub all_both : {X : Type 0} {P Q R : X → Type 0} (xs : List X) → ((x : X) → P x → Q x → R x) → AllByRecursion P xs → AllByRecursion Q xs → AllByRecursion R xs
all_both [] f p q = tt
all_both (x ∷ xs) f p q = (f x p.0 q.0, all_both xs f p.1 q.1)

pub all_append : {X : Type 0} (P : X → Type 0) (xs ys : List X) → AllByRecursion P xs → AllByRecursion P ys → AllByRecursion P (xs ++ ys)
all_append P [] ys p q = q
all_append P (x ∷ xs) ys p q = (p.0, all_append P xs ys p.1 q)

pub all_flat : {X Y : Type 0} (P : Y → Type 0) (h : X → List Y) (xs : List X) → AllByRecursion (λ x. AllByRecursion P (h x)) xs → AllByRecursion P (flat_map h xs)
all_flat P h [] p = tt
all_flat P h (x ∷ xs) p = subst (AllByRecursion P) (sym (flat_map-cons h x xs)) (all_append P (h x) (flat_map h xs) p.0 (all_flat P h xs p.1))

pub all_map : {X Y : Type 0} (P : Y → Type 0) (h : X → Y) (xs : List X) → AllByRecursion (λ x. P (h x)) xs → AllByRecursion P (map h xs)
all_map P h [] p = tt
all_map P h (x ∷ xs) p = (p.0, all_map P h xs p.1)

-- ---- sums over the values of symbols

pub all_none : (g : List ℤ → ℕ) → ((zs : List ℤ) → g zs ≡ 0) → (ws : List Weighed) → weighted_all g ws ≡ 0
all_none g h [] = h []
all_none g h (w ∷ ws) = weighted_none (λ z. weighted_all (λ zs. g (z ∷ zs)) ws) (λ z. all_none (λ zs. g (z ∷ zs)) (λ zs. h (z ∷ zs)) ws) w.low w.weights

pub all_add : (g h : List ℤ → ℕ) (ws : List Weighed) → weighted_all (λ zs. g zs + h zs) ws ≡ weighted_all g ws + weighted_all h ws
all_add g h [] = refl
all_add g h (w ∷ ws) =
    (λ j. weighted (λ z. all_add (λ zs. g (z ∷ zs)) (λ zs. h (z ∷ zs)) ws j) w.low w.weights)
    ∙ weighted_add (λ z. weighted_all (λ zs. g (z ∷ zs)) ws) (λ z. weighted_all (λ zs. h (z ∷ zs)) ws) w.low w.weights

-- a sum of sums
pub all_sum : {X : Type 0} (g : X → List ℤ → ℕ) (xs : List X) (ws : List Weighed) → weighted_all (λ zs. sum_by (λ x. g x zs) xs) ws ≡ sum_by (λ x. weighted_all (g x) ws) xs
all_sum g [] ws = all_none (λ zs. 0) (λ zs. refl) ws
all_sum g (x ∷ xs) ws =
    (λ j. weighted_all (λ zs. sum_by-cons (λ y. g y zs) x xs j) ws)
    ∙ all_add (g x) (λ zs. sum_by (λ y. g y zs) xs) ws
    ∙ ap (λ (n : ℕ). weighted_all (g x) ws + n) (all_sum g xs ws)
    ∙ sym (sum_by-cons (λ y. weighted_all (g y) ws) x xs)

pub all_same : (c : ℕ) (ws : List Weighed) → weighted_all (λ zs. c) ws ≡ all_weights ws * c
all_same c [] = let e : 1 * c ≡ c = omega arith in sym e
all_same c (w ∷ ws) =
    (λ j. weighted (λ z. all_same c ws j) w.low w.weights)
    ∙ weighted_same (all_weights ws * c) w.low w.weights
    ∙ turned (all_weights ws) (sum w.weights) c
  where
    turned : (a b c : ℕ) → b * (a * c) ≡ a * b * c
    turned a zero c = let z : 0 * a ≡ 0 = omega arith in let k : 0 * (a * c) ≡ 0 = omega arith in let l : 0 * c ≡ 0 = omega arith in k ∙ sym l ∙ ap (λ (n : ℕ). n * c) (sym z ∙ sym (mul_comm a 0))
    turned a (suc b) c =
        let k : suc b * a ≡ a + b * a = omega arith in
        let e : a * suc b ≡ a + a * b = mul_comm a (suc b) ∙ k ∙ ap (λ (n : ℕ). a + n) (mul_comm b a) in
        let l : suc b * (a * c) ≡ a * c + b * (a * c) = omega arith in
        l
        ∙ ap (λ (n : ℕ). a * c + n) (turned a b c)
        ∙ sym (spread_left a (a * b) c)
        ∙ ap (λ (n : ℕ). n * c) (sym e)

-- one symbol more
pub all_push : (g : List ℤ → ℕ) (ws : List Weighed) (w : Weighed) → weighted_all g (ws ++ w ∷ []) ≡ weighted_all (λ zs. weighted (λ z. g (zs ++ z ∷ [])) w.low w.weights) ws
all_push g [] w = refl
all_push g (v ∷ ws) w = (λ j. weighted (λ z. all_push (λ zs. g (z ∷ zs)) ws w j) v.low v.weights)

-- one symbol in the place of another
pub all_passed : (m : ℕ) (turns_at : ℤ → List ℤ) (made : Weighed) (ws : List Weighed) (i : ℕ) (d : Weighed) → i < length ws
    → ((g : ℤ → ℕ) → up_to m (weighted g made.low made.weights) ≡ up_to m (weighted (λ y. sum_by g (turns_at y)) (get_or ws i d).low (get_or ws i d).weights))
    → (g : List ℤ → ℕ) → up_to m (weighted_all g (set ws i made)) ≡ up_to m (weighted_all (λ zs. sum_by (λ z. g (set zs i z)) (turns_at (get_or zs i (pos 0)))) ws)
all_passed m turns_at made [] i d lt h g = absurd (omega arith)
all_passed m turns_at made (w ∷ ws) zero d lt h g =
    h (λ z. weighted_all (λ zs. g (z ∷ zs)) ws)
    ∙ (λ j. up_to m (weighted (λ y. sym (all_sum (λ z zs. g (z ∷ zs)) (turns_at y) ws) j) w.low w.weights))
all_passed m turns_at made (w ∷ ws) (suc i) d lt h g =
    weighted_alike m (λ z. weighted_all (λ zs. g (z ∷ zs)) (set ws i made)) (λ y. weighted_all (λ zs. sum_by (λ z. g (y ∷ set zs i z)) (turns_at (get_or zs i (pos 0)))) ws)
    (λ y. all_passed m turns_at made ws i d (omega arith) h (λ zs. g (y ∷ zs))) w.low w.weights

-- ---- values that are not weighed

-- where a value weighs nothing, nothing is summed over it
value_none : (h : ℕ → ℕ) → h 0 ≡ 0 → (y low : ℤ) (ws : List ℕ) → weight_of y low ws ≡ 0 → weighted (λ z. h (if int_eq z y then 1 else 0)) low ws ≡ 0
value_none h e y low [] none = refl
value_none h e y low (w ∷ ws) none =
    let first : w * (if int_eq low y then 1 else 0) ≡ 0 = omega (arith, none) in
    let rest : weight_of y (low +ℤ pos 1) ws ≡ 0 = omega (arith, none) in
    (λ j. by (int_eq low y) first j + value_none h e y (low +ℤ pos 1) ws rest j)
  where
    by : (t : Bool) → w * (if t then 1 else 0) ≡ 0 → w * h (if t then 1 else 0) ≡ 0
    by true f =
        let k : w ≡ 0 = omega (arith, f) in
        let l : 0 * h 1 ≡ 0 = omega arith in
        ap (λ (n : ℕ). n * h 1) k ∙ l
    by false f = let l : w * 0 ≡ 0 = omega arith in ap (λ (n : ℕ). w * n) e ∙ l

pub none_there : (y : ℤ) (ws : List Weighed) (i : ℕ) (d : Weighed) → i < length ws → weight_of y (get_or ws i d).low (get_or ws i d).weights ≡ 0
    → weighted_all (λ zs. if int_eq (get_or zs i (pos 0)) y then 1 else 0) ws ≡ 0
none_there y [] i d lt none = absurd (omega arith)
none_there y (w ∷ ws) zero d lt none = value_none (λ n. weighted_all (λ zs. n) ws) (all_none (λ zs. 0) (λ zs. refl) ws) y w.low w.weights none
none_there y (w ∷ ws) (suc i) d lt none =
    weighted_none (λ z. weighted_all (λ zs. if int_eq (get_or zs i (pos 0)) y then 1 else 0) ws) (λ z. none_there y ws i d (omega arith) none) w.low w.weights
