-- The registers of several indices, one behind the other.
use Rattle.std.proofs.Common.{◌≡◌, ℕ, zero, suc, ◌+◌, ◌*◌, ◌<◌, ◌≤◌, List, [], ◌∷◌, ◌++◌, length, take, drop, get_or, refl, sym, ap, ◌∙◌, arith, ℤ, pos, slice_set}
use Rattle.std.proofs.Math.Nat.{suc-mul}
use Rattle.std.proofs.lemmas.List.{drop-drop, length-take-le, take_more_set}
use Rattle.interpreter.specs.declared.evaluation.lanes.Lanes.{Lanes}
use Rattle.interpreter.specs.declared.evaluation.lanes.Lanes.TheVariants.{Broadcast, Ramp, Clamped, Vector}
use Rattle.interpreter.specs.declared.evaluation.lanes.Number.{Number}
use Rattle.numeric.specs.Wrap.{wrap}
use Rattle.interpreter.specs.Evaluation.Words.{bits_at}
use Rattle.interpreter.specs.Evaluation.Lanes.{lane_number, lanes_at, number_at}

pub number_drop : (zs : List Number) (n j : ℕ) → number_at (drop n zs) j ≡ number_at zs (n + j)
number_drop zs zero j = let e : j ≡ 0 + j = omega arith in ap (number_at zs) e
number_drop [] (suc n) j = refl
number_drop (z ∷ zs) (suc n) j = let e : suc (n + j) ≡ suc n + j = omega arith in number_drop zs n j ∙ ap (number_at (z ∷ zs)) e

bits_drop : (zs : List ℕ) (n j : ℕ) → bits_at (drop n zs) j ≡ bits_at zs (n + j)
bits_drop zs zero j = let e : j ≡ 0 + j = omega arith in ap (bits_at zs) e
bits_drop [] (suc n) j = refl
bits_drop (z ∷ zs) (suc n) j = let e : suc (n + j) ≡ suc n + j = omega arith in bits_drop zs n j ∙ ap (bits_at (z ∷ zs)) e

lane_same : (x : Lanes) (k : ℕ) (old new : List ℕ) → bits_at new k ≡ bits_at old k → lane_number x new k ≡ lane_number x old k
lane_same (Broadcast t z) k old new h = refl
lane_same (Ramp t z) k old new h = refl
lane_same (Clamped t r) k old new h = refl
lane_same (Vector t) k old new h = ap (λ (w : ℕ). wrap t (pos w)) h

lanes_same : (n k : ℕ) (xs : List Lanes) (old new : List ℕ) → k < n → ((j : ℕ) → j < length xs * n → bits_at new j ≡ bits_at old j) → lanes_at n xs new k ≡ lanes_at n xs old k
lanes_same n k [] old new lt h = refl
lanes_same n k (x ∷ xs) old new lt h =
    let more : length (x ∷ xs) * n ≡ length xs * n + n = suc-mul (length xs) n in
    let here = lane_same x k old new (h k (omega (arith, more))) in
    let later = lanes_same n k xs (drop n old) (drop n new) lt (λ j less. bits_drop new n j ∙ h (n + j) (omega (arith, more)) ∙ sym (bits_drop old n j)) in
    λ i. here i ∷ later i

lanes_last : (n k : ℕ) (xs : List Lanes) (x : Lanes) (zs : List ℕ) → lanes_at n (xs ++ x ∷ []) zs k ≡ lanes_at n xs zs k ++ lane_number x (drop (length xs * n) zs) k ∷ []
lanes_last n k [] x zs = let e : 0 ≡ 0 * n = omega arith in ap (λ (m : ℕ). lane_number x (drop m zs) k ∷ []) e
lanes_last n k (y ∷ ys) x zs =
    let more : n + length ys * n ≡ length (y ∷ ys) * n = (let e = suc-mul (length ys) n in omega (arith, e)) in
    let behind : drop (length ys * n) (drop n zs) ≡ drop (length (y ∷ ys) * n) zs = drop-drop (length ys * n) n zs ∙ ap (λ (m : ℕ). drop m zs) more in
    ap (λ (ms : List ℤ). lane_number y zs k ∷ ms) (lanes_last n k ys x (drop n zs) ∙ ap (λ (r : List ℕ). lanes_at n ys (drop n zs) k ++ lane_number x r k ∷ []) behind)

-- one more index behind the ones so far
pub lanes_more : (n k i : ℕ) (xs : List Lanes) (x : Lanes) (old new : List ℕ) → i < length xs → k < n → ((j : ℕ) → j < i * n → bits_at new j ≡ bits_at old j) →
    lanes_at n (take (i + 1) (slice_set xs i x)) new k ≡ lanes_at n (take i xs) old k ++ lane_number x (drop (i * n) new) k ∷ []
lanes_more n k i xs x old new lt less h =
    let front = take i xs in
    let long : length front ≡ i = length-take-le i xs (omega arith) in
    ap (λ (ys : List Lanes). lanes_at n ys new k) (take_more_set xs i x lt)
    ∙ lanes_last n k front x new
    ∙ (λ j. lanes_same n k front old new less (λ m under. h m (omega (arith, ap (λ (l : ℕ). l * n) long))) j ++ lane_number x (drop (long j * n) new) k ∷ [])

-- two indices of which the second is one value, and three of which the later ones are
pub two_lanes : (n k : ℕ) (xs : List Lanes) (d : Lanes) (zs : List ℕ) (y : ℤ) → 2 ≤ length xs → length xs < 3 → ((rs : List ℕ) (j : ℕ) → lane_number (get_or xs 1 d) rs j ≡ y) →
    lanes_at n xs zs k ≡ lane_number (get_or xs 0 d) zs k ∷ y ∷ []
two_lanes n k [] d zs y from to h = absurd (omega arith)
two_lanes n k (a ∷ []) d zs y from to h = absurd (omega arith)
two_lanes n k (a ∷ b ∷ []) d zs y from to h = ap (λ (z : ℤ). lane_number a zs k ∷ z ∷ []) (h (drop n zs) k)
two_lanes n k (a ∷ b ∷ c ∷ cs) d zs y from to h = absurd (omega arith)

pub three_lanes : (n k : ℕ) (xs : List Lanes) (d : Lanes) (zs : List ℕ) (y z : ℤ) → 3 ≤ length xs → length xs < 4 → ((rs : List ℕ) (j : ℕ) → lane_number (get_or xs 1 d) rs j ≡ y) →
    ((rs : List ℕ) (j : ℕ) → lane_number (get_or xs 2 d) rs j ≡ z) → lanes_at n xs zs k ≡ lane_number (get_or xs 0 d) zs k ∷ y ∷ z ∷ []
three_lanes n k [] d zs y z from to h g = absurd (omega arith)
three_lanes n k (a ∷ []) d zs y z from to h g = absurd (omega arith)
three_lanes n k (a ∷ b ∷ []) d zs y z from to h g = absurd (omega arith)
three_lanes n k (a ∷ b ∷ c ∷ []) d zs y z from to h g = λ i. lane_number a zs k ∷ h (drop n zs) k i ∷ g (drop n (drop n zs)) k i ∷ []
three_lanes n k (a ∷ b ∷ c ∷ e ∷ es) d zs y z from to h g = absurd (omega arith)
