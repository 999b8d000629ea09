-- What is known of a piece's claims, need lines and loads while its body is made.
use Rattle.std.proofs.Common.{◌≡◌, ℕ, ◌-◌, ◌≤◌, List, [], ◌∷◌, length, take, drop, get_or, sym, ap, ◌∙◌, arith}
use Rattle.std.proofs.Math.Seq.{take-length}

-- ---- lists

-- a list that is not empty, by its first and the others
pub one_first : {A : Type 0} (xs : List A) (x : A) → 1 ≤ length xs → x ≡ get_or xs 0 x → xs ≡ x ∷ take (length xs - 1) (drop 1 xs)
one_first [] x some is = absurd (omega (arith, some))
one_first (y ∷ xs) x some is =
    let all : length (y ∷ xs) - 1 ≡ length xs = omega arith in
    λ i. sym is i ∷ sym (ap (λ (n : ℕ). take n xs) all ∙ take-length xs) i
