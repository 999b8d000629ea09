-- A list of at least one element is its first element and the rest, whatever the first would be of an empty list.
use Rattle.std.proofs.Common.{◌≡◌, ◌-◌, ◌≤◌, List, [], ◌∷◌, length, take, drop, get_or, refl, arith}
use Rattle.sched.proofs.Claimed.{one_first}

pub one_any : {A : Type 0} (xs : List A) (x : A) → 1 ≤ length xs → xs ≡ get_or xs 0 x ∷ take (length xs - 1) (drop 1 xs)
one_any [] x some = absurd (omega (arith, some))
one_any (y ∷ xs) x some = one_first (y ∷ xs) y some refl
