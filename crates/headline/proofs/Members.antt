-- Members of lists, in two words for them, and what holds of each.
use Rattle.std.proofs.Common.{◌≡◌, ℕ, zero, suc, ◌<◌, List, [], ◌∷◌, length, Some, sym, subst, inl, inr, arith}
use Rattle.std.specs.Prelude.{Contains, slice_get, slice_index_or}
use Rattle.std.specs.List.{AllByRecursion}
use Rattle.soundness.specs.Claims.{In}

in_at : {A : Type 0} (xs : List A) (x : A) (k : ℕ) → k < length xs → slice_index_or xs k x ≡ x → In x xs
in_at [] x k l e = absurd (omega arith)
in_at (y ∷ ys) x zero l e = inl (sym e)
in_at (y ∷ ys) x (suc k) l e = inr (in_at ys x k (omega arith) e)

pub in_of : {A : Type 0} (xs : List A) (x : A) → Contains xs x → In x xs
in_of xs x h = in_at xs x h.0 h.1 h.2

pub contains_of : {A : Type 0} (xs : List A) (x : A) → In x xs → Contains xs x
contains_of [] x m = absurd m
contains_of (y ∷ ys) x (inl e) = (0, omega arith, sym e)
contains_of (y ∷ ys) x (inr m) = let h = contains_of ys x m in let l = h.1 in (suc h.0, omega (arith, l), h.2)

pub got : {A : Type 0} (Q : A → Type 0) (xs : List A) (k : ℕ) (x : A) → AllByRecursion Q xs → slice_get xs k ≡ Some x → Q x
got Q [] k x h e = absurd (cc e)
got Q (y ∷ ys) zero x h e = let same : y ≡ x = cc in subst Q same h.0
got Q (y ∷ ys) (suc k) x h e = got Q ys k x h.1 e
