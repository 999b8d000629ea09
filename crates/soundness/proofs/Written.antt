-- The points that a list of actions writes, taken apart and put together.
use Rattle.std.proofs.Common.{◌≡◌, ℕ, Bool, true, false, List, [], ◌∷◌, ◌++◌, refl, sym, ap, ◌∙◌, subst, inl, inr}
use Rattle.std.specs.Prelude.{ℤ, ◌==◌, if◌then◌else◌, ◌⊎◌, filter, flat_map}
use Rattle.plan.specs.Semantics.Actions.{Action, Allot, Take, Put, Change, Give}
use Rattle.soundness.specs.Claims.{In, written}
use Rattle.soundness.proofs.Turns.{in_append}

pub in_append_left : {A : Type 0} (x : A) (xs ys : List A) → In x xs → In x (xs ++ ys)
in_append_left x [] ys m = absurd m
in_append_left x (z ∷ zs) ys (inl e) = inl e
in_append_left x (z ∷ zs) ys (inr m) = inr (in_append_left x zs ys m)

pub in_append_right : {A : Type 0} (x : A) (xs ys : List A) → In x ys → In x (xs ++ ys)
in_append_right x [] ys m = m
in_append_right x (z ∷ zs) ys m = inr (in_append_right x zs ys m)

pub in_filter : {A : Type 0} (test : A → Bool) (x : A) (xs : List A) → In x (filter test xs) → In x xs
in_filter test x [] m = absurd m
in_filter test x (y ∷ ys) m = of (test y) m (in_filter test x ys)
  where
    of : (v : Bool) → In x (if v then y ∷ filter test ys else filter test ys) → (In x (filter test ys) → In x ys) → In x (y ∷ ys)
    of true (inl e) rest = inl e
    of true (inr n) rest = inr (rest n)
    of false n rest = inr (rest n)

pub append_nil : {A : Type 0} (xs : List A) → xs ++ [] ≡ xs
append_nil [] = refl
append_nil (x ∷ xs) = ap (λ ys. x ∷ ys) (append_nil xs)

more_written : (v : Bool) (p : List ℤ) (xs ys : List (List ℤ)) → (if v then p ∷ (xs ++ ys) else (xs ++ ys)) ≡ (if v then p ∷ xs else xs) ++ ys
more_written true p xs ys = refl
more_written false p xs ys = refl

-- the points written by one list of actions and then another
pub written_append : (b : ℕ) (xs ys : List Action) → written b (xs ++ ys) ≡ written b xs ++ written b ys
written_append b [] ys = refl
written_append b (Allot c r ∷ xs) ys = written_append b xs ys
written_append b (Take c g p ∷ xs) ys = ap (λ zs. if c == b then p ∷ zs else zs) (written_append b xs ys) ∙ more_written (c == b) p (written b xs) (written b ys)
written_append b (Put c g names p e ∷ xs) ys = ap (λ zs. if c == b then p ∷ zs else zs) (written_append b xs ys) ∙ more_written (c == b) p (written b xs) (written b ys)
written_append b (Change c g k names at over e ∷ xs) ys = written_append b xs ys
written_append b (Give c p ∷ xs) ys = written_append b xs ys

pub written_turns : {A : Type 0} (b : ℕ) (p : List ℤ) (g : A → List Action) (z : A) (zs : List A) → In z zs → In p (written b (g z)) → In p (written b (flat_map g zs))
written_turns b p g z [] n m = absurd n
written_turns b p g z (y ∷ ys) (inl e) m =
    subst (λ ps. In p ps) (sym (written_append b (g y) (flat_map g ys))) (in_append_left p (written b (g y)) _ (subst (λ x. In p (written b (g x))) e m))
written_turns b p g z (y ∷ ys) (inr n) m =
    subst (λ ps. In p ps) (sym (written_append b (g y) (flat_map g ys))) (in_append_right p (written b (g y)) _ (written_turns b p g z ys n m))

pub turn_written : {A : Type 0} (b : ℕ) (p : List ℤ) (g : A → List Action) (zs : List A) → In p (written b (flat_map g zs)) → (z : A) × In z zs × In p (written b (g z))
turn_written b p g [] m = absurd m
turn_written b p g (y ∷ ys) m = of (in_append p (written b (g y)) (written b (flat_map g ys)) (subst (λ ps. In p ps) (written_append b (g y) (flat_map g ys)) m)) (turn_written b p g ys)
  where
    of : In p (written b (g y)) ⊎ In p (written b (flat_map g ys)) → (In p (written b (flat_map g ys)) → (z : _) × In z ys × In p (written b (g z))) → (z : _) × In z (y ∷ ys) × In p (written b (g z))
    of (inl n) rest = (y, inl refl, n)
    of (inr n) rest = let k = rest n in (k.0, inr k.1, k.2)
