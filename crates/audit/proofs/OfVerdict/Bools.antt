-- Tests of lists that say yes.
use Rattle.std.proofs.Common.{◌≡◌, Bool, true, false, List, [], ◌∷◌, ◌++◌, refl, sym, ap, ◌∙◌, inl, inr}
use Rattle.std.specs.Prelude.{◌||◌, ◌&&◌, if◌then◌else◌}
use Rattle.std.specs.List.{list_any, list_all}
use Rattle.soundness.specs.Claims.{In}
use Rattle.soundness.proofs.Refines.{and_parts}

pub both : (v w : Bool) → v ≡ true → w ≡ true → (v && w) ≡ true
both true w h k = k
both false w h k = absurd (cc h)

pub all_both : {A : Type 0} (test : A → Bool) (xs ys : List A) → list_all test xs ≡ true → list_all test ys ≡ true → list_all test (xs ++ ys) ≡ true
all_both test [] ys h k = k
all_both test (x ∷ xs) ys h k =
    let parts = and_parts (test x) (list_all test xs) h in both (test x) (list_all test (xs ++ ys)) parts.0 (all_both test xs ys parts.1 k)

pub all_in : {A : Type 0} (test : A → Bool) (x : A) (xs : List A) → In x xs → list_all test xs ≡ true → test x ≡ true
all_in test x [] m h = absurd m
all_in test x (y ∷ ys) (inl e) h = ap test e ∙ (and_parts (test y) (list_all test ys) h).0
all_in test x (y ∷ ys) (inr m) h = all_in test x ys m (and_parts (test y) (list_all test ys) h).1

pub first_of : (v w : Bool) → v ≡ true → (v || w) ≡ true
first_of true w h = refl
first_of false w h = absurd (cc h)

pub second_of : (v w : Bool) → w ≡ true → (v || w) ≡ true
second_of true w h = refl
second_of false w h = h

pub any_has : {A : Type 0} (test : A → Bool) (x : A) (xs : List A) → In x xs → test x ≡ true → list_any test xs ≡ true
any_has test x [] m h = absurd m
any_has test x (y ∷ ys) (inl e) h = first_of (test y) (list_any test ys) (ap test (sym e) ∙ h)
any_has test x (y ∷ ys) (inr m) h = second_of (test y) (list_any test ys) (any_has test x ys m h)

pub all_have : {A : Type 0} (test : A → Bool) (xs : List A) → ((x : A) → In x xs → test x ≡ true) → list_all test xs ≡ true
all_have test [] h = refl
all_have test (x ∷ xs) h = both (test x) (list_all test xs) (h x (inl refl)) (all_have test xs (λ y m. h y (inr m)))

pub and_false : (v : Bool) → (v && false) ≡ false
and_false true = refl
and_false false = refl

pub when : (v w : Bool) → w ≡ true → (if v then w else true) ≡ true
when true w h = h
when false w h = refl
