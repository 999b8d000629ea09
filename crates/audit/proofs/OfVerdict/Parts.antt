-- What is shown in two parts is all shown.
use Rattle.std.proofs.Common.{◌≡◌, Bool, true, false, List, [], ◌∷◌, refl}
use Rattle.std.specs.Prelude.{not, filter, if◌then◌else◌}
use Rattle.std.specs.List.{list_all}
use Rattle.soundness.proofs.Refines.{and_parts}
use Rattle.soundness.specs.Shown.{is_shown}
use Rattle.audit.specs.Verdict.Shown.Wide.{PartsAreAll}
use Rattle.audit.proofs.OfVerdict.Bools.{both}

all_of_parts : {A : Type 0} (holds test : A → Bool) (xs : List A) → list_all holds (filter test xs) ≡ true → list_all holds (filter (λ x. not (test x)) xs) ≡ true → list_all holds xs ≡ true
all_of_parts holds test [] h k = refl
all_of_parts holds test (x ∷ xs) h k = of (test x) h k (all_of_parts holds test xs)
  where
    of : (v : Bool) → list_all holds (if v then x ∷ filter test xs else filter test xs) ≡ true →
        list_all holds (if not v then x ∷ filter (λ y. not (test y)) xs else filter (λ y. not (test y)) xs) ≡ true →
        (list_all holds (filter test xs) ≡ true → list_all holds (filter (λ y. not (test y)) xs) ≡ true → list_all holds xs ≡ true) → list_all holds (x ∷ xs) ≡ true
    of true a b rest = let p = and_parts (holds x) (list_all holds (filter test xs)) a in both (holds x) (list_all holds xs) p.0 (rest p.1 b)
    of false a b rest = let p = and_parts (holds x) (list_all holds (filter (λ y. not (test y)) xs)) b in both (holds x) (list_all holds xs) p.0 (rest a p.1)

pub parts_are_all : PartsAreAll
parts_are_all rules nests test os h k = all_of_parts (is_shown rules nests) test os h k
