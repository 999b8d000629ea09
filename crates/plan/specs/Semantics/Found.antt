-- The value of an expression where a call may find nothing; then there is no value.
use Rattle.std.specs.Prelude.{ℕ, List, [], ◌∷◌, Option, Some, None, Bool, not, ◌&&◌, ◌||◌, if◌then◌else◌, ℤ}
use Rattle.numeric.specs.declared.ty.Ty.TheVariants.{I32}
use Rattle.numeric.specs.Wrap.{wrap}
use Rattle.numeric.specs.Apply.{compare}
use Rattle.tree.specs.declared.value.Value.{Value}
use Rattle.tree.specs.Term.{Term, Number, Name, Call, Minus, Binary, Clamp, Cast, Choice, Terms, End, More, Test, Compares, Fails, Both, Either}
use Rattle.tree.specs.Meaning.{typed, negated, applied, clamped, numbers_of}
use Rattle.tree.specs.Uses.{EachCall, EachCallOfTest, EachCallOfAll}

abbrev pub with : {A B : Type 0} → Option A → (A → Option B) → Option B
with None go = None
with (Some a) go = go a

-- both arms of a choice are evaluated, and all of its condition
module _ (variables : List ℕ → ℤ) (look : List ℕ → List ℤ → Option Value) where
  abbrev mutual
    pub found : Term → Option Value
    found (Number t n) = Some (typed t n)
    found (Name name) = Some (typed I32 (variables name))
    found (Call name at) = with (all_found at) (λ zs. look name zs)
    found (Minus a) = with (found a) (λ x. Some (negated x))
    found (Binary op a b) = with (found a) (λ x. with (found b) (λ y. Some (applied op x y)))
    found (Clamp a l h) = with (found a) (λ x. with (found l) (λ y. with (found h) (λ z. Some (clamped x y z))))
    found (Cast t a) = with (found a) (λ x. Some (typed t (wrap t x.number)))
    found (Choice c a b) = with (test_found c) (λ t. with (found a) (λ x. with (found b) (λ y. Some (if t then x else y))))

    pub test_found : Test → Option Bool
    test_found (Compares by a b) = with (found a) (λ x. with (found b) (λ y. Some (compare by x.number y.number)))
    test_found (Fails c) = with (test_found c) (λ t. Some (not t))
    test_found (Both c d) = with (test_found c) (λ t. with (test_found d) (λ u. Some (t && u)))
    test_found (Either c d) = with (test_found c) (λ t. with (test_found d) (λ u. Some (t || u)))

    pub all_found : Terms → Option (List ℤ)
    all_found End = Some []
    all_found (More a rest) = with (found a) (λ x. with (all_found rest) (λ zs. Some (x.number ∷ zs)))

-- the fact holds of every call that is made, at its indices, in both arms of a choice too
module _ (variables : List ℕ → ℤ) (answers : List ℕ → List ℤ → Value) (P : List ℕ → List ℤ → Type 0) where
  abbrev pub AtCall : List ℕ → Terms → Type 0
  AtCall name at = P name (numbers_of variables answers at)

  abbrev pub EachRead : Term → Type 0
  EachRead e = EachCall AtCall e

  abbrev pub EachTestRead : Test → Type 0
  EachTestRead c = EachCallOfTest AtCall c

  abbrev pub EachReadOfAll : Terms → Type 0
  EachReadOfAll at = EachCallOfAll AtCall at
