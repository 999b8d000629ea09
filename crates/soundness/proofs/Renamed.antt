-- Calls by other names answer what those names answer.
use Rattle.std.proofs.Common.{◌≡◌, ℕ, List, ◌∷◌, refl, ap}
use Rattle.std.specs.Prelude.{ℤ, if◌then◌else◌, ◌&&◌, ◌||◌, not}
use Rattle.numeric.specs.Wrap.{wrap}
use Rattle.numeric.specs.Apply.{compare}
use Rattle.tree.specs.declared.value.Value.{Value}
use Rattle.tree.specs.Term.{Term, Number, Name, Call, Minus, Binary, Clamp, Cast, Choice, Terms, End, More, Test, Compares, Fails, Both, Either}
use Rattle.tree.specs.Meaning.{value_of, numbers_of, holds, typed, negated, applied, clamped}
use Rattle.tree.specs.Substitution.{with_calls, test_with_calls, all_with_calls}

module _ (variables : List ℕ → ℤ) (answers : List ℕ → List ℤ → Value) (rename : List ℕ → List ℕ) where
  abbrev renamed : List ℕ → Terms → Term
  renamed name at = Call (rename name) at

  abbrev through : List ℕ → List ℤ → Value
  through name p = answers (rename name) p

  mutual
    pub renamed_value : (e : Term) → value_of variables answers (with_calls renamed e) ≡ value_of variables through e
    renamed_value (Number t n) = refl
    renamed_value (Name name) = refl
    renamed_value (Call name at) = ap (answers (rename name)) (renamed_numbers at)
    renamed_value (Minus a) = ap negated (renamed_value a)
    renamed_value (Binary op a b) = λ i. applied op (renamed_value a i) (renamed_value b i)
    renamed_value (Clamp a l h) = λ i. clamped (renamed_value a i) (renamed_value l i) (renamed_value h i)
    renamed_value (Cast t a) = ap (λ v. typed t (wrap t v.number)) (renamed_value a)
    renamed_value (Choice c a b) = λ i. if renamed_test c i then renamed_value a i else renamed_value b i

    renamed_test : (c : Test) → holds variables answers (test_with_calls renamed c) ≡ holds variables through c
    renamed_test (Compares by a b) = λ i. compare by (renamed_value a i).number (renamed_value b i).number
    renamed_test (Fails c) = ap not (renamed_test c)
    renamed_test (Both c d) = λ i. renamed_test c i && renamed_test d i
    renamed_test (Either c d) = λ i. renamed_test c i || renamed_test d i

    renamed_numbers : (at : Terms) → numbers_of variables answers (all_with_calls renamed at) ≡ numbers_of variables through at
    renamed_numbers End = refl
    renamed_numbers (More a rest) = λ i. (renamed_value a i).number ∷ renamed_numbers rest i
