-- When an expression keeps the conditions of an algorithm's expressions.
use Rattle.std.proofs.Common.{◌≡◌, ℕ, List, [], ◌++◌, Bool, Option, Some, None, IsSome, IsTrue, All, refl, sym, ap, ◌∙◌}
use Rattle.std.specs.Prelude.{is_some}
use Rattle.std.proofs.lemmas.Bool.{false≢true}
use Rattle.std.proofs.lemmas.List.Elements.{All-nil, All-cons, All-append}
use Rattle.numeric.specs.declared.ty.Ty.{Ty}
use Rattle.numeric.specs.declared.ty.Ty.TheVariants.{I32}
use Rattle.tree.specs.Term.{Term, Number, Name, Call, Minus, Binary, Clamp, Cast, Choice, Terms, End, More, Test, Compares, Fails, Both, Either}
use Rattle.tree.specs.Names.{TakesCall}
use Rattle.tree.specs.Typing.{common, only_if, is_index, answer_type, index_count, type_of, is_typed, are_indices}
use Rattle.tree.specs.Uses.{variables_of, variables_of_test, variables_of_all, EachCall, EachCallOfTest, EachCallOfAll}
use Rattle.tree.proofs.Typed.{some_only_if, some_common, both_true, some_answer, index-is, some_of, some_operator}
use Rattle.tree.proofs.Uses.{each_call-weaker}
use Rattle.meaning.specs.Conditions.{IsExpression, IsSmall}
use Rattle.meaning.specs.Names.{is_among}
use Rattle.algo.specs.Scoping.Expressions.{is_known, takes, takes_count}
use borrow.Author.Tests.{eqb-true}

takes-is : (f : Option (Ty × ℕ)) (count : ℕ) → IsTrue (takes f count) → TakesCall f count
takes-is None count h = absurd (false≢true h)
takes-is (Some f) count h = eqb-true f.1 count h

some_taken : (f : Option (Ty × ℕ)) (count : ℕ) → TakesCall f count → IsSome f
some_taken None count h = absurd h
some_taken (Some f) count h = refl

module _ (calls : List ℕ → Option (Ty × ℕ)) where
  -- each call is of what can be called
  pub known_calls : (e : Term) → EachCall (λ name at. IsTrue (is_known calls name at)) e → EachCall (λ name at. IsSome (calls name)) e
  known_calls e h = h

  -- each call has the right number of indices
  pub counted_calls : (e : Term) → EachCall (λ name at. IsTrue (takes_count calls name at)) e → EachCall (λ name at. TakesCall (calls name) (index_count at)) e
  counted_calls e h =
      each_call-weaker (λ name at. IsTrue (takes_count calls name at)) (λ name at. TakesCall (calls name) (index_count at))
      (λ name at k. takes-is (calls name) (index_count at) k) e h

  -- a call with the right number of indices is of what can be called
  pub counted_are_known : (e : Term) → EachCall (λ name at. TakesCall (calls name) (index_count at)) e → EachCall (λ name at. IsSome (calls name)) e
  counted_are_known e h =
      each_call-weaker (λ name at. TakesCall (calls name) (index_count at)) (λ name at. IsSome (calls name)) (λ name at k. some_taken (calls name) (index_count at) k) e h

module _ (known : List ℕ → Bool) (functions : List ℕ → Option (Ty × ℕ)) where
  abbrev Counted : List ℕ → Terms → Type 0
  Counted name at = TakesCall (functions name) (index_count at)

  abbrev Known : List ℕ → Type 0
  Known name = IsTrue (known name)

  both_named : (xs ys : List (List ℕ)) → All Known xs → All Known ys → All Known (xs ++ ys)
  both_named xs ys = All-append Known xs ys

  -- what is known of the names of an expression that has a type
  pub record NamesFit (a : Term) : Type 0 where
    pub named : All Known (variables_of a)
    pub counted : EachCall Counted a

  pub record TestFits (c : Test) : Type 0 where
    pub named : All Known (variables_of_test c)
    pub counted : EachCallOfTest Counted c

  pub record IndicesFit (at : Terms) : Type 0 where
    pub named : All Known (variables_of_all at)
    pub counted : EachCallOfAll Counted at

  mutual
    pub names_fit : (a : Term) → IsSome (type_of known functions a) → NamesFit a
    names_fit (Number t n) h = record { named = All-nil Known; counted = tt }
    names_fit (Name name) h = record { named = All-cons Known name [] (some_only_if (known name) (Some I32) h).0 (All-nil Known); counted = tt }
    names_fit (Call name at) h =
        let answer = answer_type (functions name) (index_count at) in
        let s = some_only_if (are_indices known functions at) answer h in
        let t = some_answer (functions name) (index_count at) (some_of (only_if (are_indices known functions at) answer) answer s.1 h) in
        let i = indices_fit at s.0 in
        record { named = i.named; counted = (t.takes, i.counted) }
    names_fit (Minus a) h = let r = names_fit a h in record { named = r.named; counted = r.counted }
    names_fit (Binary op a b) h =
        let both = some_operator op (common (type_of known functions a) (type_of known functions b)) h in
        let s = some_common (type_of known functions a) (type_of known functions b) both in
        let some = some_of _ _ s.is both in
        let r = names_fit a some in
        let q = names_fit b (some_of _ _ s.same some) in
        record { named = both_named (variables_of a) (variables_of b) r.named q.named; counted = (r.counted, q.counted) }
    names_fit (Clamp a l u) h =
        let s = some_common (type_of known functions a) (common (type_of known functions l) (type_of known functions u)) h in
        let some = some_of _ _ s.is h in
        let both = some_common (type_of known functions l) (type_of known functions u) (some_of _ _ s.same some) in
        let low = some_of _ _ (s.same ∙ both.is) some in
        let r = names_fit a some in
        let p = names_fit l low in
        let q = names_fit u (some_of _ _ both.same low) in
        record {
          named = both_named (variables_of a ++ variables_of l) (variables_of u) (both_named (variables_of a) (variables_of l) r.named p.named) q.named;
          counted = (r.counted, p.counted, q.counted);
        }
    names_fit (Cast t a) h = let r = names_fit a (some_only_if (is_some (type_of known functions a)) (Some t) h).0 in record { named = r.named; counted = r.counted }
    names_fit (Choice c a b) h =
        let arms = common (type_of known functions a) (type_of known functions b) in
        let g = some_only_if (is_typed known functions c) arms h in
        let some_arms = some_of _ arms g.1 h in
        let s = some_common (type_of known functions a) (type_of known functions b) some_arms in
        let some = some_of _ _ s.is some_arms in
        let p = test_fits c g.0 in
        let r = names_fit a some in
        let q = names_fit b (some_of _ _ s.same some) in
        record {
          named = both_named (variables_of_test c ++ variables_of a) (variables_of b) (both_named (variables_of_test c) (variables_of a) p.named r.named) q.named;
          counted = (p.counted, r.counted, q.counted);
        }

    test_fits : (c : Test) → IsTrue (is_typed known functions c) → TestFits c
    test_fits (Compares by a b) h =
        let s = some_common (type_of known functions a) (type_of known functions b) h in
        let some = some_of _ _ s.is h in
        let r = names_fit a some in
        let q = names_fit b (some_of _ _ s.same some) in
        record { named = both_named (variables_of a) (variables_of b) r.named q.named; counted = (r.counted, q.counted) }
    test_fits (Fails c) h = let r = test_fits c h in record { named = r.named; counted = r.counted }
    test_fits (Both c d) h =
        let b = both_true (is_typed known functions c) (is_typed known functions d) h in
        let r = test_fits c b.0 in
        let q = test_fits d b.1 in
        record { named = both_named (variables_of_test c) (variables_of_test d) r.named q.named; counted = (r.counted, q.counted) }
    test_fits (Either c d) h =
        let b = both_true (is_typed known functions c) (is_typed known functions d) h in
        let r = test_fits c b.0 in
        let q = test_fits d b.1 in
        record { named = both_named (variables_of_test c) (variables_of_test d) r.named q.named; counted = (r.counted, q.counted) }

    indices_fit : (at : Terms) → IsTrue (are_indices known functions at) → IndicesFit at
    indices_fit End h = record { named = All-nil Known; counted = tt }
    indices_fit (More a rest) h =
        let b = both_true (is_index (type_of known functions a)) (are_indices known functions rest) h in
        let r = names_fit a (some_of _ _ (sym (index-is (type_of known functions a) b.0)) refl) in
        let q = indices_fit rest b.1 in
        record { named = both_named (variables_of a) (variables_of_all rest) r.named q.named; counted = (r.counted, q.counted) }

-- an expression that has a type, and is small, keeps all conditions
pub typed_is_expression : (variables : List (List ℕ)) (calls : List ℕ → Option (Ty × ℕ)) (t : Ty) (e : Term)
    → type_of (is_among variables) calls e ≡ Some t → IsSmall e → IsExpression variables calls t e
typed_is_expression variables calls t e typed small =
    let fit = names_fit (is_among variables) calls e (ap is_some typed) in
    record {
      named = fit.named;
      called = counted_are_known calls e fit.counted;
      indexed = fit.counted;
      typed = typed;
      small = small;
    }

-- the same from the answers to each condition
pub expression_of : (variables : List (List ℕ)) (calls : List ℕ → Option (Ty × ℕ)) (t : Ty) (e : Term)
    → All (λ name. IsTrue (is_among variables name)) (variables_of e)
    → EachCall (λ name at. IsTrue (is_known calls name at)) e
    → EachCall (λ name at. IsTrue (takes_count calls name at)) e
    → type_of (is_among variables) calls e ≡ Some t → IsSmall e → IsExpression variables calls t e
expression_of variables calls t e named known counted typed small =
    record { named = named; called = known_calls calls e known; indexed = counted_calls calls e counted; typed = typed; small = small }
