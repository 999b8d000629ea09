-- The regions of the calls in an expression hold the points at which they are made.
use Rattle.std.proofs.Common.{◌≡◌, ℕ, List, [], ◌∷◌, length, map, Bool, true, false, cond, Option, Some, IsSome, IsTrue, All, refl, sym, ◌∙◌, subst, arith}
use Rattle.std.specs.Prelude.{ℤ, filter, is_some}
use Rattle.std.specs.List.{AllByRecursion}
use Rattle.std.proofs.lemmas.Bool.{false≢true}
use Rattle.std.proofs.lemmas.List.Elements.{All-nil, All-cons, All-head, All-tail}
use Rattle.numeric.specs.declared.ty.Ty.{Ty}
use Rattle.numeric.specs.declared.ty.Ty.TheVariants.{I32}
use Rattle.tree.specs.declared.value.Value.{Value}
use Rattle.tree.specs.Term.{Term, Number, Name, Call, Minus, Binary, Clamp, Cast, Choice, Terms, End, More, Test, Compares, Fails, Both, Either}
use Rattle.tree.specs.Meaning.{value_of, numbers_of}
use Rattle.tree.specs.Names.{AreAsTold, TakesCall}
use Rattle.tree.specs.Typing.{common, is_index, type_of, is_typed, are_indices, answer_type, index_count}
use Rattle.tree.specs.Uses.{calls_made, EachCall, EachCallOfTest, EachCallOfAll}
use Rattle.tree.proofs.Typed.{some_only_if, some_operator, some_of, both_true, index-is, some_answer}
use Rattle.tree.proofs.Soundness.{does_as_typed}
use Rattle.tree.proofs.Uses.{all_made}
use Rattle.meaning.specs.Names.{same_name}
use Rattle.meaning.proofs.Cases.{name_same, same_name_is}
use Rattle.algo.specs.Scoping.Standing.{Written, calls_of}
use Rattle.algo.proofs.Listed.{OfCall, all_listed, each_listed}
use Rattle.lin.specs.Spans.{HoldsIn, IsInRegion}
use Rattle.lin.specs.declared.scope.Binding.{Binding}
use Rattle.lin.specs.declared.span.Span1.{Span1}
use Rattle.bounds.specs.Interval.{interval}
use Rattle.bounds.proofs.Fitting.{both_typed, all_typed}
use Rattle.bounds.proofs.IntervalSound.{contains}
use Rattle.crop.specs.Inference.Regions.{spans_at, freed, regions_of}
use Rattle.crop.specs.Inference.Sound.{IsInIfNamed}
use Rattle.bounds.proofs.UnionHolds.{HoldsIf, HasLength, AreIndices, Reaches, holds_some, length_some, in_front-holds, in_front-length}
use Rattle.crop.proofs.OfInference.Freed.{freed-length, freed-holds}

-- ---- the calls of an expression that has a type
module _ (known : List ℕ → Bool) (functions : List ℕ → Option (Ty × ℕ)) where
  -- a call that has a type
  abbrev pub IsGood : List ℕ → Terms → Type 0
  IsGood name at = IsTrue (are_indices known functions at) × TakesCall (functions name) (index_count at)

  pub typed_index : (a : Term) → IsTrue (is_index (type_of known functions a)) → IsSome (type_of known functions a)
  typed_index a h = some_of _ _ (sym (index-is (type_of known functions a) h)) refl

  mutual
    pub good : (a : Term) → IsSome (type_of known functions a) → EachCall IsGood a
    good (Number t n) h = tt
    good (Name x) h = tt
    good (Call name at) h =
        let answer = answer_type (functions name) (index_count at) in
        let s = some_only_if (are_indices known functions at) answer h in
        ((s.0, (some_answer (functions name) (index_count at) (some_of _ answer s.1 h)).takes), good_all at s.0)
    good (Minus a) h = good a h
    good (Binary op a b) h =
        let s = both_typed known functions a b (some_operator op (common (type_of known functions a) (type_of known functions b)) h) in
        (good a s.first, good b s.second)
    good (Clamp a l u) h =
        let s = all_typed known functions a l u h in
        (good a s.first, good l s.second, good u s.third)
    good (Cast t a) h = good a (some_only_if (is_some (type_of known functions a)) (Some t) h).0
    good (Choice c a b) h =
        let arms = common (type_of known functions a) (type_of known functions b) in
        let g = some_only_if (is_typed known functions c) arms h in
        let s = both_typed known functions a b (some_of _ arms g.1 h) in
        (good_test c g.0, good a s.first, good b s.second)

    good_test : (c : Test) → IsTrue (is_typed known functions c) → EachCallOfTest IsGood c
    good_test (Compares by a b) h = let s = both_typed known functions a b h in (good a s.first, good b s.second)
    good_test (Fails c) h = good_test c h
    good_test (Both c d) h = let b = both_true (is_typed known functions c) (is_typed known functions d) h in (good_test c b.0, good_test d b.1)
    good_test (Either c d) h = let b = both_true (is_typed known functions c) (is_typed known functions d) h in (good_test c b.0, good_test d b.1)

    good_all : (at : Terms) → IsTrue (are_indices known functions at) → EachCallOfAll IsGood at
    good_all End h = tt
    good_all (More a rest) h =
        let b = both_true (is_index (type_of known functions a)) (are_indices known functions rest) h in
        (good a (typed_index a b.0), good_all rest b.1)

-- every call of the name has so many indices
abbrev pub HasCount : (List ℕ → Option (Ty × ℕ)) → List ℕ → ℕ → Type 0
HasCount functions callee n = (m : ℕ) → TakesCall (functions callee) m → m ≡ n

module _ (scope : List Binding) (known : List ℕ → Bool) (functions : List ℕ → Option (Ty × ℕ)) (names : List (List ℕ)) (region : List Span1) (inner : List ℕ) where
  spans-length : (at : Terms) → HasLength (index_count at) (spans_at scope functions names region at)
  spans-length End = length_some [] 0 refl
  spans-length (More a rest) = in_front-length (interval scope functions names region a) (spans_at scope functions names region rest) (index_count rest) (index_count (More a rest)) (omega arith) (spans-length rest)

  module _ (callee : List ℕ) (n : ℕ) (count : HasCount functions callee n) where
    call_count : (c : Written) → same_name c.name callee ≡ true → OfCall (IsGood known functions) c → index_count c.at ≡ n
    call_count c e g = let P : List ℕ → Type 0 = λ x. TakesCall (functions x) (index_count c.at) in count (index_count c.at) (subst P (same_name_is c.name callee e) g.1)

    regions-length : (cs : List Written) → All (OfCall (IsGood known functions)) cs → AllByRecursion (HasLength n) (regions_of scope functions names region inner callee cs)
    regions-length [] g = tt
    regions-length (c ∷ cs) g = by (same_name c.name callee) refl (regions-length cs (All-tail (OfCall (IsGood known functions)) c cs g))
      where
        by : (b : Bool) → same_name c.name callee ≡ b → AllByRecursion (HasLength n) (regions_of scope functions names region inner callee cs)
            → AllByRecursion (HasLength n) (map (λ d. freed scope inner (spans_at scope functions names region d.at)) (cond b (c ∷ filter (λ d. same_name d.name callee) cs) (filter (λ d. same_name d.name callee) cs)))
        by true e rest =
            let P : ℕ → Type 0 = λ m. HasLength m (freed scope inner (spans_at scope functions names region c.at)) in
            (subst P (call_count c e (All-head (OfCall (IsGood known functions)) c cs g)) (freed-length scope inner (index_count c.at) (spans_at scope functions names region c.at) (spans-length c.at)), rest)
        by false e rest = rest

    pub lengths : (a : Term) → IsSome (type_of known functions a) → AllByRecursion (HasLength n) (regions_of scope functions names region inner callee (calls_of a))
    lengths a h = regions-length (calls_of a) (all_listed (IsGood known functions) a (good known functions a h))

    module _ (v : ℕ → ℤ) (r : HoldsIn scope v) (found : Option (List Span1)) (values : List ℕ → ℤ) (answers : List ℕ → List ℤ → Value)
        (told : AreAsTold known functions values answers) (inside : IsInRegion region v (map values names)) where
      spans-hold : (at : Terms) → IsTrue (are_indices known functions at) → HoldsIf v (numbers_of values answers at) (spans_at scope functions names region at)
      spans-hold End h = holds_some [] v [] tt
      spans-hold (More a rest) h =
          let b = both_true (is_index (type_of known functions a)) (are_indices known functions rest) h in
          in_front-holds (interval scope functions names region a) (spans_at scope functions names region rest) v (value_of values answers a).number (numbers_of values answers rest) (λ s e. contains scope known functions names region a s e (typed_index known functions a b.0) v values answers r told inside) (spans-hold rest b.1)

      numbers-indices : (at : Terms) → IsTrue (are_indices known functions at) → AreIndices (numbers_of values answers at)
      numbers-indices End h = tt
      numbers-indices (More a rest) h =
          let b = both_true (is_index (type_of known functions a)) (are_indices known functions rest) h in
          ((does_as_typed known functions values answers told a I32 (index-is (type_of known functions a) b.0)).value.within, numbers-indices rest b.1)

      numbers-length : (at : Terms) → length (numbers_of values answers at) ≡ index_count at
      numbers-length End = refl
      numbers-length (More a rest) = let p = numbers-length rest in omega (arith, p)

      abbrev InFound : List ℕ → Terms → Type 0
      InFound name at = name ≡ callee → HoldsIf v (numbers_of values answers at) found

      reached : (cs : List Written) → All (OfCall (IsGood known functions)) cs → AllByRecursion (Reaches scope v r n found) (regions_of scope functions names region inner callee cs) → All (OfCall InFound) cs
      reached [] g a = All-nil (OfCall InFound)
      reached (c ∷ cs) g a = by (same_name c.name callee) refl a (reached cs (All-tail (OfCall (IsGood known functions)) c cs g))
        where
          here : OfCall (IsGood known functions) c
          here = All-head (OfCall (IsGood known functions)) c cs g

          by : (b : Bool) → same_name c.name callee ≡ b
              → AllByRecursion (Reaches scope v r n found) (map (λ d. freed scope inner (spans_at scope functions names region d.at)) (cond b (c ∷ filter (λ d. same_name d.name callee) cs) (filter (λ d. same_name d.name callee) cs)))
              → (AllByRecursion (Reaches scope v r n found) (regions_of scope functions names region inner callee cs) → All (OfCall InFound) cs)
              → All (OfCall InFound) (c ∷ cs)
          by true e h rest =
              All-cons (OfCall InFound) c cs
              (λ same. h.0 (numbers_of values answers c.at) (numbers-indices c.at here.0) (numbers-length c.at ∙ call_count c e here) (freed-holds scope v r inner (numbers_of values answers c.at) (spans_at scope functions names region c.at) (spans-hold c.at here.0)))
              (rest h.1)
          by false e h rest = All-cons (OfCall InFound) c cs (λ same. absurd (false≢true (sym e ∙ name_same c.name callee same))) (rest h)

      pub calls-reached : (a : Term) (region' : List Span1) → found ≡ Some region' → IsSome (type_of known functions a)
          → AllByRecursion (Reaches scope v r n found) (regions_of scope functions names region inner callee (calls_of a))
          → All (IsInIfNamed callee v region') (calls_made values answers a)
      calls-reached a region' is h reaches =
          let goods = all_listed (IsGood known functions) a (good known functions a h) in
          all_made (IsInIfNamed callee v region') values answers a
          (each_listed (λ name at. name ≡ callee → IsInRegion region' v (numbers_of values answers at)) a (weaker (calls_of a) (reached (calls_of a) goods reaches)))
        where
          weaker : (cs : List Written) → All (OfCall InFound) cs → All (OfCall (λ name at. name ≡ callee → IsInRegion region' v (numbers_of values answers at))) cs
          weaker cs h = λ i c e same. h i c e same region' is
