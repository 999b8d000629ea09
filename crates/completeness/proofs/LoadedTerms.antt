-- An expression with each call as a load has the type, the shape and the bounds that it has with its calls, where what is loaded is as what is called.
use Rattle.std.proofs.Common.{◌≡◌, ℕ, Bool, true, List, [], ◌∷◌, ◌++◌, Option, Some, refl, ap}
use Rattle.std.specs.Prelude.{pos, option_map}
use Rattle.std.specs.List.{AllByRecursion}
use Rattle.numeric.specs.declared.ty.Ty.{Ty}
use Rattle.numeric.specs.declared.ty.Ty.TheVariants.{I32}
use Rattle.numeric.specs.Apply.{result_type}
use Rattle.tree.specs.Term.{Term, Number, Name, Call, Minus, Binary, Clamp, Cast, Choice, Terms, End, More, Test, Compares, Fails, Both, Either}
use Rattle.tree.specs.Uses.{EachCall, EachCallOfTest, EachCallOfAll}
use Rattle.tree.specs.Names.{called_type}
use Rattle.tree.specs.Substitution.{with_calls, all_with_calls}
use Rattle.tree.specs.Typing.{only_if, answer_type, index_count, common, is_index, type_of, is_typed, are_indices, shape_type}
use Rattle.tree.proofs.Uses.{each_call-weaker}
use Rattle.tree.proofs.Substitution.{type_of-with_calls}
use Rattle.meaning.proofs.InliningTyped.{only_if-is, common-is, operator-is, some-is, both_true, index-is}
use Rattle.lin.specs.declared.scope.Binding.{Binding}
use Rattle.lin.specs.declared.span.Span1.{Span1}
use Rattle.bounds.specs.Spans.{exactly, range_of, fitted, difference_of, minimum_of, maximum_of, choice_of, binary_of}
use Rattle.bounds.specs.Interval.{literal_of, both, interval}
use Rattle.algo.specs.Scoping.Standing.{Written, calls_of, calls_of_test, calls_of_all}
use Rattle.sched.specs.Loading.{Loads, loaded_name, as_load}

-- ---- types, shapes and bounds

module _ (F G : List ℕ → Option (Ty × ℕ)) (ms : Loads) where
  -- what is loaded is of the type and takes the indices of what is called
  abbrev pub Same : List ℕ → Terms → Type 0
  Same x at = F (loaded_name ms x) ≡ G x

  pub type_same : (known : List ℕ → Bool) (e : Term) → EachCall Same e → type_of known F (with_calls (as_load ms) e) ≡ type_of known G e
  type_same known e h =
      type_of-with_calls known F G (as_load ms) e
      (each_call-weaker Same (λ x at. type_of known F (as_load ms x (all_with_calls (as_load ms) at))
      ≡ only_if (are_indices known F (all_with_calls (as_load ms) at)) (answer_type (G x) (index_count (all_with_calls (as_load ms) at))))
      (λ x at q. ap (λ (o : Option (Ty × ℕ)). only_if (are_indices known F (all_with_calls (as_load ms) at)) (answer_type o (index_count (all_with_calls (as_load ms) at)))) q) e h)

  shape_same : (e : Term) → EachCall Same e → shape_type F (with_calls (as_load ms) e) ≡ shape_type G e
  shape_same (Number t n) h = refl
  shape_same (Name x) h = refl
  shape_same (Call x at) h = ap called_type h.0
  shape_same (Minus a) h = shape_same a h
  shape_same (Binary op a b) h = ap (result_type op) (shape_same a h.0)
  shape_same (Clamp a l u) h = shape_same a h.0
  shape_same (Cast t a) h = refl
  shape_same (Choice c a b) h = shape_same a h.1

  literal_same : (e : Term) → literal_of (with_calls (as_load ms) e) ≡ literal_of e
  literal_same (Number t n) = refl
  literal_same (Name x) = refl
  literal_same (Call x at) = refl
  literal_same (Minus a) = refl
  literal_same (Binary op a b) = refl
  literal_same (Clamp a l u) = refl
  literal_same (Cast t a) = refl
  literal_same (Choice c a b) = refl

  module _ (scope : List Binding) (names : List (List ℕ)) (region : List Span1) where
    abbrev One : Term → Option Span1
    One e = interval scope F names region (with_calls (as_load ms) e)

    abbrev Two : Term → Option Span1
    Two e = interval scope G names region e

    pub interval_same : (e : Term) → EachCall Same e → One e ≡ Two e
    interval_same (Number t n) h = refl
    interval_same (Name x) h = refl
    interval_same (Call x at) h = ap (λ (o : Option (Ty × ℕ)). Some (range_of (called_type o))) h.0
    interval_same (Minus a) h =
        (let s = interval_same a h in let t = shape_same a h in λ i. both (exactly (pos 0)) (s i) (λ zero s. difference_of scope (t i) zero s))
    interval_same (Binary op a b) h =
        let s = interval_same a h.0 in
        let u = interval_same b h.1 in
        let t = shape_same a h.0 in
        let x = literal_same a in
        let y = literal_same b in
        λ i. both (s i) (u i) (λ s u. binary_of scope op (result_type op (t i)) (x i) (y i) s u)
    interval_same (Clamp a l v) h =
        let s = interval_same a h.0 in
        let u = interval_same l h.1 in
        let w = interval_same v h.2 in
        let t = shape_same a h.0 in
        λ i. both (both (s i) (w i) (λ s u. minimum_of scope (t i) s u)) (u i) (λ s u. maximum_of scope (t i) s u)
    interval_same (Cast t a) h = ap (option_map (fitted scope t)) (interval_same a h)
    interval_same (Choice c a b) h =
        let s = interval_same a h.1 in
        let u = interval_same b h.2 in
        let t = shape_same a h.1 in
        λ i. both (s i) (u i) (λ s u. choice_of scope (t i) s u)

-- ---- what has a type has typed indices in each call

module _ (known : List ℕ → Bool) (functions : List ℕ → Option (Ty × ℕ)) where
  -- the call's indices are numbers of 32 bits, as many as what is called takes
  abbrev pub IsTypedCall : List ℕ → Terms → Type 0
  IsTypedCall x at = (are_indices known functions at ≡ true) × ((t : Ty) × (answer_type (functions x) (index_count at) ≡ Some t))

  mutual
    pub calls_typed : (e : Term) (t : Ty) → type_of known functions e ≡ Some t → EachCall IsTypedCall e
    calls_typed (Number u n) t h = tt
    calls_typed (Name x) t h = tt
    calls_typed (Call x at) t h =
        let k = only_if-is (are_indices known functions at) (answer_type (functions x) (index_count at)) t h in
        ((k.0, (t, k.1)), indices_typed at k.0)
    calls_typed (Minus a) t h = calls_typed a t h
    calls_typed (Binary op a b) t h =
        let k = operator-is op (common (type_of known functions a) (type_of known functions b)) t h in
        let m = common-is (type_of known functions a) (type_of known functions b) k.0 k.1 in
        (calls_typed a k.0 m.0, calls_typed b k.0 m.1)
    calls_typed (Clamp a l u) t h =
        let k = common-is (type_of known functions a) (common (type_of known functions l) (type_of known functions u)) t h in
        let m = common-is (type_of known functions l) (type_of known functions u) t k.1 in
        (calls_typed a t k.0, calls_typed l t m.0, calls_typed u t m.1)
    calls_typed (Cast v a) t h =
        let k = only_if-is _ (Some v) t h in
        let m = some-is (type_of known functions a) k.0 in
        calls_typed a m.0 m.1
    calls_typed (Choice c a b) t h =
        let k = only_if-is (is_typed known functions c) (common (type_of known functions a) (type_of known functions b)) t h in
        let m = common-is (type_of known functions a) (type_of known functions b) t k.1 in
        (test_typed c k.0, calls_typed a t m.0, calls_typed b t m.1)

    test_typed : (c : Test) → is_typed known functions c ≡ true → EachCallOfTest IsTypedCall c
    test_typed (Compares by a b) h =
        let k = some-is (common (type_of known functions a) (type_of known functions b)) h in
        let m = common-is (type_of known functions a) (type_of known functions b) k.0 k.1 in
        (calls_typed a k.0 m.0, calls_typed b k.0 m.1)
    test_typed (Fails c) h = test_typed c h
    test_typed (Both c d) h = (let k = both_true (is_typed known functions c) (is_typed known functions d) h in (test_typed c k.0, test_typed d k.1))
    test_typed (Either c d) h = (let k = both_true (is_typed known functions c) (is_typed known functions d) h in (test_typed c k.0, test_typed d k.1))

    indices_typed : (at : Terms) → are_indices known functions at ≡ true → EachCallOfAll IsTypedCall at
    indices_typed End h = tt
    indices_typed (More a rest) h =
        let k = both_true (is_index (type_of known functions a)) (are_indices known functions rest) h in
        (calls_typed a I32 (index-is (type_of known functions a) k.0), indices_typed rest k.1)

-- ---- what is so of each call that is written

module _ (P : List ℕ → Terms → Type 0) where
  abbrev All : List Written → Type 0
  All cs = AllByRecursion (λ c. P c.name c.at) cs

  pub parts : (xs ys : List Written) → All (xs ++ ys) → All xs × All ys
  parts [] ys h = (tt, h)
  parts (x ∷ xs) ys h = (let r = parts xs ys h.1 in ((h.0, r.0), r.1))

  mutual
    pub each_of : (e : Term) → All (calls_of e) → EachCall P e
    each_of (Number t n) h = tt
    each_of (Name x) h = tt
    each_of (Call x at) h = (h.0, each_of_all at h.1)
    each_of (Minus a) h = each_of a h
    each_of (Binary op a b) h = (let r = parts (calls_of a) (calls_of b) h in (each_of a r.0, each_of b r.1))
    each_of (Clamp a l u) h =
        let r = parts (calls_of a ++ calls_of l) (calls_of u) h in
        let s = parts (calls_of a) (calls_of l) r.0 in
        (each_of a s.0, each_of l s.1, each_of u r.1)
    each_of (Cast t a) h = each_of a h
    each_of (Choice c a b) h =
        let r = parts (calls_of_test c ++ calls_of a) (calls_of b) h in
        let s = parts (calls_of_test c) (calls_of a) r.0 in
        (each_of_test c s.0, each_of a s.1, each_of b r.1)

    each_of_test : (c : Test) → All (calls_of_test c) → EachCallOfTest P c
    each_of_test (Compares by a b) h = (let r = parts (calls_of a) (calls_of b) h in (each_of a r.0, each_of b r.1))
    each_of_test (Fails c) h = each_of_test c h
    each_of_test (Both c d) h = (let r = parts (calls_of_test c) (calls_of_test d) h in (each_of_test c r.0, each_of_test d r.1))
    each_of_test (Either c d) h = (let r = parts (calls_of_test c) (calls_of_test d) h in (each_of_test c r.0, each_of_test d r.1))

    each_of_all : (at : Terms) → All (calls_of_all at) → EachCallOfAll P at
    each_of_all End h = tt
    each_of_all (More a rest) h = (let r = parts (calls_of a) (calls_of_all rest) h in (each_of a r.0, each_of_all rest r.1))

-- what is so of each call is so of each call in the indices of a call
module _ (P : List ℕ → Terms → Type 0) where
  mutual
    pub each_inner : (e : Term) → EachCall P e → EachCall (λ x at. EachCallOfAll P at) e
    each_inner (Number t n) h = tt
    each_inner (Name x) h = tt
    each_inner (Call x at) h = (h.1, inner_of_all at h.1)
    each_inner (Minus a) h = each_inner a h
    each_inner (Binary op a b) h = (each_inner a h.0, each_inner b h.1)
    each_inner (Clamp a l u) h = (each_inner a h.0, each_inner l h.1, each_inner u h.2)
    each_inner (Cast t a) h = each_inner a h
    each_inner (Choice c a b) h = (inner_of_test c h.0, each_inner a h.1, each_inner b h.2)

    inner_of_test : (c : Test) → EachCallOfTest P c → EachCallOfTest (λ x at. EachCallOfAll P at) c
    inner_of_test (Compares by a b) h = (each_inner a h.0, each_inner b h.1)
    inner_of_test (Fails c) h = inner_of_test c h
    inner_of_test (Both c d) h = (inner_of_test c h.0, inner_of_test d h.1)
    inner_of_test (Either c d) h = (inner_of_test c h.0, inner_of_test d h.1)

    inner_of_all : (at : Terms) → EachCallOfAll P at → EachCallOfAll (λ x at. EachCallOfAll P at) at
    inner_of_all End h = tt
    inner_of_all (More a rest) h = (each_inner a h.0, inner_of_all rest h.1)

module _ (P Q : List ℕ → Terms → Type 0) where
  mutual
    pub each_both : (e : Term) → EachCall P e → EachCall Q e → EachCall (λ x at. P x at × Q x at) e
    each_both (Number t n) h k = tt
    each_both (Name x) h k = tt
    each_both (Call x at) h k = ((h.0, k.0), both_of_all at h.1 k.1)
    each_both (Minus a) h k = each_both a h k
    each_both (Binary op a b) h k = (each_both a h.0 k.0, each_both b h.1 k.1)
    each_both (Clamp a l u) h k = (each_both a h.0 k.0, each_both l h.1 k.1, each_both u h.2 k.2)
    each_both (Cast t a) h k = each_both a h k
    each_both (Choice c a b) h k = (both_of_test c h.0 k.0, each_both a h.1 k.1, each_both b h.2 k.2)

    both_of_test : (c : Test) → EachCallOfTest P c → EachCallOfTest Q c → EachCallOfTest (λ x at. P x at × Q x at) c
    both_of_test (Compares by a b) h k = (each_both a h.0 k.0, each_both b h.1 k.1)
    both_of_test (Fails c) h k = both_of_test c h k
    both_of_test (Both c d) h k = (both_of_test c h.0 k.0, both_of_test d h.1 k.1)
    both_of_test (Either c d) h k = (both_of_test c h.0 k.0, both_of_test d h.1 k.1)

    both_of_all : (at : Terms) → EachCallOfAll P at → EachCallOfAll Q at → EachCallOfAll (λ x at. P x at × Q x at) at
    both_of_all End h k = tt
    both_of_all (More a rest) h k = (each_both a h.0 k.0, both_of_all rest h.1 k.1)
