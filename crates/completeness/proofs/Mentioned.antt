-- What the expressions of a line `store` mention: variables, and calls as loads.
use Rattle.std.proofs.Common.{◌≡◌, ℕ, Bool, true, false, ◌||◌, List, [], ◌∷◌, ◌++◌, Option, Some, refl, sym, ap, ◌∙◌, inl, inr}
use Rattle.std.specs.List.{AllByRecursion}
use Rattle.numeric.specs.declared.ty.Ty.{Ty}
use Rattle.numeric.specs.declared.ty.Ty.TheVariants.{I32}
use Rattle.tree.specs.Term.{Term, Number, Name, Call, Minus, Binary, Clamp, Cast, Choice, Terms, End, More, Test, Compares, Fails, Both, Either}
use Rattle.tree.specs.Uses.{EachCall, EachCallOfTest, EachCallOfAll}
use Rattle.tree.specs.Substitution.{with_calls, test_with_calls, all_with_calls}
use Rattle.tree.specs.Typing.{type_of, is_typed, are_indices, common, answer_type, index_count, is_index}
use Rattle.meaning.specs.Names.{same_name}
use Rattle.meaning.proofs.InliningTyped.{only_if-is, common-is, operator-is, some-is, both_true, index-is, answer-is}
use Rattle.meaning.proofs.Keeps.{same_count}
use Rattle.soundness.proofs.Refines.{name_refl}
use Rattle.algo.specs.Scoping.Standing.{Written, calls_of, calls_of_test, calls_of_all}
use Rattle.validation.specs.Groups.Wrong.{Mentions, TestMentions, SomeMentions}
use Rattle.sched.specs.Stored.{are_calls_of}
use Rattle.sched.specs.Loading.{Loads, loaded_name, as_load}

-- ---- typed expressions

-- where no known variable is of the one kind, and no call of what can be called, of which these are so, with as many indices as that takes, is of the other
module _ (known : List ℕ → Bool) (functions : List ℕ → Option (Ty × ℕ)) (ms : Loads) (IsName : List ℕ → Type 0) (IsCall : List ℕ → ℕ → Type 0) (P Q R : List ℕ → Type 0)
    (name : (x : List ℕ) → known x ≡ true → IsName x → ⊥)
    (call : (x : List ℕ) (s : Ty × ℕ) (n : ℕ) → functions x ≡ Some s → s.1 ≡ n → P x → Q x → R x → IsCall (loaded_name ms x) n → ⊥) where
  mutual
    pub none : (e : Term) (t : Ty) → type_of known functions e ≡ Some t → EachCall (λ x at. P x) e → EachCall (λ x at. Q x) e → EachCall (λ x at. R x) e →
        Mentions IsName IsCall (with_calls (as_load ms) e) → ⊥
    none (Number u n) t h p q r m = m
    none (Name x) t h p q r m = name x (only_if-is (known x) (Some I32) t h).0 m
    none (Call x at) t h p q r (inl m) =
        let k = only_if-is (are_indices known functions at) (answer_type (functions x) (index_count at)) t h in
        let s = answer-is (functions x) (index_count at) t k.1 in
        call x s.0 (index_count (all_with_calls (as_load ms) at)) s.1 (s.2 ∙ sym (same_count (as_load ms) at)) p.0 q.0 r.0 m
    none (Call x at) t h p q r (inr m) =
        none_of_all at (only_if-is (are_indices known functions at) (answer_type (functions x) (index_count at)) t h).0 p.1 q.1 r.1 m
    none (Minus a) t h p q r m = none a t h p q r m
    none (Binary op a b) t h p q r m =
        let k = operator-is op (common (type_of known functions a) (type_of known functions b)) t h in
        let s = common-is (type_of known functions a) (type_of known functions b) k.0 k.1 in
        elim m [ inl m ↦ none a k.0 s.0 p.0 q.0 r.0 m | inr m ↦ none b k.0 s.1 p.1 q.1 r.1 m ]
    none (Clamp a l u) t h p q r m =
        let k = common-is (type_of known functions a) (common (type_of known functions l) (type_of known functions u)) t h in
        let s = common-is (type_of known functions l) (type_of known functions u) t k.1 in
        elim m [ inl m ↦ none a t k.0 p.0 q.0 r.0 m | inr m ↦ elim m [ inl m ↦ none l t s.0 p.1 q.1 r.1 m | inr m ↦ none u t s.1 p.2 q.2 r.2 m ] ]
    none (Cast v a) t h p q r m =
        let k = only_if-is _ (Some v) t h in
        let s = some-is (type_of known functions a) k.0 in
        none a s.0 s.1 p q r m
    none (Choice c a b) t h p q r m =
        let k = only_if-is (is_typed known functions c) (common (type_of known functions a) (type_of known functions b)) t h in
        let s = common-is (type_of known functions a) (type_of known functions b) t k.1 in
        elim m [ inl m ↦ none_of_test c k.0 p.0 q.0 r.0 m | inr m ↦ elim m [ inl m ↦ none a t s.0 p.1 q.1 r.1 m | inr m ↦ none b t s.1 p.2 q.2 r.2 m ] ]

    none_of_test : (c : Test) → is_typed known functions c ≡ true → EachCallOfTest (λ x at. P x) c → EachCallOfTest (λ x at. Q x) c → EachCallOfTest (λ x at. R x) c →
        TestMentions IsName IsCall (test_with_calls (as_load ms) c) → ⊥
    none_of_test (Compares by a b) h p q r m =
        let k = some-is (common (type_of known functions a) (type_of known functions b)) h in
        let s = common-is (type_of known functions a) (type_of known functions b) k.0 k.1 in
        elim m [ inl m ↦ none a k.0 s.0 p.0 q.0 r.0 m | inr m ↦ none b k.0 s.1 p.1 q.1 r.1 m ]
    none_of_test (Fails c) h p q r m = none_of_test c h p q r m
    none_of_test (Both c d) h p q r m =
        let k = both_true (is_typed known functions c) (is_typed known functions d) h in
        elim m [ inl m ↦ none_of_test c k.0 p.0 q.0 r.0 m | inr m ↦ none_of_test d k.1 p.1 q.1 r.1 m ]
    none_of_test (Either c d) h p q r m =
        let k = both_true (is_typed known functions c) (is_typed known functions d) h in
        elim m [ inl m ↦ none_of_test c k.0 p.0 q.0 r.0 m | inr m ↦ none_of_test d k.1 p.1 q.1 r.1 m ]

    none_of_all : (at : Terms) → are_indices known functions at ≡ true → EachCallOfAll (λ x at. P x) at → EachCallOfAll (λ x at. Q x) at → EachCallOfAll (λ x at. R x) at →
        SomeMentions IsName IsCall (all_with_calls (as_load ms) at) → ⊥
    none_of_all End h p q r m = m
    none_of_all (More a rest) h p q r m =
        let k = both_true (is_index (type_of known functions a)) (are_indices known functions rest) h in
        elim m [ inl m ↦ none a I32 (index-is (type_of known functions a) k.0) p.0 q.0 r.0 m | inr m ↦ none_of_all rest k.1 p.1 q.1 r.1 m ]

-- ---- the calls that are written

module _ (P : List ℕ → Type 0) where
  abbrev All : List Written → Type 0
  All cs = AllByRecursion (λ c. P c.name) cs

  parts : (xs ys : List Written) → All (xs ++ ys) → All xs × All ys
  parts [] ys h = (tt, h)
  parts (x ∷ xs) ys h = let r = parts xs ys h.1 in ((h.0, r.0), r.1)

  mutual
    pub each_written : (e : Term) → All (calls_of e) → EachCall (λ x at. P x) e
    each_written (Number t n) h = tt
    each_written (Name x) h = tt
    each_written (Call x at) h = (h.0, each_of_all at h.1)
    each_written (Minus a) h = each_written a h
    each_written (Binary op a b) h = let r = parts (calls_of a) (calls_of b) h in (each_written a r.0, each_written b r.1)
    each_written (Clamp a l u) h =
        let r = parts (calls_of a ++ calls_of l) (calls_of u) h in
        let s = parts (calls_of a) (calls_of l) r.0 in
        (each_written a s.0, each_written l s.1, each_written u r.1)
    each_written (Cast t a) h = each_written a h
    each_written (Choice c a b) h =
        let r = parts (calls_of_test c ++ calls_of a) (calls_of b) h in
        let s = parts (calls_of_test c) (calls_of a) r.0 in
        (each_of_test c s.0, each_written a s.1, each_written b r.1)

    each_of_test : (c : Test) → All (calls_of_test c) → EachCallOfTest (λ x at. P x) c
    each_of_test (Compares by a b) h = let r = parts (calls_of a) (calls_of b) h in (each_written a r.0, each_written b r.1)
    each_of_test (Fails c) h = each_of_test c h
    each_of_test (Both c d) h = let r = parts (calls_of_test c) (calls_of_test d) h in (each_of_test c r.0, each_of_test d r.1)
    each_of_test (Either c d) h = let r = parts (calls_of_test c) (calls_of_test d) h in (each_of_test c r.0, each_of_test d r.1)

    each_of_all : (at : Terms) → All (calls_of_all at) → EachCallOfAll (λ x at. P x) at
    each_of_all End h = tt
    each_of_all (More a rest) h = let r = parts (calls_of a) (calls_of_all rest) h in (each_written a r.0, each_of_all rest r.1)

  -- what is so of each function that these call is so of each of the calls
  pub each_called : (cs : List Written) → ((x : List ℕ) → are_calls_of x cs ≡ true → P x) → All cs
  each_called [] h = tt
  each_called (c ∷ cs) h = (
    h c.name (ap (λ (b : Bool). b || are_calls_of c.name cs) (name_refl c.name)),
    each_called cs (λ x q. h x (later (same_name c.name x) (are_calls_of x cs) q)),
  )
    where
      later : (b d : Bool) → d ≡ true → (b || d) ≡ true
      later true d q = refl
      later false d q = q
