-- Which calls stay where others are put in.
use Rattle.std.proofs.Common.{◌≡◌, ◌≢◌, ℕ, zero, suc, ◌≤◌, Bool, true, false, List, [], ◌∷◌, take, Option, Some, None, refl, sym, ap, ◌∙◌, subst, inl, inr}
use Rattle.std.specs.Prelude.{slice_get}
use Rattle.tree.specs.Term.{Term, Number, Name, Call, Minus, Binary, Clamp, Cast, Choice, Terms, End, More, Test, Compares, Fails, Both, Either}
use Rattle.tree.specs.Uses.{EachCall, EachCallOfTest, EachCallOfAll}
use Rattle.tree.specs.Substitution.{put_in as put_in_name, substituted, test_substituted, all_substituted, with_calls, test_with_calls, all_with_calls}
use Rattle.meaning.specs.Algorithm.{Function}
use Rattle.meaning.specs.Names.{same_name}
use Rattle.meaning.proofs.Alone.{each_call}
use Rattle.meaning.proofs.Cases.{name_same, name_differs}
use Rattle.meaning.proofs.Calls.{NoneNamed}
use Rattle.meaning.specs.Inlining.PutIn.{Replacement, index_for, with_definition, with_definitions}
use Rattle.meaning.proofs.Marks.{NonePutIn, steps_miss, steps_before}
use Rattle.meaning.proofs.InliningTyped.{some_is, some_bool}

-- two replacements that agree on the names that an expression calls
module _ (r other : Replacement) where
  mutual
    pub same_calls : (e : Term) → EachCall (λ name at. (now : Terms) → r name now ≡ other name now) e → with_calls r e ≡ with_calls other e
    same_calls (Number u n) h = refl
    same_calls (Name name) h = refl
    same_calls (Call name at) h = h.0 (all_with_calls r at) ∙ ap (other name) (same_calls_in_all at h.1)
    same_calls (Minus a) h = ap Minus (same_calls a h)
    same_calls (Binary op a b) h = λ i. Binary op (same_calls a h.0 i) (same_calls b h.1 i)
    same_calls (Clamp a l u) h = λ i. Clamp (same_calls a h.0 i) (same_calls l h.1 i) (same_calls u h.2 i)
    same_calls (Cast t a) h = ap (Cast t) (same_calls a h)
    same_calls (Choice c a b) h = λ i. Choice (same_calls_in_test c h.0 i) (same_calls a h.1 i) (same_calls b h.2 i)

    same_calls_in_test : (c : Test) → EachCallOfTest (λ name at. (now : Terms) → r name now ≡ other name now) c → test_with_calls r c ≡ test_with_calls other c
    same_calls_in_test (Compares by a b) h = λ i. Compares by (same_calls a h.0 i) (same_calls b h.1 i)
    same_calls_in_test (Fails c) h = ap Fails (same_calls_in_test c h)
    same_calls_in_test (Both c d) h = λ i. Both (same_calls_in_test c h.0 i) (same_calls_in_test d h.1 i)
    same_calls_in_test (Either c d) h = λ i. Either (same_calls_in_test c h.0 i) (same_calls_in_test d h.1 i)

    same_calls_in_all : (at : Terms) → EachCallOfAll (λ name at. (now : Terms) → r name now ≡ other name now) at → all_with_calls r at ≡ all_with_calls other at
    same_calls_in_all End h = refl
    same_calls_in_all (More a rest) h = λ i. More (same_calls a h.0 i) (same_calls_in_all rest h.1 i)

-- calls replaced by themselves
mutual
  pub calls_alone : (e : Term) → with_calls Call e ≡ e
  calls_alone (Number u n) = refl
  calls_alone (Name name) = refl
  calls_alone (Call name at) = ap (Call name) (calls_alone_in_all at)
  calls_alone (Minus a) = ap Minus (calls_alone a)
  calls_alone (Binary op a b) = λ i. Binary op (calls_alone a i) (calls_alone b i)
  calls_alone (Clamp a l u) = λ i. Clamp (calls_alone a i) (calls_alone l i) (calls_alone u i)
  calls_alone (Cast t a) = ap (Cast t) (calls_alone a)
  calls_alone (Choice c a b) = λ i. Choice (calls_alone_in_test c i) (calls_alone a i) (calls_alone b i)

  calls_alone_in_test : (c : Test) → test_with_calls Call c ≡ c
  calls_alone_in_test (Compares by a b) = λ i. Compares by (calls_alone a i) (calls_alone b i)
  calls_alone_in_test (Fails c) = ap Fails (calls_alone_in_test c)
  calls_alone_in_test (Both c d) = λ i. Both (calls_alone_in_test c i) (calls_alone_in_test d i)
  calls_alone_in_test (Either c d) = λ i. Either (calls_alone_in_test c i) (calls_alone_in_test d i)

  calls_alone_in_all : (at : Terms) → all_with_calls Call at ≡ at
  calls_alone_in_all End = refl
  calls_alone_in_all (More a rest) = λ i. More (calls_alone a i) (calls_alone_in_all rest i)

with_definition-miss : (r : Replacement) (f : Function) (name : List ℕ) (at : Terms) → f.name ≢ name → with_definition r f name at ≡ r name at
with_definition-miss r f name at d =
    let pick : Bool → Term = λ b. elim b [ true ↦ substituted (index_for f.variables at) (with_calls r f.value) | false ↦ r name at ] in
    ap pick (name_differs f.name name d)

-- such a name keeps what stood for it
pub definitions_miss : (r : Replacement) (fs : List Function) (stored : List Bool) (name : List ℕ) (at : Terms) → NonePutIn fs stored name → with_definitions r fs stored name at ≡ r name at
definitions_miss r fs stored name at h = steps_miss with_definition name (λ (x : Replacement). x name at) (λ x f d. with_definition-miss x f name at d) r fs stored h

-- only the first functions count for a name that no later one has
pub definitions_before : (r : Replacement) (fs : List Function) (stored : List Bool) (k : ℕ) (name : List ℕ) (at : Terms) →
    ((j : ℕ) (g : Function) → k ≤ j → slice_get fs j ≡ Some g → slice_get stored j ≡ Some false → g.name ≢ name) →
    with_definitions r fs stored name at ≡ with_definitions r (take k fs) stored name at
definitions_before r fs stored k name at h = steps_before with_definition name (λ (x : Replacement). x name at) (λ x f d. with_definition-miss x f name at d) r fs stored k h

-- each function calls none of these from itself on
abbrev pub CallNoneLater : List Function → Type 0
CallNoneLater [] = Unit {0}
CallNoneLater (f ∷ fs) = EachCall (λ name at. NoneNamed name (f ∷ fs)) f.value × CallNoneLater fs

-- what is left once calls are put in
module _ (P : List ℕ → Type 0) where
  abbrev pub Stays : Term → Type 0
  Stays e = EachCall (λ name at. P name) e

  abbrev pub StayAll : Terms → Type 0
  StayAll at = EachCallOfAll (λ name at. P name) at

  -- what stands for the name has no calls but those that stay, where its indices have none
  abbrev pub IsDone : Replacement → List ℕ → Type 0
  IsDone r name = (at : Terms) → StayAll at → Stays (r name at)

  module _ (r : Replacement) where
    mutual
      pub done : (e : Term) → EachCall (λ name at. IsDone r name) e → Stays (with_calls r e)
      done (Number u n) h = tt
      done (Name name) h = tt
      done (Call name at) h = h.0 (all_with_calls r at) (done_all at h.1)
      done (Minus a) h = done a h
      done (Binary op a b) h = (done a h.0, done b h.1)
      done (Clamp a l u) h = (done a h.0, done l h.1, done u h.2)
      done (Cast t a) h = done a h
      done (Choice c a b) h = (done_test c h.0, done a h.1, done b h.2)

      done_test : (c : Test) → EachCallOfTest (λ name at. IsDone r name) c → EachCallOfTest (λ name at. P name) (test_with_calls r c)
      done_test (Compares by a b) h = (done a h.0, done b h.1)
      done_test (Fails c) h = done_test c h
      done_test (Both c d) h = (done_test c h.0, done_test d h.1)
      done_test (Either c d) h = (done_test c h.0, done_test d h.1)

      done_all : (at : Terms) → EachCallOfAll (λ name at. IsDone r name) at → StayAll (all_with_calls r at)
      done_all End h = tt
      done_all (More a rest) h = (done a h.0, done_all rest h.1)

  put_in_stays : (o : Option Term) (name : List ℕ) → ((u : Term) → o ≡ Some u → Stays u) → Stays (put_in_name o name)
  put_in_stays None name h = tt
  put_in_stays (Some u) name h = h u refl

  module _ (map : List ℕ → Option Term) (stays : (name : List ℕ) (u : Term) → map name ≡ Some u → Stays u) where
    mutual
      stays-substituted : (e : Term) → Stays e → Stays (substituted map e)
      stays-substituted (Number u n) h = tt
      stays-substituted (Name name) h = put_in_stays (map name) name (stays name)
      stays-substituted (Call name at) h = (h.0, stays-all at h.1)
      stays-substituted (Minus a) h = stays-substituted a h
      stays-substituted (Binary op a b) h = (stays-substituted a h.0, stays-substituted b h.1)
      stays-substituted (Clamp a l u) h = (stays-substituted a h.0, stays-substituted l h.1, stays-substituted u h.2)
      stays-substituted (Cast t a) h = stays-substituted a h
      stays-substituted (Choice c a b) h = (stays-test c h.0, stays-substituted a h.1, stays-substituted b h.2)

      stays-test : (c : Test) → EachCallOfTest (λ name at. P name) c → EachCallOfTest (λ name at. P name) (test_substituted map c)
      stays-test (Compares by a b) h = (stays-substituted a h.0, stays-substituted b h.1)
      stays-test (Fails c) h = stays-test c h
      stays-test (Both c d) h = (stays-test c h.0, stays-test d h.1)
      stays-test (Either c d) h = (stays-test c h.0, stays-test d h.1)

      stays-all : (at : Terms) → StayAll at → StayAll (all_substituted map at)
      stays-all End h = tt
      stays-all (More a rest) h = (stays-substituted a h.0, stays-all rest h.1)

  index_stays : (names : List (List ℕ)) (at : Terms) (name : List ℕ) (u : Term) → StayAll at → index_for names at name ≡ Some u → Stays u
  index_stays [] End name u h e = absurd (cc)
  index_stays [] (More a rest) name u h e = absurd (cc)
  index_stays (x ∷ xs) End name u h e = absurd (cc)
  index_stays (x ∷ xs) (More a rest) name u h e =
      let pick : Bool → Option Term = λ b. elim b [ true ↦ Some a | false ↦ index_for xs rest name ] in
      elim (some_bool (same_name x name)) [
        | inl t ↦ let same : a ≡ u = some_is (sym (ap pick t) ∙ e) in subst (λ (v : Term). Stays v) same h.0
        | inr t ↦ index_stays xs rest name u h.1 (sym (ap pick t) ∙ e)
      ]

  each_done : (r : Replacement) (fs : List Function) (stored : List Bool) → ((name : List ℕ) → NonePutIn fs stored name → IsDone r name) → (e : Term) → EachCall (λ name at. NoneNamed name fs) e → EachCall (λ name at. IsDone r name) e
  each_done r fs stored ready e h = each_call (λ name at. NoneNamed name fs) (λ name at. IsDone r name) (λ name at none. ready name (λ k f g m. none k f g)) e h

  pub all_done : (r : Replacement) (fs : List Function) (stored : List Bool) → CallNoneLater fs → ((name : List ℕ) → NonePutIn fs stored name → IsDone r name) → (name : List ℕ) → IsDone (with_definitions r fs stored) name
  all_done r [] stored back ready name = ready name (λ k f e m. absurd (cc))
  all_done r (f ∷ fs) [] back ready name = ready name (λ k f e m. absurd (cc))
  all_done r (f ∷ fs) (true ∷ stored) back ready name = all_done r fs stored back.1 (λ n h. ready n (next n h)) name
    where
      next : (n : List ℕ) → NonePutIn fs stored n → NonePutIn (f ∷ fs) (true ∷ stored) n
      next n h zero g e m = absurd (cc)
      next n h (suc k) g e m = h k g e m
  all_done r (f ∷ fs) (false ∷ stored) back ready name = all_done (with_definition r f) fs stored back.1 put name
    where
      put : (n : List ℕ) → NonePutIn fs stored n → IsDone (with_definition r f) n
      put n h at stay =
          let pick : Bool → Term = λ b. elim b [ true ↦ substituted (index_for f.variables at) (with_calls r f.value) | false ↦ r n at ] in
          elim (some_bool (same_name f.name n)) [
            | inl t ↦
                let inner = done r f.value (each_done r (f ∷ fs) (false ∷ stored) ready f.value back.0) in
                subst (λ (x : Term). Stays x) (sym (ap pick t)) (stays-substituted (index_for f.variables at) (λ m u. index_stays f.variables at m u stay) (with_calls r f.value) inner)
            | inr t ↦ subst (λ (x : Term). Stays x) (sym (ap pick t)) (ready n (other n t h) at stay)
          ]
        where
          other : (n : List ℕ) → same_name f.name n ≡ false → NonePutIn fs stored n → NonePutIn (f ∷ fs) (false ∷ stored) n
          other n t h zero g e m = λ s.
              let same : f ≡ g = some_is e in
              let hit = name_same f.name n (ap (λ (x : Function). x.name) same ∙ s) in
              let no : true ≡ false = sym hit ∙ t in
              absurd (cc)
          other n t h (suc k) g e m = h k g e m
