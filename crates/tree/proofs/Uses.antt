-- What an expression's value and its calls depend on.
use Rattle.std.proofs.Common.{◌≡◌, ℕ, List, [], ◌∷◌, ◌++◌, ℤ, All, refl, ap, ◌∙◌, not, ◌&&◌, ◌||◌, if◌then◌else◌}
use Rattle.std.proofs.lemmas.List.Elements.{All-nil, All-cons, All-head, All-tail, All-append}
use Rattle.numeric.specs.Wrap.{wrap}
use Rattle.numeric.specs.Apply.{compare}
use Rattle.numeric.specs.declared.ty.Ty.TheVariants.{I32}
use Rattle.tree.specs.declared.value.Value.{Value}
use Rattle.tree.specs.Term.{Term, Number, Name, Call, Minus, Binary, Clamp, Cast, Choice, Terms, End, More, Test, Compares, Fails, Both, Either}
use Rattle.tree.specs.Meaning.{typed, negated, applied, clamped, holds, numbers_of}
use Rattle.tree.specs.Uses.{Asked, asked, variables_of, variables_of_test, variables_of_all, calls_made, calls_made_by_test, calls_made_by_all, EachCall, EachCallOfTest, EachCallOfAll}
use Rattle.tree.specs.Laws.{SameUse}

module _ {X : Type 0} (P : X → Type 0) where
  pub All-left : (xs ys : List X) → All P (xs ++ ys) → All P xs
  All-left [] ys h = All-nil P
  All-left (x ∷ xs) ys h = All-cons P x xs (All-head P x (xs ++ ys) h) (All-left xs ys (All-tail P x (xs ++ ys) h))

  pub All-right : (xs ys : List X) → All P (xs ++ ys) → All P ys
  All-right [] ys h = h
  All-right (x ∷ xs) ys h = All-right xs ys (All-tail P x (xs ++ ys) h)

-- a fact of every call
module _ (P : List ℕ → Terms → Type 0) (h : (name : List ℕ) (at : Terms) → P name at) where
  mutual
    pub each_call : (a : Term) → EachCall P a
    each_call (Number t n) = tt
    each_call (Name name) = tt
    each_call (Call name at) = (h name at, each_call_of_all at)
    each_call (Minus a) = each_call a
    each_call (Binary op a b) = (each_call a, each_call b)
    each_call (Clamp a l u) = (each_call a, each_call l, each_call u)
    each_call (Cast t a) = each_call a
    each_call (Choice c a b) = (each_call_of_test c, each_call a, each_call b)

    pub each_call_of_test : (c : Test) → EachCallOfTest P c
    each_call_of_test (Compares by a b) = (each_call a, each_call b)
    each_call_of_test (Fails c) = each_call_of_test c
    each_call_of_test (Both c d) = (each_call_of_test c, each_call_of_test d)
    each_call_of_test (Either c d) = (each_call_of_test c, each_call_of_test d)

    pub each_call_of_all : (at : Terms) → EachCallOfAll P at
    each_call_of_all End = tt
    each_call_of_all (More a rest) = (each_call a, each_call_of_all rest)

-- a fact that follows from another of the same call
module _ (P Q : List ℕ → Terms → Type 0) (f : (name : List ℕ) (at : Terms) → P name at → Q name at) where
  mutual
    pub each_call-weaker : (a : Term) → EachCall P a → EachCall Q a
    each_call-weaker (Number t n) h = tt
    each_call-weaker (Name name) h = tt
    each_call-weaker (Call name at) h = (f name at h.0, each_call_of_all-weaker at h.1)
    each_call-weaker (Minus a) h = each_call-weaker a h
    each_call-weaker (Binary op a b) h = (each_call-weaker a h.0, each_call-weaker b h.1)
    each_call-weaker (Clamp a l u) h = (each_call-weaker a h.0, each_call-weaker l h.1, each_call-weaker u h.2)
    each_call-weaker (Cast t a) h = each_call-weaker a h
    each_call-weaker (Choice c a b) h = (each_call_of_test-weaker c h.0, each_call-weaker a h.1, each_call-weaker b h.2)

    pub each_call_of_test-weaker : (c : Test) → EachCallOfTest P c → EachCallOfTest Q c
    each_call_of_test-weaker (Compares by a b) h = (each_call-weaker a h.0, each_call-weaker b h.1)
    each_call_of_test-weaker (Fails c) h = each_call_of_test-weaker c h
    each_call_of_test-weaker (Both c d) h = (each_call_of_test-weaker c h.0, each_call_of_test-weaker d h.1)
    each_call_of_test-weaker (Either c d) h = (each_call_of_test-weaker c h.0, each_call_of_test-weaker d h.1)

    pub each_call_of_all-weaker : (at : Terms) → EachCallOfAll P at → EachCallOfAll Q at
    each_call_of_all-weaker End h = tt
    each_call_of_all-weaker (More a rest) h = (each_call-weaker a h.0, each_call_of_all-weaker rest h.1)

-- the calls that are made are those that stand, at the values of their indices
module _ (P : Asked → Type 0) (variables : List ℕ → ℤ) (answers : List ℕ → List ℤ → Value) where
  abbrev pub AtItsValues : List ℕ → Terms → Type 0
  AtItsValues name at = P (asked name (numbers_of variables answers at))

  mutual
    pub all_made : (a : Term) → EachCall AtItsValues a → All P (calls_made variables answers a)
    all_made (Number t n) h = All-nil P
    all_made (Name name) h = All-nil P
    all_made (Call name at) h = All-append P (calls_made_by_all variables answers at) (asked name (numbers_of variables answers at) ∷ []) (all_made_by_all at h.1) (All-cons P _ [] h.0 (All-nil P))
    all_made (Minus a) h = all_made a h
    all_made (Binary op a b) h = All-append P (calls_made variables answers a) (calls_made variables answers b) (all_made a h.0) (all_made b h.1)
    all_made (Clamp a l u) h =
        All-append P (calls_made variables answers a ++ calls_made variables answers l) (calls_made variables answers u)
        (All-append P (calls_made variables answers a) (calls_made variables answers l) (all_made a h.0) (all_made l h.1)) (all_made u h.2)
    all_made (Cast t a) h = all_made a h
    all_made (Choice c a b) h =
        All-append P (calls_made_by_test variables answers c ++ calls_made variables answers a) (calls_made variables answers b)
        (All-append P (calls_made_by_test variables answers c) (calls_made variables answers a) (all_made_by_test c h.0) (all_made a h.1)) (all_made b h.2)

    pub all_made_by_test : (c : Test) → EachCallOfTest AtItsValues c → All P (calls_made_by_test variables answers c)
    all_made_by_test (Compares by a b) h = All-append P (calls_made variables answers a) (calls_made variables answers b) (all_made a h.0) (all_made b h.1)
    all_made_by_test (Fails c) h = all_made_by_test c h
    all_made_by_test (Both c d) h = All-append P (calls_made_by_test variables answers c) (calls_made_by_test variables answers d) (all_made_by_test c h.0) (all_made_by_test d h.1)
    all_made_by_test (Either c d) h = All-append P (calls_made_by_test variables answers c) (calls_made_by_test variables answers d) (all_made_by_test c h.0) (all_made_by_test d h.1)

    pub all_made_by_all : (at : Terms) → EachCallOfAll AtItsValues at → All P (calls_made_by_all variables answers at)
    all_made_by_all End h = All-nil P
    all_made_by_all (More a rest) h = All-append P (calls_made variables answers a) (calls_made_by_all variables answers rest) (all_made a h.0) (all_made_by_all rest h.1)

  mutual
    pub each_stands : (a : Term) → All P (calls_made variables answers a) → EachCall AtItsValues a
    each_stands (Number t n) h = tt
    each_stands (Name name) h = tt
    each_stands (Call name at) h =
        let before = calls_made_by_all variables answers at in
        let this = asked name (numbers_of variables answers at) in
        (All-head P this [] (All-right P before (this ∷ []) h), each_stands_in_all at (All-left P before (this ∷ []) h))
    each_stands (Minus a) h = each_stands a h
    each_stands (Binary op a b) h =
        let xs = calls_made variables answers a in
        let ys = calls_made variables answers b in
        (each_stands a (All-left P xs ys h), each_stands b (All-right P xs ys h))
    each_stands (Clamp a l u) h =
        let xs = calls_made variables answers a in
        let ys = calls_made variables answers l in
        let zs = calls_made variables answers u in
        let first = All-left P (xs ++ ys) zs h in
        (each_stands a (All-left P xs ys first), each_stands l (All-right P xs ys first), each_stands u (All-right P (xs ++ ys) zs h))
    each_stands (Cast t a) h = each_stands a h
    each_stands (Choice c a b) h =
        let xs = calls_made_by_test variables answers c in
        let ys = calls_made variables answers a in
        let zs = calls_made variables answers b in
        let first = All-left P (xs ++ ys) zs h in
        (each_stands_in_test c (All-left P xs ys first), each_stands a (All-right P xs ys first), each_stands b (All-right P (xs ++ ys) zs h))

    pub each_stands_in_test : (c : Test) → All P (calls_made_by_test variables answers c) → EachCallOfTest AtItsValues c
    each_stands_in_test (Compares by a b) h =
        let xs = calls_made variables answers a in
        let ys = calls_made variables answers b in
        (each_stands a (All-left P xs ys h), each_stands b (All-right P xs ys h))
    each_stands_in_test (Fails c) h = each_stands_in_test c h
    each_stands_in_test (Both c d) h =
        let xs = calls_made_by_test variables answers c in
        let ys = calls_made_by_test variables answers d in
        (each_stands_in_test c (All-left P xs ys h), each_stands_in_test d (All-right P xs ys h))
    each_stands_in_test (Either c d) h =
        let xs = calls_made_by_test variables answers c in
        let ys = calls_made_by_test variables answers d in
        (each_stands_in_test c (All-left P xs ys h), each_stands_in_test d (All-right P xs ys h))

    pub each_stands_in_all : (at : Terms) → All P (calls_made_by_all variables answers at) → EachCallOfAll AtItsValues at
    each_stands_in_all End h = tt
    each_stands_in_all (More a rest) h =
        let xs = calls_made variables answers a in
        let ys = calls_made_by_all variables answers rest in
        (each_stands a (All-left P xs ys h), each_stands_in_all rest (All-right P xs ys h))

-- variables that agree where they occur, and answers that agree on the calls
module _ (variables others : List ℕ → ℤ) (answers otherwise : List ℕ → List ℤ → Value) where
  abbrev pub SameVariable : List ℕ → Type 0
  SameVariable name = variables name ≡ others name

  abbrev pub SameAnswer : List ℕ → Terms → Type 0
  SameAnswer name at = answers name (numbers_of variables answers at) ≡ otherwise name (numbers_of variables answers at)

  pub record SameTest (c : Test) : Type 0 where
    pub value : holds variables answers c ≡ holds others otherwise c
    pub calls : calls_made_by_test variables answers c ≡ calls_made_by_test others otherwise c

  pub record SameIndices (at : Terms) : Type 0 where
    pub value : numbers_of variables answers at ≡ numbers_of others otherwise at
    pub calls : calls_made_by_all variables answers at ≡ calls_made_by_all others otherwise at

  mutual
    pub same_use : (a : Term) → All SameVariable (variables_of a) → EachCall SameAnswer a → SameUse variables answers others otherwise a
    same_use (Number t n) v h = record { value = refl; calls = refl }
    same_use (Name name) v h = record { value = ap (typed I32) (All-head SameVariable name [] v); calls = refl }
    same_use (Call name at) v h =
        let s = same_indices at v h.1 in
        record { value = h.0 ∙ ap (otherwise name) s.value; calls = λ i. s.calls i ++ asked name (s.value i) ∷ [] }
    same_use (Minus a) v h = let s = same_use a v h in record { value = ap negated s.value; calls = s.calls }
    same_use (Binary op a b) v h =
        let xs = variables_of a in
        let ys = variables_of b in
        let s = same_use a (All-left SameVariable xs ys v) h.0 in
        let t = same_use b (All-right SameVariable xs ys v) h.1 in
        record { value = λ i. applied op (s.value i) (t.value i); calls = λ i. s.calls i ++ t.calls i }
    same_use (Clamp a l u) v h =
        let xs = variables_of a in
        let ys = variables_of l in
        let zs = variables_of u in
        let first = All-left SameVariable (xs ++ ys) zs v in
        let s = same_use a (All-left SameVariable xs ys first) h.0 in
        let t = same_use l (All-right SameVariable xs ys first) h.1 in
        let w = same_use u (All-right SameVariable (xs ++ ys) zs v) h.2 in
        record { value = λ i. clamped (s.value i) (t.value i) (w.value i); calls = λ i. s.calls i ++ t.calls i ++ w.calls i }
    same_use (Cast t a) v h = let s = same_use a v h in record { value = ap (λ x. typed t (wrap t x.number)) s.value; calls = s.calls }
    same_use (Choice c a b) v h =
        let xs = variables_of_test c in
        let ys = variables_of a in
        let zs = variables_of b in
        let first = All-left SameVariable (xs ++ ys) zs v in
        let s = same_test c (All-left SameVariable xs ys first) h.0 in
        let t = same_use a (All-right SameVariable xs ys first) h.1 in
        let w = same_use b (All-right SameVariable (xs ++ ys) zs v) h.2 in
        record { value = λ i. if s.value i then t.value i else w.value i; calls = λ i. s.calls i ++ t.calls i ++ w.calls i }

    pub same_test : (c : Test) → All SameVariable (variables_of_test c) → EachCallOfTest SameAnswer c → SameTest c
    same_test (Compares by a b) v h =
        let xs = variables_of a in
        let ys = variables_of b in
        let s = same_use a (All-left SameVariable xs ys v) h.0 in
        let t = same_use b (All-right SameVariable xs ys v) h.1 in
        record { value = λ i. compare by (s.value i).number (t.value i).number; calls = λ i. s.calls i ++ t.calls i }
    same_test (Fails c) v h = let s = same_test c v h in record { value = ap not s.value; calls = s.calls }
    same_test (Both c d) v h =
        let xs = variables_of_test c in
        let ys = variables_of_test d in
        let s = same_test c (All-left SameVariable xs ys v) h.0 in
        let t = same_test d (All-right SameVariable xs ys v) h.1 in
        record { value = λ i. s.value i && t.value i; calls = λ i. s.calls i ++ t.calls i }
    same_test (Either c d) v h =
        let xs = variables_of_test c in
        let ys = variables_of_test d in
        let s = same_test c (All-left SameVariable xs ys v) h.0 in
        let t = same_test d (All-right SameVariable xs ys v) h.1 in
        record { value = λ i. s.value i || t.value i; calls = λ i. s.calls i ++ t.calls i }

    pub same_indices : (at : Terms) → All SameVariable (variables_of_all at) → EachCallOfAll SameAnswer at → SameIndices at
    same_indices End v h = record { value = refl; calls = refl }
    same_indices (More a rest) v h =
        let xs = variables_of a in
        let ys = variables_of_all rest in
        let s = same_use a (All-left SameVariable xs ys v) h.0 in
        let t = same_indices rest (All-right SameVariable xs ys v) h.1 in
        record { value = λ i. (s.value i).number ∷ t.value i; calls = λ i. s.calls i ++ t.calls i }
