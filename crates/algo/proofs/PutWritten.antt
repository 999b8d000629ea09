-- Expressions in which others are put in for variables and calls can be written, where all of them can.
use Rattle.std.proofs.Common.{◌≡◌, ℕ, ◌+◌, Bool, true, false, List, [], ◌∷◌, All, Option, Some, None, refl, ap, subst, if◌then◌else◌}
use Rattle.std.specs.Prelude.{max}
use Rattle.std.proofs.lemmas.List.Elements.{All-head, All-tail}
use Rattle.tree.specs.Term.{Term, Number, Name, Call, Minus, Binary, Clamp, Cast, Choice, Terms, End, More, Test, Compares, Fails, Both, Either}
use Rattle.tree.specs.Tree.{depth, test_depth, depths}
use Rattle.tree.specs.Substitution.{put_in as put_variable, substituted, test_substituted, all_substituted, with_calls, test_with_calls, all_with_calls}
use Rattle.meaning.specs.Algorithm.{Function, Algorithm}
use Rattle.meaning.specs.Names.{same_name}
use Rattle.meaning.specs.Inlining.PutIn.{Replacement, index_for, with_definition, with_definitions, put_in, is_possible, put_in_where_possible}
use Rattle.algo.specs.Words.{IsName}
use Rattle.algo.specs.Written.{IsWrittenBy, IsTestWrittenBy, AreIndicesWrittenBy, AreWrittenBy, IsWritten, AreExpressionsWritten}

-- ---- for variables

module _ (P : List ℕ → Type 0) (map : List ℕ → Option Term) (good : (x : List ℕ) (u : Term) → map x ≡ Some u → IsWrittenBy P u) where
  variable_written : (x : List ℕ) (o : Option Term) → ((u : Term) → o ≡ Some u → IsWrittenBy P u) → IsName x → IsWrittenBy P (put_variable o x)
  variable_written x None f h = h
  variable_written x (Some u) f h = f u refl

  mutual
    pub substituted_written : (a : Term) → IsWrittenBy P a → IsWrittenBy P (substituted map a)
    substituted_written (Number t n) h = h
    substituted_written (Name x) h = variable_written x (map x) (good x) h
    substituted_written (Call x at) h = (h.0, indices_substituted at h.1)
    substituted_written (Minus a) h = substituted_written a h
    substituted_written (Binary op a b) h = (substituted_written a h.0, substituted_written b h.1)
    substituted_written (Clamp a l u) h = (substituted_written a h.0, substituted_written l h.1, substituted_written u h.2)
    substituted_written (Cast t a) h = substituted_written a h
    substituted_written (Choice c a b) h = (test_substituted_written c h.0, substituted_written a h.1, substituted_written b h.2)

    test_substituted_written : (c : Test) → IsTestWrittenBy P c → IsTestWrittenBy P (test_substituted map c)
    test_substituted_written (Compares by a b) h = (substituted_written a h.0, substituted_written b h.1)
    test_substituted_written (Fails c) h = test_substituted_written c h
    test_substituted_written (Both c d) h = (test_substituted_written c h.0, test_substituted_written d h.1)
    test_substituted_written (Either c d) h = (test_substituted_written c h.0, test_substituted_written d h.1)

    indices_substituted : (at : Terms) → AreIndicesWrittenBy P at → AreIndicesWrittenBy P (all_substituted map at)
    indices_substituted End h = h
    indices_substituted (More a rest) h = (substituted_written a h.0, others_substituted rest h.1)

    others_substituted : (at : Terms) → AreWrittenBy P at → AreWrittenBy P (all_substituted map at)
    others_substituted End h = h
    others_substituted (More a rest) h = (substituted_written a h.0, others_substituted rest h.1)

-- ---- for calls

-- what stands for a call by one of the names P can be written with calls by the names Q
abbrev pub IsGood : (P Q : List ℕ → Type 0) → Replacement → Type 0
IsGood P Q r = (x : List ℕ) (at : Terms) → P x → AreIndicesWrittenBy Q at → IsWrittenBy Q (r x at)

module _ (P Q : List ℕ → Type 0) (r : Replacement) (good : IsGood P Q r) where
  mutual
    pub calls_written : (a : Term) → IsWrittenBy P a → IsWrittenBy Q (with_calls r a)
    calls_written (Number t n) h = h
    calls_written (Name x) h = h
    calls_written (Call x at) h = good x (all_with_calls r at) h.0 (indices_with_calls at h.1)
    calls_written (Minus a) h = calls_written a h
    calls_written (Binary op a b) h = (calls_written a h.0, calls_written b h.1)
    calls_written (Clamp a l u) h = (calls_written a h.0, calls_written l h.1, calls_written u h.2)
    calls_written (Cast t a) h = calls_written a h
    calls_written (Choice c a b) h = (test_calls_written c h.0, calls_written a h.1, calls_written b h.2)

    test_calls_written : (c : Test) → IsTestWrittenBy P c → IsTestWrittenBy Q (test_with_calls r c)
    test_calls_written (Compares by a b) h = (calls_written a h.0, calls_written b h.1)
    test_calls_written (Fails c) h = test_calls_written c h
    test_calls_written (Both c d) h = (test_calls_written c h.0, test_calls_written d h.1)
    test_calls_written (Either c d) h = (test_calls_written c h.0, test_calls_written d h.1)

    indices_with_calls : (at : Terms) → AreIndicesWrittenBy P at → AreIndicesWrittenBy Q (all_with_calls r at)
    indices_with_calls End h = h
    indices_with_calls (More a rest) h = (calls_written a h.0, others_with_calls rest h.1)

    others_with_calls : (at : Terms) → AreWrittenBy P at → AreWrittenBy Q (all_with_calls r at)
    others_with_calls End h = h
    others_with_calls (More a rest) h = (calls_written a h.0, others_with_calls rest h.1)

-- the same calls by other names
pub renamed_written : (P Q : List ℕ → Type 0) (name : List ℕ → List ℕ) → ((x : List ℕ) → P x → Q (name x)) → (a : Term) → IsWrittenBy P a
    → IsWrittenBy Q (with_calls (λ x at. Call (name x) at) a)
renamed_written P Q name named a h = calls_written P Q (λ x at. Call (name x) at) (λ x at p w. (named x p, w)) a h

module _ (name : List ℕ → List ℕ) where
  abbrev again : List ℕ → Terms → Term
  again x at = Call (name x) at

  mutual
    -- they stand as deep
    pub depth_renamed : (e : Term) → depth (with_calls again e) ≡ depth e
    depth_renamed (Number t n) = refl
    depth_renamed (Name x) = refl
    depth_renamed (Call x at) = ap (λ n. n + 1) (depths_renamed at)
    depth_renamed (Minus a) = ap (λ n. n + 1) (depth_renamed a)
    depth_renamed (Binary op a b) = λ i. max (depth_renamed a i) (depth_renamed b i) + 1
    depth_renamed (Clamp a l h) = λ i. max (depth_renamed a i) (max (depth_renamed l i) (depth_renamed h i)) + 1
    depth_renamed (Cast t a) = ap (λ n. n + 1) (depth_renamed a)
    depth_renamed (Choice c a b) = λ i. max (test_depth_renamed c i) (max (depth_renamed a i) (depth_renamed b i)) + 1

    test_depth_renamed : (c : Test) → test_depth (test_with_calls again c) ≡ test_depth c
    test_depth_renamed (Compares by a b) = λ i. max (depth_renamed a i) (depth_renamed b i) + 1
    test_depth_renamed (Fails c) = ap (λ n. n + 1) (test_depth_renamed c)
    test_depth_renamed (Both c d) = λ i. max (test_depth_renamed c i) (test_depth_renamed d i) + 1
    test_depth_renamed (Either c d) = λ i. max (test_depth_renamed c i) (test_depth_renamed d i) + 1

    depths_renamed : (at : Terms) → depths (all_with_calls again at) ≡ depths at
    depths_renamed End = refl
    depths_renamed (More a rest) = λ i. max (depth_renamed a i) (depths_renamed rest i)

-- ---- definitions for calls

module _ (P : List ℕ → Type 0) where
  each_written : (at : Terms) → AreIndicesWrittenBy P at → AreWrittenBy P at
  each_written End h = absurd h
  each_written (More a rest) h = h

  index_at : (a u : Term) (b : Bool) (found : Option Term) → IsWrittenBy P a → (found ≡ Some u → IsWrittenBy P u)
      → elim b [ true ↦ Some a | false ↦ found ] ≡ Some u → IsWrittenBy P u
  index_at a u true found h f e = let same : a ≡ u = cc in subst (IsWrittenBy P) same h
  index_at a u false found h f e = f e

  index_written : (xs : List (List ℕ)) (at : Terms) → AreWrittenBy P at → (x : List ℕ) (u : Term) → index_for xs at x ≡ Some u → IsWrittenBy P u
  index_written [] at h x u e = absurd (let f = e in cc)
  index_written (y ∷ ys) End h x u e = absurd (let f = e in cc)
  index_written (y ∷ ys) (More a rest) h x u e = index_at a u (same_name y x) (index_for ys rest x) h.0 (index_written ys rest h.1 x u) e

  definition_good : (r : Replacement) (f : Function) → IsGood P P r → IsWrittenBy P f.value → IsGood P P (with_definition r f)
  definition_good r f good h x at p w = by (same_name f.name x)
    where
      by : (b : Bool) → IsWrittenBy P (elim b [ true ↦ substituted (index_for f.variables at) (with_calls r f.value) | false ↦ r x at ])
      by true = substituted_written P (index_for f.variables at) (index_written f.variables at (each_written at w)) (with_calls r f.value) (calls_written P P r good f.value h)
      by false = good x at p w

  abbrev IsPureWritten : Function → Type 0
  IsPureWritten f = IsWrittenBy P f.value

  definitions_good : (fs : List Function) (stored : List Bool) (r : Replacement) → IsGood P P r → All IsPureWritten fs → IsGood P P (with_definitions r fs stored)
  definitions_good [] stored r good h = good
  definitions_good (f ∷ fs) [] r good h = good
  definitions_good (f ∷ fs) (true ∷ stored) r good h = definitions_good fs stored r good (All-tail IsPureWritten f fs h)
  definitions_good (f ∷ fs) (false ∷ stored) r good h =
      definitions_good fs stored (with_definition r f) (definition_good r f good (All-head IsPureWritten f fs h)) (All-tail IsPureWritten f fs h)

-- the calls of functions that are not stored put into an expression
pub put_in_written : (a : Algorithm) (stored : List Bool) (e : Term) → AreExpressionsWritten a → IsWritten e → IsWritten (put_in a stored e)
put_in_written a stored e all h =
    let good = definitions_good IsName a.functions stored Call (λ x at p w. (p, w)) (λ k d lt. (all k d lt).pure) in
    calls_written IsName IsName (with_definitions Call a.functions stored) good e h

-- and so where they are put in only if they can be
pub put_where_possible_written : (a : Algorithm) (stored : List Bool) (e : Term) → AreExpressionsWritten a → IsWritten e → IsWritten (put_in_where_possible a stored e)
put_where_possible_written a stored e all h = by (is_possible a stored e)
  where
    by : (b : Bool) → IsWritten (if b then put_in a stored e else e)
    by true = put_in_written a stored e all h
    by false = h
