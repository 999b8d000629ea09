-- Loads read as calls keep an expression's size, and expressions that are alike are the same.
use Rattle.std.proofs.Common.{◌≡◌, ℕ, ◌+◌, ◌≤◌, Bool, true, false, refl, sym, ap, arith, subst}
use Rattle.std.specs.Prelude.{◌&&◌, nat_le, max}
use Rattle.std.proofs.lemmas.Bool.{false≢true}
use Rattle.std.proofs.lemmas.Bool.Decides.{nat_tests}
use Rattle.tree.specs.Term.{Term, Number, Name, Call, Minus, Binary, Clamp, Cast, Choice, Terms, End, More, Test, Compares, Fails, Both, Either}
use Rattle.tree.specs.Tree.{node_count, cond_count, node_counts, depth, test_depth, depths}
use Rattle.tree.specs.Substitution.{test_with_calls, all_with_calls}
use Rattle.soundness.specs.Origins.{Outline}
use Rattle.validation.specs.Stored.Sizes.{is_small}
use Rattle.validation.specs.Stored.Stored.{call_read, as_read}

module _ (o : Outline) where
  abbrev mutual
    pub nodes_kept : (e : Term) → node_count (as_read o e) ≡ node_count e
    nodes_kept (Number t n) = refl
    nodes_kept (Name name) = refl
    nodes_kept (Call name at) = ap (λ n. n + 1) (all_nodes_kept at)
    nodes_kept (Minus a) = ap (λ n. n + 1) (nodes_kept a)
    nodes_kept (Binary op a b) = λ i. nodes_kept a i + nodes_kept b i + 1
    nodes_kept (Clamp a l h) = λ i. nodes_kept a i + nodes_kept l i + nodes_kept h i + 1
    nodes_kept (Cast t a) = ap (λ n. n + 1) (nodes_kept a)
    nodes_kept (Choice c a b) = λ i. test_nodes_kept c i + nodes_kept a i + nodes_kept b i + 1

    test_nodes_kept : (c : Test) → cond_count (test_with_calls (call_read o) c) ≡ cond_count c
    test_nodes_kept (Compares by a b) = λ i. nodes_kept a i + nodes_kept b i + 1
    test_nodes_kept (Fails c) = ap (λ n. n + 1) (test_nodes_kept c)
    test_nodes_kept (Both c d) = λ i. test_nodes_kept c i + test_nodes_kept d i + 1
    test_nodes_kept (Either c d) = λ i. test_nodes_kept c i + test_nodes_kept d i + 1

    all_nodes_kept : (at : Terms) → node_counts (all_with_calls (call_read o) at) ≡ node_counts at
    all_nodes_kept End = refl
    all_nodes_kept (More a rest) = λ i. nodes_kept a i + all_nodes_kept rest i

  abbrev mutual
    pub depth_kept : (e : Term) → depth (as_read o e) ≡ depth e
    depth_kept (Number t n) = refl
    depth_kept (Name name) = refl
    depth_kept (Call name at) = ap (λ n. n + 1) (all_depth_kept at)
    depth_kept (Minus a) = ap (λ n. n + 1) (depth_kept a)
    depth_kept (Binary op a b) = λ i. max (depth_kept a i) (depth_kept b i) + 1
    depth_kept (Clamp a l h) = λ i. max (depth_kept a i) (max (depth_kept l i) (depth_kept h i)) + 1
    depth_kept (Cast t a) = ap (λ n. n + 1) (depth_kept a)
    depth_kept (Choice c a b) = λ i. max (test_depth_kept c i) (max (depth_kept a i) (depth_kept b i)) + 1

    test_depth_kept : (c : Test) → test_depth (test_with_calls (call_read o) c) ≡ test_depth c
    test_depth_kept (Compares by a b) = λ i. max (depth_kept a i) (depth_kept b i) + 1
    test_depth_kept (Fails c) = ap (λ n. n + 1) (test_depth_kept c)
    test_depth_kept (Both c d) = λ i. max (test_depth_kept c i) (test_depth_kept d i) + 1
    test_depth_kept (Either c d) = λ i. max (test_depth_kept c i) (test_depth_kept d i) + 1

    all_depth_kept : (at : Terms) → depths (all_with_calls (call_read o) at) ≡ depths at
    all_depth_kept End = refl
    all_depth_kept (More a rest) = λ i. max (depth_kept a i) (all_depth_kept rest i)

-- a small expression is so as it is read
pub small_read : (o : Outline) (e : Term) → is_small e ≡ true → (node_count (as_read o e) ≤ 4096) × (depth (as_read o e) ≤ 256)
small_read o e h =
    let k = parts (nat_le (node_count e) 4096) (nat_le (depth e) 256) h in
    let a : node_count e ≤ 4096 = le k.0 in
    let b : depth e ≤ 256 = le k.1 in
    (subst (λ n. n ≤ 4096) (sym (nodes_kept o e)) a, subst (λ n. n ≤ 256) (sym (depth_kept o e)) b)
  where
    parts : (a b : Bool) → (a && b) ≡ true → (a ≡ true) × (b ≡ true)
    parts true b h = (refl, h)
    parts false b h = absurd (false≢true h)

    le : {m n : ℕ} → nat_le m n ≡ true → m ≤ n
    le h = grind (arith, nat_tests, h)
