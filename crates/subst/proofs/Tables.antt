-- What the body of a name gives for its calls.
use Rattle.std.proofs.Common.{◌≡◌, ℕ, ◌≤◌, List, [], ◌∷◌, map, Bool, true, false, Option, Some, None, Result, Err, refl, sym, ap, ◌∙◌, subst, arith, inl, inr}
use Rattle.std.specs.Prelude.{string_bytes, ◌||◌}
use Rattle.std.specs.declared.string.String.{String}
use Rattle.std.specs.Global.{Global}
use Rattle.tree.specs.Term.{Term, Number, Name, Call, Minus, Binary, Clamp, Cast, Choice, Terms, End, More, Test, Compares, Fails, Both, Either, term_of}
use Rattle.tree.specs.Tree.{node_count, cond_count, node_counts, depth, test_depth, depths}
use Rattle.tree.specs.Substitution.{put_in, substituted, test_substituted, all_substituted, with_calls}
use Rattle.meaning.specs.Names.{same_name}
use Rattle.meaning.specs.Inlining.PutIn.{index_for, has_updates, calls_some}
use Rattle.meaning.proofs.InliningTyped.{some_bool}
use Rattle.subst.specs.declared.error.SubstError.{SubstError}
use Rattle.subst.specs.declared.error.SubstError.TheVariants.{Memory, Updates, TooLarge}
use Rattle.subst.specs.declared.built.Built.{Built}
use Rattle.subst.specs.declared.bodies.Body.{Body}
use Rattle.subst.specs.Limits.{IsWithin, IsMemory, IsSizeRefused}
use Rattle.subst.specs.Built.{Makes, Holds}
use Rattle.subst.specs.Filled.{Fills}
use Rattle.subst.specs.Table.{of_body, found_in, stands_in, marked_in, AreBodiesIn, FillsBody}

-- a name without a body stays called, and comes to no updates
pub record NoBody (bs : List Body) (name : List ℕ) : Type 0 where
  pub stands : (at : Terms) → stands_in bs name at ≡ Call name at
  pub updates : marked_in bs name ≡ false

pub no_body : (bs : List Body) (name : List ℕ) → found_in bs name ≡ None → NoBody bs name
no_body [] name e = record { stands = λ at. refl; updates = refl }
no_body (b ∷ bs) name e =
    let f = of_body b in
    let find : Bool → Option Body = λ h. elim h [ true ↦ Some b | false ↦ found_in bs name ] in
    let mark : Bool → Bool = λ h. elim h [ true ↦ has_updates f.changes || calls_some (marked_in bs) f.value | false ↦ marked_in bs name ] in
    elim (some_bool (same_name (string_bytes b.name.now) name)) [
      | inl h ↦ let no : Some b ≡ None = sym (ap find h) ∙ e in absurd (cc)
      | inr h ↦
          let r = no_body bs name (sym (ap find h) ∙ e) in
          record {
            stands = λ at.
                let stand : Bool → Term = λ h. elim h [ true ↦ substituted (index_for f.variables at) (with_calls (stands_in bs) f.value) | false ↦ stands_in bs name at ] in
                ap stand h ∙ r.stands at;
            updates = ap mark h ∙ r.updates;
          }
    ]

-- the body of a name tells what stands for its calls, and whether they come to updates
pub record SomeBody (bs : List Body) (name : List ℕ) (b : Body) : Type 0 where
  pub definition : Term
  pub holds : Holds definition b.value
  pub stands : (at : Terms) → stands_in bs name at ≡ substituted (index_for (of_body b).variables at) definition
  pub updates : marked_in bs name ≡ b.updates

pub some_body : (bs : List Body) (name : List ℕ) (c : Body) → AreBodiesIn bs → found_in bs name ≡ Some c → SomeBody bs name c
some_body [] name c kept e = absurd (cc)
some_body (b ∷ bs) name c kept e =
    let f = of_body b in
    let find : Bool → Option Body = λ h. elim h [ true ↦ Some b | false ↦ found_in bs name ] in
    let mark : Bool → Bool = λ h. elim h [ true ↦ has_updates f.changes || calls_some (marked_in bs) f.value | false ↦ marked_in bs name ] in
    elim (some_bool (same_name (string_bytes b.name.now) name)) [
      | inl h ↦
          let found : Some b ≡ Some c = sym (ap find h) ∙ e in
          let same : b ≡ c = cc in
          subst (λ (d : Body). SomeBody (b ∷ bs) name d) same record {
            definition = with_calls (stands_in bs) f.value;
            holds = kept.0;
            stands = λ at.
                let stand : Bool → Term = λ h. elim h [ true ↦ substituted (index_for f.variables at) (with_calls (stands_in bs) f.value) | false ↦ stands_in bs name at ] in
                ap stand h;
            updates = ap mark h ∙ sym kept.1;
          }
      | inr h ↦
          let r = some_body bs name c kept.2 (sym (ap find h) ∙ e) in
          record {
            definition = r.definition;
            holds = r.holds;
            stands = λ at.
                let stand : Bool → Term = λ h. elim h [ true ↦ substituted (index_for f.variables at) (with_calls (stands_in bs) f.value) | false ↦ stands_in bs name at ] in
                ap stand h ∙ r.stands at;
            updates = ap mark h ∙ r.updates;
          }
    ]

-- every expression has a node
one_node : (e : Term) → 1 ≤ node_count e
one_node (Number t n) = omega arith
one_node (Name name) = omega arith
one_node (Call name at) = omega arith
one_node (Minus a) = omega arith
one_node (Binary op a b) = omega arith
one_node (Clamp a l u) = omega arith
one_node (Cast t a) = omega arith
one_node (Choice c a b) = omega arith

one_level : (e : Term) → 1 ≤ depth e
one_level (Number t n) = omega arith
one_level (Name name) = omega arith
one_level (Call name at) = omega arith
one_level (Minus a) = omega arith
one_level (Binary op a b) = omega arith
one_level (Clamp a l u) = omega arith
one_level (Cast t a) = omega arith
one_level (Choice c a b) = omega arith

node_put_in : (o : Option Term) (name : List ℕ) → 1 ≤ node_count (put_in o name)
node_put_in None name = omega arith
node_put_in (Some a) name = one_node a

level_put_in : (o : Option Term) (name : List ℕ) → 1 ≤ depth (put_in o name)
level_put_in None name = omega arith
level_put_in (Some a) name = one_level a

-- to put indices in makes an expression no smaller
module _ (m : List ℕ → Option Term) where
  mutual
    nodes_stay : (e : Term) → node_count e ≤ node_count (substituted m e)
    nodes_stay (Number t n) = omega arith
    nodes_stay (Name name) = node_put_in (m name) name
    nodes_stay (Call name at) = omega (arith, all_nodes_stay at)
    nodes_stay (Minus a) = omega (arith, nodes_stay a)
    nodes_stay (Binary op a b) = omega (arith, nodes_stay a, nodes_stay b)
    nodes_stay (Clamp a l u) = omega (arith, nodes_stay a, nodes_stay l, nodes_stay u)
    nodes_stay (Cast t a) = omega (arith, nodes_stay a)
    nodes_stay (Choice c a b) = omega (arith, test_nodes_stay c, nodes_stay a, nodes_stay b)

    test_nodes_stay : (c : Test) → cond_count c ≤ cond_count (test_substituted m c)
    test_nodes_stay (Compares by a b) = omega (arith, nodes_stay a, nodes_stay b)
    test_nodes_stay (Fails c) = omega (arith, test_nodes_stay c)
    test_nodes_stay (Both c d) = omega (arith, test_nodes_stay c, test_nodes_stay d)
    test_nodes_stay (Either c d) = omega (arith, test_nodes_stay c, test_nodes_stay d)

    all_nodes_stay : (at : Terms) → node_counts at ≤ node_counts (all_substituted m at)
    all_nodes_stay End = omega arith
    all_nodes_stay (More a rest) = omega (arith, nodes_stay a, all_nodes_stay rest)

  mutual
    levels_stay : (e : Term) → depth e ≤ depth (substituted m e)
    levels_stay (Number t n) = omega arith
    levels_stay (Name name) = level_put_in (m name) name
    levels_stay (Call name at) = omega (arith, all_levels_stay at)
    levels_stay (Minus a) = omega (arith, levels_stay a)
    levels_stay (Binary op a b) = omega (arith, levels_stay a, levels_stay b)
    levels_stay (Clamp a l u) = omega (arith, levels_stay a, levels_stay l, levels_stay u)
    levels_stay (Cast t a) = omega (arith, levels_stay a)
    levels_stay (Choice c a b) = omega (arith, test_levels_stay c, levels_stay a, levels_stay b)

    test_levels_stay : (c : Test) → test_depth c ≤ test_depth (test_substituted m c)
    test_levels_stay (Compares by a b) = omega (arith, levels_stay a, levels_stay b)
    test_levels_stay (Fails c) = omega (arith, test_levels_stay c)
    test_levels_stay (Both c d) = omega (arith, test_levels_stay c, test_levels_stay d)
    test_levels_stay (Either c d) = omega (arith, test_levels_stay c, test_levels_stay d)

    all_levels_stay : (at : Terms) → depths at ≤ depths (all_substituted m at)
    all_levels_stay End = omega arith
    all_levels_stay (More a rest) = omega (arith, levels_stay a, all_levels_stay rest)

  large_stays : (e : Term) → ¬ IsWithin e → ¬ IsWithin (substituted m e)
  large_stays e h w = h (omega (arith, nodes_stay e, w.0), omega (arith, levels_stay e, w.1))

pub memory_refused : (error : SubstError) (n k : ℕ) → IsMemory error → IsSizeRefused error n k
memory_refused Memory n k h = h
memory_refused Updates n k h = h
memory_refused TooLarge n k h = absurd h

-- the definition that a body holds, with indices put in
module _ (b : Body) (at : List (Option Built)) where
  pub fills_body : (names : List (String Global)) (v : Built) (r : Result Built SubstError) → b.value ≡ Some v → names ≡ b.function.now.variables.items → Fills names at (term_of v.expr) r → FillsBody b at r
  fills_body names v r some same fills = record {
    made = λ e held h k.
        let holds : term_of v.expr ≡ e = subst (Holds e) some h in
        subst (λ (t : Term). Makes t r) (λ i. substituted (index_for (map string_bytes (same i)) held) (holds i)) (fills.made held k);
  }

  pub large_body : b.value ≡ None → FillsBody b at (Err TooLarge)
  large_body none = record {
    made = λ e held h k.
        let large : ¬ IsWithin e = subst (Holds e) none h in
        large_stays (index_for (of_body b).variables held) e large;
  }
