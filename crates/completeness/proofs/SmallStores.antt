-- Stores have as many nodes as the definitions of which they are: calls that become loads stay calls.
use Rattle.std.proofs.Common.{◌≡◌, ℕ, zero, suc, ◌+◌, ◌*◌, ◌≤◌, Bool, true, false, ◌&&◌, List, [], ◌∷◌, ◌++◌, length, map, Option, Some, None, refl, sym, ap, ◌∙◌, subst, append_assoc, arith}
use Rattle.std.specs.Prelude.{nat_le, slice_get, IsSomeAnd}
use Rattle.std.specs.List.{AllByRecursion, list_all}
use Rattle.std.proofs.lemmas.Bool.Decides.{nat_tests}
use Rattle.std.proofs.lemmas.List.Folds.{list_all-append}
use Rattle.tree.specs.Term.{Term, Number, Name, Call, Minus, Binary, Clamp, Cast, Choice, Terms, End, More, Test, Compares, Fails, Both, Either}
use Rattle.tree.specs.Tree.{node_count, cond_count, node_counts}
use Rattle.tree.specs.Substitution.{with_calls, test_with_calls, all_with_calls}
use Rattle.lin.specs.Forms.{Form}
use Rattle.lin.specs.declared.span.Span1.{Span1}
use Rattle.plan.specs.declared.plan.Group.{Group as CodeGroup}
use Rattle.plan.specs.declared.certificate.cert.Claim.{Claim as CodeClaim}
use Rattle.plan.specs.declared.certificate.cert.Need.{Need}
use Rattle.plan.specs.Plan.{Index, At, Found, Coordinate, Statement, Seq, For, Let, First, Guard, Alloc, Fetch, Store, Publish, Statements, Empty, Then, block}
use Rattle.plan.specs.Lines.{block_lines as plain_lines}
use Rattle.plan.specs.View.{group_of, statement_of}
use Rattle.nest.specs.Blocks.Line.{Line, EndLine, PublishLine}
use Rattle.nest.specs.Blocks.Flat.{statement_lines, block_lines, group_lines, groups_lines}
use Rattle.sched.specs.Runs.{lines_to}
use Rattle.sched.specs.declared.skeleton.Step.{Step}
use Rattle.sched.specs.declared.skeleton.Step.TheVariants.{Turns, Named, Tested}
use Rattle.sched.specs.Skeleton.{NestText}
use Rattle.meaning.specs.Algorithm.{Algorithm}
use Rattle.sched.specs.Stored.{FormulaText, StoredText}
use Rattle.lower.specs.Stored.{stored_functions}
use Rattle.sched.specs.Loading.{Loads, as_load}
use Rattle.blocks.specs.Blocks.{dimensions_of, claimed_region, own_places}
use Rattle.blocks.specs.Bodies.{IsIndex, AreCoordinates, IsStore, AreNests, first_lines}
use Rattle.lower.specs.Bodies.{last_claim}
use Rattle.sched.specs.Fetches.{Entry}
use Rattle.blocks.specs.Fetches.{FetchText, with_fetches}
use Rattle.lower.specs.Fetches.{loads_from}
use Rattle.lower.specs.Groups.{HasBody, line_behind, HaveBodies}
use Rattle.completeness.specs.OfPlans.{index_nodes, found_nodes, store_nodes, is_small_line, left_nodes, formula_nodes, StoresAreSmall}
use Rattle.completeness.proofs.Served.{roots}

both : (a b : Bool) → a ≡ true → b ≡ true → (a && b) ≡ true
both true b h k = k
both false b h k = h

at_most : (m n : ℕ) → m ≤ n → nat_le m n ≡ true
at_most m n h = grind (arith, nat_tests)

-- ---- nodes

module _ (ls : Loads) where
  mutual
    nodes_stay : (e : Term) → node_count (with_calls (as_load ls) e) ≡ node_count e
    nodes_stay (Number t n) = refl
    nodes_stay (Name x) = refl
    nodes_stay (Call x at) = ap (λ (n : ℕ). n + 1) (all_stay at)
    nodes_stay (Minus a) = ap (λ (n : ℕ). n + 1) (nodes_stay a)
    nodes_stay (Binary op a b) = λ i. nodes_stay a i + nodes_stay b i + 1
    nodes_stay (Clamp a l h) = λ i. nodes_stay a i + nodes_stay l i + nodes_stay h i + 1
    nodes_stay (Cast t a) = ap (λ (n : ℕ). n + 1) (nodes_stay a)
    nodes_stay (Choice c a b) = λ i. test_stays c i + nodes_stay a i + nodes_stay b i + 1

    test_stays : (c : Test) → cond_count (test_with_calls (as_load ls) c) ≡ cond_count c
    test_stays (Compares by a b) = λ i. nodes_stay a i + nodes_stay b i + 1
    test_stays (Fails c) = ap (λ (n : ℕ). n + 1) (test_stays c)
    test_stays (Both c d) = λ i. test_stays c i + test_stays d i + 1
    test_stays (Either c d) = λ i. test_stays c i + test_stays d i + 1

    all_stay : (at : Terms) → node_counts (all_with_calls (as_load ls) at) ≡ node_counts at
    all_stay End = refl
    all_stay (More a rest) = λ i. nodes_stay a i + all_stay rest i

  index_small : (o : Option Form) (a : Option Term) (i : Index) → IsIndex ls o a i → index_nodes i ≤ left_nodes (a ∷ [])
  index_small (Some f) a (At g) h = omega arith
  index_small (Some f) a (Found e) h = absurd h
  index_small None a (At g) h = absurd h
  index_small None None (Found e) h = absurd h
  index_small None (Some a) (Found e) h = (let same_count = ap node_count h ∙ nodes_stay a in omega (arith, same_count))

  coordinates_small : (xs : List (List ℕ)) (os : List (Option Form)) (lefts : List (Option Term)) (cs : List Coordinate) → AreCoordinates ls xs os lefts cs → found_nodes cs ≤ left_nodes lefts
  coordinates_small xs [] lefts [] h = omega arith
  coordinates_small xs [] lefts (c ∷ cs) h = absurd h
  coordinates_small [] (o ∷ os) lefts cs h = absurd h
  coordinates_small (x ∷ xs) (o ∷ os) lefts [] h = absurd h
  coordinates_small (x ∷ xs) (o ∷ os) [] (c ∷ cs) h =
      let one = index_small o None c.index h.1 in
      let rest = coordinates_small xs os [] cs h.2 in
      omega (arith, one, rest)
  coordinates_small (x ∷ xs) (o ∷ os) (None ∷ lefts) (c ∷ cs) h =
      let one = index_small o None c.index h.1 in
      let rest = coordinates_small xs os lefts cs h.2 in
      omega (arith, one, rest)
  coordinates_small (x ∷ xs) (o ∷ os) (Some a ∷ lefts) (c ∷ cs) h =
      let one = index_small o (Some a) c.index h.1 in
      let rest = coordinates_small xs os lefts cs h.2 in
      omega (arith, one, rest)

-- ---- lines

abbrev Small : List Line → Type 0
Small ls = list_all is_small_line ls ≡ true

joined : (xs ys : List Line) → Small xs → Small ys → Small (xs ++ ys)
joined xs ys h k = list_all-append is_small_line xs ys ∙ (λ i. h i && k i)

lines_both : (xs ys : List Statement) → block_lines (block (xs ++ ys)) ≡ block_lines (block xs) ++ block_lines (block ys)
lines_both [] ys = refl
lines_both (x ∷ xs) ys = ap (λ (ls : List Line). statement_lines x ++ ls) (lines_both xs ys) ∙ sym (append_assoc (statement_lines x) (block_lines (block xs)) (block_lines (block ys)))

steps_small : (ss : List Step) (inner : Statements) → Small (block_lines inner) → Small (block_lines (lines_to ss inner))
steps_small [] inner h = h
steps_small (Turns i x kind ∷ ss) inner h =
    let lines = block_lines (lines_to ss inner) in
    joined (lines ++ EndLine ∷ []) [] (joined lines (EndLine ∷ []) (steps_small ss inner h) refl) refl
steps_small (Named i pick fs ∷ ss) inner h = steps_small ss inner h
steps_small (Tested low high ∷ ss) inner h =
    let lines = block_lines (lines_to ss inner) in
    joined (lines ++ EndLine ∷ []) [] (joined lines (EndLine ∷ []) (steps_small ss inner h) refl) refl

fetches_small : (fs : List FetchText) (xs : List Statement) → Small (block_lines (block xs)) → Small (block_lines (block (with_fetches fs xs)))
fetches_small [] xs h = h
fetches_small (f ∷ fs) xs h = fetches_small fs xs h

abbrev AreSmall : List FormulaText → Type 0
AreSmall fs = AllByRecursion (λ f. formula_nodes f ≤ 3500) fs

small_at : (fs : List FormulaText) (d : ℕ) (f : FormulaText) → AreSmall fs → slice_get fs d ≡ Some f → formula_nodes f ≤ 3500
small_at [] d f h e = absurd (cc e)
small_at (g ∷ fs) zero f h e = subst (λ (y : FormulaText). formula_nodes y ≤ 3500) (some_same g f e) h.0
  where
    some_same : (x y : FormulaText) → Some x ≡ Some y → x ≡ y
    some_same x y q = cc
small_at (g ∷ fs) (suc d) f h e = small_at fs d f h.1 e

stored_there : {P : FormulaText → Type 0} (o : Option FormulaText) → IsSomeAnd o P → (x : FormulaText) × (o ≡ Some x) × P x
stored_there None h = absurd h
stored_there (Some x) h = (x, refl, h)

store_small : (u : StoredText) (fs : List FormulaText) (ms : Loads) (d : ℕ) (w : NestText) (s : Statement) → AreSmall fs → IsStore u fs ms d w s → Small (statement_lines s)
store_small u fs ms d w (Store b k cs e) small h =
    let f = stored_there (slice_get fs d) h.2 in
    let most = small_at fs d f.0 small f.1 in
    let value = ap node_count f.2.value ∙ nodes_stay ms f.0.value in
    let found = coordinates_small ms _ w.at f.0.at cs f.2.at in
    both _ _ (at_most (store_nodes cs e) 3500 (omega (arith, most, value, found))) refl
store_small u fs ms d w (Seq xs) small h = absurd h
store_small u fs ms d w (For i x kind body) small h = absurd h
store_small u fs ms d w (Let i pick forms) small h = absurd h
store_small u fs ms d w (First i x y) small h = absurd h
store_small u fs ms d w (Guard low high body) small h = absurd h
store_small u fs ms d w (Alloc b x seats) small h = absurd h
store_small u fs ms d w (Fetch b x region) small h = absurd h
store_small u fs ms d w (Publish x) small h = absurd h

nests_small : (ns : List NestText) (u : StoredText) (fs : List FormulaText) (r : List Span1) (ms : Loads) (c line d : ℕ) (xs : List Statement) (cs : List CodeClaim) → AreSmall fs →
    AreNests u fs r ms c line d ns xs cs → Small (block_lines (block xs))
nests_small [] u fs r ms c line d xs cs small h = subst (λ (ys : List Statement). Small (block_lines (block ys))) (sym h.0) refl
nests_small (w ∷ ns) u fs r ms c line d xs [] small h = absurd h
nests_small (w ∷ ns) u fs r ms c line d xs (claim ∷ cs) small h =
    let nest = h.here.nest in
    let store = store_small u fs ms d w nest.store small nest.stores in
    let lines = steps_small w.steps (Then nest.store Empty) (joined (statement_lines nest.store) [] store refl) in
    let first : Small (block_lines (block h.first)) = subst (λ (y : Statements). Small (block_lines y)) (sym nest.comes) lines in
    let rest = nests_small ns u fs r (ms ++ (u.subject.name, c) ∷ []) (c + 1) (line + plain_lines (block h.first)) (d + 1) h.others cs small h.behind in
    let all : Small (block_lines (block (h.first ++ h.others))) =
    subst Small (sym (lines_both h.first h.others)) (joined (block_lines (block h.first)) (block_lines (block h.others)) first rest) in
    subst (λ (ys : List Statement). Small (block_lines (block ys))) (sym h.are) all

-- ---- groups

body_small : (a : Algorithm) (entries : List Entry) (n c line : ℕ) (u : StoredText) (q : CodeGroup) (claims : List CodeClaim) (needs : List Need) →
    ((fs : List FormulaText) → u.formulas ≡ Some fs → AreSmall fs) → HasBody a entries n c line u q claims needs → Small (statement_lines (statement_of q.body))
body_small a entries n c line u q claims needs small h =
    let b = h.body in
    let fs = h.formulas in
    let k = h.skeleton in
    let last : ℕ = last_claim c b.fetches k in
    let rest : List Statement = b.nests ++ Publish last ∷ [] in
    let inside : List Statement = Alloc 0 u.subject.name (own_places (dimensions_of u h.extents k)) ∷ with_fetches b.fetches rest in
    let nests = nests_small k.nests u fs (claimed_region (dimensions_of u h.extents k)) (loads_from c b.fetches) (c + length b.fetches) (line + first_lines k + 2 * length b.fetches) 0 b.nests b.own
    (small fs h.defined) b.nested in
    let behind : Small (block_lines (block rest)) = subst Small (sym (lines_both b.nests (Publish last ∷ []))) (joined (block_lines (block b.nests)) (PublishLine last ∷ []) nests refl) in
    let all : Small (block_lines (block inside)) = fetches_small b.fetches rest behind in
    subst (λ (s : Statement). Small (statement_lines s)) (sym b.with.is) (steps_small k.head (block inside) all)

bodies_small : (a : Algorithm) (entries : List Entry) (m n c line : ℕ) (gs : List StoredText) (qs : List CodeGroup) (claims : List CodeClaim) (needs : List Need) →
    ((i : ℕ) (u : StoredText) → slice_get gs i ≡ Some u → (fs : List FormulaText) → u.formulas ≡ Some fs → AreSmall fs) → HaveBodies a entries n c line gs qs claims needs →
    Small (groups_lines m (map group_of qs))
bodies_small a entries m n c line [] [] claims needs small h = refl
bodies_small a entries m n c line [] (q ∷ qs) claims needs small h = absurd h
bodies_small a entries m n c line (u ∷ gs) [] claims needs small h = refl
bodies_small a entries m n c line (u ∷ gs) (q ∷ qs) claims needs small h =
    let own = body_small a entries n c line u q h.own_claims h.own_needs (small 0 u refl) h.here in
    let rest = bodies_small a entries (m + 1) (n + 1) (c + length h.own_claims) (line_behind line q) gs qs h.other_claims h.other_needs (λ i v at. small (suc i) v at) h.behind in
    joined (group_lines m (group_of q)) (groups_lines (m + 1) (map group_of qs)) own rest

pub stores_small : StoresAreSmall
stores_small a s l well legal small regions groups all formulas =
    let entries = roots a s l well legal small (regions all).0 all groups in
    bodies_small a entries 0 0 0 4 (stored_functions a s) l.plan.groups.items l.certificate.claims.items l.certificate.needs.items formulas (groups.bodies all)
