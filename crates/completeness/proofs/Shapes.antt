-- The groups of functions whose loops are split once, by whatever tails and in whatever order, have the form that texts of groups have, and number their symbols and buffers in order.
use Rattle.std.proofs.Common.{◌≡◌, ℕ, suc, ◌+◌, ◌-◌, ◌*◌, ◌<◌, ◌≤◌, Bool, true, false, ◌&&◌, List, [], ◌∷◌, ◌++◌, length, Some, None, refl, sym, ap, ◌∙◌, subst, append_assoc, append-nil, arith}
use Rattle.std.specs.Prelude.{◌==◌, nat_lt, nat_le, slice_get}
use Rattle.std.specs.List.{AllByRecursion, list_all}
use Rattle.std.proofs.lemmas.Bool.Decides.{nat_tests}
use Rattle.lin.specs.declared.span.Span1.{Span1}
use Rattle.lin.specs.declared.scope.Binding.{Binding}
use Rattle.meaning.specs.Algorithm.{Algorithm}
use Rattle.meaning.specs.Conditions.{IsAlgorithm}
use Rattle.plan.specs.declared.certificate.cert.Claim.{Claim as CodeClaim}
use Rattle.plan.specs.declared.certificate.cert.Need.{Need}
use Rattle.plan.specs.Plan.{Statement, Seq, For, Let, First, Guard, Alloc, Fetch, Store, Publish, Statements, Empty, Then, Group, block}
use Rattle.plan.specs.View.{group_of, plan_of, statement_of}
use Rattle.headline.proofs.Lists.{from_map}
use Rattle.nest.specs.Blocks.Line.{Line, EndLine, PublishLine}
use Rattle.nest.specs.Blocks.Flat.{statement_lines, block_lines, groups_lines}
use Rattle.nest.specs.Blocks.Shape.{is_block, is_single, are_single, has_block}
use Rattle.nest.specs.Blocks.Form.{is_work, are_work, end_in_publish, are_in_form, is_body, has_form}
use Rattle.nest.specs.Blocks.Numbers.{Count, start, are_numbered}
use Rattle.sched.specs.Schedule.{Schedule}
use Rattle.sched.specs.Legal.{IsLegal}
use Rattle.sched.specs.Runs.{lines_to}
use Rattle.sched.specs.declared.skeleton.Step.{Step}
use Rattle.sched.specs.declared.skeleton.Step.TheVariants.{Turns, Named, Tested}
use Rattle.sched.specs.Skeleton.{NestText}
use Rattle.lower.specs.declared.lowering.Lowered.{Lowered}
use Rattle.sched.specs.Stored.{FormulaText, StoredText}
use Rattle.lower.specs.Stored.{stored_functions, has_large}
use Rattle.sched.specs.Around.{grid_scope}
use Rattle.regions.specs.Faults.{are_whole}
use Rattle.lower.specs.Faults.{region_fault}
use Rattle.sched.specs.Loading.{Loads}
use Rattle.blocks.specs.Blocks.{dimensions_of, claimed_region, own_places}
use Rattle.lower.specs.Bodies.{last_claim}
use Rattle.blocks.specs.Bodies.{IsStore, AreNests, step_lines, first_lines}
use Rattle.sched.specs.Fetches.{Entry}
use Rattle.blocks.specs.Fetches.{FetchText, with_fetches}
use Rattle.lower.specs.Fetches.{Calls, AreFetched, fetched_groups, loads_from}
use Rattle.regions.specs.Taken.{sites_of}
use Rattle.lower.specs.Groups.{HasGroups}
use Rattle.completeness.specs.Fitting.{IsSplitOnce, IsShaped}
use Rattle.completeness.proofs.Counts.{fetches_few, roots_few}
use Rattle.completeness.proofs.FewLines.{group_short, rises_to}
use Rattle.completeness.proofs.FewLoops.{IsShortNest}
use Rattle.completeness.proofs.Served.{roots}
use Rattle.completeness.proofs.Standing.{AreLets, Rises, NestsRise}

-- ---- tests

both : (a b : Bool) → a ≡ true → b ≡ true → (a && b) ≡ true
both true b h k = k
both false b h k = h

parts : (a b : Bool) → (a && b) ≡ true → (a ≡ true) × (b ≡ true)
parts true b h = (refl, h)
parts false b h = absurd (cc h)

less : (m n : ℕ) → m < n → nat_lt m n ≡ true
less m n h = grind (arith, nat_tests)

at_most : (m n : ℕ) → m ≤ n → nat_le m n ≡ true
at_most m n h = grind (arith, nat_tests)

same_number : (n : ℕ) → (n == n) ≡ true
same_number n = grind (arith, nat_tests)

-- ---- statements

lines_both : (xs ys : List Statement) → block_lines (block (xs ++ ys)) ≡ block_lines (block xs) ++ block_lines (block ys)
lines_both [] ys = refl
lines_both (x ∷ xs) ys = ap (λ (ls : List Line). statement_lines x ++ ls) (lines_both xs ys) ∙ sym (append_assoc (statement_lines x) (block_lines (block xs)) (block_lines (block ys)))

singles_both : (xs ys : List Statement) → are_single (block xs) ≡ true → are_single (block ys) ≡ true → are_single (block (xs ++ ys)) ≡ true
singles_both [] ys h k = k
singles_both (x ∷ xs) ys h k = (let p = parts (is_single x) (are_single (block xs)) h in both (is_single x) (are_single (block (xs ++ ys))) p.0 (singles_both xs ys p.1 k))

works_both : (xs ys : List Statement) → are_work (block xs) ≡ true → are_work (block ys) ≡ true → are_work (block (xs ++ ys)) ≡ true
works_both [] ys h k = k
works_both (x ∷ xs) ys h k = (let p = parts (is_work x) (are_work (block xs)) h in both (is_work x) (are_work (block (xs ++ ys))) p.0 (works_both xs ys p.1 k))

-- work, and a publish last
ends : (xs : List Statement) (c : ℕ) → are_work (block xs) ≡ true → end_in_publish (block (xs ++ Publish c ∷ [])) ≡ true
ends [] c h = refl
ends (Seq all ∷ xs) c h = (let p = parts _ (are_work (block xs)) h in both _ _ p.0 (ends xs c p.1))
ends (For i x kind s ∷ xs) c h = (let p = parts _ (are_work (block xs)) h in both _ _ p.0 (ends xs c p.1))
ends (Let i pick forms ∷ xs) c h = ends xs c h
ends (First i s t ∷ xs) c h = (let p = parts _ (are_work (block xs)) h in both _ _ p.0 (ends xs c p.1))
ends (Guard low high s ∷ xs) c h = (let p = parts _ (are_work (block xs)) h in both _ _ p.0 (ends xs c p.1))
ends (Alloc b f places ∷ xs) c h = ends xs c h
ends (Fetch b g region ∷ xs) c h = absurd (cc h)
ends (Store b k at e ∷ xs) c h = ends xs c h
ends (Publish d ∷ xs) c h = absurd (cc h)

-- buffers, lets and fetches may come before it
formed : (xs : Statements) → end_in_publish xs ≡ true → are_in_form xs ≡ true
formed Empty h = h
formed (Then (Seq all) rest) h = h
formed (Then (For i x kind s) rest) h = h
formed (Then (Let i pick forms) rest) h = formed rest h
formed (Then (First i s t) rest) h = h
formed (Then (Guard low high s) rest) h = h
formed (Then (Alloc b f places) rest) h = formed rest h
formed (Then (Fetch b g region) rest) h = absurd (cc h)
formed (Then (Store b k at e) rest) h = h
formed (Then (Publish d) rest) h = h

fetches_formed : (fs : List FetchText) (xs : List Statement) → are_in_form (block xs) ≡ true → are_in_form (block (with_fetches fs xs)) ≡ true
fetches_formed [] xs h = h
fetches_formed (f ∷ fs) xs h = fetches_formed fs xs h

fetches_single : (fs : List FetchText) (xs : List Statement) → are_single (block xs) ≡ true → are_single (block (with_fetches fs xs)) ≡ true
fetches_single [] xs h = h
fetches_single (f ∷ fs) xs h = fetches_single fs xs h

-- ---- numbers of lines

-- inside a group, with these symbols and buffers next, in so many blocks
abbrev inside : ℕ → ℕ → ℕ → ℕ → Bool → Count
inside g s b d may = record { groups = g; symbols = s; buffers = b; stage = record { depth = d; published = false; may_fetch = may } }

-- whether or not a fetch may still come, the lines are numbered in order
abbrev Runs : ℕ → ℕ → ℕ → ℕ → List Line → Type 0
Runs g s b d ls = (may : Bool) → are_numbered (inside g s b d may) ls ≡ true

-- a statement that numbers nothing and stands anywhere
abbrev Stays : Statement → Type 0
Stays s = (g n b d : ℕ) (ls : List Line) → Runs g n b d ls → Runs g n b d (statement_lines s ++ ls)

-- a block, with its `end` before other lines
enclosed : (ls ms : List Line) → ls ++ (EndLine ∷ ms) ≡ ((ls ++ EndLine ∷ []) ++ []) ++ ms
enclosed ls ms = sym (append_assoc ls (EndLine ∷ []) ms) ∙ ap (λ (ks : List Line). ks ++ ms) (sym (append-nil (ls ++ EndLine ∷ [])))

closed : (g b m d : ℕ) (ms : List Line) → Runs g m b d ms → Runs g m b (d + 1) (EndLine ∷ ms)
closed g b m d ms h may = (let back : (d + 1) - 1 ≡ d = omega arith in ap (λ (k : ℕ). are_numbered (inside g m b k may) ms) back ∙ h may)

-- the lines of a nest, before others
steps_run : (g b n d m : ℕ) (ss : List Step) (s : Statement) (ms : List Line) → Stays s → Rises n ss m → m ≤ 256 → d + step_lines ss ≤ 256 → Runs g m b d ms →
    Runs g n b d (block_lines (lines_to ss (Then s Empty)) ++ ms)
steps_run g b n d m [] s ms stays rises le low h may =
    let one : statement_lines s ++ ms ≡ (statement_lines s ++ []) ++ ms = ap (λ (ls : List Line). ls ++ ms) (sym (append-nil (statement_lines s))) in
    subst (λ (ls : List Line). Runs g n b d ls) one (stays g n b d ms (subst (λ (k : ℕ). Runs g k b d ms) (sym rises) h)) may
steps_run g b n d m (Turns i x kind ∷ ss) s ms stays rises le low h may =
    let is = rises.0 in
    let many = rises_to (n + 1) m ss rises.1 in
    let rest = steps_run g b (n + 1) (d + 1) m ss s (EndLine ∷ ms) stays rises.1 le (omega (arith, low)) (closed g b m d ms h) false in
    let room : nat_lt i 256 ≡ true = less i 256 (omega (arith, is, many, le)) in
    let deep : nat_lt d 512 ≡ true = less d 512 (omega (arith, low)) in
    both _ _ (both _ _ (both _ _ room deep) (ap (λ (k : ℕ). k == n) is ∙ same_number n))
    (subst (λ (ls : List Line). are_numbered (inside g (n + 1) b (d + 1) false) ls ≡ true) (enclosed (block_lines (lines_to ss (Then s Empty))) ms) rest)
steps_run g b n d m (Named i pick fs ∷ ss) s ms stays rises le low h may =
    let is = rises.0 in
    let many = rises_to (n + 1) m ss rises.1 in
    let rest = steps_run g b (n + 1) d m ss s ms stays rises.1 le (omega (arith, low)) h may in
    let room : nat_lt i 256 ≡ true = less i 256 (omega (arith, is, many, le)) in
    both _ _ (both _ _ (both _ _ room refl) (ap (λ (k : ℕ). k == n) is ∙ same_number n)) rest
steps_run g b n d m (Tested low_form high_form ∷ ss) s ms stays rises le low h may =
    let rest = steps_run g b n (d + 1) m ss s (EndLine ∷ ms) stays rises le (omega (arith, low)) (closed g b m d ms h) false in
    let deep : nat_lt d 512 ≡ true = less d 512 (omega (arith, low)) in
    both _ _ (both _ _ (both _ _ refl deep) refl)
    (subst (λ (ls : List Line). are_numbered (inside g n b (d + 1) false) ls ≡ true) (enclosed (block_lines (lines_to ss (Then s Empty))) ms) rest)

-- the lines of lets over the grid, before others
lets_run : (g b n m : ℕ) (ss : List Step) (inner : Statements) (ms : List Line) → AreLets ss → Rises n ss m → m ≤ 256 → Runs g m b 0 (block_lines inner ++ ms) →
    Runs g n b 0 (block_lines (lines_to ss inner) ++ ms)
lets_run g b n m [] inner ms lets rises le h may = subst (λ (k : ℕ). Runs g k b 0 (block_lines inner ++ ms)) (sym rises) h may
lets_run g b n m (Turns i x kind ∷ ss) inner ms lets rises le h may = absurd lets
lets_run g b n m (Named i pick fs ∷ ss) inner ms lets rises le h may =
    let is = rises.0 in
    let many = rises_to (n + 1) m ss rises.1 in
    let room : nat_lt i 256 ≡ true = less i 256 (omega (arith, is, many, le)) in
    both _ _ (both _ _ (both _ _ room refl) (ap (λ (k : ℕ). k == n) is ∙ same_number n)) (lets_run g b (n + 1) m ss inner ms lets rises.1 le h may)
lets_run g b n m (Tested low high ∷ ss) inner ms lets rises le h may = absurd lets

lets_formed : (ss : List Step) (inner : Statements) → AreLets ss → are_in_form inner ≡ true → are_in_form (lines_to ss inner) ≡ true
lets_formed [] inner lets h = h
lets_formed (Turns i x kind ∷ ss) inner lets h = absurd lets
lets_formed (Named i pick fs ∷ ss) inner lets h = lets_formed ss inner lets h
lets_formed (Tested low high ∷ ss) inner lets h = absurd lets

steps_single : (ss : List Step) (inner : Statements) → are_single inner ≡ true → are_single (lines_to ss inner) ≡ true
steps_single [] inner h = h
steps_single (Turns i x kind ∷ ss) inner h = both _ _ (steps_single ss inner h) refl
steps_single (Named i pick fs ∷ ss) inner h = steps_single ss inner h
steps_single (Tested low high ∷ ss) inner h = both _ _ (steps_single ss inner h) refl

steps_work : (ss : List Step) (inner : Statements) → are_work inner ≡ true → are_work (lines_to ss inner) ≡ true
steps_work [] inner h = h
steps_work (Turns i x kind ∷ ss) inner h = both _ _ (steps_work ss inner h) refl
steps_work (Named i pick fs ∷ ss) inner h = steps_work ss inner h
steps_work (Tested low high ∷ ss) inner h = both _ _ (steps_work ss inner h) refl

-- a store
record IsLine (s : Statement) : Type 0 where
  single : is_single s ≡ true
  work : is_work s ≡ true
  stays : Stays s

store_line : (u : StoredText) (fs : List FormulaText) (ms : Loads) (d : ℕ) (w : NestText) (s : Statement) → IsStore u fs ms d w s → IsLine s
store_line u fs ms d w (Store b k cs e) h = record { single = refl; work = refl; stays = λ g n c j ls r may. r false }
store_line u fs ms d w (Seq xs) h = absurd h
store_line u fs ms d w (For i x kind body) h = absurd h
store_line u fs ms d w (Let i pick forms) h = absurd h
store_line u fs ms d w (First i x y) h = absurd h
store_line u fs ms d w (Guard low high body) h = absurd h
store_line u fs ms d w (Alloc b x seats) h = absurd h
store_line u fs ms d w (Fetch b x region) h = absurd h
store_line u fs ms d w (Publish x) h = absurd h

-- nests one behind another: before what can stand anywhere, from this symbol on
record AreShaped (next : ℕ) (xs : List Statement) : Type 0 where
  single : are_single (block xs) ≡ true
  work : are_work (block xs) ≡ true
  runs : (g b : ℕ) (ms : List Line) → ((n : ℕ) → Runs g n b 0 ms) → Runs g next b 0 (block_lines (block xs) ++ ms)

nests_shaped : (next : ℕ) (ns : List NestText) → NestsRise next ns → AllByRecursion IsShortNest ns → next + 27 * length ns ≤ 256 → (u : StoredText) (fs : List FormulaText) (r : List Span1)
    (ms : Loads) (c line d : ℕ) (xs : List Statement) (cs : List CodeClaim) → AreNests u fs r ms c line d ns xs cs → AreShaped next xs
nests_shaped next [] rises short le u fs r ms c line d xs cs h =
    subst (AreShaped next) (sym h.0) (record { single = refl; work = refl; runs = λ g b ls k. k next })
nests_shaped next (w ∷ ns) rises short le u fs r ms c line d xs [] h = absurd h
nests_shaped next (w ∷ ns) rises short le u fs r ms c line d xs (claim ∷ cs) h =
    let nest = h.here.nest in
    let to = rises.0 in
    let is = rises_to next to w.steps rises.1 in
    let symbols = short.0.few_symbols in
    let few_lines = short.0.few_lines in
    let s = store_line u fs ms d w nest.store nest.stores in
    let rest = nests_shaped to ns rises.2 short.1 (omega (arith, is, symbols, le)) u fs r (ms ++ (u.subject.name, c) ∷ []) (c + 1) (line + _) (d + 1) h.others cs h.behind in
    let are : lines_to w.steps (Then nest.store Empty) ≡ block h.first = sym nest.comes in
    let single : are_single (block h.first) ≡ true = subst (λ (y : Statements). are_single y ≡ true) are (steps_single w.steps (Then nest.store Empty) (both _ _ s.single refl)) in
    let work : are_work (block h.first) ≡ true = subst (λ (y : Statements). are_work y ≡ true) are (steps_work w.steps (Then nest.store Empty) (both _ _ s.work refl)) in
    subst (AreShaped next) (sym h.are) (record {
      single = singles_both h.first h.others single rest.single;
      work = works_both h.first h.others work rest.work;
      runs = λ g b ls k.
          let others : List Line = block_lines (block h.others) in
          let more : Runs g to b 0 (others ++ ls) = rest.runs g b ls k in
          let first = steps_run g b next 0 to w.steps nest.store (others ++ ls) s.stays rises.1 (omega (arith, is, symbols, le)) (omega (arith, few_lines)) more in
          let there : Runs g next b 0 (block_lines (block h.first) ++ (others ++ ls)) = subst (λ (y : Statements). Runs g next b 0 (block_lines y ++ (others ++ ls))) are first in
          let joined : block_lines (block h.first) ++ (others ++ ls) ≡ block_lines (block (h.first ++ h.others)) ++ ls =
          sym (append_assoc (block_lines (block h.first)) others ls) ∙ ap (λ (y : List Line). y ++ ls) (sym (lines_both h.first h.others)) in
          subst (λ (y : List Line). Runs g next b 0 y) joined there;
    })

-- buffers are numbered as they are fetched into
fetches_run : (calls : Calls) (grid : List Binding) (n b line : ℕ) (xs : List (ℕ × Entry)) (fs : List FetchText) (ws : List Need) (cs : List CodeClaim) → AreFetched calls grid n b line xs fs ws cs →
    b + length fs ≤ 256 → (g s : ℕ) (ys : List Statement) (ms : List Line) → ((c : ℕ) → Runs g s c 0 (block_lines (block ys) ++ ms)) →
    Runs g s b 0 (block_lines (block (with_fetches fs ys)) ++ ms)
fetches_run calls grid n b line [] [] [] [] h le g s ys ms k = k b
fetches_run calls grid n b line [] [] [] (c ∷ cs) h le g s ys ms k = absurd h
fetches_run calls grid n b line [] [] (w ∷ ws) cs h le g s ys ms k = absurd h
fetches_run calls grid n b line [] (f ∷ fs) ws cs h le g s ys ms k = absurd h
fetches_run calls grid n b line (x ∷ xs) [] ws cs h le g s ys ms k = absurd h
fetches_run calls grid n b line (x ∷ xs) (f ∷ fs) [] cs h le g s ys ms k = absurd h
fetches_run calls grid n b line (x ∷ xs) (f ∷ fs) (w ∷ ws) [] h le g s ys ms k = absurd h
fetches_run calls grid n b line (x ∷ xs) (f ∷ fs) (w ∷ ws) (c ∷ cs) h le g s ys ms k =
    let rest = fetches_run calls grid n (b + 1) (line + 2) xs fs ws cs h.2 (omega (arith, le)) g s ys ms k in
    let buffer : f.buffer ≡ b = h.0.buffered in
    λ may. both _ _ (both _ _ (both _ _ (ap (λ (j : ℕ). nat_lt j 256) buffer ∙ less b 256 (omega (arith, le))) refl) (ap (λ (j : ℕ). j == b) buffer ∙ same_number b)) (rest may)

-- ---- groups

-- the group's body is a block in the form of groups, and its lines number what they bind before what stands behind it
record IsGroupShaped (g : Group) : Type 0 where
  single : has_block g ≡ true
  form : has_form g ≡ true
  grid : length g.grid ≤ 256
  runs : (n : ℕ) (ms : List Line) → ((c : Count) → c.groups ≡ n → are_numbered c ms ≡ true) → Runs n (length g.grid) 0 0 (statement_lines g.body ++ ms)

groups_numbered : (n : ℕ) (gs : List Group) → ((i : ℕ) (g : Group) → slice_get gs i ≡ Some g → IsGroupShaped g) → (c : Count) → c.groups ≡ n → are_numbered c (groups_lines n gs) ≡ true
groups_numbered n [] each c e = refl
groups_numbered n (g ∷ gs) each c e =
    let here = each 0 g refl in
    let rest = groups_numbered (n + 1) gs (λ i u at. each (suc i) u at) in
    let next : c.groups + 1 ≡ n + 1 = ap (λ (k : ℕ). k + 1) e in
    let lines = here.runs (c.groups + 1) (groups_lines (n + 1) gs) (λ d is. rest d (is ∙ next)) true in
    both _ _ (both _ _ (both _ _ (at_most (length g.grid) 256 here.grid) refl) (ap (λ (k : ℕ). n == k) e ∙ same_number n)) lines

all_tested : (test : Group → Bool) (gs : List Group) → ((i : ℕ) (g : Group) → slice_get gs i ≡ Some g → test g ≡ true) → list_all test gs ≡ true
all_tested test [] each = refl
all_tested test (g ∷ gs) each = both _ _ (each 0 g refl) (all_tested test gs (λ i u at. each (suc i) u at))

module _ (a : Algorithm) (sch : Schedule) (l : Lowered) (well : IsAlgorithm a) (legal : IsLegal a sch) (small : has_large (stored_functions a sch) ≡ false)
    (kept : region_fault a (stored_functions a sch) ≡ None) (all : are_whole (stored_functions a sch) ≡ true) (groups : HasGroups a (stored_functions a sch) l)
    (once : (n : ℕ) (u : StoredText) → slice_get (stored_functions a sch) n ≡ Some u → IsSplitOnce u) where
  abbrev entries : List Entry
  entries = roots a sch l well legal small kept all groups

  group_shaped : (n : ℕ) (g : Group) → slice_get (plan_of l.plan).groups n ≡ Some g → IsGroupShaped g
  group_shaped n g at =
      let y = from_map group_of l.plan.groups.items n g at in
      let q = y.0 in
      let v = group_short a sch l well legal small kept all groups once n q y.1 in
      let u = v.stored in
      let c = v.first_claim in
      let line = v.line in
      let h = v.body in
      let b = h.body in
      let fs = h.formulas in
      let k = h.skeleton in
      let x = u.subject.name in
      let ms : Loads = loads_from c b.fetches in
      let last : ℕ = last_claim c b.fetches k in
      let publish : List Statement = Publish last ∷ [] in
      let rest : List Statement = b.nests ++ publish in
      let code : Statements = block (Alloc 0 x (own_places (dimensions_of u h.extents k)) ∷ with_fetches b.fetches rest) in
      let is : Seq (lines_to k.head code) ≡ statement_of q.body = sym b.with.is in
      let short = v.short in
      let few = short.grid in
      let definitions = short.definitions in
      let head_symbols = short.few_symbols in
      let own = short.own in
      let next : ℕ = own.next in
      let behind_head = rises_to (length k.grid) next k.head own.rises in
      let r : List Span1 = claimed_region (dimensions_of u h.extents k) in
      let nests = nests_shaped next k.nests own.nests_rise short.nests (omega (arith, few, head_symbols, behind_head, definitions)) u fs r ms (c + length b.fetches) (line + first_lines k +
      2 * length b.fetches) 0 b.nests b.own b.nested in
      let single : are_single (block rest) ≡ true = singles_both b.nests publish nests.single refl in
      let form : are_in_form (block rest) ≡ true = formed (block rest) (ends b.nests last nests.work) in
      let buffers = fetches_few a entries (roots_few a sch l well legal small kept all groups) n c line u q v.claims v.needs h in
      let grid : length q.grid.items ≡ length k.grid = ap length v.grid in
      subst IsGroupShaped (sym y.2) (record {
        single = subst (λ (y : Statement). is_block y ≡ true) is (steps_single k.head code (fetches_single b.fetches rest single));
        form = subst (λ (y : Statement). is_body y ≡ true) is (lets_formed k.head code own.lets (fetches_formed b.fetches rest form));
        grid = omega (arith, few, grid);
        runs = λ g ls behind.
            let published : (m j : ℕ) → Runs g m j 0 (PublishLine last ∷ ls) = λ m j may. behind _ refl in
            let nested : (j : ℕ) → Runs g next j 0 (block_lines (block b.nests) ++ (PublishLine last ∷ ls)) = λ j. nests.runs g j (PublishLine last ∷ ls) (λ m. published m j) in
            let joined : block_lines (block b.nests) ++ (PublishLine last ∷ ls) ≡ block_lines (block rest) ++ ls =
            sym (append_assoc (block_lines (block b.nests)) (PublishLine last ∷ []) ls) ∙ ap (λ (y : List Line). y ++ ls) (sym (lines_both b.nests publish)) in
            let fetched = fetches_run (sites_of a u fs k) (grid_scope k.grid) n 1 (line + first_lines k) (fetched_groups fs n 0 entries) b.fetches v.needs b.fetched b.fetching (omega (arith, buffers))
            g next rest ls (λ j. subst (λ (y : List Line). Runs g next j 0 y) joined (nested j)) in
            let alloc : Runs g next 0 0 (block_lines code ++ ls) = fetched in
            let lets : Runs g (length k.grid) 0 0 (block_lines (lines_to k.head code) ++ ls) =
            lets_run g 0 (length k.grid) next k.head code ls own.lets own.rises (omega (arith, few, head_symbols, behind_head)) alloc in
            subst (λ (y : Statement). Runs g (length q.grid.items) 0 0 (statement_lines y ++ ls)) is (subst (λ (m : ℕ). Runs g m 0 0 (block_lines (lines_to k.head code) ++ ls)) (sym grid) lets);
      })

  pub shaped : IsShaped (plan_of l.plan)
  shaped = record {
    blocks = all_tested has_block (plan_of l.plan).groups (λ n g at. (group_shaped n g at).single);
    form = all_tested has_form (plan_of l.plan).groups (λ n g at. (group_shaped n g at).form);
    numbered = groups_numbered 0 (plan_of l.plan).groups group_shaped start refl;
  }
