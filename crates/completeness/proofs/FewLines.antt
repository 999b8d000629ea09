-- Of functions whose loops are split once, by whatever tails and in whatever order, the groups have few lines, and bind few symbols.
use Rattle.std.proofs.Common.{◌≡◌, ℕ, zero, suc, ◌+◌, ◌*◌, ◌≤◌, Bool, true, false, List, [], ◌∷◌, ◌++◌, length, Option, Some, None, refl, sym, ap, ◌∙◌, subst, arith}
use Rattle.std.specs.Prelude.{filter, reverse, take, if◌then◌else◌, slice_get}
use Rattle.std.specs.List.{AllByRecursion}
use Rattle.std.proofs.lemmas.List.Elements.{recursion_from_All}
use Rattle.std.proofs.lemmas.List.{length-append, length-map, reverse-append}
use Rattle.lin.specs.declared.span.Span1.{Span1}
use Rattle.meaning.specs.Algorithm.{Range, Change, Function, Algorithm}
use Rattle.meaning.specs.Conditions.{IsUpdate, IsAlgorithm}
use Rattle.plan.specs.declared.plan.Group.{Group as CodeGroup}
use Rattle.plan.specs.declared.certificate.cert.Claim.{Claim as CodeClaim}
use Rattle.plan.specs.declared.certificate.cert.Need.{Need}
use Rattle.plan.specs.Plan.{Statement, Seq, For, Let, First, Guard, Alloc, Fetch, Store, Publish, Statements, Empty, Then, Group, block}
use Rattle.plan.specs.View.{group_of, plan_of, statement_of}
use Rattle.plan.specs.Lines.{lines, block_lines, groups_lines}
use Rattle.rules.specs.Bounding.Scopes.{most_symbols}
use Rattle.headline.proofs.Lists.{from_map}
use Rattle.sched.specs.Schedule.{Schedule}
use Rattle.sched.specs.Legal.{IsLegal}
use Rattle.sched.specs.Subjects.{reductions_of}
use Rattle.sched.specs.Runs.{lines_to}
use Rattle.sched.specs.declared.placing.Loop.{Loop}
use Rattle.sched.specs.declared.numbers.Extent.{Extent}
use Rattle.sched.specs.declared.numbers.Numbers.{Numbers}
use Rattle.sched.specs.declared.skeleton.Step.{Step}
use Rattle.sched.specs.declared.skeleton.Step.TheVariants.{Turns, Named, Tested}
use Rattle.sched.specs.declared.skeleton.Known.{Known}
use Rattle.sched.specs.Numbers.{loop_numbers, parallel_loops}
use Rattle.sched.specs.Skeleton.{range_turning, BodyText, NestText, SkeletonText, loop_turning, is_in_nest, nest_loops, nest_turns, grid_forms}
use Rattle.lower.specs.declared.lowering.Lowered.{Lowered}
use Rattle.sched.specs.Stored.{FormulaText, StoredText}
use Rattle.blocks.specs.Stored.{flags}
use Rattle.lower.specs.Stored.{stored_functions, has_large}
use Rattle.sched.specs.Around.{ranges_of}
use Rattle.regions.specs.Faults.{are_whole}
use Rattle.lower.specs.Faults.{region_fault}
use Rattle.regions.specs.Regions.{bodies_from}
use Rattle.sched.specs.Loading.{Loads}
use Rattle.blocks.specs.Blocks.{dimensions_of, claimed_region, own_places}
use Rattle.lower.specs.Bodies.{last_claim}
use Rattle.blocks.specs.Bodies.{IsStore, AreNests, step_lines, first_lines}
use Rattle.sched.specs.Fetches.{Entry}
use Rattle.blocks.specs.Fetches.{FetchText, with_fetches}
use Rattle.lower.specs.Fetches.{loads_from}
use Rattle.lower.specs.Groups.{HasBody, line_behind, HaveBodies, HasGroups}
use Rattle.completeness.specs.Laws.{AreLinesTold}
use Rattle.completeness.specs.Owed.{BindBelow, AllBindBelow, AreGridsFew, AreSymbolsFew}
use Rattle.completeness.specs.Fitting.{IsSplitOnce}
use Rattle.completeness.proofs.Standing.{Rises, NestsRise}
use Rattle.completeness.proofs.Laid.{subjects, found}
use Rattle.completeness.proofs.Owned.{some_same, same_extents, same_skeleton}
use Rattle.completeness.proofs.Served.{roots, made_at}
use Rattle.completeness.proofs.Bodies.{body_at}
use Rattle.completeness.proofs.Counts.{bodies_many, fetches_few, roots_few, functions_few}
use Rattle.completeness.proofs.ClaimLines.{formulas_long}
use Rattle.completeness.proofs.FewLoops.{IsShortNest, IsShort, few_loops, short}
use Rattle.completeness.proofs.RisingSteps.{binders}
use Rattle.completeness.proofs.UpdateTurns.{ranges_turned}

-- ---- lists

filter_few : {A : Type 0} (f : A → Bool) (xs : List A) → length (filter f xs) ≤ length xs
filter_few f [] = omega arith
filter_few f (x ∷ xs) = of (f x) (filter_few f xs)
  where
    of : (b : Bool) → length (filter f xs) ≤ length xs → length (if b then x ∷ filter f xs else filter f xs) ≤ suc (length xs)
    of true h = omega (arith, h)
    of false h = omega (arith, h)

back_many : {A : Type 0} (xs : List A) → length (reverse xs) ≡ length xs
back_many [] = refl
back_many (x ∷ xs) = (let rest = back_many xs in let both = ap length (reverse-append (x ∷ []) xs) ∙ length-append (reverse xs) (x ∷ []) in omega (arith, rest, both))

-- ---- statements

all_below : (m : ℕ) (xs ys : List Statement) → AllBindBelow m (block xs) → AllBindBelow m (block ys) → AllBindBelow m (block (xs ++ ys))
all_below m [] ys h k = k
all_below m (x ∷ xs) ys h k = (h.0, all_below m xs ys h.1 k)

-- so many symbols from the one on
pub rises_to : (n m : ℕ) (ss : List Step) → Rises n ss m → m ≡ n + binders ss
rises_to n m [] h = omega (arith, h)
rises_to n m (Turns i x kind ∷ ss) h = (let rest = rises_to (n + 1) m ss h.1 in omega (arith, rest))
rises_to n m (Named i pick fs ∷ ss) h = (let rest = rises_to (n + 1) m ss h.1 in omega (arith, rest))
rises_to n m (Tested low high ∷ ss) h = rises_to n m ss h

steps_below : (m n to : ℕ) (ss : List Step) (rest : Statements) → Rises n ss to → to ≤ m → AllBindBelow m rest → AllBindBelow m (lines_to ss rest)
steps_below m n to [] rest rises le h = h
steps_below m n to (Turns i x kind ∷ ss) rest rises le h =
    let is = rises.0 in
    let many = rises_to (n + 1) to ss rises.1 in
    ((omega (arith, is, many, le), steps_below m (n + 1) to ss rest rises.1 le h), tt)
steps_below m n to (Named i pick fs ∷ ss) rest rises le h =
    let is = rises.0 in
    let many = rises_to (n + 1) to ss rises.1 in
    (omega (arith, is, many, le), steps_below m (n + 1) to ss rest rises.1 le h)
steps_below m n to (Tested low high ∷ ss) rest rises le h = (steps_below m n to ss rest rises le h, tt)

fetches_below : (m : ℕ) (fs : List FetchText) (xs : List Statement) → AllBindBelow m (block xs) → AllBindBelow m (block (with_fetches fs xs))
fetches_below m [] xs h = h
fetches_below m (f ∷ fs) xs h = (tt, (tt, fetches_below m fs xs h))

pub lines_both : (xs ys : List Statement) → block_lines (block (xs ++ ys)) ≡ block_lines (block xs) + block_lines (block ys)
lines_both [] ys = omega arith
lines_both (x ∷ xs) ys = (let rest = lines_both xs ys in omega (arith, rest))

pub steps_lines : (ss : List Step) (rest : Statements) → block_lines (lines_to ss rest) ≡ step_lines ss + block_lines rest
steps_lines [] rest = omega arith
steps_lines (Turns i x kind ∷ ss) rest = (let more = steps_lines ss rest in omega (arith, more))
steps_lines (Named i pick fs ∷ ss) rest = (let more = steps_lines ss rest in omega (arith, more))
steps_lines (Tested low high ∷ ss) rest = (let more = steps_lines ss rest in omega (arith, more))

fetches_lines : (fs : List FetchText) (xs : List Statement) → block_lines (block (with_fetches fs xs)) ≡ 2 * length fs + block_lines (block xs)
fetches_lines [] xs = omega arith
fetches_lines (f ∷ fs) xs = (let rest = fetches_lines fs xs in omega (arith, rest))

store_below : (m : ℕ) (g : StoredText) (fs : List FormulaText) (ms : Loads) (d : ℕ) (w : NestText) (s : Statement) → IsStore g fs ms d w s → BindBelow m s × (lines s ≡ 1)
store_below m g fs ms d w (Store b k cs e) h = (tt, refl)
store_below m g fs ms d w (Seq xs) h = absurd h
store_below m g fs ms d w (For i x kind body) h = absurd h
store_below m g fs ms d w (Let i pick forms) h = absurd h
store_below m g fs ms d w (First i x y) h = absurd h
store_below m g fs ms d w (Guard low high body) h = absurd h
store_below m g fs ms d w (Alloc b x seats) h = absurd h
store_below m g fs ms d w (Fetch b x region) h = absurd h
store_below m g fs ms d w (Publish x) h = absurd h

-- ---- nests

-- the statements bind symbols before the limit, and have few lines
pub record AreSmallHere (many : ℕ) (xs : List Statement) : Type 0 where
  below : AllBindBelow 256 (block xs)
  pub few : block_lines (block xs) ≤ 55 * many

pub nests_small : (next : ℕ) (ns : List NestText) → NestsRise next ns → AllByRecursion IsShortNest ns → next + 27 * length ns ≤ 256 → (g : StoredText) (fs : List FormulaText) (r : List Span1)
    (ms : Loads) (c line d : ℕ) (xs : List Statement) (cs : List CodeClaim) → AreNests g fs r ms c line d ns xs cs → AreSmallHere (length ns) xs
nests_small next [] rises short le g fs r ms c line d xs cs h =
    let none : block_lines (block xs) ≡ 0 = ap (λ (ys : List Statement). block_lines (block ys)) h.0 in
    record { below = subst (λ (ys : List Statement). AllBindBelow 256 (block ys)) (sym h.0) tt; few = omega (arith, none) }
nests_small next (w ∷ ns) rises short le g fs r ms c line d xs [] h = absurd h
nests_small next (w ∷ ns) rises short le g fs r ms c line d xs (claim ∷ cs) h =
    let nest = h.here.nest in
    let to = rises.0 in
    let is = rises_to next to w.steps rises.1 in
    let symbols = short.0.few_symbols in
    let few_lines = short.0.few_lines in
    let store = store_below 256 g fs ms d w nest.store nest.stores in
    let one = store.1 in
    let rest = nests_small to ns rises.2 short.1 (omega (arith, is, symbols, le)) g fs r (ms ++ (g.subject.name, c) ∷ []) (c + 1) (line + block_lines (block h.first)) (d + 1) h.others cs h.behind in
    let below = steps_below 256 next to w.steps (Then nest.store Empty) rises.1 (omega (arith, is, symbols, le)) (store.0, tt) in
    let first : AllBindBelow 256 (block h.first) = subst (AllBindBelow 256) (sym nest.comes) below in
    let many : block_lines (block h.first) ≡ step_lines w.steps + block_lines (Then nest.store Empty) = ap block_lines nest.comes ∙ steps_lines w.steps (Then nest.store Empty) in
    let both : block_lines (block xs) ≡ block_lines (block h.first) + block_lines (block h.others) = ap (λ (ys : List Statement). block_lines (block ys)) h.are ∙ lines_both h.first h.others in
    let few_there = rest.few in
    record {
      below = subst (λ (ys : List Statement). AllBindBelow 256 (block ys)) (sym h.are) (all_below 256 h.first h.others first rest.below);
      few = omega (arith, many, both, one, few_lines, few_there);
    }

-- ---- loops

turns_small : (b : BodyText) (rs : List Numbers) (ls : List Loop) → length b.ranges ≤ 3 → length (nest_turns b rs ls) ≤ 2 * length ls + 3
turns_small b rs ls ranges =
    let part : (v : Bool) → length (nest_loops b v rs ls) ≤ length ls =
    λ v. (let many = length-map (filter (is_in_nest b v) (reverse ls)) (loop_turning rs) in let few = filter_few (is_in_nest b v) (reverse ls) in
    let back = back_many ls in omega (arith, many, few, back)) in
    let first = part false in
    let last = part true in
    let back = back_many b.ranges in
    let one = length-append (nest_loops b false rs ls ++ reverse b.ranges) (nest_loops b true rs ls) in
    let two = length-append (nest_loops b false rs ls) (reverse b.ranges) in
    omega (arith, first, last, ranges, back, one, two)

-- ---- plans

each_at : {A : Type 0} (P : A → Type 0) (xs : List A) → ((i : ℕ) (x : A) → slice_get xs i ≡ Some x → P x) → AllByRecursion P xs
each_at P [] h = tt
each_at P (x ∷ xs) h = (h 0 x refl, each_at P xs (λ i y e. h (suc i) y e))

at_each : {A : Type 0} (P : A → Type 0) (xs : List A) (i : ℕ) (x : A) → AllByRecursion P xs → slice_get xs i ≡ Some x → P x
at_each P [] i x h e = absurd (cc e)
at_each P (y ∷ xs) zero x h e = subst P (some_same y x e) h.0
at_each P (y ∷ xs) (suc i) x h e = at_each P xs i x h.1 e

-- an update has few reduction variables
abbrev ranges_in : Option Change → List Range
ranges_in o = elim o [ Some u ↦ u.ranges | None ↦ [] ]

ranges_few : (a : Algorithm) (before : List Function) (f : Function) (d : ℕ) → AllByRecursion (IsUpdate a before f) f.changes → length (ranges_of f.changes d) ≤ 3
ranges_few a before f zero h = omega arith
ranges_few a before f (suc i) h = of (slice_get f.changes i) refl
  where
    of : (o : Option Change) → slice_get f.changes i ≡ o → length (ranges_in o) ≤ 3
    of None e = omega arith
    of (Some u) e = (let is = at_each (IsUpdate a before f) f.changes i u h e in is.domain.few)

-- each group has few lines
pub lines_many : (gs : List Group) → ((n : ℕ) (g : Group) → slice_get gs n ≡ Some g → lines g.body + 1 ≤ 700) → groups_lines gs ≤ 700 * length gs
lines_many [] each = omega arith
lines_many (g ∷ gs) each = (let one = each 0 g refl in let rest = lines_many gs (λ n u at. each (suc n) u at) in omega (arith, one, rest))

-- a group for each function
pub bodies_long : (a : Algorithm) (all : List Entry) (n c line : ℕ) (gs : List StoredText) (ps : List CodeGroup) (claims : List CodeClaim) (needs : List Need) →
    HaveBodies a all n c line gs ps claims needs → length ps ≡ length gs
bodies_long a all n c line [] [] claims needs h = refl
bodies_long a all n c line [] (p ∷ ps) claims needs h = absurd h
bodies_long a all n c line (g ∷ gs) [] claims needs h = absurd h
bodies_long a all n c line (g ∷ gs) (p ∷ ps) claims needs h = ap suc (bodies_long a all (n + 1) (c + length h.own_claims) (line_behind line p) gs ps h.other_claims h.other_needs h.behind)

module _ (a : Algorithm) (sch : Schedule) (l : Lowered) (well : IsAlgorithm a) (legal : IsLegal a sch) (small : has_large (stored_functions a sch) ≡ false)
    (kept : region_fault a (stored_functions a sch) ≡ None) (all : are_whole (stored_functions a sch) ≡ true) (groups : HasGroups a (stored_functions a sch) l)
    (once : (n : ℕ) (u : StoredText) → slice_get (stored_functions a sch) n ≡ Some u → IsSplitOnce u) where
  abbrev gs : List StoredText
  gs = stored_functions a sch

  abbrev st : List Bool
  st = flags (subjects a sch)

  abbrev entries : List Entry
  entries = roots a sch l well legal small kept all groups

  -- what a group is made of, with its skeleton of few steps
  pub record IsGroupShort (n : ℕ) (q : CodeGroup) : Type 0 where
    pub stored : StoredText
    pub is : slice_get gs n ≡ Some stored
    pub first_claim : ℕ
    pub line : ℕ
    pub claims : List CodeClaim
    pub needs : List Need
    pub body : HasBody a entries n first_claim line stored q claims needs
    pub grid : q.grid.items ≡ body.skeleton.grid
    pub names : List Known
    pub short : IsShort names body.skeleton

  -- the skeleton over the group's region
  pub record IsStood (u : StoredText) (region : List Extent) (k : SkeletonText) : Type 0 where
    pub narrow : length u.subject.variables ≤ 3
    pub short : IsShort (grid_forms (loop_numbers u.subject.variables u.placed.cuts region) 0 (parallel_loops u.placed.loops)) k

  pub stood : (n : ℕ) (q : CodeGroup) (there : slice_get l.plan.groups.items n ≡ Some q) →
      let me = made_at a sch l well legal small kept all groups n q there in IsStood me.stored me.laid.region me.laid.skeleton
  stood n q there =
      let me = made_at a sch l well legal small kept all groups n q there in
      let u : StoredText = me.stored in
      let w = found a sch st u a.functions n me.is in
      let f : Function = w.function in
      let variables : length u.subject.variables ≡ length f.variables = ap (λ (y : StoredText). length y.subject.variables) w.is in
      let is_function = well.functions w.place f w.at in
      let narrow = is_function.few in
      let four = is_function.few_updates in
      let updates = recursion_from_All (IsUpdate a (take w.place a.functions) f) f.changes is_function.updates in
      let long : length me.formulas ≡ suc (length f.changes) = formulas_long a st f.variables f.value f.changes me.formulas (ap (λ (y : StoredText). y.formulas) (sym w.is) ∙ me.defined) in
      let reduced : u.subject.reductions ≡ reductions_of u.changes = ap (λ (y : StoredText). y.subject.reductions) w.is ∙ sym (ap (λ (y : StoredText). reductions_of y.changes) w.is) in
      let ranges : (d : ℕ) → length (ranges_of u.changes d) ≤ 3 =
      λ d. subst (λ (y : StoredText). length (ranges_of y.changes d) ≤ 3) (sym w.is) (ranges_few a (take w.place a.functions) f d updates) in
      let mine = once n u me.is in
      let bs : List BodyText = bodies_from u.changes 0 u.subject.reductions me.formulas in
      let rs : List Numbers = loop_numbers u.subject.variables u.placed.cuts me.laid.region in
      let three : length u.subject.variables ≤ 3 = omega (arith, variables, narrow) in
      let loops = few_loops u me.laid.region me.laid.skeleton me.laid_by three mine.once in
      let turns : AllByRecursion (λ y. length (nest_turns y rs u.placed.loops) ≤ 21) bs =
      each_at (λ y. length (nest_turns y rs u.placed.loops) ≤ 21) bs (λ d y at.
      let is = ranges_turned u.changes me.formulas d y (ap (λ (names : List (List ℕ)). slice_get (bodies_from u.changes 0 names me.formulas) d) (sym reduced) ∙ at) in
      let count : length y.ranges ≡ length (ranges_of u.changes d) = ap length is ∙ length-map (ranges_of u.changes d) range_turning in
      let most = ranges d in
      let all_turns = turns_small y rs u.placed.loops (omega (arith, count, most)) in
      omega (arith, all_turns, loops)) in
      let bodies = bodies_many u.changes 0 u.subject.reductions me.formulas in
      let five : length bs ≤ 5 = omega (arith, bodies, long, four) in
      record { narrow = three; short = short u me.laid.region me.laid.skeleton me.laid_by three mine.once bs mine.inners five turns me.over }

  pub group_short : (n : ℕ) (q : CodeGroup) → slice_get l.plan.groups.items n ≡ Some q → IsGroupShort n q
  group_short n q there =
      let me = made_at a sch l well legal small kept all groups n q there in
      let u : StoredText = me.stored in
      let over = stood n q there in
      let b = body_at a entries 0 0 4 gs l.plan.groups.items l.certificate.claims.items l.certificate.needs.items (groups.bodies all) n u q me.is there in
      let counted : 0 + n ≡ n = omega arith in
      let body = subst (λ (i : ℕ). HasBody a entries i b.first_claim b.line u q b.claims b.own_needs) counted b.body in
      let extents : me.laid.region ≡ body.extents = same_extents a sch l well legal small kept all groups n q me.laid body.extents there me.found body.region in
      let skeleton : me.laid.skeleton ≡ body.skeleton =
      same_skeleton a sch l well legal small kept all groups n u me.laid body.formulas body.extents body.skeleton me.is me.found body.defined extents body.laid in
      record {
        stored = u;
        is = me.is;
        first_claim = b.first_claim;
        line = b.line;
        claims = b.claims;
        needs = b.own_needs;
        body = body;
        grid = me.grid ∙ ap (λ (k : SkeletonText). k.grid) skeleton;
        names = grid_forms (loop_numbers u.subject.variables u.placed.cuts me.laid.region) 0 (parallel_loops u.placed.loops);
        short = subst (IsShort (grid_forms (loop_numbers u.subject.variables u.placed.cuts me.laid.region) 0 (parallel_loops u.placed.loops))) skeleton over.short;
      }

  pub body_small : (n : ℕ) (q : CodeGroup) → slice_get l.plan.groups.items n ≡ Some q → BindBelow 256 (statement_of q.body) × (lines (statement_of q.body) + 1 ≤ 700)
  body_small n q there =
      let r = group_short n q there in
      let u = r.stored in
      let h = r.body in
      let b = h.body in
      let fs = h.formulas in
      let k = h.skeleton in
      let region : List Span1 = claimed_region (dimensions_of u h.extents k) in
      let ms : Loads = loads_from r.first_claim b.fetches in
      let at_claim : ℕ = r.first_claim + length b.fetches in
      let at_line : ℕ = r.line + first_lines k + 2 * length b.fetches in
      let x = r.short in
      let grid = x.grid in
      let definitions = x.definitions in
      let head_symbols = x.few_symbols in
      let head_lines = x.few_lines in
      let next : ℕ = x.own.next in
      let first = rises_to (length k.grid) next k.head x.own.rises in
      let here = nests_small next k.nests x.own.nests_rise x.nests (omega (arith, grid, head_symbols, first, definitions)) u fs region ms at_claim at_line 0 b.nests b.own b.nested in
      let last : ℕ = last_claim r.first_claim b.fetches k in
      let rest : List Statement = b.nests ++ Publish last ∷ [] in
      let inside : List Statement = Alloc 0 u.subject.name (own_places (dimensions_of u h.extents k)) ∷ with_fetches b.fetches rest in
      let inner : AllBindBelow 256 (block inside) = (tt, fetches_below 256 b.fetches rest (all_below 256 b.nests (Publish last ∷ []) here.below (tt, tt))) in
      let below : BindBelow 256 (Seq (lines_to k.head (block inside))) =
      steps_below 256 (length k.grid) next k.head (block inside) x.own.rises (omega (arith, grid, head_symbols, first)) inner in
      let few = here.few in
      let both : block_lines (block rest) ≡ block_lines (block b.nests) + 1 = lines_both b.nests (Publish last ∷ []) in
      let fetched = fetches_lines b.fetches rest in
      let all_lines : lines (statement_of q.body) ≡ step_lines k.head + (1 + block_lines (block (with_fetches b.fetches rest))) = ap lines b.with.is ∙ steps_lines k.head (block inside) in
      let buffers = fetches_few a entries (roots_few a sch l well legal small kept all groups) n r.first_claim r.line u q r.claims r.needs h in
      (subst (BindBelow 256) (sym b.with.is) below, omega (arith, few, definitions, both, fetched, all_lines, buffers, head_lines))

  pub symbols_few : AreSymbolsFew (plan_of l.plan)
  symbols_few n g at =
      let x = from_map group_of l.plan.groups.items n g at in
      subst (λ (u : Group). BindBelow most_symbols u.body) (sym x.2) (body_small n x.0 x.1).0

  pub lines_told : AreLinesTold (plan_of l.plan)
  lines_told =
      let most = lines_many (plan_of l.plan).groups (λ n g at.
      let x = from_map group_of l.plan.groups.items n g at in subst (λ (u : Group). lines u.body + 1 ≤ 700) (sym x.2) (body_small n x.0 x.1).1) in
      let many = length-map l.plan.groups.items group_of in
      let each_has = bodies_long a entries 0 0 4 gs l.plan.groups.items l.certificate.claims.items l.certificate.needs.items (groups.bodies all) in
      let few = functions_few a sch l well legal small kept all groups in
      omega (arith, most, many, each_has, few)

  pub grids_few : AreGridsFew (plan_of l.plan)
  grids_few n g at =
      let x = from_map group_of l.plan.groups.items n g at in
      let r = group_short n x.0 x.1 in
      let grid = r.short.grid in
      let count : length x.0.grid.items ≡ length r.body.skeleton.grid = ap length r.grid in
      subst (λ (y : Group). length y.grid ≤ most_symbols) (sym x.2) (omega (arith, grid, count))
