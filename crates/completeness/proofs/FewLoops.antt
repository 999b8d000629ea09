-- Functions whose loops are split once have few loops, and their nests few steps, by whatever tails and in whatever order.
use Rattle.std.proofs.Common.{◌≡◌, ℕ, suc, ◌+◌, ◌≤◌, Bool, true, false, List, [], ◌∷◌, ◌++◌, length, map, Some, None, refl, sym, ap, ◌∙◌, subst, inl, inr, ◌⊎◌, arith}
use Rattle.std.specs.Prelude.{pos, filter, if◌then◌else◌}
use Rattle.std.specs.List.{AllByRecursion}
use Rattle.std.proofs.lemmas.List.{length-append, length-map}
use Rattle.meaning.specs.Names.{same_name}
use Rattle.soundness.specs.Claims.{In}
use Rattle.soundness.proofs.Refines.{name_true}
use Rattle.headline.proofs.Regions.{at_in}
use Rattle.plan.specs.declared.stmt.Kind.TheVariants.{Serial}
use Rattle.sched.specs.declared.schedule.Split.{Split}
use Rattle.sched.specs.declared.numbers.Numbers.{Numbers}
use Rattle.sched.specs.declared.numbers.Extent.{Extent}
use Rattle.sched.specs.declared.placing.Loop.{Loop}
use Rattle.sched.specs.declared.skeleton.Known.{Known}
use Rattle.sched.specs.declared.skeleton.Step.{Step}
use Rattle.sched.specs.declared.skeleton.Step.TheVariants.{Turns, Named, Tested}
use Rattle.sched.specs.declared.nest.Turning.{Turning}
use Rattle.sched.specs.Numbers.{numbers_named, loop_numbers, parallel_loops, grid_counts, or_one, piece_counts}
use Rattle.sched.specs.Placing.{is_parallel}
use Rattle.sched.specs.Standing.{◌>>=◌, StandingText, form_named, begin, is_guarded, join, settle_some, cuts_by_variable}
use Rattle.sched.specs.Skeleton.{BodyText, NestText, SkeletonText, loop_turning, nest_turns, nests_in, grid_forms, over_grid, skeleton_in}
use Rattle.sched.proofs.Leading.{in_left, in_right}
use Rattle.sched.proofs.Rooting.{all_by_variable}
use Rattle.sched.proofs.Standings.{Begins, stood, waits, plainly, shifted, begins, Joins, stays, puts, joins, stands_not}
use Rattle.blocks.specs.Bodies.{step_lines}
use Rattle.sched.specs.Stored.{StoredText}
use Rattle.lower.specs.Owning.{IsLaidBy}
use Rattle.blocks.proofs.Laying.{bound, same}
use Rattle.lower.proofs.Directed.{IsLeaf, AreMade}
use Rattle.lower.proofs.Owners as owners
use Rattle.completeness.specs.Laws.{AreSplitOnce}
use Rattle.completeness.specs.Parted.{KeepsInner}
use Rattle.completeness.proofs.Standing.{at_grid, NamesOwn, names_own, nests_long}
use Rattle.completeness.proofs.Halves.{AreOthers, IsNamed, named, IsOther}
use Rattle.completeness.proofs.Lanes.{AreOnce}
use Rattle.completeness.proofs.VectorLines.{split_once}
use Rattle.completeness.proofs.PlainTurns.{hits, hits_once, turn_name, one_if}
use Rattle.completeness.proofs.PureNests.{all_from, all_in, loop_name, hits_named, hits_turned, at_most_all, all_once}
use Rattle.completeness.proofs.UpdateTurns.{all_mapped}
use Rattle.completeness.proofs.GridTurns.{grid_none}
use Rattle.completeness.proofs.BlockFacts.{wholes_are, end_leaf, inners_serial}
use Rattle.completeness.proofs.BlockDims.{apart_name}
use Rattle.completeness.proofs.RisingSteps.{AllKnown, RisesIf, AreSteps, binders, HaveNestSteps, few_steps}

-- a nest with canonical forms, four upper ones of a loop at most, of so few symbols and lines
pub record IsShortNest (n : NestText) : Type 0 where
  pub at : AllByRecursion RisesIf n.at
  pub steps : AreSteps 4 n.steps
  pub few_symbols : binders n.steps ≤ 27
  pub few_lines : step_lines n.steps ≤ 54

-- a skeleton of a few such nests, over a grid of few symbols, on which these forms stand, and a few lets
pub record IsShort (names : List Known) (k : SkeletonText) : Type 0 where
  pub known : k.known ≡ names
  pub starts : AllKnown k.starts
  pub grid : length k.grid ≤ 10
  pub head : AreSteps 4 k.head
  pub few_symbols : binders k.head ≤ 6
  pub few_lines : step_lines k.head ≤ 12
  pub nests : AllByRecursion IsShortNest k.nests
  pub definitions : length k.nests ≤ 5
  pub own : NamesOwn k

-- ---- over the grid

-- no inner loop is parallel: so over the grid no split is put together
known_begun : (c : Split) (r : Numbers) (st new : StandingText) → begin c r st ≡ Some new → new.known ≡ st.known
known_begun c r st new e = of (begins c r st new e)
  where
    of : Begins c r st new → new.known ≡ st.known
    of (stood s is) = ap (λ (u : StandingText). u.known) is
    of (waits none is) = ap (λ (u : StandingText). u.known) is
    of (plainly outer form none some sum first is) = ap (λ (u : StandingText). u.known) is
    of (shifted outer form none some sum first is) = ap (λ (u : StandingText). u.known) is

known_joined : (guarded : Bool) (c : Split) (r : Numbers) (st new : StandingText) → form_named st.known c.inner ≡ None → join at_grid guarded c r st ≡ Some new → new.known ≡ st.known
known_joined guarded c r st new none e = of (joins c r st new at_grid guarded e)
  where
    of : Joins at_grid guarded c r st new → new.known ≡ st.known
    of (stays is h) = ap (λ (u : StandingText). u.known) is
    of (puts start inner form free s k sum put) = absurd (stands_not st.known c.inner none (inner, k))

known_over : (rs : List Numbers) (ks : List Known) (all cs : List Split) → AllByRecursion (λ c. form_named ks c.inner ≡ None) cs → (st new : StandingText) → st.known ≡ ks →
    settle_some at_grid rs all cs st ≡ Some new → new.known ≡ ks
known_over rs ks all [] none st new is e = sym (ap (λ (u : StandingText). u.known) (same st new e)) ∙ is
known_over rs ks all (c ∷ cs) none st new is e =
    let r : Numbers = numbers_named rs c.whole in
    let b = bound (begin c r st) (λ begun. join at_grid (is_guarded rs all c) c r begun >>= settle_some at_grid rs all cs) new e in
    let m = bound (join at_grid (is_guarded rs all c) c r b.value) (settle_some at_grid rs all cs) new b.comes in
    let begun : b.value.known ≡ ks = known_begun c r st b.value b.is ∙ is in
    let joined = known_joined (is_guarded rs all c) c r b.value m.value (ap (λ (us : List Known). form_named us c.inner) begun ∙ none.0) m.is in
    known_over rs ks all cs none.1 m.value new (joined ∙ begun) m.comes

-- where a loop has no more upper forms than so many
fewer : (m n : ℕ) → m ≤ n → (ss : List Step) → AreSteps m ss → AreSteps n ss
fewer m n le [] h = tt
fewer m n le (Turns i x kind ∷ ss) h = (let most = h.0.3 in ((h.0.0, h.0.1, h.0.2, omega (arith, le, most)), fewer m n le ss h.1))
fewer m n le (Named i pick fs ∷ ss) h = (h.0, fewer m n le ss h.1)
fewer m n le (Tested low high ∷ ss) h = (h.0, fewer m n le ss h.1)

-- ---- few loops

few_pieces_of : (rs : List Numbers) (ms : List Loop) → length (or_one (grid_counts rs ms)) ≤ 1 + length ms
few_pieces_of rs [] = omega arith
few_pieces_of rs (m ∷ ms) = (let many = length-map (m ∷ ms) (λ (o : Loop). (numbers_named rs o.name).count) in omega (arith, many))

pub filter_few : {A : Type 0} (f : A → Bool) (xs : List A) → length (filter f xs) ≤ length xs
filter_few f [] = omega arith
filter_few f (x ∷ xs) = of (f x) (filter_few f xs)
  where
    of : (b : Bool) → length (filter f xs) ≤ length xs → length (if b then x ∷ filter f xs else filter f xs) ≤ suc (length xs)
    of true h = omega (arith, h)
    of false h = omega (arith, h)

in_map : (f : Split → List ℕ) (c : Split) (cs : List Split) → In c cs → In (f c) (map f cs)
in_map f c [] m = absurd m
in_map f c (d ∷ cs) (inl e) = inl (ap f e)
in_map f c (d ∷ cs) (inr m) = inr (in_map f c cs m)

abbrev turn_of : Split → Turning
turn_of c = record { name = c.whole; low = pos 0; last = pos 0; kind = Serial }

none_whole : (c : Split) (ds : List Split) (y : List ℕ) → AllByRecursion (IsOther c) ds → c.whole ≡ y → hits turn_name y (map turn_of ds) ≡ 0
none_whole c [] y q e = refl
none_whole c (d ∷ ds) y q e =
    let differ : same_name d.whole y ≡ false = apart_name d.whole y (λ s. q.0.whole (e ∙ sym s)) in
    let counts = ap one_if differ in
    let rest = none_whole c ds y q.1 e in
    omega (arith, counts, rest)

wholes_once : (cs : List Split) → AreOthers cs → (y : List ℕ) → hits turn_name y (map turn_of cs) ≤ 1
wholes_once [] o y = omega arith
wholes_once (c ∷ cs) o y = of (same_name c.whole y) refl (wholes_once cs o.2 y)
  where
    of : (b : Bool) → same_name c.whole y ≡ b → hits turn_name y (map turn_of cs) ≤ 1 → one_if b + hits turn_name y (map turn_of cs) ≤ 1
    of true e rest = (let none = none_whole c cs y o.1 (name_true c.whole y e) in omega (arith, none))
    of false e rest = omega (arith, rest)

module _ (g : StoredText) (es : List Extent) (k : SkeletonText) (laid : IsLaidBy g es k) (narrow : length g.subject.variables ≤ 3) (alone : AreSplitOnce g.placed.cuts) where
  abbrev xs : List (List ℕ)
  xs = g.subject.variables

  abbrev ls : List Loop
  ls = g.placed.loops

  abbrev cuts : List Split
  cuts = g.placed.cuts

  abbrev rs : List Numbers
  rs = loop_numbers xs cuts es

  pub is_named : IsNamed g.placed
  is_named = named g.subject laid.directives g.placed laid.placed

  pub once : AreOnce cuts
  once = split_once cuts alone

  made_so : AreMade xs (xs ++ g.subject.reductions) cuts
  made_so = (owners.directed g es k laid).made

  single : (y : List ℕ) → hits loop_name y ls ≤ 1
  single y =
      let one = hits_named y ls in
      let two = hits_once (map loop_name ls) y (owners.directed g es k laid).single in
      omega (arith, one, two)

  pub wholes : (c : Split) → In c cuts → In c.whole xs
  wholes c m = wholes_are cuts once xs (xs ++ g.subject.reductions) made_so c m

  pub few_cuts : length cuts ≤ 3
  few_cuts =
      let ts : List Turning = map turn_of cuts in
      let one = at_most_all xs ts (all_mapped turn_of (λ t. In t.name xs) cuts (all_from (λ c. In c.whole xs) cuts wholes)) in
      let two = all_once xs ts (λ y. wholes_once cuts is_named.apart y) in
      let long = length-map cuts turn_of in
      omega (arith, one, two, narrow, long)

  abbrev outers : List (List ℕ)
  outers = map (λ c. c.outer) cuts

  abbrev inners : List (List ℕ)
  inners = map (λ c. c.inner) cuts

  -- a loop is a variable's, or one that a split makes
  leaf_among : (o : Loop) → In o ls → In o.name (xs ++ (outers ++ inners))
  leaf_among o m =
      let leaf : IsLeaf xs cuts o = all_in (IsLeaf xs cuts) ls o (owners.directed g es k laid).leaves m in
      of (end_leaf cuts once xs cuts (λ d q. q) leaf.variable o.name (at_in xs o.dimension leaf.variable leaf.of) leaf.end)
    where
      of : In o.name xs ⊎ ((c : Split) × In c cuts × ((o.name ≡ c.outer) ⊎ (o.name ≡ c.inner))) → In o.name (xs ++ (outers ++ inners))
      of (inl q) = in_left o.name xs (outers ++ inners) q
      of (inr (c, q, inl e)) =
          in_right o.name xs (outers ++ inners) (in_left o.name outers inners (subst (λ (z : List ℕ). In z outers) (sym e) (in_map (λ c. c.outer) c cuts q)))
      of (inr (c, q, inr e)) =
          in_right o.name xs (outers ++ inners) (in_right o.name outers inners (subst (λ (z : List ℕ). In z inners) (sym e) (in_map (λ c. c.inner) c cuts q)))

  pub few_loops : length ls ≤ 9
  few_loops =
      let ts : List Turning = map (loop_turning rs) ls in
      let names : List (List ℕ) = xs ++ (outers ++ inners) in
      let among : AllByRecursion (λ t. In t.name names) ts = all_mapped (loop_turning rs) (λ t. In t.name names) ls (all_from (λ o. In o.name names) ls leaf_among) in
      let one = at_most_all names ts among in
      let two = all_once names ts (λ y. let m = hits_turned rs y ls in let s = single y in omega (arith, m, s)) in
      let three = length-append xs (outers ++ inners) in
      let four = length-append outers inners in
      let five = length-map cuts (λ (c : Split). c.outer) in
      let six = length-map cuts (λ (c : Split). c.inner) in
      let cut_few = few_cuts in
      let long = length-map ls (loop_turning rs) in
      omega (arith, one, two, three, four, five, six, cut_few, narrow, long)

  nests_short : (splits : ℕ) → splits ≤ 3 → (bs : List BodyText) (ns : List NestText) → AllByRecursion (λ b. length (nest_turns b rs ls) ≤ 21) bs → HaveNestSteps splits rs ls bs ns →
      AllByRecursion IsShortNest ns
  nests_short splits le [] [] few h = tt
  nests_short splits le [] (n ∷ ns) few h = absurd h
  nests_short splits le (b ∷ bs) [] few h = absurd h
  nests_short splits le (b ∷ bs) (n ∷ ns) few h =
      let turns = few.0 in
      let symbols = h.0.few_symbols in
      let lines = h.0.few_lines in (
        record {
          at = h.0.at;
          steps = fewer (1 + splits) 4 (omega (arith, le)) n.steps h.0.steps;
          few_symbols = omega (arith, le, turns, symbols);
          few_lines = omega (arith, le, turns, lines);
        },
        nests_short splits le bs ns few.1 h.1,
      )

  pub short : (bs : List BodyText) → KeepsInner ls cuts → length bs ≤ 5 → AllByRecursion (λ b. length (nest_turns b rs ls) ≤ 21) bs → skeleton_in xs bs g.placed es ≡ Some k →
      IsShort (grid_forms rs 0 (parallel_loops ls)) k
  short bs keeps many few e =
      let cs : List Split = cuts_by_variable cuts xs in
      let grid : List ℕ = piece_counts rs ls in
      let names : List Known = grid_forms rs 0 (parallel_loops ls) in
      let b = bound (settle_some at_grid rs cs cs (over_grid rs g.placed))
      (λ head. nests_in xs g.placed rs head bs head.next >>= λ nests. Some (record { grid = grid; head = head.steps; nests = nests; known = head.known; starts = head.starts })) k e in
      let m = bound (nests_in xs g.placed rs b.value bs b.value.next)
      (λ nests. Some (record { grid = grid; head = b.value.steps; nests = nests; known = b.value.known; starts = b.value.starts })) k b.comes in
      let made : SkeletonText = record { grid = grid; head = b.value.steps; nests = m.value; known = b.value.known; starts = b.value.starts } in
      let none = all_by_variable (λ c. form_named names c.inner ≡ None) cuts xs
      (all_from (λ c. form_named names c.inner ≡ None) cuts (λ c q. grid_none rs c.inner 0 (parallel_loops ls) (inners_serial ls cuts keeps c q))) in
      let known : b.value.known ≡ names = known_over rs names cs cs none (over_grid rs g.placed) b.value refl b.is in
      let pieces : length grid ≤ 10 = (let some = few_pieces_of rs (parallel_loops ls) in let fewer_loops = filter_few is_parallel ls in let loops = few_loops in omega (
        arith,
        some,
        fewer_loops,
        loops,
      )) in
      let steps = few_steps xs bs g.placed es k e in
      let splits = few_cuts in
      let symbols = steps.few_symbols in
      let lines = steps.few_lines in
      let long = nests_long xs bs g.placed es k e in
      record {
        known = sym (ap (λ (s : SkeletonText). s.known) (same made k m.comes)) ∙ known;
        starts = steps.starts;
        grid = subst (λ (s : SkeletonText). length s.grid ≤ 10) (same made k m.comes) pieces;
        head = fewer (1 + length cuts) 4 (omega (arith, splits)) k.head steps.head;
        few_symbols = omega (arith, splits, symbols);
        few_lines = omega (arith, splits, lines);
        nests = nests_short (length cuts) splits bs k.nests few steps.nests;
        definitions = omega (arith, long, many);
        own = names_own xs bs g.placed es k e;
      }
