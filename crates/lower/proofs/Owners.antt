-- The blocks of pieces make up their group's region: each point is in the block of one piece.
use Rattle.std.proofs.Common.{◌≡◌, ℕ, suc, ◌≤◌, Bool, true, false, List, [], ◌∷◌, ◌++◌, length, Option, Some, None, refl, sym, ap, ◌∙◌, subst, arith, ℤ, pos, ◌≤ℤ◌}
use Rattle.std.specs.Prelude.{◌+ℤ◌, ◌-ℤ◌, if◌then◌else◌}
use Rattle.std.specs.List.{AllByRecursion}
use Rattle.std.proofs.lemmas.Int.{ints}
use Rattle.lin.proofs.TermLemmas.{all_weaker, filter-all}
use Rattle.plan.specs.Certificate.Cells.{grid_value}
use Rattle.meaning.specs.Names.{same_name, is_among, bound}
use Rattle.meaning.proofs.Cases.{name_same}
use Rattle.sched.specs.declared.schedule.Split.{Split}
use Rattle.sched.specs.declared.placing.Loop.{Loop}
use Rattle.sched.specs.declared.numbers.Extent.{Extent}
use Rattle.sched.specs.declared.numbers.Numbers.{Numbers}
use Rattle.sched.specs.Placing.{has_double, has_loop, is_parallel, start}
use Rattle.sched.specs.Numbers.{numbers_found, numbers_named, whole_numbers, halves, cut_numbers, loop_numbers, parallel_loops, grid_counts, or_one}
use Rattle.sched.specs.Standing.{form_named}
use Rattle.sched.specs.Skeleton.{SkeletonText, grid_forms}
use Rattle.sched.specs.Visits.{IsInExtents, IsInGrid}
use Rattle.sched.proofs.Visiting.{Gives}
use Rattle.sched.proofs.Numbering.{found_more}
use Rattle.sched.proofs.Starting.{differ_all, gives_bound, start_arranged}
use Rattle.sched.proofs.Arranging.{SplitFits, IsArranged}
use Rattle.sched.proofs.Directing.{directives_keep}
use Rattle.sched.specs.Stored.{StoredText}
use Rattle.regions.specs.Regions.{bodies_from}
use Rattle.blocks.specs.Blocks.{part_of, lay_over}
use Rattle.lower.specs.Owning.{turn_named, Belongs, has_scattered, IsOwned, IsExtent, IsLaidBy, BlocksMakeUpRegions}
use Rattle.lower.proofs.Blocking.{PartFits, IsSmall, CutFits, Turns, still, turned, part_fits}
use Rattle.lower.proofs.Directed.{behind, AreMade, IsLeaf, AreDirected, directives_direct}
use Rattle.lower.proofs.Grids.{Over, none, some, over_all, parallel_named, HasHead, head_of}
use Rattle.lower.proofs.Covering.{NumbersAre, AllBelong, all_small, all_inside, all_owned, all_hold, falling, falling_belongs, Ranges, named_all, all_two, falling_ranges, turns_at}
use Rattle.lower.proofs.Covering.{or_none, piece_fits, piece_turns, variable_same, names_of, single_filtered, one_piece, or_parts}

-- ---- numbers

abbrev numbers_or : List ℕ → Option Numbers → Numbers
numbers_or x o = elim o [ Some r ↦ r | None ↦ record { name = x; low = pos 0; count = 0 } ]

abbrev FoundAre : List Numbers → List (List ℕ) → List Extent → Type 0
FoundAre rs [] [] = Unit {0}
FoundAre rs [] (e ∷ es) = ⊥
FoundAre rs (x ∷ xs) [] = ⊥
FoundAre rs (x ∷ xs) (e ∷ es) = (numbers_found rs x ≡ Some (record { name = x; low = e.low; count = e.count })) × FoundAre rs xs es

found_on : (r : Numbers) (rs : List Numbers) (xs : List (List ℕ)) (es : List Extent) → AllByRecursion (λ y. same_name r.name y ≡ false) xs → FoundAre rs xs es → FoundAre (r ∷ rs) xs es
found_on r rs [] [] a h = tt
found_on r rs [] (e ∷ es) a h = h
found_on r rs (x ∷ xs) [] a h = h
found_on r rs (x ∷ xs) (e ∷ es) a h = (ap (λ (v : Bool). if v then Some r else numbers_found rs x) a.0 ∙ h.0, found_on r rs xs es a.1 h.1)

first_found : (xs : List (List ℕ)) (es : List Extent) → length es ≡ length xs → has_double xs ≡ false → FoundAre (whole_numbers xs es) xs es
first_found [] [] l d = tt
first_found [] (e ∷ es) l d = absurd (omega (arith, l))
first_found (x ∷ xs) [] l d = absurd (omega (arith, l))
first_found (x ∷ xs) (e ∷ es) l d =
    let k = or_parts (is_among xs x) (has_double xs) d in
    let r : Numbers = record { name = x; low = e.low; count = e.count } in (
      ap (λ (v : Bool). if v then Some r else numbers_found (whole_numbers xs es) x) (name_same x x refl),
      found_on r (whole_numbers xs es) xs es (differ_all x xs k.0) (first_found xs es (omega (arith, l)) k.1),
    )

found_cut : (cs : List Split) (rs : List Numbers) (x : List ℕ) (r : Numbers) → numbers_found rs x ≡ Some r → numbers_found (cut_numbers cs rs) x ≡ Some r
found_cut [] rs x r e = e
found_cut (c ∷ cs) rs x r e = found_cut cs (rs ++ halves c (numbers_named rs c.whole).count) x r (found_more rs (halves c (numbers_named rs c.whole).count) x r e)

named_last : (cs : List Split) (rs : List Numbers) (xs : List (List ℕ)) (es : List Extent) → FoundAre rs xs es → NumbersAre (cut_numbers cs rs) xs es
named_last cs rs [] [] h = tt
named_last cs rs [] (e ∷ es) h = h
named_last cs rs (x ∷ xs) [] h = h
named_last cs rs (x ∷ xs) (e ∷ es) h =
    (ap (numbers_or x) (found_cut cs rs x (record { name = x; low = e.low; count = e.count }) h.0), named_last cs rs xs es h.1)

-- ---- some point

abbrev pub lows : List Extent → List ℤ
lows [] = []
lows (e ∷ es) = e.low ∷ lows es

lows_inside : (es : List Extent) → AllByRecursion IsExtent es → IsInExtents es (lows es)
lows_inside [] a = tt
lows_inside (e ∷ es) a = (omega (arith, ints), let some = a.0.some in omega (arith, ints, some), lows_inside es a.1)

lows_long : (es : List Extent) → length es ≡ length (lows es)
lows_long [] = refl
lows_long (e ∷ es) = ap suc (lows_long es)

extents_long : (es : List Extent) (q : List ℤ) → IsInExtents es q → length es ≡ length q
extents_long [] [] h = refl
extents_long [] (z ∷ zs) h = absurd h
extents_long (e ∷ es) [] h = absurd h
extents_long (e ∷ es) (z ∷ zs) h = ap suc (extents_long es zs h.2)

-- ---- splits

factors : (names used : List (List ℕ)) (cs : List Split) → AreMade names used cs → AllByRecursion (λ c. c.factor ≤ 1024) cs
factors names used [] m = tt
factors names used (c ∷ cs) m = (m.4, factors (names ++ c.outer ∷ c.inner ∷ []) (used ++ c.outer ∷ c.inner ∷ []) cs m.5)

split_cuts : (rs : List Numbers) (w b : List ℕ → ℤ) (dim : List ℕ → ℕ) (used : List (List ℕ)) (c : Split) → SplitFits rs w b dim used c → c.factor ≤ 1024 → CutFits rs c
split_cuts rs w b dim used c h few =
    record { some = h.cut.some; few = few; outer = ap (numbers_or c.outer) h.outer_numbers; inner = ap (numbers_or c.inner) h.inner_numbers }

-- ---- the point's numbers

starts_range : (rs : List Numbers) (f : List ℕ → ℤ) (xs : List (List ℕ)) (es : List Extent) (q : List ℤ) → NumbersAre rs xs es → AllByRecursion (λ x. IsSmall (numbers_named rs x)) xs →
    IsInExtents es q → Gives f xs q → AllByRecursion (Ranges rs f) xs
starts_range rs f [] es q n s h g = tt
starts_range rs f (x ∷ xs) [] q n s h g = absurd n
starts_range rs f (x ∷ xs) (e ∷ es) [] n s h g = absurd h
starts_range rs f (x ∷ xs) (e ∷ es) (z ∷ zs) n s h g =
    let is = g.0 in
    let low = h.0 in
    let high = h.1 in (
      record {
        small = s.0;
        low = subst (λ (r : Numbers). r.low ≤ℤ f x) (sym n.0) (omega (arith, ints, is, low));
        last = subst (λ (r : Numbers). f x ≤ℤ (r.low +ℤ pos r.count -ℤ pos 1)) (sym n.0) (omega (arith, ints, is, high));
      },
      starts_range rs f xs es zs n.1 s.1 h.2 g.1,
    )

all_belong : (rs : List Numbers) (turn : List ℕ → Option ℕ) (cs : List Split) (f : List ℕ → ℤ) (used xs : List (List ℕ)) (q : List ℤ) →
    ((x : List ℕ) → is_among used x ≡ true → Belongs rs turn cs x (f x)) → AllByRecursion (λ x. is_among used x ≡ true) xs → Gives f xs q → length xs ≡ length q → AllBelong rs turn cs xs q
all_belong rs turn cs f used [] [] b a g l = tt
all_belong rs turn cs f used [] (z ∷ zs) b a g l = absurd (omega (arith, l))
all_belong rs turn cs f used (x ∷ xs) [] b a g l = absurd (omega (arith, l))
all_belong rs turn cs f used (x ∷ xs) (z ∷ zs) b a g l =
    (subst (Belongs rs turn cs x) g.0 (b x a.0), all_belong rs turn cs f used xs zs b a.1 g.1 (omega (arith, l)))

-- the one piece, where no loop is parallel
one_of_one : (a b : List ℕ) → IsInGrid (1 ∷ []) a → IsInGrid (1 ∷ []) b → a ≡ b
one_of_one [] b g h = absurd g
one_of_one (n ∷ a) [] g h = absurd h
one_of_one (n ∷ []) (m ∷ []) g h =
    let first = g.0 in
    let second = h.0 in
    let same : n ≡ m = omega (arith, first, second) in
    λ i. same i ∷ []
one_of_one (n ∷ []) (m ∷ o ∷ b) g h = absurd h.1
one_of_one (n ∷ o ∷ a) (m ∷ b) g h = absurd g.1

only_piece : (rs : List Numbers) (ls : List Loop) (a b : List ℕ) → IsInGrid (or_one (grid_counts rs ls)) a → IsInGrid (or_one (grid_counts rs ls)) b → has_double (names_of ls) ≡ false →
    AllByRecursion (λ l. (n m : ℕ) → turn_named ls a l.name ≡ Some n → turn_named ls b l.name ≡ Some m → n ≡ m) ls → a ≡ b
only_piece rs [] a b g h e s = one_of_one a b g h
only_piece rs (l ∷ ls) a b g h e s = one_piece rs (l ∷ ls) a b g h e s

-- ---- what is so of a group

module _ (g : StoredText) (region : List Extent) (k : SkeletonText) (h : IsLaidBy g region k) where
  abbrev pub xs : List (List ℕ)
  xs = g.subject.variables

  abbrev pub cs : List Split
  cs = g.placed.cuts

  abbrev pub rs : List Numbers
  rs = loop_numbers g.subject.variables g.placed.cuts region

  abbrev pub first : List (List ℕ)
  first = g.subject.variables ++ g.subject.reductions

  abbrev pub grid_loops : List Loop
  grid_loops = parallel_loops g.placed.loops

  pub arranged : IsArranged xs first region (bound xs (lows region)) g.placed.loops cs g.placed.used
  arranged =
      directives_keep g.subject first region (bound xs (lows region)) h.directives (start g.subject) g.placed h.placed
      (start_arranged xs g.subject.reductions region (lows region) (bound xs (lows region)) h.variables (lows_inside region h.extents)
      (gives_bound xs (lows region) h.variables (sym h.long ∙ lows_long region)))

  pub directed : AreDirected g.subject g.placed
  directed = directives_direct g.subject h.directives g.placed h.variables h.placed

  pub cuts : AllByRecursion (CutFits rs) cs
  cuts =
      let here = arranged in
      subst (λ (ns : List Numbers). AllByRecursion (CutFits ns) cs) here.numbers
      (all_two (SplitFits here.rs here.w here.b here.dim g.placed.used) (λ c. c.factor ≤ 1024) (CutFits here.rs) (λ c s few. split_cuts here.rs here.w here.b here.dim g.placed.used c s few) cs
      here.cuts (factors xs first cs directed.made))

  pub numbers : NumbersAre rs xs region
  numbers = named_last cs (whole_numbers xs region) xs region (first_found xs region h.long h.variables)

  pub small : AllByRecursion (λ x. IsSmall (numbers_named rs x)) xs
  small = all_small rs xs region numbers h.extents

  pub head : HasHead g.placed rs k
  head = head_of xs (bodies_from g.changes 0 g.subject.reductions h.formulas) g.placed region k h.laid

  pub leaves : AllByRecursion (IsLeaf xs cs) grid_loops
  leaves = filter-all (IsLeaf xs cs) is_parallel g.placed.loops directed.leaves

  pub single : has_double (names_of grid_loops) ≡ false
  single = single_filtered g.placed.loops directed.single

  module _ (piece : List ℕ) (grid : IsInGrid k.grid piece) where
    pub in_grid : IsInGrid (or_one (grid_counts rs grid_loops)) piece
    in_grid = subst (λ (ns : List ℕ). IsInGrid ns piece) head.grid grid

    abbrev pub turn : List ℕ → Option ℕ
    turn = turn_named grid_loops piece

    turns : (x : List ℕ) → Turns (lay_over g region k) (grid_value piece) (turn_named grid_loops piece) x
    turns x = of (over_all x rs piece grid_loops in_grid)
      where
        of : Over x (numbers_named rs x) piece (form_named (grid_forms rs 0 grid_loops) x) (turn_named grid_loops piece x) (has_loop grid_loops x) →
            Turns (lay_over g region k) (grid_value piece) (turn_named grid_loops piece) x
        of (none a b) = still (parallel_named g.placed.loops x ∙ a) b
        of (some f n a b c d e) = turned f n (parallel_named g.placed.loops x ∙ a) (head.known x f b) c d e

    pub fits : (x : List ℕ) → IsSmall (numbers_named rs x) → PartFits (grid_value piece) (numbers_named rs x) (Belongs rs (turn_named grid_loops piece) cs x) (part_of (lay_over g region k) x cs)
    fits x s = part_fits (lay_over g region k) (grid_value piece) (turn_named grid_loops piece) turns cs cuts x s

    pub belong : (q : List ℤ) → has_scattered g region k ≡ false → IsOwned g region k piece q → AllBelong rs (turn_named grid_loops piece) cs xs q
    belong q blocks owned = all_owned (lay_over g region k) (grid_value piece) (turn_named grid_loops piece) cs fits xs q small blocks owned

  module _ (q : List ℤ) (inside : IsInExtents region q) where
    abbrev f : List ℕ → ℤ
    f = bound xs q

    long : length xs ≡ length q
    long = sym h.long ∙ extents_long region q inside

    gives : Gives (bound xs q) xs q
    gives = gives_bound xs q h.variables long

    ranges : AllByRecursion (Ranges rs (falling rs cs f)) (behind xs cs)
    ranges = falling_ranges rs cs xs first f directed.made cuts arranged.used_variables (starts_range rs f xs region q numbers small inside gives)

    loop_ranges : AllByRecursion (λ l. Ranges rs (falling rs cs f) l.name) grid_loops
    loop_ranges = all_weaker (IsLeaf xs cs) (λ l. Ranges rs (falling rs cs f) l.name) (λ l leaf. named_all (Ranges rs (falling rs cs f)) (behind xs cs) l.name ranges leaf.there) grid_loops leaves

    abbrev owner : List ℕ
    owner = or_none (turns_at rs (falling rs cs f) grid_loops)

    owner_grid : IsInGrid k.grid owner
    owner_grid = subst (λ (ns : List ℕ). IsInGrid ns owner) (sym head.grid) (piece_fits rs (falling rs cs f) grid_loops loop_ranges)

    owner_owns : IsOwned g region k owner q
    owner_owns =
        let turns = piece_turns rs (falling rs cs f) grid_loops loop_ranges in
        all_hold (lay_over g region k) (grid_value owner) (turn_named grid_loops owner) cs (fits owner owner_grid) xs region q numbers small inside
        (all_belong rs (turn_named grid_loops owner) cs f first xs q
        (λ x there. falling_belongs rs (turn_named grid_loops owner) cs xs first f directed.made turns x there) arranged.used_variables gives long)

  owned_once : has_scattered g region k ≡ false → (q : List ℤ) (a b : List ℕ) → IsInGrid k.grid a → IsInGrid k.grid b → IsOwned g region k a q → IsOwned g region k b q → a ≡ b
  owned_once blocks q a b in_a in_b own_a own_b =
      only_piece rs grid_loops a b (in_grid a in_a) (in_grid b in_b) single
      (all_weaker (IsLeaf xs cs) (λ l. (n m : ℕ) → turn_named grid_loops a l.name ≡ Some n → turn_named grid_loops b l.name ≡ Some m → n ≡ m)
      (λ l leaf n m one two. variable_same rs (turn_named grid_loops a) (turn_named grid_loops b) cs xs q l.dimension leaf.variable l.name n m
      (belong a in_a q blocks own_a) (belong b in_b q blocks own_b)
      leaf.of leaf.end one two) grid_loops leaves)

pub make_up : BlocksMakeUpRegions
make_up g region k h = record {
  inside = (λ piece q grid owned.
      all_inside (lay_over g region k) (grid_value piece) (turn_named (parallel_loops g.placed.loops) piece) g.placed.cuts (fits g region k h piece grid) g.subject.variables region q
      (numbers g region k h) (small g region k h) owned);
  owner = (λ q inside. (owner g region k h q inside, owner_grid g region k h q inside, owner_owns g region k h q inside));
  once = owned_once g region k h;
}
