-- In which order the loops that splits make stand in a nest: the inner loop of a guarded split stands inside of its outer one.
use Rattle.std.proofs.Common.{◌≡◌, ℕ, zero, suc, ◌+◌, ◌<◌, ◌≤◌, Bool, true, false, ◌&&◌, ◌||◌, not, List, [], ◌∷◌, ◌++◌, length, map, Some, refl, sym, ap, ◌∙◌, subst, inl, inr, ◌⊎◌, arith}
use Rattle.std.specs.Prelude.{if◌then◌else◌, filter, reverse, drop, slice_get}
use Rattle.std.specs.List.{AllByRecursion, list_any}
use Rattle.std.proofs.lemmas.List.{reverse-append}
use Rattle.lin.proofs.TermLemmas.{all_weaker}
use Rattle.meaning.specs.Algorithm.{Range, Change, Algorithm}
use Rattle.meaning.specs.Names.{same_name}
use Rattle.soundness.specs.Claims.{In}
use Rattle.soundness.proofs.Refines.{name_refl, name_true}
use Rattle.headline.proofs.Lists.{parted}
use Rattle.headline.proofs.Regions.{at_in}
use Rattle.sched.specs.declared.schedule.Split.{Split}
use Rattle.sched.specs.declared.schedule.Tail.{Tail}
use Rattle.sched.specs.declared.schedule.Tail.TheVariants.{Guard, Roundup, Shift}
use Rattle.sched.specs.declared.placing.Loop.{Loop}
use Rattle.sched.specs.declared.numbers.Numbers.{Numbers}
use Rattle.sched.specs.declared.nest.Turning.{Turning}
use Rattle.sched.specs.declared.numbers.Extent.{Extent}
use Rattle.sched.specs.declared.error.Rule.TheVariants as rule
use Rattle.sched.specs.Schedule.{Schedule}
use Rattle.sched.specs.Legal.{IsLegal, said, loops_after}
use Rattle.sched.specs.Numbers.{numbers_named, loop_numbers, parallel_loops}
use Rattle.sched.specs.Placing.{is_parallel, is_vectorized, has_loop}
use Rattle.sched.specs.Standing.{has_rest}
use Rattle.sched.specs.Skeleton.{BodyText, SkeletonText, loop_turning, is_missing, is_same, is_in_nest, nest_loops, nest_turns}
use Rattle.sched.specs.Around.{ranges_of}
use Rattle.sched.specs.Stored.{FormulaText, StoredText}
use Rattle.blocks.specs.Stored.{flags}
use Rattle.lower.specs.Stored.{stored_functions}
use Rattle.regions.specs.Regions.{turnings, body_by, bodies_from}
use Rattle.lower.specs.Owning.{IsLaidBy}
use Rattle.lower.proofs.Owners as owners
use Rattle.completeness.specs.Blocked.{is_tailed, stands_inside, is_entered, makes_line}
use Rattle.completeness.proofs.PlainTurns.{one_if, hits, hits_once, hits_append, hits_reverse, hits_some, turn_name, found_some, found_there}
use Rattle.completeness.proofs.Laid.{subjects, found}
use Rattle.completeness.proofs.VectorLines.{all_scalar}
use Rattle.completeness.proofs.PureNests.{loop_name, hits_named, hits_turned}
use Rattle.completeness.proofs.GridTurns.{filter_joined, hits_back, two_parts}
use Rattle.completeness.proofs.BlockFacts.{names_in, made_new, among_end, serial_none}

-- what a nest's loops are asked: each loop of a split stands once, and the inner one inside of the outer one where the split is guarded
pub record IsOrdered (cuts : List Split) (rs : List Numbers) (ts : List Turning) : Type 0 where
  pub once : (c : Split) → In c cuts → (i j : ℕ) (t u : Turning) → slice_get ts i ≡ Some t → slice_get ts j ≡ Some u → t.name ≡ c.inner → u.name ≡ c.inner → i ≡ j
  pub outer_once : (c : Split) → In c cuts → (i j : ℕ) (t u : Turning) → slice_get ts i ≡ Some t → slice_get ts j ≡ Some u → t.name ≡ c.outer → u.name ≡ c.outer → i ≡ j
  pub order : (c : Split) → In c cuts → is_tailed rs c ≡ true → (i o : ℕ) (t v : Turning) → slice_get ts i ≡ Some t → t.name ≡ c.inner → slice_get ts o ≡ Some v → v.name ≡ c.outer → o < i

short_place : {A : Type 0} (xs : List A) (i : ℕ) (x : A) → slice_get xs i ≡ Some x → i < length xs
short_place [] i x e = absurd (cc e)
short_place (y ∷ xs) zero x e = omega arith
short_place (y ∷ xs) (suc i) x e = (let rest = short_place xs i x e in omega (arith, rest))

hits_have : (ls : List Loop) (y : List ℕ) → has_loop ls y ≡ true → 1 ≤ hits loop_name y ls
hits_have [] y e = absurd (cc e)
hits_have (l ∷ ls) y e = of (same_name l.name y) e (λ k. hits_have ls y k)
  where
    of : (b : Bool) → (b || has_loop ls y) ≡ true → (has_loop ls y ≡ true → 1 ≤ hits loop_name y ls) → 1 ≤ one_if b + hits loop_name y ls
    of true k rest = omega arith
    of false k rest = (let more = rest k in omega (arith, more))

-- a loop inside of which another stands is there
outside_there : (ls : List Loop) (x y : List ℕ) → stands_inside ls x y ≡ true → 1 ≤ hits loop_name y ls
outside_there [] x y e = absurd (cc e)
outside_there (l ∷ ls) x y e = of (same_name l.name x) e (λ k. outside_there ls x y k)
  where
    of : (b : Bool) → (if b then has_loop ls y else stands_inside ls x y) ≡ true → (stands_inside ls x y ≡ true → 1 ≤ hits loop_name y ls) → 1 ≤ one_if (same_name l.name y) + hits loop_name y ls
    of true k rest = (let more = hits_have ls y k in omega (arith, more))
    of false k rest = (let more = rest k in omega (arith, more))

-- and is not the innermost
outside_later : (l : Loop) (ls : List Loop) (x y : List ℕ) → stands_inside (l ∷ ls) x y ≡ true → 1 ≤ hits loop_name y ls
outside_later l ls x y e = of (same_name l.name x) e
  where
    of : (b : Bool) → (if b then has_loop ls y else stands_inside ls x y) ≡ true → 1 ≤ hits loop_name y ls
    of true k = hits_have ls y k
    of false k = outside_there ls x y k

module _ (rs : List Numbers) (f : Loop → Bool) where
  -- the loops of a nest, the outermost first
  abbrev back : List Loop → List Turning
  back ls = map (loop_turning rs) (filter f (reverse ls))

  abbrev last_of : Loop → List Turning
  last_of l = map (loop_turning rs) (filter f (l ∷ []))

  map_joined : (xs ys : List Loop) → map (loop_turning rs) (xs ++ ys) ≡ map (loop_turning rs) xs ++ map (loop_turning rs) ys
  map_joined [] ys = refl
  map_joined (x ∷ xs) ys = ap (λ (ts : List Turning). loop_turning rs x ∷ ts) (map_joined xs ys)

  back_more : (l : Loop) (ls : List Loop) → back (l ∷ ls) ≡ back ls ++ last_of l
  back_more l ls =
      ap (λ (ms : List Loop). map (loop_turning rs) (filter f ms)) (reverse-append (l ∷ []) ls) ∙ ap (map (loop_turning rs)) (filter_joined f (reverse ls) (l ∷ []))
      ∙ map_joined (filter f (reverse ls)) (filter f (l ∷ []))

  last_name : (l : Loop) (i : ℕ) (t : Turning) → slice_get (last_of l) i ≡ Some t → t.name ≡ l.name
  last_name l i t e = of (f l) i e
    where
      of : (b : Bool) (i : ℕ) → slice_get (map (loop_turning rs) (if b then l ∷ [] else [])) i ≡ Some t → t.name ≡ l.name
      of true zero k = (let is : loop_turning rs l ≡ t = cc k in ap (λ (u : Turning). u.name) (sym is))
      of true (suc i) k = absurd (cc k)
      of false i k = absurd (cc k)

  hits_same : (y : List ℕ) (ls : List Loop) → hits turn_name y (back ls) ≡ hits loop_name y (filter f ls)
  hits_same y ls = hits_turned rs y (filter f (reverse ls)) ∙ hits_back f y ls

  fewer : (y : List ℕ) (ls : List Loop) → hits loop_name y (filter f ls) ≤ hits loop_name y ls
  fewer y [] = omega arith
  fewer y (l ∷ ls) = of (f l) (fewer y ls)
    where
      of : (b : Bool) → hits loop_name y (filter f ls) ≤ hits loop_name y ls → hits loop_name y (if b then l ∷ filter f ls else filter f ls) ≤ one_if (same_name l.name y) + hits loop_name y ls
      of true rest = omega (arith, rest)
      of false rest = omega (arith, rest)

  back_there : (ls : List Loop) (i : ℕ) (t : Turning) → slice_get (back ls) i ≡ Some t → 1 ≤ hits loop_name t.name ls
  back_there ls i t e =
      let some = hits_some turn_name t (back ls) (at_in (back ls) i t e) in
      let same = hits_same t.name ls in
      let few = fewer t.name ls in
      omega (arith, some, same, few)

  named : (x y : List ℕ) → x ≡ y → one_if (same_name x y) ≡ 1
  named x y e = ap (λ (z : List ℕ). one_if (same_name x z)) (sym e) ∙ ap one_if (name_refl x)

  -- a loop that stands outside of another comes before it
  pub before_in : (ls : List Loop) (x y : List ℕ) → hits loop_name x ls ≤ 1 → hits loop_name y ls ≤ 1 → stands_inside ls x y ≡ true → (i o : ℕ) (t v : Turning) →
      slice_get (back ls) i ≡ Some t → t.name ≡ x → slice_get (back ls) o ≡ Some v → v.name ≡ y → o < i
  before_in [] x y one two inside i o t v at p there q = absurd (cc inside)
  before_in (l ∷ ls) x y one two inside i o t v at p there q =
      by (same_name l.name x) refl inside (parted (back ls) (last_of l) i t (ap (λ (ts : List Turning). slice_get ts i) (sym (back_more l ls)) ∙ at))
      (parted (back ls) (last_of l) o v (ap (λ (ts : List Turning). slice_get ts o) (sym (back_more l ls)) ∙ there))
      (λ k at_i at_o. before_in ls x y (omega (arith, one)) (omega (arith, two)) k i o t v at_i p at_o q)
    where
      Spot : ℕ → Turning → Type 0
      Spot m u = (slice_get (back ls) m ≡ Some u) ⊎ ((j : ℕ) × (m ≡ length (back ls) + j) × (slice_get (last_of l) j ≡ Some u))

      by : (b : Bool) → same_name l.name x ≡ b → (if b then has_loop ls y else stands_inside ls x y) ≡ true → Spot i t → Spot o v →
          (stands_inside ls x y ≡ true → slice_get (back ls) i ≡ Some t → slice_get (back ls) o ≡ Some v → o < i) → o < i
      by b e k s (inr (m, is, m_at)) rest =
          let here = named l.name y (sym (last_name l m v m_at) ∙ q) in
          let more = outside_later l ls x y inside in
          absurd (omega (arith, two, here, more))
      by true e k (inl s) (inl r) rest =
          let more = subst (λ (z : List ℕ). 1 ≤ hits loop_name z ls) p (back_there ls i t s) in
          let here = ap one_if e in
          absurd (omega (arith, one, here, more))
      by true e k (inr (j, is, at_j)) (inl r) rest = (let less = short_place (back ls) o v r in omega (arith, less, is))
      by false e k (inl s) (inl r) rest = rest k s r
      by false e k (inr (j, is, at_j)) (inl r) rest =
          let here : l.name ≡ x = sym (last_name l j t at_j) ∙ p in
          let clash : true ≡ false = sym (ap (same_name l.name) (sym here) ∙ name_refl l.name) ∙ e in
          absurd (cc clash)

-- ---- a nest

module _ (rs : List Numbers) (ls : List Loop) (b : BodyText) (single : (y : List ℕ) → hits loop_name y ls ≤ 1) (innermost : AllByRecursion (λ l. is_vectorized l ≡ false) (drop 1 ls)) where
  abbrev first : List Turning
  first = nest_loops b false rs ls

  abbrev between : List Turning
  between = reverse b.ranges

  abbrev last : List Turning
  last = nest_loops b true rs ls

  apart : (l : Loop) → is_in_nest b false l ≡ true → is_in_nest b true l ≡ false
  apart l e = differ (not (is_parallel l) && not (is_missing b l.dimension)) (is_vectorized l) e
    where
      differ : (a v : Bool) → (a && is_same v false) ≡ true → (a && is_same v true) ≡ false
      differ true true e = absurd (cc e)
      differ true false e = refl
      differ false v e = refl

  nest_hits : (y : List ℕ) → hits turn_name y b.ranges ≡ 0 → hits turn_name y (nest_turns b rs ls) ≤ 1
  nest_hits y none =
      let one = hits_append turn_name y (first ++ between) last in
      let two = hits_append turn_name y first between in
      let three = hits_reverse turn_name y b.ranges in
      let four = hits_same rs (is_in_nest b false) y ls in
      let five = hits_same rs (is_in_nest b true) y ls in
      let six = two_parts (is_in_nest b false) (is_in_nest b true) apart y ls in
      let seven = single y in
      omega (arith, one, two, three, four, five, six, seven, none)

  pub stands_once : (y : List ℕ) → hits turn_name y b.ranges ≡ 0 → (i j : ℕ) (t u : Turning) → slice_get (nest_turns b rs ls) i ≡ Some t → slice_get (nest_turns b rs ls) j ≡ Some u →
      t.name ≡ y → u.name ≡ y → i ≡ j
  stands_once y none i j t u at there p q =
      let ts = nest_turns b rs ls in
      let some = subst (λ (z : List ℕ). 1 ≤ hits turn_name z ts) p (hits_some turn_name t ts (at_in ts i t at)) in
      let r = found_some ts y some in
      let few = nest_hits y none in
      let one = found_there ts y r.0 i t few r.1 at (ap (λ (z : List ℕ). same_name z y) p ∙ name_refl y) in
      let two = found_there ts y r.0 j u few r.1 there (ap (λ (z : List ℕ). same_name z y) q ∙ name_refl y) in
      sym one ∙ two

  -- each loop of the nest is one that is not parallel, vectorised or not
  in_filtered : (f : Loop → Bool) (ms : List Loop) (i : ℕ) (t : Turning) → slice_get (map (loop_turning rs) (filter f (reverse ms))) i ≡ Some t →
      (l : Loop) × In l ms × (f l ≡ true) × (l.name ≡ t.name)
  in_filtered f [] i t e = absurd (cc e)
  in_filtered f (m ∷ ms) i t e =
      of (parted (map (loop_turning rs) (filter f (reverse ms))) (map (loop_turning rs) (filter f (m ∷ []))) i t (ap (λ (ts : List Turning). slice_get ts i) (sym (back_more rs f m ms)) ∙ e))
      (λ k. in_filtered f ms i t k)
    where
      here : (v : Bool) → f m ≡ v → (j : ℕ) → slice_get (map (loop_turning rs) (if v then m ∷ [] else [])) j ≡ Some t → (f m ≡ true) × (m.name ≡ t.name)
      here true q zero k = (let is : loop_turning rs m ≡ t = cc k in (q, ap (λ (u : Turning). u.name) is))
      here true q (suc j) k = absurd (cc k)
      here false q j k = absurd (cc k)

      of : (slice_get (map (loop_turning rs) (filter f (reverse ms))) i ≡ Some t)
          ⊎ ((j : ℕ) × (i ≡ length (map (loop_turning rs) (filter f (reverse ms))) + j) × (slice_get (map (loop_turning rs) (filter f (m ∷ []))) j ≡ Some t)) →
          (slice_get (map (loop_turning rs) (filter f (reverse ms))) i ≡ Some t → (l : Loop) × In l ms × (f l ≡ true) × (l.name ≡ t.name)) →
          (l : Loop) × In l (m ∷ ms) × (f l ≡ true) × (l.name ≡ t.name)
      of (inl k) rest = (let r = rest k in (r.0, inr r.1, r.2, r.3))
      of (inr (j, is, k)) rest = (let r = here (f m) refl j k in (m, inl refl, r.0, r.1))

  both_true : (p q : Bool) → (p && q) ≡ true → (p ≡ true) × (q ≡ true)
  both_true true q e = (refl, e)
  both_true false q e = absurd (cc e)

  marked : (v w : Bool) → is_same v w ≡ true → v ≡ w
  marked true w e = sym e
  marked false true e = absurd (cc e)
  marked false false e = refl

  serial_so : (v : Bool) → not v ≡ true → v ≡ false
  serial_so true e = absurd (cc e)
  serial_so false e = refl

  -- a vectorised loop is the innermost one, so none stands inside of it
  no_lanes : (l : Loop) → In l ls → is_vectorized l ≡ true → (x : List ℕ) → stands_inside ls x l.name ≡ true → ⊥
  no_lanes l m lanes x inside = of ls m innermost inside (single l.name)
    where
      of : (ms : List Loop) → In l ms → AllByRecursion (λ l. is_vectorized l ≡ false) (drop 1 ms) → stands_inside ms x l.name ≡ true → hits loop_name l.name ms ≤ 1 → ⊥
      of [] k h e few = k
      of (n ∷ ms) (inl same) h e few =
          let more = outside_later n ms x l.name e in
          let here = ap (λ (o : Loop). one_if (same_name o.name l.name)) (sym same) ∙ ap one_if (name_refl l.name) in
          omega (arith, few, more, here)
      of (n ∷ ms) (inr k) h e few = (let clash : true ≡ false = sym lanes ∙ scalar ms k h in cc clash)
        where
          scalar : (ms : List Loop) → In l ms → AllByRecursion (λ l. is_vectorized l ≡ false) ms → is_vectorized l ≡ false
          scalar [] k h = absurd k
          scalar (n ∷ ms) (inl same) h = ap is_vectorized same ∙ h.0
          scalar (n ∷ ms) (inr k) h = scalar ms k h.1

  no_range : (y : List ℕ) → hits turn_name y b.ranges ≡ 0 → (i : ℕ) (t : Turning) → slice_get between i ≡ Some t → t.name ≡ y → ⊥
  no_range y none i t e p =
      let some = subst (λ (z : List ℕ). 1 ≤ hits turn_name z between) p (hits_some turn_name t between (at_in between i t e)) in
      let same = hits_reverse turn_name y b.ranges in
      omega (arith, some, same, none)

  pub inner_behind : (x y : List ℕ) → hits turn_name x b.ranges ≡ 0 → hits turn_name y b.ranges ≡ 0 → stands_inside ls x y ≡ true → (i o : ℕ) (t v : Turning) →
      slice_get (nest_turns b rs ls) i ≡ Some t → t.name ≡ x → slice_get (nest_turns b rs ls) o ≡ Some v → v.name ≡ y → o < i
  inner_behind x y none_x none_y inside i o t v at p there q = outer_in (parted (first ++ between) last o v there)
    where
      inner_in : slice_get first o ≡ Some v → o < i
      inner_in at_o = of (parted (first ++ between) last i t at)
        where
          of : (slice_get (first ++ between) i ≡ Some t) ⊎ ((j : ℕ) × (i ≡ length (first ++ between) + j) × (slice_get last j ≡ Some t)) → o < i
          of (inr (j, is, k)) =
              let less = short_place first o v at_o in
              let long = long_join first between in
              omega (arith, less, is, long)
            where
              long_join : (xs ys : List Turning) → length xs ≤ length (xs ++ ys)
              long_join [] ys = omega arith
              long_join (x ∷ xs) ys = (let rest = long_join xs ys in omega (arith, rest))
          of (inl k) = by (parted first between i t k)
            where
              by : (slice_get first i ≡ Some t) ⊎ ((j : ℕ) × (i ≡ length first + j) × (slice_get between j ≡ Some t)) → o < i
              by (inl s) = before_in rs (is_in_nest b false) ls x y (single x) (single y) inside i o t v s p at_o q
              by (inr (j, is, s)) = absurd (no_range x none_x j t s p)

      outer_in : (slice_get (first ++ between) o ≡ Some v) ⊎ ((j : ℕ) × (o ≡ length (first ++ between) + j) × (slice_get last j ≡ Some v)) → o < i
      outer_in (inr (j, is, k)) =
          let r = in_filtered (is_in_nest b true) ls j v k in
          let lanes = marked (is_vectorized r.0) true (both_true (not (is_parallel r.0) && not (is_missing b r.0.dimension)) (is_same (is_vectorized r.0) true) r.2).1 in
          absurd (no_lanes r.0 r.1 lanes x (ap (stands_inside ls x) (r.3 ∙ q) ∙ inside))
      outer_in (inl k) = by (parted first between o v k)
        where
          by : (slice_get first o ≡ Some v) ⊎ ((j : ℕ) × (o ≡ length first + j) × (slice_get between j ≡ Some v)) → o < i
          by (inl s) = inner_in s
          by (inr (j, is, s)) = absurd (no_range y none_y j v s q)

  -- no loop of the nest is parallel
  nest_serial : (y : List ℕ) → hits turn_name y b.ranges ≡ 0 → list_any (λ l. is_parallel l && same_name l.name y) ls ≡ true → (o : ℕ) (v : Turning) →
      slice_get (nest_turns b rs ls) o ≡ Some v → v.name ≡ y → ⊥
  nest_serial y none over o v at q = of (parted (first ++ between) last o v at)
    where
      some_parallel : (ms : List Loop) → list_any (λ l. is_parallel l && same_name l.name y) ms ≡ true → 1 ≤ hits loop_name y (parallel_loops ms)
      some_parallel [] e = absurd (cc e)
      some_parallel (m ∷ ms) e = by (is_parallel m) (same_name m.name y) refl e (λ k. some_parallel ms k)
        where
          by : (p r : Bool) → same_name m.name y ≡ r → ((p && r) || list_any (λ l. is_parallel l && same_name l.name y) ms) ≡ true →
              (list_any (λ l. is_parallel l && same_name l.name y) ms ≡ true → 1 ≤ hits loop_name y (parallel_loops ms)) → 1 ≤ hits loop_name y (if p then m ∷ parallel_loops ms else parallel_loops ms)
          by true true s k rest = (let here = ap one_if s in omega (arith, here))
          by true false s k rest = (let more = rest k in omega (arith, more))
          by false r s k rest = rest k

      never : (v' : Bool) (j : ℕ) → slice_get (map (loop_turning rs) (filter (is_in_nest b v') (reverse ls))) j ≡ Some v → ⊥
      never v' j k =
          let r = in_filtered (is_in_nest b v') ls j v k in
          let serial = serial_so (is_parallel r.0) (both_true (not (is_parallel r.0)) (not (is_missing b r.0.dimension))
          (both_true (not (is_parallel r.0) && not (is_missing b r.0.dimension)) (is_same (is_vectorized r.0) v') r.2).0).0 in
          let zero = subst (λ (z : List ℕ). hits loop_name z (parallel_loops ls) ≡ 0) (r.3 ∙ q) (serial_none r.0 ls r.1 serial (single r.0.name)) in
          let some = some_parallel ls over in
          omega (arith, zero, some)

      of : (slice_get (first ++ between) o ≡ Some v) ⊎ ((j : ℕ) × (o ≡ length (first ++ between) + j) × (slice_get last j ≡ Some v)) → ⊥
      of (inr (j, is, k)) = never true j k
      of (inl k) = by (parted first between o v k)
        where
          by : (slice_get first o ≡ Some v) ⊎ ((j : ℕ) × (o ≡ length first + j) × (slice_get between j ≡ Some v)) → ⊥
          by (inl s) = never false o s
          by (inr (j, is, s)) = no_range y none j v s q

  -- so each nest is in order, where reduction variables have names of their own, and no split makes a line
  pub nest_ordered : (cuts : List Split) → ((c : Split) → In c cuts → makes_line ls rs c ≡ false) → ((c : Split) → In c cuts →
      (hits turn_name c.outer b.ranges ≡ 0) × (hits turn_name c.inner b.ranges ≡ 0)) →
      IsOrdered cuts rs (nest_turns b rs ls)
  nest_ordered cuts free apart_names = record {
    once = λ c m i j t u at there p q. stands_once c.inner (apart_names c m).1 i j t u at there p q;
    outer_once = λ c m i j t u at there p q. stands_once c.outer (apart_names c m).0 i j t u at there p q;
    order = λ c m tailed i o t v at p there q. of c (apart_names c m) i o t v at p there q (entered c (free c m) tailed);
  }
    where
      entered : (c : Split) → makes_line ls rs c ≡ false → is_tailed rs c ≡ true → is_entered ls c ≡ true
      entered c e k = by c.tail e k
        where
          rest : (p q : Bool) → (p && not q) ≡ false → p ≡ true → q ≡ true
          rest true true e k = refl
          rest true false e k = absurd (cc e)
          rest false q e k = absurd (cc k)

          by : (tail : Tail) → (elim tail [ Guard ↦ has_rest c (numbers_named rs c.whole).count && not (is_entered ls c) | Roundup ↦ false | Shift ↦ true ]) ≡ false →
              (elim tail [ Guard ↦ has_rest c (numbers_named rs c.whole).count | Roundup ↦ false | Shift ↦ true ]) ≡ true → is_entered ls c ≡ true
          by Guard e k = rest (has_rest c (numbers_named rs c.whole).count) (is_entered ls c) e k
          by Roundup e k = absurd (cc k)
          by Shift e k = absurd (cc e)

      of : (c : Split) → (hits turn_name c.outer b.ranges ≡ 0) × (hits turn_name c.inner b.ranges ≡ 0) → (i o : ℕ) (t v : Turning) → slice_get (nest_turns b rs ls) i ≡ Some t → t.name ≡ c.inner →
          slice_get (nest_turns b rs ls) o ≡ Some v → v.name ≡ c.outer → is_entered ls c ≡ true → o < i
      of c none i o t v at p there q e = by (list_any (λ l. is_parallel l && same_name l.name c.outer) ls) refl e
        where
          by : (w : Bool) → list_any (λ l. is_parallel l && same_name l.name c.outer) ls ≡ w → (w || stands_inside ls c.inner c.outer) ≡ true → o < i
          by true k r = absurd (nest_serial c.outer none.0 k o v there q)
          by false k r = inner_behind c.inner c.outer none.1 none.0 r i o t v at p there q

-- ---- functions of a plan

turnings_named : (rs : List Range) (xs : List (List ℕ)) → AllByRecursion (λ t. In t.name xs) (turnings rs xs)
turnings_named [] xs = tt
turnings_named (r ∷ rs) [] = tt
turnings_named (r ∷ rs) (x ∷ xs) = (inl refl, all_weaker (λ t. In t.name xs) (λ t. In t.name (x ∷ xs)) (λ t m. inr m) (turnings rs xs) (turnings_named rs xs))

in_drop : (m : ℕ) (xs : List (List ℕ)) (y : List ℕ) → In y (drop m xs) → In y xs
in_drop zero xs y k = k
in_drop (suc m) [] y k = k
in_drop (suc m) (x ∷ xs) y k = inr (in_drop m xs y k)

-- reduction variables have names of these
ranges_named : (us : List Change) (d : ℕ) (xs : List (List ℕ)) (fs : List FormulaText) (j : ℕ) (b : BodyText) → slice_get (bodies_from us d xs fs) j ≡ Some b →
    AllByRecursion (λ t. In t.name xs) b.ranges
ranges_named us d xs [] j b e = absurd (cc e)
ranges_named us d xs (f ∷ fs) zero b e =
    let is : body_by (ranges_of us d) xs f ≡ b = cc e in
    subst (λ (c : BodyText). AllByRecursion (λ t. In t.name xs) c.ranges) is (turnings_named (ranges_of us d) xs)
ranges_named us d xs (f ∷ fs) (suc j) b e =
    let later : List (List ℕ) = drop (length (ranges_of us d)) xs in
    all_weaker (λ t. In t.name later) (λ t. In t.name xs) (λ t m. in_drop (length (ranges_of us d)) xs t.name m) b.ranges (ranges_named us (d + 1) later fs j b e)

none_hit : (y : List ℕ) (ts : List Turning) → AllByRecursion (λ t. t.name ≡ y → ⊥) ts → hits turn_name y ts ≡ 0
none_hit y [] h = refl
none_hit y (t ∷ ts) h = of (same_name t.name y) refl (none_hit y ts h.1)
  where
    of : (b : Bool) → same_name t.name y ≡ b → hits turn_name y ts ≡ 0 → one_if b + hits turn_name y ts ≡ 0
    of true e rest = absurd (h.0 (name_true t.name y e))
    of false e rest = omega (arith, rest)

-- each nest is in order
pub bodies_ordered : (a : Algorithm) (sch : Schedule) → IsLegal a sch → (n : ℕ) (g : StoredText) → slice_get (stored_functions a sch) n ≡ Some g → (es : List Extent) (k : SkeletonText) →
    IsLaidBy g es k → ((c : Split) → In c g.placed.cuts → makes_line g.placed.loops (loop_numbers g.subject.variables g.placed.cuts es) c ≡ false) → (fs : List FormulaText) (d : ℕ) (b : BodyText) →
    slice_get (bodies_from g.changes 0 g.subject.reductions fs) d ≡ Some b →
    IsOrdered g.placed.cuts (loop_numbers g.subject.variables g.placed.cuts es) (nest_turns b (loop_numbers g.subject.variables g.placed.cuts es) g.placed.loops)
bodies_ordered a sch legal n g at es k laid free fs d b e =
    nest_ordered (loop_numbers g.subject.variables g.placed.cuts es) g.placed.loops b single innermost g.placed.cuts free apart_names
  where
    single : (y : List ℕ) → hits loop_name y g.placed.loops ≤ 1
    single y =
        let one = hits_named y g.placed.loops in
        let two = hits_once (map loop_name g.placed.loops) y (owners.directed g es k laid).single in
        omega (arith, one, two)

    innermost : AllByRecursion (λ l. is_vectorized l ≡ false) (drop 1 g.placed.loops)
    innermost =
        let w = found a sch (flags (subjects a sch)) g a.functions n at in
        subst (λ (u : StoredText). AllByRecursion (λ l. is_vectorized l ≡ false) (drop 1 u.placed.loops)) (sym w.is)
        (all_scalar (drop 1 (loops_after (said sch) w.function).loops) (legal.whole w.place w.function rule.BadMark w.at))

    apart_names : (c : Split) → In c g.placed.cuts → (hits turn_name c.outer b.ranges ≡ 0) × (hits turn_name c.inner b.ranges ≡ 0)
    apart_names c m = (
      none_hit c.outer b.ranges (all_weaker (λ t. In t.name g.subject.reductions) (λ t. t.name ≡ c.outer → ⊥) (λ t q. (never t.name q).0) b.ranges named_so),
      none_hit c.inner b.ranges (all_weaker (λ t. In t.name g.subject.reductions) (λ t. t.name ≡ c.inner → ⊥) (λ t q. (never t.name q).1) b.ranges named_so),
    )
      where
        named_so : AllByRecursion (λ t. In t.name g.subject.reductions) b.ranges
        named_so = ranges_named g.changes 0 g.subject.reductions fs d b e

        never : (y : List ℕ) → In y g.subject.reductions → (y ≡ c.outer → ⊥) × (y ≡ c.inner → ⊥)
        never y q =
            made_new g.placed.cuts g.subject.variables (g.subject.variables ++ g.subject.reductions) (owners.directed g es k laid).made y
            (among_end g.subject.variables g.subject.reductions y (names_in g.subject.reductions y q)) c m
