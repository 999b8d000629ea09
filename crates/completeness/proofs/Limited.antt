-- The forms of the loops, lets and guards of a skeleton, and of its coordinates, are within the limits of forms.
use Rattle.std.proofs.Common.{◌≡◌, ℕ, zero, suc, ◌+◌, ◌-◌, ◌^◌, ◌<◌, ◌≤◌, Bool, true, false, ◌||◌, List, [], ◌∷◌, ◌++◌, length, map, Option, Some, None, refl, sym, subst, arith}
use Rattle.std.specs.Prelude.{ℤ, pos, negsuc, ◌≤ℤ◌, ◌==◌, ◌/◌, nat_le, drop, filter, reverse, find, if◌then◌else◌}
use Rattle.std.specs.List.{AllByRecursion}
use Rattle.std.specs.Int.RustNames.{unsigned_abs}
use Rattle.std.proofs.Math.Nat.{div-le_self}
use Rattle.std.proofs.lemmas.Int.{ints}
use Rattle.std.proofs.lemmas.Bool.Decides.{nat_tests}
use Rattle.lin.specs.Forms.{Form, number, combined, without, is_within_limits}
use Rattle.lin.proofs.Limits.{combined-means}
use Rattle.bounds.proofs.ListSound.{all-append}
use Rattle.meaning.specs.Algorithm.{Range, Change}
use Rattle.meaning.specs.Conditions.{IsRange}
use Rattle.meaning.specs.Names.{same_name}
use Rattle.sched.specs.declared.schedule.Split.{Split}
use Rattle.sched.specs.declared.placing.Loop.{Loop}
use Rattle.sched.specs.declared.numbers.Extent.{Extent}
use Rattle.sched.specs.declared.numbers.Numbers.{Numbers}
use Rattle.sched.specs.declared.skeleton.Known.{Known}
use Rattle.sched.specs.declared.skeleton.Step.{Step}
use Rattle.sched.specs.declared.skeleton.Step.TheVariants.{Turns, Named, Tested}
use Rattle.sched.specs.declared.nest.Turning.{Turning}
use Rattle.plan.specs.declared.stmt.Kind.TheVariants.{Serial}
use Rattle.sched.specs.Numbers.{blocks, numbers_named, last_number, whole_numbers, halves, cut_numbers, loop_numbers, parallel_loops, piece_counts}
use Rattle.sched.specs.Placing.{PlacedText}
use Rattle.sched.specs.Standing.{◌>>=◌, StandingText, form_named, counted_from, alone, room, is_guarded, settle_some, cuts_by_variable}
use Rattle.sched.specs.Skeleton.{BodyText, NestText, SkeletonText, span, loop_turning, enter, leave, inside, turn, turn_all, is_in_nest, kept_from, nest_loops, nest_turns}
use Rattle.sched.specs.Skeleton.{is_missing, variables_at, ranges_at, begun, nest_in, nest_of, nests_in, grid_forms, over_grid, skeleton_in}
use Rattle.sched.proofs.Rooting.{all_both, all_reverse, all_by_variable}
use Rattle.sched.proofs.Standings.{all_more, found_all, Begins, stood, waits, plainly, shifted, Puts, freely, by_loop, by_guard, by_test, Joins, stays, puts}
use Rattle.sched.proofs.Closing.{next_of}
use Rattle.lower.specs.Owning.{IsExtent}
use Rattle.regions.specs.Regions.{turnings, bodies_from}
use Rattle.sched.specs.Around.{ranges_of}
use Rattle.sched.specs.Stored.{FormulaText}
use Rattle.blocks.proofs.Laying.{bound, same}
use Rattle.completeness.proofs.Standing.{Within, at_grid}

-- ---- forms

abbrev pub Limited : Form → Type 0
Limited f = is_within_limits f ≡ true

abbrev pub AreLimited : List Form → Type 0
AreLimited fs = AllByRecursion Limited fs

abbrev pub LimitedIf : Option Form → Type 0
LimitedIf None = Unit {0}
LimitedIf (Some f) = Limited f

-- numbers of 36 bits
abbrev pub IsSmall : ℤ → Type 0
IsSmall z = (negsuc 68719476735 ≤ℤ z) × (z ≤ℤ pos 68719476736)

small_abs : (z : ℤ) → IsSmall z → unsigned_abs z ≤ 1099511627776
small_abs (pos n) h = (let most = h.1 in omega (arith, ints, most))
small_abs (negsuc n) h = (let least = h.0 in omega (arith, ints, least))

constant_within : (z : ℤ) → IsSmall z → nat_le (unsigned_abs z) (2 ^ 40) ≡ true
constant_within z h = (let most = small_abs z h in of (unsigned_abs z) most)
  where
    of : (n : ℕ) → n ≤ 1099511627776 → nat_le n 1099511627776 ≡ true
    of n le = grind (arith, nat_tests)

pub number_limited : (z : ℤ) → IsSmall z → Limited (number z)
number_limited z h = constant_within z h

counted_limited : (z : ℤ) (s : ℕ) → IsSmall z → Limited (counted_from z s)
counted_limited z s h = constant_within z h

pub alone_limited : (s : ℕ) → Limited (alone s)
alone_limited s = refl

pub combined_limited : (a : Form) (k : ℤ) (b f : Form) → combined a k b ≡ Some f → Limited f
combined_limited a k b f e = (combined-means a k b f e).within

-- ---- numbers of loops

pub record IsSized (r : Numbers) : Type 0 where
  pub from : negsuc 2147483647 ≤ℤ r.low
  pub to : r.low ≤ℤ pos 2147483647
  pub few : r.count < 4294967296

low_small : (r : Numbers) → IsSized r → IsSmall r.low
low_small r h = (let a = h.from in let b = h.to in (omega (arith, ints, a), omega (arith, ints, b)))

last_small : (r : Numbers) → IsSized r → IsSmall (last_number r)
last_small r h = (let a = h.from in let b = h.to in let c = h.few in (omega (arith, ints, a, c), omega (arith, ints, b, c)))

room_small : (r : Numbers) (n : ℕ) → n ≤ 1024 → IsSized r → IsSmall (room r n)
room_small r n le h = (let a = h.from in let b = h.to in let c = h.few in (omega (arith, ints, a, c, le), omega (arith, ints, b, c, le)))

pub named_sized : (rs : List Numbers) → AllByRecursion IsSized rs → (x : List ℕ) → IsSized (numbers_named rs x)
named_sized [] h x = record { from = omega (arith, ints); to = omega (arith, ints); few = omega arith }
named_sized (r ∷ rs) h x = of (same_name r.name x) (named_sized rs h.1 x)
  where
    of : (b : Bool) → IsSized (numbers_named rs x) →
        IsSized (elim (if b then Some r else find (λ r. same_name r.name x) rs) [ Some r ↦ r | None ↦ record { name = x; low = pos 0; count = 0 } ])
    of true k = h.0
    of false k = k

blocks_few : (count n : ℕ) → blocks count n ≤ count
blocks_few zero n = omega arith
blocks_few (suc m) n = of (n == 0)
  where
    least : (suc m - 1) / n + 1 ≤ suc m
    least = (let most = div-le_self (suc m - 1) n in omega (arith, most))

    of : (b : Bool) → (if (suc m == 0) || b then 0 else (suc m - 1) / n + 1) ≤ suc m
    of true = or_none (suc m == 0)
      where
        or_none : (c : Bool) → (if c || true then 0 else (suc m - 1) / n + 1) ≤ suc m
        or_none true = omega arith
        or_none false = omega arith
    of false = or_some (suc m == 0)
      where
        or_some : (c : Bool) → (if c || false then 0 else (suc m - 1) / n + 1) ≤ suc m
        or_some true = omega arith
        or_some false = least

halves_sized : (c : Split) (count : ℕ) → c.factor ≤ 1024 → count < 4294967296 → AllByRecursion IsSized (halves c count)
halves_sized c count factor few = (
  record { from = omega (arith, ints); to = omega (arith, ints); few = (let most = blocks_few count c.factor in omega (arith, most, few)) },
  (record { from = omega (arith, ints); to = omega (arith, ints); few = omega (arith, factor) }, tt),
)

pub cut_sized : (cs : List Split) → AllByRecursion (λ c. c.factor ≤ 1024) cs → (rs : List Numbers) → AllByRecursion IsSized rs → AllByRecursion IsSized (cut_numbers cs rs)
cut_sized [] f rs h = h
cut_sized (c ∷ cs) f rs h =
    let count = (numbers_named rs c.whole).count in
    let few = (named_sized rs h c.whole).few in
    cut_sized cs f.1 (rs ++ halves c count) (all-append IsSized rs (halves c count) h (halves_sized c count f.0 few))

whole_sized : (xs : List (List ℕ)) (es : List Extent) → AllByRecursion IsExtent es → AllByRecursion IsSized (whole_numbers xs es)
whole_sized [] es h = tt
whole_sized (x ∷ xs) [] h = tt
whole_sized (x ∷ xs) (e ∷ es) h = (record { from = h.0.from; to = h.0.to; few = h.0.few }, whole_sized xs es h.1)

-- ---- steps

-- there is a form to pick
abbrev pub IsChoice : List Form → Type 0
IsChoice [] = ⊥
IsChoice (f ∷ fs) = Unit {0}

abbrev pub StepIs : Step → Type 0
StepIs (Turns i x kind) = AreLimited x.lower × AreLimited x.upper
StepIs (Named i pick fs) = AreLimited fs × IsChoice fs
StepIs (Tested low high) = Limited low × Limited high

-- what stands at a place
record Fits (st : StandingText) : Type 0 where
  known : AllByRecursion (λ (k : Known). Limited k.form) st.known
  starts : AllByRecursion (λ (k : Known). Limited k.form) st.starts
  limits : AreLimited st.limits
  steps : AllByRecursion StepIs st.steps

begun_fits : (c : Split) (r : Numbers) (st new : StandingText) → c.factor ≤ 1024 → IsSized r → Fits st → Begins c r st new → Fits new
begun_fits c r st new few sized h (stood s e) = subst Fits (sym e) h
begun_fits c r st new few sized h (waits n e) = subst Fits (sym e) h
begun_fits c r st new few sized h (plainly outer form none some sum is e) =
    subst Fits (sym e) (record {
      known = h.known;
      starts = all_more (λ (k : Known). Limited k.form) st.starts (record { name = c.whole; form = form }) h.starts (combined_limited (number r.low) (pos c.factor) outer form sum);
      limits = h.limits;
      steps = h.steps;
    })
begun_fits c r st new few sized h (shifted outer form none some sum is e) =
    subst Fits (sym e) (record {
      known = h.known;
      starts = all_more (λ (k : Known). Limited k.form) st.starts (record { name = c.whole; form = alone st.next }) h.starts (alone_limited st.next);
      limits = h.limits;
      steps = all-append StepIs st.steps _ h.steps
          (((combined_limited (number r.low) (pos c.factor) outer form sum, (number_limited (room r c.factor) (room_small r c.factor few sized), tt)), tt), tt);
    })

put_fits : (g : Bool) (x : List ℕ) (last : ℤ) (form : Form) (st new : StandingText) → Limited form → IsSmall last → Fits st → Puts g x last form st new → Fits new
put_fits g x last form st new limited small h (freely free e) =
    subst Fits (sym e) (record {
      known = all_more (λ (k : Known). Limited k.form) st.known (record { name = x; form = form }) h.known limited;
      starts = h.starts;
      limits = h.limits;
      steps = h.steps;
    })
put_fits g x last form st new limited small h (by_loop s limit i l e) =
    subst Fits (sym e) (record {
      known = all_more (λ (k : Known). Limited k.form) st.known (record { name = x; form = form }) h.known limited;
      starts = h.starts;
      limits = all-append Limited st.limits (limit ∷ []) h.limits (combined_limited (number last) (negsuc 0) (without form s) limit l, tt);
      steps = h.steps;
    })
put_fits g x last form st new limited small h (by_guard e) =
    subst Fits (sym e) (record {
      known = all_more (λ (k : Known). Limited k.form) st.known (record { name = x; form = alone st.next }) h.known (alone_limited st.next);
      starts = h.starts;
      limits = h.limits;
      steps = all-append StepIs (st.steps ++ Tested form (number last) ∷ []) _ (all-append StepIs st.steps (Tested form (number last) ∷ []) h.steps ((limited, number_limited last small), tt))
          (((limited, (number_limited last small, tt)), tt), tt);
    })
put_fits g x last form st new limited small h (by_test e) =
    subst Fits (sym e) (record {
      known = all_more (λ (k : Known). Limited k.form) st.known (record { name = x; form = form }) h.known limited;
      starts = h.starts;
      limits = h.limits;
      steps = all-append StepIs st.steps (Tested form (number last) ∷ []) h.steps ((limited, number_limited last small), tt);
    })

joined_fits : (v : Within) (g : Bool) (c : Split) (r : Numbers) (st new : StandingText) → IsSized r → Fits st → Joins v g c r st new → Fits new
joined_fits v g c r st new sized h (stays e k) = subst Fits (sym e) h
joined_fits v g c r st new sized h (puts start inner form none one two sum k) = put_fits g c.whole (last_number r) form st new (combined_limited start (pos 1) inner form sum) (last_small r sized) h k

module _ (rs : List Numbers) (sized : AllByRecursion IsSized rs) where
  settled_fits : (v : Within) (all cs : List Split) → AllByRecursion (λ c. c.factor ≤ 1024) cs → (st new : StandingText) → Fits st → settle_some v rs all cs st ≡ Some new → Fits new
  settled_fits v all [] few st new h e = subst Fits (same st new e) h
  settled_fits v all (c ∷ cs) few st new h e =
      let k = next_of v rs all c cs st new e in
      let r = numbers_named rs c.whole in
      let s = named_sized rs sized c.whole in
      settled_fits v all cs few.1 k.joins new (joined_fits v (is_guarded rs all c) c r k.begins k.joins s (begun_fits c r st k.begins few.0 s h k.begun) k.joined) k.rest

  abbrev TurnIs : Turning → Type 0
  TurnIs t = IsSmall t.low × IsSmall t.last

  turned_fits : (cs : List Split) → AllByRecursion (λ c. c.factor ≤ 1024) cs → (t : Turning) → TurnIs t → (st new : StandingText) → Fits st → turn rs cs t st ≡ Some new → Fits new
  turned_fits cs few t small st new h e =
      let b = bound (settle_some (inside t.kind) rs cs cs (enter t.name st)) (λ turned. Some (leave st.steps st.next t turned)) new e in
      let entered : Fits (enter t.name st) = record {
        known = all_more (λ (k : Known). Limited k.form) st.known (record { name = t.name; form = alone st.next }) h.known (alone_limited st.next);
        starts = h.starts;
        limits = tt;
        steps = tt;
      } in
      let m = settled_fits (inside t.kind) cs cs few (enter t.name st) b.value entered b.is in
      let out : Fits (leave st.steps st.next t b.value) = record {
        known = m.known;
        starts = m.starts;
        limits = tt;
        steps = all-append StepIs st.steps (Turns st.next (span t.low t.last b.value.limits) t.kind ∷ b.value.steps) h.steps
            (((number_limited t.low small.0, tt), (number_limited t.last small.1, m.limits)), m.steps);
      } in
      subst Fits (same (leave st.steps st.next t b.value) new b.comes) out

  all_turned_fit : (cs : List Split) → AllByRecursion (λ c. c.factor ≤ 1024) cs → (ts : List Turning) → AllByRecursion TurnIs ts → (st new : StandingText) → Fits st →
      turn_all rs cs ts st ≡ Some new → Fits new
  all_turned_fit cs few [] small st new h e = subst Fits (same st new e) h
  all_turned_fit cs few (t ∷ ts) small st new h e =
      let b = bound (turn rs cs t st) (turn_all rs cs ts) new e in
      all_turned_fit cs few ts small.1 b.value new (turned_fits cs few t small.0 st b.value h b.is) b.comes

  loops_small : (b : BodyText) (v : Bool) (ls : List Loop) → AllByRecursion TurnIs (map (loop_turning rs) (filter (is_in_nest b v) ls))
  loops_small b v [] = tt
  loops_small b v (l ∷ ls) = of (is_in_nest b v l) (loops_small b v ls)
    where
      here : TurnIs (loop_turning rs l)
      here = (let s = named_sized rs sized l.name in (low_small (numbers_named rs l.name) s, last_small (numbers_named rs l.name) s))

      of : (t : Bool) → AllByRecursion TurnIs (map (loop_turning rs) (filter (is_in_nest b v) ls)) →
          AllByRecursion TurnIs (map (loop_turning rs) (if t then l ∷ filter (is_in_nest b v) ls else filter (is_in_nest b v) ls))
      of true k = (here, k)
      of false k = k

-- ---- reduction variables

abbrev pub IsBodySmall : BodyText → Type 0
IsBodySmall b = AllByRecursion (λ (t : Turning). IsSmall t.low × IsSmall t.last) b.ranges

range_small : (r : Range) → IsRange r → IsSmall r.low × IsSmall r.high
range_small r h =
    let a = h.from in
    let b = h.rises in
    let c = h.to in
    ((omega (arith, ints, a), omega (arith, ints, b, c)), (omega (arith, ints, a, b), omega (arith, ints, c)))

turnings_small : (rs : List Range) → AllByRecursion IsRange rs → (xs : List (List ℕ)) → AllByRecursion (λ (t : Turning). IsSmall t.low × IsSmall t.last) (turnings rs xs)
turnings_small [] h xs = tt
turnings_small (r ∷ rs) h [] = tt
turnings_small (r ∷ rs) h (x ∷ xs) = (range_small r h.0, turnings_small rs h.1 xs)

pub bodies_small : (us : List Change) → ((k : ℕ) → AllByRecursion IsRange (ranges_of us k)) → (d : ℕ) (xs : List (List ℕ)) (fs : List FormulaText) → AllByRecursion IsBodySmall (bodies_from us d xs fs)
bodies_small us h d xs [] = tt
bodies_small us h d xs (f ∷ fs) = (turnings_small (ranges_of us d) (h d) xs, bodies_small us h (d + 1) (drop (length (ranges_of us d)) xs) fs)

-- ---- nests

pub named_limited : (ks : List Known) (x : List ℕ) → AllByRecursion (λ (k : Known). Limited k.form) ks → LimitedIf (form_named ks x)
named_limited ks x h = of (form_named ks x) refl
  where
    of : (o : Option Form) → form_named ks x ≡ o → LimitedIf o
    of None e = tt
    of (Some f) e = found_all (λ y g. Limited g) ks x f h e

pub variables_limited : (b : BodyText) (d : ℕ) (xs : List (List ℕ)) (ks : List Known) → AllByRecursion (λ (k : Known). Limited k.form) ks → AllByRecursion LimitedIf (variables_at b d xs ks)
variables_limited b d [] ks h = tt
variables_limited b d (x ∷ xs) ks h = (of (is_missing b d), variables_limited b (d + 1) xs ks h)
  where
    of : (m : Bool) → LimitedIf (if m then None else form_named ks x)
    of true = tt
    of false = named_limited ks x h

pub ranges_limited : (ds : List Turning) (ks : List Known) → AllByRecursion (λ (k : Known). Limited k.form) ks → AllByRecursion LimitedIf (ranges_at ds ks)
ranges_limited [] ks h = tt
ranges_limited (d ∷ ds) ks h = (named_limited ks d.name h, ranges_limited ds ks h)

pub record IsNestLimited (n : NestText) : Type 0 where
  pub steps : AllByRecursion StepIs n.steps
  pub at : AllByRecursion LimitedIf n.at

module _ (xs : List (List ℕ)) (p : PlacedText) (few : AllByRecursion (λ c. c.factor ≤ 1024) p.cuts) (rs : List Numbers) (sized : AllByRecursion IsSized rs) (head : StandingText)
    (over : Fits head) where
  nest_limited : (b : BodyText) → IsBodySmall b → (next : ℕ) (new : StandingText) → nest_in xs p rs b (begun next head) ≡ Some new → IsNestLimited (nest_of xs b new)
  nest_limited b small next new e =
      let cs = cuts_by_variable p.cuts (kept_from b 0 xs) in
      let here = all_by_variable (λ c. c.factor ≤ 1024) p.cuts (kept_from b 0 xs) few in
      let m = bound (settle_some (inside Serial) rs cs cs (begun next head)) (turn_all rs cs (nest_turns b rs p.loops)) new e in
      let first : Fits (begun next head) = record { known = over.known; starts = over.starts; limits = over.limits; steps = tt } in
      let settled = settled_fits rs sized (inside Serial) cs cs here (begun next head) m.value first m.is in
      let turns : AllByRecursion (TurnIs rs sized) (nest_turns b rs p.loops) =
      all_both (TurnIs rs sized) (nest_loops b false rs p.loops ++ reverse b.ranges) (nest_loops b true rs p.loops)
      (all_both (TurnIs rs sized) (nest_loops b false rs p.loops) (reverse b.ranges) (loops_small rs sized b false (reverse p.loops)) (all_reverse (TurnIs rs sized) b.ranges small))
      (loops_small rs sized b true (reverse p.loops)) in
      let out = all_turned_fit rs sized cs here (nest_turns b rs p.loops) turns m.value new settled m.comes in
      record {
        steps = out.steps;
        at = all-append LimitedIf (variables_at b 0 xs new.known) (ranges_at b.ranges new.known) (variables_limited b 0 xs new.known out.known) (ranges_limited b.ranges new.known out.known);
      }

  nests_limited : (bs : List BodyText) → AllByRecursion IsBodySmall bs → (next : ℕ) (ns : List NestText) → nests_in xs p rs head bs next ≡ Some ns → AllByRecursion IsNestLimited ns
  nests_limited [] small next ns e = subst (AllByRecursion IsNestLimited) (same [] ns e) tt
  nests_limited (b ∷ bs) small next ns e =
      let m = bound (nest_in xs p rs b (begun next head)) (λ st. nests_in xs p rs head bs st.next >>= λ nests. Some (nest_of xs b st ∷ nests)) ns e in
      let r = bound (nests_in xs p rs head bs m.value.next) (λ nests. Some (nest_of xs b m.value ∷ nests)) ns m.comes in
      subst (AllByRecursion IsNestLimited) (same (nest_of xs b m.value ∷ r.value) ns r.comes) (nest_limited b small.0 next m.value m.is, nests_limited bs small.1 m.value.next r.value r.is)

grid_limited : (rs : List Numbers) → AllByRecursion IsSized rs → (s : ℕ) (ls : List Loop) → AllByRecursion (λ (k : Known). Limited k.form) (grid_forms rs s ls)
grid_limited rs sized s [] = tt
grid_limited rs sized s (l ∷ ls) = (counted_limited (numbers_named rs l.name).low s (low_small (numbers_named rs l.name) (named_sized rs sized l.name)), grid_limited rs sized (s + 1) ls)

-- ---- the skeleton

pub record IsLimited (k : SkeletonText) : Type 0 where
  pub head : AllByRecursion StepIs k.head
  pub nests : AllByRecursion IsNestLimited k.nests
  pub known : AllByRecursion (λ (m : Known). Limited m.form) k.known
  pub starts : AllByRecursion (λ (m : Known). Limited m.form) k.starts

pub skeleton_limited : (xs : List (List ℕ)) (bs : List BodyText) (p : PlacedText) (region : List Extent) (k : SkeletonText) → AllByRecursion (λ c. c.factor ≤ 1024) p.cuts →
    AllByRecursion IsExtent region → AllByRecursion IsBodySmall bs → skeleton_in xs bs p region ≡ Some k → IsLimited k
skeleton_limited xs bs p region k few extents small e =
    let rs : List Numbers = loop_numbers xs p.cuts region in
    let sized : AllByRecursion IsSized rs = cut_sized p.cuts few (whole_numbers xs region) (whole_sized xs region extents) in
    let cs : List Split = cuts_by_variable p.cuts xs in
    let grid : List ℕ = piece_counts rs p.loops in
    let b = bound (settle_some at_grid rs cs cs (over_grid rs p))
    (λ head. nests_in xs p rs head bs head.next >>= λ nests. Some (record { grid = grid; head = head.steps; nests = nests; known = head.known; starts = head.starts })) k e in
    let m = bound (nests_in xs p rs b.value bs b.value.next) (λ nests. Some (record { grid = grid; head = b.value.steps; nests = nests; known = b.value.known; starts = b.value.starts })) k b.comes in
    let first : Fits (over_grid rs p) = record { known = grid_limited rs sized 0 (parallel_loops p.loops); starts = tt; limits = tt; steps = tt } in
    let head = settled_fits rs sized at_grid cs cs (all_by_variable (λ c. c.factor ≤ 1024) p.cuts xs few) (over_grid rs p) b.value first b.is in
    let made : IsLimited (record { grid = grid; head = b.value.steps; nests = m.value; known = b.value.known; starts = b.value.starts }) = record {
      head = head.steps;
      nests = nests_limited xs p few rs sized b.value head bs small b.value.next m.value m.is;
      known = head.known;
      starts = head.starts;
    } in
    subst IsLimited (same (record { grid = grid; head = b.value.steps; nests = m.value; known = b.value.known; starts = b.value.starts }) k m.comes) made

-- the first number of a loop
pub first_limited : (xs : List (List ℕ)) (cs : List Split) (region : List Extent) → AllByRecursion (λ c. c.factor ≤ 1024) cs → AllByRecursion IsExtent region → (x : List ℕ) →
    Limited (number (numbers_named (loop_numbers xs cs region) x).low)
first_limited xs cs region few extents x =
    let rs : List Numbers = loop_numbers xs cs region in
    let sized : AllByRecursion IsSized rs = cut_sized cs few (whole_numbers xs region) (whole_sized xs region extents) in
    number_limited (numbers_named rs x).low (low_small (numbers_named rs x) (named_sized rs sized x))
