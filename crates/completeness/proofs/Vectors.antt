-- The vectorised loop of a nest is its innermost one, around its store alone, or around one guard around that.
use Rattle.std.proofs.Common.{◌≡◌, ℕ, zero, suc, ◌+◌, ◌<◌, ◌≤◌, Bool, true, false, ◌&&◌, not, List, [], ◌∷◌}
use Rattle.std.proofs.Common.{◌++◌, drop, length, map, Option, Some, None, refl, sym, ap, ◌∙◌, subst, inl, inr, ◌⊎◌, arith}
use Rattle.std.specs.Prelude.{if◌then◌else◌, filter, reverse, slice_get}
use Rattle.std.specs.List.{AllByRecursion}
use Rattle.std.proofs.lemmas.List.{reverse-append}
use Rattle.std.proofs.lemmas.List.Elements.{filter-append}
use Rattle.lin.specs.Forms.{Form}
use Rattle.lin.specs.declared.span.Span1.{Span1}
use Rattle.lin.proofs.TermLemmas.{all_weaker}
use Rattle.plan.specs.declared.stmt.Kind.{Kind}
use Rattle.plan.specs.declared.stmt.Kind.TheVariants.{Serial, Unroll, Vector}
use Rattle.sched.specs.declared.schedule.Split.{Split}
use Rattle.sched.specs.declared.placing.Loop.{Loop}
use Rattle.sched.specs.declared.placing.Mark.{Mark}
use Rattle.sched.specs.declared.placing.Mark.TheVariants as mark
use Rattle.sched.specs.declared.numbers.Numbers.{Numbers}
use Rattle.sched.specs.declared.skeleton.Known.{Known}
use Rattle.sched.specs.declared.skeleton.Step.{Step}
use Rattle.sched.specs.declared.skeleton.Step.TheVariants.{Turns, Named, Tested}
use Rattle.sched.specs.declared.nest.Turning.{Turning}
use Rattle.sched.specs.declared.numbers.Extent.{Extent}
use Rattle.sched.specs.Numbers.{loop_numbers, numbers_named, last_number, piece_counts}
use Rattle.sched.specs.Placing.{PlacedText, is_parallel, is_vectorized}
use Rattle.sched.specs.Standing.{◌>>=◌, StandingText, form_named, alone, is_guarded, settle_some, cuts_by_variable}
use Rattle.sched.specs.Skeleton.{BodyText, NestText, kind_of, span, loop_turning, enter, leave, inside, turn, turn_all, is_missing, is_same}
use Rattle.sched.specs.Skeleton.{is_in_nest, kept_from, nest_loops, nest_turns, ranges_at, begun, nest_in, SkeletonText, nest_of, nests_in, over_grid, skeleton_in}
use Rattle.sched.proofs.Leading.{In, in_right}
use Rattle.sched.proofs.Rooting.{all_both, all_at, all_reverse, all_by_variable}
use Rattle.sched.proofs.Visiting.{in_reverse}
use Rattle.sched.proofs.Standings.{Stands, stands_more, stands_last, found_all, Begins, stood, waits, plainly, shifted, Puts, freely, by_loop, by_guard, by_test, Joins, stays, puts}
use Rattle.sched.proofs.Passing.{IsClosed}
use Rattle.sched.proofs.Closing.{next_of, settle_more}
use Rattle.blocks.proofs.Laying.{bound, same}
use Rattle.completeness.proofs.Only.{Only, AreOnly}
use Rattle.completeness.proofs.Standing.{Binds, Here, KnownOnly, known_weaker, form_weaker, are_weaker, OnlyIf, Rises, Sits, Within, at_grid, settled_here, turned_here, nest_sits, head_sits}
use Rattle.completeness.proofs.Halves.{IsInner, AreOthers, IsNamed, lanes_inner}
use Rattle.completeness.proofs.Lanes.{LaneSteps, AreOnce, pass_closes, lanes_settle}

-- ---- steps without a vectorised loop

abbrev IsScalar : Kind → Type 0
IsScalar Vector = ⊥
IsScalar Serial = Unit {0}
IsScalar Unroll = Unit {0}

abbrev pub AreScalar : List Step → Type 0
AreScalar [] = Unit {0}
AreScalar (Turns i x kind ∷ ss) = IsScalar kind × AreScalar ss
AreScalar (Named i pick fs ∷ ss) = AreScalar ss
AreScalar (Tested low high ∷ ss) = AreScalar ss

scalar_joined : (a b : List Step) → AreScalar a → AreScalar b → AreScalar (a ++ b)
scalar_joined [] b h k = k
scalar_joined (Turns i x kind ∷ a) b h k = (h.0, scalar_joined a b h.1 k)
scalar_joined (Named i pick fs ∷ a) b h k = scalar_joined a b h k
scalar_joined (Tested low high ∷ a) b h k = scalar_joined a b h k

begun_scalar : (c : Split) (r : Numbers) (st new : StandingText) → AreScalar st.steps → Begins c r st new → AreScalar new.steps
begun_scalar c r st new h (stood s e) = subst (λ (a : StandingText). AreScalar a.steps) (sym e) h
begun_scalar c r st new h (waits n e) = subst (λ (a : StandingText). AreScalar a.steps) (sym e) h
begun_scalar c r st new h (plainly outer form none some sum is e) = subst (λ (a : StandingText). AreScalar a.steps) (sym e) h
begun_scalar c r st new h (shifted outer form none some sum is e) = subst (λ (a : StandingText). AreScalar a.steps) (sym e) (scalar_joined st.steps _ h tt)

joined_scalar : (v : Within) (g : Bool) (c : Split) (r : Numbers) (st new : StandingText) → AreScalar st.steps → Joins v g c r st new → AreScalar new.steps
joined_scalar v g c r st new h (stays e k) = subst (λ (a : StandingText). AreScalar a.steps) (sym e) h
joined_scalar v g c r st new h (puts start inner form none one two sum k) = of k
  where
    of : Puts g c.whole (last_number r) form st new → AreScalar new.steps
    of (freely free e) = subst (λ (a : StandingText). AreScalar a.steps) (sym e) h
    of (by_loop s limit i l e) = subst (λ (a : StandingText). AreScalar a.steps) (sym e) h
    of (by_guard e) = subst (λ (a : StandingText). AreScalar a.steps) (sym e) (scalar_joined (st.steps ++ Tested form _ ∷ []) _ (scalar_joined st.steps (Tested form _ ∷ []) h tt) tt)
    of (by_test e) = subst (λ (a : StandingText). AreScalar a.steps) (sym e) (scalar_joined st.steps _ h tt)

settled_scalar : (v : Within) (rs : List Numbers) (all cs : List Split) (st new : StandingText) → AreScalar st.steps → settle_some v rs all cs st ≡ Some new → AreScalar new.steps
settled_scalar v rs all [] st new h e = subst (λ (a : StandingText). AreScalar a.steps) (same st new e) h
settled_scalar v rs all (c ∷ cs) st new h e =
    let k = next_of v rs all c cs st new e in
    let r = numbers_named rs c.whole in
    settled_scalar v rs all cs k.joins new (joined_scalar v (is_guarded rs all c) c r k.begins k.joins (begun_scalar c r st k.begins h k.begun) k.joined) k.rest

-- ---- loops of a nest, one inside another

module _ (cuts : List Split) (others : AreOthers cuts) (once : AreOnce cuts) (rs : List Numbers) (cs : List Split) (sub : AllByRecursion (λ d. In d cuts) cs) (Q : ℕ → Type 0) (base : ℕ) where
  -- what stands inside loops of which none is vectorised
  record IsBefore (st : StandingText) : Type 0 where
    scalar : AreScalar st.steps
    closed : AllByRecursion (IsClosed st) cs
    sits : Sits Q base st

  turned : (t : Turning) → IsScalar t.kind → (st new : StandingText) → IsBefore st → turn rs cs t st ≡ Some new →
      IsBefore new × ((y : List ℕ) → Stands st.known y → Stands new.known y) × Stands new.known t.name
  turned t scalar st new h e =
      let b = bound (settle_some (inside t.kind) rs cs cs (enter t.name st)) (λ turned. Some (leave st.steps st.next t turned)) new e in
      let left : leave st.steps st.next t b.value ≡ new = same (leave st.steps st.next t b.value) new b.comes in
      let more : (y : List ℕ) → Stands (enter t.name st).known y → Stands b.value.known y = settle_more (inside t.kind) rs cs cs (enter t.name st) b.value b.is in
      let steps : AreScalar (leave st.steps st.next t b.value).steps = scalar_joined st.steps (Turns st.next (span t.low t.last b.value.limits) t.kind ∷ b.value.steps) h.scalar
      (scalar, settled_scalar (inside t.kind) rs cs cs (enter t.name st) b.value tt b.is) in
      let closed : AllByRecursion (IsClosed (leave st.steps st.next t b.value)) cs =
      all_weaker (IsClosed b.value) (IsClosed (leave st.steps st.next t b.value)) (λ c k. record { begun = k.begun; joined = k.joined }) cs
      (pass_closes cuts others once t.kind rs cs cs sub (enter t.name st) b.value b.is) in
      let k : Known = record { name = t.name; form = alone st.next } in (
        record {
          scalar = subst (λ (a : StandingText). AreScalar a.steps) left steps;
          closed = subst (λ (a : StandingText). AllByRecursion (IsClosed a) cs) left closed;
          sits = turned_here Q base rs cs t st new h.sits e;
        },
        (λ y s. subst (λ (a : StandingText). Stands a.known y) left (more y (stands_more st.known k y s))),
        subst (λ (a : StandingText). Stands a.known t.name) left (more t.name (stands_last st.known k)),
      )

  all_turned : (ts : List Turning) → AllByRecursion (λ t. IsScalar t.kind) ts → (st new : StandingText) → IsBefore st → turn_all rs cs ts st ≡ Some new →
      IsBefore new × ((y : List ℕ) → Stands st.known y → Stands new.known y) × AllByRecursion (λ t. Stands new.known t.name) ts
  all_turned [] scalars st new h e = (subst IsBefore (same st new e) h, (λ y s. subst (λ (a : StandingText). Stands a.known y) (same st new e) s), tt)
  all_turned (t ∷ ts) scalars st new h e =
      let b = bound (turn rs cs t st) (turn_all rs cs ts) new e in
      let one = turned t scalars.0 st b.value h b.is in
      let rest = all_turned ts scalars.1 b.value new one.0 b.comes in
      (rest.0, (λ y s. rest.1 y (one.1 y s)), (rest.1 t.name one.2, rest.2))

-- first some loops, then others
record AreTurned (rs : List Numbers) (cs : List Split) (ts us : List Turning) (st new : StandingText) : Type 0 where
  mid : StandingText
  first : turn_all rs cs ts st ≡ Some mid
  second : turn_all rs cs us mid ≡ Some new

turned_parts : (rs : List Numbers) (cs : List Split) (ts us : List Turning) (st new : StandingText) → turn_all rs cs (ts ++ us) st ≡ Some new → AreTurned rs cs ts us st new
turned_parts rs cs [] us st new e = record { mid = st; first = refl; second = e }
turned_parts rs cs (t ∷ ts) us st new e =
    let b = bound (turn rs cs t st) (turn_all rs cs (ts ++ us)) new e in
    let r = turned_parts rs cs ts us b.value new b.comes in
    record { mid = r.mid; first = ap (λ (o : Option StandingText). o >>= turn_all rs cs ts) b.is ∙ r.first; second = r.second }

-- ---- which loops are vectorised

module _ (b : BodyText) (rs : List Numbers) where
  kind_scalar : (o : Option Mark) → elim o [ Some mark.Vectorized ↦ true | _ ↦ false ] ≡ false → IsScalar (kind_of o)
  kind_scalar None e = tt
  kind_scalar (Some mark.Unrolled) e = tt
  kind_scalar (Some mark.Vectorized) e = absurd (cc e)
  kind_scalar (Some mark.Parallel) e = tt

  kind_vector : (o : Option Mark) → elim o [ Some mark.Vectorized ↦ true | _ ↦ false ] ≡ true → kind_of o ≡ Vector
  kind_vector None e = absurd (cc e)
  kind_vector (Some mark.Unrolled) e = absurd (cc e)
  kind_vector (Some mark.Vectorized) e = refl
  kind_vector (Some mark.Parallel) e = absurd (cc e)

  and_last : (c d e : Bool) → (c && d && e) ≡ true → e ≡ true
  and_last true true e h = h
  and_last true false e h = absurd (cc h)
  and_last false d e h = absurd (cc h)

  same_false : (c : Bool) → is_same c false ≡ true → c ≡ false
  same_false true h = absurd (cc h)
  same_false false h = refl

  same_true : (c : Bool) → is_same c true ≡ true → c ≡ true
  same_true true h = refl
  same_true false h = absurd (cc h)

  scalar_loops : (ls : List Loop) → AllByRecursion (λ t. IsScalar t.kind) (map (loop_turning rs) (filter (is_in_nest b false) ls))
  scalar_loops [] = tt
  scalar_loops (l ∷ ls) = of (is_in_nest b false l) refl (scalar_loops ls)
    where
      of : (v : Bool) → is_in_nest b false l ≡ v → AllByRecursion (λ t. IsScalar t.kind) (map (loop_turning rs) (filter (is_in_nest b false) ls)) →
          AllByRecursion (λ t. IsScalar t.kind) (map (loop_turning rs) (if v then l ∷ filter (is_in_nest b false) ls else filter (is_in_nest b false) ls))
      of true e rest = (kind_scalar l.mark (same_false (is_vectorized l) (and_last (not (is_parallel l)) (not (is_missing b l.dimension)) (is_same (is_vectorized l) false) e)), rest)
      of false e rest = rest

  no_lanes : (ls : List Loop) → AllByRecursion (λ l. is_vectorized l ≡ false) ls → filter (is_in_nest b true) ls ≡ []
  no_lanes [] h = refl
  no_lanes (l ∷ ls) h = of (is_in_nest b true l) refl (no_lanes ls h.1)
    where
      of : (v : Bool) → is_in_nest b true l ≡ v → filter (is_in_nest b true) ls ≡ [] → (if v then l ∷ filter (is_in_nest b true) ls else filter (is_in_nest b true) ls) ≡ []
      of true e rest =
          let v = same_true (is_vectorized l) (and_last (not (is_parallel l)) (not (is_missing b l.dimension)) (is_same (is_vectorized l) true) e) in
          absurd (let clash : true ≡ false = sym v ∙ h.0 in cc clash)
      of false e rest = rest

  -- no loop is, or one
  abbrev OneAtMost : List Loop → List Turning → Type 0
  OneAtMost ls ts = (ts ≡ []) ⊎ ((l : Loop) × In l ls × (is_vectorized l ≡ true) × (ts ≡ loop_turning rs l ∷ []))

  one_at_most : (ls : List Loop) → AllByRecursion (λ l. is_vectorized l ≡ false) (drop 1 ls) → OneAtMost ls (nest_loops b true rs ls)
  one_at_most [] h = inl refl
  one_at_most (l ∷ ls) h =
      let parted : reverse (l ∷ ls) ≡ reverse ls ++ l ∷ [] = reverse-append (l ∷ []) ls in
      let none = no_lanes (reverse ls) (all_reverse (λ l. is_vectorized l ≡ false) ls h) in
      let are : filter (is_in_nest b true) (reverse (l ∷ ls)) ≡ filter (is_in_nest b true) (l ∷ []) =
      ap (filter (is_in_nest b true)) parted ∙ filter-append (is_in_nest b true) (reverse ls) (l ∷ []) ∙ ap (λ (ms : List Loop). ms ++ filter (is_in_nest b true) (l ∷ [])) none in
      subst (OneAtMost (l ∷ ls)) (ap (map (loop_turning rs)) (sym are)) (of (is_in_nest b true l) refl)
    where
      of : (v : Bool) → is_in_nest b true l ≡ v → OneAtMost (l ∷ ls) (map (loop_turning rs) (if v then l ∷ [] else []))
      of true e = inr (l, inl refl, same_true (is_vectorized l) (and_last (not (is_parallel l)) (not (is_missing b l.dimension)) (is_same (is_vectorized l) true) e), refl)
      of false e = inl refl

-- ---- a nest

-- the steps have no vectorised loop; or one, behind others that are none, and the forms of reduction variables have no lane of it
abbrev pub IsLaned : List Step → List (Option Form) → Type 0
IsLaned steps ranges =
    AreScalar steps
    ⊎ ((before inner : List Step) × (lane : ℕ) × (x : Span1) × (steps ≡ before ++ Turns lane x Vector ∷ inner) × AreScalar before × LaneSteps lane inner
    × AllByRecursion (OnlyIf (λ s. s < lane)) ranges)

rises_up : (n m : ℕ) (ts : List Step) → Rises n ts m → n ≤ m
rises_up n m [] r = omega (arith, r)
rises_up n m (Turns i x kind ∷ ts) r = (let k = rises_up (n + 1) m ts r.1 in omega (arith, k))
rises_up n m (Named i pick fs ∷ ts) r = (let k = rises_up (n + 1) m ts r.1 in omega (arith, k))
rises_up n m (Tested low high ∷ ts) r = rises_up n m ts r

pub rises_bind : (n m : ℕ) (ts : List Step) → Rises n ts m → (s : ℕ) → Binds ts s → s < m
rises_bind n m [] r s h = absurd h
rises_bind n m (Turns i x kind ∷ ts) r s (inl e) = (let first = r.0 in let k = rises_up (n + 1) m ts r.1 in omega (arith, e, first, k))
rises_bind n m (Turns i x kind ∷ ts) r s (inr h) = rises_bind (n + 1) m ts r.1 s h
rises_bind n m (Named i pick fs ∷ ts) r s (inl e) = (let first = r.0 in let k = rises_up (n + 1) m ts r.1 in omega (arith, e, first, k))
rises_bind n m (Named i pick fs ∷ ts) r s (inr h) = rises_bind (n + 1) m ts r.1 s h
rises_bind n m (Tested low high ∷ ts) r s h = rises_bind n m ts r s h

-- what stands names symbols before the next one
below_next : (Q : ℕ → Type 0) (base : ℕ) (st : StandingText) → ((s : ℕ) → Q s → s < base) → Sits Q base st → (s : ℕ) → Here Q st.steps s → s < st.next
below_next Q base st under h s (inl q) = (let less = under s q in let up = rises_up base st.next st.steps h.rises in omega (arith, less, up))
below_next Q base st under h s (inr b) = rises_bind base st.next st.steps h.rises s b

module _ (xs : List (List ℕ)) (p : PlacedText) (named : IsNamed p) (once : AreOnce p.cuts) (lanes : AllByRecursion (λ l. is_vectorized l ≡ false) (drop 1 p.loops)) (rs : List Numbers) (b : BodyText)
    (serial : AllByRecursion (λ (t : Turning). IsScalar t.kind) b.ranges) (Q : ℕ → Type 0) (base : ℕ) (under : (s : ℕ) → Q s → s < base) where
  abbrev cs : List Split
  cs = cuts_by_variable p.cuts (kept_from b 0 xs)

  sub : AllByRecursion (λ d. In d p.cuts) (cuts_by_variable p.cuts (kept_from b 0 xs))
  sub = all_by_variable (λ d. In d p.cuts) p.cuts (kept_from b 0 xs) (each p.cuts (λ d m. m))
    where
      each : (ds : List Split) → ((d : Split) → In d ds → In d p.cuts) → AllByRecursion (λ d. In d p.cuts) ds
      each [] f = tt
      each (d ∷ ds) f = (f d (inl refl), each ds (λ e m. f e (inr m)))

  abbrev scalars : List Turning
  scalars = nest_loops b false rs p.loops ++ reverse b.ranges

  abbrev Before : StandingText → Type 0
  Before = IsBefore p.cuts named.apart once rs (cuts_by_variable p.cuts (kept_from b 0 xs)) sub Q base

  -- the forms of reduction variables, as they stand before the vectorised loop
  ranges_stand : (mid new : StandingText) → Sits Q base mid → ((y : List ℕ) (f : Form) → form_named mid.known y ≡ Some f → form_named new.known y ≡ Some f) →
      (ts : List Turning) → ((t : Turning) → In t ts → Stands mid.known t.name) → AllByRecursion (OnlyIf (λ s. s < mid.next)) (ranges_at ts new.known)
  ranges_stand mid new sits kept [] h = tt
  ranges_stand mid new sits kept (t ∷ ts) h =
      let s = h t (inl refl) in
      let weak : Only (λ s. s < mid.next) s.0 = form_weaker (Here Q mid.steps) (λ s. s < mid.next) (below_next Q base mid under sits) s.0
      (found_all (λ y f. Only (Here Q mid.steps) f) mid.known t.name s.0 sits.known s.1) in
      (subst (OnlyIf (λ s. s < mid.next)) (sym (kept t.name s.0 s.1)) weak, ranges_stand mid new sits kept ts (λ t m. h t (inr m)))

  laned : (mid new : StandingText) → Before mid → AllByRecursion (λ t. Stands mid.known t.name) scalars → turn_all rs cs (nest_loops b true rs p.loops) mid ≡ Some new →
      IsLaned new.steps (ranges_at b.ranges new.known)
  laned mid new h stand e = of (one_at_most b rs p.loops lanes)
    where
      ranges : (t : Turning) → In t b.ranges → Stands mid.known t.name
      ranges t m = all_at (λ t. Stands mid.known t.name) scalars t stand (in_right t (nest_loops b false rs p.loops) (reverse b.ranges) (in_reverse t b.ranges m))

      vector : (l : Loop) → IsInner p.cuts l.name → (kind : Kind) → kind ≡ Vector → kind_of l.mark ≡ kind → turn rs cs (loop_turning rs l) mid ≡ Some new →
          IsLaned new.steps (ranges_at b.ranges new.known)
      vector l made kind e same_kind turn_is =
          let t : Turning = loop_turning rs l in
          let is : kind_of l.mark ≡ Vector = same_kind ∙ e in
          let m = bound (settle_some (inside t.kind) rs cs cs (enter t.name mid)) (λ turned. Some (leave mid.steps mid.next t turned)) new turn_is in
          let left : leave mid.steps mid.next t m.value ≡ new = same (leave mid.steps mid.next t m.value) new m.comes in
          let below : AllByRecursion (λ (k : Known). Only (λ s. s < mid.next) k.form) mid.starts =
          known_weaker (Here Q mid.steps) (λ s. s < mid.next) (below_next Q base mid under h.sits) mid.starts h.sits.starts in
          let settled : settle_some (inside Vector) rs cs cs (enter l.name mid) ≡ Some m.value = ap (λ (k : Kind). settle_some (inside k) rs cs cs (enter l.name mid)) (sym is) ∙ m.is in
          let w = lanes_settle p.cuts named.apart once rs cs mid l.name made below cs sub h.closed m.value settled in
          let steps : new.steps ≡ mid.steps ++ Turns mid.next (span t.low t.last m.value.limits) Vector ∷ m.value.steps =
          ap (λ (a : StandingText). a.steps) (sym left) ∙ ap (λ (k : Kind). mid.steps ++ Turns mid.next (span t.low t.last m.value.limits) k ∷ m.value.steps) is in
          let kept : (y : List ℕ) (f : Form) → form_named mid.known y ≡ Some f → form_named new.known y ≡ Some f = λ y f q. ap (λ (a : StandingText). form_named a.known y) (sym left) ∙ w.1 y f q in
          inr (mid.steps, m.value.steps, mid.next, span t.low t.last m.value.limits, steps, h.scalar, w.0, ranges_stand mid new h.sits kept b.ranges ranges)

      one : (o : Option StandingText) → (o >>= turn_all rs cs []) ≡ Some new → o ≡ Some new
      one None q = absurd (cc q)
      one (Some a) q = q

      of : OneAtMost b rs p.loops (nest_loops b true rs p.loops) → IsLaned new.steps (ranges_at b.ranges new.known)
      of (inl none) = inl (subst (λ (a : StandingText). AreScalar a.steps) (same mid new (ap (λ (ts : List Turning). turn_all rs cs ts mid) (sym none) ∙ e)) h.scalar)
      of (inr (l, m, v, are)) =
          let turn_is : turn rs cs (loop_turning rs l) mid ≡ Some new = one (turn rs cs (loop_turning rs l) mid) (ap (λ (ts : List Turning). turn_all rs cs ts mid) (sym are) ∙ e) in
          vector l (lanes_inner p named l m v) (kind_of l.mark) (kind_vector b rs l.mark v) refl turn_is

  -- the nest that is made
  pub nest_laned : (st new : StandingText) → st.steps ≡ [] → Sits Q base st → nest_in xs p rs b st ≡ Some new → IsLaned new.steps (ranges_at b.ranges new.known)
  nest_laned st new empty sits e =
      let m = bound (settle_some (inside Serial) rs cs cs st) (turn_all rs cs (nest_turns b rs p.loops)) new e in
      let first : Before m.value = record {
        scalar = settled_scalar (inside Serial) rs cs cs st m.value (subst AreScalar (sym empty) tt) m.is;
        closed = pass_closes p.cuts named.apart once Serial rs cs cs sub st m.value m.is;
        sits = settled_here Q base (inside Serial) rs cs cs st m.value sits m.is;
      } in
      let parts = turned_parts rs cs scalars (nest_loops b true rs p.loops) m.value new m.comes in
      let kinds : AllByRecursion (λ (t : Turning). IsScalar t.kind) scalars =
      all_both (λ (t : Turning). IsScalar t.kind) (nest_loops b false rs p.loops) (reverse b.ranges) (scalar_loops b rs (reverse p.loops))
      (all_reverse (λ (t : Turning). IsScalar t.kind) b.ranges serial) in
      let w = all_turned p.cuts named.apart once rs cs sub Q base scalars kinds m.value parts.mid first parts.first in
      laned parts.mid new w.0 w.2 parts.second

-- ---- the nests of a skeleton

abbrev pub AreSerial : BodyText → Type 0
AreSerial b = AllByRecursion (λ (t : Turning). IsScalar t.kind) b.ranges

pub record IsLanedNest (xs : List (List ℕ)) (bs : List BodyText) (d : ℕ) (n : NestText) : Type 0 where
  pub body : BodyText
  pub standing : StandingText
  pub at : slice_get bs d ≡ Some body
  pub is : n ≡ nest_of xs body standing
  pub laned : IsLaned n.steps (ranges_at body.ranges standing.known)

module _ (xs : List (List ℕ)) (p : PlacedText) (named : IsNamed p) (once : AreOnce p.cuts) (lanes : AllByRecursion (λ l. is_vectorized l ≡ false) (drop 1 p.loops)) (rs : List Numbers) (Q : ℕ → Type 0)
    (head : StandingText) (over : KnownOnly Q head.known) (begin_over : KnownOnly Q head.starts) (limits_over : AreOnly Q head.limits) (under : (s : ℕ) → Q s → s < head.next) where
  nests_laned : (bs : List BodyText) → AllByRecursion AreSerial bs → (next : ℕ) → head.next ≤ next → (ns : List NestText) → nests_in xs p rs head bs next ≡ Some ns → (d : ℕ) (n : NestText) →
      slice_get ns d ≡ Some n → IsLanedNest xs bs d n
  nests_laned [] serial next least ns e d n at = absurd (none (subst (λ (l : List NestText). slice_get l d ≡ Some n) (sym (same [] ns e)) at))
    where
      none : None ≡ Some n → ⊥
      none q = cc
  nests_laned (b ∷ bs) serial next least ns e d n at =
      let m = bound (nest_in xs p rs b (begun next head)) (λ st. nests_in xs p rs head bs st.next >>= λ nests. Some (nest_of xs b st ∷ nests)) ns e in
      let r = bound (nests_in xs p rs head bs m.value.next) (λ nests. Some (nest_of xs b m.value ∷ nests)) ns m.comes in
      let first : Sits Q next (begun next head) = record {
        known = known_weaker Q (Here Q []) (λ s k. inl k) head.known over;
        starts = known_weaker Q (Here Q []) (λ s k. inl k) head.starts begin_over;
        limits = are_weaker Q (Here Q []) (λ s k. inl k) head.limits limits_over;
        over = tt;
        rises = refl;
      } in
      let up = rises_up next m.value.next m.value.steps (nest_sits Q xs p rs head over begin_over limits_over b next m.value m.is).rises in
      let laned = nest_laned xs p named once lanes rs b serial.0 Q next (λ s q. let less = under s q in omega (arith, less, least)) (begun next head) m.value refl first m.is in
      let there = subst (λ (l : List NestText). slice_get l d ≡ Some n) (sym (same (nest_of xs b m.value ∷ r.value) ns r.comes)) at in
      by m.value laned r.value d there (λ j i. nests_laned bs serial.1 m.value.next (omega (arith, least, up)) r.value r.is j n i)
    where
      by : (st : StandingText) → IsLaned st.steps (ranges_at b.ranges st.known) → (rest : List NestText) (j : ℕ) → slice_get (nest_of xs b st ∷ rest) j ≡ Some n →
          ((j : ℕ) → slice_get rest j ≡ Some n → IsLanedNest xs bs j n) → IsLanedNest xs (b ∷ bs) j n
      by st laned rest zero i later =
          let is : nest_of xs b st ≡ n = same (nest_of xs b st) n i in
          record { body = b; standing = st; at = refl; is = sym is; laned = subst (λ (m : NestText). IsLaned m.steps (ranges_at b.ranges st.known)) is laned }
      by st laned rest (suc j) i later = let w = later j i in record { body = w.body; standing = w.standing; at = w.at; is = w.is; laned = w.laned }

pub skeleton_laned : (xs : List (List ℕ)) (bs : List BodyText) (p : PlacedText) (region : List Extent) (k : SkeletonText) → IsNamed p → AreOnce p.cuts →
    AllByRecursion (λ l. is_vectorized l ≡ false) (drop 1 p.loops) → AllByRecursion AreSerial bs → skeleton_in xs bs p region ≡ Some k → (d : ℕ) (n : NestText) → slice_get k.nests d ≡ Some n →
    IsLanedNest xs bs d n
skeleton_laned xs bs p region k named once lanes serial e d n at =
    let rs : List Numbers = loop_numbers xs p.cuts region in
    let cs : List Split = cuts_by_variable p.cuts xs in
    let grid : List ℕ = piece_counts rs p.loops in
    let b = bound (settle_some at_grid rs cs cs (over_grid rs p))
    (λ head. nests_in xs p rs head bs head.next >>= λ nests. Some (record { grid = grid; head = head.steps; nests = nests; known = head.known; starts = head.starts })) k e in
    let m = bound (nests_in xs p rs b.value bs b.value.next) (λ nests. Some (record { grid = grid; head = b.value.steps; nests = nests; known = b.value.known; starts = b.value.starts })) k b.comes in
    let made : SkeletonText = record { grid = grid; head = b.value.steps; nests = m.value; known = b.value.known; starts = b.value.starts } in
    let s = head_sits xs p region b.value b.is in
    let under : (i : ℕ) → Here (λ j. j < length grid) b.value.steps i → i < b.value.next = below_next (λ j. j < length grid) (length grid) b.value (λ i less. less) s in
    nests_laned xs p named once lanes rs (Here (λ j. j < length grid) b.value.steps) b.value s.known s.starts s.limits under bs serial b.value.next (omega arith) m.value m.is d n
    (ap (λ (s : SkeletonText). slice_get s.nests d) (same made k m.comes) ∙ at)
