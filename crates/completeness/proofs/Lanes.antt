-- What stands inside a vectorised loop, where no loop that a split makes is split again: its store, which one guard may admit.
use Rattle.std.proofs.Common.{◌≡◌, ℕ, ◌<◌, Bool, true, false, List, [], ◌∷◌, ◌++◌, Option, Some, None, refl, sym, ap, ◌∙◌, subst, inl, inr, ◌⊎◌, arith}
use Rattle.std.specs.Prelude.{ℤ, pos, negsuc, ◌+ℤ◌, ◌*ℤ◌, ◌==◌, nat_lt, if◌then◌else◌}
use Rattle.std.specs.List.{AllByRecursion, find}
use Rattle.std.specs.Option.{option_map, option_or}
use Rattle.std.proofs.lemmas.List.Folds.{find-append}
use Rattle.std.proofs.lemmas.Bool.Decides.{nat_tests}
use Rattle.lin.specs.Forms.{Form, number, combined, without, factor_of, plus_term}
use Rattle.lin.specs.declared.form.Multiple.{Multiple}
use Rattle.lin.proofs.Limits.{combined-means}
use Rattle.meaning.specs.Names.{same_name}
use Rattle.plan.specs.declared.stmt.Kind.{Kind}
use Rattle.plan.specs.declared.stmt.Kind.TheVariants.{Vector}
use Rattle.sched.specs.declared.schedule.Split.{Split}
use Rattle.sched.specs.declared.numbers.Numbers.{Numbers}
use Rattle.sched.specs.declared.skeleton.Known.{Known}
use Rattle.sched.specs.declared.skeleton.Step.{Step}
use Rattle.sched.specs.declared.skeleton.Step.TheVariants.{Tested}
use Rattle.sched.specs.Numbers.{numbers_named, last_number}
use Rattle.sched.specs.Standing.{◌>>=◌, StandingText, form_named, alone, is_now, begin, is_guarded, innermost, keep_by_test, keep_within, put_together, join_over, join, settle_some}
use Rattle.sched.specs.Skeleton.{enter, inside}
use Rattle.sched.proofs.Leading.{In}
use Rattle.sched.proofs.Standings.{Stands, stands_not, stands_more, stands_last, found_all, found_more, Begins, stood, waits, plainly, shifted, begins}
use Rattle.sched.proofs.Passing.{IsClosed}
use Rattle.sched.proofs.Closing.{Begun, Joined, next_of}
use Rattle.sched.proofs.Looping.{no_grid}
use Rattle.soundness.proofs.Refines.{eq_refl}
use Rattle.blocks.proofs.Laying.{bound, same}
use Rattle.completeness.proofs.Only.{Only}
use Rattle.completeness.proofs.Halves.{IsInner, AreOthers, by_whole, by_inner, inner_outer}

-- ---- the factor of a lane

-- behind terms of other symbols before it, the symbol has the factor 1
abbrev one_of : ℕ → Multiple
one_of lane = record { symbol = lane; factor = pos 1 *ℤ pos 1 }

if_first : {A : Type 0} (b : Bool) (x y : A) → b ≡ true → (if b then x else y) ≡ x
if_first true x y e = refl
if_first false x y e = absurd (cc e)

lane_last : (lane : ℕ) (ts : List Multiple) → AllByRecursion (λ t. t.symbol < lane) ts → factor_of (plus_term ts (one_of lane)) lane ≡ pos 1
lane_last lane [] h = (let here : (lane == lane) ≡ true = eq_refl lane in ap (λ (b : Bool). (if b then pos 1 else pos 0) +ℤ pos 0) here)
lane_last lane (t ∷ ts) h =
    let less = h.0 in
    let behind : nat_lt t.symbol lane ≡ true = grind (arith, nat_tests) in
    let other : (t.symbol == lane) ≡ false = grind (arith, nat_tests) in
    let there : plus_term (t ∷ ts) (one_of lane) ≡ t ∷ plus_term ts (one_of lane) = if_first (nat_lt t.symbol lane) (t ∷ plus_term ts (one_of lane)) _ behind in
    ap (λ (us : List Multiple). factor_of us lane) there
    ∙ ap (λ (b : Bool). (if b then t.factor else pos 0) +ℤ factor_of (plus_term ts (one_of lane)) lane) other ∙ ap (λ (z : ℤ). pos 0 +ℤ z) (lane_last lane ts h.1)

-- a block's first number, of symbols before the lane's, and the lane
lane_factor : (lane : ℕ) (start form : Form) → Only (λ s. s < lane) start → combined start (pos 1) (alone lane) ≡ Some form → factor_of form.terms lane ≡ pos 1
lane_factor lane start form h e = ap (λ (f : Form). factor_of f.terms lane) (combined-means start (pos 1) (alone lane) form e).is ∙ lane_last lane start.terms h

-- an earlier form of a name is found first
pub kept_more : (ks more : List Known) (y : List ℕ) (f : Form) → form_named ks y ≡ Some f → form_named (ks ++ more) y ≡ Some f
kept_more ks more y f e =
    let test : Known → Bool = λ k. same_name k.name y in
    ap (λ (o : Option Known). option_map (λ (k : Known). k.form) o) (find-append test ks more) ∙ of (find test ks) (find test more) e
  where
    of : (o p : Option Known) → option_map (λ (k : Known). k.form) o ≡ Some f → option_map (λ (k : Known). k.form) (option_or o p) ≡ Some f
    of (Some k) p q = q
    of None p q = absurd (cc q)

-- ---- one split, inside a vectorised loop

-- the position in the loop that is split is put together now, and kept in it by no step or by a guard alone
record IsPut (c : Split) (r : Numbers) (m new : StandingText) : Type 0 where
  start : Form
  inner : Form
  form : Form
  none : form_named m.known c.whole ≡ None
  first : form_named m.starts c.whole ≡ Some start
  second : form_named m.known c.inner ≡ Some inner
  sum : combined start (pos 1) inner ≡ Some form
  known : new.known ≡ m.known ++ record { name = c.whole; form = form } ∷ []
  starts : new.starts ≡ m.starts
  steps : (new.steps ≡ m.steps) ⊎ (new.steps ≡ m.steps ++ Tested form (number (last_number r)) ∷ [])

module _ (c : Split) (r : Numbers) (m new : StandingText) where
  some_text : (a : StandingText) → Some a ≡ Some new → new ≡ a
  some_text a e = cc e

  module _ (start inner form : Form) (none : form_named m.known c.whole ≡ None) (first : form_named m.starts c.whole ≡ Some start) (second : form_named m.known c.inner ≡ Some inner)
      (sum : combined start (pos 1) inner ≡ Some form) where
    put_as : (text : StandingText) → text.known ≡ m.known ++ record { name = c.whole; form = form } ∷ [] → text.starts ≡ m.starts →
        (text.steps ≡ m.steps) ⊎ (text.steps ≡ m.steps ++ Tested form (number (last_number r)) ∷ []) → Some text ≡ Some new → IsPut c r m new
    put_as text known starts steps e =
        subst (IsPut c r m) (sym (some_text text e)) (record {
          start = start;
          inner = inner;
          form = form;
          none = none;
          first = first;
          second = second;
          sum = sum;
          known = known;
          starts = starts;
          steps = steps;
        })

    by_limit : (s : ℕ) (o : Option Form) → (o >>= λ limit. Some (is_now c.whole form (record m { limits = m.limits ++ limit ∷ [] }))) ≡ Some new → IsPut c r m new
    by_limit s (Some limit) e = put_as (is_now c.whole form (record m { limits = m.limits ++ limit ∷ [] })) refl refl (inl refl) e
    by_limit s None e = absurd (cc e)

    within_lanes : (o : Option ℕ) → keep_within (inside Vector) c.whole form (last_number r) m o ≡ Some new → IsPut c r m new
    within_lanes (Some s) e = by_limit s (combined (number (last_number r)) (negsuc 0) (without form s)) e
    within_lanes None e = put_as (keep_by_test c.whole form (last_number r) m) refl refl (inr refl) e

    put : (guarded : Bool) → put_together (inside Vector) guarded c r form m ≡ Some new → IsPut c r m new
    put false e = put_as (is_now c.whole form m) refl refl (inl refl) e
    put true e = within_lanes (innermost m.bound form) e

  by_sum : (guarded : Bool) (start inner : Form) → form_named m.known c.whole ≡ None → form_named m.starts c.whole ≡ Some start → form_named m.known c.inner ≡ Some inner → (o : Option Form) →
      combined start (pos 1) inner ≡ o → (o >>= λ form. put_together (inside Vector) guarded c r form m) ≡ Some new → IsPut c r m new
  by_sum guarded start inner none first second (Some form) h e = put start inner form none first second h guarded e
  by_sum guarded start inner none first second None h e = absurd (cc e)

  by_both : (guarded : Bool) → form_named m.known c.whole ≡ None → (a b : Option Form) → form_named m.starts c.whole ≡ a → form_named m.known c.inner ≡ b →
      join_over (inside Vector) guarded c r a b m ≡ Some new → (new ≡ m) ⊎ IsPut c r m new
  by_both guarded none (Some start) (Some inner) first second e = inr (by_sum guarded start inner none first second (combined start (pos 1) inner) refl e)
  by_both guarded none (Some start) None first second e = inl (some_text m e)
  by_both guarded none None b first second e = inl (some_text m e)

  lanes_join : (guarded : Bool) → join (inside Vector) guarded c r m ≡ Some new → (new ≡ m) ⊎ IsPut c r m new
  lanes_join guarded e = of (form_named m.known c.whole) refl e
    where
      of : (o : Option Form) → form_named m.known c.whole ≡ o →
          (elim o [ Some form ↦ Some m | None ↦ join_over (inside Vector) guarded c r (form_named m.starts c.whole) (form_named m.known c.inner) m ]) ≡ Some new → (new ≡ m) ⊎ IsPut c r m new
      of (Some form) h e = inl (some_text m e)
      of None h e = by_both guarded h (form_named m.starts c.whole) (form_named m.known c.inner) refl refl e

-- ---- splits of loops that no split makes

-- no step inside the loop of this symbol, or a guard alone that its lanes pass in order
abbrev pub LaneSteps : ℕ → List Step → Type 0
LaneSteps lane steps = (steps ≡ []) ⊎ ((low : Form) × (last : ℤ) × (steps ≡ Tested low (number last) ∷ []) × (factor_of low.terms lane ≡ pos 1))

-- no split is of a loop that one of these makes
abbrev pub AreOnce : List Split → Type 0
AreOnce cuts = (c d : Split) → In c cuts → In d cuts → (c.whole ≡ d.outer → ⊥) × (c.whole ≡ d.inner → ⊥)

module _ (cuts : List Split) (others : AreOthers cuts) (once : AreOnce cuts) where
  -- ---- a pass over all splits closes them

  module _ (kind : Kind) (rs : List Numbers) (all : List Split) where
    now_closed : (c : Split) → In c cuts → (st mid new : StandingText) → Begun c st mid → Joined (inside kind) c mid new → IsClosed new c
    now_closed c m st mid new h k = record {
      begun = (λ a. first (k.only c.outer a));
      joined = (λ a n. second (subst (λ (ks : List Known). Stands ks c.whole) k.starts a) (k.only c.inner n));
    }
      where
        first : Stands mid.known c.outer ⊎ (c.whole ≡ c.outer) → Stands new.starts c.whole
        first (inl a) = subst (λ (ks : List Known). Stands ks c.whole) (sym k.starts) (h.here (subst (λ (ks : List Known). Stands ks c.outer) h.known a))
        first (inr e) = absurd ((once c c m m).0 e)

        second : Stands mid.starts c.whole → Stands mid.known c.inner ⊎ (c.whole ≡ c.inner) → Stands new.known c.whole
        second a (inl n) = k.here (no_grid kind) a n
        second a (inr e) = absurd ((once c c m m).1 e)

    on_closed : (c d : Split) → In c cuts → In d cuts → (st mid new : StandingText) → IsClosed st c → Begun d st mid → Joined (inside kind) d mid new → IsClosed new c
    on_closed c d mc md st mid new was h k = record {
      begun = (λ a. first (k.only c.outer a));
      joined = (λ a n. second a n (h.only c.whole (subst (λ (ks : List Known). Stands ks c.whole) k.starts a)) (k.only c.inner n));
    }
      where
        first : Stands mid.known c.outer ⊎ (d.whole ≡ c.outer) → Stands new.starts c.whole
        first (inl a) = subst (λ (ks : List Known). Stands ks c.whole) (sym k.starts) (h.more c.whole (was.begun (subst (λ (ks : List Known). Stands ks c.outer) h.known a)))
        first (inr e) = absurd ((once d c md mc).0 e)

        second : Stands new.starts c.whole → Stands new.known c.inner → Stands st.starts c.whole ⊎ (d.whole ≡ c.whole) → Stands mid.known c.inner ⊎ (d.whole ≡ c.inner) → Stands new.known c.whole
        second a n (inl s) (inl t) = k.more c.whole (subst (λ (ks : List Known). Stands ks c.whole) (sym h.known) (was.joined s (subst (λ (ks : List Known). Stands ks c.inner) h.known t)))
        second a n (inl s) (inr e) = absurd ((once d c md mc).1 e)
        second a n (inr e) t = (subst (IsClosed new) (by_whole cuts others d c md mc e) (now_closed d md st mid new h k)).joined a n

    through : (c : Split) → In c cuts → (cs : List Split) → AllByRecursion (λ d. In d cuts) cs → (st new : StandingText) → settle_some (inside kind) rs all cs st ≡ Some new →
        IsClosed st c → IsClosed new c
    through c m [] sub st new e h = subst (λ (a : StandingText). IsClosed a c) (same st new e) h
    through c m (d ∷ cs) sub st new e h =
        let k = next_of (inside kind) rs all d cs st new e in
        through c m cs sub.1 k.joins new k.rest (on_closed c d m sub.0 st k.begins k.joins h k.first k.second)

    pub pass_closes : (cs : List Split) → AllByRecursion (λ d. In d cuts) cs → (st new : StandingText) → settle_some (inside kind) rs all cs st ≡ Some new → AllByRecursion (IsClosed new) cs
    pass_closes [] sub st new e = tt
    pass_closes (c ∷ cs) sub st new e =
        let k = next_of (inside kind) rs all c cs st new e in
        (through c sub.0 cs sub.1 k.joins new k.rest (now_closed c sub.0 st k.begins k.joins k.first k.second), pass_closes cs sub.1 k.joins new k.rest)

  -- ---- inside a vectorised loop

  -- where this stands before the loop of this name, which is the inner one of a split
  module _ (rs : List Numbers) (all : List Split) (st : StandingText) (x : List ℕ) (made : IsInner cuts x) (below : AllByRecursion (λ (k : Known). Only (λ s. s < st.next) k.form) st.starts) where
    abbrev first : StandingText
    first = enter x st

    -- one split is put together
    record HasJoined (new : StandingText) : Type 0 where
      split : Split
      there : In split cuts
      inner : split.inner ≡ x
      whole : Stands new.known split.whole
      known : (y : List ℕ) → Stands new.known y → Stands first.known y ⊎ (split.whole ≡ y)
      more : (y : List ℕ) → Stands first.known y → Stands new.known y
      kept : (y : List ℕ) (f : Form) → form_named st.known y ≡ Some f → form_named new.known y ≡ Some f
      starts : new.starts ≡ st.starts
      steps : LaneSteps st.next new.steps

    abbrev State : StandingText → Type 0
    State new = (new ≡ first) ⊎ HasJoined new

    entered : (y : List ℕ) → Stands first.known y → Stands st.known y ⊎ (x ≡ y)
    entered y h = of (found_more st.known (record { name = x; form = alone st.next }) y h.0 h.1)
      where
        of : (form_named st.known y ≡ Some h.0) ⊎ ((x ≡ y) × (alone st.next ≡ h.0)) → Stands st.known y ⊎ (x ≡ y)
        of (inl e) = inl (h.0, e)
        of (inr e) = inr e.0

    starts_are : (m : StandingText) → State m → m.starts ≡ st.starts
    starts_are m (inl e) = ap (λ (a : StandingText). a.starts) e
    starts_are m (inr j) = j.starts

    -- an outer loop stands as before
    outer_stands : (m : StandingText) → State m → (c : Split) → In c cuts → Stands m.known c.outer → Stands st.known c.outer
    outer_stands m s c mc h = of s
      where
        before : Stands first.known c.outer → Stands st.known c.outer
        before k = elim (entered c.outer k) [ inl q ↦ q | inr e ↦ absurd (inner_outer cuts others made.0 c made.1 mc (made.2 ∙ e)) ]

        of : State m → Stands st.known c.outer
        of (inl e) = before (subst (λ (a : StandingText). Stands a.known c.outer) e h)
        of (inr j) = elim (j.known c.outer h) [ inl k ↦ before k | inr e ↦ absurd ((once j.split c j.there mc).0 e) ]

    begins_nothing : (m mid : StandingText) → State m → (c : Split) → In c cuts → IsClosed st c → Begins c (numbers_named rs c.whole) m mid → mid ≡ m
    begins_nothing m mid s c mc closed (stood k e) = e
    begins_nothing m mid s c mc closed (waits k e) = e
    begins_nothing m mid s c mc closed (plainly outer form none some sum is e) =
        absurd (stands_not m.starts c.whole none (subst (λ (ks : List Known). Stands ks c.whole) (sym (starts_are m s)) (closed.begun (outer_stands m s c mc (outer, some)))))
    begins_nothing m mid s c mc closed (shifted outer form none some sum is e) =
        absurd (stands_not m.starts c.whole none (subst (λ (ks : List Known). Stands ks c.whole) (sym (starts_are m s)) (closed.begun (outer_stands m s c mc (outer, some)))))

    -- a split whose inner loop stood before has been put together
    was_whole : (m : StandingText) → State m → (c : Split) → IsClosed st c → Stands m.starts c.whole → Stands st.known c.inner → Stands m.known c.whole
    was_whole m s c closed start inner =
        let whole = stands_more st.known (record { name = x; form = alone st.next }) c.whole (closed.joined (subst (λ (ks : List Known). Stands ks c.whole) (starts_are m s) start) inner) in
        of s whole
      where
        of : State m → Stands first.known c.whole → Stands m.known c.whole
        of (inl e) h = subst (λ (a : StandingText). Stands a.known c.whole) (sym e) h
        of (inr j) h = j.more c.whole h

    -- the split of this loop
    joins_first : (new : StandingText) (c : Split) → In c cuts → IsClosed st c → IsPut c (numbers_named rs c.whole) first new → HasJoined new
    joins_first new c mc closed p = of (found_more st.known (record { name = x; form = alone st.next }) c.inner p.inner p.second)
      where
        lane : combined p.start (pos 1) (alone st.next) ≡ Some p.form → factor_of p.form.terms st.next ≡ pos 1
        lane e = lane_factor st.next p.start p.form (found_all (λ y f. Only (λ s. s < st.next) f) st.starts c.whole p.start below p.first) e

        steps : combined p.start (pos 1) (alone st.next) ≡ Some p.form → (new.steps ≡ []) ⊎ (new.steps ≡ Tested p.form (number (last_number (numbers_named rs c.whole))) ∷ []) →
            LaneSteps st.next new.steps
        steps e (inl q) = inl q
        steps e (inr q) = inr (p.form, last_number (numbers_named rs c.whole), q, lane e)

        more : (y : List ℕ) → Stands first.known y → Stands new.known y
        more y h = subst (λ (ks : List Known). Stands ks y) (sym p.known) (stands_more first.known (record { name = c.whole; form = p.form }) y h)

        known : (y : List ℕ) → Stands new.known y → Stands first.known y ⊎ (c.whole ≡ y)
        known y h = again (found_more first.known (record { name = c.whole; form = p.form }) y h.0 (ap (λ (ks : List Known). form_named ks y) (sym p.known) ∙ h.1))
          where
            again : (form_named first.known y ≡ Some h.0) ⊎ ((c.whole ≡ y) × (p.form ≡ h.0)) → Stands first.known y ⊎ (c.whole ≡ y)
            again (inl e) = inl (h.0, e)
            again (inr e) = inr e.0

        kept : (y : List ℕ) (f : Form) → form_named st.known y ≡ Some f → form_named new.known y ≡ Some f
        kept y f e =
            ap (λ (ks : List Known). form_named ks y) p.known
            ∙ kept_more first.known (record { name = c.whole; form = p.form } ∷ []) y f (kept_more st.known (record { name = x; form = alone st.next } ∷ []) y f e)

        of : (form_named st.known c.inner ≡ Some p.inner) ⊎ ((x ≡ c.inner) × (alone st.next ≡ p.inner)) → HasJoined new
        of (inl e) = absurd (stands_not first.known c.whole p.none (was_whole first (inl refl) c closed (p.start, p.first) (p.inner, e)))
        of (inr e) = record {
          split = c;
          there = mc;
          inner = sym e.0;
          whole = subst (λ (ks : List Known). Stands ks c.whole) (sym p.known) (stands_last first.known (record { name = c.whole; form = p.form }));
          known = known;
          more = more;
          kept = kept;
          starts = p.starts;
          steps = steps (ap (combined p.start (pos 1)) e.1 ∙ p.sum) p.steps;
        }

    -- and no other
    joins_once : (m new : StandingText) → HasJoined m → (c : Split) → In c cuts → IsClosed st c → IsPut c (numbers_named rs c.whole) m new → ⊥
    joins_once m new j c mc closed p = of (j.known c.inner (p.inner, p.second))
      where
        before : Stands st.known c.inner ⊎ (x ≡ c.inner) → ⊥
        before (inl k) = stands_not m.known c.whole p.none (was_whole m (inr j) c closed (p.start, p.first) k)
        before (inr e) =
            let same_split : j.split ≡ c = by_inner cuts others j.split c j.there mc (j.inner ∙ e) in
            stands_not m.known c.whole p.none (subst (λ (d : Split). Stands m.known d.whole) same_split j.whole)

        of : Stands first.known c.inner ⊎ (j.split.whole ≡ c.inner) → ⊥
        of (inl k) = before (entered c.inner k)
        of (inr e) = (once j.split c j.there mc).1 e

    next_state : (m new : StandingText) → State m → (c : Split) → In c cuts → IsClosed st c → (new ≡ m) ⊎ IsPut c (numbers_named rs c.whole) m new → State new
    next_state m new s c mc closed (inl e) = subst State (sym e) s
    next_state m new (inl e) c mc closed (inr p) = inr (joins_first new c mc closed (subst (λ (a : StandingText). IsPut c (numbers_named rs c.whole) a new) e p))
    next_state m new (inr j) c mc closed (inr p) = absurd (joins_once m new j c mc closed p)

    pass : (cs : List Split) → AllByRecursion (λ d. In d cuts) cs → AllByRecursion (IsClosed st) cs → (m new : StandingText) → State m → settle_some (inside Vector) rs all cs m ≡ Some new → State new
    pass [] sub closed m new s e = subst State (same m new e) s
    pass (c ∷ cs) sub closed m new s e =
        let r : Numbers = numbers_named rs c.whole in
        let b = bound (begin c r m) (λ begun. join (inside Vector) (is_guarded rs all c) c r begun >>= settle_some (inside Vector) rs all cs) new e in
        let j = bound (join (inside Vector) (is_guarded rs all c) c r b.value) (settle_some (inside Vector) rs all cs) new b.comes in
        let nothing : b.value ≡ m = begins_nothing m b.value s c sub.0 closed.0 (begins c r m b.value b.is) in
        let put = lanes_join c r m j.value (is_guarded rs all c) (ap (join (inside Vector) (is_guarded rs all c) c r) (sym nothing) ∙ j.is) in
        pass cs sub.1 closed.1 j.value new (next_state m j.value s c sub.0 closed.0 put) j.comes

    -- what stands inside the loop, and that forms that stood before stand as they did
    pub lanes_settle : (cs : List Split) → AllByRecursion (λ d. In d cuts) cs → AllByRecursion (IsClosed st) cs → (new : StandingText) → settle_some (inside Vector) rs all cs (enter x st) ≡ Some new →
        LaneSteps st.next new.steps × ((y : List ℕ) (f : Form) → form_named st.known y ≡ Some f → form_named new.known y ≡ Some f)
    lanes_settle cs sub closed new e = of (pass cs sub closed first new (inl refl) e)
      where
        of : State new → LaneSteps st.next new.steps × ((y : List ℕ) (f : Form) → form_named st.known y ≡ Some f → form_named new.known y ≡ Some f)
        of (inl q) = (
          inl (ap (λ (a : StandingText). a.steps) q),
          λ y f k. ap (λ (a : StandingText). form_named a.known y) q ∙ kept_more st.known (record { name = x; form = alone st.next } ∷ []) y f k,
        )
        of (inr j) = (j.steps, j.kept)
