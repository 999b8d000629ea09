-- The loops of reduction variables stand one behind another in each nest: of each the symbol is bound by its numbers alone, and is the variable's form.
use Rattle.std.proofs.Common.{◌≡◌, ℕ, zero, suc, ◌+◌, ◌≤◌, Bool, true, false, List, [], ◌∷◌, ◌++◌, length, map, reverse, Option, Some, None, refl, sym, ap, ◌∙◌, subst, inl, inr}
use Rattle.std.proofs.Common.{append_assoc, append-nil, length-append, arith}
use Rattle.std.specs.Prelude.{◌-◌, replicate, slice_get, if◌then◌else◌}
use Rattle.std.specs.List.{AllByRecursion, find}
use Rattle.std.specs.Option.{option_map, option_or}
use Rattle.std.proofs.lemmas.List.Folds.{find-append}
use Rattle.std.proofs.lemmas.List.{length-map, length-replicate, length-reverse, reverse-append}
use Rattle.lin.specs.Forms.{Form, number}
use Rattle.lin.specs.declared.scope.Binding.{Binding}
use Rattle.lin.specs.declared.scope.Binding.TheVariants.{Loop, LetMin, LetMax}
use Rattle.bounds.proofs.ListSound.{all-append}
use Rattle.plan.specs.declared.stmt.Pick.TheVariants.{Min, Max}
use Rattle.headline.proofs.Lists.{at_left, at_right}
use Rattle.sched.specs.declared.schedule.Split.{Split}
use Rattle.sched.specs.declared.placing.Loop.{Loop as LoopMade}
use Rattle.sched.specs.declared.numbers.Numbers.{Numbers}
use Rattle.sched.specs.declared.numbers.Extent.{Extent}
use Rattle.sched.specs.declared.nest.Turning.{Turning}
use Rattle.sched.specs.declared.skeleton.Known.{Known}
use Rattle.sched.specs.declared.skeleton.Step.{Step}
use Rattle.sched.specs.declared.skeleton.Step.TheVariants.{Turns, Named, Tested}
use Rattle.sched.specs.Numbers.{numbers_named, loop_numbers, last_number, parallel_loops, piece_counts}
use Rattle.sched.specs.Placing.{PlacedText}
use Rattle.sched.specs.Order.{Ordered}
use Rattle.sched.proofs.Arriving.{skeletal}
use Rattle.completeness.proofs.PureNests.{all_from}
use Rattle.completeness.proofs.UpdateTurns.{all_mapped, all_filtered}
use Rattle.lin.proofs.TermLemmas.{all_weaker}
use Rattle.sched.specs.Placing.{is_parallel}
use Rattle.sched.specs.Skeleton.{is_in_nest}
use Rattle.plan.specs.declared.stmt.Kind.TheVariants.{Serial}
use Rattle.std.specs.Prelude.{filter}
use Rattle.completeness.proofs.Owned.{some_same}
use Rattle.std.proofs.lemmas.Option.{slice_get_within}
use Rattle.sched.specs.Standing.{◌>>=◌, StandingText, form_named, alone, room, is_guarded, settle_some, cuts_by_variable}
use Rattle.sched.specs.Skeleton.{BodyText, NestText, SkeletonText, enter, leave, inside, turn, turn_all, span, loop_turning, range_turning, kept_from, nest_loops, nest_turns, ranges_at}
use Rattle.sched.specs.Skeleton.{begun, nest_in, nest_of, nests_in, variables_at, grid_forms, over_grid, skeleton_in}
use Rattle.meaning.specs.Names.{same_name}
use Rattle.meaning.specs.Algorithm.{Range}
use Rattle.meaning.specs.Conditions.{AreDistinct}
use Rattle.soundness.proofs.Refines.{name_refl}
use Rattle.sched.proofs.Leading.{In}
use Rattle.sched.proofs.Rooting.{all_reverse, all_by_variable}
use Rattle.sched.proofs.Standings.{stands_not, stands_more, found_all, found_more, Begins, stood, waits, plainly, shifted, Joins, stays, puts, Puts, freely, by_loop, by_guard, by_test}
use Rattle.sched.proofs.Passing.{IsClosed}
use Rattle.sched.proofs.Closing.{next_of}
use Rattle.sched.specs.Around.{anything, skip_to, bind, bind_step, bind_steps, grid_scope, head_scope, range_names}
use Rattle.blocks.proofs.Laying.{bound, same}
use Rattle.completeness.proofs.Standing.{Within, at_grid}
use Rattle.completeness.proofs.Halves.{AreOthers}
use Rattle.completeness.proofs.Lanes.{AreOnce, pass_closes, kept_more}

-- ---- what is known more, and further steps

module _ (N : List ℕ → Type 0) where
  -- further forms, of such names, and further steps
  record IsLonger (st new : StandingText) : Type 0 where
    known : List Known
    known_is : new.known ≡ st.known ++ known
    named : AllByRecursion (λ k. N k.name) known
    steps : List Step
    steps_are : new.steps ≡ st.steps ++ steps

  longer_same : (st new : StandingText) → new.known ≡ st.known → new.steps ≡ st.steps → IsLonger st new
  longer_same st new k s = record { known = []; known_is = k ∙ sym (append-nil st.known); named = tt; steps = []; steps_are = s ∙ sym (append-nil st.steps) }

  longer_after : (a b c : StandingText) → IsLonger a b → IsLonger b c → IsLonger a c
  longer_after a b c h k = record {
    known = h.known ++ k.known;
    known_is = k.known_is ∙ ap (λ (ks : List Known). ks ++ k.known) h.known_is ∙ append_assoc a.known h.known k.known;
    named = all-append (λ (x : Known). N x.name) h.known k.known h.named k.named;
    steps = h.steps ++ k.steps;
    steps_are = k.steps_are ∙ ap (λ (ss : List Step). ss ++ k.steps) h.steps_are ∙ append_assoc a.steps h.steps k.steps;
  }

  begun_longer : (c : Split) (r : Numbers) (st new : StandingText) → Begins c r st new → IsLonger st new
  begun_longer c r st new (stood s e) = longer_same st new (ap (λ (a : StandingText). a.known) e) (ap (λ (a : StandingText). a.steps) e)
  begun_longer c r st new (waits n e) = longer_same st new (ap (λ (a : StandingText). a.known) e) (ap (λ (a : StandingText). a.steps) e)
  begun_longer c r st new (plainly outer form none some sum is e) = longer_same st new (ap (λ (a : StandingText). a.known) e) (ap (λ (a : StandingText). a.steps) e)
  begun_longer c r st new (shifted outer form none some sum is e) = record {
    known = [];
    known_is = ap (λ (a : StandingText). a.known) e ∙ sym (append-nil st.known);
    named = tt;
    steps = Named st.next Min (form ∷ number (room r c.factor) ∷ []) ∷ [];
    steps_are = ap (λ (a : StandingText). a.steps) e;
  }

  put_longer : (g : Bool) (x : List ℕ) (last : _) (form : Form) (st new : StandingText) → N x → Puts g x last form st new → IsLonger st new
  put_longer g x last form st new n (freely free e) = record {
    known = record { name = x; form = form } ∷ [];
    known_is = ap (λ (a : StandingText). a.known) e;
    named = (n, tt);
    steps = [];
    steps_are = ap (λ (a : StandingText). a.steps) e ∙ sym (append-nil st.steps);
  }
  put_longer g x last form st new n (by_loop s limit i l e) = record {
    known = record { name = x; form = form } ∷ [];
    known_is = ap (λ (a : StandingText). a.known) e;
    named = (n, tt);
    steps = [];
    steps_are = ap (λ (a : StandingText). a.steps) e ∙ sym (append-nil st.steps);
  }
  put_longer g x last form st new n (by_guard e) = record {
    known = record { name = x; form = alone st.next } ∷ [];
    known_is = ap (λ (a : StandingText). a.known) e;
    named = (n, tt);
    steps = Tested form (number last) ∷ Named st.next Min (form ∷ number last ∷ []) ∷ [];
    steps_are = ap (λ (a : StandingText). a.steps) e ∙ append_assoc st.steps (Tested form (number last) ∷ []) (Named st.next Min (form ∷ number last ∷ []) ∷ []);
  }
  put_longer g x last form st new n (by_test e) = record {
    known = record { name = x; form = form } ∷ [];
    known_is = ap (λ (a : StandingText). a.known) e;
    named = (n, tt);
    steps = Tested form (number last) ∷ [];
    steps_are = ap (λ (a : StandingText). a.steps) e;
  }

  joined_longer : (v : Within) (g : Bool) (c : Split) (r : Numbers) (st new : StandingText) → N c.whole → Joins v g c r st new → IsLonger st new
  joined_longer v g c r st new n (stays e k) = longer_same st new (ap (λ (a : StandingText). a.known) e) (ap (λ (a : StandingText). a.steps) e)
  joined_longer v g c r st new n (puts start inner form none one two sum k) = put_longer g c.whole (last_number r) form st new n k

  settled_longer : (v : Within) (rs : List Numbers) (all cs : List Split) (st new : StandingText) → AllByRecursion (λ c. N c.whole) cs → settle_some v rs all cs st ≡ Some new → IsLonger st new
  settled_longer v rs all [] st new h e = (let is = same st new e in longer_same st new (ap (λ (a : StandingText). a.known) (sym is)) (ap (λ (a : StandingText). a.steps) (sym is)))
  settled_longer v rs all (c ∷ cs) st new h e =
      let k = next_of v rs all c cs st new e in
      let r = numbers_named rs c.whole in
      longer_after st k.begins new (begun_longer c r st k.begins k.begun)
      (longer_after k.begins k.joins new (joined_longer v (is_guarded rs all c) c r k.begins k.joins h.0 k.joined) (settled_longer v rs all cs k.joins new h.1 k.rest))

  turned_longer : (rs : List Numbers) (cs : List Split) (t : Turning) (st new : StandingText) → AllByRecursion (λ c. N c.whole) cs → N t.name → turn rs cs t st ≡ Some new → IsLonger st new
  turned_longer rs cs t st new h n e =
      let b = bound (settle_some (inside t.kind) rs cs cs (enter t.name st)) (λ turned. Some (leave st.steps st.next t turned)) new e in
      let left : leave st.steps st.next t b.value ≡ new = same (leave st.steps st.next t b.value) new b.comes in
      let s = settled_longer (inside t.kind) rs cs cs (enter t.name st) b.value h b.is in
      record {
        known = record { name = t.name; form = alone st.next } ∷ s.known;
        known_is = ap (λ (a : StandingText). a.known) (sym left) ∙ s.known_is ∙ append_assoc st.known (record { name = t.name; form = alone st.next } ∷ []) s.known;
        named = (n, s.named);
        steps = Turns st.next (span t.low t.last b.value.limits) t.kind ∷ b.value.steps;
        steps_are = ap (λ (a : StandingText). a.steps) (sym left);
      }

  all_longer : (rs : List Numbers) (cs : List Split) (ts : List Turning) (st new : StandingText) → AllByRecursion (λ c. N c.whole) cs → AllByRecursion (λ (t : Turning). N t.name) ts →
      turn_all rs cs ts st ≡ Some new → IsLonger st new
  all_longer rs cs [] st new h n e = (let is = same st new e in longer_same st new (ap (λ (a : StandingText). a.known) (sym is)) (ap (λ (a : StandingText). a.steps) (sym is)))
  all_longer rs cs (t ∷ ts) st new h n e =
      let b = bound (turn rs cs t st) (turn_all rs cs ts) new e in
      longer_after st b.value new (turned_longer rs cs t st b.value h n.0 b.is) (all_longer rs cs ts b.value new h n.1 b.comes)

-- ---- where all splits are settled, settling changes nothing

module _ (v : Within) (rs : List Numbers) (all : List Split) where
  begun_nothing : (c : Split) (r : Numbers) (st new : StandingText) → IsClosed st c → Begins c r st new → new ≡ st
  begun_nothing c r st new h (stood s e) = e
  begun_nothing c r st new h (waits n e) = e
  begun_nothing c r st new h (plainly outer form none some sum is e) = absurd (stands_not st.starts c.whole none (h.begun (outer, some)))
  begun_nothing c r st new h (shifted outer form none some sum is e) = absurd (stands_not st.starts c.whole none (h.begun (outer, some)))

  joined_nothing : (g : Bool) (c : Split) (r : Numbers) (st new : StandingText) → IsClosed st c → Joins v g c r st new → new ≡ st
  joined_nothing g c r st new h (stays e k) = e
  joined_nothing g c r st new h (puts start inner form none one two sum k) = absurd (stands_not st.known c.whole none (h.joined (start, one) (inner, two)))

  settled_nothing : (cs : List Split) (st new : StandingText) → AllByRecursion (IsClosed st) cs → settle_some v rs all cs st ≡ Some new → new ≡ st
  settled_nothing [] st new h e = sym (same st new e)
  settled_nothing (c ∷ cs) st new h e =
      let k = next_of v rs all c cs st new e in
      let r = numbers_named rs c.whole in
      let one : k.begins ≡ st = begun_nothing c r st k.begins h.0 k.begun in
      let two : k.joins ≡ st = joined_nothing (is_guarded rs all c) c r k.begins k.joins (subst (λ (a : StandingText). IsClosed a c) (sym one) h.0) k.joined ∙ one in
      settled_nothing cs st new h.1 (ap (settle_some v rs all cs) (sym two) ∙ k.rest)

-- ---- loops of reduction variables

abbrev pub symbols_of : ℕ → List Turning → List Known
symbols_of n [] = []
symbols_of n (t ∷ ts) = record { name = t.name; form = alone n } ∷ symbols_of (n + 1) ts

abbrev pub steps_of : ℕ → List Turning → List Step
steps_of n [] = []
steps_of n (t ∷ ts) = Turns n (span t.low t.last []) t.kind ∷ steps_of (n + 1) ts

-- a name that is that of no loop that a split makes
abbrev IsApartFrom : List Split → List ℕ → Type 0
IsApartFrom cs x = AllByRecursion (λ c. (x ≡ c.outer → ⊥) × (x ≡ c.inner → ⊥)) cs

module _ (rs : List Numbers) (cs : List Split) where
  closed_inside : (x : List ℕ) (st : StandingText) (ds : List Split) → IsApartFrom ds x → AllByRecursion (IsClosed st) ds → AllByRecursion (IsClosed (enter x st)) ds
  closed_inside x st [] apart h = tt
  closed_inside x st (c ∷ ds) apart h = (
    record {
      begun = λ s. elim (found_more st.known (record { name = x; form = alone st.next }) c.outer s.0 s.1) [ inl e ↦ h.0.begun (s.0, e) | inr e ↦ absurd (apart.0.0 e.0) ];
      joined = λ s n. stands_more st.known (record { name = x; form = alone st.next }) c.whole
          (elim (found_more st.known (record { name = x; form = alone st.next }) c.inner n.0 n.1) [ inl e ↦ h.0.joined s (n.0, e) | inr e ↦ absurd (apart.0.1 e.0) ]);
    },
    closed_inside x st ds apart.1 h.1,
  )

  -- what stands inside of them
  record AreEntered (ts : List Turning) (st new : StandingText) : Type 0 where
    known : new.known ≡ st.known ++ symbols_of st.next ts
    steps : new.steps ≡ st.steps ++ steps_of st.next ts

  ranges_entered : (ts : List Turning) (st new : StandingText) → AllByRecursion (λ (t : Turning). IsApartFrom cs t.name) ts → AllByRecursion (IsClosed st) cs → turn_all rs cs ts st ≡ Some new →
      AreEntered ts st new
  ranges_entered [] st new apart h e =
      let is = same st new e in
      record { known = ap (λ (a : StandingText). a.known) (sym is) ∙ sym (append-nil st.known); steps = ap (λ (a : StandingText). a.steps) (sym is) ∙ sym (append-nil st.steps) }
  ranges_entered (t ∷ ts) st new apart h e =
      let m = bound (turn rs cs t st) (turn_all rs cs ts) new e in
      let b = bound (settle_some (inside t.kind) rs cs cs (enter t.name st)) (λ turned. Some (leave st.steps st.next t turned)) m.value m.is in
      let closed = closed_inside t.name st cs apart.0 h in
      let nothing : b.value ≡ enter t.name st = settled_nothing (inside t.kind) rs cs cs (enter t.name st) b.value closed b.is in
      let left : leave st.steps st.next t (enter t.name st) ≡ m.value = ap (leave st.steps st.next t) (sym nothing) ∙ same (leave st.steps st.next t b.value) m.value b.comes in
      let inner : StandingText = leave st.steps st.next t (enter t.name st) in
      let rest = ranges_entered ts inner new apart.1 (weak cs closed) (ap (turn_all rs cs ts) left ∙ m.comes) in
      record {
        known = rest.known ∙ append_assoc st.known (record { name = t.name; form = alone st.next } ∷ []) (symbols_of (st.next + 1) ts);
        steps = rest.steps ∙ append_assoc st.steps (Turns st.next (span t.low t.last []) t.kind ∷ []) (steps_of (st.next + 1) ts);
      }
    where
      weak : (ds : List Split) → AllByRecursion (IsClosed (enter t.name st)) ds → AllByRecursion (IsClosed (leave st.steps st.next t (enter t.name st))) ds
      weak [] k = tt
      weak (c ∷ ds) k = (record { begun = k.0.begun; joined = k.0.joined }, weak ds k.1)

-- first some loops, then others
turned_parts : (rs : List Numbers) (cs : List Split) (ts us : List Turning) (st new : StandingText) → turn_all rs cs (ts ++ us) st ≡ Some new →
    (mid : StandingText) × (turn_all rs cs ts st ≡ Some mid) × (turn_all rs cs us mid ≡ Some new)
turned_parts rs cs [] us st new e = (st, refl, e)
turned_parts rs cs (t ∷ ts) us st new e =
    let b = bound (turn rs cs t st) (turn_all rs cs (ts ++ us)) new e in
    let rest = turned_parts rs cs ts us b.value new b.comes in
    (rest.0, ap (λ (o : Option StandingText). o >>= turn_all rs cs ts) b.is ∙ rest.1, rest.2)

-- ---- the scope of steps

-- symbols rise by one
skip_exact : (scope : List Binding) (s : ℕ) → length scope ≤ s → length (skip_to scope s) ≡ s
skip_exact scope s le =
    let all = length-append scope (replicate (s - length scope) (Loop anything)) in
    let many = length-replicate (s - length scope) (Loop anything) in
    omega (arith, all, many, le)

bound_there : (scope : List Binding) (s : ℕ) (b : Binding) → length scope ≤ s → slice_get (bind scope s b) s ≡ Some b
bound_there scope s b le = (let exact = skip_exact scope s le in let place : s ≡ length (skip_to scope s) + 0 = omega (arith, exact) in at_right (skip_to scope s) (b ∷ []) s 0 place)

bound_long : (scope : List Binding) (s : ℕ) (b : Binding) → length scope ≤ s → length (bind scope s b) ≡ s + 1
bound_long scope s b le = (let exact = skip_exact scope s le in let all = length-append (skip_to scope s) (b ∷ []) in omega (arith, exact, all))

bound_kept : (scope : List Binding) (s : ℕ) (b : Binding) (i : ℕ) (x : Binding) → slice_get scope i ≡ Some x → slice_get (bind scope s b) i ≡ Some x
bound_kept scope s b i x h = at_left (skip_to scope s) (b ∷ []) i x (at_left scope (replicate (s - length scope) (Loop anything)) i x h)

step_kept : (scope : List Binding) (t : Step) (i : ℕ) (x : Binding) → slice_get scope i ≡ Some x → slice_get (bind_step scope t) i ≡ Some x
step_kept scope (Turns s y kind) i x h = bound_kept scope s (Loop y) i x h
step_kept scope (Named s Min fs) i x h = bound_kept scope s (LetMin fs) i x h
step_kept scope (Named s Max fs) i x h = bound_kept scope s (LetMax fs) i x h
step_kept scope (Tested low high) i x h = h

steps_kept : (scope : List Binding) (ts : List Step) (i : ℕ) (x : Binding) → slice_get scope i ≡ Some x → slice_get (bind_steps scope ts) i ≡ Some x
steps_kept scope [] i x h = h
steps_kept scope (t ∷ ts) i x h = steps_kept (bind_step scope t) ts i x (step_kept scope t i x h)

steps_joined : (scope : List Binding) (ps qs : List Step) → bind_steps scope (ps ++ qs) ≡ bind_steps (bind_steps scope ps) qs
steps_joined scope [] qs = refl
steps_joined scope (a ∷ ps) qs = steps_joined (bind_step scope a) ps qs

-- after steps in their order there are no more symbols than those
ordered_long : (scope : List Binding) (from to : ℕ) (ts : List Step) → Ordered from ts to → length scope ≤ from → length (bind_steps scope ts) ≤ to
ordered_long scope from to [] o le = omega (arith, o, le)
ordered_long scope from to (Turns s x kind ∷ ts) o le =
    let here = o.0 in
    let long = bound_long scope s (Loop x) (omega (arith, here, le)) in
    ordered_long (bind scope s (Loop x)) (from + 1) to ts o.2 (omega (arith, long, here))
ordered_long scope from to (Named s Min fs ∷ ts) o le =
    let here = o.0 in
    let long = bound_long scope s (LetMin fs) (omega (arith, here, le)) in
    ordered_long (bind scope s (LetMin fs)) (from + 1) to ts o.3 (omega (arith, long, here))
ordered_long scope from to (Named s Max fs ∷ ts) o le =
    let here = o.0 in
    let long = bound_long scope s (LetMax fs) (omega (arith, here, le)) in
    ordered_long (bind scope s (LetMax fs)) (from + 1) to ts o.3 (omega (arith, long, here))
ordered_long scope from to (Tested low high ∷ ts) o le = ordered_long scope from to ts o le

ordered_parts : (from to : ℕ) (ps qs : List Step) → Ordered from (ps ++ qs) to → (mid : ℕ) × Ordered from ps mid × Ordered mid qs to
ordered_parts from to [] qs o = (from, refl, o)
ordered_parts from to (Turns s x kind ∷ ps) qs o = (let r = ordered_parts (from + 1) to ps qs o.2 in (r.0, (o.0, o.1, r.1), r.2))
ordered_parts from to (Named s pick fs ∷ ps) qs o = (let r = ordered_parts (from + 1) to ps qs o.3 in (r.0, (o.0, o.1, o.2, r.1), r.2))
ordered_parts from to (Tested low high ∷ ps) qs o = ordered_parts from to ps qs o

abbrev pub loop_of : Turning → Binding
loop_of t = Loop (span t.low t.last [])

-- the loops of these steps, at their places
loops_there : (scope : List Binding) (base : ℕ) (ts : List Turning) → length scope ≤ base → (i : ℕ) (x : Binding) → slice_get (map loop_of ts) i ≡ Some x →
    slice_get (bind_steps scope (steps_of base ts)) (base + i) ≡ Some x
loops_there scope base [] le i x h = absurd (cc h)
loops_there scope base (t ∷ ts) le zero x h =
    let none : base ≡ base + 0 = omega arith in
    subst (λ (j : ℕ). slice_get (bind_steps (bind scope base (loop_of t)) (steps_of (base + 1) ts)) j ≡ Some x) none
    (steps_kept (bind scope base (loop_of t)) (steps_of (base + 1) ts) base x (bound_there scope base (loop_of t) le ∙ h))
loops_there scope base (t ∷ ts) le (suc i) x h =
    let next : (base + 1) + i ≡ base + suc i = omega arith in
    let long = bound_long scope base (loop_of t) le in
    subst (λ (j : ℕ). slice_get (bind_steps (bind scope base (loop_of t)) (steps_of (base + 1) ts)) j ≡ Some x) next
    (loops_there (bind scope base (loop_of t)) (base + 1) ts (omega (arith, long)) i x h)

-- behind other steps, before more
all_there : (scope : List Binding) (from to base : ℕ) (before : List Step) (ts : List Turning) (behind : List Step) → length scope ≤ from → Ordered from ((before ++ steps_of base ts) ++ behind) to →
    (i : ℕ) (x : Binding) → slice_get (map loop_of ts) i ≡ Some x → slice_get (bind_steps scope ((before ++ steps_of base ts) ++ behind)) (base + i) ≡ Some x
all_there scope from to base before [] behind le o i x h = absurd (cc h)
all_there scope from to base before (t ∷ ts) behind le o i x h =
    let p = ordered_parts from to (before ++ steps_of base (t ∷ ts)) behind o in
    let q = ordered_parts from p.0 before (steps_of base (t ∷ ts)) p.1 in
    let here = q.2.0 in
    let long = ordered_long scope from q.0 before q.1 le in
    let inner = loops_there (bind_steps scope before) base (t ∷ ts) (omega (arith, here, long)) i x h in
    subst (λ (s : List Binding). slice_get s (base + i) ≡ Some x)
    (sym (steps_joined scope (before ++ steps_of base (t ∷ ts)) behind ∙ ap (λ (s : List Binding). bind_steps s behind) (steps_joined scope before (steps_of base (t ∷ ts)))))
    (steps_kept (bind_steps (bind_steps scope before) (steps_of base (t ∷ ts))) behind (base + i) x inner)

-- ---- forms of reduction variables

fresh_none : (ks : List Known) (x : List ℕ) → AllByRecursion (λ k. k.name ≡ x → ⊥) ks → form_named ks x ≡ None
fresh_none ks x h = of (form_named ks x) refl
  where
    of : (o : Option Form) → form_named ks x ≡ o → form_named ks x ≡ None
    of None e = e
    of (Some f) e = absurd (found_all (λ y f. y ≡ x → ⊥) ks x f h e refl)

pub slice_none : {A : Type 0} (xs : List A) (n : ℕ) → slice_get xs n ≡ None → length xs ≤ n
slice_none [] n e = omega arith
slice_none (x ∷ xs) zero e = absurd (cc e)
slice_none (x ∷ xs) (suc n) e = (let rest = slice_none xs n e in omega (arith, rest))

module _ (ks more : List Known) (x : List ℕ) where
  form_behind : form_named ks x ≡ None → form_named (ks ++ more) x ≡ form_named more x
  form_behind e = ap (λ (o : Option Known). option_map (λ (k : Known). k.form) o) (find-append test ks more) ∙ of (find test ks) (find test more) e
    where
      test : Known → Bool
      test k = same_name k.name x

      of : (o p : Option Known) → option_map (λ (k : Known). k.form) o ≡ None → option_map (λ (k : Known). k.form) (option_or o p) ≡ option_map (λ (k : Known). k.form) p
      of (Some k) p q = absurd (cc q)
      of None p q = refl

symbols_joined : (base : ℕ) (ts us : List Turning) → symbols_of base (ts ++ us) ≡ symbols_of base ts ++ symbols_of (base + length ts) us
symbols_joined base [] us = (let none : base ≡ base + 0 = omega arith in ap (λ (n : ℕ). symbols_of n us) none)
symbols_joined base (t ∷ ts) us =
    let next : (base + 1) + length ts ≡ base + suc (length ts) = omega arith in
    (λ i. record { name = t.name; form = alone base } ∷ symbols_joined (base + 1) ts us i)
    ∙ ap (λ (n : ℕ). record { name = t.name; form = alone base } ∷ symbols_of (base + 1) ts ++ symbols_of n us) next

-- the symbols from the last of so many on down
abbrev pub alones : ℕ → ℕ → List Form
alones base zero = []
alones base (suc n) = alone (base + n) ∷ alones base n

abbrev pub somes : List Form → List (Option Form)
somes fs = map (λ f. Some f) fs

-- names of which none is another's
abbrev pub AreApart : List Turning → Type 0
AreApart [] = Unit {0}
AreApart (d ∷ ds) = AllByRecursion (λ (e : Turning). e.name ≡ d.name → ⊥) ds × AreApart ds

ranges_more : (ds : List Turning) (fs : List Form) (ks more : List Known) → ranges_at ds ks ≡ somes fs → ranges_at ds (ks ++ more) ≡ somes fs
ranges_more [] fs ks more e = e
ranges_more (d ∷ ds) [] ks more e = absurd (cc e)
ranges_more (d ∷ ds) (f ∷ fs) ks more e =
    let first : form_named ks d.name ≡ Some f = cc e in
    let rest : ranges_at ds ks ≡ somes fs = cc e in
    λ i. kept_more ks more d.name f first i ∷ ranges_more ds fs ks more rest i

symbols_named : (x : List ℕ) (base : ℕ) (ts : List Turning) → AllByRecursion (λ (e : Turning). e.name ≡ x → ⊥) ts → AllByRecursion (λ (k : Known). k.name ≡ x → ⊥) (symbols_of base ts)
symbols_named x base [] h = tt
symbols_named x base (t ∷ ts) h = (h.0, symbols_named x (base + 1) ts h.1)

same_lengths : (ds : List Turning) → length (reverse ds) ≡ length ds
same_lengths ds = length-reverse ds

ranges_formed : (ks : List Known) (base : ℕ) (ds : List Turning) → AreApart ds → AllByRecursion (λ (d : Turning). form_named ks d.name ≡ None) ds →
    ranges_at ds (ks ++ symbols_of base (reverse ds)) ≡ somes (alones base (length ds))
ranges_formed ks base [] apart none = refl
ranges_formed ks base (d ∷ ds) apart none =
    let turned : reverse (d ∷ ds) ≡ reverse ds ++ d ∷ [] = reverse-append (d ∷ []) ds in
    let last : List Known = record { name = d.name; form = alone (base + length (reverse ds)) } ∷ [] in
    let joined : ks ++ symbols_of base (reverse (d ∷ ds)) ≡ (ks ++ symbols_of base (reverse ds)) ++ last =
    ap (λ (ts : List Turning). ks ++ symbols_of base ts) turned ∙ ap (λ (ms : List Known). ks ++ ms) (symbols_joined base (reverse ds) (d ∷ [])) ∙ sym (append_assoc ks (symbols_of base
    (reverse ds)) last) in
    let missing : form_named (ks ++ symbols_of base (reverse ds)) d.name ≡ None =
    form_behind ks (symbols_of base (reverse ds)) d.name none.0 ∙ fresh_none (symbols_of base (reverse ds)) d.name (symbols_named d.name base (reverse ds) (all_reverse (λ (e : Turning).
    e.name ≡ d.name → ⊥) ds apart.0)) in
    let yes : same_name d.name d.name ≡ true = name_refl d.name in
    let itself : form_named last d.name ≡ Some (alone (base + length (reverse ds))) =
    ap (λ (b : Bool). option_map (λ (k : Known). k.form) (if b then Some (record { name = d.name; form = alone (base + length (reverse ds)) }) else None)) yes in
    let first : form_named ((ks ++ symbols_of base (reverse ds)) ++ last) d.name ≡ Some (alone (base + length ds)) =
    form_behind (ks ++ symbols_of base (reverse ds)) last d.name missing ∙ itself ∙ ap (λ (n : ℕ). Some (alone (base + n))) (same_lengths ds) in
    let rest = ranges_more ds (alones base (length ds)) (ks ++ symbols_of base (reverse ds)) last (ranges_formed ks base ds apart.1 none.1) in
    ap (λ (ms : List Known). ranges_at (d ∷ ds) ms) joined ∙ (λ i. first i ∷ rest i)

-- ---- a nest

-- names that are those of no reduction variables
abbrev pub IsOtherName : List Turning → List ℕ → Type 0
IsOtherName ds y = (t : Turning) → In t ds → y ≡ t.name → ⊥

-- the names of loops and splits are others, and so are those of reduction variables among themselves
pub record AreOtherNames (p : PlacedText) (ds : List Turning) : Type 0 where
  pub loops : (o : LoopMade) → In o p.loops → IsOtherName ds o.name
  pub wholes : (c : Split) → In c p.cuts → IsOtherName ds c.whole
  pub outers : (c : Split) → In c p.cuts → IsOtherName ds c.outer
  pub inners : (c : Split) → In c p.cuts → IsOtherName ds c.inner
  pub apart : AreApart ds

-- names that are those of no loops and no splits
pub record AreNewNames (p : PlacedText) (xs : List (List ℕ)) : Type 0 where
  pub loops : (x : List ℕ) → In x xs → (o : LoopMade) → In o p.loops → x ≡ o.name → ⊥
  pub wholes : (x : List ℕ) → In x xs → (c : Split) → In c p.cuts → x ≡ c.whole → ⊥
  pub outers : (x : List ℕ) → In x xs → (c : Split) → In c p.cuts → x ≡ c.outer → ⊥
  pub inners : (x : List ℕ) → In x xs → (c : Split) → In c p.cuts → x ≡ c.inner → ⊥

-- so it is of such reduction variables
range_named : (ds : List Range) (t : Turning) → In t (map range_turning ds) → In t.name (range_names ds)
range_named [] t m = absurd m
range_named (d ∷ ds) t (inl e) = inl (ap (λ (z : Turning). z.name) e)
range_named (d ∷ ds) t (inr m) = inr (range_named ds t m)

apart_behind : (xs ys : List (List ℕ)) → AreDistinct (xs ++ ys) → AreDistinct ys
apart_behind [] ys h = h
apart_behind (x ∷ xs) ys h =
    apart_behind xs ys (λ i j y e k. (let one = h (suc i) (suc j) y e k in omega (arith, one)))

ranges_distinct : (ds : List Range) → AreDistinct (range_names ds) → AreApart (map range_turning ds)
ranges_distinct [] h = tt
ranges_distinct (d ∷ ds) h = (
  later ds (λ j e. (let clash : 0 ≡ suc j = h 0 (suc j) d.variable refl e in omega (arith, clash))),
  ranges_distinct ds (λ i j y e k. (let one = h (suc i) (suc j) y e k in omega (arith, one))),
)
  where
    later : (es : List Range) → ((j : ℕ) → slice_get (range_names es) j ≡ Some d.variable → ⊥) → AllByRecursion (λ (e : Turning). e.name ≡ d.variable → ⊥) (map range_turning es)
    later [] none = tt
    later (e ∷ es) none = ((λ q. none 0 (ap (λ (y : List ℕ). Some y) q)), later es (λ j q. none (suc j) q))

pub other_names : (p : PlacedText) (xs : List (List ℕ)) (ds : List Range) → AreDistinct (xs ++ range_names ds) → AreNewNames p (range_names ds) → AreOtherNames p (map range_turning ds)
other_names p xs ds apart new = record {
  loops = λ o m t n e. new.loops t.name (range_named ds t n) o m (sym e);
  wholes = λ c m t n e. new.wholes t.name (range_named ds t n) c m (sym e);
  outers = λ c m t n e. new.outers t.name (range_named ds t n) c m (sym e);
  inners = λ c m t n e. new.inners t.name (range_named ds t n) c m (sym e);
  apart = ranges_distinct ds (apart_behind xs (range_names ds) apart);
}

-- in a nest the loops of its reduction variables bind the symbols from one on, the last variable's first, and these are the variables' forms
pub record HasRanges (k : SkeletonText) (xs : List (List ℕ)) (b : BodyText) (w : NestText) : Type 0 where
  pub base : ℕ
  pub known : List Known
  pub forms : w.at ≡ variables_at b 0 xs known ++ ranges_at b.ranges known
  pub alone : ranges_at b.ranges known ≡ somes (alones base (length b.ranges))
  pub there : (i : ℕ) (x : Binding) → slice_get (map loop_of (reverse b.ranges)) i ≡ Some x → slice_get (bind_steps (head_scope k) w.steps) (base + i) ≡ Some x
  pub fits : base + length b.ranges ≤ length (bind_steps (head_scope k) w.steps)

module _ (xs : List (List ℕ)) (p : PlacedText) (others : AreOthers p.cuts) (once : AreOnce p.cuts) (rs : List Numbers) where
  subs : (ys : List (List ℕ)) → AllByRecursion (λ d. In d p.cuts) (cuts_by_variable p.cuts ys)
  subs ys = all_by_variable (λ d. In d p.cuts) p.cuts ys (all_from (λ d. In d p.cuts) p.cuts (λ d m. m))

  module _ (b : BodyText) (names : AreOtherNames p b.ranges) where
    abbrev cs : List Split
    cs = cuts_by_variable p.cuts (kept_from b 0 xs)

    sub : AllByRecursion (λ d. In d p.cuts) (cuts_by_variable p.cuts (kept_from b 0 xs))
    sub = subs (kept_from b 0 xs)

    wholes : (ys : List (List ℕ)) → AllByRecursion (λ c. IsOtherName b.ranges c.whole) (cuts_by_variable p.cuts ys)
    wholes ys = all_weaker (λ c. In c p.cuts) (λ c. IsOtherName b.ranges c.whole) (λ c m. names.wholes c m) (cuts_by_variable p.cuts ys) (subs ys)

    loops : (v : Bool) → AllByRecursion (λ (t : Turning). IsOtherName b.ranges t.name) (nest_loops b v rs p.loops)
    loops v =
        all_mapped (loop_turning rs) (λ (t : Turning). IsOtherName b.ranges t.name) (filter (is_in_nest b v) (reverse p.loops))
        (all_filtered (is_in_nest b v) (λ o. In o p.loops) (λ o. IsOtherName b.ranges o.name) (λ o e m. names.loops o m) (reverse p.loops)
        (all_reverse (λ o. In o p.loops) p.loops (all_from (λ o. In o p.loops) p.loops (λ o m. m))))

    ranges_apart : (ts : List Turning) → AllByRecursion (λ t. In t b.ranges) ts → AllByRecursion (λ (t : Turning). IsApartFrom (cuts_by_variable p.cuts (kept_from b 0 xs)) t.name) ts
    ranges_apart ts h =
        all_weaker (λ t. In t b.ranges) (λ (t : Turning). IsApartFrom cs t.name) (λ t m. all_weaker (λ c. In c p.cuts) (λ c. (t.name ≡ c.outer → ⊥) × (t.name ≡ c.inner → ⊥))
        (λ c n. ((λ e. names.outers c n t m (sym e)), (λ e. names.inners c n t m (sym e)))) cs sub) ts h

    closed_turned : (ts : List Turning) (st new : StandingText) → AllByRecursion (IsClosed st) cs → turn_all rs cs ts st ≡ Some new → AllByRecursion (IsClosed new) cs
    closed_turned [] st new h e = subst (λ (a : StandingText). AllByRecursion (IsClosed a) cs) (same st new e) h
    closed_turned (t ∷ ts) st new h e =
        let m = bound (turn rs cs t st) (turn_all rs cs ts) new e in
        let s = bound (settle_some (inside t.kind) rs cs cs (enter t.name st)) (λ turned. Some (leave st.steps st.next t turned)) m.value m.is in
        let left : leave st.steps st.next t s.value ≡ m.value = same (leave st.steps st.next t s.value) m.value s.comes in
        let closed : AllByRecursion (IsClosed (leave st.steps st.next t s.value)) cs =
        all_weaker (IsClosed s.value) (IsClosed (leave st.steps st.next t s.value)) (λ c k. record { begun = k.begun; joined = k.joined }) cs
        (pass_closes p.cuts others once t.kind rs cs cs sub (enter t.name st) s.value s.is) in
        closed_turned ts m.value new (subst (λ (a : StandingText). AllByRecursion (IsClosed a) cs) left closed) m.comes

    -- what is known of the nest that is made
    record IsMade (st : StandingText) : Type 0 where
      base : ℕ
      alone : ranges_at b.ranges st.known ≡ somes (alones base (length b.ranges))
      before : List Step
      behind : List Step
      steps : st.steps ≡ (before ++ steps_of base (reverse b.ranges)) ++ behind

    made : (st new : StandingText) → st.steps ≡ [] → AllByRecursion (λ (k : Known). IsOtherName b.ranges k.name) st.known → nest_in xs p rs b st ≡ Some new → IsMade new
    made st new empty fresh e =
        let m = bound (settle_some (inside Serial) rs cs cs st) (turn_all rs cs (nest_turns b rs p.loops)) new e in
        let closed = pass_closes p.cuts others once Serial rs cs cs sub st m.value m.is in
        let outer = nest_loops b false rs p.loops in
        let lanes = nest_loops b true rs p.loops in
        let one = turned_parts rs cs (outer ++ reverse b.ranges) lanes m.value new m.comes in
        let two = turned_parts rs cs outer (reverse b.ranges) m.value one.0 one.1 in
        let first = settled_longer (IsOtherName b.ranges) (inside Serial) rs cs cs st m.value (wholes (kept_from b 0 xs)) m.is in
        let second = all_longer (IsOtherName b.ranges) rs cs outer m.value two.0 (wholes (kept_from b 0 xs)) (loops false) two.1 in
        let both = longer_after (IsOtherName b.ranges) st m.value two.0 first second in
        let inner = ranges_entered rs cs (reverse b.ranges) two.0 one.0 (ranges_apart (reverse b.ranges) (all_reverse (λ t. In t b.ranges) b.ranges (all_from (λ t. In t b.ranges) b.ranges
        (λ t n. n))))
        (closed_turned outer m.value two.0 closed two.1) two.2 in
        let last = all_longer (IsOtherName b.ranges) rs cs lanes one.0 new (wholes (kept_from b 0 xs)) (loops true) one.2 in
        let all_fresh : AllByRecursion (λ (k : Known). IsOtherName b.ranges k.name) two.0.known =
        subst (AllByRecursion (λ (k : Known). IsOtherName b.ranges k.name)) (sym both.known_is) (all-append (λ (k : Known). IsOtherName b.ranges k.name) st.known both.known fresh both.named) in
        let none : AllByRecursion (λ (d : Turning). form_named two.0.known d.name ≡ None) b.ranges =
        all_from (λ (d : Turning). form_named two.0.known d.name ≡ None) b.ranges
        (λ d n. fresh_none two.0.known d.name (all_weaker (λ (k : Known). IsOtherName b.ranges k.name) (λ (k : Known). k.name ≡ d.name → ⊥) (λ k h. h d n) two.0.known all_fresh)) in
        let formed = ranges_formed two.0.known two.0.next b.ranges names.apart none in
        record {
          base = two.0.next;
          alone = ap (ranges_at b.ranges) last.known_is
              ∙ ranges_more b.ranges (alones two.0.next (length b.ranges)) one.0.known last.known (ap (ranges_at b.ranges) inner.known ∙ formed);
          before = two.0.steps;
          behind = last.steps;
          steps = last.steps_are ∙ ap (λ (ss : List Step). ss ++ last.steps) inner.steps;
        }

  -- the nest at a place
  record IsNestOf (head : StandingText) (bs : List BodyText) (d : ℕ) (w : NestText) : Type 0 where
    body : BodyText
    at : slice_get bs d ≡ Some body
    next : ℕ
    standing : StandingText
    is : nest_in xs p rs body (begun next head) ≡ Some standing
    nest : nest_of xs body standing ≡ w

  nest_at : (head : StandingText) (bs : List BodyText) (next : ℕ) (ns : List NestText) → nests_in xs p rs head bs next ≡ Some ns → (d : ℕ) (w : NestText) → slice_get ns d ≡ Some w →
      IsNestOf head bs d w
  nest_at head [] next ns e d w at = absurd (none (subst (λ (l : List NestText). slice_get l d ≡ Some w) (sym (same [] ns e)) at))
    where
      none : None ≡ Some w → ⊥
      none q = cc q
  nest_at head (b ∷ bs) next ns e d w at =
      let m = bound (nest_in xs p rs b (begun next head)) (λ st. nests_in xs p rs head bs st.next >>= λ nests. Some (nest_of xs b st ∷ nests)) ns e in
      let r = bound (nests_in xs p rs head bs m.value.next) (λ nests. Some (nest_of xs b m.value ∷ nests)) ns m.comes in
      let there = subst (λ (l : List NestText). slice_get l d ≡ Some w) (sym (same (nest_of xs b m.value ∷ r.value) ns r.comes)) at in
      by m.value m.is r.value d there (λ j i. nest_at head bs m.value.next r.value r.is j w i)
    where
      by : (st : StandingText) → nest_in xs p rs b (begun next head) ≡ Some st → (rest : List NestText) (j : ℕ) → slice_get (nest_of xs b st ∷ rest) j ≡ Some w →
          ((j : ℕ) → slice_get rest j ≡ Some w → IsNestOf head bs j w) → IsNestOf head (b ∷ bs) j w
      by st is rest zero i later = record { body = b; at = refl; next = next; standing = st; is = is; nest = same (nest_of xs b st) w i }
      by st is rest (suc j) i later = (let y = later j i in record { body = y.body; at = y.at; next = y.next; standing = y.standing; is = y.is; nest = y.nest })

grid_names : (P : List ℕ → Type 0) (rs : List Numbers) (s : ℕ) (ls : List LoopMade) → AllByRecursion (λ o. P o.name) ls → AllByRecursion (λ (k : Known). P k.name) (grid_forms rs s ls)
grid_names P rs s [] h = tt
grid_names P rs s (l ∷ ls) h = (h.0, grid_names P rs (s + 1) ls h.1)

grid_long : (cs : List ℕ) → length (grid_scope cs) ≡ length cs
grid_long [] = refl
grid_long (c ∷ cs) = (let rest = grid_long cs in omega (arith, rest))

-- the loops at their places, and how far these go, also where there are none
record ArePlacedLoops (scope : List Binding) (ts : List Turning) (base : ℕ) (many : ℕ) : Type 0 where
  from : ℕ
  same_from : (fs : ℕ → List Form) → (many ≡ 0 → fs base ≡ fs from) → fs base ≡ fs from
  there : (i : ℕ) (x : Binding) → slice_get (map loop_of ts) i ≡ Some x → slice_get scope (from + i) ≡ Some x
  fits : from + many ≤ length scope

placed_loops : (scope : List Binding) (ts : List Turning) (base many : ℕ) → length (map loop_of ts) ≡ many →
    ((i : ℕ) (x : Binding) → slice_get (map loop_of ts) i ≡ Some x → slice_get scope (base + i) ≡ Some x) → ArePlacedLoops scope ts base many
placed_loops scope ts base zero long there = record {
  from = 0;
  same_from = λ fs h. h refl;
  there = λ i x e. (let less = slice_get_within (map loop_of ts) i x e in absurd (omega (arith, less, long)));
  fits = omega arith;
}
placed_loops scope ts base (suc n) long there = record {
  from = base;
  same_from = λ fs h. refl;
  there = there;
  fits = last (map loop_of ts) long there;
}
  where
    last : (xs : List Binding) → length xs ≡ suc n → ((i : ℕ) (x : Binding) → slice_get xs i ≡ Some x → slice_get scope (base + i) ≡ Some x) → base + suc n ≤ length scope
    last xs long there = of (slice_get xs n) refl
      where
        of : (o : Option Binding) → slice_get xs n ≡ o → base + suc n ≤ length scope
        of (Some x) e = (let less = slice_get_within scope (base + n) x (there n x e) in omega (arith, less))
        of None e = (let few = slice_none xs n e in absurd (omega (arith, few, long)))

pub skeleton_ranges : (xs : List (List ℕ)) (bs : List BodyText) (p : PlacedText) (region : List Extent) (k : SkeletonText) → AreOthers p.cuts → AreOnce p.cuts → skeleton_in xs bs p region ≡ Some k →
    (d : ℕ) (b : BodyText) (w : NestText) → slice_get bs d ≡ Some b → slice_get k.nests d ≡ Some w → AreOtherNames p b.ranges → HasRanges k xs b w
skeleton_ranges xs bs p region k others once e d b w at_b at_w names =
    let rs : List Numbers = loop_numbers xs p.cuts region in
    let cs : List Split = cuts_by_variable p.cuts xs in
    let grid : List ℕ = piece_counts rs p.loops in
    let h = bound (settle_some at_grid rs cs cs (over_grid rs p))
    (λ head. nests_in xs p rs head bs head.next >>= λ nests. Some (record { grid = grid; head = head.steps; nests = nests; known = head.known; starts = head.starts })) k e in
    let m = bound (nests_in xs p rs h.value bs h.value.next) (λ nests. Some (record { grid = grid; head = h.value.steps; nests = nests; known = h.value.known; starts = h.value.starts })) k h.comes in
    let text : SkeletonText = record { grid = grid; head = h.value.steps; nests = m.value; known = h.value.known; starts = h.value.starts } in
    let is : text ≡ k = same text k m.comes in
    let y = nest_at xs p others once rs h.value bs h.value.next m.value m.is d w (ap (λ (s : SkeletonText). slice_get s.nests d) is ∙ at_w) in
    let body : y.body ≡ b = some_same y.body b (sym y.at ∙ at_b) in
    let nest : nest_in xs p rs b (begun y.next h.value) ≡ Some y.standing = subst (λ (c : BodyText). nest_in xs p rs c (begun y.next h.value) ≡ Some y.standing) body y.is in
    let made_so : nest_of xs b y.standing ≡ w = subst (λ (c : BodyText). nest_of xs c y.standing ≡ w) body y.nest in
    let head_longer = settled_longer (IsOtherName b.ranges) at_grid rs cs cs (over_grid rs p) h.value (wholes xs p others once rs b names xs) h.is in
    let over : AllByRecursion (λ (n : Known). IsOtherName b.ranges n.name) (over_grid rs p).known =
    grid_names (IsOtherName b.ranges) rs 0 (parallel_loops p.loops)
    (all_filtered is_parallel (λ o. In o p.loops) (λ o. IsOtherName b.ranges o.name) (λ o q n. names.loops o n) p.loops (all_from (λ o. In o p.loops) p.loops (λ o n. n))) in
    let fresh : AllByRecursion (λ (n : Known). IsOtherName b.ranges n.name) h.value.known =
    subst (AllByRecursion (λ (n : Known). IsOtherName b.ranges n.name)) (sym head_longer.known_is)
    (all-append (λ (n : Known). IsOtherName b.ranges n.name) (over_grid rs p).known head_longer.known over head_longer.named) in
    let q = made xs p others once rs b names (begun y.next h.value) y.standing refl fresh nest in
    let order = skeletal xs bs p region k e in
    let binds = order.nests d w at_w in
    let above = binds.above in
    let over_head = ordered_long (grid_scope k.grid) (length k.grid) order.next k.head order.head (let long = grid_long k.grid in omega (arith, long)) in
    let steps : w.steps ≡ (q.before ++ steps_of q.base (reverse b.ranges)) ++ q.behind = ap (λ (n : NestText). n.steps) (sym made_so) ∙ q.steps in
    let all : (i : ℕ) (x : Binding) → slice_get (map loop_of (reverse b.ranges)) i ≡ Some x → slice_get (bind_steps (head_scope k) w.steps) (q.base + i) ≡ Some x =
    λ i x at_i. subst (λ (ss : List Step). slice_get (bind_steps (head_scope k) ss) (q.base + i) ≡ Some x) (sym steps)
    (all_there (head_scope k) binds.from binds.to q.base q.before (reverse b.ranges) q.behind (omega (arith, above, over_head)) (subst (λ (ss : List Step). Ordered binds.from ss binds.to)
    steps binds.steps)
    i x at_i) in
    let long : length (map loop_of (reverse b.ranges)) ≡ length b.ranges = length-map (reverse b.ranges) loop_of ∙ length-reverse b.ranges in
    let z = placed_loops (bind_steps (head_scope k) w.steps) (reverse b.ranges) q.base (length b.ranges) long all in
    record {
      base = z.from;
      known = y.standing.known;
      forms = ap (λ (n : NestText). n.at) (sym made_so);
      alone = q.alone ∙ ap somes (z.same_from (λ n. alones n (length b.ranges)) (λ none. (λ i. alones q.base (none i)) ∙ (λ i. alones z.from (sym none i))));
      there = z.there;
      fits = z.fits;
    }
