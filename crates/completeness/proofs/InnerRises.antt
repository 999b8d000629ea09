-- The steps of the nest of a function that is computed inside loops bind symbols one by one.
use Rattle.std.proofs.Common.{◌≡◌, ℕ, ◌+◌, Bool, true, false, List, [], ◌∷◌, ◌++◌, length, map, Option, Some, None, refl, subst, arith}
use Rattle.std.specs.Prelude.{pos, negsuc, ◌-ℤ◌, if◌then◌else◌, slice_get}
use Rattle.lin.specs.Forms.{Form, number, combined, without}
use Rattle.lin.specs.declared.scope.Binding.{Binding}
use Rattle.lin.specs.declared.span.Span1.{Span1}
use Rattle.plan.specs.declared.stmt.Pick.{Pick}
use Rattle.plan.specs.declared.stmt.Pick.TheVariants.{Min, Max}
use Rattle.sched.specs.declared.schedule.Split.{Split}
use Rattle.sched.specs.declared.schedule.Tail.{Tail}
use Rattle.sched.specs.declared.schedule.Tail.TheVariants as tails
use Rattle.sched.specs.declared.numbers.Numbers.{Numbers}
use Rattle.sched.specs.declared.skeleton.Step.{Step}
use Rattle.sched.specs.declared.skeleton.Step.TheVariants.{Turns, Named, Tested}
use Rattle.sched.specs.Numbers.{numbers_named, loop_numbers}
use Rattle.sched.specs.Skeleton.{BodyText, NestText, nest_of}
use Rattle.sched.specs.Standing.{◌>>=◌, StandingText, form_named, alone, is_now, starts_at, innermost}
use Rattle.sched.specs.Stored.{StoredText}
use Rattle.sched.specs.Taken.{shortest}
use Rattle.sched.specs.Turned.{range_run}
use Rattle.regions.specs.Turned.{steps_of}
use Rattle.sched.specs.Parted.{FrameText, all_runs, body_cuts, begun, nest_in, most_of, add_extents}
use Rattle.blocks.specs.Parted.{is_cut, told_span, rounding, lower_of, last_first, let_of, one_of, low_of, last_of, facts_of}
use Rattle.blocks.specs.Parted.{reach_by, reach_told, reach_of, with_even, reach_at, with_reach, reaches_from, half_reach, kept_of, frame_with, frame_by, frame_of}
use Rattle.blocks.specs.Rounded.{BegunText}
use Rattle.sched.specs.Settled.{picks, tests, tests_if, limited, is_known, is_asked, begin_at, begin_over, keep_by_let, keep_by_guard, keep_by, told_form, put_together, join_over, join}
use Rattle.sched.specs.Settled.{begin, reach_named, is_guarded, enter, is_lanes, settle_by, settle_one, settle, turn, turn_all}
use Rattle.blocks.proofs.Laying.{bound, same}
use Rattle.completeness.proofs.Standing.{Rises, rises_joined}

-- what functions give
abbrev Given : (A B : Type 0) → (A → B) → Type 0
Given A B f = B

-- a loop, what a split's loops run over, and blocks of dimensions
abbrev Run : Type 0
Run = Given _ _ range_run

abbrev Reach : Type 0
Reach = Given _ _ (half_reach [])

abbrev Counts : Type 0
Counts = Given BegunText _ (λ (b : BegunText). b.blocks)

-- ---- loops that are not split

pub loops_rise : (s : ℕ) (rs : List Run) → Rises s (steps_of s rs) (s + length rs)
loops_rise s [] = omega arith
loops_rise s (r ∷ rs) = (refl, subst (Rises (s + 1) (steps_of (s + 1) rs)) (let next : (s + 1) + length rs ≡ s + length (r ∷ rs) = omega arith in next) (loops_rise (s + 1) rs))

-- ---- what stands at a place

module _ (base : ℕ) where
  abbrev Fits : StandingText → Type 0
  Fits st = Rises base st.steps st.next

  picks_fit : (pick : Pick) (a b : Form) (st : StandingText) → Fits st → Fits (picks pick a b st)
  picks_fit pick a b st h = rises_joined base st.next (st.next + 1) st.steps (Named st.next pick (a ∷ b ∷ []) ∷ []) h (refl, refl)

  tests_fit : (low high : Form) (st : StandingText) → Fits st → Fits (tests low high st)
  tests_fit low high st h = rises_joined base st.next st.next st.steps (Tested low high ∷ []) h refl

  tests_if_fit : (b : Bool) (low high : Form) (st : StandingText) → Fits st → Fits (tests_if b low high st)
  tests_if_fit true low high st h = tests_fit low high st h
  tests_if_fit false low high st h = h

  limited_fits : (s n m : ℕ) (limit : Form) (ss : List Step) → Rises n ss m → Rises n (map (limited s limit) ss) m
  limited_fits s n m limit [] h = h
  limited_fits s n m limit (Turns i x kind ∷ ss) h = (h.0, limited_fits s (n + 1) m limit ss h.1)
  limited_fits s n m limit (Named i pick fs ∷ ss) h = (h.0, limited_fits s (n + 1) m limit ss h.1)
  limited_fits s n m limit (Tested low high ∷ ss) h = limited_fits s n m limit ss h

  abbrev Makes : Option StandingText → Type 0
  Makes o = (new : StandingText) → o ≡ Some new → Fits new

  some_fits : (st : StandingText) → Fits st → Makes (Some st)
  some_fits st f new e = subst Fits (same st new e) f

  if_fits : (b : Bool) (x y : Option StandingText) → Makes x → Makes y → Makes (if b then x else y)
  if_fits true x y h k = h
  if_fits false x y h k = k

  begun_at : (t : Tail) (x : List ℕ) (n : ℕ) (last form : Form) (st : StandingText) → Fits st → Makes (begin_at t x n last form st)
  begun_at tails.Shift x n last form st f = λ new e.
      let b = bound (combined (number (pos 1 -ℤ pos n)) (pos 1) last) (λ room. Some (starts_at x (alone st.next) (picks Min form room st))) new e in
      some_fits (starts_at x (alone st.next) (picks Min form b.value st)) (picks_fit Min form b.value st f) new b.comes
  begun_at tails.Guard x n last form st f = some_fits (starts_at x form st) f
  begun_at tails.Roundup x n last form st f = some_fits (starts_at x form st) f

  begun_over : (c : Split) (r : Reach) (o : Option Form) (st : StandingText) → Fits st → Makes (begin_over c r o st)
  begun_over c r None st f = some_fits st f
  begun_over c r (Some outer) st f = λ new e.
      let b = bound (combined r.low (pos c.factor) outer) (λ form. begin_at c.tail c.whole c.factor r.last form (tests_if (is_asked c r st) form r.last st)) new e in
      begun_at c.tail c.whole c.factor r.last b.value (tests_if (is_asked c r st) b.value r.last st) (tests_if_fit (is_asked c r st) b.value r.last st f) new b.comes

  begun_fits : (c : Split) (r : Reach) (st : StandingText) → Fits st → Makes (begin c r st)
  begun_fits c r st f = if_fits (is_known st.starts c.whole) (Some st) (begin_over c r (form_named st.known c.outer) st) (some_fits st f) (begun_over c r (form_named st.known c.outer) st f)

  kept_by_let : (x : List ℕ) (r : Reach) (form : Form) (st : StandingText) → Fits st → Fits (keep_by_let x r form st)
  kept_by_let x r form st f = of r.is_told
    where
      of : (b : Bool) → Fits (if b then is_now x (alone st.next) (picks Min form r.last st) else is_now x (alone (st.next + 1)) (picks Max (alone st.next) r.low (picks Min form r.last st)))
      of true = picks_fit Min form r.last st f
      of false = picks_fit Max (alone st.next) r.low (picks Min form r.last st) (picks_fit Min form r.last st f)

  kept_by_guard : (lane : Bool) (x : List ℕ) (r : Reach) (form : Form) (st : StandingText) → Fits st → Fits (keep_by_guard lane x r form st)
  kept_by_guard true x r form st f = tests_fit form r.last st f
  kept_by_guard false x r form st f = kept_by_let x r form (tests form r.last st) (tests_fit form r.last st f)

  kept_by : (lane : Bool) (x : List ℕ) (r : Reach) (form told : Form) (o : Option ℕ) (st : StandingText) → Fits st → Makes (keep_by lane x r form told o st)
  kept_by lane x r form told None st f = some_fits (keep_by_guard lane x r form st) (kept_by_guard lane x r form st f)
  kept_by lane x r form told (Some s) st f = λ new e.
      let b = bound (combined r.last (negsuc 0) (without told s)) (λ limit. Some (is_now x form (record st { steps = map (limited s limit) st.steps }))) new e in
      some_fits (is_now x form (record st { steps = map (limited s b.value) st.steps })) (limited_fits s base st.next b.value st.steps f) new b.comes

  put_fits : (lane guarded : Bool) (c : Split) (blocks : ℕ) (r : Reach) (start form : Form) (st : StandingText) → Fits st → Makes (put_together lane guarded c blocks r start form st)
  put_fits lane true c blocks r start form st f = kept_by lane c.whole r form (told_form c blocks start form) (innermost st.bound form) st f
  put_fits lane false c blocks r start form st f = some_fits (is_now c.whole form st) f

  joined_over : (lane guarded : Bool) (c : Split) (blocks : ℕ) (r : Reach) (a b : Option Form) (st : StandingText) → Fits st → Makes (join_over lane guarded c blocks r a b st)
  joined_over lane guarded c blocks r None b st f = some_fits st f
  joined_over lane guarded c blocks r (Some start) None st f = some_fits st f
  joined_over lane guarded c blocks r (Some start) (Some inner) st f = λ new e.
      let b = bound (combined start (pos 1) inner) (λ form. put_together lane guarded c blocks r start form st) new e in
      put_fits lane guarded c blocks r start b.value st f new b.comes

  joined_fits : (lane guarded : Bool) (c : Split) (blocks : ℕ) (r : Reach) (st : StandingText) → Fits st → Makes (join lane guarded c blocks r st)
  joined_fits lane guarded c blocks r st f =
      if_fits (is_known st.known c.whole) (Some st) (join_over lane guarded c blocks r (form_named st.starts c.whole) (form_named st.known c.inner) st) (some_fits st f)
      (joined_over lane guarded c blocks r (form_named st.starts c.whole) (form_named st.known c.inner) st f)

  module _ (ns : List Numbers) (hs : List Reach) (all : List Split) where
    settled_one : (lane : Bool) (c : Split) (st : StandingText) → Fits st → Makes (settle_one ns hs all lane c st)
    settled_one lane c st f new e =
        let b = bound (reach_named hs c.whole) (λ r. settle_by ns all lane c r st) new e in
        let m = bound (begin c b.value st) (join lane (is_guarded ns all c b.value) c (numbers_named ns c.outer).count b.value) new b.comes in
        joined_fits lane (is_guarded ns all c b.value) c (numbers_named ns c.outer).count b.value m.value (begun_fits c b.value st f m.value m.is) new m.comes

    settled_fits : (lane : Bool) (cs : List Split) (st : StandingText) → Fits st → Makes (settle ns hs all lane cs st)
    settled_fits lane [] st f = some_fits st f
    settled_fits lane (c ∷ cs) st f = λ new e.
        let b = bound (settle_one ns hs all lane c st) (settle ns hs all lane cs) new e in settled_fits lane cs b.value (settled_one lane c st f b.value b.is) new b.comes

    turned_fits : (r : Run) (st : StandingText) → Fits st → Makes (turn ns hs all r st)
    turned_fits r st f = settled_fits (is_lanes r.kind) all (enter r st) (rises_joined base st.next (st.next + 1) st.steps (Turns st.next r.span r.kind ∷ []) f (refl, refl))

    all_turned_fit : (rs : List Run) (st : StandingText) → Fits st → Makes (turn_all ns hs all rs st)
    all_turned_fit [] st f = some_fits st f
    all_turned_fit (r ∷ rs) st f = λ new e.
        let b = bound (turn ns hs all r st) (turn_all ns hs all rs) new e in all_turned_fit rs b.value (turned_fits r st f b.value b.is) new b.comes

-- ---- lets of the ends

module _ (first : ℕ) where
  abbrev AreLaid : List Step → Type 0
  AreLaid lets = Rises first lets (first + length lets)

  let_laid : (pick : Pick) (fs : List Form) (lets : List Step) → AreLaid lets → AreLaid (let_of first pick fs lets).1
  let_laid pick fs lets h =
      subst (Rises first (lets ++ Named (first + length lets) pick fs ∷ [])) (one_more lets (Named (first + length lets) pick fs))
      (rises_joined first (first + length lets) ((first + length lets) + 1) lets (Named (first + length lets) pick fs ∷ []) h (refl, refl))
    where
      long : (xs : List Step) (x : Step) → length (xs ++ x ∷ []) ≡ length xs + 1
      long [] x = omega arith
      long (y ∷ xs) x = (let rest = long xs x in omega (arith, rest))

      one_more : (xs : List Step) (x : Step) → (first + length xs) + 1 ≡ first + length (xs ++ x ∷ [])
      one_more xs x = (let l = long xs x in omega (arith, l))

  one_laid : (pick : Pick) (fs : List Form) (lets : List Step) → AreLaid lets → AreLaid (one_of first pick fs lets).1
  one_laid pick [] lets h = let_laid pick [] lets h
  one_laid pick (f ∷ []) lets h = h
  one_laid pick (f ∷ e ∷ fs) lets h = let_laid pick (f ∷ e ∷ fs) lets h

module _ (scope : List Binding) where
  reach_laid : (x : List ℕ) (k : Option ℕ) (s : Span1) (kept : Option Span1) (lets : List Step) (r : Reach × List Step) → AreLaid (length scope) lets → reach_of scope x k s kept lets ≡ Some r →
      AreLaid (length scope) r.1
  reach_laid x k s kept lets r h e =
      let t = told_span scope s in
      let n = bound (most_of (shortest scope s)) (λ n. reach_told scope x k s t kept n lets) r e in
      let low = low_of scope s t kept lets in
      let last = last_of scope t low.1 in
      let f = bound (facts_of scope t k kept n.value) (λ facts. Some (reach_by x low.0 last.0 facts, last.1)) r n.comes in
      let one = one_laid (length scope) Max (lower_of scope s t kept) lets h in
      let two = one_laid (length scope) Min (last_first t.upper) low.1 one in
      subst (λ (y : Reach × List Step). AreLaid (length scope) y.1) (same (reach_by x low.0 last.0 f.value, last.1) r f.comes) two

  reach_at_laid : (cs : List Split) (b : Bool) (x : List ℕ) (s : Span1) (kept : Option Span1) (lets : List Step) (r : Option Reach × List Step) → AreLaid (length scope) lets →
      reach_at scope cs b x s kept lets ≡ Some r → AreLaid (length scope) r.1
  reach_at_laid cs b x s kept lets r h e = of (is_cut cs x) e
    where
      of : (c : Bool) → (if c then (reach_of scope x (rounding cs x) s kept lets >>= λ r. Some (Some (with_even b r.0), r.1)) else Some (None, lets)) ≡ Some r → AreLaid (length scope) r.1
      of true k =
          let m = bound (reach_of scope x (rounding cs x) s kept lets) (λ r. Some (Some (with_even b r.0), r.1)) r k in
          subst (λ (y : Option Reach × List Step). AreLaid (length scope) y.1) (same (Some (with_even b m.value.0), m.value.1) r m.comes) (reach_laid x (rounding cs x) s kept lets m.value h m.is)
      of false k = subst (λ (y : Option Reach × List Step). AreLaid (length scope) y.1) (same (None, lets) r k) h

  reaches_laid : (cs : List Split) (bs : Counts) (kept : List Span1) (d : ℕ) (xs : List (List ℕ)) (ss : List Span1) (lets : List Step) (r : List Reach × List Step) → AreLaid (length scope) lets →
      reaches_from scope cs bs kept d xs ss lets ≡ Some r → AreLaid (length scope) r.1
  reaches_laid cs bs kept d [] ss lets r h e = subst (λ (y : List Reach × List Step). AreLaid (length scope) y.1) (same ([], lets) r e) h
  reaches_laid cs bs kept d (x ∷ xs) [] lets r h e = subst (λ (y : List Reach × List Step). AreLaid (length scope) y.1) (same ([], lets) r e) h
  reaches_laid cs bs kept d (x ∷ xs) (s ∷ ss) lets r h e =
      let at = slice_get kept d in
      let first = bound (reach_at scope cs _ x s at lets) (λ first. reaches_from scope cs bs kept (d + 1) xs ss first.1 >>= λ rest. Some (with_reach first.0 rest.0, rest.1)) r e in
      let rest = bound (reaches_from scope cs bs kept (d + 1) xs ss first.value.1) (λ rest. Some (with_reach first.value.0 rest.0, rest.1)) r first.comes in
      let one = reach_at_laid cs _ x s at lets first.value h first.is in
      subst (λ (y : List Reach × List Step). AreLaid (length scope) y.1) (same (with_reach first.value.0 rest.value.0, rest.value.1) r rest.comes)
      (reaches_laid cs bs kept (d + 1) xs ss first.value.1 rest.value one rest.is)

-- ---- a nest

module _ (g : StoredText) (scope : List Binding) (region kept : List Span1) (bs : Counts) where
  frame_laid : (d : ℕ) (f : FrameText × List Step) → frame_of g scope region kept bs d ≡ Some f → AreLaid (length scope) f.1
  frame_laid d f e =
      let xs = g.subject.variables in
      let cs = g.placed.cuts in
      let es = bound (add_extents scope region []) (λ es. frame_by g scope region kept bs d (loop_numbers xs cs es)) f e in
      let ns : List Numbers = loop_numbers xs cs es.value in
      let r = bound (reaches_from scope cs bs (kept_of kept d) 0 xs region []) (λ r. Some (frame_with g scope region kept bs ns r)) f es.comes in
      let none : length scope ≡ length scope + 0 = omega arith in
      subst (λ (y : FrameText × List Step). AreLaid (length scope) y.1) (same (frame_with g scope region kept bs ns r.value) f r.comes) (reaches_laid scope cs bs (kept_of kept d) 0 xs
      region [] r.value none r.is)

  pub nest_rises : (d : ℕ) (b : BodyText) (n : NestText) → (frame_of g scope region kept bs d >>= λ f. nest_in g region (length scope) f.0 f.1 b) ≡ Some n → (m : ℕ) × Rises (length scope) n.steps m
  nest_rises d b n e =
      let xs = g.subject.variables in
      let f = bound (frame_of g scope region kept bs d) (λ f. nest_in g region (length scope) f.0 f.1 b) n e in
      let frame = f.value.0 in
      let rs = bound (all_runs xs region frame g.placed.loops b) (λ rs. turn_all frame.numbers frame.reaches (body_cuts g b) rs (begun (length scope) f.value.1) >>= λ st. Some (nest_of xs b
      st)) n f.comes in
      let st = bound (turn_all frame.numbers frame.reaches (body_cuts g b) rs.value (begun (length scope) f.value.1)) (λ st. Some (nest_of xs b st)) n rs.comes in
      let laid = frame_laid d f.value f.is in
      let stands = all_turned_fit (length scope) frame.numbers frame.reaches (body_cuts g b) rs.value (begun (length scope) f.value.1) laid st.value st.is in
      subst (λ (u : NestText). (m : ℕ) × Rises (length scope) u.steps m) (same (nest_of xs b st.value) n st.comes) (st.value.next, stands)
