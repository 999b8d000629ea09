-- The forms of the loops, lets and guards of a function that is computed inside loops are within the limits of forms, where those of its region are.
use Rattle.std.proofs.Common.{◌≡◌, ℕ, ◌+◌, ◌-◌, ◌<◌, ◌≤◌, Bool, true, false, List, [], ◌∷◌, ◌++◌, length, map, Option, Some, None, refl, subst, arith}
use Rattle.std.specs.Prelude.{ℤ, pos, negsuc, ◌-ℤ◌, ◌==◌, ◌^◌, nat_lt, if◌then◌else◌, find, slice_get}
use Rattle.std.specs.List.{AllByRecursion}
use Rattle.std.proofs.lemmas.Int.{ints}
use Rattle.std.proofs.lemmas.Bool.Decides.{nat_tests}
use Rattle.lin.specs.Forms.{Form, number, combined, without}
use Rattle.lin.specs.declared.scope.Binding.{Binding}
use Rattle.lin.specs.declared.span.Span1.{Span1}
use Rattle.bounds.specs.Spans.{numbers}
use Rattle.bounds.proofs.ListSound.{all-append}
use Rattle.headline.proofs.Members.{got}
use Rattle.meaning.specs.Names.{same_name}
use Rattle.plan.specs.declared.stmt.Pick.{Pick}
use Rattle.plan.specs.declared.stmt.Pick.TheVariants.{Min, Max}
use Rattle.sched.specs.declared.schedule.Split.{Split}
use Rattle.sched.specs.declared.schedule.Tail.{Tail}
use Rattle.sched.specs.declared.schedule.Tail.TheVariants as tails
use Rattle.sched.specs.declared.placing.Loop.{Loop}
use Rattle.sched.specs.declared.nest.Turning.{Turning}
use Rattle.sched.specs.declared.numbers.Extent.{Extent}
use Rattle.sched.specs.declared.numbers.Numbers.{Numbers}
use Rattle.sched.specs.declared.skeleton.Known.{Known}
use Rattle.sched.specs.declared.skeleton.Step.{Step}
use Rattle.sched.specs.declared.skeleton.Step.TheVariants.{Turns, Named, Tested}
use Rattle.sched.specs.Numbers.{numbers_named, whole_numbers, loop_numbers}
use Rattle.sched.specs.Skeleton.{BodyText, NestText, variables_at, ranges_at, nest_of}
use Rattle.sched.specs.Standing.{◌>>=◌, StandingText, form_named, alone, is_now, starts_at, innermost}
use Rattle.sched.proofs.Standings.{all_more}
use Rattle.sched.specs.Stored.{FormulaText, StoredText}
use Rattle.regions.specs.Regions.{bodies_from}
use Rattle.sched.specs.Taken.{shortest}
use Rattle.sched.specs.Turned.{is_run, range_run, range_runs}
use Rattle.regions.specs.Turned.{steps_of, known_of, are_bounded, add_nests, all_runs as whole_runs, add_run as add_whole_run, add_runs as add_whole_runs}
use Rattle.regions.specs.Turned.{run_of as whole_run}
use Rattle.regions.specs.Turned.{nest_of as whole_nest, whole_nests}
use Rattle.sched.specs.Turned.{kind_of}
use Rattle.sched.specs.Parted.{FrameText, is_variable, forms_if, further_of, half_span, span_of, run_of, add_run, add_runs, all_runs, body_cuts, begun, nest_in, count_of, most_of}
use Rattle.sched.specs.Parted.{add_extents}
use Rattle.blocks.specs.Parted.{is_cut, told_span, rounded_cut, rounding, is_behind, lower_of, last_first, let_of, one_of, low_of, last_of, facts_of}
use Rattle.sched.specs.Parted.{is_telling, told_among, told_forms}
use Rattle.blocks.specs.Parted.{reach_by, reach_told, reach_of, with_even}
use Rattle.blocks.specs.Parted.{reach_at, with_reach, counted_at, reaches_from, counted_one, counted_from, half_reach, half_reaches, kept_of, frame_with, frame_by, frame_of, nest_over}
use Rattle.blocks.specs.Parted.{nests_from}
use Rattle.lower.specs.Parted.{nests_by, nests_over}
use Rattle.blocks.specs.Rounded.{with_block}
use Rattle.sched.specs.Settled.{picks, tests, tests_if, limited_span, limited, is_known, is_asked, begin_at, begin_over, keep_by_let, keep_by_guard, keep_by, told_form, put_together}
use Rattle.sched.specs.Settled.{join_over, join}
use Rattle.sched.specs.Settled.{begin, reach_named, is_guarded, enter, is_lanes, settle_by, settle_one, settle, turn, turn_all}
use Rattle.blocks.proofs.Laying.{bound, same}
use Rattle.completeness.proofs.Limited.{Limited, AreLimited, LimitedIf, IsSmall, IsSized, IsBodySmall, number_limited, combined_limited, alone_limited, named_sized, cut_sized, variables_limited}
use Rattle.completeness.proofs.Limited.{ranges_limited}
use Rattle.completeness.proofs.Bounding.{SpanLimited}

-- what functions give
abbrev Given : (A B : Type 0) → (A → B) → Type 0
Given A B f = B

abbrev Listed : (A B : Type 0) → (A → List B) → Type 0
Listed A B f = B

-- a loop, what a split's loops run over, and further upper forms of a loop
abbrev Run : Type 0
Run = Given _ _ range_run

abbrev Reach : Type 0
Reach = Given _ _ (half_reach [])

abbrev Counted : Type 0
Counted = Listed _ _ (counted_from [] [] 0)

abbrev pub Blocks : Type 0
Blocks = Given _ _ (with_block (alone 0) (alone 0))

-- the further upper forms of blocks, where they are counted
abbrev pub CountedFits : Option Blocks → Type 0
CountedFits None = Unit {0}
CountedFits (Some b) = AreLimited b.further

abbrev pub StepFits : Step → Type 0
StepFits (Turns i x kind) = SpanLimited x
StepFits (Named i pick fs) = AreLimited fs
StepFits (Tested low high) = Limited low × Limited high

abbrev pub StepsFit : List Step → Type 0
StepsFit ss = AllByRecursion StepFits ss

-- a nest whose forms are
pub record NestFits (n : NestText) : Type 0 where
  pub steps : StepsFit n.steps
  pub at : AllByRecursion LimitedIf n.at

-- ---- what stands at a place

abbrev KnownFits : Known → Type 0
KnownFits k = Limited k.form

record Fits (st : StandingText) : Type 0 where
  known : AllByRecursion KnownFits st.known
  starts : AllByRecursion KnownFits st.starts
  steps : StepsFit st.steps

record ReachFits (r : Reach) : Type 0 where
  low : Limited r.low
  last : Limited r.last

abbrev RunFits : Run → Type 0
RunFits r = SpanLimited r.span

now_fits : (x : List ℕ) (form : Form) (st : StandingText) → Limited form → Fits st → Fits (is_now x form st)
now_fits x form st h f = record { known = all_more KnownFits st.known (record { name = x; form = form }) f.known h; starts = f.starts; steps = f.steps }

starts_fit : (x : List ℕ) (form : Form) (st : StandingText) → Limited form → Fits st → Fits (starts_at x form st)
starts_fit x form st h f = record { known = f.known; starts = all_more KnownFits st.starts (record { name = x; form = form }) f.starts h; steps = f.steps }

picks_fit : (pick : Pick) (a b : Form) (st : StandingText) → Limited a → Limited b → Fits st → Fits (picks pick a b st)
picks_fit pick a b st h k f = record { known = f.known; starts = f.starts; steps = all-append StepFits st.steps (Named st.next pick (a ∷ b ∷ []) ∷ []) f.steps ((h, (k, tt)), tt) }

tests_fit : (low high : Form) (st : StandingText) → Limited low → Limited high → Fits st → Fits (tests low high st)
tests_fit low high st h k f = record { known = f.known; starts = f.starts; steps = all-append StepFits st.steps (Tested low high ∷ []) f.steps ((h, k), tt) }

tests_if_fit : (b : Bool) (low high : Form) (st : StandingText) → Limited low → Limited high → Fits st → Fits (tests_if b low high st)
tests_if_fit true low high st h k f = tests_fit low high st h k f
tests_if_fit false low high st h k f = f

span_fits : (b : Bool) (limit : Form) (x : Span1) → Limited limit → SpanLimited x → SpanLimited (limited_span b limit x)
span_fits true limit x h k = (k.0, all-append Limited x.upper (limit ∷ []) k.1 (h, tt))
span_fits false limit x h k = k

limited_fits : (s : ℕ) (limit : Form) → Limited limit → (ss : List Step) → StepsFit ss → StepsFit (map (limited s limit) ss)
limited_fits s limit h [] k = tt
limited_fits s limit h (Turns i x kind ∷ ss) k = (span_fits (i == s) limit x h k.0, limited_fits s limit h ss k.1)
limited_fits s limit h (Named i pick fs ∷ ss) k = (k.0, limited_fits s limit h ss k.1)
limited_fits s limit h (Tested low high ∷ ss) k = (k.0, limited_fits s limit h ss k.1)

abbrev Makes : Option StandingText → Type 0
Makes o = (new : StandingText) → o ≡ Some new → Fits new

some_fits : (st : StandingText) → Fits st → Makes (Some st)
some_fits st f new e = subst Fits (same st new e) f

if_fits : (b : Bool) (x y : Option StandingText) → Makes x → Makes y → Makes (if b then x else y)
if_fits true x y h k = h
if_fits false x y h k = k

-- ---- the first number of a block

begun_at : (t : Tail) (x : List ℕ) (n : ℕ) (last form : Form) (st : StandingText) → Limited form → Fits st → Makes (begin_at t x n last form st)
begun_at tails.Shift x n last form st h f = λ new e.
    let b = bound (combined (number (pos 1 -ℤ pos n)) (pos 1) last) (λ room. Some (starts_at x (alone st.next) (picks Min form room st))) new e in
    let room = combined_limited (number (pos 1 -ℤ pos n)) (pos 1) last b.value b.is in
    some_fits (starts_at x (alone st.next) (picks Min form b.value st)) (starts_fit x (alone st.next) (picks Min form b.value st) (alone_limited st.next) (picks_fit Min form b.value st h room f))
    new b.comes
begun_at tails.Guard x n last form st h f = some_fits (starts_at x form st) (starts_fit x form st h f)
begun_at tails.Roundup x n last form st h f = some_fits (starts_at x form st) (starts_fit x form st h f)

begun_over : (c : Split) (r : Reach) (o : Option Form) (st : StandingText) → ReachFits r → Fits st → Makes (begin_over c r o st)
begun_over c r None st h f = some_fits st f
begun_over c r (Some outer) st h f = λ new e.
    let b = bound (combined r.low (pos c.factor) outer) (λ form. begin_at c.tail c.whole c.factor r.last form (tests_if (is_asked c r st) form r.last st)) new e in
    let form = combined_limited r.low (pos c.factor) outer b.value b.is in
    begun_at c.tail c.whole c.factor r.last b.value (tests_if (is_asked c r st) b.value r.last st) form (tests_if_fit (is_asked c r st) b.value r.last st form h.last f) new b.comes

begun_fits : (c : Split) (r : Reach) (st : StandingText) → ReachFits r → Fits st → Makes (begin c r st)
begun_fits c r st h f = if_fits (is_known st.starts c.whole) (Some st) (begin_over c r (form_named st.known c.outer) st) (some_fits st f) (begun_over c r (form_named st.known c.outer) st h f)

-- ---- positions

kept_by_let : (x : List ℕ) (r : Reach) (form : Form) (st : StandingText) → ReachFits r → Limited form → Fits st → Fits (keep_by_let x r form st)
kept_by_let x r form st h k f = of r.is_told
  where
    one : Fits (picks Min form r.last st)
    one = picks_fit Min form r.last st k h.last f

    two : Fits (picks Max (alone st.next) r.low (picks Min form r.last st))
    two = picks_fit Max (alone st.next) r.low (picks Min form r.last st) (alone_limited st.next) h.low one

    of : (b : Bool) → Fits (if b then is_now x (alone st.next) (picks Min form r.last st) else is_now x (alone (st.next + 1)) (picks Max (alone st.next) r.low (picks Min form r.last st)))
    of true = now_fits x (alone st.next) (picks Min form r.last st) (alone_limited st.next) one
    of false = now_fits x (alone (st.next + 1)) (picks Max (alone st.next) r.low (picks Min form r.last st)) (alone_limited (st.next + 1)) two

kept_by_guard : (lane : Bool) (x : List ℕ) (r : Reach) (form : Form) (st : StandingText) → ReachFits r → Limited form → Fits st → Fits (keep_by_guard lane x r form st)
kept_by_guard true x r form st h k f = now_fits x form (tests form r.last st) k (tests_fit form r.last st k h.last f)
kept_by_guard false x r form st h k f = kept_by_let x r form (tests form r.last st) h k (tests_fit form r.last st k h.last f)

kept_by : (lane : Bool) (x : List ℕ) (r : Reach) (form told : Form) (o : Option ℕ) (st : StandingText) → ReachFits r → Limited form → Fits st → Makes (keep_by lane x r form told o st)
kept_by lane x r form told None st h k f = some_fits (keep_by_guard lane x r form st) (kept_by_guard lane x r form st h k f)
kept_by lane x r form told (Some s) st h k f = λ new e.
    let b = bound (combined r.last (negsuc 0) (without told s)) (λ limit. Some (is_now x form (record st { steps = map (limited s limit) st.steps }))) new e in
    let limit = combined_limited r.last (negsuc 0) (without told s) b.value b.is in
    let less : Fits (record st { steps = map (limited s b.value) st.steps }) = record { known = f.known; starts = f.starts; steps = limited_fits s b.value limit st.steps f.steps } in
    some_fits (is_now x form (record st { steps = map (limited s b.value) st.steps })) (now_fits x form (record st { steps = map (limited s b.value) st.steps }) k less) new b.comes

put_fits : (lane guarded : Bool) (c : Split) (blocks : ℕ) (r : Reach) (start form : Form) (st : StandingText) → ReachFits r → Limited form → Fits st →
    Makes (put_together lane guarded c blocks r start form st)
put_fits lane true c blocks r start form st h k f =
    kept_by lane c.whole r form (told_form c blocks start form) (innermost st.bound form) st h k f
put_fits lane false c blocks r start form st h k f = some_fits (is_now c.whole form st) (now_fits c.whole form st k f)

joined_over : (lane guarded : Bool) (c : Split) (blocks : ℕ) (r : Reach) (a b : Option Form) (st : StandingText) → ReachFits r → Fits st → Makes (join_over lane guarded c blocks r a b st)
joined_over lane guarded c blocks r None b st h f = some_fits st f
joined_over lane guarded c blocks r (Some start) None st h f = some_fits st f
joined_over lane guarded c blocks r (Some start) (Some inner) st h f = λ new e.
    let b = bound (combined start (pos 1) inner) (λ form. put_together lane guarded c blocks r start form st) new e in
    put_fits lane guarded c blocks r start b.value st h (combined_limited start (pos 1) inner b.value b.is) f new b.comes

joined_fits : (lane guarded : Bool) (c : Split) (blocks : ℕ) (r : Reach) (st : StandingText) → ReachFits r → Fits st → Makes (join lane guarded c blocks r st)
joined_fits lane guarded c blocks r st h f =
    if_fits (is_known st.known c.whole) (Some st) (join_over lane guarded c blocks r (form_named st.starts c.whole) (form_named st.known c.inner) st) (some_fits st f)
    (joined_over lane guarded c blocks r (form_named st.starts c.whole) (form_named st.known c.inner) st h f)

-- ---- loops

reach_found : (rs : List Reach) → AllByRecursion ReachFits rs → (x : List ℕ) (r : Reach) → reach_named rs x ≡ Some r → ReachFits r
reach_found [] h x r e = absurd (cc e)
reach_found (q ∷ rs) h x r e = of (same_name q.name x) e (reach_found rs h.1 x r)
  where
    of : (b : Bool) → (if b then Some q else find (λ r. same_name r.name x) rs) ≡ Some r → (reach_named rs x ≡ Some r → ReachFits r) → ReachFits r
    of true k rest = subst ReachFits (same q r k) h.0
    of false k rest = rest k

module _ (ns : List Numbers) (hs : List Reach) (reaches : AllByRecursion ReachFits hs) (all : List Split) where
  settled_one : (lane : Bool) (c : Split) (st : StandingText) → Fits st → Makes (settle_one ns hs all lane c st)
  settled_one lane c st f new e =
      let b = bound (reach_named hs c.whole) (λ r. settle_by ns all lane c r st) new e in
      let h = reach_found hs reaches c.whole b.value b.is in
      let m = bound (begin c b.value st) (join lane (is_guarded ns all c b.value) c (numbers_named ns c.outer).count b.value) new b.comes in
      joined_fits lane (is_guarded ns all c b.value) c (numbers_named ns c.outer).count b.value m.value h (begun_fits c b.value st h f m.value m.is) new m.comes

  settled_fits : (lane : Bool) (cs : List Split) (st : StandingText) → Fits st → Makes (settle ns hs all lane cs st)
  settled_fits lane [] st f = some_fits st f
  settled_fits lane (c ∷ cs) st f = λ new e.
      let b = bound (settle_one ns hs all lane c st) (settle ns hs all lane cs) new e in settled_fits lane cs b.value (settled_one lane c st f b.value b.is) new b.comes

  turned_fits : (r : Run) (st : StandingText) → RunFits r → Fits st → Makes (turn ns hs all r st)
  turned_fits r st h f =
      let entered : Fits (enter r st) = record {
        known = all_more KnownFits st.known (record { name = r.name; form = alone st.next }) f.known (alone_limited st.next);
        starts = f.starts;
        steps = all-append StepFits st.steps (Turns st.next r.span r.kind ∷ []) f.steps (h, tt);
      } in
      settled_fits (is_lanes r.kind) all (enter r st) entered

  all_turned_fit : (rs : List Run) (st : StandingText) → AllByRecursion RunFits rs → Fits st → Makes (turn_all ns hs all rs st)
  all_turned_fit [] st h f = some_fits st f
  all_turned_fit (r ∷ rs) st h f = λ new e.
      let b = bound (turn ns hs all r st) (turn_all ns hs all rs) new e in all_turned_fit rs b.value h.1 (turned_fits r st h.0 f b.value b.is) new b.comes

-- ---- what loops run over

range_fits : (ts : List Turning) → AllByRecursion (λ (t : Turning). IsSmall t.low × IsSmall t.last) ts → AllByRecursion RunFits (range_runs ts)
range_fits [] h = tt
range_fits (t ∷ ts) h = all-append RunFits (range_runs ts) (range_run t ∷ []) (range_fits ts h.1) (((number_limited t.low h.0.0, tt), (number_limited t.last h.0.1, tt)), tt)

further_fits : (cs : List Counted) → AllByRecursion (λ (c : Counted). AreLimited c.further) cs → (x : List ℕ) → AreLimited (further_of cs x)
further_fits [] h x = tt
further_fits (c ∷ cs) h x = all-append Limited (forms_if (same_name c.name x) c.further) (further_of cs x) (of (same_name c.name x)) (further_fits cs h.1 x)
  where
    of : (b : Bool) → AreLimited (forms_if b c.further)
    of true = h.0
    of false = tt

record FrameFits (f : FrameText) : Type 0 where
  numbers : AllByRecursion IsSized f.numbers
  reaches : AllByRecursion ReachFits f.reaches
  counted : AllByRecursion (λ (c : Counted). AreLimited c.further) f.counted

abbrev pub AreSpans : List Span1 → Type 0
AreSpans ss = AllByRecursion SpanLimited ss

half_limited : (r : Numbers) → IsSized r → Limited (number (pos r.count -ℤ pos 1))
half_limited r h = (let few = h.few in number_limited (pos r.count -ℤ pos 1) (omega (arith, ints, few), omega (arith, ints, few)))

zero_limited : Limited (number (pos 0))
zero_limited = number_limited (pos 0) (omega (arith, ints), omega (arith, ints))

module _ (xs : List (List ℕ)) (region : List Span1) (limits : AreSpans region) (f : FrameText) (fits : FrameFits f) where
  half_fits : (x : List ℕ) → SpanLimited (half_span f x)
  half_fits x =
      let r = numbers_named f.numbers x in
      let h = named_sized f.numbers fits.numbers x in
      ((zero_limited, tt), all-append Limited (number (pos r.count -ℤ pos 1) ∷ []) (further_of f.counted x) (half_limited r h, tt) (further_fits f.counted fits.counted x))

  span_found : (l : Loop) (s : Span1) → span_of xs region f l ≡ Some s → SpanLimited s
  span_found l s e = of (is_variable xs l) e
    where
      of : (b : Bool) → (if b then slice_get region l.dimension else Some (half_span f l.name)) ≡ Some s → SpanLimited s
      of true k = got SpanLimited region l.dimension s limits k
      of false k = subst SpanLimited (same (half_span f l.name) s k) (half_fits l.name)

  run_fits : (b : Bool) (l : Loop) (before rs : List Run) → AllByRecursion RunFits before → add_run xs region f b l before ≡ Some rs → AllByRecursion RunFits rs
  run_fits true l before rs h e =
      let b = bound (run_of xs region f l) (λ r. Some (before ++ r ∷ [])) rs e in
      let s = bound (span_of xs region f l) (λ s. Some (record { name = l.name; span = s; kind = kind_of l.mark })) b.value b.is in
      let one : RunFits b.value = subst RunFits (same (record { name = l.name; span = s.value; kind = kind_of l.mark }) b.value s.comes) (span_found l s.value s.is) in
      subst (AllByRecursion RunFits) (same (before ++ b.value ∷ []) rs b.comes) (all-append RunFits before (b.value ∷ []) h (one, tt))
  run_fits false l before rs h e = subst (AllByRecursion RunFits) (same before rs e) h

  runs_fit : (b : BodyText) (lanes : Bool) (ls : List Loop) (before rs : List Run) → AllByRecursion RunFits before → add_runs xs region f b lanes ls before ≡ Some rs → AllByRecursion RunFits rs
  runs_fit b lanes [] before rs h e = subst (AllByRecursion RunFits) (same before rs e) h
  runs_fit b lanes (l ∷ ls) before rs h e =
      let m = bound (add_runs xs region f b lanes ls before) (add_run xs region f (is_run b lanes l) l) rs e in
      run_fits (is_run b lanes l) l m.value rs (runs_fit b lanes ls before m.value h m.is) m.comes

  all_runs_fit : (ls : List Loop) (b : BodyText) (rs : List Run) → IsBodySmall b → all_runs xs region f ls b ≡ Some rs → AllByRecursion RunFits rs
  all_runs_fit ls b rs small e =
      let m = bound (add_runs xs region f b false ls []) (λ rs. add_runs xs region f b true ls (rs ++ range_runs b.ranges)) rs e in
      let first = runs_fit b false ls [] m.value tt m.is in
      runs_fit b true ls (m.value ++ range_runs b.ranges) rs (all-append RunFits m.value (range_runs b.ranges) first (range_fits b.ranges small)) m.comes

nest_limited : (xs : List (List ℕ)) (b : BodyText) (st : StandingText) → Fits st → NestFits (nest_of xs b st)
nest_limited xs b st f = record {
  steps = f.steps;
  at = all-append LimitedIf (variables_at b 0 xs st.known) (ranges_at b.ranges st.known) (variables_limited b 0 xs st.known f.known) (ranges_limited b.ranges st.known f.known);
}

nest_fits : (g : StoredText) (region : List Span1) → AreSpans region → (s : ℕ) (f : FrameText) → FrameFits f → (lets : List Step) → StepsFit lets → (b : BodyText) → IsBodySmall b → (n : NestText) →
    nest_in g region s f lets b ≡ Some n → NestFits n
nest_fits g region limits s f fits lets over b small n e =
    let xs = g.subject.variables in
    let rs = bound (all_runs xs region f g.placed.loops b) (λ rs. turn_all f.numbers f.reaches (body_cuts g b) rs (begun s lets) >>= λ st. Some (nest_of xs b st)) n e in
    let st = bound (turn_all f.numbers f.reaches (body_cuts g b) rs.value (begun s lets)) (λ st. Some (nest_of xs b st)) n rs.comes in
    let first : Fits (begun s lets) = record { known = tt; starts = tt; steps = over } in
    let runs = all_runs_fit xs region limits f fits g.placed.loops b rs.value small rs.is in
    let stands = all_turned_fit f.numbers f.reaches fits.reaches (body_cuts g b) rs.value (begun s lets) runs first st.value st.is in
    subst NestFits (same (nest_of xs b st.value) n st.comes) (nest_limited xs b st.value stands)

-- ---- the ends of what is needed

module _ (scope : List Binding) where
  among_limited : (pick : Pick) (all fs : List Form) → AreLimited all → AreLimited fs → AreLimited (told_among scope pick all fs)
  among_limited pick all [] h k = h
  among_limited pick all (f ∷ fs) h k = of (is_telling scope pick f all) (among_limited pick all fs h k.1)
    where
      of : (b : Bool) → AreLimited (told_among scope pick all fs) → AreLimited (if b then f ∷ [] else told_among scope pick all fs)
      of true m = (k.0, tt)
      of false m = m

  pub told_limited : (pick : Pick) (fs : List Form) → AreLimited fs → AreLimited (told_forms scope pick fs)
  told_limited pick [] h = tt
  told_limited pick (f ∷ []) h = h
  told_limited pick (f ∷ e ∷ fs) h = among_limited pick (f ∷ e ∷ fs) (f ∷ e ∷ fs) h h

last_limited : (fs : List Form) → AreLimited fs → AreLimited (last_first fs)
last_limited [] h = tt
last_limited (f ∷ fs) h = all-append Limited (last_first fs) (f ∷ []) (last_limited fs h.1) (h.0, tt)

abbrev EndFits : Form × List Step → Type 0
EndFits x = Limited x.0 × StepsFit x.1

let_fits : (first : ℕ) (pick : Pick) (fs : List Form) (lets : List Step) → AreLimited fs → StepsFit lets → EndFits (let_of first pick fs lets)
let_fits first pick fs lets h k = (alone_limited (first + length lets), all-append StepFits lets (Named (first + length lets) pick fs ∷ []) k (h, tt))

one_fits : (first : ℕ) (pick : Pick) (fs : List Form) (lets : List Step) → AreLimited fs → StepsFit lets → EndFits (one_of first pick fs lets)
one_fits first pick [] lets h k = let_fits first pick [] lets h k
one_fits first pick (f ∷ []) lets h k = (h.0, k)
one_fits first pick (f ∷ e ∷ fs) lets h k = let_fits first pick (f ∷ e ∷ fs) lets h k

abbrev ReachesFit : List Reach × List Step → Type 0
ReachesFit x = AllByRecursion ReachFits x.0 × StepsFit x.1

abbrev ReachIfFits : Option Reach → Type 0
ReachIfFits None = Unit {0}
ReachIfFits (Some r) = ReachFits r

module _ (scope : List Binding) where
  lower_limited : (s t : Span1) (kept : Option Span1) → SpanLimited s → SpanLimited t → AreLimited (lower_of scope s t kept)
  lower_limited s t kept h k = of (is_behind scope kept t.lower)
    where
      of : (b : Bool) → AreLimited (if b then t.lower else s.lower)
      of true = k.0
      of false = h.0

  reach_fits : (x : List ℕ) (k : Option ℕ) (s : Span1) (kept : Option Span1) (lets : List Step) (r : Reach × List Step) → SpanLimited s → StepsFit lets →
      reach_of scope x k s kept lets ≡ Some r → ReachFits r.0 × StepsFit r.1
  reach_fits x k s kept lets r h over e =
      let t = told_span scope s in
      let told : SpanLimited t = (told_limited scope Max s.lower h.0, told_limited scope Min s.upper h.1) in
      let n = bound (most_of (shortest scope s)) (λ n. reach_told scope x k s t kept n lets) r e in
      let low = low_of scope s t kept lets in
      let last = last_of scope t low.1 in
      let f = bound (facts_of scope t k kept n.value) (λ facts. Some (reach_by x low.0 last.0 facts, last.1)) r n.comes in
      let first = one_fits (length scope) Max (lower_of scope s t kept) lets (lower_limited s t kept h told) over in
      let second = one_fits (length scope) Min (last_first t.upper) low.1 (last_limited t.upper told.1) first.1 in
      let made : ReachFits (reach_by x low.0 last.0 f.value) = record { low = first.0; last = second.0 } in
      subst (λ (y : Reach × List Step). ReachFits y.0 × StepsFit y.1) (same (reach_by x low.0 last.0 f.value, last.1) r f.comes) (made, second.1)

  reach_at_fits : (cs : List Split) (b : Bool) (x : List ℕ) (s : Span1) (kept : Option Span1) (lets : List Step) (r : Option Reach × List Step) → SpanLimited s → StepsFit lets →
      reach_at scope cs b x s kept lets ≡ Some r → ReachIfFits r.0 × StepsFit r.1
  reach_at_fits cs b x s kept lets r h over e = of (is_cut cs x) e
    where
      of : (c : Bool) → (if c then (reach_of scope x (rounding cs x) s kept lets >>= λ r. Some (Some (with_even b r.0), r.1)) else Some (None, lets)) ≡ Some r → ReachIfFits r.0 × StepsFit r.1
      of true k =
          let m = bound (reach_of scope x (rounding cs x) s kept lets) (λ r. Some (Some (with_even b r.0), r.1)) r k in
          let f = reach_fits x (rounding cs x) s kept lets m.value h over m.is in
          let made : ReachFits (with_even b m.value.0) = record { low = f.0.low; last = f.0.last } in
          subst (λ (y : Option Reach × List Step). ReachIfFits y.0 × StepsFit y.1) (same (Some (with_even b m.value.0), m.value.1) r m.comes) (made, f.1)
      of false k = subst (λ (y : Option Reach × List Step). ReachIfFits y.0 × StepsFit y.1) (same (None, lets) r k) (tt, over)

  with_fits : (o : Option Reach) (rs : List Reach) → ReachIfFits o → AllByRecursion ReachFits rs → AllByRecursion ReachFits (with_reach o rs)
  with_fits None rs h k = k
  with_fits (Some r) rs h k = (h, k)

  reaches_fit : (cs : List Split) (bs : List (Option Blocks)) (kept : List Span1) (d : ℕ) (xs : List (List ℕ)) (ss : List Span1) (lets : List Step) (r : List Reach × List Step) → AreSpans
      ss → StepsFit lets →
      reaches_from scope cs bs kept d xs ss lets ≡ Some r → ReachesFit r
  reaches_fit cs bs kept d [] ss lets r h over e = subst ReachesFit (same ([], lets) r e) (tt, over)
  reaches_fit cs bs kept d (x ∷ xs) [] lets r h over e = subst ReachesFit (same ([], lets) r e) (tt, over)
  reaches_fit cs bs kept d (x ∷ xs) (s ∷ ss) lets r h over e =
      let at = slice_get kept d in
      let first = bound (reach_at scope cs _ x s at lets) (λ first. reaches_from scope cs bs kept (d + 1) xs ss first.1 >>= λ rest. Some (with_reach first.0 rest.0, rest.1)) r e in
      let rest = bound (reaches_from scope cs bs kept (d + 1) xs ss first.value.1) (λ rest. Some (with_reach first.value.0 rest.0, rest.1)) r first.comes in
      let one = reach_at_fits cs _ x s at lets first.value h.0 over first.is in
      let more = reaches_fit cs bs kept (d + 1) xs ss first.value.1 rest.value h.1 one.1 rest.is in
      subst ReachesFit (same (with_reach first.value.0 rest.value.0, rest.value.1) r rest.comes) (with_fits first.value.0 rest.value.0 one.0 more.0, more.1)

halves_fit : (ns : List Numbers) → AllByRecursion IsSized ns → (cs : List Split) → AllByRecursion ReachFits (half_reaches ns cs)
halves_fit ns h [] = tt
halves_fit ns h (c ∷ cs) = (one c.outer, (one c.inner, halves_fit ns h cs))
  where
    one : (x : List ℕ) → ReachFits (half_reach ns x)
    one x = record { low = zero_limited; last = half_limited (numbers_named ns x) (named_sized ns h x) }

counted_fit : (cs : List Split) (bs : List (Option Blocks)) → AllByRecursion CountedFits bs → (d : ℕ) (xs : List (List ℕ)) →
    AllByRecursion (λ (c : Counted). AreLimited c.further) (counted_from cs bs d xs)
counted_fit cs bs h d [] = tt
counted_fit cs bs h d (x ∷ xs) =
    all-append (λ (c : Counted). AreLimited c.further) (counted_one (rounded_cut cs x) (counted_at bs d)) (counted_from cs bs (d + 1) xs) (of (rounded_cut cs x) (counted_at bs d) at)
    (counted_fit cs bs h (d + 1) xs)
  where
    found : (o : Option (Option Blocks)) → ((b : Option Blocks) → o ≡ Some b → CountedFits b) → CountedFits (o >>= λ b. b)
    found None k = tt
    found (Some b) k = k b refl

    at : CountedFits (counted_at bs d)
    at = found (slice_get bs d) (λ b e. got CountedFits bs d b h e)

    of : (o : Option Split) (b : Option Blocks) → CountedFits b → AllByRecursion (λ (c : Counted). AreLimited c.further) (counted_one o b)
    of None b k = tt
    of (Some c) None k = tt
    of (Some c) (Some b) k = (k, tt)

-- the most numbers of a dimension, as the splits' loops count them
abbrev IsFew : Extent → Type 0
IsFew e = (e.low ≡ pos 0) × (e.count < 4294967296)

count_few : (z : ℤ) → count_of z < 4294967296
count_few (pos n) = of (nat_lt n (2 ^ 32)) refl
  where
    of : (b : Bool) → nat_lt n 4294967296 ≡ b → (if b then n else 1) < 4294967296
    of true e = grind (arith, nat_tests)
    of false e = omega arith
count_few (negsuc n) = omega arith

extents_few : (scope : List Binding) (ss : List Span1) (before es : List Extent) → AllByRecursion IsFew before → add_extents scope ss before ≡ Some es → AllByRecursion IsFew es
extents_few scope [] before es h e = subst (AllByRecursion IsFew) (same before es e) h
extents_few scope (s ∷ ss) before es h e =
    let n = bound (most_of (shortest scope s)) (λ n. add_extents scope ss (before ++ record { low = pos 0; count = count_of n } ∷ [])) es e in
    extents_few scope ss (before ++ record { low = pos 0; count = count_of n.value } ∷ []) es
    (all-append IsFew before (record { low = pos 0; count = count_of n.value } ∷ []) h ((refl, count_few n.value), tt)) n.comes

few_sized : (xs : List (List ℕ)) (es : List Extent) → AllByRecursion IsFew es → AllByRecursion IsSized (whole_numbers xs es)
few_sized [] es h = tt
few_sized (x ∷ xs) [] h = tt
few_sized (x ∷ xs) (e ∷ es) h =
    let low = h.0.0 in (record { from = omega (arith, ints, low); to = omega (arith, ints, low); few = h.0.1 }, few_sized xs es h.1)

-- ---- nests

module _ (g : StoredText) (few : AllByRecursion (λ c. c.factor ≤ 1024) g.placed.cuts) (scope : List Binding) (region : List Span1) (limits : AreSpans region) where
  abbrev FrameAndLets : FrameText × List Step → Type 0
  FrameAndLets x = FrameFits x.0 × StepsFit x.1

  frame_fits : (kept : List Span1) (bs : List (Option Blocks)) → AllByRecursion CountedFits bs → (d : ℕ) (f : FrameText × List Step) → frame_of g scope region kept bs d ≡ Some f → FrameAndLets f
  frame_fits kept bs counts d f e =
      let xs = g.subject.variables in
      let cs = g.placed.cuts in
      let es = bound (add_extents scope region []) (λ es. frame_by g scope region kept bs d (loop_numbers xs cs es)) f e in
      let ns : List Numbers = loop_numbers xs cs es.value in
      let r = bound (reaches_from scope cs bs (kept_of kept d) 0 xs region []) (λ r. Some (frame_with g scope region kept bs ns r)) f es.comes in
      let sized : AllByRecursion IsSized ns = cut_sized cs few (whole_numbers xs es.value) (few_sized xs es.value (extents_few scope region [] es.value tt es.is)) in
      let reaches = reaches_fit scope cs bs (kept_of kept d) 0 xs region [] r.value limits tt r.is in
      let made : FrameFits (frame_with g scope region kept bs ns r.value).0 = record {
        numbers = sized;
        reaches = all-append ReachFits r.value.0 (half_reaches ns cs) reaches.0 (halves_fit ns sized cs);
        counted = counted_fit cs bs counts 0 xs;
      } in
      subst FrameAndLets (same (frame_with g scope region kept bs ns r.value) f r.comes) (made, reaches.1)

  pub parted_fit : (kept : List Span1) (bs : List (Option Blocks)) → AllByRecursion CountedFits bs → (d : ℕ) (bodies : List BodyText) (ns : List NestText) → AllByRecursion IsBodySmall
      bodies → nests_from g scope region kept bs d bodies ≡ Some ns → AllByRecursion NestFits ns
  parted_fit kept bs counts d [] ns small e = subst (AllByRecursion NestFits) (same [] ns e) tt
  parted_fit kept bs counts d (b ∷ bodies) ns small e =
      let n = bound (nest_over g scope region kept bs d b) (λ n. nests_from g scope region kept bs (d + 1) bodies >>= λ ns. Some (n ∷ ns)) ns e in
      let rest = bound (nests_from g scope region kept bs (d + 1) bodies) (λ ns. Some (n.value ∷ ns)) ns n.comes in
      let f = bound (frame_of g scope region kept bs d) (λ f. nest_in g region (length scope) f.0 f.1 b) n.value n.is in
      let fits = frame_fits kept bs counts d f.value f.is in
      subst (AllByRecursion NestFits) (same (n.value ∷ rest.value) ns rest.comes)
      (nest_fits g region limits (length scope) f.value.0 fits.0 f.value.1 fits.1 b small.0 n.value f.comes, parted_fit kept bs counts (d + 1) bodies rest.value small.1 rest.is)

  -- where no loop is split

  whole_run_fits : (b : Bool) (l : Loop) (before rs : List Run) → AllByRecursion RunFits before → add_whole_run region b l before ≡ Some rs → AllByRecursion RunFits rs
  whole_run_fits true l before rs h e =
      let b = bound (whole_run region l) (λ r. Some (before ++ r ∷ [])) rs e in
      let s = bound (slice_get region l.dimension) (λ s. Some (record { name = l.name; span = s; kind = kind_of l.mark })) b.value b.is in
      let one : RunFits b.value = subst RunFits (same (record { name = l.name; span = s.value; kind = kind_of l.mark }) b.value s.comes) (got SpanLimited region l.dimension s.value limits s.is) in
      subst (AllByRecursion RunFits) (same (before ++ b.value ∷ []) rs b.comes) (all-append RunFits before (b.value ∷ []) h (one, tt))
  whole_run_fits false l before rs h e = subst (AllByRecursion RunFits) (same before rs e) h

  whole_runs_fit : (b : BodyText) (lanes : Bool) (ls : List Loop) (before rs : List Run) → AllByRecursion RunFits before → add_whole_runs region b lanes ls before ≡ Some rs → AllByRecursion RunFits rs
  whole_runs_fit b lanes [] before rs h e = subst (AllByRecursion RunFits) (same before rs e) h
  whole_runs_fit b lanes (l ∷ ls) before rs h e =
      let m = bound (add_whole_runs region b lanes ls before) (add_whole_run region (is_run b lanes l) l) rs e in
      whole_run_fits (is_run b lanes l) l m.value rs (whole_runs_fit b lanes ls before m.value h m.is) m.comes

  all_whole_fit : (ls : List Loop) (b : BodyText) (rs : List Run) → IsBodySmall b → whole_runs region ls b ≡ Some rs → AllByRecursion RunFits rs
  all_whole_fit ls b rs small e =
      let m = bound (add_whole_runs region b false ls []) (λ rs. add_whole_runs region b true ls (rs ++ range_runs b.ranges)) rs e in
      let first = whole_runs_fit b false ls [] m.value tt m.is in
      whole_runs_fit b true ls (m.value ++ range_runs b.ranges) rs (all-append RunFits m.value (range_runs b.ranges) first (range_fits b.ranges small)) m.comes

  steps_fit : (s : ℕ) (rs : List Run) → AllByRecursion RunFits rs → StepsFit (steps_of s rs)
  steps_fit s [] h = tt
  steps_fit s (r ∷ rs) h = (h.0, steps_fit (s + 1) rs h.1)

  known_fit : (s : ℕ) (rs : List Run) → AllByRecursion KnownFits (known_of s rs)
  known_fit s [] = tt
  known_fit s (r ∷ rs) = (refl, known_fit (s + 1) rs)

  whole_nest_fits : (b : BodyText) (s : ℕ) (rs : List Run) → AllByRecursion RunFits rs → NestFits (whole_nest g.subject.variables b s rs)
  whole_nest_fits b s rs h = record {
    steps = steps_fit s rs h;
    at = all-append LimitedIf (variables_at b 0 g.subject.variables (known_of s rs)) (ranges_at b.ranges (known_of s rs))
        (variables_limited b 0 g.subject.variables (known_of s rs) (known_fit s rs)) (ranges_limited b.ranges (known_of s rs) (known_fit s rs));
  }

  added_fit : (s : ℕ) (bs : List BodyText) (before ns : List NestText) → AllByRecursion IsBodySmall bs → AllByRecursion NestFits before → add_nests g region s bs before ≡ Some ns →
      AllByRecursion NestFits ns
  added_fit s [] before ns small h e = subst (AllByRecursion NestFits) (same before ns e) h
  added_fit s (b ∷ bs) before ns small h e =
      let rs = bound (whole_runs region g.placed.loops b) (λ rs. add_nests g region s bs (before ++ whole_nest g.subject.variables b s rs ∷ [])) ns e in
      let one = whole_nest_fits b s rs.value (all_whole_fit g.placed.loops b rs.value small.0 rs.is) in
      added_fit s bs (before ++ whole_nest g.subject.variables b s rs.value ∷ []) ns small.1 (all-append NestFits before (whole_nest g.subject.variables b s rs.value ∷ []) h (one, tt)) rs.comes

  module _ (fs : List FormulaText) (small : AllByRecursion IsBodySmall (bodies_from g.changes 0 g.subject.reductions fs)) where
    whole_fit : (ns : List NestText) → whole_nests g fs scope region ≡ Some ns → AllByRecursion NestFits ns
    whole_fit ns e = of (are_bounded scope region) e
      where
        bs : List BodyText
        bs = bodies_from g.changes 0 g.subject.reductions fs

        of : (b : Bool) → (if b then add_nests g region (length scope) bs [] else None) ≡ Some ns → AllByRecursion NestFits ns
        of true k = added_fit (length scope) bs [] ns small tt k
        of false k = absurd (cc k)

    -- its nests over this region, of which some is kept
    pub over_fit : (kept : List Span1) (ns : List NestText) → nests_over g fs scope region kept ≡ Some ns → AllByRecursion NestFits ns
    over_fit kept ns e = of g.placed.cuts e
      where
        of : (cs : List Split) → nests_by cs g fs scope region kept ≡ Some ns → AllByRecursion NestFits ns
        of [] k = whole_fit ns k
        of (c ∷ cs) k = parted_fit kept [] tt 0 (bodies_from g.changes 0 g.subject.reductions fs) ns small k
