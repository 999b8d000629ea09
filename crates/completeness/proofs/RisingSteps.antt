-- The forms of a skeleton are canonical, and its steps are few: whatever splits its loops, and in whatever order they stand, each split makes two lets and a guard at most.
use Rattle.std.proofs.Common.{◌≡◌, ℕ, ◌+◌, ◌*◌, ◌≤◌, Bool, true, false, List, [], ◌∷◌, ◌++◌, length, Option, Some, None, refl, sym, ap, ◌∙◌, subst, inl, inr, arith}
use Rattle.std.specs.Prelude.{ℤ, pos, negsuc, if◌then◌else◌}
use Rattle.std.specs.List.{AllByRecursion}
use Rattle.std.proofs.lemmas.Int.{ints}
use Rattle.std.proofs.lemmas.List.{length-append}
use Rattle.lin.specs.Forms.{Form, number, without}
use Rattle.bounds.proofs.ListSound.{all-append}
use Rattle.plan.specs.declared.stmt.Kind.TheVariants.{Serial}
use Rattle.plan.specs.declared.stmt.Pick.TheVariants.{Min}
use Rattle.soundness.specs.Claims.{In}
use Rattle.sched.specs.declared.schedule.Split.{Split}
use Rattle.sched.specs.declared.numbers.Numbers.{Numbers}
use Rattle.sched.specs.declared.numbers.Extent.{Extent}
use Rattle.sched.specs.declared.placing.Loop.{Loop as LoopMade}
use Rattle.sched.specs.declared.skeleton.Known.{Known}
use Rattle.sched.specs.declared.skeleton.Step.{Step}
use Rattle.sched.specs.declared.skeleton.Step.TheVariants.{Turns, Named, Tested}
use Rattle.sched.specs.declared.nest.Turning.{Turning}
use Rattle.sched.specs.Numbers.{loop_numbers, numbers_named, last_number, parallel_loops, piece_counts}
use Rattle.sched.specs.Placing.{PlacedText}
use Rattle.sched.specs.Standing.{◌>>=◌, StandingText, form_named, alone, is_now}
use Rattle.sched.specs.Standing.{room, begin, is_guarded, join, settle_some, cuts_by_variable}
use Rattle.sched.specs.Skeleton.{BodyText, NestText, SkeletonText, span, enter, leave, inside, turn, turn_all, kept_from, nest_turns}
use Rattle.sched.specs.Skeleton.{is_missing, variables_at, ranges_at, begun, nest_in, nest_of, nests_in, grid_forms, over_grid, skeleton_in}
use Rattle.sched.proofs.Rooting.{all_by_variable}
use Rattle.sched.proofs.Standings.{all_more, found_all, stands_more, stands_last, Begins, stood, waits as waits_there, plainly, shifted, begins, Puts, freely, by_loop, by_guard, by_test}
use Rattle.sched.proofs.Standings.{Joins, stays, puts, joins}
use Rattle.blocks.specs.Bodies.{step_lines}
use Rattle.blocks.proofs.Laying.{bound, same}
use Rattle.completeness.proofs.Rising.{Rises, AllRise, SpanRises, combined_rises}
use Rattle.completeness.proofs.Standing.{Within, at_grid}

-- ---- steps

-- canonical forms: of a loop a lower one, and of upper ones at most so many; two of a let
abbrev pub IsStep : ℕ → Step → Type 0
IsStep most (Turns i x kind) = SpanRises x × (length x.lower ≡ 1) × (1 ≤ length x.upper) × (length x.upper ≤ most)
IsStep most (Named i pick fs) = AllRise fs × (length fs ≡ 2)
IsStep most (Tested low high) = Rises low × Rises high

abbrev pub AreSteps : ℕ → List Step → Type 0
AreSteps most ss = AllByRecursion (IsStep most) ss

-- how many of them bind a symbol
abbrev pub binders : List Step → ℕ
binders [] = 0
binders (Turns i x kind ∷ ss) = 1 + binders ss
binders (Named i pick fs ∷ ss) = 1 + binders ss
binders (Tested low high ∷ ss) = binders ss

binders_both : (a b : List Step) → binders (a ++ b) ≡ binders a + binders b
binders_both [] b = omega arith
binders_both (Turns i x kind ∷ a) b = (let rest = binders_both a b in omega (arith, rest))
binders_both (Named i pick fs ∷ a) b = (let rest = binders_both a b in omega (arith, rest))
binders_both (Tested low high ∷ a) b = binders_both a b

lines_both : (a b : List Step) → step_lines (a ++ b) ≡ step_lines a + step_lines b
lines_both [] b = omega arith
lines_both (Turns i x kind ∷ a) b = (let rest = lines_both a b in omega (arith, rest))
lines_both (Named i pick fs ∷ a) b = (let rest = lines_both a b in omega (arith, rest))
lines_both (Tested low high ∷ a) b = (let rest = lines_both a b in omega (arith, rest))

-- ---- splits of which nothing stands yet

abbrev unless_found : Option Form → ℕ
unless_found o = elim o [ Some f ↦ 0 | None ↦ 1 ]

at_most_one : (o : Option Form) → unless_found o ≤ 1
at_most_one None = omega arith
at_most_one (Some f) = omega arith

-- how many of the splits have no form under the name of their loop
abbrev pub waiting : List Known → List Split → ℕ
waiting ks [] = 0
waiting ks (c ∷ cs) = unless_found (form_named ks c.whole) + waiting ks cs

waiting_most : (ks : List Known) (cs : List Split) → waiting ks cs ≤ length cs
waiting_most ks [] = omega arith
waiting_most ks (c ∷ cs) = (let one = at_most_one (form_named ks c.whole) in let rest = waiting_most ks cs in omega (arith, one, rest))

one_more : (ks : List Known) (k : Known) (x : List ℕ) → unless_found (form_named (ks ++ k ∷ []) x) ≤ unless_found (form_named ks x)
one_more ks k x = of (form_named ks x) refl
  where
    of : (o : Option Form) → form_named ks x ≡ o → unless_found (form_named (ks ++ k ∷ []) x) ≤ unless_found o
    of None e = at_most_one (form_named (ks ++ k ∷ []) x)
    of (Some f) e = (let there = stands_more ks k x (f, e) in let none = ap unless_found there.1 in omega (arith, none))

waiting_more : (ks : List Known) (k : Known) (cs : List Split) → waiting (ks ++ k ∷ []) cs ≤ waiting ks cs
waiting_more ks k [] = omega arith
waiting_more ks k (c ∷ cs) = (let one = one_more ks k c.whole in let rest = waiting_more ks k cs in omega (arith, one, rest))

-- one fewer behind the form of one of them
waiting_less : (ks : List Known) (f : Form) (cs : List Split) (c : Split) → In c cs → form_named ks c.whole ≡ None → waiting (ks ++ record { name = c.whole; form = f } ∷ []) cs + 1 ≤ waiting ks cs
waiting_less ks f [] c m none = absurd m
waiting_less ks f (d ∷ cs) c (inl e) none =
    let k : Known = record { name = c.whole; form = f } in
    let there = stands_last ks k in
    let zero_now : unless_found (form_named (ks ++ k ∷ []) d.whole) ≡ 0 = ap (λ (b : Split). unless_found (form_named (ks ++ k ∷ []) b.whole)) (sym e) ∙ ap unless_found there.1 in
    let one_before : unless_found (form_named ks d.whole) ≡ 1 = ap (λ (b : Split). unless_found (form_named ks b.whole)) (sym e) ∙ ap unless_found none in
    let rest = waiting_more ks k cs in
    omega (arith, zero_now, one_before, rest)
waiting_less ks f (d ∷ cs) c (inr m) none =
    let k : Known = record { name = c.whole; form = f } in
    let one = one_more ks k d.whole in
    let rest = waiting_less ks f cs c m none in
    omega (arith, one, rest)

-- ---- what stands while a skeleton is made

abbrev pub AllKnown : List Known → Type 0
AllKnown ks = AllByRecursion (λ k. Rises k.form) ks

looked : (ks : List Known) (x : List ℕ) (f : Form) → AllKnown ks → form_named ks x ≡ Some f → Rises f
looked ks x f h e = found_all (λ y g. Rises g) ks x f h e

alone_rises : (i : ℕ) → Rises (alone i)
alone_rises i = ((λ h. omega (arith, ints, h)), tt, tt)

-- of all splits: the steps so far, with those that may still be made, bind so many symbols, and take so many lines
record Sits (all : List Split) (symbols lines : ℕ) (st : StandingText) : Type 0 where
  known : AllKnown st.known
  starts : AllKnown st.starts
  limits : AllRise st.limits
  steps : AreSteps (1 + length all) st.steps
  few_symbols : binders st.steps + (waiting st.known all + waiting st.starts all) ≤ symbols
  few_lines : step_lines st.steps + (3 * waiting st.known all + waiting st.starts all) ≤ lines
  few_limits : length st.limits + waiting st.known all ≤ length all

module _ (all : List Split) (symbols lines : ℕ) where
  abbrev Here : StandingText → Type 0
  Here st = Sits all symbols lines st

  now : (x : List ℕ) (f : Form) (st : StandingText) → Rises f → Here st → Here (is_now x f st)
  now x f st g h =
      let more = waiting_more st.known (record { name = x; form = f }) all in
      let symbols_here = h.few_symbols in
      let lines_here = h.few_lines in
      let limits_here = h.few_limits in
      record {
        known = all_more (λ k. Rises k.form) st.known (record { name = x; form = f }) h.known g;
        starts = h.starts;
        limits = h.limits;
        steps = h.steps;
        few_symbols = omega (arith, more, symbols_here);
        few_lines = omega (arith, more, lines_here);
        few_limits = omega (arith, more, limits_here);
      }

  module _ (c : Split) (m : In c all) where
    begun_here : (r : Numbers) (st new : StandingText) → Here st → begin c r st ≡ Some new → Here new
    begun_here r st new h e = of (begins c r st new e)
      where
        begins_at : (f : Form) → Rises f → AllKnown (st.starts ++ record { name = c.whole; form = f } ∷ [])
        begins_at f g = all_more (λ k. Rises k.form) st.starts (record { name = c.whole; form = f }) h.starts g

        of : Begins c r st new → Here new
        of (stood s is) = subst Here (sym is) h
        of (waits_there none is) = subst Here (sym is) h
        of (plainly outer form none some sum first is) =
            let more = waiting_more st.starts (record { name = c.whole; form = form }) all in
            let symbols_here = h.few_symbols in
            let lines_here = h.few_lines in
            subst Here (sym is) (record {
              known = h.known;
              starts = begins_at form (combined_rises (number r.low) (pos c.factor) outer tt form sum);
              limits = h.limits;
              steps = h.steps;
              few_symbols = omega (arith, more, symbols_here);
              few_lines = omega (arith, more, lines_here);
              few_limits = h.few_limits;
            })
        of (shifted outer form none some sum first is) =
            let less = waiting_less st.starts (alone st.next) all c m none in
            let named : List Step = Named st.next Min (form ∷ number (room r c.factor) ∷ []) ∷ [] in
            let many = binders_both st.steps named in
            let long = lines_both st.steps named in
            let symbols_here = h.few_symbols in
            let lines_here = h.few_lines in
            subst Here (sym is) (record {
              known = h.known;
              starts = begins_at (alone st.next) (alone_rises st.next);
              limits = h.limits;
              steps = all-append (IsStep (1 + length all)) st.steps named h.steps (((combined_rises (number r.low) (pos c.factor) outer tt form sum, (tt, tt)), refl), tt);
              few_symbols = omega (arith, less, many, symbols_here);
              few_lines = omega (arith, less, long, lines_here);
              few_limits = h.few_limits;
            })

    put_here : (guarded : Bool) (last : ℤ) (f : Form) (st new : StandingText) → form_named st.known c.whole ≡ None → Rises f → Here st → Puts guarded c.whole last f st new → Here new
    put_here guarded last f st new none g h (freely free is) = subst Here (sym is) (now c.whole f st g h)
    put_here guarded last f st new none g h (by_loop s limit i l is) =
        let less = waiting_less st.known f all c m none in
        let more = length-append st.limits (limit ∷ []) in
        let symbols_here = h.few_symbols in
        let lines_here = h.few_lines in
        let limits_here = h.few_limits in
        subst Here (sym is) (record {
          known = all_more (λ k. Rises k.form) st.known (record { name = c.whole; form = f }) h.known g;
          starts = h.starts;
          limits = all-append Rises st.limits (limit ∷ []) h.limits (combined_rises (number last) (negsuc 0) (without f s) tt limit l, tt);
          steps = h.steps;
          few_symbols = omega (arith, less, symbols_here);
          few_lines = omega (arith, less, lines_here);
          few_limits = omega (arith, less, more, limits_here);
        })
    put_here guarded last f st new none g h (by_guard is) =
        let at = st.next in
        let less = waiting_less st.known (alone at) all c m none in
        let tested : List Step = Tested f (number last) ∷ [] in
        let named : List Step = Named at Min (f ∷ number last ∷ []) ∷ [] in
        let first_many = binders_both st.steps tested in
        let many = binders_both (st.steps ++ tested) named in
        let first_long = lines_both st.steps tested in
        let long = lines_both (st.steps ++ tested) named in
        let symbols_here = h.few_symbols in
        let lines_here = h.few_lines in
        let limits_here = h.few_limits in
        subst Here (sym is) (record {
          known = all_more (λ k. Rises k.form) st.known (record { name = c.whole; form = alone at }) h.known (alone_rises at);
          starts = h.starts;
          limits = h.limits;
          steps = all-append (IsStep (1 + length all)) (st.steps ++ tested) named (all-append (IsStep (1 + length all)) st.steps tested h.steps ((g, tt), tt)) (((g, (tt, tt)), refl), tt);
          few_symbols = omega (arith, less, first_many, many, symbols_here);
          few_lines = omega (arith, less, first_long, long, lines_here);
          few_limits = omega (arith, less, limits_here);
        })
    put_here guarded last f st new none g h (by_test is) =
        let less = waiting_less st.known f all c m none in
        let tested : List Step = Tested f (number last) ∷ [] in
        let many = binders_both st.steps tested in
        let long = lines_both st.steps tested in
        let symbols_here = h.few_symbols in
        let lines_here = h.few_lines in
        let limits_here = h.few_limits in
        subst Here (sym is) (record {
          known = all_more (λ k. Rises k.form) st.known (record { name = c.whole; form = f }) h.known g;
          starts = h.starts;
          limits = h.limits;
          steps = all-append (IsStep (1 + length all)) st.steps tested h.steps ((g, tt), tt);
          few_symbols = omega (arith, less, many, symbols_here);
          few_lines = omega (arith, less, long, lines_here);
          few_limits = omega (arith, less, limits_here);
        })

    joined_here : (w : Within) (guarded : Bool) (r : Numbers) (st new : StandingText) → Here st → join w guarded c r st ≡ Some new → Here new
    joined_here w guarded r st new h e = of (joins c r st new w guarded e)
      where
        of : Joins w guarded c r st new → Here new
        of (stays is known) = subst Here (sym is) h
        of (puts first inner form none s k sum put) =
            put_here guarded (last_number r) form st new none (combined_rises first (pos 1) inner (looked st.starts c.whole first h.starts s) form sum) h put

  settled_here : (w : Within) (rs : List Numbers) (over cs : List Split) → AllByRecursion (λ c. In c all) cs → (st new : StandingText) → Here st → settle_some w rs over cs st ≡ Some new → Here new
  settled_here w rs over [] sub st new h e = subst Here (same st new e) h
  settled_here w rs over (c ∷ cs) sub st new h e =
      let r : Numbers = numbers_named rs c.whole in
      let b = bound (begin c r st) (λ begun. join w (is_guarded rs over c) c r begun >>= settle_some w rs over cs) new e in
      let m = bound (join w (is_guarded rs over c) c r b.value) (settle_some w rs over cs) new b.comes in
      settled_here w rs over cs sub.1 m.value new (joined_here c sub.0 w (is_guarded rs over c) r b.value m.value (begun_here c sub.0 r st b.value h b.is) m.is) m.comes

-- ---- loops

module _ (all : List Split) (rs : List Numbers) (cs : List Split) (sub : AllByRecursion (λ c. In c all) cs) where
  turned_here : (symbols lines : ℕ) (t : Turning) (st new : StandingText) → Sits all symbols lines st → turn rs cs t st ≡ Some new → Sits all (symbols + 1) (lines + 2) new
  turned_here symbols lines t st new h e =
      let n : ℕ = st.next in
      let s : ℕ = waiting st.known all + waiting st.starts all in
      let d : ℕ = 3 * waiting st.known all + waiting st.starts all in
      let b = bound (settle_some (inside t.kind) rs cs cs (enter t.name st)) (λ turned. Some (leave st.steps n t turned)) new e in
      let more = waiting_more st.known (record { name = t.name; form = alone n }) all in
      let most = waiting_most st.known all in
      let entered : Sits all s d (enter t.name st) = record {
        known = all_more (λ k. Rises k.form) st.known (record { name = t.name; form = alone n }) h.known (alone_rises n);
        starts = h.starts;
        limits = tt;
        steps = tt;
        few_symbols = omega (arith, more);
        few_lines = omega (arith, more);
        few_limits = omega (arith, more, most);
      } in
      let inner = settled_here all s d (inside t.kind) rs cs cs sub (enter t.name st) b.value entered b.is in
      let behind : List Step = Turns n (span t.low t.last b.value.limits) t.kind ∷ b.value.steps in
      let many = binders_both st.steps behind in
      let long = lines_both st.steps behind in
      let symbols_there = inner.few_symbols in
      let lines_there = inner.few_lines in
      let limits_there = inner.few_limits in
      let symbols_here = h.few_symbols in
      let lines_here = h.few_lines in
      subst (Sits all (symbols + 1) (lines + 2)) (same (leave st.steps n t b.value) new b.comes) (record {
        known = inner.known;
        starts = inner.starts;
        limits = tt;
        steps = all-append (IsStep (1 + length all)) st.steps behind h.steps ((((tt, tt), (tt, inner.limits)), refl, omega arith, omega (arith, limits_there)), inner.steps);
        few_symbols = omega (arith, many, symbols_there, symbols_here);
        few_lines = omega (arith, long, lines_there, lines_here);
        few_limits = omega (arith, limits_there);
      })

  all_turned : (symbols lines : ℕ) (ts : List Turning) (st new : StandingText) → Sits all symbols lines st → turn_all rs cs ts st ≡ Some new →
      Sits all (symbols + length ts) (lines + 2 * length ts) new
  all_turned symbols lines [] st new h e =
      let one : symbols ≡ symbols + 0 = omega arith in
      let two : lines ≡ lines + 2 * 0 = omega arith in
      subst (λ (i : ℕ). Sits all i (lines + 2 * 0) new) one (subst (λ (i : ℕ). Sits all symbols i new) two (subst (Sits all symbols lines) (same st new e) h))
  all_turned symbols lines (t ∷ ts) st new h e =
      let b = bound (turn rs cs t st) (turn_all rs cs ts) new e in
      let rest = all_turned (symbols + 1) (lines + 2) ts b.value new (turned_here symbols lines t st b.value h b.is) b.comes in
      let one : (symbols + 1) + length ts ≡ symbols + length (t ∷ ts) = omega arith in
      let two : (lines + 2) + 2 * length ts ≡ lines + 2 * length (t ∷ ts) = omega arith in
      subst (λ (i : ℕ). Sits all i (lines + 2 * length (t ∷ ts)) new) one (subst (λ (i : ℕ). Sits all ((symbols + 1) + length ts) i new) two rest)

-- ---- nests

abbrev pub RisesIf : Option Form → Type 0
RisesIf None = Unit {0}
RisesIf (Some f) = Rises f

named_if : (ks : List Known) (x : List ℕ) → AllKnown ks → RisesIf (form_named ks x)
named_if ks x h = of (form_named ks x) refl
  where
    of : (o : Option Form) → form_named ks x ≡ o → RisesIf o
    of None e = tt
    of (Some f) e = looked ks x f h e

variables_rise : (b : BodyText) (d : ℕ) (xs : List (List ℕ)) (ks : List Known) → AllKnown ks → AllByRecursion RisesIf (variables_at b d xs ks)
variables_rise b d [] ks h = tt
variables_rise b d (x ∷ xs) ks h = (of (is_missing b d), variables_rise b (d + 1) xs ks h)
  where
    of : (m : Bool) → RisesIf (if m then None else form_named ks x)
    of true = tt
    of false = named_if ks x h

ranges_rise : (ds : List Turning) (ks : List Known) → AllKnown ks → AllByRecursion RisesIf (ranges_at ds ks)
ranges_rise [] ks h = tt
ranges_rise (d ∷ ds) ks h = (named_if ks d.name h, ranges_rise ds ks h)

-- of so many splits and loops: each split may make two lets and a guard
pub record HasNestSteps (splits loops : ℕ) (n : NestText) : Type 0 where
  pub at : AllByRecursion RisesIf n.at
  pub steps : AreSteps (1 + splits) n.steps
  pub few_symbols : binders n.steps ≤ 2 * splits + loops
  pub few_lines : step_lines n.steps ≤ 4 * splits + 2 * loops

-- as many loops as the definition has
abbrev pub HaveNestSteps : ℕ → List Numbers → List LoopMade → List BodyText → List NestText → Type 0
HaveNestSteps splits rs ls [] [] = Unit {0}
HaveNestSteps splits rs ls [] (n ∷ ns) = ⊥
HaveNestSteps splits rs ls (b ∷ bs) [] = ⊥
HaveNestSteps splits rs ls (b ∷ bs) (n ∷ ns) = HasNestSteps splits (length (nest_turns b rs ls)) n × HaveNestSteps splits rs ls bs ns

each_in : (all cs : List Split) → ((d : Split) → In d cs → In d all) → AllByRecursion (λ d. In d all) cs
each_in all [] sub = tt
each_in all (c ∷ cs) sub = (sub c (inl refl), each_in all cs (λ d m. sub d (inr m)))

sub_of : (cs : List Split) (ys : List (List ℕ)) → AllByRecursion (λ d. In d cs) (cuts_by_variable cs ys)
sub_of cs ys = all_by_variable (λ d. In d cs) cs ys (each_in cs cs (λ d m. m))

module _ (xs : List (List ℕ)) (p : PlacedText) (rs : List Numbers) (head : StandingText) (over : Sits p.cuts (2 * length p.cuts) (4 * length p.cuts) head) where
  nest_here : (b : BodyText) (next : ℕ) (new : StandingText) → nest_in xs p rs b (begun next head) ≡ Some new → HasNestSteps (length p.cuts) (length (nest_turns b rs p.loops)) (nest_of xs b new)
  nest_here b next new e =
      let cs : List Split = cuts_by_variable p.cuts (kept_from b 0 xs) in
      let ts : List Turning = nest_turns b rs p.loops in
      let m = bound (settle_some (inside Serial) rs cs cs (begun next head)) (turn_all rs cs ts) new e in
      let one = waiting_most head.known p.cuts in
      let two = waiting_most head.starts p.cuts in
      let first : Sits p.cuts (2 * length p.cuts) (4 * length p.cuts) (begun next head) = record {
        known = over.known;
        starts = over.starts;
        limits = over.limits;
        steps = tt;
        few_symbols = omega (arith, one, two);
        few_lines = omega (arith, one, two);
        few_limits = over.few_limits;
      } in
      let s = settled_here p.cuts (2 * length p.cuts) (4 * length p.cuts) (inside Serial) rs cs cs (sub_of p.cuts (kept_from b 0 xs)) (begun next head) m.value first m.is in
      let out = all_turned p.cuts rs cs (sub_of p.cuts (kept_from b 0 xs)) (2 * length p.cuts) (4 * length p.cuts) ts m.value new s m.comes in
      let symbols_here = out.few_symbols in
      let lines_here = out.few_lines in
      record {
        at = all-append RisesIf (variables_at b 0 xs new.known) (ranges_at b.ranges new.known) (variables_rise b 0 xs new.known out.known) (ranges_rise b.ranges new.known out.known);
        steps = out.steps;
        few_symbols = omega (arith, symbols_here);
        few_lines = omega (arith, lines_here);
      }

  nests_here : (bs : List BodyText) (next : ℕ) (ns : List NestText) → nests_in xs p rs head bs next ≡ Some ns → HaveNestSteps (length p.cuts) rs p.loops bs ns
  nests_here [] next ns e = subst (HaveNestSteps (length p.cuts) rs p.loops []) (same [] ns e) tt
  nests_here (b ∷ bs) next ns e =
      let m = bound (nest_in xs p rs b (begun next head)) (λ st. nests_in xs p rs head bs st.next >>= λ nests. Some (nest_of xs b st ∷ nests)) ns e in
      let r = bound (nests_in xs p rs head bs m.value.next) (λ nests. Some (nest_of xs b m.value ∷ nests)) ns m.comes in
      subst (HaveNestSteps (length p.cuts) rs p.loops (b ∷ bs)) (same (nest_of xs b m.value ∷ r.value) ns r.comes) (nest_here b next m.value m.is, nests_here bs m.value.next r.value r.is)

grid_rises : (rs : List Numbers) (s : ℕ) (ls : List LoopMade) → AllKnown (grid_forms rs s ls)
grid_rises rs s [] = tt
grid_rises rs s (l ∷ ls) = (((λ h. omega (arith, ints, h)), tt, tt), grid_rises rs (s + 1) ls)

-- ---- the skeleton

pub record HasFewSteps (xs : List (List ℕ)) (bs : List BodyText) (p : PlacedText) (region : List Extent) (k : SkeletonText) : Type 0 where
  pub nests : HaveNestSteps (length p.cuts) (loop_numbers xs p.cuts region) p.loops bs k.nests
  pub head : AreSteps (1 + length p.cuts) k.head
  pub few_symbols : binders k.head ≤ 2 * length p.cuts
  pub few_lines : step_lines k.head ≤ 4 * length p.cuts
  pub starts : AllKnown k.starts

pub few_steps : (xs : List (List ℕ)) (bs : List BodyText) (p : PlacedText) (region : List Extent) (k : SkeletonText) → skeleton_in xs bs p region ≡ Some k → HasFewSteps xs bs p region k
few_steps xs bs p region k e =
    let rs : List Numbers = loop_numbers xs p.cuts region in
    let cs : List Split = cuts_by_variable p.cuts xs in
    let grid : List ℕ = piece_counts rs p.loops in
    let b = bound (settle_some at_grid rs cs cs (over_grid rs p))
    (λ head. nests_in xs p rs head bs head.next >>= λ nests. Some (record { grid = grid; head = head.steps; nests = nests; known = head.known; starts = head.starts })) k e in
    let m = bound (nests_in xs p rs b.value bs b.value.next) (λ nests. Some (record { grid = grid; head = b.value.steps; nests = nests; known = b.value.known; starts = b.value.starts })) k b.comes in
    let forms : List Known = grid_forms rs 0 (parallel_loops p.loops) in
    let one = waiting_most forms p.cuts in
    let two = waiting_most [] p.cuts in
    let first : Sits p.cuts (2 * length p.cuts) (4 * length p.cuts) (over_grid rs p) = record {
      known = grid_rises rs 0 (parallel_loops p.loops);
      starts = tt;
      limits = tt;
      steps = tt;
      few_symbols = omega (arith, one, two);
      few_lines = omega (arith, one, two);
      few_limits = omega (arith, one);
    } in
    let s = settled_here p.cuts (2 * length p.cuts) (4 * length p.cuts) at_grid rs cs cs (sub_of p.cuts xs) (over_grid rs p) b.value first b.is in
    let symbols_here = s.few_symbols in
    let lines_here = s.few_lines in
    subst (HasFewSteps xs bs p region) (same (record { grid = grid; head = b.value.steps; nests = m.value; known = b.value.known; starts = b.value.starts }) k m.comes) (record {
      nests = nests_here xs p rs b.value s bs b.value.next m.value m.is;
      head = s.steps;
      few_symbols = omega (arith, symbols_here);
      few_lines = omega (arith, lines_here);
      starts = s.starts;
    })

-- the forms of a nest's coordinates are canonical
abbrev pub NestRises : NestText → Type 0
NestRises n = AllByRecursion RisesIf n.at

coordinates_rise : (splits : ℕ) (rs : List Numbers) (ls : List LoopMade) (bs : List BodyText) (ns : List NestText) → HaveNestSteps splits rs ls bs ns → AllByRecursion NestRises ns
coordinates_rise splits rs ls [] [] h = tt
coordinates_rise splits rs ls [] (n ∷ ns) h = absurd h
coordinates_rise splits rs ls (b ∷ bs) [] h = absurd h
coordinates_rise splits rs ls (b ∷ bs) (n ∷ ns) h = (h.0.at, coordinates_rise splits rs ls bs ns h.1)

pub nests_rise : (xs : List (List ℕ)) (bs : List BodyText) (p : PlacedText) (region : List Extent) (k : SkeletonText) → skeleton_in xs bs p region ≡ Some k → AllByRecursion NestRises k.nests
nests_rise xs bs p region k e = coordinates_rise (length p.cuts) (loop_numbers xs p.cuts region) p.loops bs k.nests (few_steps xs bs p region k e).nests
