-- What the checker's tests of nests come to over loops, lets of shifted blocks, and guards with lets behind them.
use Rattle.std.proofs.Common.{◌≡◌, ℕ, Bool, true, false, ◌&&◌, List, [], ◌∷◌, ◌++◌, length, map, Some, None, refl, sym, ap, ◌∙◌, subst, inl, inr, arith}
use Rattle.std.specs.Prelude.{ℤ, if◌then◌else◌}
use Rattle.std.specs.List.{AllByRecursion}
use Rattle.std.proofs.lemmas.List.{length-map}
use Rattle.lin.specs.Forms.{Form, number, same_form}
use Rattle.lin.specs.declared.span.Span1.{Span1}
use Rattle.soundness.specs.Claims.{In}
use Rattle.soundness.specs.Obligations.{Binder, Ranged, Passed, exactly}
use Rattle.soundness.proofs.Refines.{number_refl}
use Rattle.sched.specs.Skeleton.{span}
use Rattle.tails.specs.Moves.{unguarded, then_more, turned, settled, paired, run, spans_over}
use Rattle.completeness.proofs.PureNests.{all_from}
use Rattle.completeness.proofs.LoopMoves.{Item, is_lone, is_left, step_by, AreApart}
use Rattle.completeness.proofs.TailSteps.{Line, Loop, Block, Pair, line_binders, binders_of}
use Rattle.completeness.proofs.BlockMoves.{Sums, InOrder, now, begins_so, terms_same, in_left, of_all}
use Rattle.completeness.proofs.BlockCaps.{capped, no_more}
use Rattle.completeness.proofs.BlockLimits.{limited_by, all_left_caps}
use Rattle.completeness.proofs.Courses.{Course, Plain, Opened, begin_of, target_at, step_line, step, span_at, CourseFits, AllFits, Stands}
use Rattle.completeness.proofs.CourseRun.{run_is}

form_same : (f : Form) → same_form f f ≡ true
form_same f = (let one = number_refl f.constant in let two = terms_same f.terms in λ j. one j && two j)

module _ (line : ℕ → Line) (lim tops : ℕ → List Form) (factor : ℕ → ℤ) where
  abbrev steps_of : List Item → List Binder
  steps_of ts = map (step line lim tops factor) ts

  -- no guard is left
  none_guarded : (low high : Form) (ts : List Item) → unguarded low high (steps_of ts) ≡ None
  none_guarded low high [] = refl
  none_guarded low high (t ∷ ts) = by (line t.symbol) (lim t.symbol) (none_guarded low high ts)
    where
      Rest : Type 0
      Rest = unguarded low high (steps_of ts) ≡ None

      lone : (b : Bool) → Rest → unguarded low high (step_by b t ∷ steps_of ts) ≡ None
      lone true rest = ap (then_more (step_by true t)) rest
      lone false rest = ap (then_more (step_by false t)) rest

      limited : (fs : List Form) → Rest → unguarded low high (limited_by lim tops fs t ∷ steps_of ts) ≡ None
      limited [] rest = lone (is_lone t) rest
      limited (f ∷ fs) rest = ap (then_more (limited_by lim tops (f ∷ fs) t)) rest

      by : (l : Line) (fs : List Form) → Rest → unguarded low high (step_line line lim tops factor l fs t ∷ steps_of ts) ≡ None
      by Loop fs rest = limited fs rest
      by (Block f z) fs rest = ap (then_more (step_line line lim tops factor (Block f z) fs t)) rest
      by (Pair f z) fs rest = ap (then_more (step_line line lim tops factor (Pair f z) fs t)) rest

  -- a guard and a let behind it are a loop of one turn
  pub paired_are : (ts : List Item) → paired (binders_of line lim ts) ≡ steps_of ts
  paired_are [] = refl
  paired_are (t ∷ ts) = of (line t.symbol) (lim t.symbol) (paired_are ts)
    where
      rest : List Binder
      rest = binders_of line lim ts

      loop : (fs : List Form) → settled (Ranged t.symbol (span t.low t.last fs)) ≡ limited_by lim tops fs t
      loop [] = refl
      loop (f ∷ fs) = refl

      of : (l : Line) (fs : List Form) → paired rest ≡ steps_of ts → paired (line_binders l t fs ++ rest) ≡ step_line line lim tops factor l fs t ∷ steps_of ts
      of Loop fs same = (let here = loop fs in λ j. here j ∷ same j)
      of (Block f z) fs same =
          let none = none_guarded f (number z) ts in
          (λ j. turned t.symbol f (number z) (same j) (unguarded f (number z) (same j))) ∙ (λ j. turned t.symbol f (number z) (steps_of ts) (none j))
      of (Pair f z) fs same =
          let one = form_same f in
          let two = form_same (number z) in
          (λ j. turned t.symbol f (number z) (Passed f (number z) ∷ same j) (unguarded f (number z) (Passed f (number z) ∷ same j)))
          ∙ (λ j. turned t.symbol f (number z) (Passed f (number z) ∷ steps_of ts) (if one j && two j then Some (steps_of ts) else then_more (Passed f (number z)) (unguarded f (number z)
          (steps_of ts))))

  module _ (cs : List Course) (all : List Item) (exact : Bool) (fit : AllFits line lim tops factor cs all exact) (apart : AreApart all) where
    -- the let that opens a coordinate is among the steps
    abbrev pub Begins : Course → Type 0
    Begins (Plain f us) = Unit {0}
    Begins (Opened r f us g vs c) = is_left r all ≡ true

    module _ (begins : AllByRecursion Begins cs) where
      left_here : (u : Item) → In u all → is_left u.symbol all ≡ true
      left_here u m = in_left u all m

      course_fits : (c : Course) → In c cs → CourseFits line lim tops factor cs all c
      course_fits c m = of_all (CourseFits line lim tops factor cs all) cs c fit.courses m

      begins_at : (c : Course) → In c cs → Begins c
      begins_at c m = of_all Begins cs c begins m

      first_order : (c : Course) → In c cs → InOrder factor all (target_at all c)
      first_order (Plain f us) m = first
        where
          first : InOrder factor all (Sums f us)
          first u v mu mv one two gone left =
              let clash : true ≡ false = sym (left_here u ((course_fits (Plain f us) m).1 u mu).0) ∙ gone in
              absurd (cc clash)
      first_order (Opened r f us g vs c) m = subst (λ (b : Bool). InOrder factor all (if b then Sums f us else Sums g vs)) (sym (begins_at (Opened r f us g vs c) m)) first
        where
          first : InOrder factor all (Sums f us)
          first u v mu mv one two gone left =
              let clash : true ≡ false = sym (left_here u ((course_fits (Opened r f us g vs c) m).2 u mu).0) ∙ gone in
              absurd (cc clash)

      pub stand_all : Stands line lim tops factor cs all all
      stand_all = record {
        apart = apart;
        sub = λ t m. m;
        order = all_from (λ c. InOrder factor all (target_at all c)) cs first_order;
        full = λ f us m p g mp k left. all_from (λ u. is_left u.symbol all ≡ true) us (λ u mu. left_here u ((course_fits (Plain f us) m).1 u mu).0);
        stay = λ t w mt loop mw e. left_here t mt;
        gone = λ r f us g vs c m e. (let clash : true ≡ false = sym (begins_at (Opened r f us g vs c) m) ∙ e in absurd (cc clash));
      }

      uncapped : (y : Span1) → capped y [] ≡ y
      uncapped y = ap (λ (us : List Form). record { lower = y.lower; upper = us }) (no_more y.upper)

      begin_is : (c : Course) → In c cs → exactly (begin_of c) ≡ span_at line lim tops factor all c
      begin_is (Plain f us) m =
          let there = all_from (λ u. is_left u.symbol all ≡ true) us (λ u mu. left_here u ((course_fits (Plain f us) m).1 u mu).0) in
          let none = all_left_caps lim tops all us there in
          begins_so factor all f us there ∙ sym (uncapped (now factor all (Sums f us))) ∙ (λ j. capped (now factor all (Sums f us)) (sym none j))
      begin_is (Opened r f us g vs c) m =
          let shut = begins_at (Opened r f us g vs c) m in
          let there = all_from (λ u. is_left u.symbol all ≡ true) us (λ u mu. left_here u ((course_fits (Opened r f us g vs c) m).2 u mu).0) in
          begins_so factor all f us there ∙ sym (uncapped (now factor all (Sums f us)))
          ∙ (λ j. capped (now factor all (if sym shut j then Sums f us else Sums g vs)) (if sym shut j then [] else c all))

      begin_all : (ds : List Course) → ((c : Course) → In c ds → In c cs) → map exactly (map begin_of ds) ≡ map (span_at line lim tops factor all) ds
      begin_all [] sub = refl
      begin_all (c ∷ ds) sub = (let here = begin_is c (sub c (inl refl)) in let rest = begin_all ds (λ d m. sub d (inr m)) in λ j. here j ∷ rest j)

      -- each coordinate comes to all numbers of its loops, its let put in, and is kept at what these keep it at
      pub courses_are : (shows : Form → Form → Bool) → spans_over exact shows (paired (binders_of line lim all)) (map begin_of cs) ≡ Some (map (span_at line lim tops factor []) cs)
      courses_are shows =
          let many : length (steps_of all) ≡ length all = length-map all (step line lim tops factor) in
          let begin = begin_all cs (λ c m. m) in
          (λ j. spans_over exact shows (paired_are all j) (map begin_of cs)) ∙ (λ j. run exact shows (length (steps_of all)) (record { steps = steps_of all; spans = begin j }))
          ∙ run_is line lim tops factor cs all exact fit shows (length (steps_of all)) all (omega (arith, many)) stand_all
