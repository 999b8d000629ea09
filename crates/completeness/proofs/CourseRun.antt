-- Loops, lets of shifted blocks and lets behind guards: in whatever order they stand, each coordinate comes to all numbers of its loops, its lets put in, and is kept at what these and
-- further upper forms keep it at.
use Rattle.std.proofs.Common.{◌≡◌, ℕ, zero, suc, ◌+◌, ◌≤◌, Bool, true, false, ◌&&◌, ◌||◌, not, List, [], ◌∷◌, length, map, Option, Some, None, refl, sym, ap, ◌∙◌, subst, inl, inr, ◌⊎◌, arith}
use Rattle.std.specs.Prelude.{ℤ, ◌≤ℤ◌, ◌==◌, if◌then◌else◌, option_and_then}
use Rattle.std.specs.List.{AllByRecursion, list_any}
use Rattle.std.specs.Option.{option_map}
use Rattle.std.proofs.lemmas.Int.{ints}
use Rattle.lin.specs.Forms.{Form, number}
use Rattle.lin.specs.Search.{is_empty}
use Rattle.lin.specs.declared.span.Span1.{Span1}
use Rattle.plan.specs.declared.stmt.Pick.TheVariants.{Min}
use Rattle.plan.specs.Semantics.Setting.{or_else}
use Rattle.soundness.specs.Claims.{In}
use Rattle.soundness.specs.Obligations.{Binder, Picked, form_has, span_has}
use Rattle.soundness.proofs.Refines.{eq_true}
use Rattle.tails.specs.Moves.{Choice, choices, first_some, is_loose, State, Ready, is_single, ready, preferred, best, after_idle, is_idle, by_idle, taken, over_loop, after_loop, by_loop}
use Rattle.tails.specs.Moves.{opened, expanded, below, span_from, without_let, is_free_let, after_let, by_let, after_guard, by_guard, next, run}
use Rattle.completeness.proofs.PlainTurns.{one_if}
use Rattle.completeness.proofs.PureNests.{all_from}
use Rattle.completeness.proofs.UpdateTurns.{all_mapped}
use Rattle.completeness.proofs.LoopMoves.{false_end, none_first, Item, is_lone, is_left, step_by, One, picks}
use Rattle.completeness.proofs.TailSteps.{Line, Loop, Block, Pair, is_loop}
use Rattle.completeness.proofs.BlockMoves.{Target, Sums, is_of, hits_of, OneFits, Lowest, of_all}
use Rattle.completeness.proofs.BlockCaps.{bests}
use Rattle.completeness.proofs.BlockLimits.{limited_by, picked}
use Rattle.completeness.proofs.BestPicks.{IsOne, choice_by, choices_by, IsLeast, best_of, first_good}
use Rattle.completeness.proofs.Courses.{Course, Plain, Opened, count, opened_by, target_at, line_has, opens, step_line, step, names, span_at, state_at, LoopFits, OwnPair, OwnBlock, OwnLine}
use Rattle.completeness.proofs.Courses.{OpenerFits}
use Rattle.completeness.proofs.Courses.{AllFits, CourseFits, Stands}
use Rattle.completeness.proofs.CourseFacts.{some_of, none_of, opener_is, is_any, out_mapped, taken_count, opened_each, any_count, gs, one_fits}
use Rattle.completeness.proofs.CourseMoves.{targets, loop_stays, loop_names, loop_moves, lone_moves, let_stays, let_names, none_put}
use Rattle.completeness.proofs.CourseLets.{pair_moves, block_moves}
use Rattle.completeness.proofs.CourseStands.{Turned, among_left, stands_loop, stands_let}
use Rattle.completeness.proofs.CourseReady.{ready_at, named, loop_span, loop_ready, one_of_pick, loose_at, unnamed_free, lone_step, lone_unready, turning_unready, turning_ready, names_cases}
use Rattle.completeness.proofs.CourseReady.{turning_step, some_ready, topped_by, topped_free, pair_ready}

module _ (line : ℕ → Line) (lim tops : ℕ → List Form) (factor : ℕ → ℤ) (cs : List Course) (all : List Item) (exact : Bool) (fit : AllFits line lim tops factor cs all exact)
    (shows : Form → Form → Bool) where
  abbrev step_of : Item → Binder
  step_of = step line lim tops factor

  abbrev state_of : List Item → State
  state_of = state_at line lim tops factor cs all

  module _ (ts : List Item) (stands : Stands line lim tops factor cs all ts) where
    abbrev at : Course → Span1
    at c = span_at line lim tops factor ts c

    abbrev spans : List Span1
    spans = map at cs

    abbrev goals : List Target
    goals = gs line lim tops factor cs all exact fit ts stands

    abbrev r : One → Option Ready
    r p = ready_at line lim tops factor cs all exact fit ts stands shows p

    abbrev others : One → List Binder
    others p = map step_of p.others

    -- the next move
    pub record Moved : Type 0 where
      pub pick : One
      pub one : IsOne ts pick
      pub stand : Stands line lim tops factor cs all pick.others
      pub is : next exact shows (state_of ts) ≡ Some (state_of pick.others)

    is_one : (p : One) → In p (picks ts) → IsOne ts p
    is_one p m = one_of_pick line lim tops factor cs all exact fit ts stands shows p m

    loop_fits : (p : One) → IsOne ts p → is_loop (line p.one.symbol) ≡ true → LoopFits line lim tops factor cs all p.one
    loop_fits p h e = fit.loops p.one (stands.sub p.one h.among) e

    let_fits : (p : One) → IsOne ts p → is_loop (line p.one.symbol) ≡ false → OpenerFits line lim tops factor cs all exact p.one
    let_fits p h e = fit.lets p.one (stands.sub p.one h.among) e

    -- the symbol of a loop that waits for none is in some span
    loop_count : (i : ℕ) (ds : List Course) → hits_of i (map (target_at ts) ds) ≡ count (λ c. is_of i (target_at ts c)) ds
    loop_count i [] = refl
    loop_count i (c ∷ ds) = ap (λ (m : ℕ). one_if (is_of i (target_at ts c)) + m) (loop_count i ds)

    module _ (p : One) (h : IsOne ts p) (line_is : is_loop (line p.one.symbol) ≡ true) (unnamed : named line lim tops factor cs all exact fit ts stands shows p ≡ false) where
      own : LoopFits line lim tops factor cs all p.one
      own = loop_fits p h line_is

      free : list_any (opens line lim tops factor p.one.symbol) ts ≡ false
      free = unnamed_free line lim tops factor cs all exact fit ts stands shows p h line_is unnamed

      one : OneFits goals ts p
      one = one_fits line lim tops factor cs all exact fit ts stands p h own free

      counted : count (λ c. is_of p.one.symbol (target_at ts c)) cs ≡ 1
      counted = sym (loop_count p.one.symbol cs) ∙ one.here.once

      loop_any : list_any (span_has p.one.symbol) spans ≡ true
      loop_any =
          let once = counted in
          any_count p.one.symbol at (λ c. is_of p.one.symbol (target_at ts c)) cs (λ c m. loop_names line lim tops factor cs all exact fit ts stands p h shows own one c m) (omega (arith, once))

      loose_true : is_loose p.one.symbol (others p) ≡ true
      loose_true = loose_at line lim tops factor cs all exact fit ts stands shows p h ∙ ap not unnamed

      -- taken as a loop
      loop_taken : is_lone p.one ≡ false → Lowest factor goals (targets line lim tops factor cs all exact fit ts stands p h shows) p ts →
          taken exact shows p.one.symbol (loop_span line lim tops factor cs all exact fit ts stands shows p.one) spans ≡ Some (map (span_at line lim tops factor p.others) cs)
      loop_taken turns lowest =
          taken_count exact shows p.one.symbol at (span_at line lim tops factor p.others) (λ c. is_of p.one.symbol (target_at ts c))
          (loop_span line lim tops factor cs all exact fit ts stands shows p.one) cs (λ c m. loop_names line lim tops factor cs all exact fit ts stands p h shows own one c m)
          (λ c m e. loop_stays line lim tops factor cs all exact fit ts stands p h shows own one c m e)
          (λ c m e. loop_moves line lim tops factor cs all exact fit ts stands p h shows own one turns lowest c m e) counted

      -- or as a let
      lone_let : is_lone p.one ≡ true → after_let exact shows spans (step_of p.one) (others p) ≡ Some (state_of p.others)
      lone_let lone =
          let free_let : is_free_let exact shows p.one.symbol (number p.one.low ∷ []) (others p) ≡ true = ap (λ (b : Bool). b && true) loose_true in
          let some = loop_any in
          let opens_so : opened exact shows p.one.symbol Min (number p.one.low ∷ []) spans ≡ Some (map (span_at line lim tops factor p.others) cs) =
          opened_each exact shows p.one.symbol at (span_at line lim tops factor p.others) (λ c. true) (number p.one.low ∷ []) cs
          (λ c m. lone_moves line lim tops factor cs all exact fit ts stands p h shows own one lone c m) in
          let without_it : without_let exact shows p.one.symbol Min (number p.one.low ∷ []) spans ≡ Some (map (span_at line lim tops factor p.others) cs) =
          (λ j. if some j then (if false_end exact j then None else opens_so j) else Some spans) in
          ap (λ (b : Binder). after_let exact shows spans b (others p)) (lone_step line lim tops factor cs all exact fit ts stands shows p.one own line_is lone)
          ∙ (λ j. if free_let j then option_map (λ zs. record { steps = others p; spans = zs }) (without_it j) else None)

      stands_then : ((is_lone p.one ≡ true) × Turned line lim tops factor cs all exact fit ts stands)
          ⊎ ((is_lone p.one ≡ false) × Lowest factor goals (targets line lim tops factor cs all exact fit ts stands p h shows) p ts) → Stands line lim tops factor cs all p.others
      stands_then first = stands_loop line lim tops factor cs all exact fit ts stands p h shows own line_is free one first

    -- ---- lets

    module _ (p : One) (h : IsOne ts p) (line_is : is_loop (line p.one.symbol) ≡ false) where
      opener : OpenerFits line lim tops factor cs all exact p.one
      opener = let_fits p h line_is

      let_unnamed : named line lim tops factor cs all exact fit ts stands shows p ≡ false
      let_unnamed = none_of (names line lim tops factor p.one.symbol) p.others (λ w m. opener.unnamed w (stands.sub w (h.within w m)))

      let_loose : is_loose p.one.symbol (others p) ≡ true
      let_loose = loose_at line lim tops factor cs all exact fit ts stands shows p h ∙ ap not let_unnamed

      let_any : list_any (span_has p.one.symbol) spans ≡ true
      let_any =
          let once = opener.once in
          any_count p.one.symbol at (opened_by p.one.symbol) cs (λ c m. let_names line lim tops factor cs all exact fit ts stands p h shows line_is opener c m) (omega (arith, once))

      -- a let behind a guard, as a loop of one turn
      pair_taken : (k : Form) (z : ℤ) → line p.one.symbol ≡ Pair k z →
          taken exact shows p.one.symbol (record { lower = k ∷ []; upper = k ∷ number z ∷ [] }) spans ≡ Some (map (span_at line lim tops factor p.others) cs)
      pair_taken k z is =
          taken_count exact shows p.one.symbol at (span_at line lim tops factor p.others) (opened_by p.one.symbol) (record { lower = k ∷ []; upper = k ∷ number z ∷ [] }) cs
          (λ c m. let_names line lim tops factor cs all exact fit ts stands p h shows line_is opener c m)
          (λ c m e. let_stays line lim tops factor cs all exact fit ts stands p h shows line_is opener c m e) moves opener.once
        where
          pairs : AllByRecursion (OwnPair line lim tops factor cs all p.one.symbol k z) cs
          pairs = subst (λ (l : Line). OwnLine line lim tops factor cs all exact p.one.symbol l) is opener.own

          moves : (c : Course) → In c cs → opened_by p.one.symbol c ≡ true →
              over_loop exact shows p.one.symbol (record { lower = k ∷ []; upper = k ∷ number z ∷ [] }) (at c) ≡ Some (span_at line lim tops factor p.others c)
          moves (Plain f us) m e = absurd (cc e)
          moves (Opened r f us g vs c) m e =
              pair_moves line lim tops factor cs all exact fit ts stands p h shows line_is opener r f us g vs c m e k z
              (of_all (OwnPair line lim tops factor cs all p.one.symbol k z) cs (Opened r f us g vs c) pairs m)

      -- that of a shifted block
      block_let : Turned line lim tops factor cs all exact fit ts stands → (k : Form) (z : ℤ) → line p.one.symbol ≡ Block k z →
          (after_let exact shows spans (step_of p.one) (others p) ≡ Some (state_of p.others)) × Stands line lim tops factor cs all p.others
      block_let turned k z is = (
        ap (λ (l : Line). after_let exact shows spans (step_line line lim tops factor l (lim p.one.symbol) p.one) (others p)) is
            ∙ (λ j. if free_let j then option_map (λ zs. record { steps = others p; spans = zs }) (without_it j) else None),
        stands_let line lim tops factor cs all exact fit ts stands p h shows line_is opener gone,
      )
        where
          blocks : AllByRecursion (OwnBlock line lim tops factor cs all p.one.symbol k z) cs × (exact ≡ false)
          blocks = subst (λ (l : Line). OwnLine line lim tops factor cs all exact p.one.symbol l) is opener.own

          gone : (r : ℕ) (f : Form) (us : List Item) (g : Form) (vs : List Item) (c : List Item → List Form) → In (Opened r f us g vs c) cs → (r == p.one.symbol) ≡ true →
              (u : Item) → In u us → is_lone u ≡ false → is_left u.symbol ts ≡ false
          gone r f us g vs c m own u mu turns = of (is_left u.symbol ts) refl
            where
              inside : In u all × (is_loop (line u.symbol) ≡ true)
              inside = (of_all (CourseFits line lim tops factor cs all) cs (Opened r f us g vs c) fit.courses m).2 u mu

              shut : is_left r ts ≡ true
              shut = ap (λ (i : ℕ). is_left i ts) (eq_true r p.one.symbol own) ∙ h.there

              of : (b : Bool) → is_left u.symbol ts ≡ b → b ≡ false
              of true left =
                  let target : target_at ts (Opened r f us g vs c) ≡ Sums f us = ap (λ (b : Bool). if b then Sums f us else Sums g vs) shut in
                  let there = among_left line lim tops factor cs all exact fit ts stands u (fit.loops u inside.0 inside.1) (Opened r f us g vs c) f us m target mu left inside.1 in
                  let clash : true ≡ false = sym (turned u there.0 inside.1 there.1) ∙ turns in
                  cc clash
              of false left = refl

          own_free : form_has p.one.symbol k ≡ false
          own_free = first (form_has p.one.symbol k) (sym (ap (λ (l : Line). line_has p.one.symbol l || (if is_loop l then list_any (form_has p.one.symbol) (lim p.one.symbol) else false)) is)
              ∙ opener.unnamed p.one (stands.sub p.one h.among))
            where
              first : (b : Bool) → (b || false) ≡ false → b ≡ false
              first true e = absurd (cc e)
              first false e = refl

          free_let : is_free_let exact shows p.one.symbol (k ∷ number z ∷ []) (others p) ≡ true
          free_let = λ j. let_loose j && (not (own_free j || (false || false)) && true)

          opens_so : opened exact shows p.one.symbol Min (k ∷ number z ∷ []) spans ≡ Some (map (span_at line lim tops factor p.others) cs)
          opens_so = opened_each exact shows p.one.symbol at (span_at line lim tops factor p.others) (λ c. true) (k ∷ number z ∷ []) cs (λ c m. each c m (opened_by p.one.symbol c) refl)
            where
              own_case : (c : Course) → In c cs → opened_by p.one.symbol c ≡ true →
                  span_from (expanded exact shows p.one.symbol (below exact shows Min (k ∷ number z ∷ [])) (at c).lower) (expanded exact shows p.one.symbol (k ∷ number z ∷ []) (at c).upper)
                  ≡ Some (span_at line lim tops factor p.others c)
              own_case (Plain f us) m e = absurd (cc e)
              own_case (Opened r f us g vs c) m e =
                  block_moves line lim tops factor cs all exact fit ts stands p h shows line_is opener r f us g vs c m e k z
                  (of_all (OwnBlock line lim tops factor cs all p.one.symbol k z) cs (Opened r f us g vs c) blocks.0 m) (gone r f us g vs c m e)

              each : (c : Course) → In c cs → (b : Bool) → opened_by p.one.symbol c ≡ b →
                  span_from (expanded exact shows p.one.symbol (below exact shows Min (k ∷ number z ∷ [])) (at c).lower) (expanded exact shows p.one.symbol (k ∷ number z ∷ []) (at c).upper)
                  ≡ Some (span_at line lim tops factor p.others c)
              each c m true e = own_case c m e
              each c m false e =
                  none_put line lim tops factor cs all exact fit ts stands p h shows (k ∷ []) (k ∷ number z ∷ []) c
                  (let_names line lim tops factor cs all exact fit ts stands p h shows line_is opener c m ∙ e)
                  ∙ (let same = let_stays line lim tops factor cs all exact fit ts stands p h shows line_is opener c m e in λ j. Some (same j))

          without_it : without_let exact shows p.one.symbol Min (k ∷ number z ∷ []) spans ≡ Some (map (span_at line lim tops factor p.others) cs)
          without_it = (let some = let_any in let loose = blocks.1 in λ j. if some j then (if loose j && true then None else opens_so j) else Some spans)

    -- ---- the moves that are not taken

    are : choices (map step_of ts) ≡ map (choice_by step_of) (picks ts)
    are = choices_by step_of ts

    no_guard : by_guard exact shows (state_of ts) ≡ None
    no_guard =
        ap (first_some (λ (c : Choice). after_guard exact shows spans c.one c.others)) are
        ∙ none_first (λ (c : Choice). after_guard exact shows spans c.one c.others) (map (choice_by step_of) (picks ts))
        (all_mapped (choice_by step_of) (λ c. after_guard exact shows spans c.one c.others ≡ None) (picks ts)
        (all_from (λ p. after_guard exact shows spans (step_of p.one) (others p) ≡ None) (picks ts) (λ p m. of p (line p.one.symbol) (lim p.one.symbol))))
      where
        lone : (p : One) (b : Bool) → after_guard exact shows spans (step_by b p.one) (others p) ≡ None
        lone p true = refl
        lone p false = refl

        limited : (p : One) (fs : List Form) → after_guard exact shows spans (limited_by lim tops fs p.one) (others p) ≡ None
        limited p [] = lone p (is_lone p.one)
        limited p (f ∷ fs) = refl

        of : (p : One) (l : Line) (fs : List Form) → after_guard exact shows spans (step_line line lim tops factor l fs p.one) (others p) ≡ None
        of p Loop fs = limited p fs
        of p (Block f z) fs = refl
        of p (Pair f z) fs = refl

    no_idle : by_idle (state_of ts) ≡ None
    no_idle =
        ap (first_some (λ (c : Choice). after_idle spans c.one c.others)) are
        ∙ none_first (λ (c : Choice). after_idle spans c.one c.others) (map (choice_by step_of) (picks ts))
        (all_mapped (choice_by step_of) (λ c. after_idle spans c.one c.others ≡ None) (picks ts)
        (all_from (λ p. after_idle spans (step_of p.one) (others p) ≡ None) (picks ts) (λ p m. one_is p (is_one p m))))
      where
        -- a let that some span has, or that is named
        busy : (p : One) (ls : List Form) → (is_loose p.one.symbol (others p) ≡ false) ⊎ (list_any (span_has p.one.symbol) spans ≡ true) →
            after_idle spans (Picked p.one.symbol Min ls) (others p) ≡ None
        busy p ls w = ap (λ (b : Bool). if b then Some (record { steps = others p; spans = spans }) else None) (of w)
          where
            fourth : (a b : Bool) → ((false && a) && b) ≡ false
            fourth a b = refl

            of : (is_loose p.one.symbol (others p) ≡ false) ⊎ (list_any (span_has p.one.symbol) spans ≡ true) → is_idle spans (Picked p.one.symbol Min ls) (others p) ≡ false
            of (inl e) = λ j. (e j && (not (list_any (form_has p.one.symbol) ls) && not (is_empty ls))) && not (list_any (span_has p.one.symbol) spans)
            of (inr e) =
                (λ j. (is_loose p.one.symbol (others p) && (not (list_any (form_has p.one.symbol) ls) && not (is_empty ls))) && not (e j))
                ∙ false_end (is_loose p.one.symbol (others p) && (not (list_any (form_has p.one.symbol) ls) && not (is_empty ls)))

        loop_is : (p : One) → IsOne ts p → is_loop (line p.one.symbol) ≡ true → (b : Bool) → is_lone p.one ≡ b → after_idle spans (step_of p.one) (others p) ≡ None
        loop_is p h e false turns =
            ap (λ (b : Binder). after_idle spans b (others p)) (turning_step line lim tops factor cs all exact fit ts stands shows p.one e turns)
        loop_is p h e true lone =
            ap (λ (b : Binder). after_idle spans b (others p)) (lone_step line lim tops factor cs all exact fit ts stands shows p.one (loop_fits p h e) e lone)
            ∙ busy p (number p.one.low ∷ []) (of (named line lim tops factor cs all exact fit ts stands shows p) refl)
          where
            of : (b : Bool) → named line lim tops factor cs all exact fit ts stands shows p ≡ b → (is_loose p.one.symbol (others p) ≡ false) ⊎ (list_any (span_has p.one.symbol) spans ≡ true)
            of true q = inl (loose_at line lim tops factor cs all exact fit ts stands shows p h ∙ ap not q)
            of false q = inr (loop_any p h e q)

        let_is : (p : One) → IsOne ts p → is_loop (line p.one.symbol) ≡ false → (l : Line) → line p.one.symbol ≡ l → after_idle spans (step_line line lim tops factor l (lim p.one.symbol)
            p.one) (others p) ≡ None
        let_is p h e Loop q = (let clash : false ≡ true = sym e ∙ ap is_loop q in absurd (cc clash))
        let_is p h e (Pair f z) q = refl
        let_is p h e (Block f z) q = busy p (f ∷ number z ∷ []) (inr (let_any p h e))

        one_is : (p : One) → IsOne ts p → after_idle spans (step_of p.one) (others p) ≡ None
        one_is p h = of (is_loop (line p.one.symbol)) refl
          where
            of : (b : Bool) → is_loop (line p.one.symbol) ≡ b → after_idle spans (step_of p.one) (others p) ≡ None
            of true e = loop_is p h e (is_lone p.one) refl
            of false e = let_is p h e (line p.one.symbol) refl

    -- ---- by a loop

    best_are : best spans (choices (map step_of ts)) ≡ bests r r r (picks ts)
    best_are = ap (best spans) are ∙ of (picks ts)
      where
        of : (qs : List One) → best spans (map (choice_by step_of) qs) ≡ bests r r r qs
        of [] = refl
        of (q ∷ qs) = ap (preferred (r q)) (of qs)

    by_best : (p : One) → IsOne ts p → (z : Ready) → r p ≡ Some z → bests r r r (picks ts) ≡ Some z → Stands line lim tops factor cs all p.others → z.others ≡ others p →
        taken exact shows z.symbol z.span spans ≡ Some (map (span_at line lim tops factor p.others) cs) → Moved
    by_best p h z is is_best stand same take = record {
      pick = p;
      one = h;
      stand = stand;
      is = (λ j. or_else (no_guard j) (or_else (no_idle j) (or_else (loop j) (by_let exact shows (state_of ts)))));
    }
      where
        loop : by_loop exact shows (state_of ts) ≡ Some (state_of p.others)
        loop =
            ap (option_and_then (after_loop exact shows spans)) (best_are ∙ is_best)
            ∙ ap (option_map (λ zs. record { steps = z.others; spans = zs })) take ∙ (λ j. Some (record { steps = same j; spans = map (span_at line lim tops factor p.others) cs }))

    from_least : IsLeast r (picks ts) (bests r r r (picks ts)) → Moved
    from_least k = of (is_loop (line k.pick.one.symbol)) refl
      where
        p : One
        p = k.pick

        h : IsOne ts k.pick
        h = is_one k.pick k.among

        impossible : r k.pick ≡ None → Moved
        impossible e = (let clash : Some k.ready ≡ None = sym k.is ∙ e in absurd (cc clash))

        some_is : (a b : Ready) → Some a ≡ Some b → a ≡ b
        some_is a b e = cc e

        loop_case : is_loop (line k.pick.one.symbol) ≡ true → (b : Bool) → is_lone k.pick.one ≡ b → (c : Bool) → named line lim tops factor cs all exact fit ts stands shows k.pick ≡ c → Moved
        loop_case e true lone c q = impossible (lone_unready line lim tops factor cs all exact fit ts stands shows k.pick (loop_fits k.pick h e) e lone)
        loop_case e false turns true q = impossible (turning_unready line lim tops factor cs all exact fit ts stands shows k.pick h (loop_fits k.pick h e) e turns q)
        loop_case e false turns false q =
            by_best k.pick h k.ready k.is k.best (stands_then k.pick h e q (inr (turns, lowest))) (λ j. Ready.others (is j))
            ((λ j. taken exact shows (Ready.symbol (is j)) (Ready.span (is j)) spans) ∙ loop_taken k.pick h e q turns lowest)
          where
            is : k.ready ≡ loop_ready line lim tops factor cs all exact fit ts stands shows k.pick
            is = some_is k.ready (loop_ready line lim tops factor cs all exact fit ts stands shows k.pick)
                (sym k.is ∙ turning_ready line lim tops factor cs all exact fit ts stands shows k.pick h (loop_fits k.pick h e) e turns q)

            inside_at : (c : Course) → In c cs → (f : Form) (us : List Item) → Sums f us ≡ target_at ts c → (u : Item) → In u us → In u all × (is_loop (line u.symbol) ≡ true)
            inside_at (Plain f us) m g vs same u mu = (let parts : vs ≡ us = cc same in (of_all (CourseFits line lim tops factor cs all) cs (Plain f us) fit.courses m).1 u (subst (In u) parts mu))
            inside_at (Opened t f us g vs c) m g' ws same u mu = by (is_left t ts) same
              where
                by : (b : Bool) → Sums g' ws ≡ (if b then Sums f us else Sums g vs) → In u all × (is_loop (line u.symbol) ≡ true)
                by true e = (let parts : ws ≡ us = cc e in (of_all (CourseFits line lim tops factor cs all) cs (Opened t f us g vs c) fit.courses m).2 u (subst (In u) parts mu))
                by false e = (let parts : ws ≡ vs = cc e in (of_all (CourseFits line lim tops factor cs all) cs (Opened t f us g vs c) fit.courses m).3 u (subst (In u) parts mu))

            lowest : Lowest factor goals (targets line lim tops factor cs all exact fit ts stands k.pick h shows) k.pick ts
            lowest f us m u mu left turn =
                let c = out_mapped (target_at ts) cs (Sums f us) m in
                let inside = inside_at c.0 c.1 f us c.2 u mu in
                let there = among_left line lim tops factor cs all exact fit ts stands u (fit.loops u inside.0 inside.1) c.0 f us c.1 (sym c.2) mu left inside.1 in
                let z = some_ready line lim tops factor cs all exact fit ts stands shows u there.0 inside.1 there.1 turn in
                let le = of_all (λ q. (z : Ready) → r q ≡ Some z → k.ready.factor ≤ℤ z.factor) (picks ts) z.0 k.least z.1 z.2 z.3 in
                let more = z.4 in
                let same : k.ready.factor ≡ factor k.pick.one.symbol = ap (λ (x : Ready). x.factor) is in
                omega (arith, ints, le, more, same)

        let_case : is_loop (line k.pick.one.symbol) ≡ false → (l : Line) → line k.pick.one.symbol ≡ l → Moved
        let_case e Loop q = (let clash : false ≡ true = sym e ∙ ap is_loop q in absurd (cc clash))
        let_case e (Block f z) q = impossible (ap (λ (l : Line). ready spans (step_line line lim tops factor l (lim k.pick.one.symbol) k.pick.one) (others k.pick)) q)
        let_case e (Pair f z) q =
            let own = opener k.pick h e in
            let comes = pair_ready line lim tops factor cs all exact fit ts stands shows k.pick h e own (let_unnamed k.pick h e) f z q in
            let is = some_is k.ready (record {
              symbol = k.pick.one.symbol;
              span = record { lower = f ∷ []; upper = f ∷ number z ∷ [] };
              others = others k.pick;
              factor = comes.0;
              is_single = is_single (record { lower = f ∷ []; upper = f ∷ number z ∷ [] });
            }) (sym k.is ∙ comes.1) in
            by_best k.pick h k.ready k.is k.best (stands_let line lim tops factor cs all exact fit ts stands k.pick h shows e own empty) (λ j. Ready.others (is j))
            ((λ j. taken exact shows (Ready.symbol (is j)) (Ready.span (is j)) spans) ∙ pair_taken k.pick h e f z q)
          where
            pairs : AllByRecursion (OwnPair line lim tops factor cs all k.pick.one.symbol f z) cs
            pairs = subst (λ (l : Line). OwnLine line lim tops factor cs all exact k.pick.one.symbol l) q (opener k.pick h e).own

            empty : (t : ℕ) (f : Form) (us : List Item) (g : Form) (vs : List Item) (c : List Item → List Form) → In (Opened t f us g vs c) cs → (t == k.pick.one.symbol) ≡ true →
                (u : Item) → In u us → is_lone u ≡ false → is_left u.symbol ts ≡ false
            empty t g us v vs c m own u mu turns =
                let none = (of_all (OwnPair line lim tops factor cs all k.pick.one.symbol f z) cs (Opened t g us v vs c) pairs m own).1 in
                absurd (subst (In u) none mu)

        of : (b : Bool) → is_loop (line k.pick.one.symbol) ≡ b → Moved
        of true e = loop_case e (is_lone k.pick.one) refl (named line lim tops factor cs all exact fit ts stands shows k.pick) refl
        of false e = let_case e (line k.pick.one.symbol) refl

    -- ---- by a let, where no loop is ready

    from_none : bests r r r (picks ts) ≡ None → AllByRecursion (λ p. r p ≡ None) (picks ts) → (t : Item) → In t ts → Moved
    from_none none unready first m =
        let x = some_let in
        let found = first_good comes_at Good (picks ts) (all_from Comes_at (picks ts) (λ p k. comes p (is_one p k) k)) x.0 x.1 x.2 in
        let lets : by_let exact shows (state_of ts) ≡ Some found.1 =
        ap (first_some (λ (c : Choice). after_let exact shows spans c.one c.others)) are ∙ over (picks ts) ∙ found.3 in
        let loop : by_loop exact shows (state_of ts) ≡ None = ap (option_and_then (after_loop exact shows spans)) (best_are ∙ none) in
        let same = found.4.0 in
        record {
          pick = found.0;
          one = is_one found.0 found.2;
          stand = found.4.1;
          is = (λ j. or_else (no_guard j) (or_else (no_idle j) (or_else (loop j) (lets j)))) ∙ (λ j. Some (same j));
        }
      where
        turned : Turned line lim tops factor cs all exact fit ts stands
        turned u mu loop free = of (is_lone u) refl
          where
            of : (b : Bool) → is_lone u ≡ b → b ≡ true
            of true e = refl
            of false e =
                let z = some_ready line lim tops factor cs all exact fit ts stands shows u mu loop free e in
                let clash : Some z.2 ≡ None = sym z.3 ∙ of_all (λ p. r p ≡ None) (picks ts) z.0 unready z.1 in
                absurd (cc clash)

        comes_at : One → Option State
        comes_at p = after_let exact shows spans (step_of p.one) (others p)

        Good : One → State → Type 0
        Good p y = (y ≡ state_of p.others) × Stands line lim tops factor cs all p.others

        Comes_at : One → Type 0
        Comes_at p = (comes_at p ≡ None) ⊎ ((y : State) × (comes_at p ≡ Some y) × Good p y)

        over : (ps : List One) → first_some (λ (c : Choice). after_let exact shows spans c.one c.others) (map (choice_by step_of) ps) ≡ first_some comes_at ps
        over [] = refl
        over (p ∷ ps) = ap (λ (o : Option State). or_else (comes_at p) o) (over ps)

        lone_good : (p : One) → IsOne ts p → (e : is_loop (line p.one.symbol) ≡ true) → is_lone p.one ≡ true → named line lim tops factor cs all exact fit ts stands shows p ≡ false →
            (y : State) × (comes_at p ≡ Some y) × Good p y
        lone_good p h e lone q = (state_of p.others, lone_let p h e q lone, (refl, stands_then p h e q (inl (lone, turned))))

        comes : (p : One) → IsOne ts p → In p (picks ts) → Comes_at p
        comes p h mp = of (is_loop (line p.one.symbol)) refl
          where
            loop_case : (e : is_loop (line p.one.symbol) ≡ true) → (b : Bool) → is_lone p.one ≡ b → (c : Bool) → named line lim tops factor cs all exact fit ts stands shows p ≡ c → Comes_at p
            loop_case e false turns c q =
                inl (ap (λ (b : Binder). after_let exact shows spans b (others p)) (turning_step line lim tops factor cs all exact fit ts stands shows p.one e turns))
            loop_case e true lone false q = inr (lone_good p h e lone q)
            loop_case e true lone true q =
                let tight : is_free_let exact shows p.one.symbol (number p.one.low ∷ []) (others p) ≡ false =
                ap (λ (b : Bool). b && true) (loose_at line lim tops factor cs all exact fit ts stands shows p h ∙ ap not q) in
                inl (ap (λ (b : Binder). after_let exact shows spans b (others p)) (lone_step line lim tops factor cs all exact fit ts stands shows p.one (loop_fits p h e) e lone)
                ∙ ap (λ (b : Bool). if b then option_map (λ zs. record { steps = others p; spans = zs }) (without_let exact shows p.one.symbol Min (number p.one.low ∷ []) spans) else None) tight)

            let_case : is_loop (line p.one.symbol) ≡ false → (l : Line) → line p.one.symbol ≡ l → Comes_at p
            let_case e Loop q = (let clash : false ≡ true = sym e ∙ ap is_loop q in absurd (cc clash))
            let_case e (Pair f z) q = inl (ap (λ (l : Line). after_let exact shows spans (step_line line lim tops factor l (lim p.one.symbol) p.one) (others p)) q)
            let_case e (Block f z) q = (let k = block_let p h e turned f z q in inr (state_of p.others, k.0, (refl, k.1)))

            of : (b : Bool) → is_loop (line p.one.symbol) ≡ b → Comes_at p
            of true e = loop_case e (is_lone p.one) refl (named line lim tops factor cs all exact fit ts stands shows p) refl
            of false e = let_case e (line p.one.symbol) refl

        not_none : (p : One) (y : State) → comes_at p ≡ Some y → comes_at p ≡ None → ⊥
        not_none p y e q = (let clash : Some y ≡ None = sym e ∙ q in cc clash)

        -- a let of a shifted block, if there is one, or any loop
        opener_case : (w : Item) → In w ts → is_loop (line w.symbol) ≡ false → (p : One) × In p (picks ts) × (comes_at p ≡ None → ⊥)
        opener_case w mw e =
            let q = picked ts w mw in
            (q.0, q.1, of q.0 q.1 (is_one q.0 q.1) (ap (λ (v : Item). is_loop (line v.symbol)) q.2 ∙ e) (line q.0.one.symbol) refl)
          where
            of : (p : One) → In p (picks ts) → IsOne ts p → is_loop (line p.one.symbol) ≡ false → (l : Line) → line p.one.symbol ≡ l → comes_at p ≡ None → ⊥
            of p mp h e Loop q = (let clash : false ≡ true = sym e ∙ ap is_loop q in absurd (cc clash))
            of p mp h e (Block f z) q = not_none p (state_of p.others) (block_let p h e turned f z q).0
            of p mp h e (Pair f z) q =
                let ready_so = pair_ready line lim tops factor cs all exact fit ts stands shows p h e (opener p h e) (let_unnamed p h e) f z q in
                let clash = sym ready_so.1 ∙ of_all (λ p. r p ≡ None) (picks ts) p unready mp in
                absurd (cc clash)

        some_let : (p : One) × In p (picks ts) × (comes_at p ≡ None → ⊥)
        some_let = of (list_any (λ w. not (is_loop (line w.symbol))) ts) refl
          where
            not_true : (b : Bool) → not b ≡ true → b ≡ false
            not_true true e = absurd (cc e)
            not_true false e = refl

            of : (b : Bool) → list_any (λ w. not (is_loop (line w.symbol))) ts ≡ b → (p : One) × In p (picks ts) × (comes_at p ≡ None → ⊥)
            of true e = (let w = some_of (λ w. not (is_loop (line w.symbol))) ts e in opener_case w.0 w.1 (not_true (is_loop (line w.0.symbol)) w.2))
            of false e =
                let q = picked ts first m in
                let h = is_one q.0 q.1 in
                let loop = all_loops q.0.one h.among in
                let q_unnamed = unnamed_so q.0 h loop (named line lim tops factor cs all exact fit ts stands shows q.0) refl in
                let free = unnamed_free line lim tops factor cs all exact fit ts stands shows q.0 h loop q_unnamed in
                let good = lone_good q.0 h loop (turned q.0.one h.among loop free) q_unnamed in
                (q.0, q.1, not_none q.0 good.0 good.1)
              where
                all_loops : (w : Item) → In w ts → is_loop (line w.symbol) ≡ true
                all_loops w mw = by (is_loop (line w.symbol)) refl
                  where
                    by : (b : Bool) → is_loop (line w.symbol) ≡ b → b ≡ true
                    by true k = refl
                    by false k = (let clash : true ≡ false = sym (is_any (λ w. not (is_loop (line w.symbol))) ts w mw (ap not k)) ∙ e in absurd (cc clash))

                unnamed_so : (p : One) → IsOne ts p → is_loop (line p.one.symbol) ≡ true → (b : Bool) → named line lim tops factor cs all exact fit ts stands shows p ≡ b →
                    named line lim tops factor cs all exact fit ts stands shows p ≡ false
                unnamed_so p h loop false k = k
                unnamed_so p h loop true k =
                    let v = some_of (names line lim tops factor p.one.symbol) p.others k in
                    absurd (by v.0 (h.within v.0 v.1) (names_cases line lim tops factor cs all exact fit ts stands shows p.one.symbol v.0 v.2))
                  where
                    by : (v : Item) → In v ts →
                        (opens line lim tops factor p.one.symbol v ≡ true) ⊎ ((is_loop (line v.symbol) ≡ true) × (list_any (form_has p.one.symbol) (lim v.symbol) ≡ true)) → ⊥
                    by v mv (inl a) = (let clash : true ≡ false = sym (all_loops v mv) ∙ opener_is line lim tops factor p.one.symbol v a in cc clash)
                    by v mv (inr (a, b)) =
                        let own = fit.loops v (stands.sub v mv) a in
                        let u = topped_by line lim tops factor cs all exact fit ts stands shows p.one.symbol v own b in
                        let free = none_of (opens line lim tops factor v.symbol) ts (λ w mw. topped_free line lim tops factor cs all exact fit ts stands shows v own u.0 u.1 w mw) in
                        let clash : true ≡ false = sym (turned v mv a free) ∙ u.1.turns in
                        cc clash

    pub next_is : (t : Item) → In t ts → Moved
    next_is t m = of (best_of r (picks ts))
      where
        of : ((bests r r r (picks ts) ≡ None) × AllByRecursion (λ p. r p ≡ None) (picks ts)) ⊎ IsLeast r (picks ts) (bests r r r (picks ts)) → Moved
        of (inl k) = from_none k.0 k.1 t m
        of (inr k) = from_least k

  -- ---- all moves

  pub run_is : (n : ℕ) (ts : List Item) → length ts ≤ n → Stands line lim tops factor cs all ts → run exact shows n (state_of ts) ≡ Some (map (span_at line lim tops factor []) cs)
  run_is zero [] few stands = refl
  run_is zero (t ∷ ts) few stands = absurd (omega (arith, few))
  run_is (suc n) [] few stands = refl
  run_is (suc n) (t ∷ ts) few stands =
      let m = next_is (t ∷ ts) stands t (inl refl) in
      let fewer = m.one.fewer in
      ap (option_and_then (run exact shows n)) m.is ∙ run_is n m.pick.others (omega (arith, few, fewer)) m.stand
