-- Which loops may be taken next: those that no let and no further upper form of another names, and lets behind guards.
use Rattle.std.proofs.Common.{◌≡◌, ℕ, ◌+◌, ◌≤◌, Bool, true, false, ◌&&◌, ◌||◌, not, List, [], ◌∷◌, ◌++◌, map, Option, Some, None, refl, sym, ap, ◌∙◌, subst, inl, inr, ◌⊎◌, arith}
use Rattle.std.specs.Prelude.{ℤ, pos, ◌≤ℤ◌, if◌then◌else◌, flat_map}
use Rattle.std.specs.List.{list_any}
use Rattle.std.specs.Option.{option_map}
use Rattle.std.proofs.lemmas.Int.{ints}
use Rattle.lin.specs.Forms.{Form, number, factor_of}
use Rattle.lin.specs.declared.span.Span1.{Span1}
use Rattle.soundness.specs.Claims.{In}
use Rattle.soundness.specs.Obligations.{Binder, Ranged, form_has}
use Rattle.sched.specs.Skeleton.{span}
use Rattle.tails.specs.Moves.{Ready, first_naming, lower_factor, is_single, is_free_loop, is_loose, ready}
use Rattle.completeness.proofs.PlainTurns.{one_if}
use Rattle.completeness.proofs.LoopMoves.{or_none, Item, is_lone, step_by, One, picks}
use Rattle.completeness.proofs.TailSteps.{Line, Loop, Block, Pair, is_loop}
use Rattle.completeness.proofs.BlockMoves.{is_of, hits_of, OneFits, now, found_factor, of_all}
use Rattle.completeness.proofs.BlockLimits.{limited_by, picked}
use Rattle.completeness.proofs.BestPicks.{IsOne, all_ones}
use Rattle.completeness.proofs.Courses.{Course, Plain, Opened, count, opened_by, rest_of, target_at, line_has, opens, step_line, step, names, span_at, FitsCourse, IsApartFrom, IsTopped}
use Rattle.completeness.proofs.Courses.{LoopFits, OpenerFits}
use Rattle.completeness.proofs.Courses.{AllFits, Stands}
use Rattle.completeness.proofs.CourseFacts.{some_of, none_of, is_any, loose_is, opener_is, gs, targets_fit, one_fits}
use Rattle.completeness.proofs.CourseMoves.{let_lowers}

and_end : (b : Bool) → (b && true) ≡ b
and_end true = refl
and_end false = refl

or_end : (b : Bool) → (b || false) ≡ b
or_end true = refl
or_end false = refl

-- where some form has the symbol the first such form has a factor of it
some_factor : (i : ℕ) (fs : List Form) → list_any (form_has i) fs ≡ true → (n : ℤ) × (option_map (λ f. factor_of f.terms i) (first_naming i fs) ≡ Some n)
some_factor i [] e = absurd (cc e)
some_factor i (f ∷ fs) e = of (form_has i f) refl e (λ k. some_factor i fs k)
  where
    of : (b : Bool) → form_has i f ≡ b → (b || list_any (form_has i) fs) ≡ true →
        (list_any (form_has i) fs ≡ true → (n : ℤ) × (option_map (λ f. factor_of f.terms i) (first_naming i fs) ≡ Some n)) →
        (n : ℤ) × (option_map (λ f. factor_of f.terms i) (if form_has i f then Some f else first_naming i fs) ≡ Some n)
    of true k q rest = (factor_of f.terms i, ap (λ (b : Bool). option_map (λ f. factor_of f.terms i) (if b then Some f else first_naming i fs)) k)
    of false k q rest = (let r = rest q in (r.0, ap (λ (b : Bool). option_map (λ f. factor_of f.terms i) (if b then Some f else first_naming i fs)) k ∙ r.1))

module _ (line : ℕ → Line) (lim tops : ℕ → List Form) (factor : ℕ → ℤ) (cs : List Course) (all : List Item) (exact : Bool) (fit : AllFits line lim tops factor cs all exact)
    (ts : List Item) (stands : Stands line lim tops factor cs all ts) (shows : Form → Form → Bool) where
  abbrev pub spans : List Span1
  spans = map (span_at line lim tops factor ts) cs

  abbrev pub around : One → List Binder
  around p = map (step line lim tops factor) p.others

  abbrev pub ready_at : One → Option Ready
  ready_at p = ready spans (step line lim tops factor p.one) (around p)

  abbrev pub named : One → Bool
  named p = list_any (names line lim tops factor p.one.symbol) p.others

  abbrev pub loop_span : Item → Span1
  loop_span t = span t.low t.last (lim t.symbol)

  abbrev pub loop_ready : One → Ready
  loop_ready p = record { symbol = p.one.symbol; span = loop_span p.one; others = around p; factor = factor p.one.symbol; is_single = is_single (loop_span p.one) }

  pub one_of_pick : (p : One) → In p (picks ts) → IsOne ts p
  one_of_pick p m = of_all (IsOne ts) (picks ts) p (all_ones ts stands.apart) m

  pub loose_at : (p : One) → IsOne ts p → is_loose p.one.symbol (around p) ≡ not (named p)
  loose_at p h = loose_is line lim tops factor p.one.symbol p.others h.loose

  -- what is named by none waits for none
  pub unnamed_free : (p : One) → IsOne ts p → is_loop (line p.one.symbol) ≡ true → named p ≡ false → list_any (opens line lim tops factor p.one.symbol) ts ≡ false
  unnamed_free p h loop e = none_of (opens line lim tops factor p.one.symbol) ts (λ w m. by w (h.rest w m))
    where
      off : (a b : Bool) → (a || b) ≡ false → a ≡ false
      off true b q = absurd (cc q)
      off false b q = refl

      each : (us : List Item) → list_any (names line lim tops factor p.one.symbol) us ≡ false → (w : Item) → In w us → names line lim tops factor p.one.symbol w ≡ false
      each [] q w m = absurd m
      each (u ∷ us) q w (inl k) = ap (names line lim tops factor p.one.symbol) k ∙ (or_none (names line lim tops factor p.one.symbol u) (list_any (names line lim tops factor p.one.symbol) us) q).0
      each (u ∷ us) q w (inr m) = each us (or_none (names line lim tops factor p.one.symbol u) (list_any (names line lim tops factor p.one.symbol) us) q).1 w m

      own : (b : Bool) → opens line lim tops factor p.one.symbol p.one ≡ b → b ≡ false
      own true q = (let clash : true ≡ false = sym loop ∙ opener_is line lim tops factor p.one.symbol p.one q in cc clash)
      own false q = refl

      by : (w : Item) → (w ≡ p.one) ⊎ In w p.others → opens line lim tops factor p.one.symbol w ≡ false
      by w (inl k) = ap (opens line lim tops factor p.one.symbol) k ∙ own (opens line lim tops factor p.one.symbol p.one) refl
      by w (inr m) =
          off (opens line lim tops factor p.one.symbol w) (if is_loop (line w.symbol) then list_any (form_has p.one.symbol) (lim w.symbol) else false) (each p.others e w m)

  -- ---- loops

  loop_step : (t : Item) → is_loop (line t.symbol) ≡ true → step line lim tops factor t ≡ limited_by lim tops (lim t.symbol) t
  loop_step t e = of (line t.symbol) e
    where
      of : (l : Line) → is_loop l ≡ true → step_line line lim tops factor l (lim t.symbol) t ≡ limited_by lim tops (lim t.symbol) t
      of Loop k = refl
      of (Block f z) k = absurd (cc k)
      of (Pair f z) k = absurd (cc k)

  pub turning_step : (t : Item) → is_loop (line t.symbol) ≡ true → is_lone t ≡ false → step line lim tops factor t ≡ Ranged t.symbol (loop_span t)
  turning_step t e turns = loop_step t e ∙ of (lim t.symbol)
    where
      of : (fs : List Form) → limited_by lim tops fs t ≡ Ranged t.symbol (span t.low t.last fs)
      of [] = ap (λ (b : Bool). step_by b t) turns
      of (f ∷ fs) = refl

  pub lone_step : (t : Item) → LoopFits line lim tops factor cs all t → is_loop (line t.symbol) ≡ true → is_lone t ≡ true → step line lim tops factor t ≡ step_by true t
  lone_step t loop e lone = loop_step t e ∙ of loop.limits
    where
      of : ((lim t.symbol ≡ []) × (tops t.symbol ≡ [])) ⊎ ((g : Form) × IsTopped line lim tops factor cs all t g) → limited_by lim tops (lim t.symbol) t ≡ step_by true t
      of (inl k) = ap (λ (fs : List Form). limited_by lim tops fs t) k.0 ∙ ap (λ (b : Bool). step_by b t) lone
      of (inr (g, k)) = (let clash : true ≡ false = sym lone ∙ k.turns in absurd (cc clash))

  pub lone_unready : (p : One) → LoopFits line lim tops factor cs all p.one → is_loop (line p.one.symbol) ≡ true → is_lone p.one ≡ true → ready_at p ≡ None
  lone_unready p loop e lone = ap (λ (b : Binder). ready spans b (around p)) (lone_step p.one loop e lone)

  module _ (p : One) (h : IsOne ts p) (loop : LoopFits line lim tops factor cs all p.one) (line_is : is_loop (line p.one.symbol) ≡ true) (turns : is_lone p.one ≡ false) where
    own_free : list_any (form_has p.one.symbol) (lim p.one.symbol) ≡ false
    own_free = of loop.limits
      where
        of : ((lim p.one.symbol ≡ []) × (tops p.one.symbol ≡ [])) ⊎ ((g : Form) × IsTopped line lim tops factor cs all p.one g) → list_any (form_has p.one.symbol) (lim p.one.symbol) ≡ false
        of (inl k) = ap (list_any (form_has p.one.symbol)) k.0
        of (inr (g, k)) = ap (list_any (form_has p.one.symbol)) k.is ∙ ap (λ (b : Bool). b || false) k.own

    free_at : is_free_loop p.one.symbol (loop_span p.one) (around p) ≡ not (named p)
    free_at = ap (λ (b : Bool). is_loose p.one.symbol (around p) && (not b && true)) own_free ∙ and_end (is_loose p.one.symbol (around p)) ∙ loose_at p h

    ready_if : (b : Bool) → named p ≡ b → ready_at p ≡ (if not b then option_map (λ n. record {
      symbol = p.one.symbol;
      span = loop_span p.one;
      others = around p;
      factor = n;
      is_single = is_single (loop_span p.one);
    }) (lower_factor p.one.symbol spans) else None)
    ready_if b e =
        ap (λ (c : Binder). ready spans c (around p)) (turning_step p.one line_is turns)
        ∙ ap (λ (v : Bool). if v then option_map (λ n. record { symbol = p.one.symbol; span = loop_span p.one; others = around p; factor = n; is_single = is_single (loop_span p.one) })
        (lower_factor p.one.symbol spans) else None) (free_at ∙ ap not e)

    pub turning_unready : named p ≡ true → ready_at p ≡ None
    turning_unready e = ready_if true e

    pub turning_ready : named p ≡ false → ready_at p ≡ Some (loop_ready p)
    turning_ready e =
        ready_if false e
        ∙ ap (option_map (λ n. record { symbol = p.one.symbol; span = loop_span p.one; others = around p; factor = n; is_single = is_single (loop_span p.one) })) found
      where
        one : OneFits (gs line lim tops factor cs all exact fit ts stands) ts p
        one = one_fits line lim tops factor cs all exact fit ts stands p h loop (unnamed_free p h line_is e)

        lowers : (ds : List Course) → flat_map (λ (y : Span1). y.lower) (map (span_at line lim tops factor ts) ds) ≡ flat_map (λ (y : Span1). y.lower) (map (now factor ts) (map (target_at ts) ds))
        lowers [] = refl
        lowers (c ∷ ds) = ap (λ (fs : List Form). (now factor ts (target_at ts c)).lower ++ fs) (lowers ds)

        found : lower_factor p.one.symbol spans ≡ Some (factor p.one.symbol)
        found =
            let once = one.here.once in
            ap (λ (fs : List Form). option_map (λ f. factor_of f.terms p.one.symbol) (first_naming p.one.symbol fs)) (lowers cs)
            ∙ found_factor factor ts p.one h.there (gs line lim tops factor cs all exact fit ts stands) one.here.fits (targets_fit line lim tops factor cs all exact fit ts stands)
            (omega (arith, once))

  -- ---- what a loop is named by

  pub names_cases : (i : ℕ) (w : Item) → names line lim tops factor i w ≡ true →
      (opens line lim tops factor i w ≡ true) ⊎ ((is_loop (line w.symbol) ≡ true) × (list_any (form_has i) (lim w.symbol) ≡ true))
  names_cases i w e = of (opens line lim tops factor i w) refl (is_loop (line w.symbol)) refl e
    where
      of : (a : Bool) → opens line lim tops factor i w ≡ a → (b : Bool) → is_loop (line w.symbol) ≡ b → (a || (if b then list_any (form_has i) (lim w.symbol) else false)) ≡ true →
          (opens line lim tops factor i w ≡ true) ⊎ ((is_loop (line w.symbol) ≡ true) × (list_any (form_has i) (lim w.symbol) ≡ true))
      of true k b l q = inl k
      of false k true l q = inr (l, q)
      of false k false l q = absurd (cc q)

  pub topped_by : (i : ℕ) (w : Item) → LoopFits line lim tops factor cs all w → list_any (form_has i) (lim w.symbol) ≡ true → (g : Form) × IsTopped line lim tops factor cs all w g ×
      (form_has i g ≡ true)
  topped_by i w loop e = of loop.limits
    where
      of : ((lim w.symbol ≡ []) × (tops w.symbol ≡ [])) ⊎ ((g : Form) × IsTopped line lim tops factor cs all w g) → (g : Form) × IsTopped line lim tops factor cs all w g × (form_has i g ≡ true)
      of (inl k) = (let clash : true ≡ false = sym e ∙ ap (list_any (form_has i)) k.0 in absurd (cc clash))
      of (inr (g, k)) = (g, k, sym (or_end (form_has i g)) ∙ sym (ap (list_any (form_has i)) k.is) ∙ e)

  some_course : (t : Item) (ds : List Course) → 1 ≤ hits_of t.symbol (map rest_of ds) → (c : Course) × In c ds × (is_of t.symbol (rest_of c) ≡ true)
  some_course t [] some = absurd (omega (arith, some))
  some_course t (c ∷ ds) some = of (is_of t.symbol (rest_of c)) refl some (λ k. some_course t ds k)
    where
      of : (b : Bool) → is_of t.symbol (rest_of c) ≡ b → 1 ≤ one_if b + hits_of t.symbol (map rest_of ds) →
          (1 ≤ hits_of t.symbol (map rest_of ds) → (d : Course) × In d ds × (is_of t.symbol (rest_of d) ≡ true)) → (d : Course) × In d (c ∷ ds) × (is_of t.symbol (rest_of d) ≡ true)
      of true e k rest = (c, inl refl, e)
      of false e k rest = (let r = rest (omega (arith, k)) in (r.0, inr r.1, r.2))

  -- a loop with a further upper form waits for none
  pub topped_free : (t : Item) → LoopFits line lim tops factor cs all t → (g : Form) → IsTopped line lim tops factor cs all t g → (w : Item) → In w ts → opens line lim tops factor t.symbol w ≡ false
  topped_free t loop g k w mw =
      let once = loop.once in
      let r = some_course t cs (omega (arith, once)) in
      of r.0 (of_all (FitsCourse line lim tops factor cs all t) cs r.0 loop.fits r.1) (of_all (IsApartFrom line lim tops factor cs all t) cs r.0 k.plain r.1) r.2
    where
      of : (c : Course) → FitsCourse line lim tops factor cs all t c → IsApartFrom line lim tops factor cs all t c → is_of t.symbol (rest_of c) ≡ true → opens line lim tops factor t.symbol w ≡ false
      of (Plain f us) q a e = q.1 e w (stands.sub w mw)
      of (Opened r f us v vs c) q a e = (let clash : true ≡ false = sym e ∙ a.1 in absurd (cc clash))

  -- and is ready
  topped_ready : (t : Item) → In t ts → is_loop (line t.symbol) ≡ true → (g : Form) → IsTopped line lim tops factor cs all t g →
      (q : One) × In q (picks ts) × (z : Ready) × (ready_at q ≡ Some z) × (z.factor ≡ pos 1)
  topped_ready t m loop g k =
      let r = picked ts t m in
      let q : One = r.0 in
      let h = one_of_pick q r.1 in
      let loop_q : is_loop (line q.one.symbol) ≡ true = ap (λ (v : Item). is_loop (line v.symbol)) r.2 ∙ loop in
      let own = fit.loops q.one (stands.sub q.one h.among) loop_q in
      let top : IsTopped line lim tops factor cs all q.one g = subst (λ (v : Item). IsTopped line lim tops factor cs all v g) (sym r.2) k in
      (q, r.1, loop_ready q, turning_ready q h own loop_q top.turns (unnamed q h own loop_q top (named q) refl), top.once)
    where
      unnamed : (q : One) → IsOne ts q → LoopFits line lim tops factor cs all q.one → is_loop (line q.one.symbol) ≡ true → IsTopped line lim tops factor cs all q.one g → (b : Bool) → named q ≡ b →
          named q ≡ false
      unnamed q h own loop_q top false e = e
      unnamed q h own loop_q top true e =
          let v = some_of (names line lim tops factor q.one.symbol) q.others e in
          absurd (of v.0 (h.within v.0 v.1) (names_cases q.one.symbol v.0 v.2))
        where
          of : (v : Item) → In v ts →
              (opens line lim tops factor q.one.symbol v ≡ true) ⊎ ((is_loop (line v.symbol) ≡ true) × (list_any (form_has q.one.symbol) (lim v.symbol) ≡ true)) → ⊥
          of v mv (inl a) = (let clash : true ≡ false = sym a ∙ topped_free q.one own g top v mv in cc clash)
          of v mv (inr (a, b)) =
              let u = topped_by q.one.symbol v (fit.loops v (stands.sub v mv) a) b in
              let wide = u.1.wide q.one (stands.sub q.one h.among) loop_q u.2 in
              let once = top.once in
              absurd (omega (arith, ints, wide, once))

  -- beside a loop that waits for none one is ready of no greater factor
  pub some_ready : (t : Item) → In t ts → is_loop (line t.symbol) ≡ true → list_any (opens line lim tops factor t.symbol) ts ≡ false → is_lone t ≡ false →
      (q : One) × In q (picks ts) × (z : Ready) × (ready_at q ≡ Some z) × (z.factor ≤ℤ factor t.symbol)
  some_ready t m loop free turns =
      let r = picked ts t m in
      let q : One = r.0 in
      let h = one_of_pick q r.1 in
      of q r.1 h r.2 (ap (λ (v : Item). is_loop (line v.symbol)) r.2 ∙ loop) (named q) refl
    where
      itself : (a b : ℤ) → a ≡ b → a ≤ℤ b
      itself a b e = omega (arith, ints, e)

      of : (q : One) → In q (picks ts) → IsOne ts q → q.one ≡ t → is_loop (line q.one.symbol) ≡ true → (b : Bool) → named q ≡ b →
          (q : One) × In q (picks ts) × (z : Ready) × (ready_at q ≡ Some z) × (z.factor ≤ℤ factor t.symbol)
      of q mq h is loop_q false e = (
        q,
        mq,
        loop_ready q,
        turning_ready q h (fit.loops q.one (stands.sub q.one h.among) loop_q) loop_q (ap is_lone is ∙ turns) e,
        itself (factor q.one.symbol) (factor t.symbol) (ap (λ (v : Item). factor v.symbol) is),
      )
      of q mq h is loop_q true e =
          let v = some_of (names line lim tops factor q.one.symbol) q.others e in
          by v.0 (h.within v.0 v.1) (names_cases q.one.symbol v.0 v.2)
        where
          by : (v : Item) → In v ts →
              (opens line lim tops factor q.one.symbol v ≡ true) ⊎ ((is_loop (line v.symbol) ≡ true) × (list_any (form_has q.one.symbol) (lim v.symbol) ≡ true)) →
              (q : One) × In q (picks ts) × (z : Ready) × (ready_at q ≡ Some z) × (z.factor ≤ℤ factor t.symbol)
          by v mv (inl a) =
              let there : opens line lim tops factor t.symbol v ≡ true = ap (λ (u : Item). opens line lim tops factor u.symbol v) (sym is) ∙ a in
              let clash : true ≡ false = sym (is_any (opens line lim tops factor t.symbol) ts v mv there) ∙ free in
              absurd (cc clash)
          by v mv (inr (a, b)) =
              let u = topped_by q.one.symbol v (fit.loops v (stands.sub v mv) a) b in
              let wide = u.1.wide q.one (stands.sub q.one h.among) loop_q u.2 in
              let z = topped_ready v mv a u.0 u.1 in
              let once = z.4 in
              let same : factor q.one.symbol ≡ factor t.symbol = ap (λ (w : Item). factor w.symbol) is in
              (z.0, z.1, z.2, z.3, omega (arith, ints, wide, once, same))

  -- ---- lets behind guards

  -- such a let is a loop of one turn, which is ready
  pub pair_ready : (p : One) → IsOne ts p → (let_line : is_loop (line p.one.symbol) ≡ false) → OpenerFits line lim tops factor cs all exact p.one → named p ≡ false → (k : Form) (z : ℤ) →
      line p.one.symbol ≡ Pair k z → (n : ℤ) × (ready_at p ≡ Some (record {
        symbol = p.one.symbol;
        span = record { lower = k ∷ []; upper = k ∷ number z ∷ [] };
        others = around p;
        factor = n;
        is_single = is_single (record { lower = k ∷ []; upper = k ∷ number z ∷ [] });
      }))
  pair_ready p h let_line opener unnamed k z is = (found.0, comes)
    where
      x : Span1
      x = record { lower = k ∷ []; upper = k ∷ number z ∷ [] }

      made : ℤ → Ready
      made n = record { symbol = p.one.symbol; span = x; others = around p; factor = n; is_single = is_single x }

      own_free : form_has p.one.symbol k ≡ false
      own_free = first (form_has p.one.symbol k) (sym (ap (λ (l : Line). line_has p.one.symbol l || (if is_loop l then list_any (form_has p.one.symbol) (lim p.one.symbol) else false)) is)
          ∙ opener.unnamed p.one (stands.sub p.one h.among))
        where
          first : (b : Bool) → (b || false) ≡ false → b ≡ false
          first true e = absurd (cc e)
          first false e = refl

      free_so : is_free_loop p.one.symbol x (around p) ≡ true
      free_so = (let loose = loose_at p h ∙ ap not unnamed in λ j. loose j && (not ((own_free j || false) || (own_free j || (false || false))) && true))

      lower_has : list_any (form_has p.one.symbol) (flat_map (λ (y : Span1). y.lower) spans) ≡ true
      lower_has = (let once = opener.once in some_lower cs (λ c m. m) (omega (arith, once)))
        where
          joins : (i : ℕ) (xs ys : List Form) → list_any (form_has i) xs ≡ true → list_any (form_has i) (xs ++ ys) ≡ true
          joins i [] ys e = absurd (cc e)
          joins i (f ∷ xs) ys e = of (form_has i f) e (λ q. joins i xs ys q)
            where
              of : (b : Bool) → (b || list_any (form_has i) xs) ≡ true → (list_any (form_has i) xs ≡ true → list_any (form_has i) (xs ++ ys) ≡ true) → (b || list_any (form_has i) (xs ++ ys)) ≡ true
              of true q rest = refl
              of false q rest = rest q

          behind : (i : ℕ) (xs ys : List Form) → list_any (form_has i) ys ≡ true → list_any (form_has i) (xs ++ ys) ≡ true
          behind i [] ys e = e
          behind i (f ∷ xs) ys e = ap (λ (b : Bool). form_has i f || b) (behind i xs ys e) ∙ either (form_has i f)
            where
              either : (b : Bool) → (b || true) ≡ true
              either true = refl
              either false = refl

          own_lower : (c : Course) → In c cs → opened_by p.one.symbol c ≡ true → list_any (form_has p.one.symbol) (span_at line lim tops factor ts c).lower ≡ true
          own_lower c m e = let_lowers line lim tops factor cs all exact fit ts stands p h shows let_line opener c m e

          some_lower : (ds : List Course) → ((c : Course) → In c ds → In c cs) → 1 ≤ count (opened_by p.one.symbol) ds →
              list_any (form_has p.one.symbol) (flat_map (λ (y : Span1). y.lower) (map (span_at line lim tops factor ts) ds)) ≡ true
          some_lower [] sub some = absurd (omega (arith, some))
          some_lower (c ∷ ds) sub some = of (opened_by p.one.symbol c) refl some (λ q. some_lower ds (λ d m. sub d (inr m)) q)
            where
              more : List Form
              more = flat_map (λ (y : Span1). y.lower) (map (span_at line lim tops factor ts) ds)

              of : (b : Bool) → opened_by p.one.symbol c ≡ b → 1 ≤ one_if b + count (opened_by p.one.symbol) ds →
                  (1 ≤ count (opened_by p.one.symbol) ds → list_any (form_has p.one.symbol) more ≡ true) → list_any (form_has p.one.symbol) ((span_at line lim tops factor ts c).lower ++ more) ≡ true
              of true e q rest = joins p.one.symbol (span_at line lim tops factor ts c).lower more (own_lower c (sub c (inl refl)) e)
              of false e q rest = behind p.one.symbol (span_at line lim tops factor ts c).lower more (rest (omega (arith, q)))

      found : (n : ℤ) × (lower_factor p.one.symbol spans ≡ Some n)
      found = some_factor p.one.symbol (flat_map (λ (y : Span1). y.lower) spans) lower_has

      comes : ready_at p ≡ Some (made found.0)
      comes =
          let factor_so = found.1 in
          ap (λ (l : Line). ready spans (step_line line lim tops factor l (lim p.one.symbol) p.one) (around p)) is
          ∙ (λ j. if free_so j then option_map (λ n. record { symbol = p.one.symbol; span = x; others = around p; factor = n; is_single = is_single x }) (factor_so j) else None)
