-- The tests that a nest makes its claim, and does an update's steps in turn, of loops, lets and guards, where what each coordinate comes to is what the claim asks of it.
use Rattle.std.proofs.Common.{◌≡◌, ℕ, suc, ◌+◌, ◌<◌, ◌≤◌, Bool, true, false, ◌&&◌, ◌||◌, not, List, [], ◌∷◌, ◌++◌, length, map, Some, refl, sym, ap, ◌∙◌, subst, inl, inr, arith}
use Rattle.std.specs.Prelude.{ℤ, ◌==◌, slice_get, if◌then◌else◌}
use Rattle.std.specs.List.{AllByRecursion, list_any, list_all}
use Rattle.lin.specs.Forms.{Form}
use Rattle.lin.specs.declared.form.Multiple.{Multiple}
use Rattle.lin.specs.declared.span.Span1.{Span1}
use Rattle.plan.specs.declared.stmt.Places.{Places}
use Rattle.plan.specs.declared.stmt.Pick.TheVariants.{Min}
use Rattle.plan.specs.Plan.{Coordinate}
use Rattle.meaning.specs.Names.{same_name}
use Rattle.soundness.specs.Obligations.{Binder, Ranged, Picked, Rules, exactly, form_has}
use Rattle.soundness.specs.Shown.{is_within, are_within, is_seated, are_seated}
use Rattle.soundness.specs.Binders.View.{grid_span, grid_from}
use Rattle.soundness.specs.Nests.Nest.{is_symbol}
use Rattle.soundness.proofs.Refines.{eq_true}
use Rattle.sched.specs.declared.nest.Turning.{Turning}
use Rattle.sched.specs.Skeleton.{span}
use Rattle.tails.specs.Steps.{Step, Turns, binder, binds, along}
use Rattle.tails.specs.Moves.{is_outer, paired, spans_over, reached}
use Rattle.tails.specs.Maps.{spelled_out, lies_within, covers, is_some, is_once}
use Rattle.tails.specs.Apart.{is_apart, is_steady}
use Rattle.tails.specs.Stored.{has_places}
use Rattle.tails.specs.Updates.{reducing, pure_steps}
use Rattle.completeness.proofs.PlainTurns.{one_if, hits, itself}
use Rattle.completeness.proofs.SplitTests.{IsBelow}
use Rattle.completeness.proofs.HeadSeats.{HeadLet, forms_of, around_from}
use Rattle.completeness.proofs.LoopMoves.{Item, is_left}
use Rattle.completeness.proofs.BlockKept.{kept_back, kept_apart, kept_there, left_out, out_free, out_outer, is_kept}
use Rattle.completeness.proofs.TailSteps.{Line, Loop, Block, Pair, is_loop}
use Rattle.completeness.proofs.TailLines.{always, line_turns, lines_kept, lines_of, along_kept, scoped_kept, AreLowLines}
use Rattle.completeness.proofs.TailBounds.{none_along}
use Rattle.completeness.proofs.TailSums.{IsSum, course, course_by, AreSums, Each, courses, sum_forms, LinesFit, Opening, all_fit}
use Rattle.completeness.proofs.Courses.{Course, begin_of, span_at, AllFits}
use Rattle.completeness.proofs.CourseLaw.{Begins, courses_are}

none_false : {b : Bool} → b ≡ true → b ≡ false → ⊥
none_false e q = (let clash : true ≡ false = sym e ∙ q in cc clash)

module _ (factor : ℕ → ℤ) (n : ℕ) (ts : List Turning) (owner : ℕ → List ℕ) (line : ℕ → Line) (lim tops : ℕ → List Form) (keep : ℕ → Bool) where
  abbrev steps : List Step
  steps = lines_kept line lim keep n ts

  abbrev all : List Item
  all = kept_back lim keep n ts

  abbrev Sum : List ℕ → Type 0
  Sum x = IsSum factor n ts owner line lim tops keep x

  abbrev Sums' : List (List ℕ) → Type 0
  Sums' xs = AreSums factor n ts owner line lim tops keep xs

  -- what the claim asks of the variable is among the numbers that its coordinate comes to
  abbrev pub IsClaimed : Rules → List Binder → (List ℕ → Span1) → (x : List ℕ) → Sum x → Type 0
  IsClaimed rules bs claim x k =
      is_within rules bs (claim x) (spelled_out bs (span_at line lim tops factor [] (course factor n ts owner line lim tops keep x k))) ≡ true

  -- each let is kept
  abbrev pub LetsKept : Type 0
  LetsKept = (j : ℕ) (t : Turning) → slice_get ts j ≡ Some t → is_loop (line (n + j)) ≡ false → keep (n + j) ≡ true

  -- each form is over symbols of earlier steps
  abbrev pub AreLow : Type 0
  AreLow = AreLowLines line lim keep n ts

  module _ (xs : List (List ℕ)) (facts : LinesFit factor n ts owner line lim tops keep xs) (lets : LetsKept) (ks : Sums' xs) where
    abbrev cs : List Course
    cs = courses factor n ts owner line lim tops keep xs ks

    abbrev forms : List Form
    forms = sum_forms factor n ts owner line lim tops keep xs ks

    module _ (exact : Bool) (blocks : (j : ℕ) (f : Form) (z : ℤ) → line (n + j) ≡ Block f z → exact ≡ false) where
      abbrev fit : AllFits line lim tops factor cs all exact
      fit = all_fit factor n ts owner line lim tops keep xs facts exact blocks ks

      -- the let that opens a coordinate is there
      begins : (ys : List (List ℕ)) (hs : Sums' ys) → AllByRecursion (Begins line lim tops factor cs all exact fit (kept_apart lim keep n ts)) (courses factor n ts owner line lim tops keep ys hs)
      begins [] hs = tt
      begins (y ∷ ys) hs = (of hs.0.opening, begins ys hs.1)
        where
          of : (o : Opening factor n ts owner line lim tops keep hs.0.form hs.0.parts) → Begins line lim tops factor cs all exact fit (kept_apart lim keep n ts)
              (course_by factor n ts owner line lim tops keep hs.0.form hs.0.parts o)
          of (inl u) = tt
          of (inr (inl o)) = kept_there lim keep n ts o.place o.turning o.there (lets o.place o.turning o.there (ap is_loop o.line_is))
          of (inr (inr o)) = kept_there lim keep n ts o.place o.turning o.there (lets o.place o.turning o.there (ap is_loop o.line_is))

      pub spans : (shows : Form → Form → Bool) → spans_over exact shows (paired (along steps)) forms ≡ Some (map (span_at line lim tops factor []) cs)
      spans shows =
          (λ j. spans_over exact shows (paired (along_kept line lim keep n ts j)) (forms_are xs ks j))
          ∙ courses_are line lim tops factor cs all exact fit (kept_apart lim keep n ts) (begins xs ks) shows
        where
          forms_are : (ys : List (List ℕ)) (hs : Sums' ys) → sum_forms factor n ts owner line lim tops keep ys hs ≡ map begin_of (courses factor n ts owner line lim tops keep ys hs)
          forms_are [] hs = refl
          forms_are (y ∷ ys) hs = ap (λ (fs : List Form). begin_of (course factor n ts owner line lim tops keep y hs.0) ∷ fs) (forms_are ys hs.1)

    module _ (low : AreLow) where
      -- no point is met twice, where no block is shifted
      pub once : ((j : ℕ) (f : Form) (z : ℤ) → line (n + j) ≡ Block f z → true ≡ false) → is_once steps forms ≡ true
      once blocks = (let one = scoped_kept line lim keep n ts low in let two = spans true blocks (λ a b. false) in λ j. one j && is_some (two j))

      module _ (rules : Rules) (bs : List Binder) (claim : List ℕ → Span1) where
        within_all : (ys : List (List ℕ)) (hs : Sums' ys) → Each factor n ts owner line lim tops keep (IsClaimed rules bs claim) ys hs →
            are_within rules bs (map claim ys) (map (spelled_out bs) (map (span_at line lim tops factor []) (courses factor n ts owner line lim tops keep ys hs))) ≡ true
        within_all [] hs h = refl
        within_all (y ∷ ys) hs h = (let here = h.0 in let rest = within_all ys hs.1 h.1 in λ j. here j && rest j)

        -- each point of the claim's region is visited
        pub covered : Each factor n ts owner line lim tops keep (IsClaimed rules bs claim) xs ks → covers rules bs steps forms (map claim xs) ≡ true
        covered h =
            let one = scoped_kept line lim keep n ts low in
            let reach : reached (rules.at_most bs) steps forms ≡ Some (map (span_at line lim tops factor []) cs) = spans false (λ j f z e. refl) (rules.at_most bs) in
            let two : lies_within rules bs (map claim xs) (reached (rules.at_most bs) steps forms) ≡ true = ap (lies_within rules bs (map claim xs)) reach ∙ within_all xs ks h in
            λ j. one j && two j

-- ---- places

all_joined : {A : Type 0} (f : A → Bool) (xs ys : List A) → list_all f xs ≡ true → list_all f ys ≡ true → list_all f (xs ++ ys) ≡ true
all_joined f [] ys h k = k
all_joined f (x ∷ xs) ys h k = of (f x) h (λ q. all_joined f xs ys q k)
  where
    of : (b : Bool) → (b && list_all f xs) ≡ true → (list_all f xs ≡ true → list_all f (xs ++ ys) ≡ true) → (b && list_all f (xs ++ ys)) ≡ true
    of true q rest = rest q
    of false q rest = absurd (cc q)

-- what stands around a nest has none of its symbols: the grid, and the lets of the group's head
module _ (line : ℕ → Line) (lim : ℕ → List Form) (n : ℕ) (ts : List Turning) where
  abbrev around_steps : List Step
  around_steps = lines_of line lim n ts

  grid_apart : (i : ℕ) (ns : List ℕ) → i + length ns ≤ n → list_all (is_apart (along around_steps)) (grid_from i ns) ≡ true
  grid_apart i [] less = refl
  grid_apart i (m ∷ ns) less =
      let none = none_along line lim i n ts (omega (arith, less)) in
      let here : list_all (is_apart (along around_steps)) (Ranged i (grid_span m) ∷ []) ≡ true = λ j. (not (none j) && true) && true in
      all_joined (is_apart (along around_steps)) (grid_from (i + 1) ns) (Ranged i (grid_span m) ∷ []) (grid_apart (i + 1) ns (omega (arith, less))) here

  below_outer : (f : Form) → IsBelow n f → is_outer (along around_steps) f ≡ true
  below_outer f below = of f.terms below
    where
      of : (us : List Multiple) → AllByRecursion (λ t. t.symbol < n) us → list_all (λ t. not (list_any (binds t.symbol) (along around_steps))) us ≡ true
      of [] h = refl
      of (u ∷ us) h = (let none = none_along line lim u.symbol n ts h.0 in let rest = of us h.1 in λ j. not (none j) && rest j)

  lets_apart : (i : ℕ) (lets : List HeadLet) (bs : List Binder) → i + length lets ≤ n → AllByRecursion (λ l. IsBelow n l.form) lets → list_all (is_apart (along around_steps)) bs ≡ true →
      list_all (is_apart (along around_steps)) (around_from i lets bs) ≡ true
  lets_apart i [] bs less low h = h
  lets_apart i (l ∷ lets) bs less low h =
      let none = none_along line lim i n ts (omega (arith, less)) in
      let outer = below_outer l.form low.0 in
      lets_apart (i + 1) lets (Picked i Min (forms_of l) ∷ bs) (omega (arith, less)) low.1 (λ j. (not (none j) && (outer j && true)) && h j)

  pub around_apart : (counts : List ℕ) (lets : List HeadLet) → length counts + length lets ≤ n → AllByRecursion (λ l. IsBelow n l.form) lets →
      list_all (is_apart (along (lines_of line lim n ts))) (around_from (length counts) lets (grid_from 0 counts)) ≡ true
  around_apart counts lets less low =
      lets_apart (length counts) lets (grid_from 0 counts) less low (grid_apart 0 counts (omega (arith, less)))

module _ (factor : ℕ → ℤ) (n : ℕ) (ts : List Turning) (owner : ℕ → List ℕ) (line : ℕ → Line) (lim tops : ℕ → List Form) (rules : Rules) (around : List Binder) (place : List ℕ → Places) where
  abbrev walked : List Step
  walked = lines_of line lim n ts

  -- the place of each number of the coordinate is the same at all turns, and its places hold all
  pub record IsPlaced (x : List ℕ) (f : Form) : Type 0 where
    pub steady : is_steady false (along (lines_of line lim n ts)) (place x) ≡ true
    pub seated : is_seated rules (along (lines_of line lim n ts) ++ around) (exactly f) (place x) ≡ true

  abbrev pub IsPlacedSum : (x : List ℕ) → IsSum factor n ts owner line lim tops always x → Type 0
  IsPlacedSum x k = IsPlaced x (begin_of (course factor n ts owner line lim tops always x k))

  pub places_there : list_all (is_apart (along (lines_of line lim n ts))) around ≡ true → (xs : List (List ℕ)) (ks : AreSums factor n ts owner line lim tops always xs) →
      Each factor n ts owner line lim tops always IsPlacedSum xs ks →
      has_places false rules around (record { steps = walked; forms = sum_forms factor n ts owner line lim tops always xs ks }) (map place xs) ≡ true
  places_there apart xs ks h =
      let one = apart in
      let two = steady_all xs ks h in
      let three = seated_all xs ks h in
      λ j. (one j && two j) && three j
    where
      steady_all : (ys : List (List ℕ)) (hs : AreSums factor n ts owner line lim tops always ys) → Each factor n ts owner line lim tops always IsPlacedSum ys hs →
          list_all (is_steady false (along walked)) (map place ys) ≡ true
      steady_all [] hs k = refl
      steady_all (y ∷ ys) hs k = (let here = k.0.steady in let rest = steady_all ys hs.1 k.1 in λ j. here j && rest j)

      seated_all : (ys : List (List ℕ)) (hs : AreSums factor n ts owner line lim tops always ys) → Each factor n ts owner line lim tops always IsPlacedSum ys hs →
          are_seated rules (along walked ++ around) (map exactly (sum_forms factor n ts owner line lim tops always ys hs)) (map place ys) ≡ true
      seated_all [] hs k = refl
      seated_all (y ∷ ys) hs k = (let here = k.0.seated in let rest = seated_all ys hs.1 k.1 in λ j. here j && rest j)

-- ---- the loops of a reduction are left out

module _ (line : ℕ → Line) (lim : ℕ → List Form) (over : List Coordinate) where
  abbrev pub AreLoops : ℕ → List Turning → Type 0
  AreLoops n ts = (j : ℕ) (t : Turning) → slice_get ts j ≡ Some t → is_loop (line (n + j)) ≡ false → is_kept over (n + j) ≡ true

  loops_later : (n : ℕ) (t : Turning) (ts : List Turning) → AreLoops n (t ∷ ts) → AreLoops (n + 1) ts
  loops_later n t ts h j u e l = (let next : (n + 1) + j ≡ n + suc j = omega arith in ap (is_kept over) next ∙ h (suc j) u e (ap (λ (s : ℕ). is_loop (line s)) (sym next) ∙ l))

  here_kept : (n : ℕ) (t : Turning) (ts : List Turning) → AreLoops n (t ∷ ts) → is_loop (line n) ≡ false → is_kept over n ≡ true
  here_kept n t ts h l = (let none : n + 0 ≡ n = omega arith in ap (is_kept over) (sym none) ∙ h 0 t refl (ap (λ (s : ℕ). is_loop (line s)) none ∙ l))

  pub pure_are : (n : ℕ) (ts : List Turning) → AreLoops n ts → pure_steps over (lines_of line lim n ts) ≡ lines_kept line lim (is_kept over) n ts
  pure_are n [] h = refl
  pure_are n (t ∷ ts) h = of (line n) refl (pure_are n' ts (loops_later n t ts h))
    where
      n' : ℕ
      n' = n + 1

      of : (l : Line) → line n ≡ l → pure_steps over (lines_of line lim (n + 1) ts) ≡ lines_kept line lim (is_kept over) (n + 1) ts →
          pure_steps over (line_turns l n t (lim n) (lines_of line lim (n + 1) ts))
          ≡ (if is_kept over n then line_turns l n t (lim n) (lines_kept line lim (is_kept over) (n + 1) ts) else lines_kept line lim (is_kept over) (n + 1) ts)
      of Loop e rest = ap (λ (ss : List Step). if is_kept over n then Turns n (span t.low t.last (lim n)) t.kind ∷ ss else ss) rest
      of (Block f z) e rest =
          let kept = here_kept n t ts h (ap is_loop e) in
          ap (λ (ss : List Step). line_turns (Block f z) n t (lim n) ss) rest
          ∙ sym (ap (λ (b : Bool). if b then line_turns (Block f z) n t (lim n) (lines_kept line lim (is_kept over) (n + 1) ts) else lines_kept line lim (is_kept over) (n + 1) ts) kept)
      of (Pair f z) e rest =
          let kept = here_kept n t ts h (ap is_loop e) in
          ap (λ (ss : List Step). line_turns (Pair f z) n t (lim n) ss) rest
          ∙ sym (ap (λ (b : Bool). if b then line_turns (Pair f z) n t (lim n) (lines_kept line lim (is_kept over) (n + 1) ts) else lines_kept line lim (is_kept over) (n + 1) ts) kept)

  pub reducing_are : (n : ℕ) (ts : List Turning) → AreLoops n ts → reducing over (lines_of line lim n ts) ≡ left_out lim (is_kept over) n ts
  reducing_are n [] h = refl
  reducing_are n (t ∷ ts) h = of (line n) refl (reducing_are n' ts (loops_later n t ts h))
    where
      n' : ℕ
      n' = n + 1

      turned : (b : Bool) → reducing over (lines_of line lim (n + 1) ts) ≡ left_out lim (is_kept over) (n + 1) ts →
          (if b then Turns n (span t.low t.last (lim n)) t.kind ∷ reducing over (lines_of line lim (n + 1) ts) else reducing over (lines_of line lim (n + 1) ts))
          ≡ (if not (not b) then Turns n (span t.low t.last (lim n)) t.kind ∷ left_out lim (is_kept over) (n + 1) ts else left_out lim (is_kept over) (n + 1) ts)
      turned true q = ap (λ (ss : List Step). Turns n (span t.low t.last (lim n)) t.kind ∷ ss) q
      turned false q = q

      of : (l : Line) → line n ≡ l → reducing over (lines_of line lim (n + 1) ts) ≡ left_out lim (is_kept over) (n + 1) ts →
          reducing over (line_turns l n t (lim n) (lines_of line lim (n + 1) ts))
          ≡ (if not (is_kept over n) then Turns n (span t.low t.last (lim n)) t.kind ∷ left_out lim (is_kept over) (n + 1) ts else left_out lim (is_kept over) (n + 1) ts)
      of Loop e rest = turned (list_any (is_symbol n) over) rest
      of (Block f z) e rest =
          let kept = here_kept n t ts h (ap is_loop e) in
          rest ∙ sym (ap (λ (b : Bool). if not b then Turns n (span t.low t.last (lim n)) t.kind ∷ left_out lim (is_kept over) (n + 1) ts else left_out lim (is_kept over) (n + 1) ts) kept)
      of (Pair f z) e rest =
          let kept = here_kept n t ts h (ap is_loop e) in
          rest ∙ sym (ap (λ (b : Bool). if not b then Turns n (span t.low t.last (lim n)) t.kind ∷ left_out lim (is_kept over) (n + 1) ts else left_out lim (is_kept over) (n + 1) ts) kept)

module _ (line : ℕ → Line) (lim : ℕ → List Form) (keep : ℕ → Bool) where
  -- the forms of a line have none of their symbols
  abbrev pub IsOutside : List Binder → Line → Type 0
  IsOutside outs Loop = Unit {0}
  IsOutside outs (Block f z) = is_outer outs f ≡ true
  IsOutside outs (Pair f z) = is_outer outs f ≡ true

  abbrev pub AreOutside : List Binder → ℕ → List Turning → Type 0
  AreOutside outs m us = (j : ℕ) (u : Turning) → slice_get us j ≡ Some u → AllByRecursion (λ f. is_outer outs f ≡ true) (lim (m + j)) × IsOutside outs (line (m + j))

  pub out_apart : (n m : ℕ) (us ts : List Turning) → AreOutside (map binder (left_out lim keep n ts)) m us →
      list_all (is_apart (map binder (left_out lim keep n ts))) (map binder (lines_kept line lim keep m us)) ≡ true
  out_apart n m [] ts outside = refl
  out_apart n m (u ∷ us) ts outside =
      of (keep m) refl (out_apart n (m + 1) us ts (λ j v e. let next : m + suc j ≡ (m + 1) + j = omega arith in
      subst (λ (s : ℕ). AllByRecursion (λ f. is_outer outs f ≡ true) (lim s) × IsOutside outs (line s)) next (outside (suc j) v e)))
    where
      outs : List Binder
      outs = map binder (left_out lim keep n ts)

      each : (fs : List Form) → AllByRecursion (λ f. is_outer outs f ≡ true) fs → list_all (is_outer outs) fs ≡ true
      each [] h = refl
      each (f ∷ fs) h = (let here = h.0 in let rest = each fs h.1 in λ j. here j && rest j)

      own : AllByRecursion (λ f. is_outer outs f ≡ true) (lim m) × IsOutside outs (line m)
      own =
          let none : m + 0 ≡ m = omega arith in
          subst (λ (s : ℕ). AllByRecursion (λ f. is_outer outs f ≡ true) (lim s) × IsOutside outs (line s)) none (outside 0 u refl)

      by : (l : Line) → IsOutside outs l → list_any (binds m) outs ≡ false → list_all (is_apart outs) (map binder (lines_kept line lim keep (m + 1) us)) ≡ true →
          list_all (is_apart outs) (map binder (line_turns l m u (lim m) (lines_kept line lim keep (m + 1) us))) ≡ true
      by Loop o none h = (let limits = each (lim m) own.0 in λ j. (not (none j) && (true && (true && limits j))) && h j)
      by (Block f z) o none h = λ j. (not (none j) && (o j && (true && true))) && h j
      by (Pair f z) o none h = λ j. (o j && true) && ((not (none j) && (o j && (true && true))) && h j)

      of : (b : Bool) → keep m ≡ b → list_all (is_apart outs) (map binder (lines_kept line lim keep (m + 1) us)) ≡ true →
          list_all (is_apart outs) (map binder (if b then line_turns (line m) m u (lim m) (lines_kept line lim keep (m + 1) us) else lines_kept line lim keep (m + 1) us)) ≡ true
      of true e h = by (line m) own.1 (out_free lim keep m e n ts) h
      of false e h = h

-- and no coordinate has a symbol that is left out
module _ (factor : ℕ → ℤ) (n : ℕ) (ts : List Turning) (owner : ℕ → List ℕ) (line : ℕ → Line) (lim tops : ℕ → List Form) (keep : ℕ → Bool)
    (loops : (j : ℕ) (t : Turning) → slice_get ts j ≡ Some t → is_loop (line (n + j)) ≡ false → keep (n + j) ≡ true) where
  abbrev pub AreGone : List (List ℕ) → Type 0
  AreGone xs = (j : ℕ) (t : Turning) → slice_get ts j ≡ Some t → keep (n + j) ≡ false → hits itself (owner j) xs ≡ 0

  loop_so : (j : ℕ) (t : Turning) → slice_get ts j ≡ Some t → keep (n + j) ≡ false → is_loop (line (n + j)) ≡ true
  loop_so j t at gone = of (is_loop (line (n + j))) refl
    where
      of : (b : Bool) → is_loop (line (n + j)) ≡ b → is_loop (line (n + j)) ≡ true
      of true e = e
      of false e = absurd (none_false (loops j t at e) gone)

  pub kept_outer : (xs : List (List ℕ)) (ks : AreSums factor n ts owner line lim tops keep xs) → AreGone xs →
      list_all (is_outer (map binder (left_out lim keep n ts))) (sum_forms factor n ts owner line lim tops keep xs ks) ≡ true
  kept_outer [] ks gone = refl
  kept_outer (x ∷ xs) ks gone =
      let here = out_outer lim keep (begin_of (course factor n ts owner line lim tops keep x ks.0)) n ts (λ j t at out. of j t at out ks.0.opening) in
      let rest = kept_outer xs ks.1 (λ j t at out. let all_of = gone j t at out in omega (arith, all_of)) in
      λ j. here j && rest j
    where
      away : (j : ℕ) (t : Turning) → slice_get ts j ≡ Some t → keep (n + j) ≡ false → is_left (n + j) ks.0.parts ≡ false
      away j t at out = ks.0.mine j t at (loop_so j t at out) ∙ none (same_name x (owner j)) (gone j t at out)
        where
          none : (b : Bool) → one_if b + hits itself (owner j) xs ≡ 0 → b ≡ false
          none true e = absurd (omega (arith, e))
          none false e = refl

      other : (place j : ℕ) → keep (n + place) ≡ true → keep (n + j) ≡ false → (n + place == n + j) ≡ false
      other place j kept out = which (n + place == n + j) refl
        where
          which : (b : Bool) → (n + place == n + j) ≡ b → (n + place == n + j) ≡ false
          which false e = e
          which true e = absurd (none_false (ap keep (sym (eq_true (n + place) (n + j) e)) ∙ kept) out)

      of : (j : ℕ) (t : Turning) → slice_get ts j ≡ Some t → keep (n + j) ≡ false → (o : Opening factor n ts owner line lim tops keep ks.0.form ks.0.parts) →
          form_has (n + j) (begin_of (course_by factor n ts owner line lim tops keep ks.0.form ks.0.parts o)) ≡ false
      of j t at out (inl u) = ks.0.outer j (away j t at out)
      of j t at out (inr (inl o)) = ap (λ (b : Bool). b || false) (other o.place j (loops o.place o.turning o.there (ap is_loop o.line_is)) out)
      of j t at out (inr (inr o)) =
          let first = other o.place j (loops o.place o.turning o.there (ap is_loop o.line_is)) out in
          let second : (o.inner.symbol == n + j) ≡ false = inner (o.outer.symbol == n + j) (o.inner.symbol == n + j) (sym (ap (is_left (n + j)) o.parts_are) ∙ away j t at out) in
          o.has_start (n + j) ∙ (λ i. first i || second i)
        where
          inner : (a b : Bool) → (a || (b || false)) ≡ false → b ≡ false
          inner true b e = absurd (cc e)
          inner false true e = absurd (cc e)
          inner false false e = refl
