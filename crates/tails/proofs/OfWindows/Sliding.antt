-- A claim that slides along a window that holds does so in each turn of its loop.
use Rattle.std.proofs.Common.{◌≡◌, ℕ, zero, suc, Bool, true, false, List, [], ◌∷◌, ◌++◌, map, Option, Some, None, refl, sym, ap, ◌∙◌, subst, inl, inr, arith}
use Rattle.std.specs.Prelude.{ℤ, pos, ◌-ℤ◌, ◌+ℤ◌, ◌≤ℤ◌, ◌<ℤ◌, ◌==◌, ◌||◌, ◌&&◌, ◌⊎◌, not, if◌then◌else◌, slice_get, IsSome, int_le}
use Rattle.std.specs.List.{AllByRecursion, list_all}
use Rattle.std.specs.Option.{option_map, option_map_or}
use Rattle.std.proofs.lemmas.Int.{ints, by_lt_z}
use Rattle.lin.specs.Forms.{Form, number, factor_of}
use Rattle.lin.specs.declared.span.Span1.{Span1}
use Rattle.plan.specs.declared.certificate.cert.Window.{Window}
use Rattle.plan.specs.declared.stmt.Places.{Places}
use Rattle.plan.specs.declared.stmt.Places.TheVariants.{From, Folded}
use Rattle.plan.specs.Plan.{Statement, Seq, For, Let, First, Guard, Alloc, Fetch, Store, Publish}
use Rattle.plan.specs.Symbols.{Symbols, form_value, InRegion}
use Rattle.plan.specs.Rooms.{room, place}
use Rattle.plan.specs.Semantics.Actions.{Setting, Action, actions}
use Rattle.plan.specs.Certificate.Certificate.{Claim}
use Rattle.soundness.specs.Origins.{Given}
use Rattle.soundness.specs.Claims.{In, written, ClearOf, status_after}
use Rattle.soundness.specs.Around.{Binder, Respects, Lies, LieIn, binds, inside}
use Rattle.soundness.specs.Sliding.{IsTurnBefore, IsSliding}
use Rattle.soundness.specs.Obligations.{Rules, Suited, Made, MeantAt, exactly}
use Rattle.soundness.specs.Shown.{is_seated}
use Rattle.soundness.specs.Nests.Tests.{has_ends}
use Rattle.soundness.proofs.Folds.{Near, near_apart}
use Rattle.soundness.proofs.Forms.{region_lies, lies_region}
use Rattle.soundness.proofs.Refines.{and_parts, eq_true}
use Rattle.soundness.proofs.Windows.{Fills, fills_stay, fills_make}
use Rattle.tails.specs.Steps.{Step, Spine, spine_of, binder, along, Keeps}
use Rattle.tails.specs.Moves.{is_outer}
use Rattle.tails.specs.Maps.{is_scoped, covers}
use Rattle.tails.specs.Laws.{point_at}
use Rattle.tails.specs.Stored.{Stored, forms_at, stored_by, has_places}
use Rattle.tails.proofs.Covering.{covers_is_visited}
use Rattle.tails.proofs.Distinct.{walked}
use Rattle.tails.proofs.Lets.{outer_value}
use Rattle.tails.proofs.Values.{all_both, made_value}
use Rattle.tails.proofs.Spines.{IsWay, IsWayOf, way}
use Rattle.tails.proofs.Storing.{IsPureStore, IsStoring, line_pure, line_stores, turn_respects, turn_seats}
use Rattle.tails.proofs.Walk.{respects_back, any_forward}
use Rattle.tails.specs.Windows.Spans.{is_rising_form, is_rising, is_window}
use Rattle.tails.specs.Windows.Arms.{row_above, rows_from, region_with, is_fold_of, is_still, is_here, one_less, are_together, hold, is_axis, is_along}
use Rattle.tails.specs.Windows.Arms.{others_stay, makes_all, reaches_above, reaches_new, makes_new, one_stays, makes_folded, arm, arms_stay, is_slid, is_held}
use Rattle.tails.specs.Windows.Laws.{SlidIsMeant}
use Rattle.tails.proofs.OfWindows.Back.{IsBack, IsBackOf, back}
use Rattle.tails.proofs.OfWindows.Turns.{any_found, within_places, next_value, rises, still_lies}

all_in : {A : Type 0} (test : A → Bool) (xs : List A) → list_all test xs ≡ true → (x : A) → In x xs → test x ≡ true
all_in test [] h x m = absurd m
all_in test (y ∷ ys) h x (inl e) = ap test e ∙ (and_parts (test y) (list_all test ys) h).0
all_in test (y ∷ ys) h x (inr m) = all_in test ys (and_parts (test y) (list_all test ys) h).1 x m

some_same : {A : Type 0} (x y : A) → Some x ≡ Some y → x ≡ y
some_same x y e = cc e

-- what holds in one dimension and in all others holds in each
either_asked : (v w : Bool) → (not (not v) || w) ≡ true → (not v || w) ≡ true → w ≡ true
either_asked true w h k = k
either_asked false w h k = h

-- a test of what an option holds
holds_some : {A : Type 0} (test : A → Bool) (o : Option A) → option_map_or test o false ≡ true → (x : A) × (o ≡ Some x) × (test x ≡ true)
holds_some test None h = absurd (cc h)
holds_some test (Some x) h = (x, refl, h)

-- ---- one nest

module _ (given : Given) (rules : Rules) (suited : Suited given rules) (bs : List Binder) (s : Symbols) (r : Respects bs s) (claim : Claim) (places : List Places) where
  abbrev S : Setting
  S = given.outline.setting

  abbrev b : ℕ
  b = claim.buffer

  ordered : (x y : Form) → rules.at_most bs x y ≡ true → form_value x s ≤ℤ form_value y s
  ordered x y k = suited.ordered bs x y s k r

  -- what lies together in a folded dimension is near
  axis_near : (steps : List Step) (t : Symbols) → Keeps (along steps) s t → Respects (along steps ++ bs) t → (x : Span1) (f : Form) (n : ℕ) → are_together rules bs steps x f n ≡ true → (z : ℤ) →
      Lies s x z → (z <ℤ (form_value f t +ℤ pos n)) × (form_value f t <ℤ (z +ℤ pos n))
  axis_near steps t k within x f n h z lie =
      let l = any_found _ x.lower h in
      let m = and_parts (is_outer (along steps) l.0) (is_seated rules bs x (From l.0 n) && is_seated rules (along steps ++ bs) (exactly f) (From l.0 n)) l.1 in
      let g = and_parts (is_seated rules bs x (From l.0 n)) (is_seated rules (along steps ++ bs) (exactly f) (From l.0 n)) m.1 in
      let mine = within_places rules bs s ordered x l.0 n z g.0 lie in
      let its = within_places rules (along steps ++ bs) t (λ x y e. suited.ordered (along steps ++ bs) x y t e within) (exactly f) l.0 n (form_value f t) g.1
      ((omega (arith, ints), tt), (omega (arith, ints), tt)) in
      let same = outer_value (along steps) s t k l.0 m.0 in
      let a1 = mine.0 in
      let a2 = mine.1 in
      let b1 = its.0 in
      let b2 = its.1 in
      (omega (arith, ints, a2, b1, same), omega (arith, ints, a1, b2, same))

  all_near : (d : Option ℕ) (steps : List Step) (t : Symbols) → Keeps (along steps) s t → Respects (along steps ++ bs) t → (xs : List Span1) (fs : List Form) (ps : List Places) →
      hold rules bs false d steps xs fs ps ≡ true → hold rules bs true d steps xs fs ps ≡ true → (p : List ℤ) → LieIn s xs p → Near (map (room s) ps) p (point_at fs t)
  all_near d steps t k within [] [] [] h o p lie = tt
  all_near d steps t k within [] [] (a ∷ ps) h o p lie = absurd (cc h)
  all_near d steps t k within [] (f ∷ fs) ps h o p lie = absurd (cc h)
  all_near d steps t k within (x ∷ xs) [] ps h o p lie = absurd (cc h)
  all_near d steps t k within (x ∷ xs) (f ∷ fs) [] h o p lie = absurd (cc h)
  all_near d steps t k within (x ∷ xs) (f ∷ fs) (a ∷ ps) h o [] lie = absurd lie
  all_near d steps t k within (x ∷ xs) (f ∷ fs) (From l n ∷ ps) h o (z ∷ zs) lie =
      all_near (one_less d) steps t k within xs fs ps (and_parts _ (hold rules bs false (one_less d) steps xs fs ps) h).1 (and_parts _ (hold rules bs true (one_less d) steps xs fs ps) o).1 zs lie.1
  all_near d steps t k within (x ∷ xs) (f ∷ fs) (Folded n ∷ ps) h o (z ∷ zs) lie =
      let h1 = and_parts _ (hold rules bs false (one_less d) steps xs fs ps) h in
      let o1 = and_parts _ (hold rules bs true (one_less d) steps xs fs ps) o in
      let near = axis_near steps t k within x f n (either_asked (is_here d) (are_together rules bs steps x f n) h1.0 o1.0) z lie.0 in
      (near.0, near.1, all_near (one_less d) steps t k within xs fs ps h1.1 o1.1 zs lie.1)

  -- what a nest does that stores at these points, where the region's dimensions stay
  pub record IsArm (n : Stored) (todo : List Action) : Type 0 where
    pub pure : claim.definition ≡ 0
    pub fills : Fills b claim.function todo
    pub reaches : (xs : List Span1) → covers rules bs n.steps n.forms xs ≡ true → (p : List ℤ) → LieIn s xs p → In p (written b todo)
    pub seated : (q : List ℤ) → In q (written b todo) → IsSome (place (map (room s) places) q)
    pub near : (p q : List ℤ) → LieIn s claim.region p → In q (written b todo) → Near (map (room s) places) p q

  spine_arm : (d : ℕ) (n : Spine) (fs : List Form) (todo : Symbols → List Action) → IsWay S b claim.function n todo → IsBack S b n todo → IsPureStore S claim n.line fs →
      others_stay rules bs claim.region places d (record { steps = n.steps; forms = fs }) ≡ true → one_stays rules bs claim.region places d (Some (record { steps = n.steps; forms = fs })) ≡ true →
      IsArm (record { steps = n.steps; forms = fs }) (todo s)
  spine_arm d n fs todo w v pure others one = record {
    pure = pure.pure;
    fills = w.fills line.fills s;
    reaches = λ xs m p lie. w.writes fs line.writes s p (covers_is_visited rules bs n.steps fs xs s p ordered r m lie);
    seated = λ q m.
        let t = met q m in
        subst (λ p. IsSome (place (map (room s) places) p)) t.3 (turn_seats given rules suited bs s r true places st h1.0 t.0 t.1 t.2);
    near = λ p q lie m.
        let t = met q m in
        subst (Near (map (room s) places) p) t.3 (all_near (Some d) n.steps t.0 t.1 t.2 claim.region fs places h2.1 one p lie);
  }
    where
      st : Stored
      st = record { steps = n.steps; forms = fs }

      line : IsStoring S claim n.line fs
      line = line_stores S claim n.line fs w.own pure

      h1 : (has_places true rules bs st places ≡ true) × ((is_scoped (map binder n.steps) && hold rules bs false (Some d) n.steps claim.region fs places) ≡ true)
      h1 = and_parts (has_places true rules bs st places) (is_scoped (map binder n.steps) && hold rules bs false (Some d) n.steps claim.region fs places) others

      h2 : (is_scoped (map binder n.steps) ≡ true) × (hold rules bs false (Some d) n.steps claim.region fs places ≡ true)
      h2 = and_parts (is_scoped (map binder n.steps)) (hold rules bs false (Some d) n.steps claim.region fs places) h1.1

      met : (q : List ℤ) → In q (written b (todo s)) → (t : Symbols) × Keeps (along n.steps) s t × Respects (along n.steps ++ bs) t × (point_at fs t ≡ q)
      met q m =
          let k = walked n.steps fs s q h2.0 (v fs line.alone s q m) in
          let keeps : Keeps (along n.steps) s k.0 = λ i lacks. k.2 i (any_forward (binds i) (map binder n.steps) lacks) in
          (k.0, keeps, turn_respects given rules suited bs s r true places st h1.0 k.0 keeps (respects_back (map binder n.steps) k.0 k.1), k.3)

  arm_does : (d : ℕ) (o : Option Spine) (todo : Symbols → List Action) → IsWayOf S b claim.function o todo → IsBackOf S b o todo → (st : Stored) → stored_by S claim o ≡ Some st →
      others_stay rules bs claim.region places d st ≡ true → one_stays rules bs claim.region places d (Some st) ≡ true → IsArm st (todo s)
  arm_does d None todo w v st e others one = absurd (cc e)
  arm_does d (Some n) todo w v st e others one = of (forms_at S claim n.line) refl e
    where
      of : (fs : Option (List Form)) → forms_at S claim n.line ≡ fs → option_map (λ gs. record { steps = n.steps; forms = gs }) fs ≡ Some st → IsArm st (todo s)
      of None k f = absurd (cc f)
      of (Some fs) k f =
          let same : record { steps = n.steps; forms = fs } ≡ st = some_same _ st f in
          subst (λ x. IsArm x (todo s)) same
          (spine_arm d n fs todo w v (line_pure S claim n.line fs k) (subst (λ x. others_stay rules bs claim.region places d x ≡ true) (sym same) others)
          (subst (λ x. one_stays rules bs claim.region places d (Some x) ≡ true) (sym same) one))

  -- ---- the turn before

  module _ (i : ℕ) (before : Symbols) (turn : IsTurnBefore i (inside i bs) before s) where
    -- each upper form was at least the number, or some was below it
    uppers : (z : ℤ) (us : List Form) → AllByRecursion (λ u. z ≤ℤ form_value u before) us ⊎ ((u : Form) × In u us × (form_value u before <ℤ z))
    uppers z [] = inl tt
    uppers z (u ∷ us) =
        by_lt_z (form_value u before) z
        (λ under. inr (u, inl refl, under))
        (λ reached. elim (uppers z us) [ inl all ↦ inl (reached, all) | inr some ↦ inr (some.0, inr some.1, some.2) ])

    order : before.value i ≤ℤ s.value i
    order = let e = turn.next in omega (arith, ints, e)

    lowers : (z : ℤ) (ls : List Form) → list_all (is_rising_form i (inside i bs)) ls ≡ true → AllByRecursion (λ l. form_value l s ≤ℤ z) ls → AllByRecursion (λ l. form_value l before ≤ℤ z) ls
    lowers z [] h a = tt
    lowers z (l ∷ ls) h a =
        let k = and_parts (is_rising_form i (inside i bs) l) (list_all (is_rising_form i (inside i bs)) ls) h in
        let up = rises i (inside i bs) before s turn.same l k.0 order in
        let here = a.0 in
        (omega (arith, ints, up, here), lowers z ls k.1 a.1)

    -- the row above where a form was is no more than what lies above that
    above_before : (u f : Form) (z : ℤ) → is_rising_form i (inside i bs) u ≡ true → form_value u before <ℤ z → row_above i u ≡ Some f → form_value f s ≤ℤ z
    above_before u f z h under e =
        let moving = and_parts (int_le (pos 0) (factor_of u.terms i)) (is_outer (inside i bs) u) h in
        let up = next_value i (inside i bs) before s turn.same u moving.1 turn.next in
        let made = made_value u (number (pos 1 -ℤ factor_of u.terms i)) f (pos 1) s.value e in
        omega (arith, ints, up, under, made)

    -- a row was needed in the turn before, or lies above where some upper form then was
    rows_before : (x : Span1) (z : ℤ) → is_rising i (inside i bs) x ≡ true → Lies s x z →
        Lies before x z ⊎ ((u : Form) × In u x.upper × ((f : Form) → row_above i u ≡ Some f → Lies s (rows_from x f) z))
    rows_before x z h lie =
        let a = and_parts (has_ends x) (list_all (is_rising_form i (inside i bs)) x.lower && list_all (is_rising_form i (inside i bs)) x.upper) h in
        let k = and_parts (list_all (is_rising_form i (inside i bs)) x.lower) (list_all (is_rising_form i (inside i bs)) x.upper) a.1 in
        elim (uppers z x.upper) [
          | inl all ↦ inl (lowers z x.lower k.0 lie.0, all)
          | inr some ↦ inr (
            some.0,
            some.1,
            λ f e.
                (all_both (λ l. form_value l s ≤ℤ z) x.lower (f ∷ []) lie.0 (above_before some.0 f z (all_in (is_rising_form i (inside i bs)) x.upper k.1 some.0 some.1) some.2 e, tt), lie.1),
          )
        ]

    all_before : (xs : List Span1) (p : List ℤ) → list_all (is_still i (inside i bs)) xs ≡ true → LieIn s xs p → LieIn before xs p
    all_before [] [] h lie = tt
    all_before [] (z ∷ zs) h lie = absurd lie
    all_before (x ∷ xs) [] h lie = absurd lie
    all_before (x ∷ xs) (z ∷ zs) h lie =
        let k = and_parts (is_still i (inside i bs) x) (list_all (is_still i (inside i bs)) xs) h in
        (still_lies i (inside i bs) before s turn.same x z k.0 lie.0, all_before xs zs k.1 lie.1)

    -- a point lies in the rows above where some upper form of the dimension was
    pub record IsNew (d : ℕ) (xs : List Span1) (p : List ℤ) : Type 0 where
      pub span : Span1
      pub at : slice_get xs d ≡ Some span
      pub last : Form
      pub member : In last span.upper
      pub lies : (f : Form) → row_above i last ≡ Some f → LieIn s (region_with d xs (rows_from span f)) p

    -- it was needed in the turn before, or is one of new rows
    region_before : (w : Window) → w.symbol ≡ i → (d : ℕ) (xs : List Span1) (ps : List Places) → is_along rules bs w d xs ps ≡ true → (p : List ℤ) → LieIn s xs p →
        LieIn before xs p ⊎ IsNew d xs p
    region_before w e zero [] ps h p lie = absurd (cc h)
    region_before w e zero (x ∷ xs) [] h p lie = absurd (cc h)
    region_before w e (suc d) [] ps h p lie = absurd (cc h)
    region_before w e (suc d) (x ∷ xs) [] h p lie = absurd (cc h)
    region_before w e zero (x ∷ xs) (a ∷ ps) h [] lie = absurd lie
    region_before w e (suc d) (x ∷ xs) (a ∷ ps) h [] lie = absurd lie
    region_before w e zero (x ∷ xs) (a ∷ ps) h (z ∷ zs) lie =
        let k = and_parts (is_axis rules bs w x a) (list_all (is_still w.symbol (inside w.symbol bs)) xs) h in
        let m = and_parts _ (is_window rules bs w.symbol w.fold x && is_fold_of w.fold a) k.0 in
        let window = and_parts (is_window rules bs w.symbol w.fold x) (is_fold_of w.fold a) m.1 in
        let rising = (and_parts (is_rising w.symbol (inside w.symbol bs) x) _ window.0).0 in
        let rising' : is_rising i (inside i bs) x ≡ true = subst (λ j. is_rising j (inside j bs) x ≡ true) e rising in
        let still' : list_all (is_still i (inside i bs)) xs ≡ true = subst (λ j. list_all (is_still j (inside j bs)) xs ≡ true) e k.1 in
        elim (rows_before x z rising' lie.0) [
          | inl old ↦ inl (old, all_before xs zs still' lie.1)
          | inr new ↦ inr (record { span = x; at = refl; last = new.0; member = new.1; lies = λ f is. (new.2 f is, lie.1) })
        ]
    region_before w e (suc d) (x ∷ xs) (a ∷ ps) h (z ∷ zs) lie =
        let k = and_parts (is_still w.symbol (inside w.symbol bs) x) (is_along rules bs w d xs ps) h in
        let still : is_still i (inside i bs) x ≡ true = subst (λ j. is_still j (inside j bs) x ≡ true) e k.0 in
        elim (region_before w e d xs ps k.1 zs lie.1) [
          | inl old ↦ inl (still_lies i (inside i bs) before s turn.same x z still lie.0, old)
          | inr new ↦ inr (record { span = new.span; at = new.at; last = new.last; member = new.member; lies = λ f is. (lie.0, new.lies f is) })
        ]

    -- and a nest that reaches the new rows writes it
    new_written : (d : ℕ) (n : Stored) (todo : List Action) → IsArm n todo → reaches_new rules bs claim.region i d n ≡ true → (p : List ℤ) → IsNew d claim.region p → In p (written b todo)
    new_written d n todo arm h p new =
        let here = holds_some (λ (x : Span1). list_all (reaches_above rules bs claim.region i d x n) x.upper) (slice_get claim.region d) h in
        let same : here.0 ≡ new.span = some_same here.0 new.span (sym here.1 ∙ new.at) in
        let each : list_all (reaches_above rules bs claim.region i d new.span n) new.span.upper ≡ true =
        subst (λ (x : Span1). list_all (reaches_above rules bs claim.region i d x n) x.upper ≡ true) same here.2 in
        let one = all_in (reaches_above rules bs claim.region i d new.span n) new.span.upper each new.last new.member in
        let found = holds_some (λ f. covers rules bs n.steps n.forms (region_with d claim.region (rows_from new.span f))) (row_above i new.last) one in
        arm.reaches (region_with d claim.region (rows_from new.span found.0)) found.2 p (new.lies found.0 found.1)

-- ---- whatever the turn is

module _ (given : Given) (rules : Rules) (suited : Suited given rules) (none : (f : List ℕ) → given.steps f 0 ≡ 0) (bs : List Binder) (c : ℕ) (places : List Places) (s : Symbols)
    (r : Respects bs s) where
  abbrev K : Claim
  K = given.outline.claim c

  abbrev G : Setting
  G = given.outline.setting

  abbrev ArmOf : Stored → List Action → Type 0
  ArmOf n todo = IsArm given rules suited bs s r K places n todo

  -- what a nest does to points that it writes, and to others
  makes_point : (n : Stored) (todo : List Action) → ArmOf n todo → (st : Option ℕ) (p : List ℤ) → In p (written K.buffer todo) →
      status_after given K.buffer p todo st ≡ Some (given.steps K.function K.definition)
  makes_point n todo arm st p m = fills_make given K.buffer K.function p todo st arm.fills m ∙ ap Some (sym (ap (given.steps K.function) arm.pure ∙ none K.function))

  keeps_old : (n : Stored) (todo : List Action) → ArmOf n todo → (p : List ℤ) →
      status_after given K.buffer p todo (Some (given.steps K.function K.definition)) ≡ Some (given.steps K.function K.definition)
  keeps_old n todo arm p =
      let pure : given.steps K.function K.definition ≡ 0 = ap (given.steps K.function) arm.pure ∙ none K.function in
      ap (λ n. status_after given K.buffer p todo (Some n)) pure ∙ fills_stay given K.buffer K.function p todo arm.fills ∙ ap Some (sym pure)

  is_clear : (n : Stored) (todo : List Action) → ArmOf n todo → (p : List ℤ) → InRegion s K.region p → ClearOf (Some (map (room s) places)) p (written K.buffer todo)
  is_clear n todo arm p m x k e = near_apart (map (room s) places) p x (arm.near p x (region_lies s K.region p m) k) (subst IsSome (sym e) (arm.seated x k)) e

  -- the first turn's nest
  pub record IsFirst (d : ℕ) (todo : List Action) : Type 0 where
    pub stored : Stored
    pub does : ArmOf stored todo
    pub all : covers rules bs stored.steps stored.forms K.region ≡ true

  first_arm : (d : ℕ) (a : Statement) (o : Option Stored) → arm G K a ≡ o → makes_all rules bs K.region places d o ≡ true → one_stays rules bs K.region places d o ≡ true → IsFirst d (actions G a s)
  first_arm d a None e h one = absurd (cc h)
  first_arm d a (Some n) e h one =
      let k = and_parts (others_stay rules bs K.region places d n) (covers rules bs n.steps n.forms K.region) h in
      record {
        stored = n;
        does = arm_does given rules suited bs s r K places d (spine_of a K.buffer) (actions G a) (way G K.buffer K.function a) (back G K.buffer a) n e k.0 one;
        all = k.1;
      }

  -- a nest that makes the region with no window
  pub folded_meant : (a : Statement) → makes_folded rules bs K places (arm G K a) ≡ true → MeantAt given (Made c None places a) s
  folded_meant a h =
      let k = and_parts (makes_all rules bs K.region places 0 (arm G K a)) (one_stays rules bs K.region places 0 (arm G K a)) h in
      let n = first_arm 0 a (arm G K a) refl k.0 k.1 in
      λ p m. (makes_point n.stored (actions G a s) n.does None p (n.does.reaches K.region n.all p (region_lies s K.region p m)), is_clear n.stored (actions G a s) n.does p m)

  -- a later one's
  pub record IsLater (i d : ℕ) (todo : List Action) : Type 0 where
    pub stored : Stored
    pub does : ArmOf stored todo
    pub new : reaches_new rules bs K.region i d stored ≡ true

  later_arm : (i d : ℕ) (a : Statement) (o : Option Stored) → arm G K a ≡ o → makes_new rules bs K.region places i d o ≡ true →
      one_stays rules bs K.region places d o ≡ true → IsLater i d (actions G a s)
  later_arm i d a None e h one = absurd (cc h)
  later_arm i d a (Some n) e h one =
      let k = and_parts (others_stay rules bs K.region places d n) (reaches_new rules bs K.region i d n) h in
      record {
        stored = n;
        does = arm_does given rules suited bs s r K places d (spine_of a K.buffer) (actions G a) (way G K.buffer K.function a) (back G K.buffer a) n e k.0 one;
        new = k.1;
      }

  module _ (w : Window) (xs ys : List Action) (first : IsFirst w.dimension xs) (later : IsLater w.symbol w.dimension ys)
      (along' : is_along rules bs w w.dimension K.region places ≡ true) where
    abbrev todo : Bool → List Action
    todo v = if v then xs else ys

    abbrev IsLeft : Bool → Option ℕ → List ℤ → Type 0
    IsLeft v st p = status_after given K.buffer p (todo v) st ≡ Some (given.steps K.function K.definition)

    slides_first : (v : Bool) → v ≡ true → (p : List ℤ) → InRegion s K.region p → IsLeft v None p
    slides_first true e p m = makes_point first.stored xs first.does None p (first.does.reaches K.region first.all p (region_lies s K.region p m))
    slides_first false e p m = absurd (cc e)

    slides_later : (v : Bool) (before : Symbols) → IsTurnBefore w.symbol (inside w.symbol bs) before s → (p : List ℤ) → InRegion s K.region p →
        IsLeft v None p ⊎ (InRegion before K.region p × IsLeft v (Some (given.steps K.function K.definition)) p)
    slides_later true before turn p m = inl (makes_point first.stored xs first.does None p (first.does.reaches K.region first.all p (region_lies s K.region p m)))
    slides_later false before turn p m =
        elim (region_before given rules suited bs s r K places w.symbol before turn w refl w.dimension K.region places along' p (region_lies s K.region p m)) [
          | inl old ↦ inr (lies_region before K.region p old, keeps_old later.stored ys later.does p)
          | inr new ↦ inl (makes_point later.stored ys later.does None p
              (new_written given rules suited bs s r K places w.symbol before turn w.dimension later.stored ys later.does later.new p new))
        ]

    slides_clear : (v : Bool) (p : List ℤ) → InRegion s K.region p → ClearOf (Some (map (room s) places)) p (written K.buffer (todo v))
    slides_clear true p m = is_clear first.stored xs first.does p m
    slides_clear false p m = is_clear later.stored ys later.does p m

  first_slides : (w : Window) (j : ℕ) (a e : Statement) → is_slid G rules bs K places w (First j a e) ≡ true → is_held G rules bs K places w (First j a e) ≡ true →
      IsSliding given w.symbol (inside w.symbol bs) c places (First j a e) s
  first_slides w j a e h k =
      let A = arm G K a in
      let E = arm G K e in
      let h1 = and_parts (j == w.symbol) (makes_all rules bs K.region places w.dimension A && makes_new rules bs K.region places w.symbol w.dimension E) h in
      let h2 = and_parts (makes_all rules bs K.region places w.dimension A) (makes_new rules bs K.region places w.symbol w.dimension E) h1.1 in
      let k1 = and_parts (is_window rules bs w.symbol w.fold w.span) _ k in
      let k2 = and_parts (is_along rules bs w w.dimension K.region places) (arms_stay G rules bs K places w.dimension (First j a e)) k1.1 in
      let k3 = and_parts (one_stays rules bs K.region places w.dimension A) (one_stays rules bs K.region places w.dimension E) k2.1 in
      let first = first_arm w.dimension a A refl h2.0 k3.0 in
      let later = later_arm w.symbol w.dimension e E refl h2.1 k3.1 in
      let same : j ≡ w.symbol = eq_true j w.symbol h1.0 in
      record {
        first = λ f p m. slides_first w (actions G a s) (actions G e s) first later k2.0 (s.first j) (ap s.first same ∙ f) p m;
        later = λ before turn p m. slides_later w (actions G a s) (actions G e s) first later k2.0 (s.first j) before turn p m;
        clear = λ p m. slides_clear w (actions G a s) (actions G e s) first later k2.0 (s.first j) p m;
      }

pub slid_is_meant : SlidIsMeant
slid_is_meant given rules bs c w places (First j a e) s suited none h k r = first_slides given rules suited none bs c places s r w j a e h k
slid_is_meant given rules bs c w places (Seq all) s suited none h k r = absurd (cc h)
slid_is_meant given rules bs c w places (For i x kind body) s suited none h k r = absurd (cc h)
slid_is_meant given rules bs c w places (Let i pick ls) s suited none h k r = absurd (cc h)
slid_is_meant given rules bs c w places (Guard low high body) s suited none h k r = absurd (cc h)
slid_is_meant given rules bs c w places (Alloc b f ps) s suited none h k r = absurd (cc h)
slid_is_meant given rules bs c w places (Fetch b g region) s suited none h k r = absurd (cc h)
slid_is_meant given rules bs c w places (Store b n at e) s suited none h k r = absurd (cc h)
slid_is_meant given rules bs c w places (Publish n) s suited none h k r = absurd (cc h)
