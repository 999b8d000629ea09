-- No point is met by different turns.
use Rattle.std.proofs.Common.{◌≡◌, ℕ, zero, suc, Bool, true, false, List, [], ◌∷◌, map, length, Option, Some, None, refl, sym, ap, ◌∙◌, subst, inl, inr, arith}
use Rattle.std.specs.Prelude.{ℤ, ◌==◌, ◌||◌, ◌&&◌, ◌⊎◌, not, if◌then◌else◌, fold, option_and_then}
use Rattle.std.specs.Int.{int_min, int_max}
use Rattle.std.specs.List.{list_any}
use Rattle.std.specs.Option.{option_map}
use Rattle.std.proofs.lemmas.Int.{ints}
use Rattle.lin.specs.Forms.{Form, value_of}
use Rattle.lin.specs.Search.{is_empty}
use Rattle.lin.specs.declared.span.Span1.{Span1}
use Rattle.plan.specs.declared.stmt.Pick.{Pick}
use Rattle.plan.specs.declared.stmt.Pick.TheVariants.{Min, Max}
use Rattle.plan.specs.Symbols.{Symbols, bind}
use Rattle.plan.specs.Semantics.Setting.{or_else}
use Rattle.soundness.specs.Obligations.{Binder, Ranged, Picked, Passed, Respects, LieIn, exactly, form_has, span_has, binder_has, picked}
use Rattle.soundness.specs.Nests.Tests.{has_ends}
use Rattle.soundness.proofs.Forms.{respects_on, picked_same, is_not}
use Rattle.soundness.proofs.Refines.{and_parts, eq_true}
use Rattle.soundness.proofs.Sound.{or_left}
use Rattle.tails.specs.Steps.{binder, along, binds, Keeps}
use Rattle.tails.specs.Moves.{Choice, choices, is_loose, paired, State, is_free_loop, best, taken, after_loop, by_loop, is_alone, opened, without_let, is_free_let, after_idle, by_idle, after_let, by_let, after_guard, by_guard, next, ended, run, spans_over}
use Rattle.tails.specs.Maps.{is_scoped, is_some}
use Rattle.tails.specs.Laws.{point_at, EachIsOnce}
use Rattle.tails.proofs.Chosen.{and_then_parts, map_parts, if_parts, some_same, or_else_parts, first_some_parts, idle_is_let, Split, split_of, ready_parts, best_parts}
use Rattle.tails.proofs.Values.{Beside, bind_beside, bind_here}
use Rattle.tails.proofs.Lets.{one_picked, opened_on, opened_beside}
use Rattle.tails.proofs.Loops.{turns_within, turns_free, turns_fixed, lie_beside}
use Rattle.tails.proofs.Reaching.{none_left}
use Rattle.tails.proofs.Pairs.{paired_alike}

pub exact_point : (t : Symbols) (fs : List Form) → LieIn t (map exactly fs) (point_at fs t)
exact_point t [] = tt
exact_point t (f ∷ fs) = (((omega (arith, ints), tt), (omega (arith, ints), tt)), exact_point t fs)

some_then : {A : Type 0} (o : Option A) → is_some o ≡ true → (a : A) × (o ≡ Some a)
some_then None h = absurd (cc h)
some_then (Some a) h = (a, refl)

-- the number that is picked is told by the symbols' values
picked_by : (s u : Symbols) → ((j : ℕ) → u.value j ≡ s.value j) → (pick : Pick) (ls : List Form) → picked pick ls u ≡ picked pick ls s
picked_by s u same Min [] = refl
picked_by s u same Max [] = refl
picked_by s u same Min (l ∷ ls) = λ k. fold int_min (value_of l (λ j. same j k)) (map (λ m. value_of m (λ j. same j k)) ls)
picked_by s u same Max (l ∷ ls) = λ k. fold int_max (value_of l (λ j. same j k)) (map (λ m. value_of m (λ j. same j k)) ls)

module _ (shows : Form → Form → Bool) (p : List ℤ) where
  -- two that meet the point, and are the same but for symbols of the steps, are the same
  abbrev Fixed : List Binder → List Span1 → Type 0
  Fixed bs ys = (s t : Symbols) → Respects bs s → Respects bs t → LieIn s ys p → LieIn t ys p → Keeps bs s t → (j : ℕ) → t.value j ≡ s.value j

  by_state : (cs : List Binder) (zs : List Span1) (later : State) → record { steps = cs; spans = zs } ≡ later → Fixed later.steps later.spans → Fixed cs zs
  by_state cs zs later e fixed = subst (λ (st : State). Fixed st.steps st.spans) (sym e) fixed

  -- the second with the first's number in the place of one symbol's
  moved : (one : Binder) (others bs : List Binder) (i : ℕ) (s t : Symbols) → Split one others bs → ((j : ℕ) → (j == i) ≡ false → binds j one ≡ false) → Keeps bs s t → Keeps others s (bind t i (s.value i) true)
  moved one others bs i s t sp only k j h = of (j == i) refl
    where
      of : (v : Bool) → (j == i) ≡ v → (bind t i (s.value i) true).value j ≡ s.value j
      of true e = ap (bind t i (s.value i) true).value (eq_true j i e) ∙ bind_here t i (s.value i) true ∙ ap s.value (sym (eq_true j i e))
      of false e =
          bind_beside t i (s.value i) true j e
          ∙ k j (sp.any (binds j) ∙ ap (λ v. v || list_any (binds j) others) (only j e) ∙ h)

  -- from the second so changed back to the second
  beside_of : (i : ℕ) (s t : Symbols) → ((j : ℕ) → (bind t i (s.value i) true).value j ≡ s.value j) → Beside i s t
  beside_of i s t h j e = sym (bind_beside t i (s.value i) true j e) ∙ h j

  all_same : (i : ℕ) (s t : Symbols) → Beside i s t → t.value i ≡ s.value i → (j : ℕ) → t.value j ≡ s.value j
  all_same i s t b here j = of (j == i) refl
    where
      of : (v : Bool) → (j == i) ≡ v → t.value j ≡ s.value j
      of true e = ap t.value (eq_true j i e) ∙ here ∙ ap s.value (sym (eq_true j i e))
      of false e = b j e

  loop_fixed : (bs : List Binder) (ys zs : List Span1) (i : ℕ) (x : Span1) (others : List Binder) → Split (Ranged i x) others bs → is_free_loop i x others ≡ true → taken true shows i x ys ≡ Some zs → Fixed others zs → Fixed bs ys
  loop_fixed bs ys zs i x others sp free e fixed s t rs rt ls lt k =
      let f = and_parts (is_loose i others) (not (span_has i x) && has_ends x) free in
      let g = and_parts (not (span_has i x)) (has_ends x) f.1 in
      let lacks : span_has i x ≡ false = is_not (span_has i x) g.0 in
      let loose : list_any (binder_has i) others ≡ false = is_not (list_any (binder_has i) others) f.0 in
      let u = bind t i (s.value i) true in
      let s_in = turns_within shows i x s (sp.left s rs).0 ys zs p e ls in
      let t_in = turns_within shows i x t (sp.left t rt).0 ys zs p e lt in
      let u_in = turns_free shows i x t u (bind_beside t i (s.value i) true) lacks ys zs p e t_in in
      let same = fixed s u (sp.right s rs) (respects_on t i (s.value i) true others loose (sp.right t rt)) s_in u_in (moved (Ranged i x) others bs i s t sp (λ j h. h) k) in
      let b = beside_of i s t same in
      all_same i s t b (turns_fixed shows i x s t b ys zs p e ls lt)

  let_fixed : (bs : List Binder) (ys : List Span1) (i : ℕ) (pick : Pick) (ls : List Form) (others : List Binder) → Split (Picked i pick ls) others bs → is_free_let true shows i ls others ≡ true → list_any (span_has i) ys ≡ false → Fixed others ys → Fixed bs ys
  let_fixed bs ys i pick ls others sp free lacks fixed s t rs rt l1 l2 k =
      let f = and_parts (is_loose i others) (not (list_any (form_has i) ls) && not (is_empty ls)) free in
      let g = and_parts (not (list_any (form_has i) ls)) (not (is_empty ls)) f.1 in
      let own : list_any (form_has i) ls ≡ false = is_not (list_any (form_has i) ls) g.0 in
      let loose : list_any (binder_has i) others ≡ false = is_not (list_any (binder_has i) others) f.0 in
      let u = bind t i (s.value i) true in
      let u_in = lie_beside i t u (bind_beside t i (s.value i) true) ys p lacks l2 in
      let same = fixed s u (sp.right s rs) (respects_on t i (s.value i) true others loose (sp.right t rt)) l1 u_in (moved (Picked i pick ls) others bs i s t sp (λ j h. h) k) in
      let b = beside_of i s t same in
      let u_pick = picked_same t i (s.value i) true pick ls own in
      all_same i s t b ((sp.left t rt).0 ∙ sym u_pick ∙ picked_by s u same pick ls ∙ sym (sp.left s rs).0)

  -- a let of one form may be opened: its number is told by the others'
  let_opened : (bs : List Binder) (ys zs : List Span1) (i : ℕ) (pick : Pick) (l : Form) (others : List Binder) → Split (Picked i pick (l ∷ [])) others bs → is_free_let true shows i (l ∷ []) others ≡ true →
      opened true shows i pick (l ∷ []) ys ≡ Some zs → Fixed others zs → Fixed bs ys
  let_opened bs ys zs i pick l others sp free e fixed s t rs rt l1 l2 k =
      let f = and_parts (is_loose i others) (not (list_any (form_has i) (l ∷ [])) && not (is_empty (l ∷ []))) free in
      let g = and_parts (not (list_any (form_has i) (l ∷ []))) (not (is_empty (l ∷ []))) f.1 in
      let own : list_any (form_has i) (l ∷ []) ≡ false = is_not (list_any (form_has i) (l ∷ [])) g.0 in
      let lacks : form_has i l ≡ false = or_left (form_has i l) false own in
      let loose : list_any (binder_has i) others ≡ false = is_not (list_any (binder_has i) others) f.0 in
      let u = bind t i (s.value i) true in
      let s_in = opened_on true shows i s pick l ((sp.left s rs).0 ∙ one_picked pick l s) ys zs p e l1 in
      let t_in = opened_on true shows i t pick l ((sp.left t rt).0 ∙ one_picked pick l t) ys zs p e l2 in
      let u_in = opened_beside true shows i t u (bind_beside t i (s.value i) true) pick l lacks ys zs p e t_in in
      let same = fixed s u (sp.right s rs) (respects_on t i (s.value i) true others loose (sp.right t rt)) s_in u_in (moved (Picked i pick (l ∷ [])) others bs i s t sp (λ j h. h) k) in
      let b = beside_of i s t same in
      let u_pick = picked_same t i (s.value i) true pick (l ∷ []) own in
      all_same i s t b ((sp.left t rt).0 ∙ sym u_pick ∙ picked_by s u same pick (l ∷ []) ∙ sym (sp.left s rs).0)

  guard_fixed : (bs : List Binder) (ys : List Span1) (low high : Form) (others : List Binder) → Split (Passed low high) others bs → Fixed others ys → Fixed bs ys
  guard_fixed bs ys low high others sp fixed s t rs rt l1 l2 k = fixed s t (sp.right s rs) (sp.right t rt) l1 l2 (λ j h. k j (sp.any (binds j) ∙ h))

  after_let_fixed : (bs : List Binder) (ys : List Span1) (one : Binder) (others : List Binder) (later : State) → Split one others bs → after_let true shows ys one others ≡ Some later → Fixed later.steps later.spans → Fixed bs ys
  after_let_fixed bs ys (Ranged i x) others later sp e fixed = absurd (cc e)
  after_let_fixed bs ys (Passed low high) others later sp e fixed = absurd (cc e)
  after_let_fixed bs ys (Picked i pick ls) others later sp e fixed =
      let a = if_parts (is_free_let true shows i ls others) (option_map (λ zs. record { steps = others; spans = zs }) (without_let true shows i pick ls ys)) later e in
      let m = map_parts (λ zs. record { steps = others; spans = zs }) (without_let true shows i pick ls ys) later a.1 in
      of m.0 (list_any (span_has i) ys) refl m.1 a.0 (by_state others m.0 later m.2 fixed)
    where
      open_one : (ls : List Form) (zs : List Span1) → Split (Picked i pick ls) others bs → (if true && not (is_alone ls) then None else opened true shows i pick ls ys) ≡ Some zs → is_free_let true shows i ls others ≡ true → Fixed others zs → Fixed bs ys
      open_one [] zs sp e free fixed = absurd (cc e)
      open_one (l ∷ []) zs sp e free fixed = let_opened bs ys zs i pick l others sp free e fixed
      open_one (l ∷ m ∷ ls) zs sp e free fixed = absurd (cc e)

      of : (zs : List Span1) (v : Bool) → list_any (span_has i) ys ≡ v → (if v then (if true && not (is_alone ls) then None else opened true shows i pick ls ys) else Some ys) ≡ Some zs → is_free_let true shows i ls others ≡ true → Fixed others zs → Fixed bs ys
      of zs true h e free fixed = open_one ls zs sp e free fixed
      of zs false h e free fixed = let_fixed bs ys i pick ls others sp free h (subst (Fixed others) (sym (some_same ys zs e)) fixed)

  after_guard_fixed : (bs : List Binder) (ys : List Span1) (one : Binder) (others : List Binder) (later : State) → Split one others bs → after_guard true shows ys one others ≡ Some later → Fixed later.steps later.spans → Fixed bs ys
  after_guard_fixed bs ys (Ranged i x) others later sp e fixed = absurd (cc e)
  after_guard_fixed bs ys (Picked i pick ls) others later sp e fixed = absurd (cc e)
  after_guard_fixed bs ys (Passed low high) others later sp e fixed =
      guard_fixed bs ys low high others sp (by_state others ys later (some_same (record { steps = others; spans = ys }) later e) fixed)

  by_loop_fixed : (st later : State) → by_loop true shows st ≡ Some later → Fixed later.steps later.spans → Fixed st.steps st.spans
  by_loop_fixed st later e fixed =
      let a = and_then_parts (after_loop true shows st.spans) (best st.spans (choices st.steps)) later e in
      let r = a.0 in
      let c = best_parts st.spans (choices st.steps) r a.1 in
      let is = ready_parts st.spans c.0.one c.0.others r c.2 in
      let m = map_parts (λ zs. record { steps = r.others; spans = zs }) (taken true shows r.symbol r.span st.spans) later a.2 in
      let sp : Split (Ranged r.symbol r.span) r.others st.steps =
      subst (λ (os : List Binder). Split (Ranged r.symbol r.span) os st.steps) is.beside (subst (λ (b : Binder). Split b c.0.others st.steps) is.is (split_of c.0 st.steps c.1)) in
      loop_fixed st.steps st.spans m.0 r.symbol r.span r.others sp is.free m.1 (by_state r.others m.0 later m.2 fixed)

  by_let_fixed : (st later : State) → by_let true shows st ≡ Some later → Fixed later.steps later.spans → Fixed st.steps st.spans
  by_let_fixed st later e fixed =
      let c = first_some_parts (λ (c : Choice). after_let true shows st.spans c.one c.others) (choices st.steps) later e in
      after_let_fixed st.steps st.spans c.0.one c.0.others later (split_of c.0 st.steps c.1) c.2 fixed

  by_guard_fixed : (st later : State) → by_guard true shows st ≡ Some later → Fixed later.steps later.spans → Fixed st.steps st.spans
  by_guard_fixed st later e fixed =
      let c = first_some_parts (λ (c : Choice). after_guard true shows st.spans c.one c.others) (choices st.steps) later e in
      after_guard_fixed st.steps st.spans c.0.one c.0.others later (split_of c.0 st.steps c.1) c.2 fixed

  by_idle_fixed : (st later : State) → by_idle st ≡ Some later → Fixed later.steps later.spans → Fixed st.steps st.spans
  by_idle_fixed st later e fixed =
      let c = first_some_parts (λ (c : Choice). after_idle st.spans c.one c.others) (choices st.steps) later e in
      after_let_fixed st.steps st.spans c.0.one c.0.others later (split_of c.0 st.steps c.1) (idle_is_let true shows st.spans c.0.one c.0.others later c.2) fixed

  next_fixed : (st later : State) → next true shows st ≡ Some later → Fixed later.steps later.spans → Fixed st.steps st.spans
  next_fixed st later e fixed = of (or_else_parts (by_guard true shows st) (or_else (by_idle st) (or_else (by_loop true shows st) (by_let true shows st))) later e)
    where
      last : (by_loop true shows st ≡ Some later) ⊎ (by_let true shows st ≡ Some later) → Fixed st.steps st.spans
      last (inl k) = by_loop_fixed st later k fixed
      last (inr k) = by_let_fixed st later k fixed

      on : (by_idle st ≡ Some later) ⊎ (or_else (by_loop true shows st) (by_let true shows st) ≡ Some later) → Fixed st.steps st.spans
      on (inl k) = by_idle_fixed st later k fixed
      on (inr k) = last (or_else_parts (by_loop true shows st) (by_let true shows st) later k)

      of : (by_guard true shows st ≡ Some later) ⊎ (or_else (by_idle st) (or_else (by_loop true shows st) (by_let true shows st)) ≡ Some later) → Fixed st.steps st.spans
      of (inl k) = by_guard_fixed st later k fixed
      of (inr k) = on (or_else_parts (by_idle st) (or_else (by_loop true shows st) (by_let true shows st)) later k)

  ended_fixed : (st : State) (onward : State → Option (List Span1)) (zs : List Span1) → ((later : State) → onward later ≡ Some zs → Fixed later.steps later.spans) → ended true shows st onward ≡ Some zs → Fixed st.steps st.spans
  ended_fixed st onward zs rest e = of (is_empty st.steps) refl e
    where
      of : (v : Bool) → is_empty st.steps ≡ v → (if v then Some st.spans else option_and_then onward (next true shows st)) ≡ Some zs → Fixed st.steps st.spans
      of true h e = subst (λ bs. Fixed bs st.spans) (sym (none_left st.steps h)) (λ s t rs rt ls lt k j. k j refl)
      of false h e = let a = and_then_parts onward (next true shows st) zs e in next_fixed st a.0 a.1 (rest a.0 a.2)

  run_fixed : (n : ℕ) (st : State) (zs : List Span1) → run true shows n st ≡ Some zs → Fixed st.steps st.spans
  run_fixed zero st zs e = ended_fixed st (λ later. None) zs (λ later k. absurd (cc k)) e
  run_fixed (suc n) st zs e = ended_fixed st (run true shows n) zs (λ later k. run_fixed n later zs k) e

pub each_is_once : EachIsOnce
each_is_once steps fs s t h rs rt keeps same =
    let bs = along steps in
    let shows : Form → Form → Bool = λ a b. false in
    let o = some_then (spans_over true shows (paired bs) fs) (and_parts (is_scoped (map binder steps)) (is_some (spans_over true shows (paired bs) fs)) h).1 in
    let alike = paired_alike bs in
    run_fixed shows (point_at fs s) (length (paired bs)) (record { steps = paired bs; spans = map exactly fs }) o.0 o.1 s t (alike.on s rs) (alike.on t rt) (exact_point s fs)
    (subst (LieIn t (map exactly fs)) (sym same) (exact_point t fs)) (λ j k. keeps j (alike.any j ∙ k))
