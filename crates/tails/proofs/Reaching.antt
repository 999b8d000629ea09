-- Each point of which every coordinate is reached is met.
use Rattle.std.proofs.Common.{◌≡◌, ℕ, zero, suc, Bool, true, false, List, [], ◌∷◌, map, length, Option, Some, None, refl, sym, ap, ◌∙◌, subst, inl, inr, arith}
use Rattle.std.specs.Prelude.{ℤ, ◌≤ℤ◌, ◌==◌, ◌||◌, ◌&&◌, ◌⊎◌, not, if◌then◌else◌, option_and_then}
use Rattle.std.specs.List.{list_any}
use Rattle.std.specs.Option.{option_map}
use Rattle.std.proofs.lemmas.Int.{ints}
use Rattle.lin.specs.Forms.{Form}
use Rattle.lin.specs.Search.{is_empty}
use Rattle.lin.specs.declared.span.Span1.{Span1}
use Rattle.plan.specs.declared.stmt.Pick.{Pick}
use Rattle.plan.specs.Symbols.{Symbols, bind, form_value}
use Rattle.plan.specs.Semantics.Setting.{or_else}
use Rattle.soundness.specs.Obligations.{Binder, Ranged, Picked, Passed, Respects, Lies, LieIn, exactly, form_has, span_has, binder_has, picked}
use Rattle.soundness.specs.Nests.Tests.{has_ends}
use Rattle.soundness.proofs.Forms.{respects_on, lies_on, picked_same, is_not}
use Rattle.soundness.proofs.Refines.{and_parts}
use Rattle.soundness.proofs.Sound.{or_left, or_right}
use Rattle.tails.specs.Steps.{along, binds, Keeps}
use Rattle.tails.specs.Moves.{Choice, choices, is_loose, is_outer, paired, State, is_free_loop, best, taken, after_loop, by_loop, opened, without_let, is_free_let, after_idle, by_idle, after_let, by_let, bounded, under_guard, after_guard, by_guard, next, ended, run}
use Rattle.tails.specs.Laws.{point_at, ReachedIsVisited}
use Rattle.tails.proofs.Chosen.{and_then_parts, map_parts, if_parts, some_same, or_else_parts, first_some_parts, idle_is_let, Split, split_of, ready_parts, best_parts}
use Rattle.tails.proofs.Values.{bind_beside, bind_here}
use Rattle.tails.proofs.Loops.{turns_met, lie_beside}
use Rattle.tails.proofs.Lets.{let_met, outer_value, guard_met}
use Rattle.tails.proofs.Pairs.{paired_alike}

pub point_exact : (t : Symbols) (fs : List Form) (p : List ℤ) → LieIn t (map exactly fs) p → point_at fs t ≡ p
point_exact t [] [] h = refl
point_exact t [] (q ∷ qs) h = absurd h
point_exact t (f ∷ fs) [] h = absurd h
point_exact t (f ∷ fs) (q ∷ qs) h =
    let low = h.0.0.0 in
    let high = h.0.1.0 in
    let same : form_value f t ≡ q = omega (arith, ints, low, high) in
    ap (λ z. z ∷ point_at fs t) same ∙ ap (λ zs. q ∷ zs) (point_exact t fs qs h.1)

pub none_left : {A : Type 0} (xs : List A) → is_empty xs ≡ true → xs ≡ []
none_left [] h = refl
none_left (x ∷ xs) h = absurd (cc h)

module _ (shows : Form → Form → Bool) (s : Symbols) (p : List ℤ) (shown : (a b : Form) → shows a b ≡ true → form_value a s ≤ℤ form_value b s) where
  -- the steps allow values at which the spans have the point
  abbrev Found : List Binder → List Span1 → Type 0
  Found bs ys = (t : Symbols) × Respects bs t × LieIn t ys p × Keeps bs s t

  by_state : (bs cs : List Binder) (ys : List Span1) (zs : List Span1) (later : State) → record { steps = cs; spans = zs } ≡ later → Found later.steps later.spans → Found cs zs
  by_state bs cs ys zs later e found = subst (λ (st : State). Found st.steps st.spans) (sym e) found

  guard_back : (bs : List Binder) (ys : List Span1) (one : Binder) (others : List Binder) (later : State) → Split one others bs → after_guard false shows ys one others ≡ Some later → Found later.steps later.spans → Found bs ys
  guard_back bs ys (Ranged i x) others later sp e found = absurd (cc e)
  guard_back bs ys (Picked i pick ls) others later sp e found = absurd (cc e)
  guard_back bs ys (Passed low high) others later sp e found =
      let m = map_parts (λ zs. record { steps = others; spans = zs }) (under_guard false shows others low high ys) later e in
      of m.0 (is_outer others low && is_outer others high) refl m.1 (by_state bs others ys m.0 later m.2 found)
    where
      met : (t : Symbols) → Respects others t → Keeps others s t → LieIn t ys p × (form_value low t ≤ℤ form_value high t) → Found bs ys
      met t r k l = (t, sp.join t (l.1, tt) r, l.0, λ i h. k i (or_right (binds i (Passed low high)) (list_any (binds i) others) (sym (sp.any (binds i)) ∙ h)))

      of : (zs : List Span1) (v : Bool) → (is_outer others low && is_outer others high) ≡ v → (if v then (if shows low high then Some ys else None) else bounded false shows others low high ys) ≡ Some zs → Found others zs → Found bs ys
      of zs true outer e (t, r, l, k) =
          let both = and_parts (is_outer others low) (is_outer others high) outer in
          let w = if_parts (shows low high) (Some ys) zs e in
          let same : zs ≡ ys = sym (some_same ys zs w.1) in
          let a = outer_value others s t k low both.0 in
          let c = outer_value others s t k high both.1 in
          let order = shown low high w.0 in
          met t r k (subst (λ zs. LieIn t zs p) same l, omega (arith, ints, a, c, order))
      of zs false outer e (t, r, l, k) = met t r k (guard_met false shows others low high t ys zs p e l)

  keeps_bound : (bs : List Binder) (one : Binder) (others : List Binder) (i : ℕ) (t : Symbols) (z : ℤ) → Split one others bs → ((j : ℕ) → binds j one ≡ false → (j == i) ≡ false) → Keeps others s t → Keeps bs s (bind t i z true)
  keeps_bound bs one others i t z sp other k j h =
      let parts : (binds j one || list_any (binds j) others) ≡ false = sym (sp.any (binds j)) ∙ h in
      bind_beside t i z true j (other j (or_left (binds j one) (list_any (binds j) others) parts)) ∙ k j (or_right (binds j one) (list_any (binds j) others) parts)

  loop_back : (bs : List Binder) (ys zs : List Span1) (i : ℕ) (x : Span1) (others : List Binder) → Split (Ranged i x) others bs → is_free_loop i x others ≡ true → taken false shows i x ys ≡ Some zs → Found others zs → Found bs ys
  loop_back bs ys zs i x others sp free e (t, r, l, k) =
      let f = and_parts (is_loose i others) (not (span_has i x) && has_ends x) free in
      let g = and_parts (not (span_has i x)) (has_ends x) f.1 in
      let lacks : span_has i x ≡ false = is_not (span_has i x) g.0 in
      let loose : list_any (binder_has i) others ≡ false = is_not (list_any (binder_has i) others) f.0 in
      let met = turns_met false shows i x t ys zs p e l in
      let u = bind t i met.0 true in
      let turn : Lies u x (u.value i) = subst (Lies u x) (sym (bind_here t i met.0 true)) (lies_on t i met.0 true x met.0 lacks met.1) in
      (u, sp.join u (turn, tt) (respects_on t i met.0 true others loose r), met.2, keeps_bound bs (Ranged i x) others i t met.0 sp (λ j h. h) k)

  let_back : (bs : List Binder) (ys zs : List Span1) (i : ℕ) (pick : Pick) (ls : List Form) (others : List Binder) → Split (Picked i pick ls) others bs → is_free_let false shows i ls others ≡ true → without_let false shows i pick ls ys ≡ Some zs → Found others zs → Found bs ys
  let_back bs ys zs i pick ls others sp free e (t, r, l, k) =
      let f = and_parts (is_loose i others) (not (list_any (form_has i) ls) && not (is_empty ls)) free in
      let g = and_parts (not (list_any (form_has i) ls)) (not (is_empty ls)) f.1 in
      let lacks : list_any (form_has i) ls ≡ false = is_not (list_any (form_has i) ls) g.0 in
      let some : is_empty ls ≡ false = is_not (is_empty ls) g.1 in
      let loose : list_any (binder_has i) others ≡ false = is_not (list_any (binder_has i) others) f.0 in
      let z = picked pick ls t in
      let u = bind t i z true in
      let is : u.value i ≡ picked pick ls u = bind_here t i z true ∙ sym (picked_same t i z true pick ls lacks) in
      (u, sp.join u (is, tt) (respects_on t i z true others loose r), of z (list_any (span_has i) ys) refl e some, keeps_bound bs (Picked i pick ls) others i t z sp (λ j h. h) k)
    where
      of : (z : ℤ) (v : Bool) → list_any (span_has i) ys ≡ v → (if v then opened false shows i pick ls ys else Some ys) ≡ Some zs → is_empty ls ≡ false → LieIn (bind t i (picked pick ls t) true) ys p
      of z true h e some = let_met false shows i t pick ls some ys zs p e l
      of z false h e some =
          let same : zs ≡ ys = sym (some_same ys zs e) in
          lie_beside i t (bind t i (picked pick ls t) true) (bind_beside t i (picked pick ls t) true) ys p h (subst (λ zs. LieIn t zs p) same l)

  after_let_back : (bs : List Binder) (ys : List Span1) (one : Binder) (others : List Binder) (later : State) → Split one others bs → after_let false shows ys one others ≡ Some later → Found later.steps later.spans → Found bs ys
  after_let_back bs ys (Ranged i x) others later sp e found = absurd (cc e)
  after_let_back bs ys (Passed low high) others later sp e found = absurd (cc e)
  after_let_back bs ys (Picked i pick ls) others later sp e found =
      let a = if_parts (is_free_let false shows i ls others) (option_map (λ zs. record { steps = others; spans = zs }) (without_let false shows i pick ls ys)) later e in
      let m = map_parts (λ zs. record { steps = others; spans = zs }) (without_let false shows i pick ls ys) later a.1 in
      let_back bs ys m.0 i pick ls others sp a.0 m.1 (by_state bs others ys m.0 later m.2 found)

  by_loop_back : (st later : State) → by_loop false shows st ≡ Some later → Found later.steps later.spans → Found st.steps st.spans
  by_loop_back st later e found =
      let a = and_then_parts (after_loop false shows st.spans) (best st.spans (choices st.steps)) later e in
      let r = a.0 in
      let c = best_parts st.spans (choices st.steps) r a.1 in
      let is = ready_parts st.spans c.0.one c.0.others r c.2 in
      let m = map_parts (λ zs. record { steps = r.others; spans = zs }) (taken false shows r.symbol r.span st.spans) later a.2 in
      let sp : Split (Ranged r.symbol r.span) r.others st.steps =
      subst (λ (os : List Binder). Split (Ranged r.symbol r.span) os st.steps) is.beside (subst (λ (b : Binder). Split b c.0.others st.steps) is.is (split_of c.0 st.steps c.1)) in
      loop_back st.steps st.spans m.0 r.symbol r.span r.others sp is.free m.1 (by_state st.steps r.others st.spans m.0 later m.2 found)

  by_let_back : (st later : State) → by_let false shows st ≡ Some later → Found later.steps later.spans → Found st.steps st.spans
  by_let_back st later e found =
      let c = first_some_parts (λ (c : Choice). after_let false shows st.spans c.one c.others) (choices st.steps) later e in
      after_let_back st.steps st.spans c.0.one c.0.others later (split_of c.0 st.steps c.1) c.2 found

  by_guard_back : (st later : State) → by_guard false shows st ≡ Some later → Found later.steps later.spans → Found st.steps st.spans
  by_guard_back st later e found =
      let c = first_some_parts (λ (c : Choice). after_guard false shows st.spans c.one c.others) (choices st.steps) later e in
      guard_back st.steps st.spans c.0.one c.0.others later (split_of c.0 st.steps c.1) c.2 found

  by_idle_back : (st later : State) → by_idle st ≡ Some later → Found later.steps later.spans → Found st.steps st.spans
  by_idle_back st later e found =
      let c = first_some_parts (λ (c : Choice). after_idle st.spans c.one c.others) (choices st.steps) later e in
      after_let_back st.steps st.spans c.0.one c.0.others later (split_of c.0 st.steps c.1) (idle_is_let false shows st.spans c.0.one c.0.others later c.2) found

  next_back : (st later : State) → next false shows st ≡ Some later → Found later.steps later.spans → Found st.steps st.spans
  next_back st later e found = of (or_else_parts (by_guard false shows st) (or_else (by_idle st) (or_else (by_loop false shows st) (by_let false shows st))) later e)
    where
      last : (by_loop false shows st ≡ Some later) ⊎ (by_let false shows st ≡ Some later) → Found st.steps st.spans
      last (inl k) = by_loop_back st later k found
      last (inr k) = by_let_back st later k found

      on : (by_idle st ≡ Some later) ⊎ (or_else (by_loop false shows st) (by_let false shows st) ≡ Some later) → Found st.steps st.spans
      on (inl k) = by_idle_back st later k found
      on (inr k) = last (or_else_parts (by_loop false shows st) (by_let false shows st) later k)

      of : (by_guard false shows st ≡ Some later) ⊎ (or_else (by_idle st) (or_else (by_loop false shows st) (by_let false shows st)) ≡ Some later) → Found st.steps st.spans
      of (inl k) = by_guard_back st later k found
      of (inr k) = on (or_else_parts (by_idle st) (or_else (by_loop false shows st) (by_let false shows st)) later k)

  ended_back : (st : State) (onward : State → Option (List Span1)) (zs : List Span1) → ((later : State) → onward later ≡ Some zs → Found later.steps later.spans) → LieIn s zs p → ended false shows st onward ≡ Some zs → Found st.steps st.spans
  ended_back st onward zs rest l e = of (is_empty st.steps) refl e
    where
      of : (v : Bool) → is_empty st.steps ≡ v → (if v then Some st.spans else option_and_then onward (next false shows st)) ≡ Some zs → Found st.steps st.spans
      of true h e =
          let none = none_left st.steps h in
          subst (λ bs. Found bs st.spans) (sym none) (s, tt, subst (λ zs. LieIn s zs p) (sym (some_same st.spans zs e)) l, λ i h. refl)
      of false h e =
          let a = and_then_parts onward (next false shows st) zs e in
          next_back st a.0 a.1 (rest a.0 a.2)

  run_back : (n : ℕ) (st : State) (zs : List Span1) → LieIn s zs p → run false shows n st ≡ Some zs → Found st.steps st.spans
  run_back zero st zs l e = ended_back st (λ later. None) zs (λ later k. absurd (cc k)) l e
  run_back (suc n) st zs l e = ended_back st (run false shows n) zs (λ later k. run_back n later zs l k) l e

pub reached_is_visited : ReachedIsVisited
reached_is_visited shows steps fs spans s p shown e l =
    let bs = along steps in
    let found = run_back shows s p shown (length (paired bs)) (record { steps = paired bs; spans = map exactly fs }) spans l e in
    let alike = paired_alike bs in
    (found.0, alike.back found.0 found.1, point_exact found.0 fs p found.2, λ i h. found.3 i (sym (alike.any i) ∙ h))
