-- What a move over one of the steps that are left comes to in each coordinate.
use Rattle.std.proofs.Common.{◌≡◌, ℕ, Bool, true, false, ◌&&◌, ◌||◌, not, List, [], ◌∷◌, ◌++◌, Option, Some, None, refl, sym, ap, ◌∙◌, subst, inl, inr, ◌⊎◌, arith}
use Rattle.std.specs.Prelude.{ℤ, pos, ◌+ℤ◌, ◌-ℤ◌, ◌*ℤ◌, ◌==◌, if◌then◌else◌}
use Rattle.std.specs.List.{AllByRecursion, list_any}
use Rattle.std.specs.Option.{option_map}
use Rattle.std.proofs.lemmas.Int.{ints}
use Rattle.bounds.proofs.ListSound.{all-append}
use Rattle.lin.specs.Forms.{Form, number, factor_of, combined}
use Rattle.lin.specs.declared.span.Span1.{Span1}
use Rattle.lin.proofs.Limits.{combined-means}
use Rattle.plan.specs.declared.stmt.Pick.TheVariants.{Min}
use Rattle.soundness.specs.Claims.{In}
use Rattle.soundness.specs.Obligations.{exactly, form_has, span_has}
use Rattle.soundness.proofs.Refines.{eq_true}
use Rattle.sched.specs.Skeleton.{span}
use Rattle.tails.specs.Moves.{joined, single, only, naming, not_naming, each_replaced, is_positive, span_from, over_loop, expanded, below}
use Rattle.completeness.proofs.LoopMoves.{or_none, other_way, Item, item_span, is_lone, is_left, AreApart, One, opened_none}
use Rattle.completeness.proofs.TailSteps.{Line, is_loop}
use Rattle.completeness.proofs.BlockMoves.{kept_any, same_now, Target, Kept, Sums, is_of, is_gone, FitsTo, OneFits, TargetFits, SumFits, InOrder, now, form_at, names_it, Lowest, taken_one}
use Rattle.completeness.proofs.BlockMoves.{opened_is, begins_so, left_in, of_all}
use Rattle.completeness.proofs.BlockCaps.{capped, HaveNot, any_none, has_capped, loop_capped, loop_limited, no_more, append_assoc}
use Rattle.completeness.proofs.BlockLimits.{caps, all_left_caps}
use Rattle.completeness.proofs.BestPicks.{IsOne}
use Rattle.completeness.proofs.Courses.{Course, Plain, Opened, opened_by, target_at, caps_at, span_at, FitsCourse, IsApartFrom, IsTopped, LoopFits, IsStrange, OpenerFits, CourseFits, AllFits, Stands}
use Rattle.completeness.proofs.CourseFacts.{gs, targets_fit, in_mapped}

-- ---- forms with the symbol put in, beside others

module _ (exact : Bool) (shows : Form → Form → Bool) (i : ℕ) (ms : List Form) where
  pub expanded_both : (us es cs ds : List Form) → expanded exact shows i ms us ≡ Some es → expanded exact shows i ms cs ≡ Some ds → expanded exact shows i ms (us ++ cs) ≡ Some (es ++ ds)
  expanded_both us es cs ds one two = more us ∙ (λ j. with_more (one j) (two j))
    where
      with_more : Option (List Form) → Option (List Form) → Option (List Form)
      with_more xs ys = joined xs ys

      more : (us : List Form) → expanded exact shows i ms (us ++ cs) ≡ joined (expanded exact shows i ms us) (expanded exact shows i ms cs)
      more [] = first (expanded exact shows i ms cs)
        where
          first : (o : Option (List Form)) → o ≡ joined (Some []) o
          first None = refl
          first (Some xs) = refl
      more (u ∷ us) =
          (let rest = more us in
          λ j. if form_has i u then (if is_positive (factor_of u.terms i) then joined (each_replaced u i (factor_of u.terms i) ms) (rest j) else None) else joined (Some (u ∷ [])) (rest j))
          ∙ of (form_has i u) (is_positive (factor_of u.terms i)) (each_replaced u i (factor_of u.terms i) ms) (expanded exact shows i ms us) (expanded exact shows i ms cs)
        where
          assoc : (xs ys zs : Option (List Form)) → joined xs (joined ys zs) ≡ joined (joined xs ys) zs
          assoc None ys zs = refl
          assoc (Some xs) None zs = refl
          assoc (Some xs) (Some ys) None = refl
          assoc (Some xs) (Some ys) (Some zs) = ap (λ (fs : List Form). Some fs) (sym (append_assoc xs ys zs))

          of : (a b : Bool) (xs ys zs : Option (List Form)) → (if a then (if b then joined xs (joined ys zs) else None) else joined (Some (u ∷ [])) (joined ys zs))
              ≡ joined (if a then (if b then joined xs ys else None) else joined (Some (u ∷ [])) ys) zs
          of true true xs ys zs = assoc xs ys zs
          of true false xs ys zs = refl
          of false b xs ys zs = assoc (Some (u ∷ [])) ys zs

spans_are : (a b : Option (List Form)) (z : Span1) → span_from a b ≡ Some z → (a ≡ Some z.lower) × (b ≡ Some z.upper)
spans_are None b z e = absurd (cc e)
spans_are (Some ls) None z e = absurd (cc e)
spans_are (Some ls) (Some us) z e =
    let is : record { lower = ls; upper = us } ≡ z = cc e in
    ((λ j. Some (Span1.lower (is j))), (λ j. Some (Span1.upper (is j))))

module _ (line : ℕ → Line) (lim tops : ℕ → List Form) (factor : ℕ → ℤ) (cs : List Course) (all : List Item) (exact : Bool) (fit : AllFits line lim tops factor cs all exact)
    (ts : List Item) (stands : Stands line lim tops factor cs all ts) (p : One) (h : IsOne ts p) (shows : Form → Form → Bool) where
  abbrev s : ℕ
  s = p.one.symbol

  abbrev at : Course → Span1
  at c = span_at line lim tops factor ts c

  abbrev after : Course → Span1
  after c = span_at line lim tops factor p.others c

  abbrev goals : List Target
  goals = gs line lim tops factor cs all exact fit ts stands

  pub targets : AllByRecursion (TargetFits factor) goals
  targets = targets_fit line lim tops factor cs all exact fit ts stands

  pub course_fits : (c : Course) → In c cs → CourseFits line lim tops factor cs all c
  course_fits c m = of_all (CourseFits line lim tops factor cs all) cs c fit.courses m

  pub gone_more : (i : ℕ) → is_left i ts ≡ false → is_left i p.others ≡ false
  gone_more i e = of (s == i) refl
    where
      of : (b : Bool) → (s == i) ≡ b → is_left i p.others ≡ false
      of true k = ap (λ (m : ℕ). is_left m p.others) (sym (eq_true s i k)) ∙ h.loose
      of false k = h.same i k ∙ e

  -- ---- caps

  caps_bare : (i : ℕ) (us : List Item) → HaveNot i (caps lim tops ts us)
  caps_bare i [] = tt
  caps_bare i (u ∷ us) = all-append (λ c. form_has i c ≡ false) (if is_left u.symbol ts then [] else tops u.symbol) (caps lim tops ts us) (of (is_left u.symbol ts)) (caps_bare i us)
    where
      of : (b : Bool) → HaveNot i (if b then [] else tops u.symbol)
      of true = tt
      of false = fit.bare u.symbol i

  caps_less : (us : List Item) → (is_left s us ≡ false) ⊎ (tops s ≡ []) → caps lim tops p.others us ≡ caps lim tops ts us
  caps_less [] none = refl
  caps_less (u ∷ us) none = of (s == u.symbol) refl none (λ k. caps_less us k)
    where
      blank : (b : Bool) → tops u.symbol ≡ [] → (if b then [] else tops u.symbol) ≡ []
      blank true e = refl
      blank false e = e

      of : (b : Bool) → (s == u.symbol) ≡ b → (is_left s (u ∷ us) ≡ false) ⊎ (tops s ≡ []) → ((is_left s us ≡ false) ⊎ (tops s ≡ []) → caps lim tops p.others us ≡ caps lim tops ts us) →
          caps lim tops p.others (u ∷ us) ≡ caps lim tops ts (u ∷ us)
      of true e (inl none) later =
          let parts = or_none (u.symbol == s) (is_left s us) none in
          let clash : true ≡ false = sym e ∙ other_way u.symbol s parts.0 in
          absurd (cc clash)
      of true e (inr none) later =
          let same : tops u.symbol ≡ [] = ap tops (sym (eq_true s u.symbol e)) ∙ none in
          let one = blank (is_left u.symbol p.others) same in
          let two = blank (is_left u.symbol ts) same in
          let rest = later (inr none) in
          (λ j. one j ++ rest j) ∙ sym (ap (λ (fs : List Form). fs ++ caps lim tops ts us) two)
      of false e (inl none) later =
          let parts = or_none (u.symbol == s) (is_left s us) none in
          let here = h.same u.symbol e in
          let rest = later (inl parts.1) in
          λ j. (if here j then [] else tops u.symbol) ++ rest j
      of false e (inr none) later = (let here = h.same u.symbol e in let rest = later (inr none) in λ j. (if here j then [] else tops u.symbol) ++ rest j)

  has_more : (y : Span1) (ds : List Form) → span_has s y ≡ true → span_has s (capped y ds) ≡ true
  has_more y ds e = of (list_any (form_has s) y.lower) e
    where
      longer : (us : List Form) → list_any (form_has s) us ≡ true → list_any (form_has s) (us ++ ds) ≡ true
      longer [] k = absurd (cc k)
      longer (u ∷ us) k = by (form_has s u) k (λ q. longer us q)
        where
          by : (b : Bool) → (b || list_any (form_has s) us) ≡ true → (list_any (form_has s) us ≡ true → list_any (form_has s) (us ++ ds) ≡ true) → (b || list_any (form_has s) (us ++ ds)) ≡ true
          by true q rest = refl
          by false q rest = rest q

      of : (b : Bool) → (b || list_any (form_has s) y.upper) ≡ true → (b || list_any (form_has s) (y.upper ++ ds)) ≡ true
      of true k = refl
      of false k = longer y.upper k

  -- ---- a coordinate without the symbol

  pub none_put : (ms ls : List Form) (c : Course) → span_has s (at c) ≡ false → span_from (expanded exact shows s ms (at c).lower) (expanded exact shows s ls (at c).upper) ≡ Some (at c)
  none_put ms ls c e =
      let parts = or_none (list_any (form_has s) (at c).lower) (list_any (form_has s) (at c).upper) e in
      let lower = opened_none exact shows s ms (at c).lower parts.0 in
      let upper = opened_none exact shows s ls (at c).upper parts.1 in
      λ j. span_from (lower j) (upper j)

  -- ---- a loop

  module _ (loop : LoopFits line lim tops factor cs all p.one) (one : OneFits goals ts p) where
    pub fits_at : (c : Course) → In c cs → FitsCourse line lim tops factor cs all p.one c
    fits_at c m = of_all (FitsCourse line lim tops factor cs all p.one) cs c loop.fits m

    -- where it is not in the coordinate behind the let, it is in none
    away : (r : ℕ) (f : Form) (us : List Item) (g : Form) (vs : List Item) (c : List Item → List Form) → In (Opened r f us g vs c) cs → is_left s vs ≡ false → is_left s us ≡ false
    away r f us g vs c m e = of (fits_at (Opened r f us g vs c) m).3
      where
        of : {A B : Type 0} → ((is_left s us ≡ is_left s vs) × A) ⊎ ((is_left s us ≡ false) × B) → is_left s us ≡ false
        of (inl k) = k.0 ∙ e
        of (inr k) = k.0

    pub target_same : (c : Course) → In c cs → target_at p.others c ≡ target_at ts c
    target_same (Plain f us) m = refl
    target_same (Opened r f us g vs c) m =
        let differs = other_way r s (fits_at (Opened r f us g vs c) m).2 in
        ap (λ (b : Bool). if b then Sums f us else Sums g vs) (h.same r differs)

    -- the caps of a coordinate that it is not in
    cap_same : (c : Course) → In c cs → is_of s (target_at ts c) ≡ false → caps_at line lim tops factor p.others c ≡ caps_at line lim tops factor ts c
    cap_same (Plain f us) m e = caps_less us (inl e)
    cap_same (Opened r f us g vs c) m e = of (is_left r ts) refl e
      where
        differs : (s == r) ≡ false
        differs = other_way r s (fits_at (Opened r f us g vs c) m).2

        of : (b : Bool) → is_left r ts ≡ b → is_of s (if b then Sums f us else Sums g vs) ≡ false → (if is_left r p.others then [] else c p.others) ≡ (if b then [] else c ts)
        of true l q = ap (λ (b : Bool). if b then [] else c p.others) (h.same r differs ∙ l)
        of false l q =
            ap (λ (b : Bool). if b then [] else c p.others) (h.same r differs ∙ l) ∙ ((course_fits (Opened r f us g vs c) m).4.same ts p h (away r f us g vs c m q)).0

    cap_bare : (c : Course) → In c cs → is_of s (target_at ts c) ≡ false → HaveNot s (caps_at line lim tops factor ts c)
    cap_bare (Plain f us) m e = caps_bare s us
    cap_bare (Opened r f us g vs c) m e = of (is_left r ts) e
      where
        of : (b : Bool) → is_of s (if b then Sums f us else Sums g vs) ≡ false → HaveNot s (if b then [] else c ts)
        of true q = tt
        of false q = ((course_fits (Opened r f us g vs c) m).4.same ts p h (away r f us g vs c m q)).1

    pub loop_stays : (c : Course) → In c cs → is_of s (target_at ts c) ≡ false → at c ≡ after c
    loop_stays c m e =
        let target = target_same c m in
        let same = same_now_is (target_at ts c) e in
        let caps_so = cap_same c m e in
        (λ j. capped (same j) (sym caps_so j)) ∙ (λ j. capped (now factor p.others (sym target j)) (caps_at line lim tops factor p.others c))
      where
        same_now_is : (g : Target) → is_of s g ≡ false → now factor ts g ≡ now factor p.others g
        same_now_is g q = same_now factor p ts h.same g q

    pub loop_names : (c : Course) → In c cs → span_has s (at c) ≡ is_of s (target_at ts c)
    loop_names c m = of (is_of s (target_at ts c)) refl
      where
        plain : span_has s (now factor ts (target_at ts c)) ≡ is_of s (target_at ts c)
        plain =
            names_it factor ts p.one h.there (target_at ts c) (of_all (FitsTo p.one) goals (target_at ts c) one.here.fits (in_mapped (target_at ts) cs c m))
            (of_all (TargetFits factor) goals (target_at ts c) targets (in_mapped (target_at ts) cs c m))

        of : (b : Bool) → is_of s (target_at ts c) ≡ b → span_has s (at c) ≡ is_of s (target_at ts c)
        of true e = has_more (now factor ts (target_at ts c)) (caps_at line lim tops factor ts c) (plain ∙ e) ∙ sym e
        of false e = has_capped s (now factor ts (target_at ts c)) (caps_at line lim tops factor ts c) (cap_bare c m e) ∙ plain

    -- it is taken away in its own coordinate
    pub loop_moves : is_lone p.one ≡ false → Lowest factor goals targets p ts → (c : Course) → In c cs → is_of s (target_at ts c) ≡ true →
        over_loop exact shows s (span p.one.low p.one.last (lim s)) (at c) ≡ Some (after c)
    loop_moves turns lowest c m e = of loop.limits
      where
        order : InOrder factor ts (target_at ts c)
        order = of_all (λ c. InOrder factor ts (target_at ts c)) cs c stands.order m

        plain : over_loop exact shows s (item_span p.one) (now factor ts (target_at ts c)) ≡ Some (now factor p.others (target_at ts c))
        plain = taken_one factor goals targets exact shows ts p one turns lowest (target_at ts c) (in_mapped (target_at ts) cs c m) order e

        comes : Some (capped (now factor p.others (target_at ts c)) (caps_at line lim tops factor p.others c)) ≡ Some (after c)
        comes = (let target = target_same c m in λ j. Some (capped (now factor p.others (sym target j)) (caps_at line lim tops factor p.others c)))

        -- without further upper forms
        bare_caps : (c : Course) → In c cs → is_of s (target_at ts c) ≡ true → tops s ≡ [] →
            HaveNot s (caps_at line lim tops factor ts c) × (caps_at line lim tops factor p.others c ≡ caps_at line lim tops factor ts c)
        bare_caps (Plain f us) m e none = (caps_bare s us, caps_less us (inr none))
        bare_caps (Opened r f us g vs c) m e none = by (is_left r ts) refl e
          where
            differs : (s == r) ≡ false
            differs = other_way r s (fits_at (Opened r f us g vs c) m).2

            not_first : is_left r ts ≡ false → (b : Bool) → is_left s us ≡ b → is_left s us ≡ false
            not_first l true q =
                let u = left_in s us q in
                let is : u.0 ≡ p.one = (fits_at (Opened r f us g vs c) m).0.0 u.0 u.1 u.2 in
                let out : is_left u.0.symbol ts ≡ false = stands.gone r f us g vs c m l u.0 u.1 (ap is_lone is ∙ turns) in
                let clash : true ≡ false = sym h.there ∙ ap (λ (w : Item). is_left w.symbol ts) (sym is) ∙ out in
                absurd (cc clash)
            not_first l false q = q

            by : (b : Bool) → is_left r ts ≡ b → is_of s (if b then Sums f us else Sums g vs) ≡ true →
                HaveNot s (if b then [] else c ts) × ((if is_left r p.others then [] else c p.others) ≡ (if b then [] else c ts))
            by true l q = (tt, ap (λ (b : Bool). if b then [] else c p.others) (h.same r differs ∙ l))
            by false l q =
                let k = (course_fits (Opened r f us g vs c) m).4.same ts p h (not_first l (is_left s us) refl) in
                (k.1, ap (λ (b : Bool). if b then [] else c p.others) (h.same r differs ∙ l) ∙ k.0)

        -- with one
        limited : (g : Form) → IsTopped line lim tops factor cs all p.one g → (c : Course) → In c cs → is_of s (target_at ts c) ≡ true →
            over_loop exact shows s (item_span p.one) (now factor ts (target_at ts c)) ≡ Some (now factor p.others (target_at ts c)) →
            over_loop exact shows s (span p.one.low p.one.last (lim s)) (at c) ≡ Some (capped (now factor p.others (target_at ts c)) (caps_at line lim tops factor p.others c))
        limited g k (Opened r f us v vs c) m e taken =
            let off = of_all (IsApartFrom line lim tops factor cs all p.one) cs (Opened r f us v vs c) k.plain m in
            absurd (by (is_left r ts) e off.0 off.1)
          where
            by : (b : Bool) → is_of s (if b then Sums f us else Sums v vs) ≡ true → is_left s us ≡ false → is_left s vs ≡ false → ⊥
            by true q a b = (let clash : true ≡ false = sym q ∙ a in cc clash)
            by false q a b = (let clash : true ≡ false = sym q ∙ b in cc clash)
        limited g k (Plain f us) m e taken =
            let bare_before : caps lim tops ts us ≡ [] = all_left_caps lim tops ts us whole in
            let start : at (Plain f us) ≡ exactly f =
            (λ j. capped (now factor ts (Sums f us)) (bare_before j)) ∙ uncapped (now factor ts (Sums f us)) ∙ sym (begins_so factor ts f us whole) in
            let taken_so : over_loop exact shows s (item_span p.one) (exactly f) ≡ Some (now factor p.others (Sums f us)) =
            ap (over_loop exact shows s (item_span p.one)) (begins_so factor ts f us whole) ∙ taken in
            ap (over_loop exact shows s (span p.one.low p.one.last (lim s))) start
            ∙ loop_limited exact shows s (item_span p.one) (exactly f) (lim s) (tops s) none so
            ∙ ap (option_map (λ z. capped z (tops s))) taken_so ∙ (let last = own_caps us sums.apart whole e in λ j. Some (capped (now factor p.others (Sums f us)) (sym last j)))
          where
            sums : SumFits factor f us
            sums = (course_fits (Plain f us) m).0

            there : In p.one us
            there = (let r = left_in s us e in subst (λ (v : Item). In v us) ((fits_at (Plain f us) m).0.0 r.0 r.1 r.2) r.1)

            whole : AllByRecursion (λ u. is_left u.symbol ts ≡ true) us
            whole = stands.full f us m p.one g there k h.there

            uncapped : (y : Span1) → capped y [] ≡ y
            uncapped y = ap (λ (us : List Form). record { lower = y.lower; upper = us }) (no_more y.upper)

            has : form_has p.one.symbol f ≡ true
            has = (sums.has p.one there).0

            counts : factor_of f.terms p.one.symbol ≡ pos 1
            counts = (sums.has p.one there).1 ∙ k.once

            none : not_naming p.one.symbol (f ∷ []) ≡ []
            none = ap (λ (b : Bool). if not b then f ∷ [] else []) has

            one_time : (a : ℤ) → (a +ℤ pos 1 *ℤ (pos 1 -ℤ pos 1)) ≡ a
            one_time a = omega (arith, ints)

            some_is : {A : Type 0} (a b : A) → Some a ≡ Some b → a ≡ b
            some_is a b e = cc e

            so : (first last : Form) → only (naming p.one.symbol (f ∷ [])) ≡ Some first → combined first (pos 1) (number (factor_of first.terms p.one.symbol -ℤ pos 1)) ≡ Some last →
                each_replaced last p.one.symbol (factor_of first.terms p.one.symbol) (lim p.one.symbol) ≡ Some (tops p.one.symbol)
            so first last named sum =
                let first_is : f ≡ first = some_is f first (sym (ap (λ (b : Bool). only (if b then f ∷ [] else [])) has) ∙ named) in
                let times : factor_of first.terms p.one.symbol ≡ pos 1 = ap (λ (h : Form). factor_of h.terms p.one.symbol) (sym first_is) ∙ counts in
                let sum_so : combined f (pos 1) (number (pos 1 -ℤ pos 1)) ≡ Some last = (λ j. combined (first_is j) (pos 1) (number (sym times j -ℤ pos 1))) ∙ sum in
                let last_is : last ≡ f = (combined-means f (pos 1) (number (pos 1 -ℤ pos 1)) last sum_so).is ∙ (λ j. record { constant = one_time f.constant j; terms = f.terms }) in
                let is = k.is in
                let tops_so = k.tops_are in
                let comes = k.comes f us m e in
                (λ j. each_replaced (last_is j) p.one.symbol (times j) (is j)) ∙ ap (λ (o : Option Form). joined (single o) (Some [])) comes ∙ (λ j. Some (sym tops_so j))

            own_caps : (us : List Item) → AreApart us → AllByRecursion (λ u. is_left u.symbol ts ≡ true) us → is_left s us ≡ true → caps lim tops p.others us ≡ tops s
            own_caps [] apart left e = absurd (cc e)
            own_caps (u ∷ us) apart left e = of (u.symbol == s) refl e (λ k. own_caps us apart.1 left.1 k)
              where
                of : (b : Bool) → (u.symbol == s) ≡ b → (b || is_left s us) ≡ true → (is_left s us ≡ true → caps lim tops p.others us ≡ tops s) → caps lim tops p.others (u ∷ us) ≡ tops s
                of true q k later =
                    let same : u.symbol ≡ s = eq_true u.symbol s q in
                    let here : is_left u.symbol p.others ≡ false = ap (λ (i : ℕ). is_left i p.others) same ∙ h.loose in
                    let none : is_left s us ≡ false = ap (λ (i : ℕ). is_left i us) (sym same) ∙ apart.0 in
                    let rest : caps lim tops p.others us ≡ [] = caps_less us (inl none) ∙ all_left_caps lim tops ts us left.1 in
                    (λ j. (if here j then [] else tops (same j)) ++ rest j) ∙ no_more (tops s)
                of false q k later =
                    let here : is_left u.symbol p.others ≡ true = h.same u.symbol (other_way u.symbol s q) ∙ left.0 in
                    let rest = later k in
                    λ j. (if here j then [] else tops u.symbol) ++ rest j

        of : ((lim s ≡ []) × (tops s ≡ [])) ⊎ ((g : Form) × IsTopped line lim tops factor cs all p.one g) →
            over_loop exact shows s (span p.one.low p.one.last (lim s)) (at c) ≡ Some (after c)
        of (inl k) =
            let q = bare_caps c m e k.1 in
            ap (λ (fs : List Form). over_loop exact shows s (span p.one.low p.one.last fs) (at c)) k.0
            ∙ loop_capped exact shows s (item_span p.one) (now factor ts (target_at ts c)) (caps_at line lim tops factor ts c) q.0
            ∙ ap (option_map (λ z. capped z (caps_at line lim tops factor ts c))) plain
            ∙ (let caps_so = q.1 in λ j. Some (capped (now factor p.others (target_at ts c)) (sym caps_so j))) ∙ comes
        of (inr (g, k)) = limited g k c m e plain ∙ comes

    -- of one turn it is a let
    pub lone_moves : is_lone p.one ≡ true → (c : Course) → In c cs →
        span_from (expanded exact shows s (below exact shows Min (number p.one.low ∷ [])) (at c).lower) (expanded exact shows s (number p.one.low ∷ []) (at c).upper) ≡ Some (after c)
    lone_moves lone c m = of (is_of s (target_at ts c)) refl
      where
        untopped : tops s ≡ []
        untopped = by loop.limits
          where
            by : ((lim s ≡ []) × (tops s ≡ [])) ⊎ ((g : Form) × IsTopped line lim tops factor cs all p.one g) → tops s ≡ []
            by (inl k) = k.1
            by (inr (g, k)) = (let clash : true ≡ false = sym lone ∙ k.turns in absurd (cc clash))

        bare_put : (ds es : List Form) → HaveNot s ds → es ≡ ds → expanded exact shows s (number p.one.low ∷ []) ds ≡ Some es
        bare_put ds es k same = opened_none exact shows s (number p.one.low ∷ []) ds (any_none s ds k) ∙ (λ j. Some (sym same j))

        caps_put : (c : Course) → In c cs → expanded exact shows s (number p.one.low ∷ []) (caps_at line lim tops factor ts c) ≡ Some (caps_at line lim tops factor p.others c)
        caps_put (Plain f us) m = bare_put (caps lim tops ts us) (caps lim tops p.others us) (caps_bare s us) (caps_less us (inr untopped))
        caps_put (Opened r f us g vs c) m = by (is_left r ts) refl (is_left s us) refl
          where
            differs : (s == r) ≡ false
            differs = other_way r s (fits_at (Opened r f us g vs c) m).2

            by : (b : Bool) → is_left r ts ≡ b → (a : Bool) → is_left s us ≡ a → expanded exact shows s (number p.one.low ∷ []) (if b then [] else c ts) ≡ Some (if is_left r p.others then
                [] else c p.others)
            by true l a q = ap (λ (b : Bool). Some (if b then [] else c p.others)) (sym (h.same r differs ∙ l))
            by false l true q =
                (let u = left_in s us q in (course_fits (Opened r f us g vs c) m).4.puts exact shows ts p h u.0 u.1 ((fits_at (Opened r f us g vs c) m).0.0 u.0 u.1 u.2) lone) ∙ ap (λ (b :
                Bool). Some (if b then [] else c p.others)) (sym (h.same r differs ∙ l))
            by false l false q =
                let k = (course_fits (Opened r f us g vs c) m).4.same ts p h q in
                bare_put (c ts) (c p.others) k.1 k.0 ∙ ap (λ (b : Bool). Some (if b then [] else c p.others)) (sym (h.same r differs ∙ l))

        own : (g : Target) → In g goals → is_of s g ≡ true →
            span_from (expanded exact shows s (number p.one.low ∷ []) (now factor ts g).lower) (expanded exact shows s (number p.one.low ∷ []) (now factor ts g).upper) ≡ Some (now factor p.others g)
        own (Kept y) k e = absurd (cc e)
        own (Sums f us) k e =
            opened_is factor p ts h.same h.loose h.there one.here.near one.here.last_near f us (of_all (FitsTo p.one) goals (Sums f us) one.here.fits k)
            (of_all (TargetFits factor) goals (Sums f us) targets k) e exact shows lone

        of : (b : Bool) → is_of s (target_at ts c) ≡ b →
            span_from (expanded exact shows s (number p.one.low ∷ []) (at c).lower) (expanded exact shows s (number p.one.low ∷ []) (at c).upper) ≡ Some (after c)
        of true e =
            let g : Target = target_at ts c in
            let k = spans_are (expanded exact shows s (number p.one.low ∷ []) (now factor ts g).lower) (expanded exact shows s (number p.one.low ∷ []) (now factor ts g).upper) (now factor p.others g)
            (own g (in_mapped (target_at ts) cs c m) e) in
            let lower = k.0 in
            let upper = expanded_both exact shows s (number p.one.low ∷ []) (now factor ts g).upper (now factor p.others g).upper (caps_at line lim tops factor ts c)
            (caps_at line lim tops factor p.others c) k.1 (caps_put c m) in
            let target = target_same c m in
            (λ j. span_from (lower j) (upper j)) ∙ (λ j. Some (capped (now factor p.others (sym target j)) (caps_at line lim tops factor p.others c)))
        of false e = none_put (number p.one.low ∷ []) (number p.one.low ∷ []) c (loop_names c m ∙ e) ∙ (let same = loop_stays c m e in λ j. Some (same j))

  -- ---- a let of two forms, or one behind a guard

  module _ (let_line : is_loop (line p.one.symbol) ≡ false) (opener : OpenerFits line lim tops factor cs all exact p.one) where
    pub strange_at : (c : Course) → In c cs → IsStrange line lim tops factor cs all s c
    strange_at c m = of_all (IsStrange line lim tops factor cs all s) cs c opener.strange m

    pub let_stays : (c : Course) → In c cs → opened_by s c ≡ false → at c ≡ after c
    let_stays (Plain f us) m e =
        let k = strange_at (Plain f us) m in
        let same = same_now factor p ts h.same (Sums f us) k.0 in
        let caps_so = caps_less us (inl k.0) in
        λ j. capped (same j) (sym caps_so j)
    let_stays (Opened r f us g vs c) m e = of (is_left r ts) refl
      where
        k : IsStrange line lim tops factor cs all s (Opened r f us g vs c)
        k = strange_at (Opened r f us g vs c) m

        differs : (s == r) ≡ false
        differs = other_way r s e

        of : (b : Bool) → is_left r ts ≡ b → capped (now factor ts (if b then Sums f us else Sums g vs)) (if b then [] else c ts) ≡ after (Opened r f us g vs c)
        of true l =
            let still = h.same r differs ∙ l in
            let same = same_now factor p ts h.same (Sums f us) k.0 in
            (λ j. capped (same j) []) ∙ (λ j. capped (now factor p.others (if sym still j then Sums f us else Sums g vs)) (if sym still j then [] else c p.others))
        of false l =
            let still = h.same r differs ∙ l in
            let same = same_now factor p ts h.same (Sums g vs) k.1 in
            let caps_so = ((course_fits (Opened r f us g vs c) m).4.same ts p h k.0).0 in
            (λ j. capped (same j) (sym caps_so j)) ∙ (λ j. capped (now factor p.others (if sym still j then Sums f us else Sums g vs)) (if sym still j then [] else c p.others))

    pub not_gone : (us : List Item) → is_left s us ≡ false → not (is_gone ts us s) ≡ true
    not_gone us e = λ j. not (e j && not (is_left s ts))

    pub form_has_at : (e : Item → ℤ) (f : Form) (us : List Item) → is_left s us ≡ false → form_has s (form_at factor e ts f us) ≡ form_has s f
    form_has_at e f us none = kept_any (λ i. not (is_gone ts us i)) s (not_gone us none) f.terms

    pub let_names : (c : Course) → In c cs → span_has s (at c) ≡ opened_by s c
    let_names c m = of c m (strange_at c m)
      where
        twice : (b : Bool) → ((b || false) || (b || false)) ≡ b
        twice true = refl
        twice false = refl

        plain : (f : Form) (us : List Item) → is_left s us ≡ false → span_has s (now factor ts (Sums f us)) ≡ form_has s f
        plain f us none =
            let one = form_has_at (λ u. u.low) f us none in
            let two = form_has_at (λ u. u.last) f us none in
            (λ j. (one j || false) || (two j || false)) ∙ twice (form_has s f)

        with_caps_is : (y : Span1) (ds : List Form) → HaveNot s ds → span_has s (capped y ds) ≡ span_has s y
        with_caps_is y ds k = has_capped s y ds k

        of : (c : Course) → In c cs → IsStrange line lim tops factor cs all s c → span_has s (at c) ≡ opened_by s c
        of (Plain f us) m k = with_caps_is (now factor ts (Sums f us)) (caps lim tops ts us) (caps_bare s us) ∙ plain f us k.0 ∙ k.1
        of (Opened r f us g vs c) m k = by (is_left r ts) refl
          where
            off : is_left r ts ≡ false → (b : Bool) → (r == s) ≡ b → b ≡ false
            off l true q = (let clash : true ≡ false = sym h.there ∙ ap (λ (i : ℕ). is_left i ts) (sym (eq_true r s q)) ∙ l in cc clash)
            off l false q = refl

            by : (b : Bool) → is_left r ts ≡ b → span_has s (capped (now factor ts (if b then Sums f us else Sums g vs)) (if b then [] else c ts)) ≡ (r == s)
            by true l = with_caps_is (now factor ts (Sums f us)) [] tt ∙ plain f us k.0 ∙ k.2
            by false l =
                with_caps_is (now factor ts (Sums g vs)) (c ts) ((course_fits (Opened r f us g vs c) m).4.same ts p h k.0).1 ∙ plain g vs k.1 ∙ k.3 ∙ sym (off l (r == s) refl)

    -- the lower form of the coordinate that it opens has it
    pub let_lowers : (c : Course) → In c cs → opened_by s c ≡ true → list_any (form_has s) (at c).lower ≡ true
    let_lowers (Plain f us) m e = absurd (cc e)
    let_lowers (Opened r f us g vs c) m e =
        let k = strange_at (Opened r f us g vs c) m in
        let shut : is_left r ts ≡ true = ap (λ (i : ℕ). is_left i ts) (eq_true r s e) ∙ h.there in
        let named = form_has_at (λ u. u.low) f us k.0 ∙ k.2 ∙ e in
        ap (λ (b : Bool). list_any (form_has s) (now factor ts (if b then Sums f us else Sums g vs)).lower) shut ∙ ap (λ (b : Bool). b || false) named
