-- What is so of the steps that are left stays so when one of them is taken.
use Rattle.std.proofs.Common.{◌≡◌, ℕ, Bool, true, false, List, refl, sym, ap, ◌∙◌, subst, inl, inr, ◌⊎◌, arith}
use Rattle.std.specs.Prelude.{ℤ, pos, ◌+ℤ◌, ◌≤ℤ◌, ◌==◌, if◌then◌else◌}
use Rattle.std.specs.List.{AllByRecursion, list_any}
use Rattle.std.proofs.lemmas.Int.{ints}
use Rattle.lin.specs.Forms.{Form}
use Rattle.soundness.specs.Claims.{In}
use Rattle.soundness.proofs.Refines.{eq_refl, eq_true}
use Rattle.completeness.proofs.PureNests.{all_from}
use Rattle.completeness.proofs.UpdateTurns.{all_mapped}
use Rattle.completeness.proofs.LoopMoves.{other_way, Item, is_lone, is_left, One}
use Rattle.completeness.proofs.TailSteps.{Line, is_loop}
use Rattle.completeness.proofs.BlockMoves.{Target, Sums, is_of, FitsTo, OneFits, TargetFits, InOrder, Lowest, keeps, left_in, in_left, of_all}
use Rattle.completeness.proofs.BestPicks.{IsOne}
use Rattle.completeness.proofs.Courses.{Course, Plain, Opened, target_at, opens, FitsCourse, IsTopped, LoopFits, IsStrange, OpenerFits, CourseFits, AllFits, Stands}
use Rattle.completeness.proofs.CourseFacts.{none_of, is_any, of_mapped, in_mapped, gs, hit_free}
use Rattle.completeness.proofs.CourseMoves.{targets, gone_more, target_same, fits_at, strange_at}
use Rattle.completeness.proofs.CourseLets.{waiting}

module _ (line : ℕ → Line) (lim tops : ℕ → List Form) (factor : ℕ → ℤ) (cs : List Course) (all : List Item) (exact : Bool) (fit : AllFits line lim tops factor cs all exact)
    (ts : List Item) (stands : Stands line lim tops factor cs all ts) where
  abbrev goals : List Target
  goals = gs line lim tops factor cs all exact fit ts stands

  -- each loop that waits for no let has one turn
  abbrev pub Turned : Type 0
  Turned = (u : Item) → In u ts → is_loop (line u.symbol) ≡ true → list_any (opens line lim tops factor u.symbol) ts ≡ false → is_lone u ≡ true

  -- a loop of a coordinate is one of all; where it is left it is one of these
  pub among_left : (u : Item) → LoopFits line lim tops factor cs all u → (c : Course) (f : Form) (us : List Item) → In c cs → target_at ts c ≡ Sums f us → In u us → is_left u.symbol ts ≡ true →
      is_loop (line u.symbol) ≡ true → In u ts × (list_any (opens line lim tops factor u.symbol) ts ≡ false)
  among_left u loop c f us m is mu left line_is =
      let w = left_in u.symbol ts left in
      let symbols : w.0.symbol ≡ u.symbol = eq_true w.0.symbol u.symbol w.2 in
      let loop_too : is_loop (line w.0.symbol) ≡ true = ap (λ (i : ℕ). is_loop (line i)) symbols ∙ line_is in
      let fits = (fit.loops w.0 (stands.sub w.0 w.1) loop_too).fits in
      let back : (u.symbol == w.0.symbol) ≡ true = ap (λ (i : ℕ). i == w.0.symbol) (sym symbols) ∙ eq_refl w.0.symbol in
      let same : u ≡ w.0 = (subst (FitsTo w.0) is (to_now w.0 c (of_all (FitsCourse line lim tops factor cs all w.0) cs c fits m))).0 u mu back in
      let hit : is_of u.symbol (target_at ts c) ≡ true = ap (is_of u.symbol) is ∙ in_left u us mu in (
        subst (λ (v : Item). In v ts) (sym same) w.1,
        none_of (opens line lim tops factor u.symbol) ts (λ v k. hit_free line lim tops factor cs all exact fit ts stands u loop.fits c m hit v k),
      )
    where
      to_now : (t : Item) (c : Course) → FitsCourse line lim tops factor cs all t c → FitsTo t (target_at ts c)
      to_now t (Plain f us) k = k.0
      to_now t (Opened r f us g vs c) k = of (is_left r ts)
        where
          of : (b : Bool) → FitsTo t (if b then Sums f us else Sums g vs)
          of true = k.0
          of false = k.1

  module _ (p : One) (h : IsOne ts p) (shows : Form → Form → Bool) where
    abbrev s : ℕ
    s = p.one.symbol

    -- a symbol that is another than the one
    apart_left : (us : List Item) → is_left s us ≡ false → (u : Item) → In u us → (s == u.symbol) ≡ false
    apart_left us none u mu = of (s == u.symbol) refl
      where
        of : (b : Bool) → (s == u.symbol) ≡ b → b ≡ false
        of true e = (let clash : true ≡ false = sym (in_left u us mu) ∙ ap (λ (i : ℕ). is_left i us) (sym (eq_true s u.symbol e)) ∙ none in cc clash)
        of false e = refl

    same_left : (us : List Item) → is_left s us ≡ false → (u : Item) → In u us → is_left u.symbol p.others ≡ is_left u.symbol ts
    same_left us none u mu = h.same u.symbol (apart_left us none u mu)

    order_same : (f : Form) (us : List Item) → is_left s us ≡ false → InOrder factor ts (Sums f us) → InOrder factor p.others (Sums f us)
    order_same f us none order u v mu mv one two gone left = order u v mu mv one two (sym (same_left us none u mu) ∙ gone) (sym (same_left us none v mv) ∙ left)

    -- ---- a loop

    module _ (loop : LoopFits line lim tops factor cs all p.one) (line_is : is_loop (line p.one.symbol) ≡ true) (free : list_any (opens line lim tops factor p.one.symbol) ts ≡ false)
        (one : OneFits goals ts p) (first : ((is_lone p.one ≡ true) × Turned) ⊎ ((is_lone p.one ≡ false) × Lowest factor goals (targets line lim tops factor cs all exact fit ts stands p h
        shows) p ts)) where
      all_targets : AllByRecursion (TargetFits factor) goals
      all_targets = targets line lim tops factor cs all exact fit ts stands p h shows

      order_now : AllByRecursion (λ c. InOrder factor p.others (target_at ts c)) cs
      order_now =
          of_mapped (target_at ts) (InOrder factor p.others) cs
          (keeps factor goals all_targets ts p one (of first) goals (λ g m. m) (all_mapped (target_at ts) (InOrder factor ts) cs stands.order))
        where
          of : ((is_lone p.one ≡ true) × Turned) ⊎ ((is_lone p.one ≡ false) × Lowest factor goals all_targets p ts) → (is_lone p.one ≡ true) ⊎ Lowest factor goals all_targets p ts
          of (inl k) = inl k.0
          of (inr k) = inr k.1

      full_now : (f : Form) (us : List Item) → In (Plain f us) cs → (q : Item) (g : Form) → In q us → IsTopped line lim tops factor cs all q g → is_left q.symbol p.others ≡ true →
          AllByRecursion (λ u. is_left u.symbol p.others ≡ true) us
      full_now f us m q g mq k left = all_from (λ u. is_left u.symbol p.others ≡ true) us one_left
        where
          differs : (s == q.symbol) ≡ false
          differs = of (s == q.symbol) refl
            where
              of : (b : Bool) → (s == q.symbol) ≡ b → b ≡ false
              of true e = (let clash : true ≡ false = sym left ∙ ap (λ (i : ℕ). is_left i p.others) (sym (eq_true s q.symbol e)) ∙ h.loose in cc clash)
              of false e = refl

          before : is_left q.symbol ts ≡ true
          before = sym (h.same q.symbol differs) ∙ left

          sums : CourseFits line lim tops factor cs all (Plain f us)
          sums = of_all (CourseFits line lim tops factor cs all) cs (Plain f us) fit.courses m

          own_q : LoopFits line lim tops factor cs all q
          own_q = fit.loops q (sums.1 q mq).0 (sums.1 q mq).1

          among : In q ts × (list_any (opens line lim tops factor q.symbol) ts ≡ false)
          among = among_left q own_q (Plain f us) f us m refl mq before (sums.1 q mq).1

          never : (u : Item) → In u us → u ≡ p.one → ⊥
          never u mu e = of first
            where
              of : ((is_lone p.one ≡ true) × Turned) ⊎ ((is_lone p.one ≡ false) × Lowest factor goals all_targets p ts) → ⊥
              of (inl lone) = (let clash : true ≡ false = sym (lone.1 q among.0 (sums.1 q mq).1 among.1) ∙ k.turns in cc clash)
              of (inr turns) =
                  let le = turns.1 f us (in_mapped (target_at ts) cs (Plain f us) m) q mq before k.turns in
                  let there : In p.one us = subst (λ (w : Item). In w us) e mu in
                  let ge = (sums.0.has p.one there).2 in
                  let once = k.once in
                  let same : factor p.one.symbol ≡ factor q.symbol = omega (arith, ints, le, ge, once) in
                  let clash : true ≡ false = sym (sums.0.single p.one q there mq turns.0 k.turns same) ∙ differs in
                  cc clash

          one_left : (u : Item) → In u us → is_left u.symbol p.others ≡ true
          one_left u mu = of (s == u.symbol) refl
            where
              of : (b : Bool) → (s == u.symbol) ≡ b → is_left u.symbol p.others ≡ true
              of true e =
                  let back : (u.symbol == s) ≡ true = ap (λ (i : ℕ). i == s) (sym (eq_true s u.symbol e)) ∙ eq_refl s in
                  absurd (never u mu ((fits_at line lim tops factor cs all exact fit ts stands p h shows loop one (Plain f us) m).0.0 u mu back))
              of false e = h.same u.symbol e ∙ of_all (λ u. is_left u.symbol ts ≡ true) us u (stands.full f us m q g mq k before) mu

      stay_now : (t w : Item) → In t all → is_loop (line t.symbol) ≡ true → In w p.others → opens line lim tops factor t.symbol w ≡ true → is_left t.symbol p.others ≡ true
      stay_now t w mt loop_t mw e = of (s == t.symbol) refl
        where
          of : (b : Bool) → (s == t.symbol) ≡ b → is_left t.symbol p.others ≡ true
          of true q =
              let there : opens line lim tops factor s w ≡ true = ap (λ (i : ℕ). opens line lim tops factor i w) (eq_true s t.symbol q) ∙ e in
              let clash : true ≡ false = sym (any_there ts (h.within w mw) there) ∙ free in
              absurd (cc clash)
            where
              any_there : (xs : List Item) → In w xs → opens line lim tops factor s w ≡ true → list_any (opens line lim tops factor s) xs ≡ true
              any_there xs k q = is_any (opens line lim tops factor s) xs w k q
          of false q = h.same t.symbol q ∙ stands.stay t w mt loop_t (h.within w mw) e

      gone_now : (r : ℕ) (f : Form) (us : List Item) (g : Form) (vs : List Item) (c : List Item → List Form) → In (Opened r f us g vs c) cs → is_left r p.others ≡ false →
          (u : Item) → In u us → is_lone u ≡ false → is_left u.symbol p.others ≡ false
      gone_now r f us g vs c m e u mu turns =
          let differs = other_way r s (fits_at line lim tops factor cs all exact fit ts stands p h shows loop one (Opened r f us g vs c) m).2 in
          gone_more line lim tops factor cs all exact fit ts stands p h shows u.symbol (stands.gone r f us g vs c m (sym (h.same r differs) ∙ e) u mu turns)

      pub stands_loop : Stands line lim tops factor cs all p.others
      stands_loop = record {
        apart = h.apart;
        sub = λ t m. stands.sub t (h.within t m);
        order = all_from (λ c. InOrder factor p.others (target_at p.others c)) cs (λ c m.
            subst (InOrder factor p.others) (sym (target_same line lim tops factor cs all exact fit ts stands p h shows loop one c m))
            (of_all (λ c. InOrder factor p.others (target_at ts c)) cs c order_now m));
        full = full_now;
        stay = stay_now;
        gone = gone_now;
      }

    -- ---- a let

    module _ (let_line : is_loop (line p.one.symbol) ≡ false) (opener : OpenerFits line lim tops factor cs all exact p.one)
        (empty : (r : ℕ) (f : Form) (us : List Item) (g : Form) (vs : List Item) (c : List Item → List Form) → In (Opened r f us g vs c) cs → (r == p.one.symbol) ≡ true →
        (u : Item) → In u us → is_lone u ≡ false → is_left u.symbol ts ≡ false) where
      strange : (c : Course) → In c cs → IsStrange line lim tops factor cs all s c
      strange c m = strange_at line lim tops factor cs all exact fit ts stands p h shows let_line opener c m

      order_one : (c : Course) → In c cs → InOrder factor ts (target_at ts c) → InOrder factor p.others (target_at p.others c)
      order_one (Plain f us) m order = order_same f us (strange (Plain f us) m).0 order
      order_one (Opened r f us g vs c) m order = of (r == s) refl
        where
          k : IsStrange line lim tops factor cs all s (Opened r f us g vs c)
          k = strange (Opened r f us g vs c) m

          course : CourseFits line lim tops factor cs all (Opened r f us g vs c)
          course = of_all (CourseFits line lim tops factor cs all) cs (Opened r f us g vs c) fit.courses m

          other : (b : Bool) → is_left r ts ≡ b → is_left r p.others ≡ b → InOrder factor ts (if b then Sums f us else Sums g vs) → InOrder factor p.others (if b then Sums f us else Sums g vs)
          other true l q o = order_same f us k.0 o
          other false l q o = order_same g vs k.1 o

          opening : (r == s) ≡ true → InOrder factor p.others (Sums g vs)
          opening own u v mu mv one two gone left = by (is_left u.symbol us) refl (is_left v.symbol us) refl
            where
              gone_before : is_left u.symbol ts ≡ false
              gone_before = sym (same_left vs k.1 u mu) ∙ gone

              left_before : is_left v.symbol ts ≡ true
              left_before = sym (same_left vs k.1 v mv) ∙ left

              inside_first : (w : Item) → In w vs → is_left w.symbol us ≡ true → In w us
              inside_first w mw e =
                  let q = left_in w.symbol us e in
                  let there = course.3 w mw in
                  let fits = of_all (FitsCourse line lim tops factor cs all w) cs (Opened r f us g vs c) (fit.loops w there.0 there.1).fits m in
                  subst (λ (x : Item). In x us) (fits.0.0 q.0 q.1 q.2) q.1

              shut_is : is_left r ts ≡ true
              shut_is = ap (λ (i : ℕ). is_left i ts) (eq_true r s own) ∙ h.there

              first_order : InOrder factor ts (Sums f us)
              first_order = subst (λ (b : Bool). InOrder factor ts (if b then Sums f us else Sums g vs)) shut_is order

              by : (a : Bool) → is_left u.symbol us ≡ a → (b : Bool) → is_left v.symbol us ≡ b → (factor u.symbol +ℤ pos 1) ≤ℤ factor v.symbol
              by false a b q =
                  let clash : true ≡ false = sym (waiting line lim tops factor cs all exact fit ts stands p h shows let_line opener r f us g vs c m own u mu a) ∙ gone_before in
                  absurd (cc clash)
              by true a false b = course.5 u v mu mv one two a b
              by true a true b = first_order u v (inside_first u mu a) (inside_first v mv b) one two gone_before left_before

          of : (b : Bool) → (r == s) ≡ b → InOrder factor p.others (if is_left r p.others then Sums f us else Sums g vs)
          of true e =
              let out : is_left r p.others ≡ false = ap (λ (i : ℕ). is_left i p.others) (eq_true r s e) ∙ h.loose in
              subst (λ (b : Bool). InOrder factor p.others (if b then Sums f us else Sums g vs)) (sym out) (opening e)
          of false e =
              let still = h.same r (other_way r s e) in
              subst (λ (b : Bool). InOrder factor p.others (if b then Sums f us else Sums g vs)) (sym still) (other (is_left r ts) refl still order)

      full_let : (f : Form) (us : List Item) → In (Plain f us) cs → (q : Item) (g : Form) → In q us → IsTopped line lim tops factor cs all q g → is_left q.symbol p.others ≡ true →
          AllByRecursion (λ u. is_left u.symbol p.others ≡ true) us
      full_let f us m q g mq k left =
          let none = (strange (Plain f us) m).0 in
          let before = stands.full f us m q g mq k (sym (same_left us none q mq) ∙ left) in
          all_from (λ u. is_left u.symbol p.others ≡ true) us (λ u mu. same_left us none u mu ∙ of_all (λ u. is_left u.symbol ts ≡ true) us u before mu)

      not_loop : (t : Item) → is_loop (line t.symbol) ≡ true → (s == t.symbol) ≡ false
      not_loop t loop_t = of (s == t.symbol) refl
        where
          of : (b : Bool) → (s == t.symbol) ≡ b → b ≡ false
          of true e = (let clash : true ≡ false = sym loop_t ∙ ap (λ (i : ℕ). is_loop (line i)) (sym (eq_true s t.symbol e)) ∙ let_line in cc clash)
          of false e = refl

      gone_let : (r : ℕ) (f : Form) (us : List Item) (g : Form) (vs : List Item) (c : List Item → List Form) → In (Opened r f us g vs c) cs → is_left r p.others ≡ false →
          (u : Item) → In u us → is_lone u ≡ false → is_left u.symbol p.others ≡ false
      gone_let r f us g vs c m e u mu turns = of (r == s) refl
        where
          of : (b : Bool) → (r == s) ≡ b → is_left u.symbol p.others ≡ false
          of true own = gone_more line lim tops factor cs all exact fit ts stands p h shows u.symbol (empty r f us g vs c m own u mu turns)
          of false own =
              gone_more line lim tops factor cs all exact fit ts stands p h shows u.symbol (stands.gone r f us g vs c m (sym (h.same r (other_way r s own)) ∙ e) u mu turns)

      pub stands_let : Stands line lim tops factor cs all p.others
      stands_let = record {
        apart = h.apart;
        sub = λ t m. stands.sub t (h.within t m);
        order = all_from (λ c. InOrder factor p.others (target_at p.others c)) cs (λ c m. order_one c m (of_all (λ c. InOrder factor ts (target_at ts c)) cs c stands.order m));
        full = full_let;
        stay = λ t w mt loop_t mw e. h.same t.symbol (not_loop t loop_t) ∙ stands.stay t w mt loop_t (h.within w mw) e;
        gone = gone_let;
      }
