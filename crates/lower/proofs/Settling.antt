-- Wherever a nest comes whose loops are split, guarded positions are at most last numbers.
use Rattle.std.proofs.Common.{◌≡◌, ◌≢◌, ◌≤◌, ◌<◌, ◌+◌, ◌==◌, ℕ, suc, Bool, true, false, ◌&&◌, ◌||◌, List, [], ◌∷◌, ◌++◌, length, map, Option, Some, None, refl, sym, ap, subst, ◌∙◌}
use Rattle.std.proofs.Common.{inl, inr, arith}
use Rattle.std.specs.Prelude.{ℤ, pos, negsuc, ◌+ℤ◌, ◌-ℤ◌, ◌*ℤ◌, ◌≤ℤ◌, ◌⊎◌, int_lt, int_le, cond, find, if◌then◌else◌, nat_lt}
use Rattle.std.specs.List.{AllByRecursion, list_any}
use Rattle.std.specs.Int.{int_min, int_max}
use Rattle.std.specs.Ordering.{int_eq}
use Rattle.std.proofs.lemmas.Int.{ints}
use Rattle.std.proofs.lemmas.Bool.Decides.{Decides-int_eq, nat_tests}
use Rattle.lin.specs.Forms.{Form, number, factor_of, plus_term, plus_terms, combined, without}
use Rattle.lin.specs.declared.form.Multiple.{Multiple}
use Rattle.lin.proofs.TermLemmas.{all_weaker, plus_term-all, plus_terms-canonical, sum_of-without}
use Rattle.lin.proofs.Limits.{combined-means}
use Rattle.meaning.specs.Names.{same_name}
use Rattle.plan.specs.declared.stmt.Pick.{Pick}
use Rattle.plan.specs.declared.stmt.Pick.TheVariants.{Min, Max}
use Rattle.plan.specs.Symbols.{Symbols, bind as bind_symbol, form_value, largest, smallest}
use Rattle.sched.specs.declared.schedule.Split.{Split}
use Rattle.sched.specs.declared.schedule.Tail.{Tail}
use Rattle.sched.specs.declared.schedule.Tail.TheVariants as tails
use Rattle.sched.specs.declared.numbers.Numbers.{Numbers}
use Rattle.sched.specs.declared.skeleton.Known.{Known}
use Rattle.sched.specs.declared.skeleton.Step.{Step}
use Rattle.sched.specs.declared.skeleton.Step.TheVariants.{Turns, Named, Tested}
use Rattle.sched.specs.Numbers.{numbers_named}
use Rattle.sched.specs.Order.{Good}
use Rattle.sched.specs.Standing.{StandingText, form_named, alone, is_now, starts_at, is_bound, counted_once, innermost, last_term}
use Rattle.sched.specs.Visits.{picked}
use Rattle.sched.proofs.Leading.{Leads, arrived, leads_apart}
use Rattle.sched.proofs.Standings.{found_all, found_more}
use Rattle.sched.proofs.Told.{Keeps, kept_value, bind_here, bind_keeps, told_alone}
use Rattle.sched.specs.declared.ends.Reach.{Reach}
use Rattle.sched.specs.declared.ends.Run.{Run}
use Rattle.sched.specs.Parted.{begun}
use Rattle.sched.specs.Settled.{picks, tests, tests_if, limited, is_known, is_asked, begin_at, begin_over, begin, keep_by_let, keep_by_guard, keep_by, told_form, put_together, join_over}
use Rattle.sched.specs.Settled.{join, is_guarded, reach_named, enter, is_lanes, settle_by, settle_one, settle, turn, turn_all}
use Rattle.lower.specs.Visited.{HasEnd, AreEnded, AreLets, AreGuarded, GuardedPositionsAreKept}
use Rattle.lower.proofs.Guards.{last_is, less_all, Rises, are_rising, rises_limited, rises_more, is_loop, good_more, good_value, one_times, minus_one, limit_is, limited_back}
use Rattle.lower.proofs.Guards.{limited_says, ended_limited, ended_more}
use Rattle.blocks.proofs.Laying.{bound, same}

-- ---- forms

plus_terms_below : (n : ℕ) (k : ℤ) (ts us : List Multiple) → AllByRecursion (λ t. t.symbol < n) ts → AllByRecursion (λ t. t.symbol < n) us → AllByRecursion (λ t. t.symbol < n) (plus_terms ts k us)
plus_terms_below n k ts [] a b = a
plus_terms_below n k ts (u ∷ us) a b =
    plus_terms_below n k (plus_term ts (record { symbol = u.symbol; factor = k *ℤ u.factor })) us
    (plus_term-all (λ t. t.symbol < n) (λ t. t.symbol < n) (λ x h. h) (record { symbol = u.symbol; factor = k *ℤ u.factor }) b.0 (λ x h. b.0) ts a) b.1

good_sum : (n : ℕ) (a b c : Form) (k : ℤ) → combined a k b ≡ Some c → Good n a → Good n b → Good n c
good_sum n a b c k e h g =
    subst (Good n) (sym (combined-means a k b c e).is)
    (record { below = plus_terms_below n k a.terms b.terms h.below g.below; canonical = plus_terms-canonical a.terms k b.terms h.canonical })

good_number : (n : ℕ) (z : ℤ) → Good n (number z)
good_number n z = record { below = tt; canonical = tt }

good_alone : (n i : ℕ) → i < n → Good n (alone i)
good_alone n i lt = record { below = (lt, tt); canonical = (λ h. omega (arith, ints, h), tt, tt) }

alone_is : (i : ℕ) (v : Symbols) (z : ℤ) (b : Bool) → form_value (alone i) (bind_symbol v i z b) ≡ z
alone_is i v z b = (told_alone (i + 1) i (bind_symbol v i z b) z (omega arith) (bind_here v i z b)).value

all_push : {A : Type 0} (P : A → Type 0) (xs : List A) (x : A) → AllByRecursion P xs → P x → AllByRecursion P (xs ++ x ∷ [])
all_push P [] x a h = (h, tt)
all_push P (y ∷ xs) x a h = (a.0, all_push P xs x a.1 h)

got_bound : (P : ℕ → Type 0) (is : List ℕ) (i : ℕ) → AllByRecursion P is → is_bound is i ≡ true → P i
got_bound P [] i a e = absurd (cc e)
got_bound P (j ∷ is) i a e = of (j == i) refl e (λ k. got_bound P is i a.1 k)
  where
    of : (v : Bool) → (j == i) ≡ v → (v || list_any (λ one. one == i) is) ≡ true → (list_any (λ one. one == i) is ≡ true → P i) → P i
    of true h k rest = let at : j ≡ i = grind (arith, nat_tests) in subst P at a.0
    of false h k rest = rest k

-- the innermost symbol of the form is that of a loop of the nest
record IsInnermost (bound : List ℕ) (f : Form) (i : ℕ) : Type 0 where
  once : factor_of f.terms i ≡ pos 1
  highest : AllByRecursion (λ u. u.symbol ≤ i) f.terms
  there : is_bound bound i ≡ true

once_means : (bound : List ℕ) (t : Multiple) (i : ℕ) → counted_once bound t ≡ Some i → (t.factor ≡ pos 1) × (t.symbol ≡ i) × (is_bound bound t.symbol ≡ true)
once_means bound t i e = of (is_bound bound t.symbol) (int_eq t.factor (pos 1)) refl refl e
  where
    of : (u v : Bool) → is_bound bound t.symbol ≡ u → int_eq t.factor (pos 1) ≡ v → (if u && v then Some t.symbol else None) ≡ Some i
        → (t.factor ≡ pos 1) × (t.symbol ≡ i) × (is_bound bound t.symbol ≡ true)
    of true true h k e = (grind (arith, nat_tests, Decides-int_eq t.factor (pos 1)), same t.symbol i e, h)
    of true false h k e = absurd (cc e)
    of false v h k e = absurd (cc e)

innermost_is : (n : ℕ) (bound : List ℕ) (f : Form) (i : ℕ) → Good n f → innermost bound f ≡ Some i → IsInnermost bound f i
innermost_is n bound f i good e = of (last_term f) refl e
  where
    of : (o : Option Multiple) → last_term f ≡ o → (elim o [ Some t ↦ counted_once bound t | None ↦ None ]) ≡ Some i → IsInnermost bound f i
    of None h e = absurd (cc e)
    of (Some t) h e =
        let k = once_means bound t i e in
        let l = last_is f.terms t h good.canonical in
        subst (IsInnermost bound f) k.1 (record { once = l.factor ∙ k.0; highest = l.highest; there = k.2 })

-- ---- steps

rises_same : (steps : List Step) (n m : ℕ) (low high : Form) → Rises n steps m → Rises n (steps ++ Tested low high ∷ []) m
rises_same [] n m low high r = r
rises_same (Turns i x kind ∷ steps) n m low high r = (r.0, rises_same steps (i + 1) m low high r.1)
rises_same (Named i pick fs ∷ steps) n m low high r = (r.0, rises_same steps (i + 1) m low high r.1)
rises_same (Tested l h ∷ steps) n m low high r = rises_same steps n m low high r

ended_same : (steps : List Step) (low high : Form) → AreEnded steps → AreEnded (steps ++ Tested low high ∷ [])
ended_same [] low high e = tt
ended_same (Turns i x kind ∷ steps) low high e = (e.0, ended_same steps low high e.1)
ended_same (Named i pick fs ∷ steps) low high e = ended_same steps low high e
ended_same (Tested l h ∷ steps) low high e = ended_same steps low high e

rises_turn : (steps : List Step) (n m : ℕ) (q : Run) → Rises n steps m → Rises n (steps ++ Turns m q.span q.kind ∷ []) (m + 1)
rises_turn [] n m q r = (r, omega arith)
rises_turn (Turns i x kind ∷ steps) n m q r = (r.0, rises_turn steps (i + 1) m q r.1)
rises_turn (Named i pick fs ∷ steps) n m q r = (r.0, rises_turn steps (i + 1) m q r.1)
rises_turn (Tested l h ∷ steps) n m q r = rises_turn steps n m q r

ended_turn : (steps : List Step) (m : ℕ) (q : Run) → HasEnd q.span.upper → AreEnded steps → AreEnded (steps ++ Turns m q.span q.kind ∷ [])
ended_turn [] m q has e = (has, tt)
ended_turn (Turns i x kind ∷ steps) m q has e = (e.0, ended_turn steps m q has e.1)
ended_turn (Named i pick fs ∷ steps) m q has e = ended_turn steps m q has e
ended_turn (Tested l h ∷ steps) m q has e = ended_turn steps m q has e

any_left : (P : Step → Bool) (xs ys : List Step) → list_any P xs ≡ true → list_any P (xs ++ ys) ≡ true
any_left P [] ys e = absurd (cc e)
any_left P (x ∷ xs) ys e = of (P x) e (λ k. any_left P xs ys k)
  where
    of : (v : Bool) → (v || list_any P xs) ≡ true → (list_any P xs ≡ true → list_any P (xs ++ ys) ≡ true) → (v || list_any P (xs ++ ys)) ≡ true
    of true h rest = refl
    of false h rest = rest h

any_last : (P : Step → Bool) (xs : List Step) (y : Step) → P y ≡ true → list_any P (xs ++ y ∷ []) ≡ true
any_last P [] y e = ap (λ v. v || false) e
any_last P (x ∷ xs) y e = of (P x) (any_last P xs y e)
  where
    of : (v : Bool) → list_any P (xs ++ y ∷ []) ≡ true → (v || list_any P (xs ++ y ∷ [])) ≡ true
    of true h = refl
    of false h = h

any_limited : (j i : ℕ) (g : Form) (steps : List Step) → list_any (is_loop j) steps ≡ true → list_any (is_loop j) (map (limited i g) steps) ≡ true
any_limited j i g [] e = e
any_limited j i g (Turns k x kind ∷ steps) e = of (k == j) e (λ h. any_limited j i g steps h)
  where
    of : (v : Bool) → (v || list_any (is_loop j) steps) ≡ true → (list_any (is_loop j) steps ≡ true → list_any (is_loop j) (map (limited i g) steps) ≡ true)
        → (v || list_any (is_loop j) (map (limited i g) steps)) ≡ true
    of true h rest = refl
    of false h rest = rest h
any_limited j i g (Named k pick fs ∷ steps) e = any_limited j i g steps e
any_limited j i g (Tested l h ∷ steps) e = any_limited j i g steps e

-- ---- reaches

found_reach : (gs : List Reach) (y : List ℕ) (q : Reach) (n : ℕ) → AllByRecursion (λ h. Good n h.low × Good n h.last) gs → reach_named gs y ≡ Some q → Good n q.low × Good n q.last
found_reach [] y q n a e = absurd (cc e)
found_reach (g ∷ gs) y q n a e = of (same_name g.name y) e (λ k. found_reach gs y q n a.1 k)
  where
    of : (v : Bool) → (if v then Some g else find (λ h. same_name h.name y) gs) ≡ Some q → (find (λ h. same_name h.name y) gs ≡ Some q → Good n q.low × Good n q.last) → Good n q.low × Good n q.last
    of true k rest = subst (λ (h : Reach). Good n h.low × Good n h.last) (same g q k) a.0
    of false k rest = rest k

-- a way past a new loop
turned : (first : List Step) (i : ℕ) (q : Run) (s w : Symbols) → Leads (first ++ Turns i q.span q.kind ∷ []) s w → (v : Symbols) × Leads first s v × Keeps i v w
turned first i q s w l =
    let k = leads_apart first (Turns i q.span q.kind ∷ []) s w l in
    (k.0, k.1, subst (Keeps i k.0) (sym k.2.2) (bind_keeps k.0 i k.2.0 (int_le k.2.0 (largest k.0 q.span.lower))))

-- ---- what stands at a place

module _ (x : List ℕ) (r : Reach) (first n : ℕ) (s : Symbols) where
  -- the first number is at most the last one
  abbrev Ordered : Symbols → Type 0
  Ordered w = form_value r.low w ≤ℤ form_value r.last w

  abbrev AtMost : Form → List Step → Type 0
  AtMost f steps = (w : Symbols) → Leads steps s w → Ordered w → form_value f w ≤ℤ form_value r.last w

  record Stands (st : StandingText) : Type 0 where
    rises : Rises first st.steps st.next
    behind : n ≤ st.next
    ended : AreEnded st.steps
    bound : AllByRecursion (λ i. (n ≤ i) × (list_any (is_loop i) st.steps ≡ true)) st.bound
    known : AllByRecursion (λ k. Good st.next k.form) st.known
    starts : AllByRecursion (λ k. Good st.next k.form) st.starts
    says : (f : Form) → form_named st.known x ≡ Some f → AtMost f st.steps

  -- steps of which each way goes by one of others
  record Follow (steps : List Step) (next : ℕ) (more : List Step) (last : ℕ) : Type 0 where
    rises : Rises first more last
    behind : next ≤ last
    ended : AreEnded more
    loops : (i : ℕ) → list_any (is_loop i) steps ≡ true → list_any (is_loop i) more ≡ true
    by : (w : Symbols) → Leads more s w → (v : Symbols) × Leads steps s v × Keeps next v w

  named_good : (m : ℕ) (ks : List Known) (y : List ℕ) (f : Form) → AllByRecursion (λ k. Good m k.form) ks → form_named ks y ≡ Some f → Good m f
  named_good m ks y f a e = found_all (λ z h. Good m h) ks y f a e

  module _ (low_good : Good n r.low) (last_good : Good n r.last) where
    at_most_on : (f : Form) (steps more : List Step) (next last : ℕ) → n ≤ next → Good next f → Follow steps next more last → AtMost f steps → AtMost f more
    at_most_on f steps more next last le good fo h w way order =
        let k = fo.by w way in
        let one = good_value next f k.0 w good k.2 in
        let two = good_value next r.last k.0 w (good_more n next r.last le last_good) k.2 in
        let three = good_value next r.low k.0 w (good_more n next r.low le low_good) k.2 in
        let most = h k.0 k.1 (omega (arith, ints, order, two, three)) in
        omega (arith, ints, one, two, most)

    stands_on : (st : StandingText) (more : List Step) (last : ℕ) → Stands st → Follow st.steps st.next more last → Stands (record st { steps = more; next = last })
    stands_on st more last h fo =
        let le = h.behind in
        let further = fo.behind in
        record {
          rises = fo.rises;
          behind = omega (arith, le, further);
          ended = fo.ended;
          bound = all_weaker (λ i. (n ≤ i) × (list_any (is_loop i) st.steps ≡ true)) (λ i. (n ≤ i) × (list_any (is_loop i) more ≡ true)) (λ i k. (k.0, fo.loops i k.1)) st.bound h.bound;
          known = all_weaker (λ k. Good st.next k.form) (λ k. Good last k.form) (λ k g. good_more st.next last k.form further g) st.known h.known;
          starts = all_weaker (λ k. Good st.next k.form) (λ k. Good last k.form) (λ k g. good_more st.next last k.form further g) st.starts h.starts;
          says = λ f e. at_most_on f st.steps more st.next last le (named_good st.next st.known x f h.known e) fo (h.says f e);
        }

    follow_let : (st : StandingText) (pick : Pick) (fs : List Form) → Stands st → Follow st.steps st.next (st.steps ++ Named st.next pick fs ∷ []) (st.next + 1)
    follow_let st pick fs h = record {
      rises = rises_more st.steps first st.next pick fs h.rises;
      behind = omega arith;
      ended = ended_more st.steps st.next pick fs h.ended;
      loops = λ i e. any_left (is_loop i) st.steps (Named st.next pick fs ∷ []) e;
      by = λ w l.
          let k = leads_apart st.steps (Named st.next pick fs ∷ []) s w l in
          (k.0, k.1, subst (Keeps st.next k.0) (sym k.2) (bind_keeps k.0 st.next (picked pick fs k.0) true));
    }

    follow_test : (st : StandingText) (low high : Form) → Stands st → Follow st.steps st.next (st.steps ++ Tested low high ∷ []) st.next
    follow_test st low high h = record {
      rises = rises_same st.steps first st.next low high h.rises;
      behind = omega arith;
      ended = ended_same st.steps low high h.ended;
      loops = λ i e. any_left (is_loop i) st.steps (Tested low high ∷ []) e;
      by = λ w l. let k = leads_apart st.steps (Tested low high ∷ []) s w l in (k.0, k.1, subst (Keeps st.next k.0) (sym k.2.1) (λ i lt. refl));
    }

    follow_limit : (st : StandingText) (i : ℕ) (g : Form) → Stands st → Follow st.steps st.next (map (limited i g) st.steps) st.next
    follow_limit st i g h = record {
      rises = rises_limited st.steps first st.next i g h.rises;
      behind = omega arith;
      ended = ended_limited st.steps i g h.ended;
      loops = λ j e. any_limited j i g st.steps e;
      by = λ w l. (w, limited_back i g w st.steps s h.ended l, λ j lt. refl);
    }

    picks_stands : (st : StandingText) (pick : Pick) (a b : Form) → Stands st → Stands (picks pick a b st)
    picks_stands st pick a b h = stands_on st (st.steps ++ Named st.next pick (a ∷ b ∷ []) ∷ []) (st.next + 1) h (follow_let st pick (a ∷ b ∷ []) h)

    tests_stands : (st : StandingText) (low high : Form) → Stands st → Stands (tests low high st)
    tests_stands st low high h = stands_on st (st.steps ++ Tested low high ∷ []) st.next h (follow_test st low high h)

    tests_if_stands : (b : Bool) (st : StandingText) (low high : Form) → Stands st → Stands (tests_if b low high st)
    tests_if_stands true st low high h = tests_stands st low high h
    tests_if_stands false st low high h = h

    now_stands : (st : StandingText) (y : List ℕ) (f : Form) → Stands st → Good st.next f → (y ≡ x → AtMost f st.steps) → Stands (is_now y f st)
    now_stands st y f h good new =
        let k : Known = record { name = y; form = f } in
        record {
          rises = h.rises;
          behind = h.behind;
          ended = h.ended;
          bound = h.bound;
          known = all_push (λ m. Good st.next m.form) st.known k h.known good;
          starts = h.starts;
          says = λ g e. of g (found_more st.known k x g e);
        }
      where
        of : (g : Form) → (form_named st.known x ≡ Some g) ⊎ ((y ≡ x) × (f ≡ g)) → AtMost g st.steps
        of g (inl e) = h.says g e
        of g (inr e) = subst (λ (l : Form). AtMost l st.steps) e.1 (new e.0)

    starts_stands : (st : StandingText) (y : List ℕ) (f : Form) → Stands st → Good st.next f → Stands (starts_at y f st)
    starts_stands st y f h good = record {
      rises = h.rises;
      behind = h.behind;
      ended = h.ended;
      bound = h.bound;
      known = h.known;
      starts = all_push (λ m. Good st.next m.form) st.starts (record { name = y; form = f }) h.starts good;
      says = h.says;
    }

    -- ---- blocks

    begin_at_stands : (t : Tail) (y : List ℕ) (m : ℕ) (last f : Form) (st new : StandingText) → Stands st → Good st.next f → begin_at t y m last f st ≡ Some new → Stands new
    begin_at_stands tails.Shift y m last f st new h good e =
        let b = bound (combined (number (pos 1 -ℤ pos m)) (pos 1) last) (λ room. Some (starts_at y (alone st.next) (picks Min f room st))) new e in
        subst Stands (same (starts_at y (alone st.next) (picks Min f b.value st)) new b.comes)
        (starts_stands (picks Min f b.value st) y (alone st.next) (picks_stands st Min f b.value h) (good_alone (st.next + 1) st.next (omega arith)))
    begin_at_stands tails.Guard y m last f st new h good e = subst Stands (same (starts_at y f st) new e) (starts_stands st y f h good)
    begin_at_stands tails.Roundup y m last f st new h good e = subst Stands (same (starts_at y f st) new e) (starts_stands st y f h good)

    tested_good : (b : Bool) (st : StandingText) (low high f : Form) → Good st.next f → Good (tests_if b low high st).next f
    tested_good true st low high f g = g
    tested_good false st low high f g = g

    begin_over_stands : (c : Split) (q : Reach) (o : Option Form) (st new : StandingText) → Good n q.low → Stands st → form_named st.known c.outer ≡ o → begin_over c q o st ≡ Some new → Stands new
    begin_over_stands c q None st new low h k e = subst Stands (same st new e) h
    begin_over_stands c q (Some outer) st new low h k e =
        let t : Form → StandingText = λ f. tests_if (is_asked c q st) f q.last st in
        let b = bound (combined q.low (pos c.factor) outer) (λ f. begin_at c.tail c.whole c.factor q.last f (t f)) new e in
        let good = good_sum st.next q.low outer b.value (pos c.factor) b.is (good_more n st.next q.low h.behind low) (named_good st.next st.known c.outer outer h.known k) in
        begin_at_stands c.tail c.whole c.factor q.last b.value (t b.value) new (tests_if_stands (is_asked c q st) st b.value q.last h)
        (tested_good (is_asked c q st) st b.value q.last b.value good) b.comes

    begin_stands : (c : Split) (q : Reach) (st new : StandingText) → Good n q.low → Stands st → begin c q st ≡ Some new → Stands new
    begin_stands c q st new low h e = of (is_known st.starts c.whole) e
      where
        of : (b : Bool) → (if b then Some st else begin_over c q (form_named st.known c.outer) st) ≡ Some new → Stands new
        of true k = subst Stands (same st new k) h
        of false k = begin_over_stands c q (form_named st.known c.outer) st new low h refl k

    -- ---- positions

    -- of the loop itself it is told that its own position is at most its own last number
    abbrev IsOwn : List ℕ → Reach → Form → Form → Type 0
    IsOwn y q f told = y ≡ x → (q ≡ r) × (told ≡ f)

    loop_says : (st : StandingText) (f limit : Form) (i : ℕ) → Stands st → IsInnermost st.bound f i → combined r.last (negsuc 0) (without f i) ≡ Some limit → AtMost f (map (limited i limit) st.steps)
    loop_says st f limit i h inner e w way order =
        let there = got_bound (λ j. (n ≤ j) × (list_any (is_loop j) st.steps ≡ true)) st.bound i h.bound inner.there in
        let behind = there.0 in
        let value : form_value limit w ≡ form_value r.last w +ℤ negsuc 0 *ℤ form_value (without f i) w = limit_is r.last f limit i w e in
        let stays : (v : Symbols) → Keeps i v w → form_value limit v ≡ form_value limit w = λ v k.
        let one = kept_value r.last i v w k (all_weaker (λ u. u.symbol < n) (λ u. u.symbol < i) (λ u lt. omega (arith, lt, behind)) r.last.terms last_good.below) in
        let two = kept_value (without f i) i v w k (less_all i f.terms inner.highest) in
        limit_is r.last f limit i v e ∙ (λ j. sym one j +ℤ negsuc 0 *ℤ sym two j) ∙ sym value
        in
        let most = limited_says i limit w stays st.steps first s h.ended (are_rising st.steps first st.next h.rises) there.1 way in
        let parts : form_value f w ≡ form_value (without f i) w +ℤ factor_of f.terms i *ℤ w.value i = (let k = sum_of-without i f.terms w.value in omega (arith, ints, k)) in
        let once : factor_of f.terms i *ℤ w.value i ≡ w.value i = ap (λ (k : ℤ). k *ℤ w.value i) inner.once ∙ one_times (w.value i) in
        let less = minus_one (form_value (without f i) w) in
        omega (arith, ints, most, value, parts, once, less)

    by_loop_stands : (y : List ℕ) (q : Reach) (f told limit : Form) (i : ℕ) (st : StandingText) → Stands st → Good st.next f → IsOwn y q f told → IsInnermost st.bound f i
        → combined q.last (negsuc 0) (without told i) ≡ Some limit → Stands (is_now y f (record st { steps = map (limited i limit) st.steps }))
    by_loop_stands y q f told limit i st h good own inner e =
        now_stands (record st { steps = map (limited i limit) st.steps }) y f (stands_on st (map (limited i limit) st.steps) st.next h (follow_limit st i limit h)) good
        (λ it. let is = own it in
        loop_says st f limit i h inner
        ((λ j. combined (sym is.0 j).last (negsuc 0) (without (sym is.1 j) i)) ∙ e))

    test_says : (st : StandingText) (f : Form) → AtMost f (st.steps ++ Tested f r.last ∷ [])
    test_says st f w way order =
        let k = leads_apart st.steps (Tested f r.last ∷ []) s w way in
        let most = k.2.0 in
        subst (λ (v : Symbols). form_value f v ≤ℤ form_value r.last v) (sym k.2.1) most

    smaller_most : (a b : ℤ) → int_min a b ≤ℤ b
    smaller_most a b = of (int_lt b a) refl
      where
        of : (v : Bool) → int_lt b a ≡ v → cond v b a ≤ℤ b
        of true e = omega (arith, ints)
        of false e = grind (ints, arith)

    greater_most : (a b c : ℤ) → a ≤ℤ c → b ≤ℤ c → int_max a b ≤ℤ c
    greater_most a b c h k = of (int_lt b a)
      where
        of : (v : Bool) → cond v a b ≤ℤ c
        of true = h
        of false = k

    let_says : (st : StandingText) (f : Form) → n ≤ st.next → AtMost (alone st.next) (st.steps ++ Named st.next Min (f ∷ r.last ∷ []) ∷ [])
    let_says st f le w way order =
        let k = leads_apart st.steps (Named st.next Min (f ∷ r.last ∷ []) ∷ []) s w way in
        let v : Symbols = k.0 in
        let z : ℤ = smallest v (f ∷ r.last ∷ []) in
        let after : Symbols = bind_symbol v st.next z true in
        let is = alone_is st.next v z true in
        let same_last = good_value st.next r.last v after (good_more n st.next r.last le last_good) (bind_keeps v st.next z true) in
        let most = smaller_most (form_value f v) (form_value r.last v) in
        subst (λ (u : Symbols). form_value (alone st.next) u ≤ℤ form_value r.last u) (sym k.2) (omega (arith, ints, most, is, same_last))

    max_says : (st : StandingText) (g : Form) → n ≤ st.next → AtMost g st.steps → AtMost (alone st.next) (st.steps ++ Named st.next Max (g ∷ r.low ∷ []) ∷ [])
    max_says st g le h w way order =
        let k = leads_apart st.steps (Named st.next Max (g ∷ r.low ∷ []) ∷ []) s w way in
        let v : Symbols = k.0 in
        let z : ℤ = largest v (g ∷ r.low ∷ []) in
        let after : Symbols = bind_symbol v st.next z true in
        let is = alone_is st.next v z true in
        let same_last = good_value st.next r.last v after (good_more n st.next r.last le last_good) (bind_keeps v st.next z true) in
        let same_low = good_value st.next r.low v after (good_more n st.next r.low le low_good) (bind_keeps v st.next z true) in
        let order_after : form_value r.low after ≤ℤ form_value r.last after = subst Ordered k.2 order in
        let before : form_value r.low v ≤ℤ form_value r.last v = omega (arith, ints, order_after, same_last, same_low) in
        let most = greater_most (form_value g v) (form_value r.low v) (form_value r.last v) (h v k.1 before) before in
        subst (λ (u : Symbols). form_value (alone st.next) u ≤ℤ form_value r.last u) (sym k.2) (omega (arith, ints, most, is, same_last))

    by_let_stands : (y : List ℕ) (q : Reach) (f : Form) (st : StandingText) → Stands st → (y ≡ x → q ≡ r) → Stands (keep_by_let y q f st)
    by_let_stands y q f st h own = of q.is_told
      where
        le : n ≤ st.next
        le = h.behind

        one_stands : Stands (picks Min f q.last st)
        one_stands = picks_stands st Min f q.last h

        says_one : q ≡ r → AtMost (alone st.next) (st.steps ++ Named st.next Min (f ∷ q.last ∷ []) ∷ [])
        says_one e = subst (λ (p : Reach). AtMost (alone st.next) (st.steps ++ Named st.next Min (f ∷ p.last ∷ []) ∷ [])) (sym e) (let_says st f le)

        says_two : q ≡ r → AtMost (alone (st.next + 1)) ((picks Min f q.last st).steps ++ Named (st.next + 1) Max (alone st.next ∷ q.low ∷ []) ∷ [])
        says_two e =
            subst (λ (p : Reach). AtMost (alone (st.next + 1)) ((picks Min f q.last st).steps ++ Named (st.next + 1) Max (alone st.next ∷ p.low ∷ []) ∷ [])) (sym e)
            (max_says (picks Min f q.last st) (alone st.next) (omega (arith, le)) (says_one e))

        of : (b : Bool) → Stands (if b then is_now y (alone st.next) (picks Min f q.last st)
            else is_now y (alone (st.next + 1)) (picks Max (alone st.next) q.low (picks Min f q.last st)))
        of true = now_stands (picks Min f q.last st) y (alone st.next) one_stands (good_alone (st.next + 1) st.next (omega arith)) (λ it. says_one (own it))
        of false =
            now_stands (picks Max (alone st.next) q.low (picks Min f q.last st)) y (alone (st.next + 1)) (picks_stands (picks Min f q.last st) Max (alone st.next) q.low one_stands)
            (good_alone (st.next + 1 + 1) (st.next + 1) (omega arith)) (λ it. says_two (own it))

    by_guard_stands : (lane : Bool) (y : List ℕ) (q : Reach) (f : Form) (st : StandingText) → Stands st → Good st.next f → (y ≡ x → q ≡ r) → Stands (keep_by_guard lane y q f st)
    by_guard_stands true y q f st h good own =
        now_stands (tests f q.last st) y f (tests_stands st f q.last h) good
        (λ it. subst (λ (p : Reach). AtMost f (st.steps ++ Tested f p.last ∷ [])) (sym (own it)) (test_says st f))
    by_guard_stands false y q f st h good own = by_let_stands y q f (tests f q.last st) (tests_stands st f q.last h) own

    keep_by_stands : (lane : Bool) (y : List ℕ) (q : Reach) (f told : Form) (o : Option ℕ) (st new : StandingText) → Stands st → Good st.next f → IsOwn y q f told
        → innermost st.bound f ≡ o → keep_by lane y q f told o st ≡ Some new → Stands new
    keep_by_stands lane y q f told None st new h good own k e =
        subst Stands (same (keep_by_guard lane y q f st) new e) (by_guard_stands lane y q f st h good (λ it. (own it).0))
    keep_by_stands lane y q f told (Some i) st new h good own k e =
        let b = bound (combined q.last (negsuc 0) (without told i)) (λ limit. Some (is_now y f (record st { steps = map (limited i limit) st.steps }))) new e in
        subst Stands (same (is_now y f (record st { steps = map (limited i b.value) st.steps })) new b.comes)
        (by_loop_stands y q f told b.value i st h good own (innermost_is st.next st.bound f i good k) b.is)

    -- a split of the loop itself is a guarded one of other blocks than of one number
    abbrev IsGuarding : Bool → Split → Reach → Type 0
    IsGuarding guarded c q = c.whole ≡ x → (q ≡ r) × (guarded ≡ true) × ((c.factor == 1) ≡ false)

    told_is : (c : Split) (blocks : ℕ) (start f : Form) → (c.factor == 1) ≡ false → told_form c blocks start f ≡ f
    told_is c blocks start f e = ap (λ v. if v && nat_lt 1 blocks then start else f) e

    put_stands : (lane guarded : Bool) (c : Split) (blocks : ℕ) (q : Reach) (start f : Form) (st new : StandingText) → Stands st → Good st.next f → IsGuarding guarded c q
        → put_together lane guarded c blocks q start f st ≡ Some new → Stands new
    put_stands lane true c blocks q start f st new h two own e =
        keep_by_stands lane c.whole q f (told_form c blocks start f) (innermost st.bound f) st new h two
        (λ it. ((own it).0, told_is c blocks start f (own it).2)) refl e
    put_stands lane false c blocks q start f st new h two own e =
        subst Stands (same (is_now c.whole f st) new e) (now_stands st c.whole f h two (λ it. absurd (cc (own it).1)))

    join_over_stands : (lane guarded : Bool) (c : Split) (blocks : ℕ) (q : Reach) (o p : Option Form) (st new : StandingText) → Stands st → form_named st.starts c.whole ≡ o
        → form_named st.known c.inner ≡ p → IsGuarding guarded c q → join_over lane guarded c blocks q o p st ≡ Some new → Stands new
    join_over_stands lane guarded c blocks q None p st new h a b own e = subst Stands (same st new e) h
    join_over_stands lane guarded c blocks q (Some start) None st new h a b own e = subst Stands (same st new e) h
    join_over_stands lane guarded c blocks q (Some start) (Some inner) st new h a b own e =
        let k = bound (combined start (pos 1) inner) (λ f. put_together lane guarded c blocks q start f st) new e in
        let one = named_good st.next st.starts c.whole start h.starts a in
        let two = named_good st.next st.known c.inner inner h.known b in
        put_stands lane guarded c blocks q start k.value st new h (good_sum st.next start inner k.value (pos 1) k.is one two) own k.comes

    join_stands : (lane guarded : Bool) (c : Split) (blocks : ℕ) (q : Reach) (st new : StandingText) → Stands st → IsGuarding guarded c q → join lane guarded c blocks q st ≡ Some new → Stands new
    join_stands lane guarded c blocks q st new h own e = of (is_known st.known c.whole) e
      where
        of : (b : Bool) → (if b then Some st else join_over lane guarded c blocks q (form_named st.starts c.whole) (form_named st.known c.inner) st) ≡ Some new → Stands new
        of true k = subst Stands (same st new k) h
        of false k = join_over_stands lane guarded c blocks q (form_named st.starts c.whole) (form_named st.known c.inner) st new h refl refl own k

    -- ---- splits and loops

    module _ (ns : List Numbers) (hs : List Reach) (all : List Split) (reached : reach_named hs x ≡ Some r) (ends : AllByRecursion (λ h. Good n h.low × Good n h.last) hs) where
      settle_one_stands : (lane : Bool) (c : Split) (st new : StandingText) → Stands st → (c.whole ≡ x → (is_guarded ns all c r ≡ true) × ((c.factor == 1) ≡ false))
          → settle_one ns hs all lane c st ≡ Some new → Stands new
      settle_one_stands lane c st new h own e =
          let b = bound (reach_named hs c.whole) (λ q. settle_by ns all lane c q st) new e in
          let q : Reach = b.value in
          let a = bound (begin c q st) (join lane (is_guarded ns all c q) c (numbers_named ns c.outer).count q) new b.comes in
          let good = found_reach hs c.whole q n ends b.is in
          let is : c.whole ≡ x → q ≡ r = λ it. same q r (sym b.is ∙ ap (reach_named hs) it ∙ reached) in
          join_stands lane (is_guarded ns all c q) c (numbers_named ns c.outer).count q a.value new (begin_stands c q st a.value good.0 h a.is)
          (λ it. (is it, ap (is_guarded ns all c) (is it) ∙ (own it).0, (own it).1)) a.comes

      settle_stands : (lane : Bool) (cs : List Split) (st new : StandingText) → Stands st → AreGuarded ns all x r cs → settle ns hs all lane cs st ≡ Some new → Stands new
      settle_stands lane [] st new h g e = subst Stands (same st new e) h
      settle_stands lane (c ∷ cs) st new h g e =
          let b = bound (settle_one ns hs all lane c st) (settle ns hs all lane cs) new e in
          settle_stands lane cs b.value new (settle_one_stands lane c st b.value h g.0 b.is) g.1 b.comes

      enter_stands : (q : Run) (st : StandingText) → Stands st → q.name ≢ x → HasEnd q.span.upper → Stands (enter q st)
      enter_stands q st h other has =
          let le = h.behind in
          let more : List Step = st.steps ++ Turns st.next q.span q.kind ∷ [] in
          let follow : Follow st.steps st.next more (st.next + 1) = record {
            rises = rises_turn st.steps first st.next q h.rises;
            behind = omega arith;
            ended = ended_turn st.steps st.next q has h.ended;
            loops = λ i e. any_left (is_loop i) st.steps (Turns st.next q.span q.kind ∷ []) e;
            by = λ w l. turned st.steps st.next q s w l;
          } in
          let on = stands_on st more (st.next + 1) h follow in
          let inside : StandingText = record st { bound = st.bound ++ st.next ∷ []; next = st.next + 1; steps = more } in
          let own : (st.next == st.next) ≡ true = grind (arith, nat_tests) in
          now_stands inside q.name (alone st.next)
          (record {
            rises = on.rises;
            behind = on.behind;
            ended = on.ended;
            bound = all_push (λ i. (n ≤ i) × (list_any (is_loop i) more ≡ true)) st.bound st.next on.bound (le, any_last (is_loop st.next) st.steps (Turns st.next q.span q.kind) own);
            known = on.known;
            starts = on.starts;
            says = on.says;
          })
          (good_alone (st.next + 1) st.next (omega arith)) (λ it. absurd (other it))

      turn_all_stands : (qs : List Run) (st new : StandingText) → Stands st → AreGuarded ns all x r all → AllByRecursion (λ q. q.name ≢ x) qs → AllByRecursion (λ q. HasEnd q.span.upper) qs
          → turn_all ns hs all qs st ≡ Some new → Stands new
      turn_all_stands [] st new h g others has e = subst Stands (same st new e) h
      turn_all_stands (q ∷ qs) st new h g others has e =
          let b = bound (turn ns hs all q st) (turn_all ns hs all qs) new e in
          let inside = settle_stands (is_lanes q.kind) all (enter q st) b.value (enter_stands q st h others.0 has.0) g b.is in
          turn_all_stands qs b.value new inside g others.1 has.1 b.comes

-- ---- before all loops

lets_rise : (lets : List Step) (n : ℕ) → AreLets n lets → Rises n lets (n + length lets)
lets_rise [] n a = omega arith
lets_rise (Named i pick fs ∷ lets) n a =
    let at = a.0 in
    let rest = lets_rise lets (n + 1) a.1 in
    let end : (n + 1) + length lets ≡ n + suc (length lets) = omega arith in
    (omega (arith, at), subst (λ (k : ℕ). Rises (k + 1) lets (n + suc (length lets))) (sym at) (subst (Rises (n + 1) lets) end rest))
lets_rise (Turns i x kind ∷ lets) n a = absurd a
lets_rise (Tested low high ∷ lets) n a = absurd a

lets_end : (lets : List Step) (n : ℕ) → AreLets n lets → AreEnded lets
lets_end [] n a = tt
lets_end (Named i pick fs ∷ lets) n a = lets_end lets (n + 1) a.1
lets_end (Turns i x kind ∷ lets) n a = absurd a
lets_end (Tested low high ∷ lets) n a = absurd a

pub guarded_positions_are_kept : GuardedPositionsAreKept
guarded_positions_are_kept ns hs all rs n lets st made named x r loop f found s u comes order =
    let m = n + length lets in
    let good = found_reach hs x r m loop.ends loop.reached in
    let start : Stands x r n m s (begun n lets) = record {
      rises = lets_rise lets n named;
      behind = omega arith;
      ended = lets_end lets n named;
      bound = tt;
      known = tt;
      starts = tt;
      says = λ g e. absurd (cc e);
    } in
    let all_stand = turn_all_stands x r n m s good.0 good.1 ns hs all loop.reached loop.ends rs (begun n lets) st start loop.guarded loop.taken loop.ended made in
    all_stand.says f found u (arrived st.steps s u comes) order
