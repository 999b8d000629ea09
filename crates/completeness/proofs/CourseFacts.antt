-- What steps that are left have of symbols, and which loops wait for a let.
use Rattle.std.proofs.Common.{◌≡◌, ℕ, ◌+◌, ◌≤◌, Bool, true, false, ◌||◌, not, List, [], ◌∷◌, map, Some, None, refl, sym, ap, ◌∙◌, inl, inr, ◌⊎◌, arith}
use Rattle.std.specs.Prelude.{ℤ, ◌==◌, if◌then◌else◌}
use Rattle.std.specs.List.{AllByRecursion, list_any}
use Rattle.std.specs.Option.{option_map}
use Rattle.lin.specs.Forms.{Form}
use Rattle.lin.specs.declared.span.Span1.{Span1}
use Rattle.plan.specs.declared.stmt.Pick.TheVariants.{Min}
use Rattle.soundness.specs.Claims.{In}
use Rattle.soundness.specs.Obligations.{form_has, span_has, binder_has}
use Rattle.soundness.proofs.Refines.{eq_true}
use Rattle.tails.specs.Moves.{is_loose, joined, single, span_from, taken, over_loop, expanded, opened, below}
use Rattle.completeness.proofs.PlainTurns.{one_if}
use Rattle.completeness.proofs.UpdateTurns.{all_mapped}
use Rattle.completeness.proofs.LoopMoves.{or_none, Item, is_lone, is_left, step_by, One}
use Rattle.completeness.proofs.TailSteps.{Line, Loop, Block, Pair, is_loop}
use Rattle.completeness.proofs.BlockMoves.{Target, Sums, is_of, hits_of, FitsTo, ItemFits, OneFits, TargetFits, left_in, in_left, of_all}
use Rattle.completeness.proofs.BestPicks.{IsOne}
use Rattle.completeness.proofs.Courses.{Course, Plain, Opened, count, target_at, rest_of, line_has, opens, step_line, step, names, FitsCourse, LoopFits, AllFits, CourseFits, Stands}

-- ---- lists

pub some_of : {A : Type 0} (f : A → Bool) (xs : List A) → list_any f xs ≡ true → (x : A) × In x xs × (f x ≡ true)
some_of f [] e = absurd (cc e)
some_of f (x ∷ xs) e = of (f x) refl e (λ k. some_of f xs k)
  where
    of : (b : Bool) → f x ≡ b → (b || list_any f xs) ≡ true → (list_any f xs ≡ true → (y : _) × In y xs × (f y ≡ true)) → (y : _) × In y (x ∷ xs) × (f y ≡ true)
    of true k q rest = (x, inl refl, k)
    of false k q rest = (let r = rest q in (r.0, inr r.1, r.2))

pub none_of : {A : Type 0} (f : A → Bool) (xs : List A) → ((x : A) → In x xs → f x ≡ false) → list_any f xs ≡ false
none_of f [] h = refl
none_of f (x ∷ xs) h = (let here = h x (inl refl) in let rest = none_of f xs (λ y m. h y (inr m)) in λ j. here j || rest j)

pub is_any : {A : Type 0} (f : A → Bool) (xs : List A) (x : A) → In x xs → f x ≡ true → list_any f xs ≡ true
is_any f [] x m e = absurd m
is_any f (y ∷ xs) x (inl k) e = ap (λ (b : Bool). b || list_any f xs) (ap f (sym k) ∙ e)
is_any f (y ∷ xs) x (inr m) e = ap (λ (b : Bool). f y || b) (is_any f xs x m e) ∙ either (f y)
  where
    either : (b : Bool) → (b || true) ≡ true
    either true = refl
    either false = refl

pub of_mapped : {A B : Type 0} (f : A → B) (P : B → Type 0) (xs : List A) → AllByRecursion P (map f xs) → AllByRecursion (λ x. P (f x)) xs
of_mapped f P [] h = tt
of_mapped f P (x ∷ xs) h = (h.0, of_mapped f P xs h.1)

pub in_mapped : {A B : Type 0} (f : A → B) (xs : List A) (x : A) → In x xs → In (f x) (map f xs)
in_mapped f [] x m = absurd m
in_mapped f (y ∷ xs) x (inl e) = inl (ap f e)
in_mapped f (y ∷ xs) x (inr m) = inr (in_mapped f xs x m)

pub out_mapped : {A B : Type 0} (f : A → B) (xs : List A) (y : B) → In y (map f xs) → (x : A) × In x xs × (y ≡ f x)
out_mapped f [] y m = absurd m
out_mapped f (x ∷ xs) y (inl e) = (x, inl refl, e)
out_mapped f (x ∷ xs) y (inr m) = (let r = out_mapped f xs y m in (r.0, inr r.1, r.2))

-- ---- spans of which one has the symbol

module _ (exact : Bool) (shows : Form → Form → Bool) (i : ℕ) (at after : Course → Span1) (q : Course → Bool) where
  -- a loop is taken over that one
  pub taken_count : (x : Span1) (cs : List Course) → ((c : Course) → In c cs → span_has i (at c) ≡ q c) → ((c : Course) → In c cs → q c ≡ false → at c ≡ after c) →
      ((c : Course) → In c cs → q c ≡ true → over_loop exact shows i x (at c) ≡ Some (after c)) → count q cs ≡ 1 → taken exact shows i x (map at cs) ≡ Some (map after cs)
  taken_count x [] named stays moves once = absurd (omega (arith, once))
  taken_count x (c ∷ cs) named stays moves once =
      of (q c) refl once (λ k. taken_count x cs (λ d m. named d (inr m)) (λ d m. stays d (inr m)) (λ d m. moves d (inr m)) k)
    where
      none_more : (ds : List Course) → ((d : Course) → In d ds → In d cs) → count q ds ≡ 0 → (list_any (span_has i) (map at ds) ≡ false) × (map at ds ≡ map after ds)
      none_more [] sub none = (refl, refl)
      none_more (d ∷ ds) sub none = by (q d) refl none (λ k. none_more ds (λ e m. sub e (inr m)) k)
        where
          by : (b : Bool) → q d ≡ b → one_if b + count q ds ≡ 0 → (count q ds ≡ 0 → (list_any (span_has i) (map at ds) ≡ false) × (map at ds ≡ map after ds)) →
              (list_any (span_has i) (map at (d ∷ ds)) ≡ false) × (map at (d ∷ ds) ≡ map after (d ∷ ds))
          by true e k rest = absurd (omega (arith, k))
          by false e k rest =
              let r = rest (omega (arith, k)) in
              let here = named d (inr (sub d (inl refl))) ∙ e in
              let same = stays d (inr (sub d (inl refl))) e in
              let more = r.0 in
              let others = r.1 in
              ((λ j. here j || more j), (λ j. same j ∷ others j))

      of : (b : Bool) → q c ≡ b → one_if b + count q cs ≡ 1 → (count q cs ≡ 1 → taken exact shows i x (map at cs) ≡ Some (map after cs)) →
          taken exact shows i x (map at (c ∷ cs)) ≡ Some (map after (c ∷ cs))
      of true e k rest =
          let none = none_more cs (λ d m. m) (omega (arith, k)) in
          let here = named c (inl refl) ∙ e in
          let others = none.0 in
          let same = none.1 in
          let over = moves c (inl refl) e in
          (λ j. if here j then (if others j then None else option_map (λ z. z ∷ map at cs) (over j)) else option_map (λ zs. at c ∷ zs) (taken exact shows i x (map at cs)))
          ∙ (λ j. Some (after c ∷ same j))
      of false e k rest =
          let here = named c (inl refl) ∙ e in
          let same = stays c (inl refl) e in
          let more = rest (omega (arith, k)) in
          (λ j. if here j then (if list_any (span_has i) (map at cs) then None else option_map (λ z. z ∷ map at cs) (over_loop exact shows i x (at c))) else option_map (λ zs. at c ∷ zs) (more j))
          ∙ (λ j. Some (same j ∷ map after cs))

  -- a let is put in
  pub opened_each : (ls : List Form) (cs : List Course) → ((c : Course) → In c cs →
      span_from (expanded exact shows i (below exact shows Min ls) (at c).lower) (expanded exact shows i ls (at c).upper) ≡ Some (after c)) →
      opened exact shows i Min ls (map at cs) ≡ Some (map after cs)
  opened_each ls [] moves = refl
  opened_each ls (c ∷ cs) moves =
      let here = moves c (inl refl) in
      let rest = opened_each ls cs (λ d m. moves d (inr m)) in
      λ j. joined (single (here j)) (rest j)

-- some span has the symbol that counts once
pub any_count : (i : ℕ) (at : Course → Span1) (q : Course → Bool) (cs : List Course) → ((c : Course) → In c cs → span_has i (at c) ≡ q c) → 1 ≤ count q cs →
    list_any (span_has i) (map at cs) ≡ true
any_count i at q [] named some = absurd (omega (arith, some))
any_count i at q (c ∷ cs) named some =
    ap (λ (b : Bool). b || list_any (span_has i) (map at cs)) (named c (inl refl)) ∙ of (q c) some (λ k. any_count i at q cs (λ d m. named d (inr m)) k)
  where
    of : (b : Bool) → 1 ≤ one_if b + count q cs → (1 ≤ count q cs → list_any (span_has i) (map at cs) ≡ true) → (b || list_any (span_has i) (map at cs)) ≡ true
    of true k rest = refl
    of false k rest = rest (omega (arith, k))

-- ---- steps

module _ (line : ℕ → Line) (lim tops : ℕ → List Form) (factor : ℕ → ℤ) where
  pub binder_is : (i : ℕ) (w : Item) → binder_has i (step line lim tops factor w) ≡ ((w.symbol == i) || names line lim tops factor i w)
  binder_is i w = of (line w.symbol) (lim w.symbol)
    where
      lone : (b : Bool) → binder_has i (step_by b w) ≡ ((w.symbol == i) || false)
      lone true = refl
      lone false = refl

      twice : (a b : Bool) → (a || ((b || false) || (b || (false || false)))) ≡ (a || (b || false))
      twice a true = refl
      twice a false = refl

      of : (l : Line) (fs : List Form) → binder_has i (step_line line lim tops factor l fs w) ≡ ((w.symbol == i) || (line_has i l || (if is_loop l then list_any (form_has i) fs else false)))
      of Loop [] = lone (is_lone w)
      of Loop (f ∷ fs) = refl
      of (Block g z) fs = refl
      of (Pair g z) fs = twice (w.symbol == i) (form_has i g)

  pub loose_is : (i : ℕ) (us : List Item) → is_left i us ≡ false → is_loose i (map (step line lim tops factor) us) ≡ not (list_any (names line lim tops factor i) us)
  loose_is i us away = ap not (of us away)
    where
      of : (us : List Item) → is_left i us ≡ false → list_any (binder_has i) (map (step line lim tops factor) us) ≡ list_any (names line lim tops factor i) us
      of [] k = refl
      of (u ∷ us) k =
          let parts = or_none (u.symbol == i) (is_left i us) k in
          let here = binder_is i u ∙ ap (λ (b : Bool). b || names line lim tops factor i u) parts.0 in
          let rest = of us parts.1 in
          λ j. here j || rest j

  -- what opens is no loop
  pub opener_is : (i : ℕ) (w : Item) → opens line lim tops factor i w ≡ true → is_loop (line w.symbol) ≡ false
  opener_is i w e = of (line w.symbol) e
    where
      of : (l : Line) → line_has i l ≡ true → is_loop l ≡ false
      of Loop k = absurd (cc k)
      of (Block f z) k = refl
      of (Pair f z) k = refl

  module _ (cs : List Course) (all : List Item) (exact : Bool) (fit : AllFits line lim tops factor cs all exact) (ts : List Item) (stands : Stands line lim tops factor cs all ts) where
    abbrev pub gs : List Target
    gs = map (target_at ts) cs

    pub targets_fit : AllByRecursion (TargetFits factor) gs
    targets_fit = all_mapped (target_at ts) (TargetFits factor) cs (each cs fit.courses)
      where
        each : (ds : List Course) → AllByRecursion (CourseFits line lim tops factor cs all) ds → AllByRecursion (λ c. TargetFits factor (target_at ts c)) ds
        each [] h = tt
        each (Plain f us ∷ ds) h = (h.0.0, each ds h.1)
        each (Opened r f us g vs c ∷ ds) h = (of (is_left r ts), each ds h.1)
          where
            of : (b : Bool) → TargetFits factor (if b then Sums f us else Sums g vs)
            of true = h.0.0
            of false = h.0.1

    -- a loop that is in a coordinate now waits for no let
    pub hit_free : (t : Item) → AllByRecursion (FitsCourse line lim tops factor cs all t) cs → (c : Course) → In c cs → is_of t.symbol (target_at ts c) ≡ true →
        (w : Item) → In w ts → opens line lim tops factor t.symbol w ≡ false
    hit_free t fits c m e w mw = of c (of_all (FitsCourse line lim tops factor cs all t) cs c fits m) e
      where
        of : (c : Course) → FitsCourse line lim tops factor cs all t c → is_of t.symbol (target_at ts c) ≡ true → opens line lim tops factor t.symbol w ≡ false
        of (Plain f us) k e = k.1 e w (stands.sub w mw)
        of (Opened r f us g vs c) k e = by k.3 (is_left r ts) refl e
          where
            by : ((is_left t.symbol us ≡ is_left t.symbol vs) × (is_left t.symbol vs ≡ true → (w : Item) → In w all → opens line lim tops factor t.symbol w ≡ false))
                ⊎ ((is_left t.symbol us ≡ false) × ((w : Item) → In w all → opens line lim tops factor t.symbol w ≡ (w.symbol == r))) →
                (b : Bool) → is_left r ts ≡ b → is_of t.symbol (if b then Sums f us else Sums g vs) ≡ true → opens line lim tops factor t.symbol w ≡ false
            by (inl q) true l e = q.1 (sym q.0 ∙ e) w (stands.sub w mw)
            by (inl q) false l e = q.1 e w (stands.sub w mw)
            by (inr q) true l e = (let clash : true ≡ false = sym e ∙ q.0 in absurd (cc clash))
            by (inr q) false l e = q.1 w (stands.sub w mw) ∙ off (w.symbol == r) refl
              where
                off : (b : Bool) → (w.symbol == r) ≡ b → b ≡ false
                off true k = (let clash : true ≡ false = sym (in_left w ts mw) ∙ ap (λ (s : ℕ). is_left s ts) (eq_true w.symbol r k) ∙ l in cc clash)
                off false k = refl

    -- a loop that waits for none is in one coordinate now
    pub now_fits : (t : Item) → LoopFits line lim tops factor cs all t → list_any (opens line lim tops factor t.symbol) ts ≡ false → ItemFits gs t
    now_fits t k free = record {
      fits = all_mapped (target_at ts) (FitsTo t) cs (each cs k.fits);
      once = same cs k.fits ∙ k.once;
      near = k.near;
      last_near = k.last_near;
    }
      where
        each : (ds : List Course) → AllByRecursion (FitsCourse line lim tops factor cs all t) ds → AllByRecursion (λ c. FitsTo t (target_at ts c)) ds
        each [] h = tt
        each (Plain f us ∷ ds) h = (h.0.0, each ds h.1)
        each (Opened r f us g vs c ∷ ds) h = (of (is_left r ts), each ds h.1)
          where
            of : (b : Bool) → FitsTo t (if b then Sums f us else Sums g vs)
            of true = h.0.0
            of false = h.0.1

        one : (c : Course) → FitsCourse line lim tops factor cs all t c → is_of t.symbol (target_at ts c) ≡ is_of t.symbol (rest_of c)
        one (Plain f us) k = refl
        one (Opened r f us g vs c) k = of k.3 (is_left r ts) refl
          where
            of : ((is_left t.symbol us ≡ is_left t.symbol vs) × (is_left t.symbol vs ≡ true → (w : Item) → In w all → opens line lim tops factor t.symbol w ≡ false))
                ⊎ ((is_left t.symbol us ≡ false) × ((w : Item) → In w all → opens line lim tops factor t.symbol w ≡ (w.symbol == r))) →
                (b : Bool) → is_left r ts ≡ b → is_of t.symbol (if b then Sums f us else Sums g vs) ≡ is_left t.symbol vs
            of q false l = refl
            of (inl q) true l = q.0
            of (inr q) true l =
                let w = left_in r ts l in
                let there : list_any (opens line lim tops factor t.symbol) ts ≡ true = is_any (opens line lim tops factor t.symbol) ts w.0 w.1 (q.1 w.0 (stands.sub w.0 w.1) ∙ w.2) in
                let clash : true ≡ false = sym there ∙ free in
                absurd (cc clash)

        same : (ds : List Course) → AllByRecursion (FitsCourse line lim tops factor cs all t) ds → hits_of t.symbol (map (target_at ts) ds) ≡ hits_of t.symbol (map rest_of ds)
        same [] h = refl
        same (c ∷ ds) h = (let here = one c h.0 in let rest = same ds h.1 in λ j. one_if (here j) + rest j)

    -- such a loop of a pick
    pub one_fits : (p : One) → IsOne ts p → LoopFits line lim tops factor cs all p.one → list_any (opens line lim tops factor p.one.symbol) ts ≡ false → OneFits gs ts p
    one_fits p h k free = record {
      here = now_fits p.one k free;
      loose = h.loose;
      apart = h.apart;
      there = h.there;
      same = h.same;
      fewer = h.fewer;
    }
