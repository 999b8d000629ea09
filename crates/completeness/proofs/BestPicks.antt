-- One of the steps that are left and the others: what is so of each such pick, which loop is best among them, and which let is first.
use Rattle.std.proofs.Common.{◌≡◌, ℕ, suc, Bool, true, false, ◌||◌, List, [], ◌∷◌, length, map, Option, Some, None, refl, sym, ap, ◌∙◌, subst, inl, inr, ◌⊎◌, arith}
use Rattle.std.specs.Prelude.{ℤ, pos, ◌≤ℤ◌, ◌==◌, if◌then◌else◌}
use Rattle.std.specs.List.{AllByRecursion}
use Rattle.std.proofs.lemmas.Int.{ints}
use Rattle.plan.specs.Semantics.Setting.{or_else}
use Rattle.soundness.specs.Claims.{In}
use Rattle.soundness.specs.Obligations.{Binder}
use Rattle.soundness.proofs.Refines.{eq_refl, eq_true}
use Rattle.tails.specs.Moves.{Choice, behind, choices, first_some, Ready, is_before, preferred}
use Rattle.completeness.proofs.UpdateTurns.{all_mapped}
use Rattle.completeness.proofs.LoopMoves.{true_end, other_way, Item, is_left, AreApart, One, with_it, picks}
use Rattle.completeness.proofs.BlockMoves.{before_le, not_before}
use Rattle.completeness.proofs.BlockCaps.{bests}

-- ---- picks

pub record IsOne (ts : List Item) (p : One) : Type 0 where
  pub loose : is_left p.one.symbol p.others ≡ false
  pub apart : AreApart p.others
  pub there : is_left p.one.symbol ts ≡ true
  pub same : (i : ℕ) → (p.one.symbol == i) ≡ false → is_left i p.others ≡ is_left i ts
  pub fewer : suc (length p.others) ≡ length ts
  pub among : In p.one ts
  pub within : (u : Item) → In u p.others → In u ts
  pub rest : (u : Item) → In u ts → (u ≡ p.one) ⊎ In u p.others

pub all_ones : (ts : List Item) → AreApart ts → AllByRecursion (IsOne ts) (picks ts)
all_ones [] apart = tt
all_ones (t ∷ ts) apart = (
  record {
    loose = apart.0;
    apart = apart.1;
    there = ap (λ (b : Bool). b || is_left t.symbol ts) (eq_refl t.symbol);
    same = λ i e. sym (ap (λ (b : Bool). b || is_left i ts) e);
    fewer = refl;
    among = inl refl;
    within = λ u m. inr m;
    rest = λ u m. m;
  },
  all_mapped (with_it t) (IsOne (t ∷ ts)) (picks ts) (each (picks ts) (all_ones ts apart.1)),
)
  where
    differs : (i : ℕ) → is_left i ts ≡ true → (t.symbol == i) ≡ false
    differs i e = of (t.symbol == i) refl
      where
        of : (b : Bool) → (t.symbol == i) ≡ b → (t.symbol == i) ≡ false
        of true k =
            let clash : true ≡ false = sym e ∙ ap (λ (j : ℕ). is_left j ts) (sym (eq_true t.symbol i k)) ∙ apart.0 in
            absurd (cc clash)
        of false k = k

    kept : (p : One) → ((u : Item) → In u p.others → In u ts) → (u : Item) → In u (t ∷ p.others) → In u (t ∷ ts)
    kept p f u (inl e) = inl e
    kept p f u (inr m) = inr (f u m)

    where_is : (p : One) → ((u : Item) → In u ts → (u ≡ p.one) ⊎ In u p.others) → (u : Item) → In u (t ∷ ts) → (u ≡ p.one) ⊎ In u (t ∷ p.others)
    where_is p f u (inl e) = inr (inl e)
    where_is p f u (inr m) = of (f u m)
      where
        of : (u ≡ p.one) ⊎ In u p.others → (u ≡ p.one) ⊎ In u (t ∷ p.others)
        of (inl e) = inl e
        of (inr k) = inr (inr k)

    each : (ps : List One) → AllByRecursion (IsOne ts) ps → AllByRecursion (λ p. IsOne (t ∷ ts) (with_it t p)) ps
    each [] h = tt
    each (p ∷ ps) h =
        let k = h.0 in
        let away = differs p.one.symbol k.there in (
          record {
            loose = (λ i. away i || k.loose i);
            apart = (k.same t.symbol (other_way t.symbol p.one.symbol away) ∙ apart.0, k.apart);
            there = ap (λ (b : Bool). (t.symbol == p.one.symbol) || b) k.there ∙ true_end (t.symbol == p.one.symbol);
            same = λ i e. ap (λ (b : Bool). (t.symbol == i) || b) (k.same i e);
            fewer = ap suc k.fewer;
            among = inr k.among;
            within = kept p k.within;
            rest = where_is p k.rest;
          },
          each ps h.1,
        )

-- ---- choices

module _ (step : Item → Binder) where
  abbrev pub choice_by : One → Choice
  choice_by p = record { one = step p.one; others = map step p.others }

  pub choices_by : (ts : List Item) → choices (map step ts) ≡ map choice_by (picks ts)
  choices_by [] = refl
  choices_by (t ∷ ts) =
      ap (λ (cs : List Choice). record { one = step t; others = map step ts } ∷ cs) (ap (map (behind (step t))) (choices_by ts) ∙ of (picks ts))
    where
      of : (ps : List One) → map (behind (step t)) (map choice_by ps) ≡ map choice_by (map (with_it t) ps)
      of [] = refl
      of (p ∷ ps) = ap (λ (cs : List Choice). choice_by (with_it t p) ∷ cs) (of ps)

-- ---- the best

module _ {A : Type 0} (r : A → Option Ready) where
  -- no other that is ready has a smaller factor
  pub record IsLeast (ps : List A) (b : Option Ready) : Type 0 where
    pub pick : A
    pub ready : Ready
    pub among : In pick ps
    pub is : r pick ≡ Some ready
    pub best : b ≡ Some ready
    pub least : AllByRecursion (λ q. (z : Ready) → r q ≡ Some z → ready.factor ≤ℤ z.factor) ps

  abbrev pub BestOf : List A → Option Ready → Type 0
  BestOf ps b = ((b ≡ None) × AllByRecursion (λ p. r p ≡ None) ps) ⊎ IsLeast ps b

  pub best_of : (ps : List A) → BestOf ps (bests r r r ps)
  best_of [] = inl (refl, tt)
  best_of (p ∷ ps) = of (r p) refl (best_of ps)
    where
      Lower : Ready → List A → Type 0
      Lower x qs = AllByRecursion (λ q. (z : Ready) → r q ≡ Some z → x.factor ≤ℤ z.factor) qs

      none_lower : (x : Ready) (qs : List A) → AllByRecursion (λ q. r q ≡ None) qs → Lower x qs
      none_lower x [] k = tt
      none_lower x (q ∷ qs) k = ((λ z e. let clash : None ≡ Some z = sym k.0 ∙ e in absurd (cc clash)), none_lower x qs k.1)

      lower : (x y : Ready) → x.factor ≤ℤ y.factor → (qs : List A) → Lower y qs → Lower x qs
      lower x y le [] k = tt
      lower x y le (q ∷ qs) k = ((λ z e. further x.factor y.factor z.factor le (k.0 z e)), lower x y le qs k.1)
        where
          further : (a b d : ℤ) → a ≤ℤ b → b ≤ℤ d → a ≤ℤ d
          further a b d one two = omega (arith, ints, one, two)

      itself : (z : ℤ) → z ≤ℤ z
      itself z = omega (arith, ints)

      own : (x : Ready) → r p ≡ Some x → (y : Ready) → y.factor ≤ℤ x.factor → (z : Ready) → r p ≡ Some z → y.factor ≤ℤ z.factor
      own x e y le z q = (let same : Some x ≡ Some z = sym e ∙ q in let is : x ≡ z = cc same in subst (λ (w : Ready). y.factor ≤ℤ w.factor) is le)

      of : (o : Option Ready) → r p ≡ o → BestOf ps (bests r r r ps) → BestOf (p ∷ ps) (preferred (r p) (bests r r r ps))
      of None e (inl k) = inl ((λ j. preferred (e j) (k.0 j)), (e, k.1))
      of None e (inr k) = inr (record {
        pick = k.pick;
        ready = k.ready;
        among = inr k.among;
        is = k.is;
        best = (let comes = k.best in λ j. preferred (e j) (comes j));
        least = ((λ z q. let clash : None ≡ Some z = sym e ∙ q in absurd (cc clash)), k.least);
      })
      of (Some x) e (inl k) = inr (record {
        pick = p;
        ready = x;
        among = inl refl;
        is = e;
        best = (λ j. preferred (e j) (k.0 j));
        least = (own x e x (itself x.factor), none_lower x ps k.1);
      })
      of (Some x) e (inr k) = by (is_before k.ready x) refl
        where
          goes : preferred (r p) (bests r r r ps) ≡ preferred (Some x) (Some k.ready)
          goes = (let comes = k.best in λ j. preferred (e j) (comes j))

          by : (b : Bool) → is_before k.ready x ≡ b → BestOf (p ∷ ps) (preferred (r p) (bests r r r ps))
          by true q = inr (record {
            pick = k.pick;
            ready = k.ready;
            among = inr k.among;
            is = k.is;
            best = goes ∙ ap (λ (b : Bool). if b then Some k.ready else Some x) q;
            least = (own x e k.ready (before_le (λ m. pos 1) x.factor k.ready.factor k.ready.is_single x.is_single q), k.least);
          })
          by false q = inr (record {
            pick = p;
            ready = x;
            among = inl refl;
            is = e;
            best = goes ∙ ap (λ (b : Bool). if b then Some k.ready else Some x) q;
            least = (own x e x (itself x.factor), lower x k.ready (not_before (λ m. pos 1) x.factor k.ready.factor k.ready.is_single x.is_single q) ps k.least);
          })

-- ---- the first

module _ {A B : Type 0} (f : A → Option B) (Good : A → B → Type 0) where
  abbrev pub Comes : A → Type 0
  Comes x = (f x ≡ None) ⊎ ((y : B) × (f x ≡ Some y) × Good x y)

  pub first_good : (xs : List A) → AllByRecursion Comes xs → (x : A) → In x xs → (f x ≡ None → ⊥) → (z : A) × (y : B) × In z xs × (first_some f xs ≡ Some y) × Good z y
  first_good [] all x m some = absurd m
  first_good (a ∷ xs) all x m some = of all.0 m (λ k. first_good xs all.1 x k some)
    where
      Found : List A → Type 0
      Found ys = (z : A) × (y : B) × In z ys × (first_some f ys ≡ Some y) × Good z y

      of : Comes a → In x (a ∷ xs) → (In x xs → Found xs) → Found (a ∷ xs)
      of (inr (y, e, g)) k rest = (a, y, inl refl, ap (λ (o : Option B). or_else o (first_some f xs)) e, g)
      of (inl e) (inl k) rest = absurd (some (ap f k ∙ e))
      of (inl e) (inr k) rest = (let r = rest k in (r.0, r.1, inr r.2, ap (λ (o : Option B). or_else o (first_some f xs)) e ∙ r.3, r.4))
