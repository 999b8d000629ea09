-- The variables of a function whose loops are split once, and the loops of a nest: which coordinate each loop is in; and terms of positions within blocks.
use Rattle.std.proofs.Common.{◌≡◌, ℕ, ◌≤◌, ◌^◌, Bool, true, false, ◌||◌, not, List, [], ◌∷◌, ◌++◌, Option, Some, None}
use Rattle.std.proofs.Common.{refl, sym, ap, ◌∙◌, inl, inr, ◌⊎◌, arith}
use Rattle.std.specs.Prelude.{ℤ, pos, negsuc, ◌+ℤ◌, ◌*ℤ◌, ◌==◌, nat_lt, if◌then◌else◌, filter, find}
use Rattle.std.specs.Int.RustNames.{unsigned_abs}
use Rattle.std.proofs.lemmas.Int.{ints}
use Rattle.lin.specs.Forms.{Form, number, is_within_limits, plus_term, plus_multiple, without, combined}
use Rattle.lin.proofs.Limits.{combined-made}
use Rattle.meaning.specs.Names.{same_name}
use Rattle.soundness.specs.Claims.{In}
use Rattle.soundness.proofs.Refines.{eq_refl, name_refl, name_true}
use Rattle.sched.specs.declared.schedule.Split.{Split}
use Rattle.sched.specs.declared.placing.Loop.{Loop}
use Rattle.sched.specs.declared.numbers.Numbers.{Numbers}
use Rattle.sched.specs.declared.skeleton.Known.{Known}
use Rattle.sched.specs.declared.nest.Turning.{Turning}
use Rattle.sched.specs.Numbers.{numbers_named, last_number}
use Rattle.sched.specs.Standing.{form_named, is_half}
use Rattle.completeness.proofs.GridScope.{number_limited}
use Rattle.completeness.proofs.SelfBounds.{term_gone}
use Rattle.completeness.proofs.Searched.{one_of}
use Rattle.completeness.proofs.Halves.{AreOthers, by_inner, inner_outer}
use Rattle.completeness.proofs.Lanes.{AreOnce}
use Rattle.completeness.proofs.GuardSums.{left_over}
use Rattle.completeness.proofs.BlockSums.{multiple, pair, one_limited}
use Rattle.completeness.proofs.BlockDims.{apart_name}

-- ---- splits that are found

found_in : (test : Split → Bool) (cs : List Split) (c : Split) → In c cs → test c ≡ true → (d : Split) × In d cs × (test d ≡ true) × (find test cs ≡ Some d)
found_in test [] c m e = absurd m
found_in test (b ∷ cs) c m e = of (test b) refl m (λ k. found_in test cs c k e)
  where
    of : (v : Bool) → test b ≡ v → In c (b ∷ cs) → (In c cs → (d : Split) × In d cs × (test d ≡ true) × (find test cs ≡ Some d)) →
        (d : Split) × In d (b ∷ cs) × (test d ≡ true) × ((if v then Some b else find test cs) ≡ Some d)
    of true q k rest = (b, inl refl, q, refl)
    of false q (inl same) rest = (let clash : true ≡ false = sym e ∙ ap test same ∙ q in absurd (cc clash))
    of false q (inr k) rest = (let r = rest k in (r.0, inr r.1, r.2, r.3))

found_not : (test : Split → Bool) (cs : List Split) → ((d : Split) → In d cs → test d ≡ false) → find test cs ≡ None
found_not test [] h = refl
found_not test (c ∷ cs) h = ap (λ (b : Bool). if b then Some c else find test cs) (h c (inl refl)) ∙ found_not test cs (λ d m. h d (inr m))

either_true : (a b : Bool) → (a || b) ≡ true → (a ≡ true) ⊎ (b ≡ true)
either_true true b e = inl refl
either_true false b e = inr e

-- ---- terms that are kept

pub kept_first : (keep : ℕ → Bool) (s : ℕ) (c : ℤ) (m : ℕ) → keep s ≡ true → keep m ≡ false →
    filter (λ t. keep t.symbol) (if nat_lt s m then multiple s c ∷ multiple m (pos 1) ∷ [] else multiple m (pos 1) ∷ multiple s c ∷ []) ≡ multiple s c ∷ []
kept_first keep s c m there gone = of (nat_lt s m)
  where
    of : (b : Bool) → filter (λ t. keep t.symbol) (if b then multiple s c ∷ multiple m (pos 1) ∷ [] else multiple m (pos 1) ∷ multiple s c ∷ []) ≡ multiple s c ∷ []
    of true = λ j. if there j then multiple s c ∷ (if gone j then multiple m (pos 1) ∷ [] else []) else (if gone j then multiple m (pos 1) ∷ [] else [])
    of false = λ j. if gone j then multiple m (pos 1) ∷ (if there j then multiple s c ∷ [] else []) else (if there j then multiple s c ∷ [] else [])

pub kept_neither : (keep : ℕ → Bool) (s : ℕ) (c : ℤ) (m : ℕ) → keep s ≡ false → keep m ≡ false →
    filter (λ t. keep t.symbol) (if nat_lt s m then multiple s c ∷ multiple m (pos 1) ∷ [] else multiple m (pos 1) ∷ multiple s c ∷ []) ≡ []
kept_neither keep s c m one two = of (nat_lt s m)
  where
    of : (b : Bool) → filter (λ t. keep t.symbol) (if b then multiple s c ∷ multiple m (pos 1) ∷ [] else multiple m (pos 1) ∷ multiple s c ∷ []) ≡ []
    of true = λ j. if one j then multiple s c ∷ (if two j then multiple m (pos 1) ∷ [] else []) else (if two j then multiple m (pos 1) ∷ [] else [])
    of false = λ j. if two j then multiple m (pos 1) ∷ (if one j then multiple s c ∷ [] else []) else (if one j then multiple s c ∷ [] else [])

pub no_more : (fs : List Form) → fs ++ [] ≡ fs
no_more [] = refl
no_more (f ∷ fs) = ap (λ (gs : List Form). f ∷ gs) (no_more fs)

-- a position without the symbol within its block
pub without_pair : (z : ℤ) (s : ℕ) (c : ℤ) (m : ℕ) → (s == m) ≡ false → without (pair z s c m) m ≡ one_of z c s
without_pair z s c m differ = of (nat_lt s m)
  where
    here : (m == m) ≡ true
    here = eq_refl m

    of : (b : Bool) → without (record { constant = z; terms = if b then multiple s c ∷ multiple m (pos 1) ∷ [] else multiple m (pos 1) ∷ multiple s c ∷ [] }) m ≡ one_of z c s
    of true = λ j. record {
      constant = z;
      terms = if not (differ j) then multiple s c ∷ (if not (here j) then multiple m (pos 1) ∷ [] else []) else (if not (here j) then multiple m
          (pos 1) ∷ [] else []);
    }
    of false = λ j. record {
      constant = z;
      terms = if not (here j) then multiple m (pos 1) ∷ (if not (differ j) then multiple s c ∷ [] else []) else (if not
          (differ j) then multiple s c ∷ [] else []);
    }

-- the first number of a block and what is left up to the last one
pub left_comes : (last low c : ℤ) (s : ℕ) → unsigned_abs last ≤ 2 ^ 36 → unsigned_abs low ≤ 2 ^ 36 → unsigned_abs c ≤ 1024 →
    combined (one_of low c s) (pos 1) (left_over last low c s) ≡ Some (number last)
left_comes last low c s last_near low_near few =
    let once : pos 1 *ℤ (negsuc 0 *ℤ c) ≡ negsuc 0 *ℤ c = one_time (negsuc 0 *ℤ c) in
    let sum : low +ℤ pos 1 *ℤ (last +ℤ negsuc 0 *ℤ low) ≡ last = back low last in
    let gone_term = term_gone (multiple s c) [] in
    let is : plus_multiple (one_of low c s) (pos 1) (left_over last low c s) ≡ number last =
    (λ j. record { constant = sum j; terms = plus_term (multiple s c ∷ []) (multiple s (once j)) }) ∙ (λ j. record { constant = last; terms = gone_term j }) in
    combined-made (one_of low c s) (left_over last low c s) (pos 1) (one_limited low c s (omega (arith, low_near)) (omega (arith, few)))
    (one_limited (last +ℤ negsuc 0 *ℤ low) (negsuc 0 *ℤ c) s (less_near last low last_near low_near) (turned c few))
    (ap is_within_limits is ∙ number_limited last (omega (arith, last_near))) ∙ ap (λ (f : Form). Some f) is
  where
    one_time : (z : ℤ) → pos 1 *ℤ z ≡ z
    one_time z = omega (arith, ints)

    back : (p q : ℤ) → p +ℤ pos 1 *ℤ (q +ℤ negsuc 0 *ℤ p) ≡ q
    back p q = omega (arith, ints)

    less_near : (p q : ℤ) → unsigned_abs p ≤ 2 ^ 36 → unsigned_abs q ≤ 2 ^ 36 → unsigned_abs (p +ℤ negsuc 0 *ℤ q) ≤ 2 ^ 40
    less_near p q h g = omega (arith, ints, h, g)

    turned : (z : ℤ) → unsigned_abs z ≤ 1024 → unsigned_abs (negsuc 0 *ℤ z) ≤ 2 ^ 20
    turned z h = omega (arith, ints, h)

-- ---- which variable a loop is of

module _ (xs : List (List ℕ)) (ls : List Loop) (cuts : List Split) (rs : List Numbers) (others : AreOthers cuts) (once : AreOnce cuts)
    (halves : (c : Split) → In c cuts → (x : List ℕ) → In x xs → (x ≡ c.outer → ⊥) × (x ≡ c.inner → ⊥)) (outers : (c d : Split) → In c cuts → In d cuts → c.outer ≡ d.outer → c ≡ d)
    (gone : (c : Split) → In c cuts → (l : Loop) → In l ls → c.whole ≡ l.name → ⊥) where
  -- the variable whose loop was split to make the loop of this name, or which has that itself
  abbrev pub owner_named : List ℕ → List ℕ
  owner_named y = elim (find (λ c. is_half c y) cuts) [ Some c ↦ c.whole | None ↦ y ]

  -- how often the loop of this name counts
  abbrev pub factor_named : List ℕ → ℤ
  factor_named y = elim (find (λ c. same_name c.outer y) cuts) [ Some c ↦ pos c.factor | None ↦ pos 1 ]

  half_is : (c d : Split) → In c cuts → In d cuts → (y : List ℕ) → (y ≡ c.outer) ⊎ (y ≡ c.inner) → is_half d y ≡ true → d ≡ c
  half_is c d mc md y h e = of h (either_true (same_name d.outer y) (same_name d.inner y) e)
    where
      of : (y ≡ c.outer) ⊎ (y ≡ c.inner) → (same_name d.outer y ≡ true) ⊎ (same_name d.inner y ≡ true) → d ≡ c
      of (inl p) (inl q) = outers d c md mc (name_true d.outer y q ∙ p)
      of (inl p) (inr q) = absurd (inner_outer cuts others d c md mc (name_true d.inner y q ∙ p))
      of (inr p) (inl q) = absurd (inner_outer cuts others c d mc md (sym p ∙ sym (name_true d.outer y q)))
      of (inr p) (inr q) = by_inner cuts others d c md mc (name_true d.inner y q ∙ p)

  true_either : (a b : Bool) → (a ≡ true) ⊎ (b ≡ true) → (a || b) ≡ true
  true_either true b h = refl
  true_either false b (inl e) = absurd (cc e)
  true_either false b (inr e) = e

  is_own_half : (c : Split) (y : List ℕ) → (y ≡ c.outer) ⊎ (y ≡ c.inner) → is_half c y ≡ true
  is_own_half c y (inl e) = true_either (same_name c.outer y) (same_name c.inner y) (inl (ap (same_name c.outer) e ∙ name_refl c.outer))
  is_own_half c y (inr e) = true_either (same_name c.outer y) (same_name c.inner y) (inr (ap (same_name c.inner) e ∙ name_refl c.inner))

  pub owner_half : (c : Split) → In c cuts → (y : List ℕ) → (y ≡ c.outer) ⊎ (y ≡ c.inner) → owner_named y ≡ c.whole
  owner_half c m y h =
      let r = found_in (λ c. is_half c y) cuts c m (is_own_half c y h) in
      ap (λ (o : Option Split). elim o [ Some c ↦ c.whole | None ↦ y ]) r.3 ∙ ap (λ (d : Split). d.whole) (half_is c r.0 m r.1 y h r.2)

  pub owner_self : (y : List ℕ) → In y xs → owner_named y ≡ y
  owner_self y m =
      ap (λ (o : Option Split). elim o [ Some c ↦ c.whole | None ↦ y ])
      (found_not (λ c. is_half c y) cuts (λ d k. (let h = halves d k y m in let one = apart_name d.outer y (λ e. h.0 (sym e)) in let two = apart_name d.inner y (λ e. h.1 (sym e)) in
      λ j. one j || two j)))

  pub factor_outer : (c : Split) → In c cuts → factor_named c.outer ≡ pos c.factor
  factor_outer c m =
      let r = found_in (λ d. same_name d.outer c.outer) cuts c m (name_refl c.outer) in
      ap (λ (o : Option Split). elim o [ Some c ↦ pos c.factor | None ↦ pos 1 ]) r.3
      ∙ ap (λ (d : Split). pos d.factor) (outers r.0 c r.1 m (name_true r.0.outer c.outer r.2))

  pub factor_inner : (c : Split) → In c cuts → factor_named c.inner ≡ pos 1
  factor_inner c m =
      ap (λ (o : Option Split). elim o [ Some c ↦ pos c.factor | None ↦ pos 1 ])
      (found_not (λ d. same_name d.outer c.inner) cuts (λ d k. apart_name d.outer c.inner (λ e. inner_outer cuts others c d m k (sym e))))

  pub factor_self : (y : List ℕ) → In y xs → factor_named y ≡ pos 1
  factor_self y m =
      ap (λ (o : Option Split). elim o [ Some c ↦ pos c.factor | None ↦ pos 1 ])
      (found_not (λ d. same_name d.outer y) cuts (λ d k. apart_name d.outer y (λ e. (halves d k y m).0 (sym e))))

  -- a loop is a variable's, or a split makes it
  abbrev pub LeafOf : List ℕ → Type 0
  LeafOf y = In y xs ⊎ ((c : Split) × In c cuts × ((y ≡ c.outer) ⊎ (y ≡ c.inner)))

  -- ---- the loops of a nest

  abbrev pub low : List ℕ → ℤ
  low y = (numbers_named rs y).low

  abbrev pub last : List ℕ → ℤ
  last y = last_number (numbers_named rs y)

  abbrev pub count : List ℕ → ℕ
  count y = (numbers_named rs y).count

  pub record IsTurnOf (grid : List Known) (t : Turning) : Type 0 where
    pub from : t.low ≡ low t.name
    pub to : t.last ≡ last t.name
    pub loop : Loop
    pub there : In loop ls
    pub name : loop.name ≡ t.name
    pub leaf : LeafOf t.name
    pub own : form_named grid t.name ≡ None

  -- the loop of a reduction variable
  pub record IsForeign (grid : List Known) (t : Turning) : Type 0 where
    pub own : form_named grid t.name ≡ None
    pub apart : (x : List ℕ) → In x xs → t.name ≡ x → ⊥
    pub whole : (c : Split) → In c cuts → t.name ≡ c.whole → ⊥
    pub half : (c : Split) → In c cuts → (t.name ≡ c.outer) ⊎ (t.name ≡ c.inner) → ⊥

  abbrev pub IsNestTurn : List Known → Turning → Type 0
  IsNestTurn grid t = IsTurnOf grid t ⊎ IsForeign grid t

  pub owner_foreign : (grid : List Known) (t : Turning) → IsForeign grid t → owner_named t.name ≡ t.name
  owner_foreign grid t o =
      ap (λ (o : Option Split). elim o [ Some c ↦ c.whole | None ↦ t.name ])
      (found_not (λ c. is_half c t.name) cuts (λ d k. (let one = apart_name d.outer t.name (λ e. o.half d k (inl (sym e))) in let two = apart_name d.inner t.name (λ e. o.half d k (inr (sym e))) in
      λ j. one j || two j)))

  pub nest_own : (grid : List Known) (t : Turning) → IsNestTurn grid t → form_named grid t.name ≡ None
  nest_own grid t (inl o) = o.own
  nest_own grid t (inr o) = o.own

  -- the loop of a variable, or of a half, is no foreign one
  pub turn_of : (grid : List Known) (t : Turning) (x : List ℕ) → In x xs → t.name ≡ x → IsNestTurn grid t → IsTurnOf grid t
  turn_of grid t x m e (inl o) = o
  turn_of grid t x m e (inr o) = absurd (o.apart x m e)

  pub half_of : (grid : List Known) (t : Turning) (c : Split) → In c cuts → (t.name ≡ c.outer) ⊎ (t.name ≡ c.inner) → IsNestTurn grid t → IsTurnOf grid t
  half_of grid t c m h (inl o) = o
  half_of grid t c m h (inr o) = absurd (o.half c m h)
