-- Steps of an update that come in their order, at one point.
use Rattle.std.proofs.Common.{◌≡◌, ℕ, zero, suc, ◌+◌, Bool, true, false, List, [], ◌∷◌, ◌++◌, map, Some, refl, sym, ap, ◌∙◌, subst, inl, inr, arith}
use Rattle.std.specs.Prelude.{ℤ, pos, ◌+ℤ◌, ◌≤ℤ◌, ◌<ℤ◌, ◌==◌, ◌&&◌, if◌then◌else◌, ◌⊎◌, flat_map, IsTrue}
use Rattle.std.proofs.lemmas.Int.{ints, by_lt_z}
use Rattle.tree.specs.Term.{Term}
use Rattle.plan.specs.Symbols.{rising}
use Rattle.plan.specs.Semantics.Actions.{Action, Allot, Take, Put, Change, Give, Target, Fixed, Open, fixed}
use Rattle.soundness.specs.Origins.{Given, matches}
use Rattle.soundness.specs.Claims.{stepped_status, status_after, written}
use Rattle.soundness.specs.Obligations.{AreInTurn}
use Rattle.soundness.proofs.Refines.{eq_refl, number_refl}

module _ (given : Given) (b : ℕ) (f : List ℕ) (k : ℕ) (p : List ℤ) where
  -- where n steps are done of the point each action is a step of the definition: one that meets the point is the next one and
  -- is of the domain; at the end m steps are done
  abbrev pub Takes : ℕ → List Action → ℕ → Type 0
  Takes n [] m = n ≡ m
  Takes n (Change c g j names at over e ∷ later) m =
      (c ≡ b) × (((matches at p ≡ true) × IsTrue (given.in_domain g j over) × (given.step_at g j over ≡ n) × Takes (n + 1) later m) ⊎ ((matches at p ≡ false) × Takes n later m))
  Takes n _ m = ⊥

  -- no action meets the point
  abbrev pub Passes : List Action → Type 0
  Passes todo = (n : ℕ) → Takes n todo n

  pub takes_append : (n m j : ℕ) (xs ys : List Action) → Takes n xs m → Takes m ys j → Takes n (xs ++ ys) j
  takes_append n m j [] ys h q = subst (λ i. Takes i ys j) (sym h) q
  takes_append n m j (Change c g d names at over e ∷ later) ys h q = (h.0, of h.1 (λ i r. takes_append i m j later ys r q))
    where
      of : ((matches at p ≡ true) × IsTrue (given.in_domain g d over) × (given.step_at g d over ≡ n) × Takes (n + 1) later m) ⊎ ((matches at p ≡ false) × Takes n later m) → ((i : ℕ) → Takes i later m → Takes i (later ++ ys) j) →
          ((matches at p ≡ true) × IsTrue (given.in_domain g d over) × (given.step_at g d over ≡ n) × Takes (n + 1) (later ++ ys) j) ⊎ ((matches at p ≡ false) × Takes n (later ++ ys) j)
      of (inl r) rest = inl (r.0, r.1, r.2, rest (n + 1) r.3)
      of (inr r) rest = inr (r.0, rest n r.1)
  takes_append n m j (Allot c r ∷ later) ys h q = absurd h
  takes_append n m j (Take c g x ∷ later) ys h q = absurd h
  takes_append n m j (Put c g names x e ∷ later) ys h q = absurd h
  takes_append n m j (Give c x ∷ later) ys h q = absurd h

  -- a loop of the reduction: each turn takes the point on
  pub takes_turns : (begin : ℤ → ℕ) (g : ℤ → List Action) (n : ℕ) (low : ℤ) → ((z : ℤ) → low ≤ℤ z → z <ℤ (low +ℤ pos n) → Takes (begin z) (g z) (begin (z +ℤ pos 1))) →
      Takes (begin low) (flat_map g (rising low n)) (begin (low +ℤ pos n))
  takes_turns begin g zero low h = let same : low ≡ low +ℤ pos 0 = omega (arith, ints) in ap begin same
  takes_turns begin g (suc n) low h =
      let last : (low +ℤ pos 1) +ℤ pos n ≡ low +ℤ pos (suc n) = omega (arith, ints) in
      takes_append (begin low) (begin (low +ℤ pos 1)) (begin (low +ℤ pos (suc n))) (g low) (flat_map g (rising (low +ℤ pos 1) n)) (h low (omega (arith, ints)) (omega (arith, ints)))
      (subst (λ z. Takes (begin (low +ℤ pos 1)) (flat_map g (rising (low +ℤ pos 1) n)) (begin z)) last
      (takes_turns begin g n (low +ℤ pos 1) (λ z l u. h z (omega (arith, ints)) (omega (arith, ints)))))

  pub passes_turns : (g : ℤ → List Action) (n : ℕ) (low : ℤ) → ((z : ℤ) → low ≤ℤ z → z <ℤ (low +ℤ pos n) → Passes (g z)) → Passes (flat_map g (rising low n))
  passes_turns g zero low h m = refl
  passes_turns g (suc n) low h m =
      takes_append m m m (g low) (flat_map g (rising (low +ℤ pos 1) n)) (h low (omega (arith, ints)) (omega (arith, ints)) m)
      (passes_turns g n (low +ℤ pos 1) (λ z l u. h z (omega (arith, ints)) (omega (arith, ints))) m)

  -- a pure loop: one turn meets the point, the others pass it
  pub takes_one : (g : ℤ → List Action) (y : ℤ) (i j n : ℕ) (low : ℤ) → low ≤ℤ y → y <ℤ (low +ℤ pos n) → Takes i (g y) j → ((z : ℤ) → (z ≡ y → ⊥) → Passes (g z)) → Takes i (flat_map g (rising low n)) j
  takes_one g y i j zero low l u meets passes = absurd (omega (arith, ints))
  takes_one g y i j (suc n) low l u meets passes =
      by_lt_z low y
      (λ before.
      takes_append i i j (g low) (flat_map g (rising (low +ℤ pos 1) n)) (passes low (λ e. absurd (omega (arith, ints, e, before))) i)
      (takes_one g y i j n (low +ℤ pos 1) (omega (arith, ints)) (omega (arith, ints)) meets passes))
      (λ after.
      let same : y ≡ low = omega (arith, ints) in
      takes_append i j j (g low) (flat_map g (rising (low +ℤ pos 1) n)) (subst (λ z. Takes i (g z) j) same meets)
      (passes_turns g n (low +ℤ pos 1) (λ z m k. passes z (λ e. absurd (omega (arith, ints, e, m, same)))) j))

  pub takes_end : (n m : ℕ) (xs : List Action) → Takes n xs m → status_after given b p xs (Some n) ≡ Some m
  takes_end n m [] h = ap Some h
  takes_end n m (Change c g d names at over e ∷ later) h =
      ap (λ w. status_after given b p later (if w then stepped_status (given.step_at g d over) (matches at p) (Some n) else Some n)) (ap (λ i. i == b) h.0 ∙ eq_refl b)
      ∙ of h.1 (λ i r. takes_end i m later r)
    where
      of : ((matches at p ≡ true) × IsTrue (given.in_domain g d over) × (given.step_at g d over ≡ n) × Takes (n + 1) later m) ⊎ ((matches at p ≡ false) × Takes n later m) → ((i : ℕ) → Takes i later m → status_after given b p later (Some i) ≡ Some m) →
          status_after given b p later (Some (if (n == given.step_at g d over) && matches at p then given.step_at g d over + 1 else n)) ≡ Some m
      of (inl r) rest =
          ap (λ i. status_after given b p later (Some (if (n == i) && matches at p then i + 1 else n))) r.2
          ∙ ap (λ w. status_after given b p later (Some (if w && matches at p then n + 1 else n))) (eq_refl n)
          ∙ ap (λ w. status_after given b p later (Some (if w then n + 1 else n))) r.0 ∙ rest (n + 1) r.3
      of (inr r) rest =
          ap (λ w. status_after given b p later (Some (if (n == given.step_at g d over) && w then given.step_at g d over + 1 else n))) r.0
          ∙ neither (n == given.step_at g d over) ∙ rest n r.1
        where
          neither : (w : Bool) → status_after given b p later (Some (if w && false then given.step_at g d over + 1 else n)) ≡ status_after given b p later (Some n)
          neither true = refl
          neither false = refl
  takes_end n m (Allot c r ∷ later) h = absurd h
  takes_end n m (Take c g x ∷ later) h = absurd h
  takes_end n m (Put c g names x e ∷ later) h = absurd h
  takes_end n m (Give c x ∷ later) h = absurd h

  -- the steps done before one that meets the point
  pub takes_split : (n m : ℕ) (xs ys : List Action) (names : List (List ℕ)) (at : List Target) (over : List ℤ) (e : Term) → Takes n (xs ++ Change b f k names at over e ∷ ys) m → matches at p ≡ true →
      IsTrue (given.in_domain f k over) × (status_after given b p xs (Some n) ≡ Some (given.step_at f k over))
  takes_split n m [] ys names at over e h meets = of h.1
    where
      of : ((matches at p ≡ true) × IsTrue (given.in_domain f k over) × (given.step_at f k over ≡ n) × Takes (n + 1) ys m) ⊎ ((matches at p ≡ false) × Takes n ys m) → IsTrue (given.in_domain f k over) × (Some n ≡ Some (given.step_at f k over))
      of (inl r) = (r.1, ap Some (sym r.2))
      of (inr r) = absurd (cc (meets, r.0))
  takes_split n m (Change c g d names' at' over' e' ∷ xs) ys names at over e h meets = of h.1 (λ i r. takes_split i m xs ys names at over e r meets)
    where
      first : (j : ℕ) → status_after given b p (Change c g d names' at' over' e' ∷ []) (Some n) ≡ Some j → IsTrue (given.in_domain f k over) × (status_after given b p xs (Some j) ≡ Some (given.step_at f k over)) → IsTrue (given.in_domain f k over) × (status_after given b p (Change c g d names' at' over' e' ∷ xs) (Some n) ≡ Some (given.step_at f k over))
      first j one r = (r.0, ap (status_after given b p xs) one ∙ r.1)

      of : ((matches at' p ≡ true) × IsTrue (given.in_domain g d over') × (given.step_at g d over' ≡ n) × Takes (n + 1) (xs ++ Change b f k names at over e ∷ ys) m) ⊎ ((matches at' p ≡ false) × Takes n (xs ++ Change b f k names at over e ∷ ys) m) →
          ((i : ℕ) → Takes i (xs ++ Change b f k names at over e ∷ ys) m → IsTrue (given.in_domain f k over) × (status_after given b p xs (Some i) ≡ Some (given.step_at f k over))) →
          IsTrue (given.in_domain f k over) × (status_after given b p (Change c g d names' at' over' e' ∷ xs) (Some n) ≡ Some (given.step_at f k over))
      of (inl r) rest = first (n + 1) (takes_end n (n + 1) (Change c g d names' at' over' e' ∷ []) (h.0, inl (r.0, r.1, r.2, refl))) (rest (n + 1) r.3)
      of (inr r) rest = first n (takes_end n n (Change c g d names' at' over' e' ∷ []) (h.0, inr (r.0, refl))) (rest n r.1)
  takes_split n m (Allot c r ∷ later) ys names at over e h meets = absurd h
  takes_split n m (Take c g x ∷ later) ys names at over e h meets = absurd h
  takes_split n m (Put c g names' x e' ∷ later) ys names at over e h meets = absurd h
  takes_split n m (Give c x ∷ later) ys names at over e h meets = absurd h

-- a point that the targets meet
meets_all : (at : List Target) → matches at (map fixed at) ≡ true
meets_all [] = refl
meets_all (Fixed z ∷ ts) = ap (λ v. v && matches ts (map fixed ts)) (number_refl z) ∙ meets_all ts
meets_all (Open e ∷ ts) = meets_all ts

-- where each point is taken on, all steps are in turn
pub takes_in_turn : (given : Given) (b : ℕ) (f : List ℕ) (k n : ℕ) (todo : List Action) → ((p : List ℤ) → (m : ℕ) × Takes given b f k p n todo m) → AreInTurn given b f k (λ p. Some n) todo
takes_in_turn given b f k n todo h xs ys names at over e same = (
  (split (map fixed at) (meets_all at)).0,
  λ p m. (split p m).1,
)
  where
    split : (p : List ℤ) → matches at p ≡ true → IsTrue (given.in_domain f k over) × (status_after given b p xs (Some n) ≡ Some (given.step_at f k over))
    split p m = takes_split given b f k p n (h p).0 xs ys names at over e (subst (λ ws. Takes given b f k p n ws (h p).0) same (h p).1) m

-- steps write nothing
pub takes_unwritten : (given : Given) (b : ℕ) (f : List ℕ) (k : ℕ) (p : List ℤ) (n m : ℕ) (xs : List Action) → Takes given b f k p n xs m → written b xs ≡ []
takes_unwritten given b f k p n m [] h = refl
takes_unwritten given b f k p n m (Change c g d names at over e ∷ later) h = of h.1 (λ i r. takes_unwritten given b f k p i m later r)
  where
    of : ((matches at p ≡ true) × IsTrue (given.in_domain g d over) × (given.step_at g d over ≡ n) × Takes given b f k p (n + 1) later m) ⊎ ((matches at p ≡ false) × Takes given b f k p n later m) → ((i : ℕ) → Takes given b f k p i later m → written b later ≡ []) → written b later ≡ []
    of (inl r) rest = rest (n + 1) r.3
    of (inr r) rest = rest n r.1
takes_unwritten given b f k p n m (Allot c r ∷ later) h = absurd h
takes_unwritten given b f k p n m (Take c g x ∷ later) h = absurd h
takes_unwritten given b f k p n m (Put c g names x e ∷ later) h = absurd h
takes_unwritten given b f k p n m (Give c x ∷ later) h = absurd h
