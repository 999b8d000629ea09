-- Steps of an update that come in their order, at one point: what is done to other buffers counts for nothing.
use Rattle.std.proofs.Common.{◌≡◌, ℕ, zero, suc, ◌+◌, Bool, true, false, List, [], ◌∷◌, ◌++◌, map, Some, None, refl, sym, ap, ◌∙◌, subst, inl, inr, arith}
use Rattle.std.specs.Prelude.{ℤ, pos, ◌+ℤ◌, ◌≤ℤ◌, ◌<ℤ◌, ◌==◌, ◌&&◌, if◌then◌else◌, ◌⊎◌, flat_map, IsTrue}
use Rattle.std.proofs.lemmas.Int.{ints}
use Rattle.meaning.specs.Names.{same_point}
use Rattle.tree.specs.Term.{Term}
use Rattle.plan.specs.Symbols.{rising}
use Rattle.plan.specs.Semantics.Actions.{Action, Allot, Take, Put, Change, Give, Target, Fixed, Open, fixed}
use Rattle.soundness.specs.Origins.{Given, matches}
use Rattle.soundness.specs.Claims.{stepped_status, status_one, status_after, written}
use Rattle.soundness.specs.Obligations.{AreInTurn}
use Rattle.soundness.proofs.Learned.{Spares}
use Rattle.soundness.proofs.Refines.{and_parts, eq_refl, number_refl}
use Rattle.tails.specs.Turns.{PassOrTake}

module _ (given : Given) (b : ℕ) (p : List ℤ) where
  -- where n steps are done of the point, j are after the action: a step that meets it is the next one, and of its domain
  abbrev pub Goes : ℕ → Action → ℕ → Type 0
  Goes n (Allot c rooms) j = ((c == b) ≡ false) × (n ≡ j)
  Goes n (Take c g x) j = ((c == b) ≡ false) × (n ≡ j)
  Goes n (Put c g names x e) j = ((c == b) ≡ false) × (n ≡ j)
  Goes n (Change c g d names at over e) j =
      ((((c == b) && matches at p) ≡ true) × IsTrue (given.in_domain g d over) × (given.step_at g d over ≡ n) × (n + 1 ≡ j)) ⊎ ((((c == b) && matches at p) ≡ false) × (n ≡ j))
  Goes n (Give c x) j = n ≡ j

  abbrev pub Takes : ℕ → List Action → ℕ → Type 0
  Takes n [] m = n ≡ m
  Takes n (a ∷ later) m = (j : ℕ) × Goes n a j × Takes j later m

  -- no action meets the point
  abbrev pub Passes : List Action → Type 0
  Passes todo = (n : ℕ) → Takes n todo n

  -- ---- lists

  pub takes_append : (n m j : ℕ) (xs ys : List Action) → Takes n xs m → Takes m ys j → Takes n (xs ++ ys) j
  takes_append n m j [] ys h q = subst (λ i. Takes i ys j) (sym h) q
  takes_append n m j (x ∷ xs) ys h q = (h.0, h.1, takes_append h.0 m j xs ys h.2 q)

  takes_parts : (n j : ℕ) (xs ys : List Action) → Takes n (xs ++ ys) j → (m : ℕ) × Takes n xs m × Takes m ys j
  takes_parts n j [] ys h = (n, refl, h)
  takes_parts n j (x ∷ xs) ys h = let r = takes_parts h.0 j xs ys h.2 in (r.0, (h.0, h.1, r.1), r.2)

  spares_pass : (xs : List Action) → Spares b xs → Passes xs
  spares_pass [] h n = refl
  spares_pass (Allot c rooms ∷ later) h n = (n, (h.0, refl), spares_pass later h.1 n)
  spares_pass (Take c g x ∷ later) h n = (n, (h.0, refl), spares_pass later h.1 n)
  spares_pass (Put c g names x e ∷ later) h n = (n, (h.0, refl), spares_pass later h.1 n)
  spares_pass (Change c g d names at over e ∷ later) h n = (n, inr (ap (λ v. v && matches at p) h.0, refl), spares_pass later h.1 n)
  spares_pass (Give c x ∷ later) h n = (n, refl, spares_pass later h n)

  -- from so many steps to so many others
  pub counted : (n m : ℕ) → PassOrTake Passes (λ xs. Takes n xs m)
  counted n m = record {
    none = λ i. refl;
    both = λ xs ys h k i. takes_append i i i xs ys (h i) (k i);
    before = λ xs ys h k. takes_append n m m xs ys h (k m);
    later = λ xs ys h k. takes_append n n m xs ys (h n) k;
  }

  -- a loop of the reduction: each turn takes the point on
  pub takes_turns : (begin : ℤ → ℕ) (g : ℤ → List Action) (n : ℕ) (low : ℤ) → ((z : ℤ) → low ≤ℤ z → z <ℤ (low +ℤ pos n) → Takes (begin z) (g z) (begin (z +ℤ pos 1))) →
      Takes (begin low) (flat_map g (rising low n)) (begin (low +ℤ pos n))
  takes_turns begin g zero low h = let same : low ≡ low +ℤ pos 0 = omega (arith, ints) in ap begin same
  takes_turns begin g (suc n) low h =
      let last : (low +ℤ pos 1) +ℤ pos n ≡ low +ℤ pos (suc n) = omega (arith, ints) in
      takes_append (begin low) (begin (low +ℤ pos 1)) (begin (low +ℤ pos (suc n))) (g low) (flat_map g (rising (low +ℤ pos 1) n)) (h low (omega (arith, ints)) (omega (arith, ints)))
      (subst (λ z. Takes (begin (low +ℤ pos 1)) (flat_map g (rising (low +ℤ pos 1) n)) (begin z)) last
      (takes_turns begin g n (low +ℤ pos 1) (λ z l u. h z (omega (arith, ints)) (omega (arith, ints)))))

  pub passes_turns : (g : ℤ → List Action) (n : ℕ) (low : ℤ) → ((z : ℤ) → low ≤ℤ z → z <ℤ (low +ℤ pos n) → Passes (g z)) → Passes (flat_map g (rising low n))
  passes_turns g zero low h m = refl
  passes_turns g (suc n) low h m =
      takes_append m m m (g low) (flat_map g (rising (low +ℤ pos 1) n)) (h low (omega (arith, ints)) (omega (arith, ints)) m)
      (passes_turns g n (low +ℤ pos 1) (λ z l u. h z (omega (arith, ints)) (omega (arith, ints))) m)

  -- ---- actions among others

  -- the first actions take the point on as the second do
  abbrev pub Like : List Action → List Action → Type 0
  Like xs ys = (n m : ℕ) → Takes n ys m → Takes n xs m

  like_append : (xs ys us vs : List Action) → Like xs us → Like ys vs → Like (xs ++ ys) (us ++ vs)
  like_append xs ys us vs h k n m t = let r = takes_parts n m us vs t in takes_append n r.0 m xs ys (h n r.0 r.1) (k r.0 m r.2)

  pub like_turns : (g h : ℤ → List Action) (zs : List ℤ) → ((z : ℤ) → Like (g z) (h z)) → Like (flat_map g zs) (flat_map h zs)
  like_turns g h [] each = λ n m t. t
  like_turns g h (z ∷ zs) each = like_append (g z) (flat_map g zs) (h z) (flat_map h zs) (each z) (like_turns g h zs each)

  pub like_if : (v : Bool) (xs us : List Action) → Like xs us → Like (if v then xs else []) (if v then us else [])
  like_if true xs us h = h
  like_if false xs us h = λ n m t. t

  pub like_behind : (xs ys us : List Action) → Like xs us → Spares b ys → Like (xs ++ ys) us
  like_behind xs ys us h spares n m t = takes_append n m m xs ys (h n m t) (spares_pass ys spares m)

  pub like_before : (xs ys vs : List Action) → Spares b xs → Like ys vs → Like (xs ++ ys) vs
  like_before xs ys vs spares h n m t = takes_append n n m xs ys (spares_pass xs spares n) (h n m t)

  -- ---- what follows

  goes_one : (n j : ℕ) (a : Action) → Goes n a j → status_one given b p a (Some n) ≡ Some j
  goes_one n j (Allot c rooms) h = ap (λ w. if w then None else Some n) h.0 ∙ ap Some h.1
  goes_one n j (Take c g x) h = ap (λ w. if w && same_point x p then Some (given.all_steps g) else Some n) h.0 ∙ ap Some h.1
  goes_one n j (Put c g names x e) h = ap (λ w. if w && same_point x p then Some 0 else Some n) h.0 ∙ ap Some h.1
  goes_one n j (Change c g d names at over e) (inl r) =
      let own = and_parts (c == b) (matches at p) r.0 in
      ap (λ w. if w then stepped_status (given.step_at g d over) (matches at p) (Some n) else Some n) own.0
      ∙ ap (λ i. Some (if (n == i) && matches at p then i + 1 else n)) r.2
      ∙ ap (λ w. Some (if w && matches at p then n + 1 else n)) (eq_refl n)
      ∙ ap (λ w. Some (if w then n + 1 else n)) own.1 ∙ ap Some r.3
  goes_one n j (Change c g d names at over e) (inr r) = of (c == b) (matches at p) r.0 ∙ ap Some r.1
    where
      of : (v w : Bool) → (v && w) ≡ false → (if v then stepped_status (given.step_at g d over) w (Some n) else Some n) ≡ Some n
      of true true k = absurd (cc k)
      of true false k = neither (n == given.step_at g d over)
        where
          neither : (u : Bool) → Some (if u && false then given.step_at g d over + 1 else n) ≡ Some n
          neither true = refl
          neither false = refl
      of false w k = refl
  goes_one n j (Give c x) h = ap Some h

  pub takes_end : (n m : ℕ) (xs : List Action) → Takes n xs m → status_after given b p xs (Some n) ≡ Some m
  takes_end n m [] h = ap Some h
  takes_end n m (a ∷ later) h = ap (status_after given b p later) (goes_one n h.0 a h.1) ∙ takes_end h.0 m later h.2

  -- steps write nothing
  goes_unwritten : (n j : ℕ) (a : Action) (later : List Action) → Goes n a j → written b (a ∷ later) ≡ written b later
  goes_unwritten n j (Allot c rooms) later h = refl
  goes_unwritten n j (Take c g x) later h = ap (λ w. if w then x ∷ written b later else written b later) h.0
  goes_unwritten n j (Put c g names x e) later h = ap (λ w. if w then x ∷ written b later else written b later) h.0
  goes_unwritten n j (Change c g d names at over e) later h = refl
  goes_unwritten n j (Give c x) later h = refl

  pub takes_unwritten : (n m : ℕ) (xs : List Action) → Takes n xs m → written b xs ≡ []
  takes_unwritten n m [] h = refl
  takes_unwritten n m (a ∷ later) h = goes_unwritten n h.0 a later h.1 ∙ takes_unwritten h.0 m later h.2

  -- the steps done before one that meets the point
  takes_split : (n m : ℕ) (f : List ℕ) (k : ℕ) (xs ys : List Action) (names : List (List ℕ)) (at : List Target) (over : List ℤ) (e : Term) → Takes n (xs ++ Change b f k names at over e ∷ ys) m → matches at p ≡ true →
      IsTrue (given.in_domain f k over) × (status_after given b p xs (Some n) ≡ Some (given.step_at f k over))
  takes_split n m f k [] ys names at over e h meets = of h.1
    where
      here : ((b == b) && matches at p) ≡ true
      here = ap (λ v. v && matches at p) (eq_refl b) ∙ meets

      of : ((((b == b) && matches at p) ≡ true) × IsTrue (given.in_domain f k over) × (given.step_at f k over ≡ n) × (n + 1 ≡ h.0)) ⊎ ((((b == b) && matches at p) ≡ false) × (n ≡ h.0)) →
          IsTrue (given.in_domain f k over) × (Some n ≡ Some (given.step_at f k over))
      of (inl r) = (r.1, ap Some (sym r.2))
      of (inr r) = absurd (cc (here, r.0))
  takes_split n m f k (x ∷ xs) ys names at over e h meets =
      let r = takes_split h.0 m f k xs ys names at over e h.2 meets in
      (r.0, ap (status_after given b p xs) (goes_one n h.0 x h.1) ∙ r.1)

-- a point that the targets meet
meets_all : (at : List Target) → matches at (map fixed at) ≡ true
meets_all [] = refl
meets_all (Fixed z ∷ ts) = ap (λ v. v && matches ts (map fixed ts)) (number_refl z) ∙ meets_all ts
meets_all (Open e ∷ ts) = meets_all ts

-- where each point is taken on, all steps are in turn
pub takes_in_turn : (given : Given) (b : ℕ) (f : List ℕ) (k n : ℕ) (todo : List Action) → ((p : List ℤ) → (m : ℕ) × Takes given b p n todo m) → AreInTurn given b f k (λ p. Some n) todo
takes_in_turn given b f k n todo h xs ys names at over e same = (
  (split (map fixed at) (meets_all at)).0,
  λ p m. (split p m).1,
)
  where
    split : (p : List ℤ) → matches at p ≡ true → IsTrue (given.in_domain f k over) × (status_after given b p xs (Some n) ≡ Some (given.step_at f k over))
    split p m = takes_split given b p n (h p).0 f k xs ys names at over e (subst (λ ws. Takes given b p n ws (h p).0) same (h p).1) m
