-- Steps that are loops alone, one after another, and how often a name stands among others.
use Rattle.std.proofs.Common.{◌≡◌, ℕ, zero, suc, ◌+◌, ◌≤◌, Bool, true, false, ◌||◌, List, [], ◌∷◌, ◌++◌, Option, Some, None, refl, sym, ap, ◌∙◌}
use Rattle.std.proofs.Common.{inl, inr, arith}
use Rattle.std.specs.Prelude.{reverse, slice_get, if◌then◌else◌}
use Rattle.std.specs.Option.{option_map}
use Rattle.std.proofs.lemmas.List.{reverse-append}
use Rattle.meaning.specs.Names.{same_name, is_among}
use Rattle.soundness.specs.Claims.{In}
use Rattle.soundness.proofs.Refines.{name_refl, name_true}
use Rattle.sched.specs.declared.nest.Turning.{Turning}
use Rattle.sched.specs.Placing.{has_double}

-- ---- how often a name stands among others

abbrev pub one_if : Bool → ℕ
one_if true = 1
one_if false = 0

module _ {A : Type 0} (name : A → List ℕ) where
  abbrev pub hits : List ℕ → List A → ℕ
  hits y [] = 0
  hits y (x ∷ xs) = one_if (same_name (name x) y) + hits y xs

  pub hits_append : (y : List ℕ) (xs zs : List A) → hits y (xs ++ zs) ≡ hits y xs + hits y zs
  hits_append y [] zs = omega arith
  hits_append y (x ∷ xs) zs = (let rest = hits_append y xs zs in omega (arith, rest))

  pub hits_reverse : (y : List ℕ) (xs : List A) → hits y (reverse xs) ≡ hits y xs
  hits_reverse y [] = refl
  hits_reverse y (x ∷ xs) =
      let rest = hits_reverse y xs in
      let both = ap (hits y) (reverse-append (x ∷ []) xs) ∙ hits_append y (reverse xs) (x ∷ []) in
      omega (arith, rest, both)

  pub hits_some : (x : A) (xs : List A) → In x xs → 1 ≤ hits (name x) xs
  hits_some x [] m = absurd m
  hits_some x (y ∷ xs) (inl e) =
      let here : same_name (name y) (name x) ≡ true = ap (λ (z : A). same_name (name z) (name x)) (sym e) ∙ name_refl (name x) in
      let counts : one_if (same_name (name y) (name x)) ≡ 1 = ap one_if here in
      omega (arith, counts)
  hits_some x (y ∷ xs) (inr m) = (let rest = hits_some x xs m in omega (arith, rest))

abbrev pub itself : List ℕ → List ℕ
itself x = x

no_hits : (xs : List (List ℕ)) (y : List ℕ) → is_among xs y ≡ false → hits itself y xs ≡ 0
no_hits [] y h = refl
no_hits (x ∷ xs) y h = of (same_name x y) h (λ e. no_hits xs y e)
  where
    of : (b : Bool) → (b || is_among xs y) ≡ false → (is_among xs y ≡ false → hits itself y xs ≡ 0) → one_if b + hits itself y xs ≡ 0
    of true e rest = absurd (cc e)
    of false e rest = (let none = rest e in omega (arith, none))

pub hits_once : (xs : List (List ℕ)) (y : List ℕ) → has_double xs ≡ false → hits itself y xs ≤ 1
hits_once [] y h = omega arith
hits_once (x ∷ xs) y h =
    let parts = or_parts (is_among xs x) (has_double xs) h in
    of (same_name x y) refl parts.0 (hits_once xs y parts.1)
  where
    or_parts : (a b : Bool) → (a || b) ≡ false → (a ≡ false) × (b ≡ false)
    or_parts true b e = absurd (cc e)
    or_parts false b e = (refl, e)

    of : (b : Bool) → same_name x y ≡ b → is_among xs x ≡ false → hits itself y xs ≤ 1 → one_if b + hits itself y xs ≤ 1
    of true e none rest =
        let is : x ≡ y = name_true x y e in
        let zero_more : hits itself y xs ≡ 0 = no_hits xs y (ap (is_among xs) (sym is) ∙ none) in
        omega (arith, zero_more)
    of false e none rest = omega (arith, rest)

-- ---- where a name is found

abbrev pub found_at : List Turning → List ℕ → Option ℕ
found_at [] y = None
found_at (t ∷ ts) y = if same_name t.name y then Some 0 else option_map suc (found_at ts y)

abbrev pub turn_name : Turning → List ℕ
turn_name t = t.name

-- each name of a loop is found
pub found_some : (ts : List Turning) (x : List ℕ) → 1 ≤ hits turn_name x ts → (i : ℕ) × (found_at ts x ≡ Some i)
found_some [] x h = absurd (omega (arith, h))
found_some (t ∷ ts) x h = of (same_name t.name x) h (λ k. found_some ts x k)
  where
    of : (b : Bool) → 1 ≤ one_if b + hits turn_name x ts → (1 ≤ hits turn_name x ts → (i : ℕ) × (found_at ts x ≡ Some i)) →
        (i : ℕ) × ((if b then Some 0 else option_map suc (found_at ts x)) ≡ Some i)
    of true k rest = (0, refl)
    of false k rest = (let r = rest (omega (arith, k)) in (suc r.0, ap (option_map suc) r.1))

-- and there it stands
pub found_name : (ts : List Turning) (x : List ℕ) (i : ℕ) → found_at ts x ≡ Some i → (t : Turning) × (slice_get ts i ≡ Some t) × (same_name t.name x ≡ true)
found_name [] x i h = absurd (cc h)
found_name (t ∷ ts) x i h = of (same_name t.name x) refl h (λ j e. found_name ts x j e)
  where
    later : (o : Option ℕ) → found_at ts x ≡ o → option_map suc o ≡ Some i → ((j : ℕ) → found_at ts x ≡ Some j → (u : Turning) × (slice_get ts j ≡ Some u) × (same_name u.name x ≡ true)) →
        (u : Turning) × (slice_get (t ∷ ts) i ≡ Some u) × (same_name u.name x ≡ true)
    later None e q rest = absurd (cc q)
    later (Some j) e q rest =
        let up : suc j ≡ i = cc q in
        let r = rest j e in
        (r.0, ap (slice_get (t ∷ ts)) (sym up) ∙ r.1, r.2)

    of : (b : Bool) → same_name t.name x ≡ b → (if b then Some 0 else option_map suc (found_at ts x)) ≡ Some i →
        ((j : ℕ) → found_at ts x ≡ Some j → (u : Turning) × (slice_get ts j ≡ Some u) × (same_name u.name x ≡ true)) →
        (u : Turning) × (slice_get (t ∷ ts) i ≡ Some u) × (same_name u.name x ≡ true)
    of true e q rest = (let none : 0 ≡ i = cc q in (t, ap (slice_get (t ∷ ts)) (sym none), e))
    of false e q rest = later (found_at ts x) refl q rest

at_hits : (ts : List Turning) (j : ℕ) (t : Turning) (x : List ℕ) → slice_get ts j ≡ Some t → same_name t.name x ≡ true → 1 ≤ hits turn_name x ts
at_hits [] j t x at e = absurd (cc at)
at_hits (u ∷ ts) zero t x at e =
    let is : u ≡ t = cc at in
    let here : same_name u.name x ≡ true = ap (λ (v : Turning). same_name v.name x) is ∙ e in
    let counts : one_if (same_name u.name x) ≡ 1 = ap one_if here in
    omega (arith, counts)
at_hits (u ∷ ts) (suc j) t x at e = (let rest = at_hits ts j t x at e in omega (arith, rest))

-- where it stands once, it is found where it stands
pub found_there : (ts : List Turning) (x : List ℕ) (i j : ℕ) (t : Turning) → hits turn_name x ts ≤ 1 → found_at ts x ≡ Some i → slice_get ts j ≡ Some t → same_name t.name x ≡ true → i ≡ j
found_there [] x i j t few h at e = absurd (cc h)
found_there (u ∷ ts) x i j t few h at e = of (same_name u.name x) refl few h j at (λ k m. found_there ts x k m t)
  where
    later : (o : Option ℕ) → found_at ts x ≡ o → option_map suc o ≡ Some i → hits turn_name x ts ≤ 1 → (m : ℕ) → slice_get ts m ≡ Some t →
        ((k m : ℕ) → hits turn_name x ts ≤ 1 → found_at ts x ≡ Some k → slice_get ts m ≡ Some t → same_name t.name x ≡ true → k ≡ m) → i ≡ suc m
    later None d q few m at rest = absurd (cc q)
    later (Some k) d q few m at rest =
        let up : suc k ≡ i = cc q in
        let there = rest k m few d at e in
        omega (arith, up, there)

    of : (b : Bool) → same_name u.name x ≡ b → one_if b + hits turn_name x ts ≤ 1 → (if b then Some 0 else option_map suc (found_at ts x)) ≡ Some i → (j : ℕ) →
        slice_get (u ∷ ts) j ≡ Some t →
        ((k m : ℕ) → hits turn_name x ts ≤ 1 → found_at ts x ≡ Some k → slice_get ts m ≡ Some t → same_name t.name x ≡ true → k ≡ m) → i ≡ j
    of true d few q zero at rest = (let none : 0 ≡ i = cc q in sym none)
    of true d few q (suc m) at rest = (let more = at_hits ts m t x at e in absurd (omega (arith, few, more)))
    of false d few q zero at rest =
        let is : u ≡ t = cc at in
        let clash : true ≡ false = sym e ∙ ap (λ (v : Turning). same_name v.name x) (sym is) ∙ d in
        absurd (cc clash)
    of false d few q (suc m) at rest = later (found_at ts x) refl q (omega (arith, few)) m at rest
