-- The loops of a nest, and what its binders tell of them.
use Rattle.std.proofs.Common.{◌≡◌, ℕ, zero, suc, ◌+◌, ◌<◌, ◌≤◌, Bool, true, false, List, [], ◌∷◌, length, map, Some}
use Rattle.std.proofs.Common.{refl, sym, ap, ◌∙◌, arith}
use Rattle.std.specs.Prelude.{◌==◌, slice_get}
use Rattle.std.specs.List.{range_with_len}
use Rattle.lin.specs.Forms.{Form}
use Rattle.lin.specs.declared.scope.Binding.{Binding}
use Rattle.plan.specs.Plan.{At, Coordinate}
use Rattle.meaning.specs.Names.{same_name}
use Rattle.soundness.specs.Nests.Nest.{Loop, index_is, is_symbol}
use Rattle.soundness.proofs.Refines.{eq_refl, eq_true, name_refl, name_true}
use Rattle.sched.specs.declared.nest.Turning.{Turning}
use Rattle.sched.specs.Standing.{alone}
use Rattle.sched.specs.Skeleton.{span}
use Rattle.completeness.proofs.PlainTurns.{hits, turn_name, found_at, found_name, found_there}

-- ---- the nest

-- with the further upper forms of each symbol
abbrev pub limited_loops : (ℕ → List Form) → ℕ → List Turning → List Loop
limited_loops lim n [] = []
limited_loops lim n (t ∷ ts) = record { symbol = n; span = span t.low t.last (lim n) } ∷ limited_loops lim (n + 1) ts

-- ---- coordinates

pub symbol_is : (c : Coordinate) (m s : ℕ) → c.index ≡ At (alone m) → is_symbol s c ≡ (m == s)
symbol_is c m s e = ap (index_is s) e

both_ways : (b c : Bool) → (b ≡ true → c ≡ true) → (c ≡ true → b ≡ true) → b ≡ c
both_ways true c f g = sym (f refl)
both_ways false true f g = g refl
both_ways false false f g = refl

module _ (n : ℕ) (ts : List Turning) (few : (y : List ℕ) → hits turn_name y ts ≤ 1) where
  hit_is : (x : List ℕ) (i j : ℕ) (t : Turning) → found_at ts x ≡ Some i → slice_get ts j ≡ Some t → (n + i == n + j) ≡ same_name x t.name
  hit_is x i j t found at = both_ways (n + i == n + j) (same_name x t.name) there back
    where
      there : (n + i == n + j) ≡ true → same_name x t.name ≡ true
      there e =
          let sum : n + i ≡ n + j = eq_true (n + i) (n + j) e in
          let place : i ≡ j = omega (arith, sum) in
          let u = found_name ts x i found in
          let one : Some u.0 ≡ Some t = sym u.1 ∙ ap (slice_get ts) place ∙ at in
          let is : u.0 ≡ t = cc one in
          let name : t.name ≡ x = ap (λ (v : Turning). v.name) (sym is) ∙ name_true u.0.name x u.2 in
          ap (same_name x) name ∙ name_refl x

      back : same_name x t.name ≡ true → (n + i == n + j) ≡ true
      back e =
          let is : x ≡ t.name = name_true x t.name e in
          let place : i ≡ j = found_there ts x i j t (few x) found at (ap (same_name t.name) is ∙ name_refl t.name) in
          ap (λ (k : ℕ). n + i == n + k) (sym place) ∙ eq_refl (n + i)

  module _ (j : ℕ) (t : Turning) (at : slice_get ts j ≡ Some t) where
    pub here_is : (c : Coordinate) (x : List ℕ) → (i : ℕ) × (found_at ts x ≡ Some i) × (c.index ≡ At (alone (n + i))) → is_symbol (n + j) c ≡ same_name x t.name
    here_is c x r = symbol_is c (n + r.0) (n + j) r.2 ∙ hit_is x r.0 j t r.1 at

-- ---- binders

pub at_place : (f : ℕ → Binding) (a k n : ℕ) → n < k → slice_get (map f (range_with_len a k)) n ≡ Some (f (a + n))
at_place f a zero n less = absurd (omega (arith, less))
at_place f a (suc k) zero less = (let none : a ≡ a + 0 = omega arith in ap (λ (m : ℕ). Some (f m)) none)
at_place f a (suc k) (suc n) less =
    let next : (a + 1) + n ≡ a + suc n = omega arith in
    at_place f (a + 1) k n (omega (arith, less)) ∙ ap (λ (m : ℕ). Some (f m)) next

pub scope_long : (f : ℕ → Binding) (a k : ℕ) → length (map f (range_with_len a k)) ≡ k
scope_long f a zero = refl
scope_long f a (suc k) = ap suc (scope_long f (a + 1) k)

pub at_length : (ts : List Turning) (j : ℕ) (t : Turning) → slice_get ts j ≡ Some t → j < length ts
at_length [] j t at = absurd (cc at)
at_length (u ∷ ts) zero t at = omega arith
at_length (u ∷ ts) (suc j) t at = (let rest = at_length ts j t at in omega (arith, rest))
