-- Values of the output are samples.
use Rattle.std.proofs.Common.{◌≡◌, ℕ, zero, suc, ◌*◌, ◌/◌, ◌%◌, ◌<◌, ◌≤◌, ◌^◌, Bool, true, false, List, [], ◌∷◌, length, get_or, Option, Some, None, MatchOption, ℤ, pos, negsuc, refl, sym, ap, ◌∙◌, subst, arith, nat_lt, ltb-true, mul-le-mul, div-le_self}
use native.Mathlib.Nat.{mod-le}
use Rattle.std.specs.Prelude.{slice_get, ◌&&◌}
use Rattle.std.specs.List.{AllByRecursion}
use Rattle.std.proofs.lemmas.Int.{ints}
use Rattle.std.proofs.lemmas.List.Elements.{All-from_recursion}
use Rattle.numeric.specs.declared.ty.Ty.{Ty}
use Rattle.numeric.specs.declared.ty.Ty.TheVariants.{U8, U16, U32, I8, I16, I32}
use Rattle.numeric.specs.Wrap.{IsOf}
use Rattle.meaning.proofs.Places.{raster_is_order}
use Rattle.meaning.specs.Image.Raster.{is_within, sample_count, HasRaster}
use Rattle.meaning.specs.Image.View.{AreExtents, IsSampleType}
use Rattle.meaning.specs.Algorithm.{Function, Algorithm}
use Rattle.meaning.specs.Conditions.{IsAlgorithm, IsOutput, function_named}
use Rattle.meaning.specs.Functions.{AreSamples, IsPoint}
use Rattle.meaning.specs.Names.{same_name}
use Rattle.meaning.specs.Value.{calls_of, output_value, value_of_function}
use Rattle.meaning.proofs.Calls.{called}
use Rattle.meaning.proofs.Typed.{value_is_typed}
use Rattle.tree.specs.declared.value.Value.{Value}
use Rattle.soundness.proofs.Refines.{name_true}

pub has_raster : (es : List ℕ) → AreExtents es → HasRaster es
has_raster [] h = absurd h
has_raster (x ∷ []) h = tt
has_raster (x ∷ y ∷ []) h = tt
has_raster (x ∷ y ∷ z ∷ []) h = tt
has_raster (x ∷ y ∷ z ∷ u ∷ es) h = absurd h

-- ---- points of the output are points of 32-bit numbers

abbrev Few : List ℕ → Type 0
Few es = AllByRecursion (λ e. e ≤ 8192) es

few : (es : List ℕ) → AreExtents es → Few es
few [] h = absurd h
few (w ∷ []) h = (h.1, tt)
few (w ∷ r ∷ []) h = (h.0.1, (h.1.1, tt))
few (w ∷ r ∷ k ∷ []) h = let three : k ≡ 3 = h.2 in (h.0.1, (h.1.1, (omega arith, tt)))
few (w ∷ r ∷ k ∷ d ∷ es) h = absurd h

and_both : (a b : Bool) → (a && b) ≡ true → (a ≡ true) × (b ≡ true)
and_both true b h = (refl, h)
and_both false b h = absurd (cc h)

coordinate : (n e : ℕ) → n < e → e ≤ 8192 → IsOf I32 (pos n)
coordinate n e h l = record { from = omega (arith, ints, h, l); to = omega (arith, ints, h, l) }

coordinates : (es : List ℕ) (at : List ℤ) → Few es → is_within es at ≡ true → AllByRecursion (IsOf I32) at
coordinates [] [] h e = tt
coordinates [] (z ∷ zs) h e = absurd (cc e)
coordinates (w ∷ es) [] h e = absurd (cc e)
coordinates (w ∷ es) (negsuc n ∷ zs) h e = absurd (cc e)
coordinates (w ∷ es) (pos n ∷ zs) h e =
    let b = and_both (nat_lt n w) (is_within es zs) e in
    (coordinate n w (ltb-true n w b.0) h.0, coordinates es zs h.1 b.1)

is_point : (es : List ℕ) (at : List ℤ) → AreExtents es → is_within es at ≡ true → IsPoint at
is_point es at h e = All-from_recursion (IsOf I32) at (coordinates es at (few es h) e)

-- ---- the output's function

record StandsAt (fs : List Function) (name : List ℕ) (f : Function) : Type 0 where
  place : ℕ
  at : slice_get fs place ≡ Some f
  name_is : f.name ≡ name

stands : (fs : List Function) (name : List ℕ) (f : Function) → function_named fs name ≡ Some f → StandsAt fs name f
stands [] name f e = absurd (cc e)
stands (g ∷ gs) name f e = of (same_name g.name name) refl e (stands gs name f)
  where
    of : (v : Bool) → same_name g.name name ≡ v → (elim v [ true ↦ Some g | false ↦ function_named gs name ]) ≡ Some f → (function_named gs name ≡ Some f → StandsAt gs name f) → StandsAt (g ∷ gs) name f
    of true is h rest = let same : g ≡ f = cc in record { place = zero; at = h; name_is = ap (λ (x : Function). x.name) (sym same) ∙ name_true g.name name is }
    of false is h rest = let r = rest h in record { place = suc r.place; at = r.at; name_is = r.name_is }

-- ---- samples

-- the number is a natural one of 16 bits
pub record IsSample (z : ℤ) : Type 0 where
  pub number : ℕ
  pub is : z ≡ pos number
  pub small : number < 2 ^ 16

sample_of : (t : Ty) (z : ℤ) → IsSampleType t → IsOf t z → IsSample z
sample_of U8 (pos n) s h = let to = h.to in record { number = n; is = refl; small = omega (arith, ints, to) }
sample_of U16 (pos n) s h = let to = h.to in record { number = n; is = refl; small = omega (arith, ints, to) }
sample_of U8 (negsuc n) s h = let from = h.from in absurd (omega (arith, ints, from))
sample_of U16 (negsuc n) s h = let from = h.from in absurd (omega (arith, ints, from))
sample_of U32 z s h = absurd s
sample_of I8 z s h = absurd s
sample_of I16 z s h = absurd s
sample_of I32 z s h = absurd s

module _ (a : Algorithm) (samples : List ℕ) (at : List ℤ) (w : IsAlgorithm a) (given : AreSamples a samples) (within : is_within a.output_extents at ≡ true) where
  of_function : (o : Option Function) → function_named a.functions a.output ≡ o → MatchOption o ⊥ (IsOutput a.output_extents) → IsSample (output_value a samples at)
  of_function None e h = absurd h
  of_function (Some f) e h =
      let s = stands a.functions a.output f e in
      let same : output_value a samples at ≡ value_of_function a samples s.place at = ap (λ n. (calls_of a samples n at).number) (sym s.name_is) ∙ ap (λ (v : Value). v.number) (called a w.names samples s.place f at s.at) in
      let value = value_is_typed a samples w given s.place f s.at at (is_point a.output_extents at w.output_extents within) in
      subst IsSample (sym same) (sample_of f.ty (value_of_function a samples s.place at) h.sampled value)

  -- the output's value at a point of its extents is a sample
  pub output_sample : IsSample (output_value a samples at)
  output_sample = of_function (function_named a.functions a.output) refl w.output

-- ---- places of the raster

-- the point of a place with three coordinates
pub third : (es : List ℕ) (n : ℕ) → AreExtents es → 3 ≤ length es → n < sample_count es
    → is_within es (pos (n / get_or es 2 0 % get_or es 0 0) ∷ pos (n / get_or es 2 0 / get_or es 0 0) ∷ pos (n % get_or es 2 0) ∷ []) ≡ true
third [] n h l m = absurd h
third (w ∷ []) n h l m = absurd (omega (arith, l))
third (w ∷ r ∷ []) n h l m = absurd (omega (arith, l))
third (w ∷ r ∷ k ∷ []) n h l m = raster_is_order.on_extents (w ∷ r ∷ k ∷ []) n tt m
third (w ∷ r ∷ k ∷ d ∷ es) n h l m = absurd h

-- a place of three coordinates is less than this
pub few_places : (es : List ℕ) (n : ℕ) → AreExtents es → n < sample_count es → n < 2 ^ 63
few_places [] n h m = absurd h
few_places (w ∷ []) n h m = let a : w ≤ 8192 = h.1 in let e : w * 1 ≡ w = omega arith in omega (arith, a, m, e)
few_places (w ∷ r ∷ []) n h m =
    let a : w ≤ 8192 = h.0.1 in
    let q : r ≤ 8192 = h.1.1 in
    let b : r * 1 ≤ 8192 = omega (arith, q) in
    let l : w * (r * 1) ≤ 8192 * 8192 = mul-le-mul a b in
    omega (arith, l, m)
few_places (w ∷ r ∷ k ∷ []) n h m =
    let a : w ≤ 8192 = h.0.1 in
    let q : r ≤ 8192 = h.1.1 in
    let three : k ≡ 3 = h.2 in
    let t : k * 1 ≤ 3 = omega (arith, three) in
    let b : r * (k * 1) ≤ 8192 * 3 = mul-le-mul q t in
    let l : w * (r * (k * 1)) ≤ 8192 * (8192 * 3) = mul-le-mul a b in
    omega (arith, l, m)
few_places (w ∷ r ∷ k ∷ d ∷ es) n h m = absurd h

-- what is divided does not grow
pub quotient_few : (n k : ℕ) → n < 2 ^ 63 → n / k < 2 ^ 63
quotient_few n k h = let l = div-le_self n k in omega (arith, l, h)

pub remainder_few : (n k : ℕ) → n < 2 ^ 63 → n % k < 2 ^ 63
remainder_few n k h = let l = mod-le n k in omega (arith, l, h)
