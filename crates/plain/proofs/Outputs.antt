-- Samples of the output and their places.
use Rattle.std.proofs.Common.{◌≡◌, ℕ, zero, suc, ◌*◌, ◌/◌, ◌%◌, ◌<◌, ◌≤◌, ◌^◌, Bool, true, false, List, [], ◌∷◌, length, get_or, Option, Some, None, MatchOption, ℤ, pos, negsuc, refl, sym, ap, ◌∙◌, subst, arith, nat_lt, ltb-true, mul-le-mul, div-le_self}
use native.Mathlib.Nat.{mod-le}
use Rattle.std.specs.Prelude.{slice_get, ◌&&◌, ◌≢◌}
use Rattle.std.specs.List.{AllByRecursion}
use Rattle.std.proofs.lemmas.Int.{ints}
use Rattle.std.proofs.lemmas.List.Elements.{All-from_recursion}
use Rattle.numeric.specs.declared.ty.Ty.{Ty}
use Rattle.numeric.specs.declared.ty.Ty.TheVariants.{U8, U16, U32, I8, I16, I32}
use Rattle.numeric.specs.Wrap.{IsOf}
use Rattle.meaning.proofs.Places.{raster_is_order}
use Rattle.meaning.specs.Image.Raster.{is_within, sample_count, HasRaster}
use Rattle.meaning.specs.Image.View.{AreExtents, IsSampleType}
use Rattle.meaning.specs.Algorithm.{Function, Algorithm}
use Rattle.meaning.specs.Conditions.{IsAlgorithm, IsOutput as OutputFits, function_named}
use Rattle.meaning.specs.Functions.{AreSamples, IsPoint}
use Rattle.meaning.specs.Value.{calls_of, output_value, value_of_function}
use Rattle.meaning.specs.Count.{output_count, priced}
use Rattle.meaning.proofs.Calls.{called}
use Rattle.meaning.proofs.Cases.{name_same, name_differs}
use Rattle.meaning.proofs.Typed.{value_is_typed}
use Rattle.tree.specs.declared.value.Value.{Value}
use Rattle.std.specs.Result.{IsErrAnd}
use Rattle.std.specs.Prelude.{Ok, Err, IfErr}
use Rattle.std.specs.declared.result.Result.{Result}
use Rattle.plain.specs.declared.error.PlainError.{PlainError}
use Rattle.plain.specs.declared.error.PlainError.TheVariants.{Budget}
use Rattle.plain.specs.Count.{count_of_function}
use Rattle.plain.specs.Picture.{IsOutput}
use Rattle.plain.specs.Scopes.{function_at, NoneBefore}
use Rattle.plain.proofs.Known.{stands}

pub has_raster : (es : List ℕ) → AreExtents es → HasRaster es
has_raster [] h = absurd h
has_raster (x ∷ []) h = tt
has_raster (x ∷ y ∷ []) h = tt
has_raster (x ∷ y ∷ z ∷ []) h = tt
has_raster (x ∷ y ∷ z ∷ u ∷ es) h = absurd h

-- ---- points of the output are points of 32-bit numbers

abbrev Few : List ℕ → Type 0
Few es = AllByRecursion (λ e. e ≤ 8192) es

few : (es : List ℕ) → AreExtents es → Few es
few [] h = absurd h
few (w ∷ []) h = (h.1, tt)
few (w ∷ r ∷ []) h = (h.0.1, (h.1.1, tt))
few (w ∷ r ∷ k ∷ []) h = let three : k ≡ 3 = h.2 in (h.0.1, (h.1.1, (omega arith, tt)))
few (w ∷ r ∷ k ∷ d ∷ es) h = absurd h

and_both : (a b : Bool) → (a && b) ≡ true → (a ≡ true) × (b ≡ true)
and_both true b h = (refl, h)
and_both false b h = absurd (cc h)

coordinate : (n e : ℕ) → n < e → e ≤ 8192 → IsOf I32 (pos n)
coordinate n e h l = record { from = omega (arith, ints, h, l); to = omega (arith, ints, h, l) }

coordinates : (es : List ℕ) (at : List ℤ) → Few es → is_within es at ≡ true → AllByRecursion (IsOf I32) at
coordinates [] [] h e = tt
coordinates [] (z ∷ zs) h e = absurd (cc e)
coordinates (w ∷ es) [] h e = absurd (cc e)
coordinates (w ∷ es) (negsuc n ∷ zs) h e = absurd (cc e)
coordinates (w ∷ es) (pos n ∷ zs) h e =
    let b = and_both (nat_lt n w) (is_within es zs) e in
    (coordinate n w (ltb-true n w b.0) h.0, coordinates es zs h.1 b.1)

is_point : (es : List ℕ) (at : List ℤ) → AreExtents es → is_within es at ≡ true → IsPoint at
is_point es at h e = All-from_recursion (IsOf I32) at (coordinates es at (few es h) e)

-- a point on the extents has as many coordinates
pub coordinate_count : (es : List ℕ) (at : List ℤ) → is_within es at ≡ true → length at ≡ length es
coordinate_count [] [] e = refl
coordinate_count [] (z ∷ zs) e = absurd (cc e)
coordinate_count (w ∷ es) [] e = absurd (cc e)
coordinate_count (w ∷ es) (negsuc n ∷ zs) e = absurd (cc e)
coordinate_count (w ∷ es) (pos n ∷ zs) e = ap suc (coordinate_count es zs (and_both (nat_lt n w) (is_within es zs) e).1)

-- ---- the output's function

first_named : (fs : List Function) (d : Function) (name : List ℕ) (j : ℕ) → j < length fs → ((i : ℕ) → i < j → (get_or fs i d).name ≢ name) → (get_or fs j d).name ≡ name →
    function_named fs name ≡ Some (get_or fs j d)
first_named [] d name j l none named = absurd (omega arith)
first_named (f ∷ fs) d name zero l none named = ap (λ b. elim b [ true ↦ Some f | false ↦ function_named fs name ]) (name_same f.name name named)
first_named (f ∷ fs) d name (suc j) l none named =
    ap (λ b. elim b [ true ↦ Some f | false ↦ function_named fs name ]) (name_differs f.name name (none 0 (omega arith)))
    ∙ first_named fs d name j (omega arith) (λ i m. none (suc i) (omega arith)) named

none_named : (fs : List Function) (d : Function) (name : List ℕ) → ((i : ℕ) → i < length fs → (get_or fs i d).name ≢ name) → function_named fs name ≡ None
none_named [] d name none = refl
none_named (f ∷ fs) d name none =
    ap (λ b. elim b [ true ↦ Some f | false ↦ function_named fs name ]) (name_differs f.name name (none 0 (omega arith)))
    ∙ none_named fs d name (λ i m. none (suc i) (omega arith))

-- ---- samples

-- the number is a natural one of 16 bits
pub record IsSample (z : ℤ) : Type 0 where
  pub number : ℕ
  pub is : z ≡ pos number
  pub small : number < 2 ^ 16

number_of : (t : Ty) (z : ℤ) → IsSampleType t → IsOf t z → IsSample z
number_of U8 (pos n) s h = let to = h.to in record { number = n; is = refl; small = omega (arith, ints, to) }
number_of U16 (pos n) s h = let to = h.to in record { number = n; is = refl; small = omega (arith, ints, to) }
number_of U8 (negsuc n) s h = let from = h.from in absurd (omega (arith, ints, from))
number_of U16 (negsuc n) s h = let from = h.from in absurd (omega (arith, ints, from))
number_of U32 z s h = absurd s
number_of I8 z s h = absurd s
number_of I16 z s h = absurd s
number_of I32 z s h = absurd s

module _ (a : Algorithm) (w : IsAlgorithm a) where
  -- there is an output
  pub some_output : NoneBefore a (length a.functions) a.output → ⊥
  some_output none = subst (λ o. MatchOption o ⊥ (OutputFits a.output_extents)) (none_named a.functions _ a.output none) w.output

  module _ (k : ℕ) (is : IsOutput a k) where
    pub fits : OutputFits a.output_extents (function_at a k)
    fits = subst (λ o. MatchOption o ⊥ (OutputFits a.output_extents)) (first_named a.functions _ a.output k is.below is.none is.named) w.output

    pub at : slice_get a.functions k ≡ Some (function_at a k)
    at = stands a [] w k is.below

    module _ (samples : List ℕ) (p : List ℤ) where
      pub same_value : output_value a samples p ≡ value_of_function a samples k p
      same_value = ap (λ n. (calls_of a samples n p).number) (sym is.named) ∙ ap (λ (v : Value). v.number) (called a w.names samples k (function_at a k) p at)

      pub same_count : count_of_function a samples k p ≡ output_count a samples p
      same_count =
          let of : Option Function → ℕ = λ o. elim o [ Some f ↦ (priced a samples).costs f.name p | None ↦ 0 ] in
          ap of at ∙ ap (λ n. (priced a samples).costs n p) is.named

      module _ (given : AreSamples a samples) (within : is_within a.output_extents p ≡ true) where
        -- the output's value at a point of its extents is a sample
        pub output_sample : IsSample (output_value a samples p)
        output_sample =
            let value = value_is_typed a samples w given k (function_at a k) at p (is_point a.output_extents p w.output_extents within) in
            subst IsSample (sym same_value) (number_of (function_at a k).ty (value_of_function a samples k p) fits.sampled value)

-- ---- places of the raster

-- the point of a place with three coordinates
pub third : (es : List ℕ) (n : ℕ) → AreExtents es → 3 ≤ length es → n < sample_count es
    → is_within es (pos (n / get_or es 2 0 % get_or es 0 0) ∷ pos (n / get_or es 2 0 / get_or es 0 0) ∷ pos (n % get_or es 2 0) ∷ []) ≡ true
third [] n h l m = absurd h
third (w ∷ []) n h l m = absurd (omega (arith, l))
third (w ∷ r ∷ []) n h l m = absurd (omega (arith, l))
third (w ∷ r ∷ k ∷ []) n h l m = raster_is_order.on_extents (w ∷ r ∷ k ∷ []) n tt m
third (w ∷ r ∷ k ∷ d ∷ es) n h l m = absurd h

-- a place of three coordinates is less than this
pub few_places : (es : List ℕ) (n : ℕ) → AreExtents es → n < sample_count es → n < 2 ^ 31
few_places [] n h m = absurd h
few_places (w ∷ []) n h m = let a : w ≤ 8192 = h.1 in let e : w * 1 ≡ w = omega arith in omega (arith, a, m, e)
few_places (w ∷ r ∷ []) n h m =
    let a : w ≤ 8192 = h.0.1 in
    let q : r ≤ 8192 = h.1.1 in
    let b : r * 1 ≤ 8192 = omega (arith, q) in
    let l : w * (r * 1) ≤ 8192 * 8192 = mul-le-mul a b in
    omega (arith, l, m)
few_places (w ∷ r ∷ k ∷ []) n h m =
    let a : w ≤ 8192 = h.0.1 in
    let q : r ≤ 8192 = h.1.1 in
    let three : k ≡ 3 = h.2 in
    let t : k * 1 ≤ 3 = omega (arith, three) in
    let b : r * (k * 1) ≤ 8192 * 3 = mul-le-mul q t in
    let l : w * (r * (k * 1)) ≤ 8192 * (8192 * 3) = mul-le-mul a b in
    omega (arith, l, m)
few_places (w ∷ r ∷ k ∷ d ∷ es) n h m = absurd h

-- what is divided does not grow
pub quotient_few : (n k : ℕ) → n < 2 ^ 31 → n / k < 2 ^ 31
quotient_few n k h = let l = div-le_self n k in omega (arith, l, h)

pub remainder_few : (n k : ℕ) → n < 2 ^ 31 → n % k < 2 ^ 31
remainder_few n k h = let l = mod-le n k in omega (arith, l, h)

-- ---- errors that are passed on

-- the same error, where a spent budget means the same
pub passed_on : {X : Type 0} (r : Result X PlainError) (e : PlainError) (P : Type 0) → IsErrAnd r (λ x. x ≡ e) → (e ≡ Budget → P) → IfErr r (λ x. x ≡ Budget → P)
passed_on (Ok v) e P h f = absurd h
passed_on (Err x) e P h f = λ m. f (sym h ∙ m)
