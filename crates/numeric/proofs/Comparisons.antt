-- The lesser, the greater and the comparisons are those of whole numbers.
use Rattle.std.proofs.Common.{◌≡◌, ◌≢◌, inl, inr, refl, sym, arith, ℤ, pos, ◌≤ℤ◌, ◌<ℤ◌, int_lt, Bool, true, false, not}
use Rattle.std.specs.Prelude.{IsTrue, ◌⊎◌, ◌<◌, zero, suc, negsuc, int_le, unsigned_abs, if◌then◌else◌}
use Rattle.std.specs.Ordering.{int_eq}
use Rattle.std.specs.Int.{int_max, int_min}
use Rattle.std.proofs.lemmas.Int.{ints, clamps}
use Rattle.std.proofs.lemmas.Bool.Decides.{Decides-int_eq}
use borrow.Author.Differences.{true_is_lt, true_is_le}
use Rattle.numeric.specs.declared.ty.Ty.{Ty}
use Rattle.numeric.specs.declared.ty.Ty.TheVariants.{U8, U16, U32, I8, I16, I32}
use Rattle.numeric.specs.Wrap.{IsOf}
use Rattle.numeric.specs.Apply.{remainder}
use Rattle.numeric.specs.Laws.{ExtremesAreOfNumbers, ExtremesAreExact, ComparisonsAreOfNumbers}
use Rattle.numeric.proofs.Numbers.{signed}
use Rattle.numeric.proofs.Quotients.{divides}
use Rattle.numeric.proofs.Wraps.{wrap_of_value}

-- one of two
either : (P : ℤ → Type 0) (a b : ℤ) (t : Bool) → P a → P b → P (if t then a else b)
either P a b true p q = p
either P a b false p q = q

lesser_is_one : (a b : ℤ) → (int_min a b ≡ a) ⊎ (int_min a b ≡ b)
lesser_is_one a b = either (λ z. (z ≡ a) ⊎ (z ≡ b)) b a (int_lt b a) (inr refl) (inl refl)

greater_is_one : (a b : ℤ) → (int_max a b ≡ a) ⊎ (int_max a b ≡ b)
greater_is_one a b = either (λ z. (z ≡ a) ⊎ (z ≡ b)) a b (int_lt b a) (inl refl) (inr refl)

pub extremes : ExtremesAreOfNumbers
extremes = record {
  least = λ a b. (omega (arith, ints, clamps), omega (arith, ints, clamps), lesser_is_one a b);
  greatest = λ a b. (omega (arith, ints, clamps), omega (arith, ints, clamps), greater_is_one a b);
}

less_than : (a b : ℤ) → IsTrue (int_lt a b) → a <ℤ b
less_than a b t = omega (arith, signed)

lesser : (a b : ℤ) → a <ℤ b → IsTrue (int_lt a b)
lesser a b h = sym (true_is_lt a b (omega (arith, ints)))

at_most : (a b : ℤ) → IsTrue (int_le a b) → a ≤ℤ b
at_most a b t = omega (arith, signed)

not_more : (a b : ℤ) → a ≤ℤ b → IsTrue (int_le a b)
not_more a b h = sym (true_is_le a b (omega (arith, ints)))

differs : (a b : ℤ) → IsTrue (not (int_eq a b)) → a ≢ b
differs a b t e = by (int_eq a b) t ((Decides-int_eq a b).1 e)
  where
    by : (c : Bool) → IsTrue (not c) → c ≡ true → ⊥
    by true n i = cc
    by false n i = cc

different : (a b : ℤ) → a ≢ b → IsTrue (not (int_eq a b))
different a b n = by (int_eq a b) (Decides-int_eq a b).0
  where
    by : (c : Bool) → (c ≡ true → a ≡ b) → IsTrue (not c)
    by true f = absurd (n (f refl))
    by false f = refl

pub comparisons : ComparisonsAreOfNumbers
comparisons = record {
  less = λ a b. (less_than a b, lesser a b);
  at_most = λ a b. (at_most a b, not_more a b);
  greater = λ a b. (less_than b a, lesser b a);
  at_least = λ a b. (at_most b a, not_more b a);
  equal = λ a b. ((Decides-int_eq a b).0, (Decides-int_eq a b).1);
  different = λ a b. (differs a b, different a b);
}

-- what is not negative and smaller in size than a value is a value
smaller_is_value : (t : Ty) (b r : ℤ) → IsOf t b → pos 0 ≤ℤ r → unsigned_abs r < unsigned_abs b → IsOf t r
smaller_is_value U8 b r h from below = record { from = omega (arith, ints); to = omega (arith, ints) }
smaller_is_value U16 b r h from below = record { from = omega (arith, ints); to = omega (arith, ints) }
smaller_is_value U32 b r h from below = record { from = omega (arith, ints); to = omega (arith, ints) }
smaller_is_value I8 b r h from below = record { from = omega (arith, ints); to = omega (arith, ints) }
smaller_is_value I16 b r h from below = record { from = omega (arith, ints); to = omega (arith, ints) }
smaller_is_value I32 b r h from below = record { from = omega (arith, ints); to = omega (arith, ints) }

-- a remainder by a value is a value
rest_is_value : (t : Ty) (a b : ℤ) → IsOf t b → IsOf t (remainder a b)
rest_is_value t a (pos zero) h = h
rest_is_value t a (pos (suc b)) h = let d = divides a (pos (suc b)) (λ e. cc) in smaller_is_value t (pos (suc b)) (remainder a (pos (suc b))) h d.from d.below
rest_is_value t a (negsuc b) h = let d = divides a (negsuc b) (λ e. cc) in smaller_is_value t (negsuc b) (remainder a (negsuc b)) h d.from d.below

pub exact : ExtremesAreExact
exact = record {
  least = λ t a b h k. wrap_of_value t (int_min a b) (either (IsOf t) b a (int_lt b a) k h);
  greatest = λ t a b h k. wrap_of_value t (int_max a b) (either (IsOf t) a b (int_lt b a) h k);
  rest = λ t a b h k. wrap_of_value t (remainder a b) (rest_is_value t a b k);
}
