-- The laws of the types and operators, each of them the contract of a function.
use Rattle.std.specs.Prelude.{◌≡◌, ◌≢◌, ◌↔◌, ℤ, pos, ◌≤ℤ◌, ◌<ℤ◌, ◌+ℤ◌, ◌*ℤ◌, IsTrue, ◌⊎◌}
use Rattle.std.specs.Int.{int_max, int_min}
use Rattle.numeric.specs.declared.ty.Ty.{Ty}
use Rattle.numeric.specs.declared.op.Op.TheVariants.{Rem, Min, Max}
use Rattle.numeric.specs.declared.op.Comparison.TheVariants.{Less, AtMost, Greater, AtLeast, Equal, Different}
use Rattle.numeric.specs.Wrap.{wrap, IsOf, WrapsTo}
use Rattle.numeric.specs.Apply.{apply, compare, quotient, remainder, Divides}

-- a number wraps to a value congruent to it, and to no other value; a value wraps to itself
pub record WrapIsTheValue : Type 0 where
  pub is : (t : Ty) (z : ℤ) → WrapsTo t z (wrap t z)
  pub only : (t : Ty) (z w : ℤ) → WrapsTo t z w → w ≡ wrap t z
  pub same : (t : Ty) (z : ℤ) → IsOf t z → wrap t z ≡ z

-- quotient and remainder are what the law of division says, and nothing else is; by 0 both are 0
pub record DivisionIsEuclids : Type 0 where
  pub is : (a b : ℤ) → b ≢ pos 0 → Divides a b (quotient a b) (remainder a b)
  pub only : (a b q r : ℤ) → b ≢ pos 0 → Divides a b q r → (q ≡ quotient a b) × (r ≡ remainder a b)
  pub by_zero : (a : ℤ) → (quotient a (pos 0) ≡ pos 0) × (remainder a (pos 0) ≡ pos 0)

-- the lesser of two numbers is one of them, and above neither; the greater likewise
pub record ExtremesAreOfNumbers : Type 0 where
  pub least : (a b : ℤ) → (int_min a b ≤ℤ a) × (int_min a b ≤ℤ b) × ((int_min a b ≡ a) ⊎ (int_min a b ≡ b))
  pub greatest : (a b : ℤ) → (a ≤ℤ int_max a b) × (b ≤ℤ int_max a b) × ((int_max a b ≡ a) ⊎ (int_max a b ≡ b))

-- the lesser, the greater and the remainder of two values are values as they are: nothing wraps
pub record ExtremesAreExact : Type 0 where
  pub least : (t : Ty) (a b : ℤ) → IsOf t a → IsOf t b → apply Min t a b ≡ int_min a b
  pub greatest : (t : Ty) (a b : ℤ) → IsOf t a → IsOf t b → apply Max t a b ≡ int_max a b
  pub rest : (t : Ty) (a b : ℤ) → IsOf t a → IsOf t b → apply Rem t a b ≡ remainder a b

-- each comparison is that of whole numbers
pub record ComparisonsAreOfNumbers : Type 0 where
  pub less : (a b : ℤ) → IsTrue (compare Less a b) ↔ (a <ℤ b)
  pub at_most : (a b : ℤ) → IsTrue (compare AtMost a b) ↔ (a ≤ℤ b)
  pub greater : (a b : ℤ) → IsTrue (compare Greater a b) ↔ (b <ℤ a)
  pub at_least : (a b : ℤ) → IsTrue (compare AtLeast a b) ↔ (b ≤ℤ a)
  pub equal : (a b : ℤ) → IsTrue (compare Equal a b) ↔ (a ≡ b)
  pub different : (a b : ℤ) → IsTrue (compare Different a b) ↔ (a ≢ b)

-- laws of sums, products and their order that the proofs of other crates use
pub record ProductsFollowOrder : Type 0 where
  pub distribute : (a b c : ℤ) → a *ℤ (b +ℤ c) ≡ a *ℤ b +ℤ a *ℤ c
  pub group : (a b c : ℤ) → a *ℤ (b *ℤ c) ≡ (a *ℤ b) *ℤ c
  pub rising : (c a b : ℤ) → pos 0 ≤ℤ c → a ≤ℤ b → (c *ℤ a) ≤ℤ (c *ℤ b)
  pub falling : (c a b : ℤ) → c ≤ℤ pos 0 → a ≤ℤ b → (c *ℤ b) ≤ℤ (c *ℤ a)
