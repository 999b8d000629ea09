-- What forms come to at a grid point.
use Rattle.std.proofs.Common.{◌≡◌, ℕ, zero, suc, ◌*◌, ◌≤◌, ◌^◌, List, [], ◌∷◌, ◌++◌, length, arith, refl, Some, None, Bool, true, false}
use Rattle.std.specs.Prelude.{ℤ, pos, negsuc, ◌*ℤ◌, ◌≤ℤ◌, ◌==◌, if◌then◌else◌, IsTrue, slice_get}
use Rattle.std.specs.List.{AllByRecursion}
use Rattle.std.specs.Int.{int_max, int_min}
use Rattle.std.proofs.lemmas.Int.{ints, clamps}
use Rattle.std.proofs.lemmas.List.Elements.{recursion_from_All}
use Rattle.lin.specs.Forms.{Form, sum_of, AreWithin, IsWithin, is_within_limits}
use Rattle.lin.specs.declared.form.Multiple.{Multiple}
use Rattle.lin.proofs.Limits.{within_limits-terms, within_limits-constant, within_limits-few}
use Rattle.lin.proofs.Machine.{product_within, sum_within}
use Rattle.plan.specs.Symbols.{Symbols, bind, clipped, form_value}
use Rattle.plan.specs.Certificate.Cells.{grid_value, grid_symbols}
use Rattle.shares.specs.declared.forms.Value.{Value}
use Rattle.shares.specs.Boxes.{IsSmall}
use Rattle.shares.specs.Lets.{ValuesAreSmall, symbols_at, valued}
use lib.IntN.{nat_abs}
use mir.Val.{to_z}
use mir.Syntax.{w64}

pub clipped_abs : (z : ℤ) → pos 0 ≤ℤ z → nat_abs z ≡ clipped z
clipped_abs (pos n) h = refl
clipped_abs (negsuc n) h = absurd (omega (arith, ints))

pub clipped_none : (z : ℤ) → z ≤ℤ pos 0 → 0 ≡ clipped z
clipped_none (pos n) h = omega (arith, ints)
clipped_none (negsuc n) h = refl

-- ---- symbols

symbol_small : (at : List ℕ) (i : ℕ) → AllByRecursion (λ x. x ≤ 2 ^ 20) at → IsWithin (2 ^ 20) (grid_value at i)
symbol_small [] i h = omega arith
symbol_small (x ∷ xs) zero h = h.0
symbol_small (x ∷ xs) (suc i) h = symbol_small xs i h.1

pub value_small : (at : List ℕ) (i : ℕ) → IsSmall at → IsWithin (2 ^ 20) (grid_value at i)
value_small at i h = symbol_small at i (recursion_from_All (λ x. x ≤ 2 ^ 20) at h)

pub grid_value_some : (at : List ℕ) (i x : ℕ) → slice_get at i ≡ Some x → grid_value at i ≡ pos x
grid_value_some [] i x e = absurd (cc e)
grid_value_some (y ∷ ys) zero x e = cc e
grid_value_some (y ∷ ys) (suc i) x e = grid_value_some ys i x e

pub grid_value_none : (at : List ℕ) (i : ℕ) → slice_get at i ≡ None → grid_value at i ≡ pos 0
grid_value_none [] i e = refl
grid_value_none (y ∷ ys) zero e = absurd (cc e)
grid_value_none (y ∷ ys) (suc i) e = grid_value_none ys i e

-- ---- forms

sum_small : (ts : List Multiple) (v : ℕ → ℤ) → AreWithin (2 ^ 20) ts → ((i : ℕ) → IsWithin (2 ^ 20) (v i)) → IsWithin (length ts * 2 ^ 40) (sum_of ts v)
sum_small [] v h k = omega arith
sum_small (t ∷ ts) v h k =
    let product : IsWithin (2 ^ 40) (t.factor *ℤ v t.symbol) = product_within (2 ^ 20) (2 ^ 20) t.factor (v t.symbol) h.0 (k t.symbol) in
    let whole = sum_within (2 ^ 40) (length ts * 2 ^ 40) (t.factor *ℤ v t.symbol) (sum_of ts v) product (sum_small ts v h.1 k) in
    omega (arith, whole)

-- ---- further symbols

pub valued_push : (vs : List Value) (v : Value) (s : Symbols) → valued (vs ++ v ∷ []) s ≡ bind (valued vs s) v.symbol v.value true
valued_push [] v s = refl
valued_push (x ∷ xs) v s = valued_push xs v (bind s x.symbol x.value true)

pub either_small : (b : Bool) (y z : ℤ) → IsWithin (2 ^ 20) y → IsWithin (2 ^ 20) z → IsWithin (2 ^ 20) (if b then y else z)
either_small true y z h k = h
either_small false y z h k = k

valued_small : (vs : List Value) (s : Symbols) → AllByRecursion (λ v. IsWithin (2 ^ 20) v.value) vs → ((i : ℕ) → IsWithin (2 ^ 20) (s.value i)) → (i : ℕ) → IsWithin (2 ^ 20) ((valued vs s).value i)
valued_small [] s h k i = k i
valued_small (v ∷ vs) s h k i = valued_small vs (bind s v.symbol v.value true) h.1 (λ j. either_small (j == v.symbol) v.value (s.value j) h.0 (k j)) i

pub symbol_small_at : (at : List ℕ) (vs : List Value) (i : ℕ) → IsSmall at → ValuesAreSmall vs → IsWithin (2 ^ 20) ((symbols_at at vs).value i)
symbol_small_at at vs i h k = valued_small vs (grid_symbols at) (recursion_from_All (λ v. IsWithin (2 ^ 20) v.value) vs k) (λ j. value_small at j h) i

pub form_small : (f : Form) (at : List ℕ) (vs : List Value) → IsTrue (is_within_limits f) → IsSmall at → ValuesAreSmall vs → IsWithin (2 ^ 44) (form_value f (symbols_at at vs))
form_small f at vs h k l =
    let v = (symbols_at at vs).value in
    let sum = sum_small f.terms v (within_limits-terms f h) (λ i. symbol_small_at at vs i k l) in
    let few = within_limits-few f h in
    let whole = sum_within (2 ^ 40) (length f.terms * 2 ^ 40) f.constant (sum_of f.terms v) (within_limits-constant f h) sum in
    omega (arith, whole, few)

pub larger_small : (a b : ℤ) → IsWithin (2 ^ 44) a → IsWithin (2 ^ 44) b → IsWithin (2 ^ 44) (int_max a b)
larger_small a b h k = omega (arith, ints, clamps)

pub smaller_small : (a b : ℤ) → IsWithin (2 ^ 44) a → IsWithin (2 ^ 44) b → IsWithin (2 ^ 44) (int_min a b)
smaller_small a b h k = omega (arith, ints, clamps)

pub number_is : (n : ℕ) → IsWithin (2 ^ 20) (pos n) → to_z w64 n ≡ pos n
number_is n h = omega (arith, ints)
