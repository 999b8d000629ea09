-- Linear forms over the turns of a loop: with each turn a form rises by the factor of the loop's symbol.
use Rattle.std.proofs.Common.{◌≡◌, ℕ, ◌+◌, ◌%◌, List, [], ◌∷◌, length, map, refl, sym, ap, subst, ◌∙◌, arith, Bool, true, false, ℤ, pos, w64, SFits, to_z, of_z}
use Rattle.std.specs.Prelude.{◌==◌, if◌then◌else◌, ◌+ℤ◌, ◌-ℤ◌, ◌*ℤ◌}
use Rattle.std.proofs.Math.IntN.{zero-*ℤ, *ℤ-one}
use Rattle.std.proofs.lemmas.Int.{ints, int_wrap_fits}
use Rattle.numeric.proofs.Ints.{distribute, distribute_right}
use Rattle.lin.specs.Forms.{Form, sum_of, factor_of}
use Rattle.lin.specs.declared.form.Multiple.{Multiple}
use Rattle.plan.specs.declared.stmt.Coordinate.{Coordinate}
use Rattle.plan.specs.Plan.{Index, At, Found}
use Rattle.plan.specs.View.{coordinate_of}
use Rattle.plan.specs.Symbols.{Symbols, bind, form_value}
use Rattle.plan.specs.Semantics.Actions.{fixed, index_target}
use Rattle.interpreter.specs.Narrow.{IsNumber}
use Rattle.interpreter.specs.Runs.{numbers_at}
use Rattle.interpreter.specs.Targets.{known_number}
use Rattle.interpreter.proofs.Summing.{number_fits, wrapped_sum}

one_moved : (b : Bool) (f z k v : ℤ) → f *ℤ (if b then z +ℤ k else v) ≡ f *ℤ (if b then z else v) +ℤ (if b then f else pos 0) *ℤ k
one_moved true f z k v = distribute f z k
one_moved false f z k v = omega (arith, ints, zero-*ℤ k)

sum_moved : (ts : List Multiple) (s : Symbols) (i : ℕ) (z k : ℤ) (b c : Bool) → sum_of ts (bind s i (z +ℤ k) b).value ≡ sum_of ts (bind s i z c).value +ℤ factor_of ts i *ℤ k
sum_moved [] s i z k b c = omega (arith, ints, zero-*ℤ k)
sum_moved (t ∷ ts) s i z k b c =
    let first = one_moved (t.symbol == i) t.factor z k (s.value t.symbol) in
    let rest = sum_moved ts s i z k b c in
    omega (arith, ints, first, rest, distribute_right (if t.symbol == i then t.factor else pos 0) (factor_of ts i) k)

pub form_moved : (l : Form) (s : Symbols) (i : ℕ) (z k : ℤ) (b c : Bool) → form_value l (bind s i (z +ℤ k) b) ≡ form_value l (bind s i z c) +ℤ factor_of l.terms i *ℤ k
form_moved l s i z k b c = omega (arith, ints, sum_moved l.terms s i z k b c)

-- one turn on it is what a sum modulo 2^64 gives, if it is of 64 bits
pub later_value : (l : Form) (s : Symbols) (i : ℕ) (z a f : ℤ) (b c : Bool) → SFits w64 a → SFits w64 f → a ≡ form_value l (bind s i z b) → f ≡ factor_of l.terms i →
    IsNumber (form_value l (bind s i (z +ℤ pos 1) c)) →
    to_z w64 ((of_z w64 a + of_z w64 f) % 18446744073709551616) ≡ form_value l (bind s i (z +ℤ pos 1) c)
later_value l s i z a f b c a_fits f_fits is factor narrow =
    let moved = form_moved l s i z (pos 1) c b in
    let later : a +ℤ f ≡ form_value l (bind s i (z +ℤ pos 1) c) = omega (arith, ints, is, factor, moved, *ℤ-one (factor_of l.terms i)) in
    let fits : SFits w64 (a +ℤ f) = subst (λ (y : ℤ). SFits w64 y) (sym later) (number_fits _ narrow) in
    wrapped_sum a f f a_fits f_fits (sym (int_wrap_fits w64 f f_fits)) fits ∙ later

-- the number k turns on, by those of the first turn and of the second
abbrev pub moved : ℤ → ℤ → ℕ → ℤ
moved a b k = a +ℤ (b -ℤ a) *ℤ pos k

by_step : (a b f w : ℤ) (k : ℕ) → b ≡ a +ℤ f *ℤ pos 1 → w ≡ a +ℤ f *ℤ pos k → w ≡ moved a b k
by_step a b f w k second later =
    let step : b -ℤ a ≡ f = omega (arith, ints, second, *ℤ-one f) in
    later ∙ ap (λ (g : ℤ). a +ℤ g *ℤ pos k) (sym step)

index_moved : (x : Index) (s : Symbols) (i : ℕ) (z : ℤ) (k : ℕ) (b c d : Bool) →
    fixed (index_target (bind s i (z +ℤ pos k) d) x) ≡ moved (fixed (index_target (bind s i z b) x)) (fixed (index_target (bind s i (z +ℤ pos 1) c) x)) k
index_moved (At l) s i z k b c d =
    by_step (form_value l (bind s i z b)) (form_value l (bind s i (z +ℤ pos 1) c)) (factor_of l.terms i) (form_value l (bind s i (z +ℤ pos k) d)) k
    (form_moved l s i z (pos 1) c b) (form_moved l s i z (pos k) d b)
index_moved (Found e) s i z k b c d = omega (arith, ints, zero-*ℤ (pos k))

-- the numbers of a store's coordinates k turns on
pub numbers_moved : (cs : List Coordinate) (s : Symbols) (i : ℕ) (z : ℤ) (k : ℕ) (b c d : Bool) →
    map (known_number (bind s i (z +ℤ pos k) d)) cs ≡ numbers_at (map (known_number (bind s i z b)) cs) (map (known_number (bind s i (z +ℤ pos 1) c)) cs) k
numbers_moved [] s i z k b c d = refl
numbers_moved (x ∷ cs) s i z k b c d = λ j. index_moved (coordinate_of x).index s i z k b c d j ∷ numbers_moved cs s i z k b c d j
