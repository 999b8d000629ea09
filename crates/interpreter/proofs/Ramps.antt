-- Ramps: numbers that rise by one.
use Rattle.std.proofs.Common.{◌≡◌, ℕ, ◌<◌, ap, sym, ◌∙◌, arith, ℤ, pos}
use Rattle.std.specs.Prelude.{◌+ℤ◌, ◌≤ℤ◌}
use Rattle.std.proofs.lemmas.Int.{ints}
use Rattle.numeric.specs.declared.op.Op.{Op}
use Rattle.numeric.specs.declared.ty.Ty.{Ty}
use Rattle.numeric.specs.Apply.{exact}
use Rattle.numeric.specs.Wrap.{greatest, least, wrap}
use Rattle.numeric.proofs.Wraps.{wrap_of_value}

-- a ramp with the same number added is one, where no number of it wraps
pub ramp_moved : (op : Op) (t : Ty) (a b z : ℤ) (n k : ℕ) → ((more : ℤ) → exact op (a +ℤ more) b ≡ z +ℤ more) → least t ≤ℤ z → (z +ℤ pos n) ≤ℤ greatest t → k < n →
    z +ℤ pos k ≡ wrap t (exact op (a +ℤ pos k) b)
ramp_moved op t a b z n k h from to lt =
    let low : least t ≤ℤ (z +ℤ pos k) = omega (arith, ints, from) in
    let high : (z +ℤ pos k) ≤ℤ greatest t = omega (arith, ints, to) in
    sym (ap (wrap t) (h (pos k)) ∙ wrap_of_value t (z +ℤ pos k) (record { from = low; to = high }))
