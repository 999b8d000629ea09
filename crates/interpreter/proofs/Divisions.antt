-- Quotients and remainders by a number that is not 0, where what is left is smaller than it.
use Rattle.std.proofs.Common.{◌≡◌, ℕ, zero, suc, ◌+◌, ◌-◌, ◌*◌, ◌/◌, ◌%◌, ◌<◌, refl, sym, ap, ◌∙◌, arith, pos, negsuc}
use Rattle.std.proofs.lemmas.Nat.{div-mul-add, mod-mul-add}
use Rattle.numeric.specs.Apply.{quotient, remainder}

pub quotient_is : (n q d r : ℕ) → q * d + r ≡ n → r < d → q ≡ n / d
quotient_is n q d r e lt = sym (div-mul-add q d r lt) ∙ ap (λ (m : ℕ). m / d) e

pub rest_is : (n q d r : ℕ) → q * d + r ≡ n → r < d → r ≡ n % d
rest_is n q d r e lt = sym (mod-mul-add q d r lt) ∙ ap (λ (m : ℕ). m % d) e

pub quotient_below : (n d : ℕ) → 0 < d → quotient (negsuc n) (pos d) ≡ negsuc (n / d)
quotient_below n zero some = absurd (omega arith)
quotient_below n (suc d) some = refl

pub quotient_above : (n d : ℕ) → 0 < d → quotient (pos n) (pos d) ≡ pos (n / d)
quotient_above n zero some = absurd (omega arith)
quotient_above n (suc d) some = refl

pub remainder_below : (n d : ℕ) → 0 < d → remainder (negsuc n) (pos d) ≡ pos (d - 1 - n % d)
remainder_below n zero some = absurd (omega arith)
remainder_below n (suc d) some = refl

pub remainder_above : (n d : ℕ) → 0 < d → remainder (pos n) (pos d) ≡ pos (n % d)
remainder_above n zero some = absurd (omega arith)
remainder_above n (suc d) some = refl
