-- Numbers that lie behind an origin, as far as their bits tell modulo 2^64.
use Rattle.std.proofs.Common.{◌≡◌, ℕ, ◌+◌, ◌-◌, ◌%◌, ◌^◌, ◌<◌, Some, None, Bool, ap, ◌∙◌, arith, ℤ, pos, negsuc, w64, of_z, SFits}
use Rattle.std.specs.Prelude.{◌+ℤ◌, ◌-ℤ◌, ◌≤ℤ◌, if◌then◌else◌}
use Rattle.std.proofs.lemmas.Bool.{lt-ltb}
use Rattle.std.proofs.lemmas.Int.{ints}
use Rattle.plan.specs.Rooms.{below, Straight}
use Rattle.interpreter.specs.PlaceNumbers.{IsOneMore}

apart : (z o : ℤ) (n w : ℕ) → SFits w64 z → SFits w64 o → n ≡ (of_z w64 z + (2 ^ 64 - of_z w64 o)) % 2 ^ 64 → (o +ℤ pos w) ≤ℤ pos (2 ^ 63) → n < w → z -ℤ o ≡ pos n
apart (pos a) (pos b) n w f g is end lt = omega (arith, ints, is, end, lt, f.sfits, g.sfits)
apart (pos a) (negsuc b) n w f g is end lt = omega (arith, ints, is, end, lt, f.sfits, g.sfits)
apart (negsuc a) (pos b) n w f g is end lt = omega (arith, ints, is, end, lt, f.sfits, g.sfits)
apart (negsuc a) (negsuc b) n w f g is end lt = omega (arith, ints, is, end, lt, f.sfits, g.sfits)

-- a number that lies less than so many behind the origin has that place of so many
pub distance_place : (z o : ℤ) (n w : ℕ) → SFits w64 z → SFits w64 o → n ≡ (of_z w64 z + (2 ^ 64 - of_z w64 o)) % 2 ^ 64 → (o +ℤ pos w) ≤ℤ pos (2 ^ 63) → n < w → IsOneMore (Straight o w) z 0 n
distance_place z o n w f g is end lt = record {
  first = n;
  is = ap (below w) (apart z o n w f g is end lt) ∙ ap (λ (b : Bool). if b then Some n else None) (lt-ltb n w lt);
  number = omega arith;
}
