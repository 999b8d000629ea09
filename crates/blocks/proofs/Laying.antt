-- The loops of a region that was found are those of the skeleton over it.
use Rattle.std.proofs.Common.{◌≡◌, Option, Some, None, refl, ap}
use Rattle.sched.specs.Standing.{◌>>=◌}

pub record Bound {A B : Type 0} (o : Option A) (f : A → Option B) (y : B) : Type 0 where
  pub value : A
  pub is : o ≡ Some value
  pub comes : f value ≡ Some y

pub bound : {A B : Type 0} (o : Option A) (f : A → Option B) (y : B) → (o >>= f) ≡ Some y → Bound o f y
bound (Some x) f y h = record { value = x; is = refl; comes = h }
bound None f y h = absurd cc

pub same : {A : Type 0} (x y : A) → Some x ≡ Some y → x ≡ y
same x y h = ap (λ o. elim o [ Some z ↦ z | None ↦ x ]) h
