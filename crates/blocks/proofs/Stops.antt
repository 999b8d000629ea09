-- What a part that was not made says of the definition of it.
-- What crates below need of it stands there: `sched`.
use Rattle.std.proofs.Common.{◌≡◌, Option, None, Result, Err, sym, subst}
use Rattle.sched.specs.declared.stop.Stop.{Stop}
use Rattle.sched.specs.declared.stop.Stop.TheVariants as stop
use Rattle.sched.specs.Limited.{Gives}

-- what is made of a part that was not made is not made either
pub stops : {X Y A B : Type 0} (r : Result Y Stop) (e : Stop) (f : X → A) (g : Y → B) (o : Option A) (q : Option B) → r ≡ Err e → (o ≡ None → q ≡ None) → Gives (Err e) f o → Gives r g q
stops r stop.Memory f g o q is h s = subst (λ z. Gives z g q) (sym is) tt
stops r stop.Limit f g o q is h s = subst (λ z. Gives z g q) (sym is) (h s)

-- the same of another account of it
pub same_gives : {X A : Type 0} (r : Result X Stop) (f : X → A) (o q : Option A) → o ≡ q → Gives r f o → Gives r f q
same_gives r f o q is h = subst (Gives r f) is h
