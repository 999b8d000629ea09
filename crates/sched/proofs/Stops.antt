-- What a part that was not made says of the definition of it.
use Rattle.std.proofs.Common.{◌≡◌, Option, None, Err, refl, sym, subst}
use Rattle.lin.specs.declared.form.LinError.{LinError}
use Rattle.lin.specs.declared.form.LinError.TheVariants as form
use Rattle.sched.specs.declared.stop.Stop.{Stop}
use Rattle.sched.specs.Refused.{stop_of_form}
use Rattle.sched.specs.Limited.{Gives}

pub form_gives : {X A : Type 0} (e : LinError) (s : Stop) (f : X → A) (o : Option A) → s ≡ stop_of_form e → (e ≡ form.Limit → o ≡ None) → Gives (Err s) f o
form_gives form.Memory s f o is h = subst (λ (z : Stop). Gives (Err z) f o) (sym is) tt
form_gives form.Limit s f o is h = subst (λ (z : Stop). Gives (Err z) f o) (sym is) (h refl)
