-- What a part that was not made says of the definition of it.
-- What crates below need of it stands there: `sched`.
use Rattle.std.proofs.Common.{◌≡◌, Option, None, Err, refl, sym, subst}
use Rattle.sched.specs.declared.skeleton.SkeletonError.{SkeletonError}
use Rattle.sched.specs.declared.skeleton.SkeletonError.TheVariants as skeleton
use Rattle.sched.specs.declared.stop.Stop.{Stop}
use Rattle.sched.specs.Refused.{stop_of_skeleton}
use Rattle.sched.specs.Limited.{Gives}

pub skeleton_gives : {X A : Type 0} (e : SkeletonError) (s : Stop) (f : X → A) (o : Option A) → s ≡ stop_of_skeleton e → (e ≡ skeleton.Limit → o ≡ None) → Gives (Err s) f o
skeleton_gives skeleton.Memory s f o is h = subst (λ (z : Stop). Gives (Err z) f o) (sym is) tt
skeleton_gives skeleton.Limit s f o is h = subst (λ (z : Stop). Gives (Err z) f o) (sym is) (h refl)
