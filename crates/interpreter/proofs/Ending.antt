-- How a part's end ends the whole.
use Rattle.std.proofs.Common.{◌≡◌, Option, Some, None, refl, ap, ◌∙◌}
use Rattle.plan.specs.Semantics.Found.{with}

-- and goes on where that gives something
pub goes_on : {X B : Type 0} (o : Option X) (x : X) (go : X → Option B) (t : Option B) → t ≡ with o go → o ≡ Some x → t ≡ go x
goes_on o x go t is h = is ∙ ap (λ y. with y go) h

pub with_some : {B : Type 0} (o : Option B) → with o (λ x. Some x) ≡ o
with_some None = refl
with_some (Some x) = refl
