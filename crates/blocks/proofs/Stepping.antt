-- Multiples and blocks of forms, one more behind others.
use Rattle.std.proofs.Common.{◌≡◌, List, [], ◌∷◌, ◌++◌, Option, Some, Result, sym, ap, subst, ◌∙◌}
use Rattle.std.specs.Prelude.{ℤ}
use Rattle.lin.specs.Forms.{Form, number, combined}
use Rattle.sched.specs.Standing.{◌>>=◌}
use Rattle.sched.specs.declared.stop.Stop.{Stop}
use Rattle.sched.specs.Limited.{Tells}
use Rattle.blocks.specs.Planned.{add_stepped}

pub stepped_more : {X : Type 0} (low factor low' factor' : ℤ) (f : Form) (rest fs before pushed : List Form) (g : Form) (made : List Form) (r : Result X Stop) → low' ≡ low → factor' ≡ factor
    → fs ≡ f ∷ rest → combined (number low') factor' f ≡ Some g → pushed ≡ before ++ g ∷ [] → Tells r made (add_stepped low' factor' rest pushed) → Tells r made (add_stepped low factor fs before)
stepped_more low factor low' factor' f rest fs before pushed g made r same_low same_factor split one more told =
    let here : add_stepped low factor fs before ≡ add_stepped low' factor' rest pushed =
    (λ i. add_stepped (sym same_low i) (sym same_factor i) (split i) before)
    ∙ (ap (λ (o : Option Form). o >>= λ h. add_stepped low' factor' rest (before ++ h ∷ [])) one ∙ ap (add_stepped low' factor' rest) (sym more)) in
    subst (Tells r made) (sym here) told
