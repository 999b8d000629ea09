-- Failures of a reader and a writer that tell of them.
use Rattle.std.proofs.Common.{◌≡◌, ◌⊎◌, ◌||◌, inl, inr, Bool, true, false, Result, Ok, Err, sym, ap, ◌∙◌, subst}
use Rattle.commands.specs.declared.pipeline.fault.Fault.{Fault}

same_error : {A : Type 0} (r : Result A Fault) (e x : Fault) → r ≡ Err e → r ≡ Err x → e ≡ x
same_error r e x h k = cc (sym h ∙ k)

-- an error is handed on
pub handed_on : {A B : Type 0} (r : Result A Fault) (s : Result B Fault) (e f x : Fault) → r ≡ Err e → s ≡ Err f → f ≡ e → r ≡ Err x → s ≡ Err x
handed_on r s e f x is made same device = subst (λ (y : Fault). s ≡ Err y) (same ∙ same_error r e x is device) made

pub first_alone : (P : Type 0) (b : Bool) → b ≡ false → P ⊎ (b ≡ true) → P
first_alone P b off (inl p) = p
first_alone P b off (inr on) = let q : true ≡ false = sym on ∙ off in absurd (cc q)

no_error : (P : Type 0) {A : Type 0} (r : Result A Fault) (a : A) (x : Fault) → r ≡ Ok a → r ≡ Err x → P
no_error P r a x ok err = absurd (cc (sym ok ∙ err))

no_failure : (P : Type 0) (new old : Bool) → new ≡ (old || false) → old ≡ false → new ≡ true → P
no_failure P new old is off on = let q : true ≡ false = sym on ∙ is ∙ ap (λ b. b || false) off in absurd (cc q)

-- nothing has failed where the image was read and the picture written
pub none_failed : (P : Type 0) {A : Type 0} (source new old : Bool) (r : Result A Fault) (a : A) (x : Fault) → r ≡ Ok a → (source ≡ true → r ≡ Err x)
    → new ≡ (old || false) → old ≡ false → (source ≡ true) ⊎ (new ≡ true) → P
none_failed P source new old r a x ok failed is off (inl on) = no_error P r a x ok (failed on)
none_failed P source new old r a x ok failed is off (inr on) = no_failure P new old is off on
