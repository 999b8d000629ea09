-- What the program answers without words.
use Rattle.std.proofs.Common.{◌≡◌, ◌⊎◌, ◌∙◌, ap, inl, inr, ℕ, Result, Ok, Err, IfErr}
use Rattle.std.specs.Prelude.{OnOk}
use Rattle.pnm.specs.declared.error.PnmError.TheVariants.{Device}
use Rattle.commands.specs.declared.pipeline.fault.Fault.{Fault}
use Rattle.commands.specs.declared.pipeline.fault.Fault.TheVariants.{Image}
use Rattle.commands.specs.Status.{status_after, status_of}

abbrev Answered : Type 0 → (Fault → Type 0) → ℕ → Type 0
Answered Done Refused status = (((status ≡ 0) ⊎ (status ≡ 5)) × Done) ⊎ ((fault : Fault) × (status ≡ status_of fault) × Refused fault)

refusal : (Done : Type 0) (Refused : Fault → Type 0) (fault : Fault) (status : ℕ) → Refused fault ⊎ ((fault ≡ Image Device) × Done) → status ≡ status_of fault → Answered Done Refused status
refusal Done Refused fault status (inl h) is = inr (fault, is, h)
refusal Done Refused fault status (inr (device, h)) is = inl (inr (is ∙ ap status_of device), h)

pub streams_answer : (Done : Type 0) (Refused : Fault → Type 0) (r : Result (Unit {0}) Fault) (status : ℕ) → OnOk r Done
    → IfErr r (λ fault. Refused fault ⊎ ((fault ≡ Image Device) × Done)) → status ≡ status_after r
    → (((status ≡ 0) ⊎ (status ≡ 5)) × Done) ⊎ ((fault : Fault) × (status ≡ status_of fault) × Refused fault)
streams_answer Done Refused (Ok u) status done refused is = inl (inl is, done)
streams_answer Done Refused (Err fault) status done refused is = refusal Done Refused fault status refused is
