-- What a picture is computed by, and why none comes of it.
use Rattle.std.proofs.Common.{◌≡◌, inl, inr, subst, List, ℕ}
use Rattle.clap.specs.Words.{Text}
use Rattle.checked_plan.specs.View.{certificate_checked, plan_checked}
use Rattle.meaning.specs.Algorithm.{Algorithm}
use Rattle.plain.specs.Picture.{AllWithin}
use Rattle.algo.specs.View.{algorithm_of}
use Rattle.commands.specs.declared.pipeline.fault.Fault.{Fault}
use Rattle.commands.specs.Pipeline.Pictures.{IsBudgetSpent}
use Rattle.commands.specs.Asked.{AskedWay, Plain, File}
use Rattle.commands.specs.Files.{Contents, SameFiles}
use Rattle.commands.proofs.Kept.{held_before}
use Rattle.commands.specs.declared.picture.Means.{Means}
use Rattle.commands.specs.declared.picture.Means.TheVariants as means
use Rattle.commands.specs.Means.{AreMeans, IsAfforded, IsHalted, algo_meant}
use Rattle.commands.specs.Pictures.{HasPlanFile, HasPlanWith, IsAffordable, IsPlanFault, IsReady, IsStopped, IsTooDear, IsUnready, IsWithin, stores_told}

pub ready_by : (files : Contents) (way : AskedWay) (a : Algorithm) (m : Means) → algorithm_of (algo_meant m) ≡ a → AreMeans files way a m → IsReady files way a
ready_by files (Plain most) a m same h = tt
ready_by files (File name n most) a (means.Definitions algo spent) same h = absurd h
ready_by files (File name n most) a (means.File checked m) same h =
    let Within : Algorithm → Type 0 = λ b. IsWithin most (stores_told b (plan_checked checked) (certificate_checked checked)) in
    record { bytes = h.0.0; plan = checked.plan; cert = checked.cert; holds = h.0.1; accepted = h.0.2; stores = subst Within same h.1 }

pub stopped_by : (files : Contents) (way : AskedWay) (a : Algorithm) (m : Means) (samples : List ℕ) (fault : Fault) → algorithm_of (algo_meant m) ≡ a
    → AreMeans files way a m → IsHalted m samples fault → IsStopped way a samples fault
stopped_by files (Plain most) a (means.Definitions algo spent) samples fault e h k =
    let Spent : Algorithm → Type 0 = λ b. IsBudgetSpent b samples most fault in
    let Most : ℕ → Type 0 = λ n. IsBudgetSpent (algorithm_of algo.now) samples n fault in
    subst Spent e (subst Most h k)
stopped_by files (Plain most) a (means.File checked m) samples fault e h k = absurd h
stopped_by files (File name n most) a (means.Definitions algo spent) samples fault e h k = absurd h
stopped_by files (File name n most) a (means.File checked m) samples fault e h k = k

-- no pixel took more evaluations than are asked for
pub afforded_by : (files : Contents) (way : AskedWay) (a : Algorithm) (m : Means) (samples : List ℕ) → algorithm_of (algo_meant m) ≡ a
    → AreMeans files way a m → IsAfforded m samples → IsAffordable way a samples
afforded_by files (Plain most) a (means.Definitions algo spent) samples e h k =
    let Within : Algorithm → Type 0 = λ b. AllWithin b samples most in
    let Most : ℕ → Type 0 = λ n. AllWithin (algorithm_of algo.now) samples n in
    subst Within e (subst Most h k)
afforded_by files (Plain most) a (means.File checked m) samples e h k = absurd h
afforded_by files (File name n most) a m samples e h k = tt

-- what a file is afterwards it was before
pub plan_before : (a b : Contents) (name : Text) (al : Algorithm) → SameFiles a b → HasPlanFile b name al → HasPlanFile a name al
plan_before a b name al same h = (h.0, held_before a b name h.0 same h.1, h.2)

pub fault_before : (a b : Contents) (name : Text) (al : Algorithm) (fault : Fault) → SameFiles a b → IsPlanFault b name al fault → IsPlanFault a name al fault
fault_before a b name al fault same (inl device) = inl device
fault_before a b name al fault same (inr h) = inr (h.0, held_before a b name h.0 same h.1, h.2)

with_before : (a b : Contents) (name : Text) (al : Algorithm) (P : ℕ → Type 0) → SameFiles a b → HasPlanWith b name al P → HasPlanWith a name al P
with_before a b name al P same h =
    record { bytes = h.bytes; plan = h.plan; cert = h.cert; holds = held_before a b name h.bytes same h.holds; accepted = h.accepted; stores = h.stores }

pub ready_before : (a b : Contents) (way : AskedWay) (al : Algorithm) → SameFiles a b → IsReady b way al → IsReady a way al
ready_before a b (Plain most) al same h = h
ready_before a b (File name n most) al same h = with_before a b name al (IsWithin most) same h

pub unready_before : (a b : Contents) (way : AskedWay) (al : Algorithm) (fault : Fault) → SameFiles a b → IsUnready b way al fault → IsUnready a way al fault
unready_before a b (Plain most) al fault same h = h
unready_before a b (File name n most) al fault same (inl h) = inl (fault_before a b name al fault same h)
unready_before a b (File name n most) al fault same (inr h) = inr (with_before a b name al (λ stores. IsTooDear most stores fault) same h)
