use Rattle.std.proofs.Common.{inl, inr, refl, subst}
use Rattle.std.proofs.lemmas.Result.{IfErr-weaker, IfOk-weaker, err_from_is_err_and}
use Rattle.algo.specs.Refusal.{IsAlgorithmText}
use Rattle.algo.specs.View.{algorithm_of}
use Rattle.commands.proofs.Kept.{of_device}
use Rattle.commands.proofs.Ways.{told}
use Rattle.commands.specs.Pictures.{IsTextFault}
use Rattle.commands.specs.Status.{fault_of}
use Rattle.commands.proofs.picture.algorithm_file.Goals as goal

pub returns-in_err-text-clause-refused : goal.returns-in_err-text-clause-refused
returns-in_err-text-clause-refused g c =
    let e = c.in_err-text.field-0.0 in
    let p = err_from_is_err_and c.from_residual.result c.from_residual.ensures.1 in
    told _ c.from_residual.result p.0 (fault_of e) p.1 p.2 (inl (of_device e (fault_of e) refl))

pub returns-clause-said : goal.returns-clause-said
returns-clause-said g c =
    IfOk-weaker c.algorithm_in.result _ _ (λ algo h. (c.in_ok-text.text.items, c.in_ok-text.ensures.bytes, subst (λ bytes. IsAlgorithmText bytes (algorithm_of algo)) c.as_slice.ensures.value h))
    c.algorithm_in.ensures.said

pub returns-clause-refused : goal.returns-clause-refused
returns-clause-refused g c =
    IfErr-weaker c.algorithm_in.result _ _ (λ fault h. inr (c.in_ok-text.text.items, c.in_ok-text.ensures.bytes, subst (λ bytes. IsTextFault bytes fault) c.as_slice.ensures.value h))
    c.algorithm_in.ensures.refused
