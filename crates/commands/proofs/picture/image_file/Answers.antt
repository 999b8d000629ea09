use Rattle.std.proofs.Common.{inl, inr, refl}
use Rattle.std.proofs.lemmas.Result.{IfErr-weaker, IfOk-weaker, err_from_is_err_and}
use Rattle.commands.proofs.Kept.{of_device}
use Rattle.commands.proofs.Ways.{told}
use Rattle.commands.specs.Status.{fault_of}
use Rattle.commands.proofs.picture.image_file.Goals as goal

pub returns-in_err-bytes-clause-refused : goal.returns-in_err-bytes-clause-refused
returns-in_err-bytes-clause-refused g c =
    let e = c.in_err-bytes.field-0.0 in
    let p = err_from_is_err_and c.from_residual.result c.from_residual.ensures.1 in
    told _ c.from_residual.result p.0 (fault_of e) p.1 p.2 (inl (of_device e (fault_of e) refl))

pub returns-clause-read : goal.returns-clause-read
returns-clause-read g c =
    IfOk-weaker c.read_image.result _ _ (λ inputs h. (c.in_ok-bytes.bytes.items, c.in_ok-bytes.ensures.bytes, h)) c.read_image.ensures.read

pub returns-clause-refused : goal.returns-clause-refused
returns-clause-refused g c =
    IfErr-weaker c.read_image.result _ _ (λ fault h. inr (c.in_ok-bytes.bytes.items, c.in_ok-bytes.ensures.bytes, h)) c.read_image.ensures.refused
