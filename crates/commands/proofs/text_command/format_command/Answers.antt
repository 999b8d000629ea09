use Rattle.std.proofs.Common.{List, ℕ, refl, string_bytes, subst, sym}
use Rattle.std.proofs.lemmas.Result.{err_from_is_err_and}
use Rattle.commands.proofs.Kept.{of_device}
use Rattle.commands.proofs.Sourced.{format_kept, format_put, unformatted}
use Rattle.commands.proofs.Ways.{told}
use Rattle.commands.specs.Sources.{IsFormattedText, IsUnformatted}
use Rattle.commands.specs.Status.{fault_of}
use Rattle.commands.proofs.text_command.format_command.Goals as goal

pub returns-in_err-text-clause-refused : goal.returns-in_err-text-clause-refused
returns-in_err-text-clause-refused g c =
    let e = c.in_err-text.field-0.0 in
    let p = err_from_is_err_and c.from_residual-in_err-text.result c.from_residual-in_err-text.ensures.1 in
    let Refused : List ℕ → Type 0 = λ bytes. IsUnformatted bytes e in
    told _ c.from_residual-in_err-text.result p.0 e p.1 p.2
    (unformatted _ _ _ c.in_ok-bytes.bytes.items c.get.ensures.same c.in_ok-bytes.ensures.bytes e (subst Refused c.as_slice.ensures.value c.in_err-text.ensures.refused))

pub returns-in_err-put-clause-refused : goal.returns-in_err-put-clause-refused
returns-in_err-put-clause-refused g c =
    let e = c.in_err-put.field-0.0 in
    let p = err_from_is_err_and c.from_residual-in_err-put.result c.from_residual-in_err-put.ensures.1 in
    let Made : List ℕ → Type 0 = λ bytes. IsFormattedText bytes (string_bytes c.in_ok-text.text) in
    told _ c.from_residual-in_err-put.result p.0 (fault_of e) p.1 p.2
    (format_kept _ _ _ c.in_ok-bytes.bytes.items c.get.ensures.same c.in_ok-bytes.ensures.bytes _ _ (subst Made c.as_slice.ensures.value c.in_ok-text.ensures.formatted)
    (fault_of e) (of_device e (fault_of e) refl) c.in_err-put.ensures.others)

pub returns-clause-done : goal.returns-clause-done
returns-clause-done g c =
    let Made : List ℕ → Type 0 = λ bytes. IsFormattedText bytes c.as_bytes.result.now in
    let Is : List ℕ → Type 0 = λ bytes. IsFormattedText c.as_slice.result.now bytes in
    format_put _ _ _ c.in_ok-bytes.bytes.items c.get.ensures.same c.in_ok-bytes.ensures.bytes _ _
    (subst Made c.as_slice.ensures.value (subst Is (sym c.as_bytes.ensures.value) c.in_ok-text.ensures.formatted)) c.in_ok-put.ensures.put
