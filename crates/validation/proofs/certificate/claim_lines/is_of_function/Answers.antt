use Rattle.std.proofs.Common.{◌∙◌, ap, sym, Option, string_bytes}
use Rattle.meaning.specs.Algorithm.{Function}
use Rattle.plan.specs.Certificate.Certificate.{claim_of}
use Rattle.validation.specs.Certificate.Certificate.{is_of_function}
use Rattle.validation.proofs.Named.{entry_named, none_named, some_named}
use Rattle.validation.proofs.certificate.claim_lines.is_of_function.Goals as goal

pub returns-in-None : goal.returns-in-None
returns-in-None c = sym (ap (λ (o : Option Function). is_of_function o (claim_of c.args.claim.now)) (none_named c.args.functions.now.entries (string_bytes c.args.claim.now.function) (c.in-None.ensures.value ∙ ap (entry_named c.args.functions.now.entries) c.as_str.ensures.value)))

pub returns-in-Some : goal.returns-in-Some
returns-in-Some c =
    let found = some_named c.args.functions.now.entries (string_bytes c.args.claim.now.function) c.in-Some.function.now (c.in-Some.ensures.value ∙ ap (entry_named c.args.functions.now.entries) c.as_str.ensures.value) in
    c.has_definition.ensures found.0 ∙ sym (ap (λ (o : Option Function). is_of_function o (claim_of c.args.claim.now)) found.1)
