use Rattle.std.proofs.Common.{ap, ◌∙◌, List, Some, None}
use Rattle.meaning.specs.Algorithm.{Function}
use Rattle.algo.specs.Parts.{functions_of, change_of}
use Rattle.algo.specs.declared.function.Range.{Range}
use Rattle.soundness.specs.Given.{function_named, update_in}
use Rattle.soundness.specs.Nests.Laws.{ranges_in}
use Rattle.tails.specs.Domains.{ranges_of}
use Rattle.tails.proofs.Functions.{get_mapped, past_mapped, domain_at}
use Rattle.tails.proofs.domains.domain_of.Goals as goal

pub returns-in-Some : goal.returns-in-Some
returns-in-Some c =
    let us = c.in_ok-updates.updates.now in
    let u = c.in-Some.update.now in
    let j = c.in_ok-update.update in
    ap (λ (l : List Range). Some (ranges_of l)) c.deref.ensures.value
    ∙ domain_at (function_named (functions_of c.funcs.result.now.entries) c.args.name.now) us c.args.definition j (Some (change_of u)) c.in_ok-updates.ensures
    c.in_ok-update.ensures.0 c.in_ok-update.ensures.1 (get_mapped us j u c.in-Some.ensures.lookup.3.0 c.in-Some.ensures.lookup.1)
    ∙ ap (λ (fs : List Function). ranges_in (update_in (function_named fs c.args.name.now) c.args.definition)) c.funcs.ensures

pub returns-in-None : goal.returns-in-None
returns-in-None c =
    let us = c.in_ok-updates.updates.now in
    let j = c.in_ok-update.update in
    domain_at (function_named (functions_of c.funcs.result.now.entries) c.args.name.now) us c.args.definition j None c.in_ok-updates.ensures
    c.in_ok-update.ensures.0 c.in_ok-update.ensures.1 (past_mapped us j c.in-None.ensures.lookup.3)
    ∙ ap (λ (fs : List Function). ranges_in (update_in (function_named fs c.args.name.now) c.args.definition)) c.funcs.ensures
