use Rattle.std.proofs.Common.{◌≡◌, rules, tests, sym, ◌∙◌}
use Rattle.std.specs.List.{list_any}
use Rattle.std.proofs.lemmas.Iterator.{YieldsList-from_slice}
use Rattle.std.proofs.lemmas.Iterator.Search.{any_from_yields_List}
use Rattle.algo.specs.Parts.{change_of}
use Rattle.sched.specs.Subjects.{lacks}
use Rattle.sched.proofs.Functions.{lacking_any}
use Rattle.sched.proofs.subject.some_lacks.Goals as goal

pub returns : goal.returns
returns c =
    let updates = c.args.updates.now in
    let each : c.any.result ≡ list_any (λ u. lacks c.args.variable.now c.args.dimension (change_of u)) updates = any_from_yields_List (λ u. lacks c.args.variable.now c.args.dimension (change_of u)) _ _ c.any.result c.any.ensures.ran (YieldsList-from_slice updates (cc)) (λ x b q k. search (rules, tests)) in
    each ∙ sym (lacking_any c.args.variable.now c.args.dimension updates)
