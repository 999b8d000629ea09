use Rattle.std.proofs.Common.{◌≡◌, rules, tests, sym, ◌∙◌}
use Rattle.std.specs.List.{list_all}
use Rattle.std.proofs.lemmas.Iterator.{YieldsList-from_slice}
use Rattle.std.proofs.lemmas.Iterator.Search.{all_from_yields_List}
use Rattle.algo.specs.Parts.{change_of}
use Rattle.sched.specs.Subjects.{has_range_names}
use Rattle.sched.proofs.Functions.{updates_all}
use Rattle.sched.proofs.subject.have_range_names.Goals as goal

pub returns : goal.returns
returns c =
    let updates = c.args.updates.now in
    let each : c.all.result ≡ list_all (λ u. has_range_names (change_of u)) updates = all_from_yields_List (λ u. has_range_names (change_of u)) _ _ c.all.result c.all.ensures.ran (YieldsList-from_slice updates (cc)) (λ x b q k. search (rules, tests)) in
    each ∙ sym (updates_all updates)
