use Rattle.std.proofs.Common.{◌≡◌, rules, tests, sym, ◌∙◌, string_bytes}
use Rattle.std.specs.List.{list_all}
use Rattle.std.proofs.lemmas.Iterator.{YieldsList-from_slice}
use Rattle.std.proofs.lemmas.Iterator.Search.{all_from_yields_List}
use Rattle.sched.specs.Subjects.{is_name}
use Rattle.sched.proofs.Functions.{ranges_all}
use Rattle.sched.proofs.subject.has_range_names.Goals as goal

pub returns : goal.returns
returns c =
    let ranges = c.args.update.now.ranges.items in
    let each : c.all.result ≡ list_all (λ d. is_name (string_bytes d.variable)) ranges = all_from_yields_List (λ d. is_name (string_bytes d.variable)) _ _ c.all.result c.all.ensures.ran (YieldsList-from_slice ranges (cc)) (λ x b q k. search (rules, tests)) in
    each ∙ sym (ranges_all ranges)
