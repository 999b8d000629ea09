use Rattle.std.proofs.Common.{◌≡◌, rules, tests, sym, ◌∙◌, string_bytes}
use Rattle.std.specs.List.{list_all}
use Rattle.std.proofs.lemmas.Iterator.{YieldsList-from_slice}
use Rattle.std.proofs.lemmas.Iterator.Search.{all_from_yields_List}
use Rattle.sched.specs.Subjects.{is_name}
use Rattle.sched.proofs.Functions.{names_all}
use Rattle.sched.proofs.subject.are_names.Goals as goal

pub returns : goal.returns
returns c =
    let texts = c.args.texts.now in
    let each : c.all.result ≡ list_all (λ x. is_name (string_bytes x)) texts = all_from_yields_List (λ x. is_name (string_bytes x)) _ _ c.all.result c.all.ensures.ran (YieldsList-from_slice texts (cc)) (λ x b q k. search (rules, tests)) in
    each ∙ sym (names_all texts)
