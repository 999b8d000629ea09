use Rattle.std.proofs.Common.{◌≡◌, rules, tests, sym, ◌∙◌}
use Rattle.std.specs.Prelude.{position}
use Rattle.std.proofs.lemmas.Iterator.{YieldsList-from_slice}
use Rattle.std.proofs.lemmas.Iterator.Search.{position_from_yields_List}
use Rattle.meaning.specs.Names.{same_name}
use Rattle.sched.proofs.Placings.{position_seen}
use Rattle.sched.proofs.placing.number_of.Goals as goal

pub returns : goal.returns
returns c =
    let subjects = c.args.subjects.now in
    let first : c.position.result ≡ position (λ f. same_name f.name c.args.name.now) subjects = position_from_yields_List (λ f. same_name f.name c.args.name.now) _ _ c.position.result c.position.ensures.ran (YieldsList-from_slice subjects (cc)) (λ x b q k. search (rules, tests)) in
    first ∙ sym (position_seen subjects c.args.name.now)
