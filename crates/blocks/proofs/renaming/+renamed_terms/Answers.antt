use Rattle.std.proofs.Common.{rules, ◌≡◌, ◌-◌, List, ◌∷◌, length, map, Some, sym, ap, ◌∙◌}
use Rattle.std.specs.Prelude.{pos, take, drop, get_or}
use Rattle.lin.specs.Forms.{combined}
use Rattle.lin.specs.declared.form.Multiple.{Multiple}
use Rattle.blocks.specs.Renamed.{pair_of}
use Rattle.sched.specs.Renamed.{symbol, terms_renamed}
use Rattle.blocks.proofs.Renames.{first_there, term_next}
use Rattle.blocks.proofs.Stops.{same_gives}
use Rattle.blocks.proofs.renaming.+renamed_terms.Goals as goal

pub returns-in_ok-next-in-len1-up : goal.returns-in_ok-next-in-len1-up
returns-in_ok-next-in-len1-up t c =
    let m = map pair_of c.args.names.now in
    let ts = c.args.terms.now in
    let none : Multiple = record { symbol = 0; factor = pos 0 } in
    let first = get_or ts 0 none in
    let rest = take (length ts - 1) (drop 1 ts) in
    let split : ts ≡ first ∷ rest = first_there ts none c.in-len1-up.len_at_least in
    let next = c.in_ok-next-in-len1-up.next in
    let name = c.in_ok-name-in-len1-up.name in
    let is : combined c.args.made first.factor (symbol name) ≡ Some next = search rules in
    same_gives c.renamed_terms.result _ _ _
    (term_next m first rest c.args.made next name c.in_ok-name-in-len1-up.ensures is ∙ ap (λ (l : List Multiple). terms_renamed m l c.args.made) (sym split)) c.renamed_terms.ensures
