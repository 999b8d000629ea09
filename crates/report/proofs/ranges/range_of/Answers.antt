use Rattle.std.proofs.Common.{List, sym, ap, ◌∙◌, rules, w64, SFits}
use Rattle.std.specs.List.{list_all}
use Rattle.lin.specs.declared.form.Multiple.{Multiple}
use Rattle.report.specs.Known.{known_of}
use Rattle.report.specs.Ranges.{has_one}
use Rattle.report.proofs.Ends.{settled_value, is_one, not_settled}
use Rattle.report.proofs.ranges.range_of.Goals as goal

pub returns-then-are_settled-clause-holds : goal.returns-then-are_settled-clause-holds
returns-then-are_settled-clause-holds c = λ s allows narrow.
    let known = c.args.known.now in
    let a_fits : SFits w64 c.constant.result = search rules in
    let r_fits : SFits w64 c.sum_of.result = search rules in
    let settled = ap (λ (ts : List Multiple). list_all (λ t. has_one (known_of known t.symbol)) ts) (sym c.terms.ensures.value) ∙ sym c.are_settled.ensures ∙ c.if-are_settled.true in
    is_one _ _ (settled_value known s c.args.form.now c.terms-then-are_settled.result.now c.constant.result c.sum_of.result allows narrow c.terms-then-are_settled.ensures.value
    c.constant.ensures a_fits r_fits c.sum_of.ensures settled)

pub returns-else-are_settled-clause-one : goal.returns-else-are_settled-clause-one
returns-else-are_settled-clause-one c = λ settled. not_settled c.args.known.now c.terms.result.now c.are_settled.result c.if-are_settled.false c.are_settled.ensures settled
