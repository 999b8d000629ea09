use Rattle.std.proofs.Common.{◌≡◌, ◌+◌, ◌-◌, ◌<◌, length, take, drop, map, ap, sym, ◌∙◌, arith}
use Rattle.std.specs.Option.{option_map}
use Rattle.algo.specs.View.{algorithm_of}
use Rattle.sched.specs.Stored.{stored_of}
use Rattle.sched.specs.Regions.{laid_of}
use Rattle.sched.specs.Calls.{call_of}
use Rattle.lower.specs.Broken.{rule_of}
use Rattle.blocks.specs.Broken.{totals_of}
use Rattle.lower.specs.Groups.{inside_at}
use Rattle.lower.specs.Uses.{is_use}
use Rattle.lower.proofs.Breaking.{here_in, later_in}
use Rattle.lower.proofs.First.{rest_is}
use Rattle.lower.proofs.Outsides as uses
use Rattle.lower.proofs.legality.+fault_from.Goals as goal

pub returns-in-Some-2-clause-first : goal.returns-in-Some-2-clause-first
returns-in-Some-2-clause-first t c =
    let a = algorithm_of c.args.algo.now in
    let all = map stored_of c.args.all.now in
    let inside = map inside_at c.args.parties.now in
    let left = map call_of c.args.left.now in
    let totals = c.args.totals in
    let one = c.one-item.result in
    let next : c.args.count ≡ c.in-Some.fewer + 1 = omega (arith, c.in-Some.ensures) in
    here_in a all inside left totals c.args.stored.now one (map (option_map laid_of) c.args.laid.now) c.in-Some-2.rule c.in-Some.fewer c.args.count next
    (omega (arith, c.in-len1-up.len_at_least)) c.one-item.is
    (sym c.in-Some-2.is ∙ c.in_ok-rule-in-len1-up.ensures.rule ∙ ap (λ l. rule_of a all inside left totals (stored_of one) l) c.first_laid-first.ensures)

pub returns-in-None-clause-first : goal.returns-in-None-clause-first
returns-in-None-clause-first t c =
    let a = algorithm_of c.args.algo.now in
    let rs = map stored_of c.args.all.now in
    let inside = map inside_at c.args.parties.now in
    let left = map call_of c.args.left.now in
    let totals = c.args.totals in
    let one = c.one-item.result in
    let next : c.args.count ≡ c.in-Some.fewer + 1 = omega (arith, c.in-Some.ensures) in
    let all = c.args.stored.now in
    let some : 0 < length all = omega (arith, c.in-len1-up.len_at_least) in
    later_in a rs inside left totals c.totals_with-totals.result all (take (length all - 1) (drop 1 all)) one (map (option_map laid_of) c.args.laid.now)
    (map (option_map laid_of) c.other_laid-rest.result.now) c.in-Some.fewer c.args.count c.fault_from.result next
    some c.one-item.is
    (sym c.in-None.is ∙ c.in_ok-rule-in-len1-up.ensures.rule ∙ ap (λ l. rule_of a rs inside left totals (stored_of one) l) c.first_laid-first.ensures)
    (c.totals_with-totals.ensures ∙ ap (λ l. totals_of totals (stored_of one) l) c.first_laid-first.ensures) c.other_laid-rest.ensures (rest_is all some) c.fault_from.ensures.first

pub returns-in-Some-2-clause-uses : goal.returns-in-Some-2-clause-uses
returns-in-Some-2-clause-uses t c =
    let told = ap is_use (sym c.in-Some-2.is) ∙ c.in_ok-rule-in-len1-up.ensures.uses in
    uses.here_in (map stored_of c.args.all.now) c.args.stored.now c.one-item.result c.in-Some-2.rule (omega (arith, c.in-len1-up.len_at_least)) c.one-item.is told

pub returns-in-None-clause-uses : goal.returns-in-None-clause-uses
returns-in-None-clause-uses t c =
    let ss = c.args.stored.now in
    let next : c.args.count ≡ c.in-Some.fewer + 1 = omega (arith, c.in-Some.ensures) in
    let some : 0 < length ss = omega (arith, c.in-len1-up.len_at_least) in
    let none = sym c.in_ok-rule-in-len1-up.ensures.uses ∙ ap is_use c.in-None.is in
    uses.later_in (map stored_of c.args.all.now) ss (take (length ss - 1) (drop 1 ss)) c.one-item.result c.in-Some.fewer c.args.count c.fault_from.result next
    some c.one-item.is none (rest_is ss some) c.fault_from.ensures.uses
