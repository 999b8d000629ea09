use Rattle.std.proofs.Common.{◌≡◌, ◌<◌, length, get_or, arith, rules, sym, ◌∙◌}
use Rattle.std.specs.Prelude.{pos}
use Rattle.std.proofs.lemmas.Int.{to_z-of_z}
use Rattle.lin.specs.declared.form.Multiple.{Multiple}
use Rattle.lin.proofs.TermLemmas.{factor_of-found}
use Rattle.lin.proofs.Machine.{get_or-any}
use Rattle.lin.proofs.terms.factor_in.Goals as goal
use mir.Val.{SFits}
use mir.Syntax.{w64}

pub returns-then-term-symbol : goal.returns-then-term-symbol
returns-then-term-symbol c =
    let none : Multiple = record { symbol = 0; factor = pos 0 } in
    let t : Multiple = get_or c.args.terms.now c.loop-term.term-index none in
    let below : c.loop-term.term-index < length c.args.terms.now = omega arith in
    let element : t ≡ get_or c.args.terms.now c.loop-term.term-index t = get_or-any c.args.terms.now c.loop-term.term-index none t below in
    let found = factor_of-found c.args.terms.now c.loop-term.term-index t c.args.symbol below element c.if-term-symbol.true c.loop-term.invariant.canonical in
    let fits : SFits w64 t.factor = search rules in
    to_z-of_z w64 t.factor fits ∙ sym found ∙ sym c.loop-term.invariant.passed
