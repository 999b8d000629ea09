use Rattle.std.proofs.Common.{◌<◌, sym, subst}
use Rattle.std.specs.Prelude.{All, get_or, pos}
use Rattle.lin.specs.Forms.{Form}
use Rattle.lin.specs.declared.form.Multiple.{Multiple}
use Rattle.rules.proofs.Limits.{terms_rise, factor_is}
use Rattle.rules.proofs.bounding.seats.with_constant.Goals as goal

pub push_term-requires-clause-rises : goal.push_term-requires-clause-rises
push_term-requires-clause-rises c =
    let items = c.terms-term-items.result.now in
    let d : Multiple = record { symbol = 0; factor = pos 0 } in
    let rise = terms_rise items c.loop-term.term-index d c.terms-term-items.ensures.canonical c.loop-term-test.true in
    subst (λ (f : Form). All (λ t. t.symbol < (get_or items c.loop-term.term-index d).symbol) f.terms) (sym c.loop-term.invariant) rise

pub push_term-requires-clause-factor : goal.push_term-requires-clause-factor
push_term-requires-clause-factor c = factor_is c.terms-term-items.result.now c.loop-term.term-index (record { symbol = 0; factor = pos 0 }) c.terms-term-items.ensures.canonical c.loop-term-test.true
