use Rattle.std.proofs.Common.{◌<◌, sym, subst, arith}
use Rattle.std.specs.Prelude.{All}
use Rattle.std.proofs.lemmas.Int.{ints}
use Rattle.std.proofs.lemmas.List.Elements.{recursion_from_All}
use Rattle.lin.specs.Forms.{Form}
use Rattle.lin.specs.declared.form.Multiple.{Multiple}
use Rattle.lin.proofs.TermLemmas.{canonical-push}
use Rattle.lin.proofs.form.Lin.push_term.Goals as goal

pub invariant_of-self-2 : goal.invariant_of-self-2
invariant_of-self-2 c =
    let rises = subst (λ (f : Form). All (λ t. t.symbol < c.args.symbol) f.terms) (sym c.self.view_is) c.requires.rises in
    rw c.in_ok-push.ensures.ok (canonical-push c.self.inside.terms.items _ c.self.invariant
    (recursion_from_All (λ (t : Multiple). t.symbol < c.args.symbol) c.self.inside.terms.items rises)
    (λ e. c.requires.factor (omega (arith, ints, e))))
