use Rattle.tree.specs.Term.{term_of}
use Rattle.tree.proofs.Typed.{ready}
use Rattle.tree.proofs.evaluation.eval.Goals as goal

pub evaluate-requires : goal.evaluate-requires
evaluate-requires g c =
    (ready (g.E.Names.variables c.args.env.now) (g.E.Names.functions c.args.env.now) (term_of c.args.expr.now) c.requires.typed c.requires.few).can
