use Rattle.interpreter.proofs.evaluation.whole.apply_whole.Goals as goal

pub returns-in-Broadcast-left-clause-narrow : goal.returns-in-Broadcast-left-clause-narrow
returns-in-Broadcast-left-clause-narrow c = c.broadcast.ensures.narrow c.args.count
