use Rattle.interpreter.proofs.evaluation.whole.clamp_whole.Goals as goal

pub returns-in-Broadcast-value-clause-narrow : goal.returns-in-Broadcast-value-clause-narrow
returns-in-Broadcast-value-clause-narrow c = c.broadcast.ensures.narrow c.args.count
