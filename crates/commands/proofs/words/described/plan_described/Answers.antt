use Rattle.commands.proofs.words.described.plan_described.Goals as goal

pub returns : goal.returns
returns c = c.described.ensures
