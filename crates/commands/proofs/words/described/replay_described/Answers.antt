use Rattle.commands.proofs.words.described.replay_described.Goals as goal

pub returns : goal.returns
returns c = c.described.ensures
