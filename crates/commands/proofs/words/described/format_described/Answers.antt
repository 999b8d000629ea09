use Rattle.commands.proofs.words.described.format_described.Goals as goal

pub returns : goal.returns
returns c = c.described.ensures
