use Rattle.commands.specs.Line.{at_most_rule, named_plain_line}
use Rattle.commands.proofs.words.described.plain_described.Goals as goal

pub returns : goal.returns
returns c = c.with_word.ensures named_plain_line at_most_rule c.described-command.ensures c.valued_word.ensures
