use Rattle.commands.specs.Line.{at_most_rule, named_run_line, workers_rule}
use Rattle.commands.proofs.words.described.run_described.Goals as goal

pub returns : goal.returns
returns c = c.with_word.ensures _ at_most_rule (c.with_word-command.ensures named_run_line workers_rule c.described-command.ensures c.valued_word.ensures) c.valued_word-2.ensures
