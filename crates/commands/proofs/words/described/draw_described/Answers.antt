use Rattle.commands.specs.Line.{named_draw_line, order_rule}
use Rattle.commands.proofs.words.described.draw_described.Goals as goal

pub returns : goal.returns
returns c = c.with_word.ensures named_draw_line order_rule c.described-command.ensures c.valued_word.ensures
