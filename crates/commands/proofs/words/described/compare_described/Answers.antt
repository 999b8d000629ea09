use Rattle.std.proofs.Common.{codes}
use Rattle.commands.specs.Line.{by_first_rule, named_compare_line, several}
use Rattle.commands.proofs.words.described.compare_described.Goals as goal

pub returns : goal.returns
returns c =
    let several_told = c.with_word-command.ensures _ (several (codes "SCHED")) c.described-command.ensures c.several_words.ensures in
    c.with_word.ensures named_compare_line by_first_rule several_told c.by_first_described.ensures
