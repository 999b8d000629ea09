use Rattle.commands.proofs.Coded.{no_text}
use Rattle.commands.proofs.words.codes.page_of.Goals as goal

pub returns-in-Err : goal.returns-in-Err
returns-in-Err c = no_text c.args.code.now c.in-Err.ensures.cases.0
