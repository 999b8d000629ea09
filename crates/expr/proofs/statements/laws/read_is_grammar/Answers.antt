use Rattle.expr.proofs.StatementsSound.{file_sound}
use Rattle.expr.proofs.statements.laws.read_is_grammar.Goals as goal

pub returns : goal.returns
returns c = file_sound
