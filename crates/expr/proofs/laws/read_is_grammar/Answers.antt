use Rattle.expr.proofs.Sound.{expression_sound}
use Rattle.expr.proofs.laws.read_is_grammar.Goals as goal

pub returns : goal.returns
returns c = expression_sound
