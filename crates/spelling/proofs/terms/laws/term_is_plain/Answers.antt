use Rattle.spelling.proofs.Plain.{term_plain}
use Rattle.spelling.proofs.terms.laws.term_is_plain.Goals as goal

pub returns : goal.returns
returns c = term_plain
