use Rattle.spelling.proofs.TermsAgain.{term_again}
use Rattle.spelling.proofs.terms.laws.term_is_read_again.Goals as goal

pub returns : goal.returns
returns c = term_again
