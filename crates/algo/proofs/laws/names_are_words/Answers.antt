use Rattle.algo.proofs.Words.{names_are_words}
use Rattle.algo.proofs.laws.names_are_words.Goals as goal

pub returns : goal.returns
returns c = names_are_words
