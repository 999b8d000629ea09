use Rattle.interpreter.proofs.Powers.{shifted_whole}
use Rattle.interpreter.proofs.evaluation.powers.shifted_word.Goals as goal

pub returns : goal.returns
returns c = shifted_whole c.args.word c.args.exponent c.ranges.word.fits
