use Rattle.audit.proofs.OfVerdict.Parts.{parts_are_all as lemma}
use Rattle.audit.proofs.verdict.shown.laws.parts_are_all.Goals as goal

pub returns : goal.returns
returns c = lemma
