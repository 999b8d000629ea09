use Rattle.meaning.proofs.Own.{put_in_keeps, sides_keep}
use Rattle.meaning.proofs.inlining.laws.put_in_keeps_the_value.Goals as goal

pub returns-clause-value : goal.returns-clause-value
returns-clause-value c = λ a stored samples known t e w h none. put_in_keeps a samples w stored known t e h none

pub returns-clause-updates : goal.returns-clause-updates
returns-clause-updates c = λ a stored samples k f i u values w at change. sides_keep a samples w k f at values stored i u change
