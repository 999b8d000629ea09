use Rattle.meaning.proofs.Own.{put_in_keeps_type}
use Rattle.meaning.proofs.inlining.laws.put_in_keeps_the_type.Goals as goal

pub returns : goal.returns
returns c = λ a stored known t e w h. put_in_keeps_type a w stored known t e h
