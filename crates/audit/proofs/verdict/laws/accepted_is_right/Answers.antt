use Rattle.audit.proofs.verdict.laws.accepted_is_right.Goals as goal

pub returns : goal.returns
returns c = λ a p d w accepted. (c.accepted_is_ready.ensures a p d w accepted).headline
