use Rattle.shares.proofs.own.own_flaw.Goals as goal

pub parted_flaw-requires-clause-parted : goal.parted_flaw-requires-clause-parted
parted_flaw-requires-clause-parted c = c.is_parted.ensures c.if-is_parted.true
