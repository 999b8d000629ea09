use Rattle.shares.proofs.answer.error_of.Goals as goal

pub too_many_needed-requires-clause-many : goal.too_many_needed-requires-clause-many
too_many_needed-requires-clause-many c =
    let k = rw c.in-Large.is at c.requires.trouble in
    λ fits. k.1 (record { fetched = c.requires.fetched; needed = fits })
