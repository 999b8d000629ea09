use Rattle.std.proofs.Common.{[], arith}
use Rattle.std.specs.Prelude.{slice_index}
use Rattle.crew.specs.Private.{fetched_of}
use Rattle.crew.proofs.Filling.{at_place_there}
use Rattle.crew.proofs.values.PiecesPrivateRuns.fetched.Goals as goal

pub fetched-requires : goal.fetched-requires
fetched-requires g c = let count = c.requires.runs.1 in let lt = c.requires.piece in omega (arith, count, lt)

pub returns-clause-fetched : goal.returns-clause-fetched
returns-clause-fetched g c = c.fetched.ensures []

pub returns-clause-needed : goal.returns-clause-needed
returns-clause-needed g c = λ k lt.
    let xs = c.fetched.result.now in
    c.requires.runs.0.0.fetched c.args.piece c.requires.piece (slice_index xs k) (at_place_there xs (fetched_of c.args.self.now.checked.now c.args.piece) k (c.fetched.ensures []) lt)
