use Rattle.std.proofs.Common.{[], arith}
use Rattle.std.specs.Prelude.{slice_index}
use Rattle.crew.specs.Private.{needs_of}
use Rattle.crew.proofs.Filling.{at_place_there}
use Rattle.crew.proofs.values.PiecesPrivateRuns.needs.Goals as goal

pub needs-requires : goal.needs-requires
needs-requires g c = let count = c.requires.runs.1 in let lt = c.requires.piece in omega (arith, count, lt)

pub returns-clause-needs : goal.returns-clause-needs
returns-clause-needs g c = c.needs.ensures []

pub returns-clause-pieces : goal.returns-clause-pieces
returns-clause-pieces g c = λ k lt.
    let xs = c.needs.result.now in
    let before = c.requires.runs.0.0.needs c.args.piece c.requires.piece (slice_index xs k) (at_place_there xs (needs_of c.args.self.now.checked.now c.args.piece) k (c.needs.ensures []) lt) in
    let inside = c.requires.piece in
    omega (arith, before, inside)

pub returns-clause-earlier : goal.returns-clause-earlier
returns-clause-earlier g c = λ k lt.
    let xs = c.needs.result.now in
    c.requires.runs.0.0.needs c.args.piece c.requires.piece (slice_index xs k) (at_place_there xs (needs_of c.args.self.now.checked.now c.args.piece) k (c.needs.ensures []) lt)
