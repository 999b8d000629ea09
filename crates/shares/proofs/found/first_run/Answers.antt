use Rattle.std.proofs.Common.{get_or, take}
use Rattle.std.proofs.lemmas.List.Elements.{Contains-get_or}
use Rattle.orders.specs.Lists.{own_lists}
use Rattle.shares.proofs.Finding.{of_needed}
use Rattle.shares.proofs.found.first_run.Goals as goal

pub returns-then-count-ne0-clause-own : goal.returns-then-count-ne0-clause-own
returns-then-count-ne0-clause-own c =
    let needs = c.args.needs.now in
    let place = c.loop-needed.needed-index in
    of_needed (own_lists c.args.pieces.now) needs (get_or needs place 0) (Contains-get_or needs place 0 c.loop-needed-test.true) (take c.run_of-count.result c.args.cells.now) c.run_of-count.ensures.own
