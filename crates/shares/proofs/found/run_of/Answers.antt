use Rattle.std.proofs.Common.{◌≡◌, ℕ, List, Some, take, ap, subst, sym, ◌∙◌}
use Rattle.std.specs.Prelude.{All, Contains, slice_get}
use Rattle.std.proofs.lemmas.Option.{slice_get-get_or}
use Rattle.orders.specs.Lists.{own_of}
use Rattle.shares.proofs.found.run_of.Goals as goal

pub returns-in-Some-clause-own : goal.returns-in-Some-clause-own
returns-in-Some-clause-own c =
    let pieces = c.args.pieces.now in
    let one = c.in-Some.piece.now in
    let lookup = c.in-Some.ensures.lookup in
    let at : slice_get pieces c.args.piece ≡ Some one = slice_get-get_or pieces c.args.piece one lookup.3.0 ∙ ap Some (sym lookup.1) in
    subst (λ (xs : List ℕ). All (λ cell. Contains xs cell) (take c.run_in.result c.args.cells.now)) (sym (ap own_of at)) c.run_in.ensures.same
