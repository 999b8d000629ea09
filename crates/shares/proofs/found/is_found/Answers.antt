use Rattle.std.proofs.Common.{◌≡◌, ◌<◌, ℕ, List, Some, ap, subst, sym, ◌∙◌}
use Rattle.std.specs.Prelude.{All, slice_get}
use Rattle.std.proofs.lemmas.Option.{slice_get-get_or}
use Rattle.orders.specs.Lists.{own_lists}
use Rattle.shares.specs.Served.{IsOwnOf}
use Rattle.shares.proofs.Finding.{served_more}
use Rattle.shares.proofs.found.is_found.Goals as goal

pub returns-then-are_earlier : goal.returns-then-are_earlier
returns-then-are_earlier c t =
    let pieces = c.args.pieces.now in
    let piece = c.args.piece in
    let one = c.index-pieces-piece.result in
    let at : slice_get pieces piece ≡ Some one = slice_get-get_or pieces piece one c.requires.piece ∙ ap Some (sym c.index-pieces-piece.is) in
    let earlier = subst (All (λ needed. needed < piece)) c.as_slice-needs.ensures.value (c.are_earlier.ensures c.if-are_earlier.true) in
    let found = subst (λ (cells : List ℕ). All (IsOwnOf (own_lists pieces) one.needs.items) cells) c.as_slice.ensures.value
    (subst (λ (needs : List ℕ). All (IsOwnOf (own_lists pieces) needs) c.as_slice.result.now) c.as_slice-needs.ensures.value (c.are_found.ensures t)) in
    served_more pieces piece one at c.requires.served earlier found
