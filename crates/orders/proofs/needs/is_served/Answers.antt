use Rattle.std.proofs.Common.{◌<◌, ◌+◌, ℕ, List, length, refl, arith, sym, subst}
use Rattle.std.specs.Prelude.{All}
use Rattle.std.proofs.lemmas.Bool.{false≢true}
use Rattle.orders.specs.Lists.{own_lists, fetched_lists, needs_lists}
use Rattle.orders.specs.Claimed.{AreMarked, HasMarkedOwner}
use Rattle.orders.proofs.Marking.{earlier_at, served_more, served_at}
use Rattle.orders.proofs.needs.is_served.Goals as goal

pub returns-then-not-is_earlier-clause-answer : goal.returns-then-not-is_earlier-clause-answer
returns-then-not-is_earlier-clause-answer c =
    let P : List ℕ → Type 0 = λ xs. All (λ n. n < c.args.piece) xs in
    ((λ t. absurd (false≢true t)), (λ h. c.if-not-is_earlier.ensures.1 (subst P (sym c.needs_of-needs.ensures) (earlier_at (needs_lists c.args.pieces.now) (c.args.piece + 1) c.args.piece (omega arith) h.0))))

pub returns-clause-answer : goal.returns-clause-answer
returns-clause-answer c =
    let pieces = c.args.pieces.now in
    let own = own_lists pieces in
    let fetched = fetched_lists pieces in
    let needs = needs_lists pieces in
    let marks = c.mark.new.marks in
    let p = c.args.piece in
    let P : List ℕ → Type 0 = λ xs. All (λ n. n < p) xs in
    let Q : List ℕ → Type 0 = λ xs. AreMarked marks xs p in
    let R : List ℕ → Type 0 = λ xs. All (λ cell. HasMarkedOwner c.args.owners.now marks p cell) xs in
    let marked = subst Q c.needs_of-needs.ensures c.mark.ensures.marked in (
      (λ t. served_more own fetched needs c.args.owners.now marks (length pieces) p c.requires.claimed c.requires.served (subst P c.needs_of-needs.ensures (c.if-not-is_earlier.ensures.0 refl)) marked (subst R c.fetched_of.ensures (c.are_marked.ensures.0 t))),
      (λ h. c.are_marked.ensures.1 (subst R (sym c.fetched_of.ensures) (served_at own fetched needs c.args.owners.now marks (length pieces) p c.requires.claimed c.requires.piece marked h))),
    )
