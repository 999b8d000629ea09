use Rattle.std.proofs.Common.{◌≡◌, ◌∙◌, ◌<◌, List, Some, length, map, get_or, ap, sym, subst, arith, Bor}
use Rattle.std.specs.Prelude.{slice_get}
use Rattle.plan.specs.declared.certificate.cert.Need.{Need}
use Rattle.shares.specs.declared.gathered.GroupNeeds.{GroupNeeds}
use Rattle.shares.specs.declared.seats.Seat.{Seat}
use Rattle.shares.specs.Blocks.{IsBlockOf, LinesAreLimited}
use Rattle.shares.proofs.Blocking.{block_of_group}
use Rattle.shares.proofs.Groups.{get_some}
use Rattle.shares.proofs.blocks.renew_large.Goals as goal

pub index-requires : goal.index-requires
index-requires c =
    let xs = c.args.seats.now in
    let s = c.index-seats-piece.result in
    let at : slice_get xs c.args.piece ≡ Some s = get_some xs c.args.piece s c.requires.piece ∙ ap (λ (x : Seat). Some x) (sym c.index-seats-piece.is) in
    let less = c.requires.group s at in
    let same = ap (λ (x : Seat). x.group) c.index-seats-piece.is in
    omega (arith, less, same, c.args.gathered.now.ok.0)

pub block_of-requires-clause-limits : goal.block_of-requires-clause-limits
block_of-requires-clause-limits c =
    let xs = c.args.seats.now in
    let gs = c.args.gathered.now.items in
    let s = c.index-seats-piece.result in
    let y = c.index.result.now in
    let at : slice_get xs c.args.piece ≡ Some s = get_some xs c.args.piece s c.requires.piece ∙ ap (λ (x : Seat). Some x) (sym c.index-seats-piece.is) in
    let less : s.group < length gs = c.requires.group s at in
    let this : y ≡ get_or gs s.group y = c.index.ensures ∙ ap (λ (x : Seat). get_or gs x.group y) (sym c.index-seats-piece.is) in
    let here : slice_get gs s.group ≡ Some y = get_some gs s.group y less ∙ ap (λ (x : GroupNeeds). Some x) (sym this) in
    subst (λ (ls : List (Bor Need)). LinesAreLimited (map (λ n. n.now) ls)) (sym c.deref.ensures.value) (c.requires.limits s.group y here)

pub returns-clause-block : goal.returns-clause-block
returns-clause-block c =
    let xs = c.args.seats.now in
    let gs = c.args.gathered.now.items in
    let s = c.index-seats-piece.result in
    let y = c.index.result.now in
    let b = c.in_ok-block.field-0 in
    let at : slice_get xs c.args.piece ≡ Some s = get_some xs c.args.piece s c.requires.piece ∙ ap (λ (x : Seat). Some x) (sym c.index-seats-piece.is) in
    let less : s.group < length gs = c.requires.group s at in
    let this : y ≡ get_or gs s.group y = c.index.ensures ∙ ap (λ (x : Seat). get_or gs x.group y) (sym c.index-seats-piece.is) in
    let here : slice_get gs s.group ≡ Some y = get_some gs s.group y less ∙ ap (λ (x : GroupNeeds). Some x) (sym this) in
    block_of_group xs gs c.args.piece b s y at here (subst (λ (ls : List (Bor Need)). IsBlockOf xs c.args.piece (map (λ n. n.now) ls) b) c.deref.ensures.value c.in_ok-block.ensures.block)
