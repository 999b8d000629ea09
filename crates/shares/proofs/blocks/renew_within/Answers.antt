use Rattle.std.proofs.Common.{◌≡◌, ◌≤◌, List, map, sym, subst, arith, Bor}
use Rattle.plan.specs.declared.certificate.cert.Need.{Need}
use Rattle.shares.specs.Blocks.{IsBlockOf, LinesAreLimited}
use Rattle.shares.proofs.Blocking.{block_within, some_at}
use Rattle.shares.proofs.blocks.renew_within.Goals as goal

pub block_of-requires-clause-limits : goal.block_of-requires-clause-limits
block_of-requires-clause-limits c = subst (λ (ls : List (Bor Need)). LinesAreLimited (map (λ n. n.now) ls)) (sym c.deref.ensures.value) c.requires.limits

pub returns-clause-block : goal.returns-clause-block
returns-clause-block c gathered large before =
    let f = some_at c.args.seats.now c.args.piece c.requires.piece in
    let b = c.in_ok-block.field-0 in
    let most = c.in_ok-block.ensures.most in
    let m = c.min-most.ensures in
    let past = c.requires.large in
    let of : IsBlockOf c.args.seats.now c.args.piece (map (λ (n : Bor Need). n.now) c.args.large.now.moving.items) b =
    subst (λ (ls : List (Bor Need)). IsBlockOf c.args.seats.now c.args.piece (map (λ n. n.now) ls) b) c.deref.ensures.value c.in_ok-block.ensures.block in
    block_within c.args.seats.now gathered c.args.piece c.args.large.now b f.0 f.1 (omega (arith, most, m, past)) of large
