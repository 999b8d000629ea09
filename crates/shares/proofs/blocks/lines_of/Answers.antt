use Rattle.std.proofs.Common.{◌≡◌, ◌≤◌, List, ℕ, length, map, subst, Bor}
use Rattle.std.specs.Prelude.{All}
use Rattle.plan.specs.declared.certificate.cert.Need.{Need}
use Rattle.shares.specs.Blocks.{AreThoseAt, AreThoseBetween}
use Rattle.shares.specs.Corners.{IsBetween}
use Rattle.shares.specs.declared.seats.Seat.{Seat}
use Rattle.shares.proofs.Blocking.{all_between, all_on}
use Rattle.shares.proofs.blocks.lines_of.Goals as goal

pub returns : goal.returns
returns c =
    let f : Bor Need → Need = λ n. n.now in
    let xs = c.args.seats.now in
    let low = c.in_ok-low.low.items in
    let high = c.in_ok-high.high.items in
    let kept = map f c.in_ok-kept.kept.items in
    let lines = map f c.args.lines.now in
    let between : All (λ (x : Seat). IsBetween low high x.at.items) xs = all_between xs low high c.args.count c.in_ok-low.ensures.lows c.in_ok-high.ensures.highs c.in_ok-high.ensures.long c.requires.long in
    let those : AreThoseBetween low high kept lines =
    subst (λ (ls : List ℕ). AreThoseBetween ls high kept lines) c.deref.ensures.value (subst (λ (hs : List ℕ). AreThoseBetween c.deref.result.now hs kept lines) c.deref-2.ensures.value c.in_ok-kept.ensures) in
    all_on (λ (x : Seat). IsBetween low high x.at.items) (λ (x : Seat). AreThoseAt x.at.items kept lines) xs (λ x h. those x.at.items h) between
