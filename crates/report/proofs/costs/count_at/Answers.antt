use Rattle.std.proofs.Common.{◌<◌, List, ℕ, Ok, sym, subst, ◌∙◌}
use Rattle.plan.specs.Certificate.Cells.{grid_point, piece_count}
use Rattle.plan.specs.View.{group_of, statement_of}
use Rattle.report.specs.Counting.{IsTally}
use Rattle.report.specs.Subject.{counted_of}
use Rattle.report.proofs.Grids.{grid_settled}
use Rattle.report.proofs.Pieces.{piece_tally, some_is}
use Rattle.report.proofs.costs.count_at.Goals as goal

pub returns : goal.returns
returns c =
    let x = counted_of c.args.subject.now in
    let here = c.deref-2.result.now in
    piece_tally x c.in_ok-known.known.items here c.deref.result.now (group_of c.args.group.now) c.args.rank c.in-Some.count c.deref.ensures.value c.in_ok-known.ensures c.deref-2.ensures.value
    (some_is (IsTally x here (statement_of c.args.group.now.body)) c.in_ok-count.field-0 c.in-Some.count c.in-Some.is c.in_ok-count.ensures.holds)

pub unreachable-requires : goal.unreachable-requires
unreachable-requires c =
    c.count.ensures.some (grid_settled c.deref-2.result.now (grid_point c.deref.result.now c.args.rank) (c.deref-2.ensures.value ∙ c.in_ok-known.ensures))
    (c.in_ok-count.was ∙ (λ j. Ok (c.in-None.is j)))

pub known_at-requires : goal.known_at-requires
known_at-requires c = subst (λ (grid : List ℕ). c.args.rank < piece_count grid) (sym c.deref.ensures.value) c.requires
