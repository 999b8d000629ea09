use Rattle.std.proofs.Common.{◌≡◌, ◌<◌, ◌^◌, ℕ, [], length, sym, ap, ◌∙◌, subst, rules, arith}
use Rattle.std.specs.Prelude.{slice_get}
use Rattle.plan.specs.Certificate.Cells.{pieces}
use Rattle.checked_plan.specs.View.{algorithm_checked, certificate_checked, plan_checked}
use Rattle.report.specs.Costs.{up_to}
use Rattle.report.specs.Deeds.{deeds, deeds_in}
use Rattle.report.proofs.Pieces.{before_all, before_at_most, before_more, deeds_before, few}
use Rattle.report.proofs.Sums.{enough_before, more_before}
use Rattle.report.proofs.costs.count_as_far.Goals as goal

pub overflow_cast-piece : goal.overflow_cast-piece
overflow_cast-piece c =
    let x = c.args.checked.now in
    let P : ℕ → Type 0 = λ n. n < 2 ^ 32 in
    let small : c.pieces-piece-end.result < 2 ^ 32 = subst P (sym (c.pieces-piece-end.ensures.work [])) (few (algorithm_checked x) (plan_checked x) (certificate_checked x) x.ready) in
    let below : c.loop-piece.piece < 2 ^ 32 = omega arith in
    search (rules, below)

pub count_in_piece-requires : goal.count_in_piece-requires
count_in_piece-requires c = subst (λ (n : ℕ). c.loop-piece.piece < n) (c.pieces-piece-end.ensures.work []) c.loop-piece-test.true

pub loop-piece-preserved : goal.loop-piece-preserved
loop-piece-preserved c =
    let p = plan_checked c.args.checked.now in
    let e = certificate_checked c.args.checked.now in
    let d = c.args.deed in
    let f = c.args.function.now in
    let m = c.args.enough in
    let j = c.loop-piece.piece in
    let lt : j < length (pieces p) = subst (λ (n : ℕ). j < n) (c.pieces-piece-end.ensures.work []) c.loop-piece-test.true in
    let small : m < 2 ^ 64 = search rules in
    more_before m c.loop-piece.total c.in_ok-more.more (deeds_before p e d f j) (deeds_in p e d f (slice_get (pieces p) j)) c.saturating_add-total.result small
    c.loop-piece.invariant c.in_ok-more.ensures c.saturating_add-total.ensures
    ∙ ap (up_to m) (sym (before_more p e d f j lt))

pub returns : goal.returns
returns c =
    let p = plan_checked c.args.checked.now in
    let m = c.args.enough in
    let j = c.loop-piece.piece in
    let whole : j ≡ c.pieces-piece-end.result = omega arith in
    c.loop-piece.invariant ∙ ap (up_to m) (before_all p (certificate_checked c.args.checked.now) c.args.deed c.args.function.now j (whole ∙ c.pieces-piece-end.ensures.work []))

pub returns-then-enough-total : goal.returns-then-enough-total
returns-then-enough-total c =
    let p = plan_checked c.args.checked.now in
    let e = certificate_checked c.args.checked.now in
    let d = c.args.deed in
    let f = c.args.function.now in
    let j = c.loop-piece.piece in
    enough_before c.args.enough c.loop-piece.total (deeds_before p e d f j) (deeds p e d f) (omega (arith, c.if-enough-total.true)) (before_at_most p e d f j) c.loop-piece.invariant
