use Rattle.std.proofs.Common.{◌∙◌, sym, arith}
use Rattle.std.proofs.lemmas.Result.{err_from_is_err_and}
use Rattle.stencil.proofs.Schedules.{legal_next, legal_whole, refused_among}
use Rattle.commands.proofs.Kept.{same_then}
use Rattle.stencil.proofs.compare.compare_schedules.Goals.{then-differs, else-differs}
use Rattle.stencil.proofs.compare.compare_schedules.Goals as goal

pub returns-in_err-comparison-clause-refused : goal.returns-in_err-comparison-clause-refused
returns-in_err-comparison-clause-refused g c =
    let p = err_from_is_err_and c.from_residual.result c.from_residual.ensures.1 in
    rw p.1 (refused_among _ _ _ c.args.names.now c.loop-name.name-index _ c.loop-name-test.true c.loop-name.invariant.1 _ _ c.loop-name.invariant.2 c.in_err-comparison.ensures.refused p.2)

pub loop-name-preserved : goal.loop-name-preserved
loop-name-preserved g c = (
  elim c.if-differs.branch [
    | then-differs w ↦ absurd (cc (sym w.if-differs.true ∙ c.loop-name.invariant.0))
    | else-differs w ↦ grind (arith, w.differs-is, w.ne-differs.ensures, c.in_ok-comparison.ensures.picture)
  ],
  same_then _ _ _ c.loop-name.invariant.1 c.compare_schedule.ensures.same,
  legal_next _ _ _ c.args.names.now c.loop-name.name-index _ c.loop-name-test.true c.loop-name.invariant.1 c.loop-name.invariant.2 c.in_ok-comparison.ensures.legal,
)

pub returns-else-differs-2-clause-legal : goal.returns-else-differs-2-clause-legal
returns-else-differs-2-clause-legal g c = legal_whole _ _ c.args.names.now c.loop-name.name-index c.loop-name-test.false c.loop-name.invariant.2
