use Rattle.std.proofs.Common.{ℕ, ap, ◌∙◌, sym, subst}
use Rattle.board.specs.Layout.{pieces_of}
use Rattle.checked_plan.specs.declared.output.plan_cells.PlanCells.{PlanCells}
use Rattle.piece.specs.declared.cells.LookedCells.{LookedCells}
use Rattle.crew.specs.Private.{HasRoom, IsMostFetched}
use Rattle.crew.proofs.alone.compute.Goals as goal

pub look_at-requires-clause-put : goal.look_at-requires-clause-put
look_at-requires-clause-put g c = λ k lt.
    let o = c.fetched.ensures.needed k lt in
    let n = c.requires.needed o.0 o.1 in
    (o.0, n.0, n.1, o.2)

pub returns-clause-room : goal.returns-clause-room
returns-clause-room g c = subst (λ (l : LookedCells). HasRoom (g.P.PrivateRuns.plan c.args.runs.now) (pieces_of g.J.Run.layout) l) (sym c.run.ensures.looked) (record {
  plan = ap (λ (l : PlanCells). l.checked.now) c.look_at.ensures.same ∙ c.requires.room.plan;
  room = subst (λ (n : ℕ). IsMostFetched (g.P.PrivateRuns.plan c.args.runs.now) (pieces_of g.J.Run.layout) n) (sym c.look_at.ensures.room) c.requires.room.room;
})
