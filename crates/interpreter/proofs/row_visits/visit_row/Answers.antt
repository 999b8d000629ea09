use Rattle.std.proofs.Common.{◌+◌, List, length, refl, sym, ap, subst, ◌∙◌}
use Rattle.lin.specs.declared.span.Span1.{Span1}
use Rattle.plan.specs.Semantics.Actions.{Action}
use Rattle.interpreter.specs.Bindings.{symbols_of}
use Rattle.interpreter.specs.Pieces.{around}
use Rattle.interpreter.specs.Rows.{Listed}
use Rattle.interpreter.specs.States.{progress_of}
use Rattle.interpreter.specs.Steps.{steps}
use Rattle.interpreter.specs.Visits.{KeepsFrom, VisitIsNarrow}
use Rattle.interpreter.specs.declared.visits.Visit.{Visit}
use Rattle.interpreter.specs.declared.visits.Visit.TheVariants.{Fetch, Publish}
use Rattle.interpreter.proofs.RowVisits.{none_left, row_alone}
use Rattle.interpreter.proofs.row_visits.visit_row.Goals as goal

pub give_row-requires : goal.give_row-requires
give_row-requires g c = subst (λ (v : Visit). VisitIsNarrow c.args.walk.now.piece.now v) c.in-Publish.is c.requires.visit

pub returns-in-Fetch-clause-kept : goal.returns-in-Fetch-clause-kept
returns-in-Fetch-clause-kept g c =
    let none = none_left c.args.region.now (sym c.if-not-is_empty.false ∙ c.is_empty.ensures) in
    subst (λ (r : List Span1). KeepsFrom (length r + 1) c.args.state.now.point c.fetch_row.new.state.point) (sym none) c.fetch_row.ensures.kept

pub returns-in-Fetch-clause-run : goal.returns-in-Fetch-clause-run
returns-in-Fetch-clause-run g c =
    let w = c.args.walk.now in
    let x = w.piece.now in
    let s = symbols_of w.symbols.now in
    let cell = g.C.Cells.cell c.args.cells.now in
    let numbers = c.args.numbers in
    let left = c.fetch_row.result in
    let xs = c.args.region.now in
    let items = c.args.state.now.point.items in
    let none = none_left xs (sym c.if-not-is_empty.false ∙ c.is_empty.ensures) in
    let now = progress_of c.args.state.now in
    let new = progress_of c.fetch_row.new.state in
    ap (λ (l : List Action). steps (around x cell) l now) (row_alone x w.visit (Fetch c.in-Fetch.buffer c.in-Fetch.function) s xs items numbers.low numbers.high none c.in-Fetch.is)
    ∙ c.fetch_row.ensures.run
    ∙ ap (λ (l : List Action). steps (around x cell) l new) (sym (row_alone x w.visit (Fetch c.in-Fetch.buffer c.in-Fetch.function) s xs items left.low left.high none c.in-Fetch.is))

pub returns-in-Publish-clause-kept : goal.returns-in-Publish-clause-kept
returns-in-Publish-clause-kept g c =
    let n = length c.args.region.now + 1 in
    subst (λ (p : Listed). KeepsFrom n c.args.state.now.point p) (sym c.give_row.ensures.point) (record { from = refl; count = refl })

pub returns-in-Publish-clause-run : goal.returns-in-Publish-clause-run
returns-in-Publish-clause-run g c =
    let w = c.args.walk.now in
    let x = w.piece.now in
    let s = symbols_of w.symbols.now in
    let cell = g.C.Cells.cell c.args.cells.now in
    let numbers = c.args.numbers in
    let left = c.give_row.result in
    let xs = c.args.region.now in
    let items = c.args.state.now.point.items in
    let none = none_left xs (sym c.if-not-is_empty.false ∙ c.is_empty.ensures) in
    let now = progress_of c.args.state.now in
    let new = progress_of c.give_row.new.state in
    ap (λ (l : List Action). steps (around x cell) l now) (row_alone x w.visit (Publish c.in-Publish.claim) s xs items numbers.low numbers.high none c.in-Publish.is)
    ∙ c.give_row.ensures.run cell
    ∙ ap (λ (l : List Action). steps (around x cell) l new) (sym (row_alone x w.visit (Publish c.in-Publish.claim) s xs items left.low left.high none c.in-Publish.is))
