use Rattle.std.proofs.Common.{◌≡◌, ℕ, List, [], sym, ap, ◌∙◌, subst, map, Option, Some, slice_get}
use Rattle.plan.specs.declared.plan.Group.{Group as CodeGroup}
use Rattle.plan.specs.View.{plan_of, group_of, statement_of}
use Rattle.plan.specs.Certificate.Certificate.{certificate_of}
use Rattle.plan.specs.Certificate.Cells.{grid_point}
use Rattle.plan.specs.Plan.{Group}
use Rattle.meaning.specs.Image.View.{numbers}
use Rattle.plan.specs.Semantics.Actions.{actions}
use Rattle.plan.specs.Semantics.Setting.{setting_of, around_of}
use Rattle.interpreter.specs.Buffers.Blocks.{memory_of}
use Rattle.interpreter.specs.Bindings.{Bindings, symbols_of}
use Rattle.interpreter.specs.Rows.{Listed}
use Rattle.interpreter.specs.Outcome.{piece_gives, point_in, rank_gives}
use Rattle.interpreter.specs.Scratches.{GivesIn}
use Rattle.interpreter.specs.States.{progress_of}
use Rattle.interpreter.specs.Steps.{Progress, steps}
use Rattle.interpreter.proofs.Giving.{ends_gives, piece_is}
use Rattle.interpreter.proofs.Steps.{given_of}
use Rattle.interpreter.proofs.run.run_group.Goals as goal

pub returns-clause-gives : goal.returns-clause-gives
returns-clause-gives g c =
    let p = plan_of c.args.plan.now in
    let d = certificate_of c.args.cert.now in
    let samples = numbers c.args.image.now.samples in
    let cell = g.C.Cells.cell c.args.cells.now in
    let n = c.args.number in
    let group = c.in-Some.group.now in
    let at = grid_point (group_of group).grid c.args.rank in
    let grid : c.as_slice.result.now ≡ (group_of group).grid = c.as_slice.ensures.value in
    let begun : Bindings = record { grid = at; bound = []; grid_room = c.args.symbols.now.grid_room; room = c.args.symbols.now.room } in
    let is_begun : c.begin.new.self ≡ begun = c.begin.ensures ∙ (λ i. record { grid = grid_point (grid i) c.args.rank; bound = []; grid_room = c.args.symbols.now.grid_room; room = c.args.symbols.now.room }) in
    let m = memory_of c.clear.new.self in
    let ns = c.clear-2.new.self.items in
    let found : slice_get p.groups n ≡ Some (group_of group) = ap (λ (gs : List CodeGroup). slice_get (map group_of gs) n) (sym c.deref.ensures.value) ∙ c.in-Some.ensures in
    let run : Bindings → Option Progress = λ b. steps (around_of p d samples cell) (actions (setting_of p d n (group_of group)) (statement_of group.body) (symbols_of b)) (record { memory = m; given = ns }) in
    let is : rank_gives p d samples cell n c.args.rank ≡ given_of (run c.begin.new.self) =
    ap (λ (o : Option Group). piece_gives p d samples cell n (point_in o c.args.rank)) found
    ∙ piece_is p d samples cell n at (group_of group) m ns found c.clear.ensures.nothing (ap (λ (r : Listed). r.items) c.clear-2.ensures) ∙ ap (λ (b : Bindings). given_of (run b)) (sym is_begun) in
    subst (λ (room : ℕ). GivesIn room c.run.result c.run.new.state.given.items (rank_gives p d samples cell n c.args.rank)) (ap (λ (r : Listed). r.room) c.clear-2.ensures)
    (ends_gives c.clear-2.new.self.room c.run.result (progress_of c.run.new.state) (run c.begin.new.self) (rank_gives p d samples cell n c.args.rank) is c.run.ensures.run)
