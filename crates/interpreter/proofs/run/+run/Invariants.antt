use Rattle.std.proofs.Common.{ℤ, ◌≤ℤ◌, List, ◌≡◌, flat_map, length}
use Rattle.std.specs.Prelude.{int_le}
use Rattle.plan.specs.Plan.{block}
use Rattle.plan.specs.Lists.{list_statements}
use Rattle.plan.specs.Symbols.{bind}
use Rattle.plan.specs.View.{statement_of}
use Rattle.plan.specs.Semantics.Actions.{Action, actions, block_actions}
use Rattle.interpreter.specs.Bindings.{symbols_of, Extends}
use Rattle.interpreter.specs.Needs.{BlockFits}
use Rattle.interpreter.specs.Narrow.{BlockIsNarrow}
use Rattle.interpreter.specs.Pieces.{around, kept_of, setting, OwnIsSmall}
use Rattle.interpreter.specs.States.{progress_of, space_of, IsAsLarge}
use Rattle.interpreter.specs.Steps.{steps}
use Rattle.interpreter.specs.Visits.{between}
use Rattle.interpreter.proofs.Running.{Comes, from}
use Rattle.interpreter.proofs.run.+run.Given as goal

abbrev pub invariant-run_turns-loop-value : goal.invariant-run_turns-loop-value
invariant-run_turns-loop-value g l =
    let A = around l.piece (g.C.Cells.cell l.cells) in
    let f : ℤ → List Action = λ z. actions (setting l.piece) (statement_of l.body) (bind (symbols_of l.fn.symbols) l.turns.symbol z (int_le z l.turns.low)) in
    record {
      symbols : l.symbols ≡ l.fn.symbols;
      large : IsAsLarge l.fn.state l.state;
      low : l.turns.low ≤ℤ l.value;
      run : Comes A (steps A (flat_map f (between l.turns.low l.turns.high)) (progress_of l.fn.state)) (flat_map f (between l.value l.turns.high)) (progress_of l.state);
    }

abbrev pub invariant-run_block-loop-stmt : goal.invariant-run_block-loop-stmt
invariant-run_block-loop-stmt g l =
    let A = around l.piece (g.C.Cells.cell l.cells) in
    let whole = steps A (block_actions (setting l.piece) (block (list_statements l.all)) (symbols_of l.initial.symbols)) (progress_of l.initial.state) in
    record {
      large : IsAsLarge l.initial.state l.state;
      fits : BlockFits (kept_of l.piece) (space_of l.initial.state) l.initial.symbols.room (from l.all l.stmt-index) (length l.symbols.bound);
      extends : Extends l.initial.symbols l.symbols;
      narrow : BlockIsNarrow (OwnIsSmall l.piece) (from l.all l.stmt-index) (symbols_of l.symbols);
      run : Comes A whole (block_actions (setting l.piece) (from l.all l.stmt-index) (symbols_of l.symbols)) (progress_of l.state);
    }
