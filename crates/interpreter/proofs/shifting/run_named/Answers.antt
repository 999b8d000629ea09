use Rattle.std.proofs.Common.{◌≡◌, ℤ, List, sym, ap, subst, ◌∙◌, rules, true, w64, to_z, of_z, SFits}
use Rattle.std.proofs.lemmas.Int.{to_z-of_z}
use Rattle.std.specs.Prelude.{All, flat_map, int_le}
use Rattle.tree.specs.Term.{term_of}
use Rattle.plan.specs.Symbols.{Symbols, bind, form_value}
use Rattle.plan.specs.Semantics.Actions.{Action}
use Rattle.interpreter.specs.Bindings.{symbols_of}
use Rattle.interpreter.specs.Joining.{in_first}
use Rattle.interpreter.specs.Narrow.{FormIsNarrow}
use Rattle.interpreter.specs.Pieces.{around}
use Rattle.interpreter.specs.Runs.{store_at}
use Rattle.interpreter.specs.Shifting.{in_name}
use Rattle.interpreter.specs.States.{progress_of, EndsIn}
use Rattle.interpreter.specs.Steps.{steps}
use Rattle.interpreter.specs.Targets.{CoordinateIsNarrow}
use Rattle.interpreter.specs.Visits.{between}
use Rattle.interpreter.specs.declared.symbols.Binding.{Binding}
use Rattle.interpreter.proofs.Bindings.{bound_now, on_ok}
use Rattle.interpreter.proofs.ShiftedLoops.{both_fit, both_forgotten, name_bound}
use Rattle.interpreter.proofs.shifting.run_named.Goals as goal

pub value_of-value-requires : goal.value_of-value-requires
value_of-value-requires c =
    let t = c.args.outer in
    let fits : SFits w64 t.low = search rules in
    let made : ℤ → Binding = λ z. record { symbol = t.symbol; value = z; first = int_le z t.low } in
    let is : c.turn.result ≡ made t.low = c.turn.ensures ∙ ap made (to_z-of_z w64 t.low fits) in
    let now : symbols_of c.bind.new.self ≡ in_first t (symbols_of c.args.symbols.now) =
    bound_now c.args.symbols.now c.bind.new.self c.turn.result t.symbol t.low (int_le t.low t.low) c.bind.ensures is in
    subst (λ (s : Symbols). FormIsNarrow s c.args.name.now.form.now) (sym now) c.requires.form.0

pub run_stores-ended-requires-clause-narrow : goal.run_stores-ended-requires-clause-narrow
run_stores-ended-requires-clause-narrow c = λ z inside.
    let t = c.args.outer in
    let turns = c.args.turns in
    let name = c.args.name.now in
    let fits : SFits w64 t.low = search rules in
    let made : ℤ → Binding = λ z. record { symbol = t.symbol; value = z; first = int_le z t.low } in
    let is : c.turn.result ≡ made t.low = c.turn.ensures ∙ ap made (to_z-of_z w64 t.low fits) in
    let v = c.value_of-value.result in
    let value_fits : SFits w64 v = search rules in
    let value : to_z w64 (of_z w64 v) ≡ form_value name.form.now (symbols_of c.bind.new.self) = to_z-of_z w64 v value_fits ∙ c.value_of-value.ensures in
    let now : symbols_of c.bind-2.new.self ≡ in_name name (in_first t (symbols_of c.args.symbols.now)) =
    name_bound c.args.symbols.now c.bind.new.self c.bind-2.new.self c.turn.result t name (to_z w64 (of_z w64 v)) c.bind.ensures is c.bind-2.ensures value in
    subst (λ (s : Symbols). All (CoordinateIsNarrow (bind s turns.symbol z (int_le z turns.low))) c.args.line.now.coordinates.now) (sym now) (c.requires.narrow z inside)

pub run_stores-ended-requires-clause-symbols : goal.run_stores-ended-requires-clause-symbols
run_stores-ended-requires-clause-symbols c =
    let v = c.value_of-value.result in
    let made : Binding = record { symbol = c.args.name.now.symbol; value = to_z w64 (of_z w64 v); first = true } in
    both_fit c.args.symbols.now c.bind.new.self c.bind-2.new.self c.turn.result made c.bind.ensures c.bind-2.ensures c.requires.symbols

pub returns-clause-symbols : goal.returns-clause-symbols
returns-clause-symbols c =
    let old = c.args.symbols.now in
    let new = c.run_stores-ended.new.symbols in
    let v = c.value_of-value.result in
    let made : Binding = record { symbol = c.args.name.now.symbol; value = to_z w64 (of_z w64 v); first = true } in
    on_ok c.run_stores-ended.result (new ≡ c.bind-2.new.self) _
    (λ kept. c.forget.ensures ∙ both_forgotten old c.bind.new.self new c.turn.result made c.bound_count-mark.result c.bind.ensures (kept ∙ c.bind-2.ensures) c.bound_count-mark.ensures)
    c.run_stores-ended.ensures.symbols

pub returns-clause-run : goal.returns-clause-run
returns-clause-run c = λ d cell.
    let t = c.args.outer in
    let turns = c.args.turns in
    let name = c.args.name.now in
    let fits : SFits w64 t.low = search rules in
    let made : ℤ → Binding = λ z. record { symbol = t.symbol; value = z; first = int_le z t.low } in
    let is : c.turn.result ≡ made t.low = c.turn.ensures ∙ ap made (to_z-of_z w64 t.low fits) in
    let v = c.value_of-value.result in
    let value_fits : SFits w64 v = search rules in
    let value : to_z w64 (of_z w64 v) ≡ form_value name.form.now (symbols_of c.bind.new.self) = to_z-of_z w64 v value_fits ∙ c.value_of-value.ensures in
    let now : symbols_of c.bind-2.new.self ≡ in_name name (in_first t (symbols_of c.args.symbols.now)) =
    name_bound c.args.symbols.now c.bind.new.self c.bind-2.new.self c.turn.result t name (to_z w64 (of_z w64 v)) c.bind.ensures is c.bind-2.ensures value in
    let line = c.args.line.now in
    let x = c.args.piece.now in
    let p = progress_of c.args.state.now in
    let stores : Symbols → List Action = λ s. flat_map (store_at x line.buffer line.coordinates.now (term_of line.value.now) s turns.symbol turns.low d) (between turns.low turns.high) in
    let Ends : List Action → Type 0 = λ l. EndsIn c.args.state.now.given.room (λ (_ : Unit {0}). progress_of c.run_stores-ended.new.state) c.run_stores-ended.result (steps (around x cell) l p) in
    subst (λ (s : Symbols). Ends (stores s)) now (c.run_stores-ended.ensures.run d cell)
