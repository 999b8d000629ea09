use Rattle.std.proofs.Common.{◌≡◌, ◌+◌, ◌<◌, ◌≤ℤ◌, ℤ, List, Option, Some, Err, length, sym, ap, subst, ◌∙◌, arith, rules, w64, SFits}
use Rattle.std.proofs.lemmas.Int.{to_z-of_z}
use Rattle.std.proofs.lemmas.Result.{err_from_is_err_and}
use Rattle.std.specs.Prelude.{All, flat_map, int_le}
use Rattle.tree.specs.Term.{term_of}
use Rattle.plan.specs.Symbols.{bind, rising}
use Rattle.plan.specs.View.{statement_of}
use Rattle.plan.specs.Semantics.Actions.{Action, actions}
use Rattle.interpreter.specs.Bindings.{Bindings, symbols_of}
use Rattle.interpreter.specs.Joining.{in_first}
use Rattle.interpreter.specs.Pieces.{around, kept_of, setting, OwnIsSmall}
use Rattle.interpreter.specs.Runs.{store_at}
use Rattle.interpreter.specs.Shifting.{in_name, in_turn, NameIsNarrow}
use Rattle.interpreter.specs.States.{progress_of, space_of, EndsIn}
use Rattle.interpreter.specs.Steps.{Progress, steps}
use Rattle.interpreter.specs.Targets.{CoordinateIsNarrow}
use Rattle.interpreter.specs.Visits.{between}
use Rattle.interpreter.proofs.Ending.{goes_on}
use Rattle.interpreter.proofs.Steps.{stops_in}
use Rattle.interpreter.proofs.ShiftedLoops.{first_narrow, name_narrow, named_fits, named_narrow, named_run, next_from, next_is, next_within, parts, stops_too}
use Rattle.interpreter.proofs.shifting.run_alike.Goals as goal

pub alike_turns-requires-clause-narrow : goal.alike_turns-requires-clause-narrow
alike_turns-requires-clause-narrow c = λ z inside.
    let s = symbols_of c.args.symbols.now in
    name_narrow (OwnIsSmall c.args.piece.now) (in_turn c.args.outer z s) (statement_of c.args.body.now) c.in-Some.both c.in-Some.ensures (c.requires.narrow z inside)

pub run_named-requires-clause-form : goal.run_named-requires-clause-form
run_named-requires-clause-form c =
    let t = c.args.outer in
    let s = symbols_of c.args.symbols.now in
    let both = c.in-Some.both in
    let form : NameIsNarrow both.name (in_first t s) =
    first_narrow (OwnIsSmall c.args.piece.now) s t (statement_of c.args.body.now) both c.in-Some-alike_turns.alike c.in-Some.ensures c.in-Some-alike_turns.ensures.alike c.requires.narrow in
    subst (λ (b : Bindings). NameIsNarrow both.name (in_first t (symbols_of b))) (sym c.alike_turns.ensures.symbols) form

pub run_named-requires-clause-narrow : goal.run_named-requires-clause-narrow
run_named-requires-clause-narrow c = λ z inside.
    let t = c.args.outer in
    let s = symbols_of c.args.symbols.now in
    let both = c.in-Some.both in
    let y = c.in-Some-alike_turns.alike in
    let narrow = named_narrow (OwnIsSmall c.args.piece.now) s t (statement_of c.args.body.now) both y c.in-Some.ensures c.in-Some-alike_turns.ensures.alike c.requires.narrow z inside in
    subst (λ (b : Bindings). All (CoordinateIsNarrow (bind (in_name both.name (in_first t (symbols_of b))) y.turns.symbol z (int_le z y.turns.low))) both.inner.line.coordinates.now)
    (sym c.alike_turns.ensures.symbols) narrow

pub run_named-requires-clause-symbols : goal.run_named-requires-clause-symbols
run_named-requires-clause-symbols c =
    let old = c.args.symbols.now in
    let fits = named_fits (kept_of c.args.piece.now) (space_of c.args.state.now) old.room (length old.bound + 1) (statement_of c.args.body.now) c.in-Some.both c.in-Some.ensures c.requires.fits in
    let more : length old.bound + 2 < old.room = omega (arith, fits.symbols) in
    subst (λ (b : Bindings). length b.bound + 2 < b.room) (sym c.alike_turns.ensures.symbols) more

pub run_named-requires-clause-numbers : goal.run_named-requires-clause-numbers
run_named-requires-clause-numbers c =
    let old = c.args.symbols.now in
    (named_fits (kept_of c.args.piece.now) (space_of c.args.state.now) old.room (length old.bound + 1) (statement_of c.args.body.now) c.in-Some.both c.in-Some.ensures c.requires.fits).numbers

pub run_named-requires-clause-point : goal.run_named-requires-clause-point
run_named-requires-clause-point c =
    let old = c.args.symbols.now in
    (named_fits (kept_of c.args.piece.now) (space_of c.args.state.now) old.room (length old.bound + 1) (statement_of c.args.body.now) c.in-Some.both c.in-Some.ensures c.requires.fits).point

pub run_named-requires-clause-stack : goal.run_named-requires-clause-stack
run_named-requires-clause-stack c =
    let old = c.args.symbols.now in
    (named_fits (kept_of c.args.piece.now) (space_of c.args.state.now) old.room (length old.bound + 1) (statement_of c.args.body.now) c.in-Some.both c.in-Some.ensures c.requires.fits).stack

pub run_named-requires-clause-code : goal.run_named-requires-clause-code
run_named-requires-clause-code c =
    let old = c.args.symbols.now in
    (named_fits (kept_of c.args.piece.now) (space_of c.args.state.now) old.room (length old.bound + 1) (statement_of c.args.body.now) c.in-Some.both c.in-Some.ensures c.requires.fits).code

pub returns-clause-next : goal.returns-clause-next
returns-clause-next c =
    let y = c.in-Some-alike_turns.alike in
    let fits : SFits w64 y.next = search rules in
    subst (λ (z : ℤ). c.args.outer.low ≤ℤ z) (sym (to_z-of_z w64 y.next fits)) (next_from c.args.outer c.in-Some.both (symbols_of c.args.symbols.now) y c.in-Some-alike_turns.ensures.alike)

pub returns-clause-run : goal.returns-clause-run
returns-clause-run c = λ cell.
    let x = c.args.piece.now in
    let A = around x cell in
    let t = c.args.outer in
    let old = c.args.symbols.now in
    let s = symbols_of old in
    let body = statement_of c.args.body.now in
    let both = c.in-Some.both in
    let y = c.in-Some-alike_turns.alike in
    let h = c.in-Some-alike_turns.ensures.alike in
    let p = progress_of c.args.state.now in
    let new = progress_of c.run_named.new.state in
    let f : ℤ → List Action = λ z. actions (setting x) body (in_turn t z s) in
    let line = both.inner.line in
    let d = c.in-Some.both.inner.line.definition in
    let stores : Bindings → List Action = λ b.
    flat_map (store_at x line.buffer line.coordinates.now (term_of line.value.now) (in_name both.name (in_first t (symbols_of b))) y.turns.symbol y.turns.low d) (between y.turns.low y.turns.high) in
    let whole = parts A f t.low t.high y.next h.turns.turns p (next_is t both s y h) (next_within t both s y h) in
    let alike : stores c.alike_turns.new.symbols ≡ flat_map f (rising t.low h.turns.turns) = ap stores c.alike_turns.ensures.symbols ∙ sym (named_run x s t body both y c.in-Some.ensures h) in
    let done : steps A (flat_map f (rising t.low h.turns.turns)) p ≡ Some new = ap (λ (l : List Action). steps A l p) (sym alike) ∙ c.in_ok-run_named.ensures.run d cell in
    let fits : SFits w64 y.next = search rules in
    goes_on (steps A (flat_map f (rising t.low h.turns.turns)) p) new (steps A (flat_map f (between y.next t.high))) (steps A (flat_map f (between t.low t.high)) p) whole done
    ∙ ap (λ (z : ℤ). steps A (flat_map f (between z t.high)) new) (sym (to_z-of_z w64 y.next fits))

pub returns-in_err-run_named-clause-run : goal.returns-in_err-run_named-clause-run
returns-in_err-run_named-clause-run c = λ cell.
    let x = c.args.piece.now in
    let A = around x cell in
    let t = c.args.outer in
    let old = c.args.symbols.now in
    let s = symbols_of old in
    let body = statement_of c.args.body.now in
    let both = c.in-Some.both in
    let y = c.in-Some-alike_turns.alike in
    let h = c.in-Some-alike_turns.ensures.alike in
    let p = progress_of c.args.state.now in
    let room = c.args.state.now.given.room in
    let new = progress_of c.run_named.new.state in
    let f : ℤ → List Action = λ z. actions (setting x) body (in_turn t z s) in
    let line = both.inner.line in
    let d = c.in-Some.both.inner.line.definition in
    let stores : Bindings → List Action = λ b.
    flat_map (store_at x line.buffer line.coordinates.now (term_of line.value.now) (in_name both.name (in_first t (symbols_of b))) y.turns.symbol y.turns.low d) (between y.turns.low y.turns.high) in
    let whole : Option Progress = steps A (flat_map f (between t.low t.high)) p in
    let is = parts A f t.low t.high y.next h.turns.turns p (next_is t both s y h) (next_within t both s y h) in
    let alike : stores c.alike_turns.new.symbols ≡ flat_map f (rising t.low h.turns.turns) = ap stores c.alike_turns.ensures.symbols ∙ sym (named_run x s t body both y c.in-Some.ensures h) in
    let later : ℤ → Progress → Option Progress = λ z. steps A (flat_map f (between z t.high)) in
    let o : List Action → Option Progress = λ l. steps A l p in
    let e = err_from_is_err_and c.from_residual.result c.from_residual.ensures.1 in
    let ended : EndsIn room (λ (_ : Unit {0}). new) (Err c.in_err-run_named.field-0.0) (o (flat_map f (rising t.low h.turns.turns))) =
    subst (λ (l : List Action). EndsIn room (λ (_ : Unit {0}). new) (Err c.in_err-run_named.field-0.0) (o l)) alike (c.in_err-run_named.ensures.run d cell) in
    rw (e.1, e.2) (stops_too room new new later c.in_err-run_named.field-0.0 whole
    (stops_in A room new new c.in_err-run_named.field-0.0 (o (flat_map f (rising t.low h.turns.turns))) (flat_map f (between y.next t.high)) whole is ended))
