use Rattle.std.proofs.Common.{◌≡◌, ◌+◌, ◌-◌, ◌<◌, ℕ, ℤ, List, [], ◌∷◌, length, map, pos, ◌+ℤ◌, Option, Err, sym, ap, subst, ◌∙◌, arith}
use Rattle.std.specs.Prelude.{All, flat_map, int_le}
use Rattle.std.proofs.lemmas.Bool.{ltb-false}
use Rattle.std.proofs.lemmas.Result.{err_from_is_err_and}
use Rattle.tree.specs.Term.{term_of}
use Rattle.plan.specs.Symbols.{Symbols, bind, rising}
use Rattle.plan.specs.Semantics.Actions.{Action}
use Rattle.plan.specs.Semantics.Found.{with}
use Rattle.interpreter.specs.Bindings.{Bindings, symbols_of, also}
use Rattle.interpreter.specs.Pieces.{around, setting}
use Rattle.interpreter.specs.Runs.{store_at}
use Rattle.interpreter.specs.States.{progress_of, EndsIn}
use Rattle.interpreter.specs.Steps.{Progress, steps}
use Rattle.interpreter.specs.Targets.{CoordinateIsNarrow}
use Rattle.interpreter.proofs.Bindings.{bound_now, forgotten}
use Rattle.interpreter.proofs.Ending.{goes_on}
use Rattle.interpreter.proofs.Steps.{stops_in}
use Rattle.interpreter.proofs.StoreRuns.{first_turn}
use Rattle.plan.specs.View.{coordinate_of}
use Rattle.plan.specs.Semantics.Actions.{stored}
use Rattle.interpreter.proofs.runs.store_one_by_one.Goals as goal

pub store-requires-clause-narrow : goal.store-requires-clause-narrow
store-requires-clause-narrow c =
    let x = c.args.piece.now in
    let line = c.args.line.now in
    let part = c.args.part in
    let cs = line.coordinates.now in
    let old = c.args.symbols.now in
    let s = symbols_of old in
    let l = c.loop-index in
    let j = part.turns.symbol in
    let z = part.low +ℤ pos l.index in
    let first = int_le z part.turns.low in
    let lt : l.index < part.count = omega (arith, ltb-false) in
    let made : c.bind.new.self ≡ also l.symbols c.turn_in.result = c.bind.ensures in
    let now : symbols_of c.bind.new.self ≡ bind s j z first =
    bound_now l.symbols c.bind.new.self c.turn_in.result j z first made c.turn_in.ensures ∙ ap (λ (b : Bindings). bind (symbols_of b) j z first) l.invariant.symbols in
    subst (λ (y : Symbols). All (CoordinateIsNarrow y) cs) (sym now) (c.requires.narrow l.index lt)

pub returns-in_err-store-clause-run : goal.returns-in_err-store-clause-run
returns-in_err-store-clause-run c = λ d cell.
    let x = c.args.piece.now in
    let line = c.args.line.now in
    let part = c.args.part in
    let cs = line.coordinates.now in
    let old = c.args.symbols.now in
    let s = symbols_of old in
    let l = c.loop-index in
    let j = part.turns.symbol in
    let z = part.low +ℤ pos l.index in
    let first = int_le z part.turns.low in
    let lt : l.index < part.count = omega (arith, ltb-false) in
    let made : c.bind.new.self ≡ also l.symbols c.turn_in.result = c.bind.ensures in
    let now : symbols_of c.bind.new.self ≡ bind s j z first =
    bound_now l.symbols c.bind.new.self c.turn_in.result j z first made c.turn_in.ensures ∙ ap (λ (b : Bindings). bind (symbols_of b) j z first) l.invariant.symbols in
    let A = around x cell in
    let at : Symbols → List Action = λ y. stored (setting x) line.buffer d (map coordinate_of cs) (term_of line.value.now) y ∷ [] in
    let f : ℤ → List Action = store_at x line.buffer cs (term_of line.value.now) s j part.turns.low d in
    let p = progress_of l.state in
    let rest = flat_map f (rising (part.low +ℤ pos (l.index + 1)) (part.count - (l.index + 1))) in
    let go : Progress → Option Progress = steps A rest in
    let whole : Option Progress = steps A (flat_map f (rising part.low part.count)) (progress_of c.args.state.now) in
    let next = first_turn A f part.low part.count l.index p whole lt (l.invariant.run d cell) in
    let e = err_from_is_err_and c.from_residual.result c.from_residual.ensures.1 in
    let o : Option Progress = steps A (at (symbols_of c.bind.new.self)) p in
    let new : Progress = progress_of c.store.new.state in
    let ended : EndsIn c.args.state.now.given.room (λ (_ : Unit {0}). new) (Err c.in_err-store.field-0.0) o =
    subst (λ (n : ℕ). EndsIn n (λ (_ : Unit {0}). new) (Err c.in_err-store.field-0.0) o) l.invariant.large.given (c.in_err-store.ensures.store d cell) in
    rw (e.1, e.2) (stops_in A c.args.state.now.given.room new new c.in_err-store.field-0.0 o rest whole
    (next ∙ ap (λ (y : Symbols). with (steps A (at y) p) go) (sym now)) ended)

pub loop-index-preserved : goal.loop-index-preserved
loop-index-preserved c =
    let x = c.args.piece.now in
    let line = c.args.line.now in
    let part = c.args.part in
    let cs = line.coordinates.now in
    let old = c.args.symbols.now in
    let s = symbols_of old in
    let l = c.loop-index in
    let j = part.turns.symbol in
    let z = part.low +ℤ pos l.index in
    let first = int_le z part.turns.low in
    let lt : l.index < part.count = omega (arith, ltb-false) in
    let made : c.bind.new.self ≡ also l.symbols c.turn_in.result = c.bind.ensures in
    let now : symbols_of c.bind.new.self ≡ bind s j z first =
    bound_now l.symbols c.bind.new.self c.turn_in.result j z first made c.turn_in.ensures ∙ ap (λ (b : Bindings). bind (symbols_of b) j z first) l.invariant.symbols in
    let count : c.bound_count-mark.result ≡ length l.symbols.bound = c.bound_count-mark.ensures ∙ ap (λ (b : Bindings). length b.bound) (sym l.invariant.symbols) in
    record {
      symbols = c.forget.ensures ∙ forgotten l.symbols c.bind.new.self c.turn_in.result c.bound_count-mark.result made count ∙ l.invariant.symbols;
      large = record { space = c.in_ok-store.ensures.large.space ∙ l.invariant.large.space; given = c.in_ok-store.ensures.large.given ∙ l.invariant.large.given };
      run = λ d cell.
          let A = around x cell in
          let at : Symbols → List Action = λ y. stored (setting x) line.buffer d (map coordinate_of cs) (term_of line.value.now) y ∷ [] in
          let f : ℤ → List Action = store_at x line.buffer cs (term_of line.value.now) s j part.turns.low d in
          let p = progress_of l.state in
          let rest = flat_map f (rising (part.low +ℤ pos (l.index + 1)) (part.count - (l.index + 1))) in
          let go : Progress → Option Progress = steps A rest in
          let whole : Option Progress = steps A (flat_map f (rising part.low part.count)) (progress_of c.args.state.now) in
          let next = first_turn A f part.low part.count l.index p whole lt (l.invariant.run d cell) in
          goes_on (steps A (f z) p) (progress_of c.store.new.state) go whole next (ap (λ (y : Symbols). steps A (at y) p) (sym now) ∙ c.in_ok-store.ensures.store d cell);
    }
