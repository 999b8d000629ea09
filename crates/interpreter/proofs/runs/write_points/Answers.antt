use Rattle.std.proofs.Common.{◌≡◌, ◌+◌, ◌-◌, ◌<◌, ℕ, ℤ, List, map, take, pos, ◌+ℤ◌, Option, Some, None, refl, sym, ap, subst, ◌∙◌, arith}
use Rattle.std.specs.Prelude.{All, flat_map, int_le}
use Rattle.std.proofs.lemmas.Bool.{ltb-false}
use Rattle.std.proofs.lemmas.List.Elements.{All-take}
use Rattle.tree.specs.Meaning.{typed}
use Rattle.tree.specs.Term.{term_of}
use Rattle.plan.specs.declared.stmt.Coordinate.{Coordinate}
use Rattle.plan.specs.Symbols.{bind, rising}
use Rattle.plan.specs.Semantics.Actions.{Action}
use Rattle.plan.specs.Semantics.Found.{with}
use Rattle.plan.specs.Semantics.Memory.{write}
use Rattle.interpreter.specs.Bindings.{Bindings, symbols_of}
use Rattle.interpreter.specs.Buffers.Blocks.{memory_of}
use Rattle.interpreter.specs.Evaluation.Words.{word_at}
use Rattle.interpreter.specs.Pieces.{around, setting}
use Rattle.interpreter.specs.Rows.{Listed}
use Rattle.interpreter.specs.Runs.{store_at}
use Rattle.interpreter.specs.States.{progress_of}
use Rattle.interpreter.specs.Steps.{Progress, steps}
use Rattle.interpreter.specs.Targets.{known_number, CoordinateIsNarrow}
use Rattle.interpreter.specs.declared.symbols.Binding.{Binding}
use Rattle.interpreter.proofs.Buts.{but_written}
use Rattle.interpreter.proofs.Ending.{goes_on}
use Rattle.interpreter.proofs.Storing.{sets}
use Rattle.interpreter.proofs.StoreRuns.{first_set, set_there, set_nowhere}
use Rattle.interpreter.proofs.runs.write_points.Goals as goal

pub numbers_in-requires-clause-narrow : goal.numbers_in-requires-clause-narrow
numbers_in-requires-clause-narrow c =
    let part = c.args.part in
    let old = c.args.symbols.now in
    let l = c.loop-index in
    let s = symbols_of old in
    let cs = c.args.line.now.coordinates.now in
    let z = part.low +ℤ pos l.index in
    let lt : l.index < part.count = omega (arith, ltb-false) in
    let is : c.turn_in-binding.result ≡ record { symbol = part.turns.symbol; value = z; first = int_le z part.turns.low } = c.turn_in-binding.ensures in
    let P : Coordinate → Type 0 = CoordinateIsNarrow (bind s part.turns.symbol z (int_le z part.turns.low)) in
    let B : Binding → Type 0 = λ b. All (CoordinateIsNarrow (bind s b.symbol b.value b.first)) c.of_function-place.result.now in
    let C : Bindings → Type 0 = λ y. All (CoordinateIsNarrow (bind (symbols_of y) c.turn_in-binding.result.symbol c.turn_in-binding.result.value c.turn_in-binding.result.first)) c.of_function-place.result.now in
    subst C (sym l.invariant.symbols) (subst B (sym is)
    (subst (λ (k : List Coordinate). All P k) (sym c.of_function-place.ensures) (All-take P c.size_in.result cs (c.requires.narrow l.index lt))))

pub returns-then-not-write-clause-run : goal.returns-then-not-write-clause-run
returns-then-not-write-clause-run c = λ d cell.
    let x = c.args.piece.now in
    let line = c.args.line.now in
    let part = c.args.part in
    let cs = line.coordinates.now in
    let A = around x cell in
    let l = c.loop-index in
    let s = symbols_of c.args.symbols.now in
    let f : ℤ → List Action = store_at x line.buffer cs (term_of line.value.now) s part.turns.symbol part.turns.low d in
    let p = progress_of l.state in
    let n = c.size_in.result in
    let z = part.low +ℤ pos l.index in
    let now = bind s part.turns.symbol z (int_le z part.turns.low) in
    let zs = c.args.state.now.words.items in
    let q = map (known_number now) (take n cs) in
    let v = typed c.args.ty (word_at c.args.ty zs l.index) in
    let go : Progress → Option Progress = steps A (flat_map f (rising (part.low +ℤ pos (l.index + 1)) (part.count - (l.index + 1)))) in
    let whole : Option Progress = steps A (flat_map f (rising part.low part.count)) (progress_of c.args.state.now) in
    let lt : l.index < part.count = omega (arith, ltb-false) in
    let size : n ≡ (setting x).dimensions line.buffer = c.size_in.ensures ∙ c.requires.ready.sizes line.buffer in
    let next = first_set x cell line.buffer d part.count l.index n cs (term_of line.value.now) s part.turns.symbol part.turns.low part.low (memory_of c.args.state.now.memory) c.args.ty zs p whole
    c.requires.forms size c.requires.finds l.invariant.but lt (l.invariant.run d cell) in
    let is : c.turn_in-binding.result ≡ record { symbol = part.turns.symbol; value = z; first = int_le z part.turns.low } = c.turn_in-binding.ensures in
    let at : c.as_slice.result.now ≡ q =
    c.as_slice.ensures ∙ ap (λ (r : Listed). r.items) c.numbers_in.ensures.numbers
    ∙ ap (λ (y : Bindings). map (known_number (bind (symbols_of y) c.turn_in-binding.result.symbol c.turn_in-binding.result.value c.turn_in-binding.result.first)) c.of_function-place.result.now) l.invariant.symbols
    ∙ ap (λ (b : Binding). map (known_number (bind s b.symbol b.value b.first)) c.of_function-place.result.now) is
    ∙ ap (λ (k : List Coordinate). map (known_number now) k) c.of_function-place.ensures in
    let held : c.value_at-value.result ≡ v = c.value_at-value.ensures ∙ ap (λ (k : List ℕ). typed c.args.ty (word_at c.args.ty k l.index)) (c.deref.ensures.value ∙ l.invariant.words) in
    let none : write p.memory line.buffer q v ≡ None = (λ i. write p.memory line.buffer (sym at i) (sym held i)) ∙ (c.if-not-write.ensures.outside refl).0 in
    next ∙ ap (λ (o : Option Progress). with o go) (set_nowhere line.buffer p q v none)

pub loop-index-preserved : goal.loop-index-preserved
loop-index-preserved c =
    let line = c.args.line.now in
    let old = c.args.state.now in
    let l = c.loop-index in
    record {
      symbols = c.numbers_in.ensures.symbols ∙ l.invariant.symbols;
      large = record {
        space = (λ i. record { limits = c.write.ensures.limits i; numbers = l.state.numbers.room; point = (ap (λ (r : Listed). r.room) c.numbers_in.ensures.numbers) i; stack = l.state.stack.room }) ∙ l.invariant.large.space;
        given = l.invariant.large.given;
      };
      words = l.invariant.words;
      but = but_written line.buffer (memory_of old.memory) (memory_of l.state.memory) (memory_of c.write.new.self) c.as_slice.result.now c.value_at-value.result l.invariant.but c.if-not-write.ensures.set;
      run = λ d cell.
          let x = c.args.piece.now in
          let line = c.args.line.now in
          let part = c.args.part in
          let cs = line.coordinates.now in
          let A = around x cell in
          let l = c.loop-index in
          let s = symbols_of c.args.symbols.now in
          let f : ℤ → List Action = store_at x line.buffer cs (term_of line.value.now) s part.turns.symbol part.turns.low d in
          let p = progress_of l.state in
          let n = c.size_in.result in
          let z = part.low +ℤ pos l.index in
          let now = bind s part.turns.symbol z (int_le z part.turns.low) in
          let zs = c.args.state.now.words.items in
          let q = map (known_number now) (take n cs) in
          let v = typed c.args.ty (word_at c.args.ty zs l.index) in
          let go : Progress → Option Progress = steps A (flat_map f (rising (part.low +ℤ pos (l.index + 1)) (part.count - (l.index + 1)))) in
          let whole : Option Progress = steps A (flat_map f (rising part.low part.count)) (progress_of c.args.state.now) in
          let lt : l.index < part.count = omega (arith, ltb-false) in
          let size : n ≡ (setting x).dimensions line.buffer = c.size_in.ensures ∙ c.requires.ready.sizes line.buffer in
          let next = first_set x cell line.buffer d part.count l.index n cs (term_of line.value.now) s part.turns.symbol part.turns.low part.low (memory_of c.args.state.now.memory) c.args.ty zs p whole
          c.requires.forms size c.requires.finds l.invariant.but lt (l.invariant.run d cell) in
          let is : c.turn_in-binding.result ≡ record { symbol = part.turns.symbol; value = z; first = int_le z part.turns.low } = c.turn_in-binding.ensures in
          let at : c.as_slice.result.now ≡ q =
          c.as_slice.ensures ∙ ap (λ (r : Listed). r.items) c.numbers_in.ensures.numbers
          ∙ ap (λ (y : Bindings). map (known_number (bind (symbols_of y) c.turn_in-binding.result.symbol c.turn_in-binding.result.value c.turn_in-binding.result.first)) c.of_function-place.result.now) l.invariant.symbols
          ∙ ap (λ (b : Binding). map (known_number (bind s b.symbol b.value b.first)) c.of_function-place.result.now) is
          ∙ ap (λ (k : List Coordinate). map (known_number now) k) c.of_function-place.ensures in
          let held : c.value_at-value.result ≡ v = c.value_at-value.ensures ∙ ap (λ (k : List ℕ). typed c.args.ty (word_at c.args.ty k l.index)) (c.deref.ensures.value ∙ l.invariant.words) in
          let m = memory_of c.write.new.self in
          let some : write p.memory line.buffer q v ≡ Some m = (λ i. write p.memory line.buffer (sym at i) (sym held i)) ∙ c.if-not-write.ensures.set in
          goes_on (sets line.buffer p q v) (record { memory = m; given = p.given }) go whole next (set_there line.buffer p q v m some);
    }
