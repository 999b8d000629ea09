use Rattle.std.proofs.Common.{◌≡◌, ◌^◌, ℕ, ℤ, List, pos, ◌+ℤ◌, ◌≤ℤ◌, ◌<ℤ◌, Option, Err, sym, ap, subst, ◌∙◌, arith, rules, w64, to_z}
use Rattle.std.specs.Prelude.{All, flat_map, int_le}
use Rattle.std.proofs.lemmas.Int.{ints, to_z-of_z}
use Rattle.std.proofs.lemmas.Result.{err_from_is_err_and}
use Rattle.tree.specs.Term.{term_of}
use Rattle.plan.specs.Symbols.{bind, rising}
use Rattle.plan.specs.Semantics.Actions.{Action}
use Rattle.plan.specs.Semantics.Found.{with}
use Rattle.interpreter.specs.Bindings.{Bindings, symbols_of}
use Rattle.interpreter.specs.Pieces.{around}
use Rattle.interpreter.specs.Runs.{store_at}
use Rattle.interpreter.specs.States.{progress_of, EndsIn}
use Rattle.interpreter.specs.Steps.{Progress, steps}
use Rattle.interpreter.specs.Targets.{CoordinateIsNarrow}
use Rattle.interpreter.specs.Visits.{between}
use Rattle.interpreter.proofs.Counting.{between_has, between_none}
use Rattle.interpreter.proofs.Ending.{goes_on}
use Rattle.interpreter.proofs.Steps.{stops_in}
use Rattle.interpreter.proofs.StoreRuns.{parts_next}
use Rattle.interpreter.specs.declared.turns.Turns.{Turns}
use Rattle.interpreter.proofs.StoreRuns.{fewer_left}
use Rattle.interpreter.proofs.runs.run_stores.Goals as goal

pub store_part-requires-clause-narrow : goal.store_part-requires-clause-narrow
store_part-requires-clause-narrow c = λ k lt.
    let x = c.args.piece.now in
    let line = c.args.line.now in
    let cs = line.coordinates.now in
    let turns = c.args.turns in
    let s = symbols_of c.args.symbols.now in
    let l = c.loop-low in
    let part = c.first_part-part.result in
    let z : ℤ = to_z w64 l.low-bits in
    let here : part.low ≡ z = first_of (search rules, search (rules, to_z-of_z)) in
    let high : (z +ℤ pos part.count) ≤ℤ (turns.high +ℤ pos 1) = first_of (search rules, search (rules, to_z-of_z)) in
    let y = z +ℤ pos k in
    let from_low : turns.low ≤ℤ y = (let h : turns.low ≤ℤ z = l.invariant.low in omega (arith, ints, h)) in
    let to_high : y ≤ℤ turns.high = omega (arith, ints, high, lt) in
    let N = c.requires.narrow y (between_has turns.low turns.high y from_low to_high) in
    subst (λ (b : Bindings). All (CoordinateIsNarrow (bind (symbols_of b) part.turns.symbol (part.low +ℤ pos k) (int_le (part.low +ℤ pos k) part.turns.low))) cs) (sym l.invariant.symbols)
    (subst (λ (t : Turns). All (CoordinateIsNarrow (bind s t.symbol (part.low +ℤ pos k) (int_le (part.low +ℤ pos k) t.low))) cs) (sym c.first_part-part.ensures.turns)
    (subst (λ (w : ℤ). All (CoordinateIsNarrow (bind s turns.symbol (w +ℤ pos k) (int_le (w +ℤ pos k) turns.low))) cs) (sym here) N))

pub returns-in_err-store_part-clause-run : goal.returns-in_err-store_part-clause-run
returns-in_err-store_part-clause-run c = λ d cell.
    let x = c.args.piece.now in
    let line = c.args.line.now in
    let cs = line.coordinates.now in
    let turns = c.args.turns in
    let s = symbols_of c.args.symbols.now in
    let l = c.loop-low in
    let part = c.first_part-part.result in
    let z : ℤ = to_z w64 l.low-bits in
    let here : part.low ≡ z = first_of (search rules, search (rules, to_z-of_z)) in
    let high : (z +ℤ pos part.count) ≤ℤ (turns.high +ℤ pos 1) = first_of (search rules, search (rules, to_z-of_z)) in
    let A = around x cell in
    let f : ℤ → List Action = store_at x line.buffer cs (term_of line.value.now) s turns.symbol turns.low d in
    let p = progress_of l.state in
    let rest = flat_map f (between (z +ℤ pos part.count) turns.high) in
    let go : Progress → Option Progress = steps A rest in
    let whole : Option Progress = steps A (flat_map f (between turns.low turns.high)) (progress_of c.args.state.now) in
    let o : Option Progress = steps A (flat_map (store_at x line.buffer cs (term_of line.value.now) (symbols_of l.symbols) part.turns.symbol part.turns.low d) (rising part.low part.count)) p in
    let same : steps A (flat_map f (rising z part.count)) p ≡ o =
    λ i. steps A (flat_map (store_at x line.buffer cs (term_of line.value.now) (symbols_of (sym l.invariant.symbols i)) (sym c.first_part-part.ensures.turns i).symbol (sym c.first_part-part.ensures.turns i).low d) (rising (sym here i) part.count)) p in
    let next : whole ≡ with o go = parts_next A f z turns.high part.count p whole high (l.invariant.run d cell) ∙ ap (λ (w : Option Progress). with w go) same in
    let e = err_from_is_err_and c.from_residual.result c.from_residual.ensures.1 in
    let new : Progress = progress_of c.store_part.new.state in
    let ended : EndsIn c.args.state.now.given.room (λ (_ : Unit {0}). new) (Err c.in_err-store_part.field-0.0) o =
    subst (λ (n : ℕ). EndsIn n (λ (_ : Unit {0}). new) (Err c.in_err-store_part.field-0.0) o) l.invariant.large.given (c.in_err-store_part.ensures.run d cell) in
    rw (e.1, e.2) (stops_in A c.args.state.now.given.room new new c.in_err-store_part.field-0.0 o rest whole next ended)

pub returns-in_default-clause-run : goal.returns-in_default-clause-run
returns-in_default-clause-run c = λ d cell.
    let x = c.args.piece.now in
    let line = c.args.line.now in
    let cs = line.coordinates.now in
    let turns = c.args.turns in
    let s = symbols_of c.args.symbols.now in
    let l = c.loop-low in
    let part = c.first_part-part.result in
    let z : ℤ = to_z w64 l.low-bits in
    let here : part.low ≡ z = first_of (search rules, search (rules, to_z-of_z)) in
    let high : (z +ℤ pos part.count) ≤ℤ (turns.high +ℤ pos 1) = first_of (search rules, search (rules, to_z-of_z)) in
    let A = around x cell in
    let f : ℤ → List Action = store_at x line.buffer cs (term_of line.value.now) s turns.symbol turns.low d in
    let p = progress_of l.state in
    let rest = flat_map f (between (z +ℤ pos part.count) turns.high) in
    let go : Progress → Option Progress = steps A rest in
    let whole : Option Progress = steps A (flat_map f (between turns.low turns.high)) (progress_of c.args.state.now) in
    let o : Option Progress = steps A (flat_map (store_at x line.buffer cs (term_of line.value.now) (symbols_of l.symbols) part.turns.symbol part.turns.low d) (rising part.low part.count)) p in
    let same : steps A (flat_map f (rising z part.count)) p ≡ o =
    λ i. steps A (flat_map (store_at x line.buffer cs (term_of line.value.now) (symbols_of (sym l.invariant.symbols i)) (sym c.first_part-part.ensures.turns i).symbol (sym c.first_part-part.ensures.turns i).low d) (rising (sym here i) part.count)) p in
    let next : whole ≡ with o go = parts_next A f z turns.high part.count p whole high (l.invariant.run d cell) ∙ ap (λ (w : Option Progress). with w go) same in
    let done : whole ≡ go (progress_of c.store_part.new.state) = goes_on o (progress_of c.store_part.new.state) go whole next (c.in_ok-store_part.ensures.run d cell) in
    let over : pos (2 ^ 63) ≤ℤ (part.low +ℤ pos part.count) = c.in_default.ensures in
    let last : turns.high <ℤ (z +ℤ pos part.count) = omega (arith, ints, over, here) in
    done ∙ ap (λ (l : List ℤ). steps A (flat_map f l) (progress_of c.store_part.new.state)) (between_none (z +ℤ pos part.count) turns.high last)

pub loop-low-smaller : goal.loop-low-smaller
loop-low-smaller c =
    let x = c.args.piece.now in
    let line = c.args.line.now in
    let cs = line.coordinates.now in
    let turns = c.args.turns in
    let s = symbols_of c.args.symbols.now in
    let l = c.loop-low in
    let part = c.first_part-part.result in
    let z : ℤ = to_z w64 l.low-bits in
    let here : part.low ≡ z = first_of (search rules, search (rules, to_z-of_z)) in
    let high : (z +ℤ pos part.count) ≤ℤ (turns.high +ℤ pos 1) = first_of (search rules, search (rules, to_z-of_z)) in
    let next : c.in-Some.next ≡ part.low +ℤ pos part.count = c.in-Some.ensures in
    fewer_left turns.high z _ (omega (arith, ints)) (let some = c.first_part-part.ensures.some in omega (arith, ints, next, here, some))

pub loop-low-preserved : goal.loop-low-preserved
loop-low-preserved c =
    let x = c.args.piece.now in
    let line = c.args.line.now in
    let cs = line.coordinates.now in
    let turns = c.args.turns in
    let s = symbols_of c.args.symbols.now in
    let l = c.loop-low in
    let part = c.first_part-part.result in
    let z : ℤ = to_z w64 l.low-bits in
    let here : part.low ≡ z = first_of (search rules, search (rules, to_z-of_z)) in
    let high : (z +ℤ pos part.count) ≤ℤ (turns.high +ℤ pos 1) = first_of (search rules, search (rules, to_z-of_z)) in
    let behind : c.in-Some.next ≡ part.low +ℤ pos part.count = c.in-Some.ensures in
    record {
      symbols = c.in_ok-store_part.ensures.symbols ∙ l.invariant.symbols;
      large = record { space = c.in_ok-store_part.ensures.large.space ∙ l.invariant.large.space; given = c.in_ok-store_part.ensures.large.given ∙ l.invariant.large.given };
      low = (let h : turns.low ≤ℤ z = l.invariant.low in omega (arith, ints, h, behind, here));
      run = λ d cell.
          let A = around x cell in
          let f : ℤ → List Action = store_at x line.buffer cs (term_of line.value.now) s turns.symbol turns.low d in
          let p = progress_of l.state in
          let rest = flat_map f (between (z +ℤ pos part.count) turns.high) in
          let go : Progress → Option Progress = steps A rest in
          let whole : Option Progress = steps A (flat_map f (between turns.low turns.high)) (progress_of c.args.state.now) in
          let o : Option Progress = steps A (flat_map (store_at x line.buffer cs (term_of line.value.now) (symbols_of l.symbols) part.turns.symbol part.turns.low d) (rising part.low part.count)) p in
          let same : steps A (flat_map f (rising z part.count)) p ≡ o =
          λ i. steps A (flat_map (store_at x line.buffer cs (term_of line.value.now) (symbols_of (sym l.invariant.symbols i)) (sym c.first_part-part.ensures.turns i).symbol (sym c.first_part-part.ensures.turns i).low d) (rising (sym here i) part.count)) p in
          let next : whole ≡ with o go = parts_next A f z turns.high part.count p whole high (l.invariant.run d cell) ∙ ap (λ (w : Option Progress). with w go) same in
          goes_on o (progress_of c.store_part.new.state) go whole next (c.in_ok-store_part.ensures.run d cell)
          ∙ ap (λ (w : ℤ). steps A (flat_map f (between w turns.high)) (progress_of c.store_part.new.state)) (omega (arith, ints, behind, here));
    }
