use Rattle.std.proofs.Common.{◌≡◌, List, ℤ, ℕ, Err, ◌≤ℤ◌, [], ◌∷◌, ◌+◌, ◌<◌, ◌≤◌, length, length-append, sym, ap, ◌∙◌, subst, take, rules, arith, pos, ◌+ℤ◌, w64, to_z, of_z, SFits, Option, Some}
use Rattle.std.specs.Prelude.{Contains, flat_map, int_le}
use Rattle.std.proofs.lemmas.Int.{ints, to_z-of_z}
use Rattle.std.proofs.lemmas.Result.{err_from_is_err_and}
use Rattle.plan.specs.declared.stmt.Stmt.{Stmt}
use Rattle.plan.specs.declared.stmt.Stmt.TheViews.{the_lemmas}
use Rattle.plan.specs.Plan.{Statement, Seq, Coordinate, block}
use Rattle.plan.specs.Lists.{list_statements}
use Rattle.plan.specs.Symbols.{Symbols, bind, largest, smallest}
use Rattle.plan.specs.View.{statement_of, coordinate_of}
use Rattle.plan.proofs.Rows.{statement_of-seq}
use Rattle.plan.specs.Semantics.Actions.{Action, actions, after, block_actions}
use Rattle.plan.specs.Semantics.Found.{with}
use Rattle.interpreter.specs.declared.turns.Turns.{Turns}
use Rattle.interpreter.specs.Bindings.{Bindings, symbols_of, also, Extends}
use Rattle.interpreter.specs.Needs.{name_count, BlockFits, Space, StatementFits}
use Rattle.interpreter.specs.Narrow.{StatementIsNarrow, BlockIsNarrow, IndexIsNarrow}
use Rattle.interpreter.specs.Pieces.{around, kept_of, setting, OwnIsSmall}
use Rattle.interpreter.specs.LineCodes.{IsCoded}
use Rattle.interpreter.proofs.Storing.{names_is}
use Rattle.interpreter.specs.States.{progress_of, space_of, EndsIn}
use Rattle.interpreter.specs.Steps.{Progress, steps}
use Rattle.interpreter.specs.Visits.{between}
use Rattle.interpreter.proofs.Bindings.{bound_now, forgotten, extends_both}
use Rattle.interpreter.proofs.Counting.{between_has, between_none}
use Rattle.interpreter.proofs.Ending.{goes_on}
use Rattle.interpreter.proofs.Steps.{stops_in}
use Rattle.interpreter.proofs.Running.{from, turns_next, block_next, block_narrow, block_fits}
use Rattle.interpreter.proofs.Shorts.{all_unmapped}
use Rattle.std.proofs.lemmas.List.{length-map}
use Rattle.tree.specs.Term.{term_of}
use Rattle.interpreter.specs.Evaluation.Indices.{indices_in}
use Rattle.interpreter.specs.Runs.{store_at}
use Rattle.interpreter.proofs.Fitting.{indices_mapped}
use Rattle.interpreter.proofs.OneLines.{line_actions, line_narrow, line_fits}
use Rattle.interpreter.proofs.ShiftedLoops.{ends_too}
use Rattle.interpreter.proofs.TwoLoops.{loops_run, loops_narrow, loops_end, loops_fit}
use Rattle.interpreter.proofs.run.+run.Goals as goal

pub run-run_block-requires : goal.run-run_block-requires
run-run_block-requires g t c κs within =
    let s = symbols_of c.args.symbols.now in
    let Own : Symbols → Type 0 = OwnIsSmall c.args.piece.now in
    let e : statement_of c.args.stmt.now ≡ Seq (block (list_statements c.deref.result.now)) =
    ap statement_of c.in-Seq.is ∙ statement_of-seq c.in-Seq.all ∙ ap (λ (l : List Stmt). Seq (block (list_statements l))) (sym c.deref.ensures.value) in
    let narrow : BlockIsNarrow Own (block (list_statements c.deref.result.now)) s = subst (λ (a : Statement). StatementIsNarrow Own a s) e c.requires.narrow in
    let fits = subst (λ (a : Statement). StatementFits (kept_of c.args.piece.now) (space_of c.args.state.now) c.args.symbols.now.room a (length c.args.symbols.now.bound)) e c.requires.fits in
    (search (rules, the_lemmas), (search rules, (c.requires.ready, (narrow, fits))))

pub run-returns-in-Seq-clause-run : goal.run-returns-in-Seq-clause-run
run-returns-in-Seq-clause-run g t c =
    let x = c.args.piece.now in
    let A = around x (g.C.Cells.cell c.args.cells.now) in
    let s = symbols_of c.args.symbols.now in
    let e : statement_of c.args.stmt.now ≡ Seq (block (list_statements c.deref.result.now)) =
    ap statement_of c.in-Seq.is ∙ statement_of-seq c.in-Seq.all ∙ ap (λ (l : List Stmt). Seq (block (list_statements l))) (sym c.deref.ensures.value) in
    subst (λ (a : Statement). EndsIn c.args.state.now.given.room (λ _. progress_of c.run_block.new.state) c.run_block.result (steps A (actions (setting x) a s) (progress_of c.args.state.now))) (sym e) c.run_block.ensures.run

pub run_block-returns-in_err-run-clause-run : goal.run_block-returns-in_err-run-clause-run
run_block-returns-in_err-run-clause-run g t c =
    let x = c.args.piece.now in
    let A = around x (g.C.Cells.cell c.args.cells.now) in
    let S = setting x in
    let l = c.loop-stmt in
    let i = l.stmt-index in
    let a = c.stmt-item.result in
    let s = symbols_of l.symbols in
    let all = c.args.all.now in
    let whole : Option Progress = steps A (block_actions S (block (list_statements all)) (symbols_of c.args.symbols.now)) (progress_of c.args.state.now) in
    let e = err_from_is_err_and c.from_residual.result c.from_residual.ensures.1 in
    let o : Option Progress = steps A (actions S (statement_of a) s) (progress_of l.state) in
    let new : Progress = progress_of c.run.new.state in
    let ended : EndsIn c.args.state.now.given.room (λ (_ : Unit {0}). new) (Err c.in_err-run.field-0.0) o =
    subst (λ (n : ℕ). EndsIn n (λ (_ : Unit {0}). new) (Err c.in_err-run.field-0.0) o) l.invariant.large.given c.in_err-run.ensures.run in
    rw (e.1, e.2) (stops_in A c.args.state.now.given.room new new c.in_err-run.field-0.0 o (block_actions S (from all (i + 1)) (after (statement_of a) s)) whole
    (block_next A S all i a s (progress_of l.state) whole c.loop-stmt-test.true c.stmt-item.is l.invariant.run) ended)

pub run_block-loop-stmt-preserved : goal.run_block-loop-stmt-preserved
run_block-loop-stmt-preserved g t c =
    let x = c.args.piece.now in
    let A = around x (g.C.Cells.cell c.args.cells.now) in
    let S = setting x in
    let Own : Symbols → Type 0 = OwnIsSmall x in
    let l = c.loop-stmt in
    let i = l.stmt-index in
    let a = c.stmt-item.result in
    let s = symbols_of l.symbols in
    let all = c.args.all.now in
    let new = c.name_from.new.symbols in
    let whole : Option Progress = steps A (block_actions S (block (list_statements all)) (symbols_of c.args.symbols.now)) (progress_of c.args.state.now) in
    let kept : c.run.new.symbols ≡ l.symbols = c.in_ok-run.ensures.symbols in
    let now : symbols_of new ≡ after (statement_of a) s = c.name_from.ensures.value ∙ ap (λ (b : Bindings). after (statement_of a) (symbols_of b)) kept in
    let go : Progress → Option Progress = steps A (block_actions S (from all (i + 1)) (after (statement_of a) s)) in
    record {
      large = record { space = c.in_ok-run.ensures.large.space ∙ l.invariant.large.space; given = c.in_ok-run.ensures.large.given ∙ l.invariant.large.given };
      fits = subst (λ (n : ℕ). BlockFits (kept_of c.args.piece.now) (space_of c.args.state.now) c.args.symbols.now.room (from all (i + 1)) n) (sym (c.name_from.ensures.count ∙ ap (λ (b : Bindings). length b.bound + name_count (statement_of a)) kept))
          (block_fits (kept_of c.args.piece.now) (space_of c.args.state.now) c.args.symbols.now.room all i a (length l.symbols.bound) c.loop-stmt-test.true c.stmt-item.is l.invariant.fits).2;
      extends = extends_both c.args.symbols.now l.symbols new l.invariant.extends (subst (λ (b : Bindings). Extends b new) kept c.name_from.ensures.extends);
      narrow = subst (λ (y : Symbols). BlockIsNarrow Own (from all (i + 1)) y) (sym now) (block_narrow Own all i a s c.loop-stmt-test.true c.stmt-item.is l.invariant.narrow).1;
      run = goes_on (steps A (actions S (statement_of a) s) (progress_of l.state)) (progress_of c.run.new.state) go whole (block_next A S all i a s (progress_of l.state) whole c.loop-stmt-test.true c.stmt-item.is l.invariant.run) c.in_ok-run.ensures.run
          ∙ ap (λ (y : Symbols). steps A (block_actions S (from all (i + 1)) y) (progress_of c.run.new.state)) (sym now);
    }

pub run_turns-run-requires : goal.run_turns-run-requires
run_turns-run-requires g t c κs within =
    let x = c.args.piece.now in
    let A = around x (g.C.Cells.cell c.args.cells.now) in
    let S = setting x in
    let turns = c.args.turns in
    let old = c.args.symbols.now in
    let l = c.loop-value in
    let z : ℤ = to_z w64 l.value-bits in
    let body = statement_of c.args.body.now in
    let f : ℤ → List Action = λ y. actions S body (bind (symbols_of old) turns.symbol y (int_le y turns.low)) in
    let p = progress_of l.state in
    let whole : Option Progress = steps A (flat_map f (between turns.low turns.high)) (progress_of c.args.state.now) in
    let from_low : turns.low ≤ℤ z = l.invariant.low in
    let to_high : z ≤ℤ turns.high = first_of (omega (arith, ints), grind (arith, ints)) in
    let made : c.bind.new.self ≡ also l.symbols c.turn.result = c.bind.ensures in
    let is : c.turn.result ≡ record { symbol = turns.symbol; value = z; first = int_le z turns.low } = first_of (search rules, search (rules, to_z-of_z)) in
    let now : symbols_of c.bind.new.self ≡ bind (symbols_of old) turns.symbol z (int_le z turns.low) =
    bound_now l.symbols c.bind.new.self c.turn.result turns.symbol z (int_le z turns.low) made is ∙ ap (λ (b : Bindings). bind (symbols_of b) turns.symbol z (int_le z turns.low)) l.invariant.symbols in
    let Own : Symbols → Type 0 = OwnIsSmall x in
    let narrow : StatementIsNarrow Own body (symbols_of c.bind.new.self) = subst (λ (y : Symbols). StatementIsNarrow Own body y) (sym now) (c.requires.narrow z (between_has turns.low turns.high z from_low to_high)) in
    let own = kept_of c.args.piece.now in
    let space = space_of c.args.state.now in
    let more : c.bind.new.self ≡ also old c.turn.result = made ∙ ap (λ (b : Bindings). also b c.turn.result) l.invariant.symbols in
    let one : length old.bound + 1 ≡ length c.bind.new.self.bound = sym (ap (λ (b : Bindings). length b.bound) more ∙ length-append old.bound (c.turn.result ∷ [])) in
    let fits : StatementFits own (space_of l.state) c.bind.new.self.room body (length c.bind.new.self.bound) =
    subst (λ (w : Space). StatementFits own w c.bind.new.self.room body (length c.bind.new.self.bound)) (sym l.invariant.large.space)
    (subst (λ (m : ℕ). StatementFits own space m body (length c.bind.new.self.bound)) (sym (ap (λ (b : Bindings). b.room) more))
    (subst (λ (m : ℕ). StatementFits own space old.room body m) one c.requires.fits)) in
    (first_of (search (rules, the_lemmas), omega arith), (search rules, (c.requires.ready, (narrow, fits))))

pub run_turns-returns-in_err-run-clause-run : goal.run_turns-returns-in_err-run-clause-run
run_turns-returns-in_err-run-clause-run g t c =
    let x = c.args.piece.now in
    let A = around x (g.C.Cells.cell c.args.cells.now) in
    let S = setting x in
    let turns = c.args.turns in
    let old = c.args.symbols.now in
    let l = c.loop-value in
    let z : ℤ = to_z w64 l.value-bits in
    let body = statement_of c.args.body.now in
    let f : ℤ → List Action = λ y. actions S body (bind (symbols_of old) turns.symbol y (int_le y turns.low)) in
    let p = progress_of l.state in
    let whole : Option Progress = steps A (flat_map f (between turns.low turns.high)) (progress_of c.args.state.now) in
    let from_low : turns.low ≤ℤ z = l.invariant.low in
    let to_high : z ≤ℤ turns.high = first_of (omega (arith, ints), grind (arith, ints)) in
    let made : c.bind.new.self ≡ also l.symbols c.turn.result = c.bind.ensures in
    let is : c.turn.result ≡ record { symbol = turns.symbol; value = z; first = int_le z turns.low } = first_of (search rules, search (rules, to_z-of_z)) in
    let now : symbols_of c.bind.new.self ≡ bind (symbols_of old) turns.symbol z (int_le z turns.low) =
    bound_now l.symbols c.bind.new.self c.turn.result turns.symbol z (int_le z turns.low) made is ∙ ap (λ (b : Bindings). bind (symbols_of b) turns.symbol z (int_le z turns.low)) l.invariant.symbols in
    let go : Progress → Option Progress = steps A (flat_map f (between (z +ℤ pos 1) turns.high)) in
    let next = turns_next A f z turns.high p whole to_high l.invariant.run in
    let e = err_from_is_err_and c.from_residual-in_err-run.result c.from_residual-in_err-run.ensures.1 in
    let o : Option Progress = steps A (actions S body (symbols_of c.bind.new.self)) p in
    let new : Progress = progress_of c.run.new.state in
    let ended : EndsIn c.args.state.now.given.room (λ (_ : Unit {0}). new) (Err c.in_err-run.field-0.0) o =
    subst (λ (n : ℕ). EndsIn n (λ (_ : Unit {0}). new) (Err c.in_err-run.field-0.0) o) l.invariant.large.given c.in_err-run.ensures.run in
    rw (e.1, e.2) (stops_in A c.args.state.now.given.room new new c.in_err-run.field-0.0 o (flat_map f (between (z +ℤ pos 1) turns.high)) whole
    (next ∙ ap (λ (y : Symbols). with (steps A (actions S body y) p) go) (sym now)) ended)

pub run_turns-loop-value-preserved : goal.run_turns-loop-value-preserved
run_turns-loop-value-preserved g t c =
    let x = c.args.piece.now in
    let A = around x (g.C.Cells.cell c.args.cells.now) in
    let S = setting x in
    let turns = c.args.turns in
    let old = c.args.symbols.now in
    let l = c.loop-value in
    let z : ℤ = to_z w64 l.value-bits in
    let body = statement_of c.args.body.now in
    let f : ℤ → List Action = λ y. actions S body (bind (symbols_of old) turns.symbol y (int_le y turns.low)) in
    let p = progress_of l.state in
    let whole : Option Progress = steps A (flat_map f (between turns.low turns.high)) (progress_of c.args.state.now) in
    let from_low : turns.low ≤ℤ z = l.invariant.low in
    let to_high : z ≤ℤ turns.high = first_of (omega (arith, ints), grind (arith, ints)) in
    let made : c.bind.new.self ≡ also l.symbols c.turn.result = c.bind.ensures in
    let is : c.turn.result ≡ record { symbol = turns.symbol; value = z; first = int_le z turns.low } = first_of (search rules, search (rules, to_z-of_z)) in
    let now : symbols_of c.bind.new.self ≡ bind (symbols_of old) turns.symbol z (int_le z turns.low) =
    bound_now l.symbols c.bind.new.self c.turn.result turns.symbol z (int_le z turns.low) made is ∙ ap (λ (b : Bindings). bind (symbols_of b) turns.symbol z (int_le z turns.low)) l.invariant.symbols in
    let go : Progress → Option Progress = steps A (flat_map f (between (z +ℤ pos 1) turns.high)) in
    let next = turns_next A f z turns.high p whole to_high l.invariant.run in
    let done : steps A (f z) p ≡ Some (progress_of c.run.new.state) = ap (λ (y : Symbols). steps A (actions S body y) p) (sym now) ∙ c.in_ok-run.ensures.run in
    let later : whole ≡ steps A (flat_map f (between (z +ℤ pos 1) turns.high)) (progress_of c.run.new.state) = goes_on (steps A (f z) p) (progress_of c.run.new.state) go whole next done in
    let kept : c.run.new.symbols ≡ c.bind.new.self = c.in_ok-run.ensures.symbols in
    let count : c.bound_count-mark.result ≡ length l.symbols.bound = c.bound_count-mark.ensures ∙ ap (λ (b : Bindings). length b.bound) (c.in_ok-next.ensures.symbols ∙ sym l.invariant.symbols) in
    record {
      large = record { space = c.in_ok-run.ensures.large.space ∙ l.invariant.large.space; given = c.in_ok-run.ensures.large.given ∙ l.invariant.large.given };
      symbols = c.forget.ensures ∙ (λ j. record { grid = (kept j).grid; bound = take c.bound_count-mark.result (kept j).bound; grid_room = (kept j).grid_room; room = (kept j).room }) ∙ forgotten l.symbols c.bind.new.self c.turn.result c.bound_count-mark.result made count ∙ l.invariant.symbols;
      low = omega (arith, ints, l.invariant.low);
      run = later ∙ ap (λ (y : ℤ). steps A (flat_map f (between y turns.high)) (progress_of c.run.new.state)) (omega (arith, ints));
    }

pub run_turns-returns-in_ok-run-clause-run : goal.run_turns-returns-in_ok-run-clause-run
run_turns-returns-in_ok-run-clause-run g t c =
    let x = c.args.piece.now in
    let A = around x (g.C.Cells.cell c.args.cells.now) in
    let S = setting x in
    let turns = c.args.turns in
    let old = c.args.symbols.now in
    let l = c.loop-value in
    let z : ℤ = to_z w64 l.value-bits in
    let body = statement_of c.args.body.now in
    let f : ℤ → List Action = λ y. actions S body (bind (symbols_of old) turns.symbol y (int_le y turns.low)) in
    let p = progress_of l.state in
    let whole : Option Progress = steps A (flat_map f (between turns.low turns.high)) (progress_of c.args.state.now) in
    let from_low : turns.low ≤ℤ z = l.invariant.low in
    let to_high : z ≤ℤ turns.high = first_of (omega (arith, ints), grind (arith, ints)) in
    let made : c.bind.new.self ≡ also l.symbols c.turn.result = c.bind.ensures in
    let is : c.turn.result ≡ record { symbol = turns.symbol; value = z; first = int_le z turns.low } = first_of (search rules, search (rules, to_z-of_z)) in
    let now : symbols_of c.bind.new.self ≡ bind (symbols_of old) turns.symbol z (int_le z turns.low) =
    bound_now l.symbols c.bind.new.self c.turn.result turns.symbol z (int_le z turns.low) made is ∙ ap (λ (b : Bindings). bind (symbols_of b) turns.symbol z (int_le z turns.low)) l.invariant.symbols in
    let go : Progress → Option Progress = steps A (flat_map f (between (z +ℤ pos 1) turns.high)) in
    let next = turns_next A f z turns.high p whole to_high l.invariant.run in
    let done : steps A (f z) p ≡ Some (progress_of c.run.new.state) = ap (λ (y : Symbols). steps A (actions S body y) p) (sym now) ∙ c.in_ok-run.ensures.run in
    let later : whole ≡ steps A (flat_map f (between (z +ℤ pos 1) turns.high)) (progress_of c.run.new.state) = goes_on (steps A (f z) p) (progress_of c.run.new.state) go whole next done in
    later ∙ ap (λ (ys : List ℤ). steps A (flat_map f ys) (progress_of c.run.new.state)) (between_none (z +ℤ pos 1) turns.high (omega (arith, ints)))

pub run-turns_of-turns-requires : goal.run-turns_of-turns-requires
run-turns_of-turns-requires g t c =
    let s = symbols_of c.args.symbols.now in
    let Own : Symbols → Type 0 = OwnIsSmall c.args.piece.now in
    (subst (λ (a : Stmt). StatementIsNarrow Own (statement_of a) s) c.in-For.is c.requires.narrow).0

pub run-run_turns-requires : goal.run-run_turns-requires
run-run_turns-requires g t c κs within =
    let s = symbols_of c.args.symbols.now in
    let Own : Symbols → Type 0 = OwnIsSmall c.args.piece.now in
    let same : c.deref-in-For.result.now ≡ c.in-For.body.value = search rules in
    let body = statement_of c.deref-in-For.result.now in
    let P : Turns → Type 0 = λ r. (z : ℤ) → Contains (between r.low r.high) z → StatementIsNarrow Own body (bind s r.symbol z (int_le z r.low)) in
    let Q : Stmt → Type 0 = λ b. (z : ℤ) → Contains (between (largest s c.in-For.span.lower) (smallest s c.in-For.span.upper)) z → StatementIsNarrow Own (statement_of b) (bind s c.in-For.symbol z (int_le z (largest s c.in-For.span.lower))) in
    let narrow : P c.turns_of-turns.result = subst P (sym c.turns_of-turns.ensures) (subst Q (sym same) (subst (λ (a : Stmt). StatementIsNarrow Own (statement_of a) s) c.in-For.is c.requires.narrow).1) in
    let own = kept_of c.args.piece.now in
    let space = space_of c.args.state.now in
    let n = length c.args.symbols.now.bound in
    let R : Stmt → Type 0 = λ b. (n < c.args.symbols.now.room) × StatementFits own space c.args.symbols.now.room (statement_of b) (n + 1) in
    let needs : R c.deref-in-For.result.now = subst R (sym same) (subst (λ (a : Stmt). StatementFits own space c.args.symbols.now.room (statement_of a) n) c.in-For.is c.requires.fits) in
    (search (rules, the_lemmas), (search rules, (c.requires.ready, (narrow, needs))))

pub run-returns-in-For-clause-run : goal.run-returns-in-For-clause-run
run-returns-in-For-clause-run g t c =
    let x = c.args.piece.now in
    let A = around x (g.C.Cells.cell c.args.cells.now) in
    let s = symbols_of c.args.symbols.now in
    let p = progress_of c.args.state.now in
    let same : c.deref-in-For.result.now ≡ c.in-For.body.value = search rules in
    let body = statement_of c.deref-in-For.result.now in
    let P : Option Progress → Type 0 = λ o. EndsIn c.args.state.now.given.room (λ (_ : Unit {0}). progress_of c.run_turns.new.state) c.run_turns.result o in
    let turned : Turns → Option Progress = λ r. steps A (flat_map (λ z. actions (setting x) body (bind s r.symbol z (int_le z r.low))) (between r.low r.high)) p in
    let low = largest s c.in-For.span.lower in
    let Q : Stmt → Type 0 = λ b. P (steps A (flat_map (λ z. actions (setting x) (statement_of b) (bind s c.in-For.symbol z (int_le z low))) (between low (smallest s c.in-For.span.upper))) p) in
    subst (λ (a : Stmt). P (steps A (actions (setting x) (statement_of a) s) p)) (sym c.in-For.is) (subst Q same (subst (λ (r : Turns). P (turned r)) c.turns_of-turns.ensures c.run_turns.ensures.run))

pub run_block-run-requires : goal.run_block-run-requires
run_block-run-requires g t c κs within =
    let x = c.args.piece.now in
    let Own : Symbols → Type 0 = OwnIsSmall x in
    let l = c.loop-stmt in
    let i = l.stmt-index in
    let a = c.stmt-item.result in
    let all = c.args.all.now in
    let n = length l.symbols.bound in
    let narrow = (block_narrow Own all i a (symbols_of l.symbols) c.loop-stmt-test.true c.stmt-item.is l.invariant.narrow).0 in
    let here = (block_fits (kept_of c.args.piece.now) (space_of c.args.state.now) c.args.symbols.now.room all i a n c.loop-stmt-test.true c.stmt-item.is l.invariant.fits).0 in
    let fits = subst (λ (w : Space). StatementFits (kept_of x) w l.symbols.room (statement_of a) n) (sym l.invariant.large.space)
    (subst (λ (m : ℕ). StatementFits (kept_of c.args.piece.now) (space_of c.args.state.now) m (statement_of a) n) (sym l.invariant.extends.room) here) in
    (first_of (search (rules, the_lemmas), omega arith), (search rules, (c.requires.ready, (narrow, fits))))

pub run_turns-run_stores-requires-clause-narrow : goal.run_turns-run_stores-requires-clause-narrow
run_turns-run_stores-requires-clause-narrow g t c = λ z inside.
    let Own : Symbols → Type 0 = OwnIsSmall c.args.piece.now in
    let turns = c.args.turns in
    let s : Symbols = bind (symbols_of c.args.symbols.now) turns.symbol z (int_le z turns.low) in
    let is = c.in-Some.ensures in
    let P : Coordinate → Type 0 = λ x. IndexIsNarrow s x.index in
    all_unmapped P coordinate_of c.in-Some.line.coordinates.now
    (subst (λ (a : Statement). StatementIsNarrow Own a s) is.store.is (line_narrow Own s (statement_of c.args.body.now) is.line is.one (c.requires.narrow z inside)))

pub run_turns-run_stores-requires-clause-numbers : goal.run_turns-run_stores-requires-clause-numbers
run_turns-run_stores-requires-clause-numbers g t c =
    let own = kept_of c.args.piece.now in
    let space = space_of c.args.state.now in
    let n = length c.args.symbols.now.bound + 1 in
    let is = c.in-Some.ensures in
    let cs = c.in-Some.line.coordinates.now in
    let fits = subst (λ (a : Statement). StatementFits own space c.args.symbols.now.room a n) is.store.is (line_fits own space c.args.symbols.now.room n (statement_of c.args.body.now) is.line is.one c.requires.fits) in
    subst (λ (m : ℕ). m ≤ c.args.state.now.numbers.room) (length-map cs coordinate_of) fits.0

pub run_turns-run_stores-requires-clause-point : goal.run_turns-run_stores-requires-clause-point
run_turns-run_stores-requires-clause-point g t c =
    let own = kept_of c.args.piece.now in
    let space = space_of c.args.state.now in
    let n = length c.args.symbols.now.bound + 1 in
    let is = c.in-Some.ensures in
    let cs = c.in-Some.line.coordinates.now in
    let fits = subst (λ (a : Statement). StatementFits own space c.args.symbols.now.room a n) is.store.is (line_fits own space c.args.symbols.now.room n (statement_of c.args.body.now) is.line is.one c.requires.fits) in
    subst (λ (m : ℕ). m ≤ c.args.state.now.point.room) (length-map cs coordinate_of) fits.1

pub run_turns-run_stores-requires-clause-stack : goal.run_turns-run_stores-requires-clause-stack
run_turns-run_stores-requires-clause-stack g t c =
    let own = kept_of c.args.piece.now in
    let space = space_of c.args.state.now in
    let n = length c.args.symbols.now.bound + 1 in
    let is = c.in-Some.ensures in
    let cs = c.in-Some.line.coordinates.now in
    let k = indices_in (term_of c.in-Some.line.value.now) in
    let fits = subst (λ (a : Statement). StatementFits own space c.args.symbols.now.room a n) is.store.is (line_fits own space c.args.symbols.now.room n (statement_of c.args.body.now) is.line is.one c.requires.fits) in
    subst (λ (m : ℕ). m + k ≤ c.args.state.now.stack.room) (sym (indices_mapped cs)) fits.2

pub run_turns-run_stores-requires-clause-code : goal.run_turns-run_stores-requires-clause-code
run_turns-run_stores-requires-clause-code g t c =
    let own = kept_of c.args.piece.now in
    let space = space_of c.args.state.now in
    let n = length c.args.symbols.now.bound + 1 in
    let is = c.in-Some.ensures in
    let line = c.in-Some.line in
    let fits = subst (λ (a : Statement). StatementFits own space c.args.symbols.now.room a n) is.store.is (line_fits own space c.args.symbols.now.room n (statement_of c.args.body.now) is.line is.one c.requires.fits) in
    subst (λ (names : List (List ℕ)). IsCoded own.codes line.buffer line.definition names (term_of line.value.now)) (names_is line.coordinates.now) fits.3

pub run_turns-returns-in-Some-clause-run : goal.run_turns-returns-in-Some-clause-run
run_turns-returns-in-Some-clause-run g t c =
    let x = c.args.piece.now in
    let cell = g.C.Cells.cell c.args.cells.now in
    let A = around x cell in
    let S = setting x in
    let turns = c.args.turns in
    let s = symbols_of c.args.symbols.now in
    let a = statement_of c.args.body.now in
    let is = c.in-Some.ensures in
    let line = c.in-Some.line in
    let p = progress_of c.args.state.now in
    let now : ℤ → Symbols = λ z. bind s turns.symbol z (int_le z turns.low) in
    let f : ℤ → List Action = λ z. actions S a (now z) in
    let stores : ℤ → List Action = store_at x line.buffer line.coordinates.now (term_of line.value.now) s turns.symbol turns.low line.definition in
    let each : (z : ℤ) → stores z ≡ f z = λ z. sym (line_actions S (now z) a is.line is.one ∙ ap (λ (b : Statement). actions S b (now z)) is.store.is) in
    let same : stores ≡ f = λ i z. each z i in
    subst (λ (h : ℤ → List Action). EndsIn c.args.state.now.given.room (λ (_ : Unit {0}). progress_of c.run_stores.new.state) c.run_stores.result (steps A (flat_map h (between turns.low turns.high)) p)) same
    (c.run_stores.ensures.run line.definition cell)

pub run_turns-run_joined-requires-clause-narrow : goal.run_turns-run_joined-requires-clause-narrow
run_turns-run_joined-requires-clause-narrow g t c =
    loops_narrow (OwnIsSmall c.args.piece.now) (symbols_of c.args.symbols.now) c.args.turns (statement_of c.args.body.now) c.in-Some-joined_loops.both c.in-Some-joined_loops.ensures c.requires.narrow

pub run_turns-run_joined-requires-clause-form : goal.run_turns-run_joined-requires-clause-form
run_turns-run_joined-requires-clause-form g t c =
    loops_end (OwnIsSmall c.args.piece.now) (symbols_of c.args.symbols.now) c.args.turns (statement_of c.args.body.now) c.in-Some-joined_loops.both c.in-Some-joined_loops.ensures c.requires.narrow

pub run_turns-run_joined-requires-clause-symbols : goal.run_turns-run_joined-requires-clause-symbols
run_turns-run_joined-requires-clause-symbols g t c =
    let own = kept_of c.args.piece.now in
    let space = space_of c.args.state.now in
    let n = length c.args.symbols.now.bound + 1 in
    (loops_fit own space c.args.symbols.now.room n (statement_of c.args.body.now) c.in-Some-joined_loops.both.inner c.in-Some-joined_loops.ensures.loop c.requires.fits).symbols

pub run_turns-run_joined-requires-clause-numbers : goal.run_turns-run_joined-requires-clause-numbers
run_turns-run_joined-requires-clause-numbers g t c =
    let own = kept_of c.args.piece.now in
    let space = space_of c.args.state.now in
    let n = length c.args.symbols.now.bound + 1 in
    (loops_fit own space c.args.symbols.now.room n (statement_of c.args.body.now) c.in-Some-joined_loops.both.inner c.in-Some-joined_loops.ensures.loop c.requires.fits).numbers

pub run_turns-run_joined-requires-clause-point : goal.run_turns-run_joined-requires-clause-point
run_turns-run_joined-requires-clause-point g t c =
    let own = kept_of c.args.piece.now in
    let space = space_of c.args.state.now in
    let n = length c.args.symbols.now.bound + 1 in
    (loops_fit own space c.args.symbols.now.room n (statement_of c.args.body.now) c.in-Some-joined_loops.both.inner c.in-Some-joined_loops.ensures.loop c.requires.fits).point

pub run_turns-run_joined-requires-clause-stack : goal.run_turns-run_joined-requires-clause-stack
run_turns-run_joined-requires-clause-stack g t c =
    let own = kept_of c.args.piece.now in
    let space = space_of c.args.state.now in
    let n = length c.args.symbols.now.bound + 1 in
    (loops_fit own space c.args.symbols.now.room n (statement_of c.args.body.now) c.in-Some-joined_loops.both.inner c.in-Some-joined_loops.ensures.loop c.requires.fits).stack

pub run_turns-run_joined-requires-clause-code : goal.run_turns-run_joined-requires-clause-code
run_turns-run_joined-requires-clause-code g t c =
    let own = kept_of c.args.piece.now in
    let space = space_of c.args.state.now in
    let n = length c.args.symbols.now.bound + 1 in
    (loops_fit own space c.args.symbols.now.room n (statement_of c.args.body.now) c.in-Some-joined_loops.both.inner c.in-Some-joined_loops.ensures.loop c.requires.fits).code

pub run_turns-returns-in-Some-joined_loops-clause-run : goal.run_turns-returns-in-Some-joined_loops-clause-run
run_turns-returns-in-Some-joined_loops-clause-run g t c =
    let x = c.args.piece.now in
    let cell = g.C.Cells.cell c.args.cells.now in
    let p = progress_of c.args.state.now in
    let h = c.in-Some-joined_loops.ensures in
    let same = loops_run x (symbols_of c.args.symbols.now) c.args.turns (statement_of c.args.body.now) c.in-Some-joined_loops.both h in
    subst (λ (l : List Action). EndsIn c.args.state.now.given.room (λ (_ : Unit {0}). progress_of c.run_joined.new.state) c.run_joined.result (steps (around x cell) l p)) (sym same)
    (c.run_joined.ensures.run c.in-Some-joined_loops.both.inner.line.definition cell)

pub run_turns-loop-value-init : goal.run_turns-loop-value-init
run_turns-loop-value-init g t c =
    let x = c.args.piece.now in
    let cell = g.C.Cells.cell c.args.cells.now in
    let turns = c.args.turns in
    let f : ℤ → List Action = λ z. actions (setting x) (statement_of c.args.body.now) (bind (symbols_of c.args.symbols.now) turns.symbol z (int_le z turns.low)) in
    let next = c.in_ok-next.next in
    let fits : SFits w64 next = search rules in
    let same : next ≡ to_z w64 (of_z w64 next) = sym (to_z-of_z w64 next fits) in
    record {
      symbols = c.in_ok-next.ensures.symbols;
      large = c.in_ok-next.ensures.large;
      low = subst (λ (z : ℤ). turns.low ≤ℤ z) same c.in_ok-next.ensures.next;
      run = c.in_ok-next.ensures.run cell ∙ ap (λ (z : ℤ). steps (around x cell) (flat_map f (between z turns.high)) (progress_of c.run_alike.new.state)) same;
    }

pub run_turns-returns-in_err-next-clause-run : goal.run_turns-returns-in_err-next-clause-run
run_turns-returns-in_err-next-clause-run g t c =
    let x = c.args.piece.now in
    let cell = g.C.Cells.cell c.args.cells.now in
    let A = around x cell in
    let turns = c.args.turns in
    let room = c.args.state.now.given.room in
    let f : ℤ → List Action = λ z. actions (setting x) (statement_of c.args.body.now) (bind (symbols_of c.args.symbols.now) turns.symbol z (int_le z turns.low)) in
    let whole : Option Progress = steps A (flat_map f (between turns.low turns.high)) (progress_of c.args.state.now) in
    let new : Progress = progress_of c.run_alike.new.state in
    let later : ℤ → Progress → Option Progress = λ z. steps A (flat_map f (between z turns.high)) in
    let e = err_from_is_err_and c.from_residual.result c.from_residual.ensures.1 in
    rw (e.1, e.2) (ends_too room new new later c.in_err-next.field-0.0 whole (c.in_err-next.ensures.run cell))
