use Rattle.std.proofs.Common.{◌≡◌, List, ℕ, [], ◌∷◌, ◌+◌, ◌<◌, ◌≤◌, length, get_or, sym, ap, ◌∙◌, subst, Some, map}
use Rattle.tree.specs.Term.{term_of}
use Rattle.std.proofs.lemmas.List.{length-map}
use Rattle.interpreter.specs.Evaluation.Indices.{indices_in}
use Rattle.plan.specs.declared.stmt.Stmt.{Stmt}
use Rattle.plan.specs.declared.stmt.Places.{Places}
use Rattle.plan.specs.declared.stmt.Coordinate.{Coordinate as CodeCoordinate}
use Rattle.plan.specs.Plan.{Coordinate}
use Rattle.plan.specs.Rooms.{room}
use Rattle.plan.specs.Symbols.{Symbols}
use Rattle.plan.specs.View.{statement_of, coordinate_of}
use Rattle.plan.specs.Semantics.Actions.{Allot, actions}
use Rattle.interpreter.specs.Bindings.{symbols_of}
use Rattle.interpreter.specs.Buffers.Blocks.{limits_of, HasMemoryFor}
use Rattle.interpreter.specs.Needs.{places_in, StatementFits}
use Rattle.interpreter.specs.Narrow.{StatementIsNarrow, IndexIsNarrow}
use Rattle.interpreter.specs.Pieces.{around, kept_of, setting, LineIsCoded, OwnIsSmall}
use Rattle.interpreter.specs.LineCodes.{IsCoded}
use Rattle.interpreter.proofs.Storing.{names_is}
use Rattle.interpreter.specs.States.{progress_of, space_of}
use Rattle.interpreter.specs.Steps.{steps}
use Rattle.interpreter.specs.Targets.{indices_of_all, CoordinateIsNarrow}
use Rattle.interpreter.proofs.Fitting.{indices_mapped}
use Rattle.interpreter.proofs.Shorts.{all_unmapped}
use Rattle.interpreter.proofs.run.run_line.Goals as goal

pub fetch-requires-clause-narrow : goal.fetch-requires-clause-narrow
fetch-requires-clause-narrow g c =
    let s = symbols_of c.args.symbols.now in
    let Own : Symbols → Type 0 = OwnIsSmall c.args.piece.now in
    subst (λ (a : Stmt). StatementIsNarrow Own (statement_of a) s) c.in-Fetch.is c.requires.narrow

pub allot-requires-clause-memory : goal.allot-requires-clause-memory
allot-requires-clause-memory g c =
    subst (λ (l : List Places). HasMemoryFor (limits_of c.args.state.now.memory) c.in-Alloc.buffer (places_in l)) (sym c.deref.ensures.value)
    (subst (λ (a : Stmt). StatementFits (kept_of c.args.piece.now) (space_of c.args.state.now) c.args.symbols.now.room (statement_of a) (length c.args.symbols.now.bound)) c.in-Alloc.is c.requires.fits).1

pub fetch-requires-clause-room : goal.fetch-requires-clause-room
fetch-requires-clause-room g c =
    subst (λ (a : Stmt). StatementFits (kept_of c.args.piece.now) (space_of c.args.state.now) c.args.symbols.now.room (statement_of a) (length c.args.symbols.now.bound)) c.in-Fetch.is c.requires.fits

pub publish-requires-clause-room : goal.publish-requires-clause-room
publish-requires-clause-room g c =
    subst (λ (a : Stmt). StatementFits (kept_of c.args.piece.now) (space_of c.args.state.now) c.args.symbols.now.room (statement_of a) (length c.args.symbols.now.bound)) c.in-Publish.is c.requires.fits

pub store-requires-clause-numbers : goal.store-requires-clause-numbers
store-requires-clause-numbers g c =
    let cs = c.in-Store.coordinates.items in
    let fits = subst (λ (a : Stmt). StatementFits (kept_of c.args.piece.now) (space_of c.args.state.now) c.args.symbols.now.room (statement_of a) (length c.args.symbols.now.bound)) c.in-Store.is c.requires.fits in
    subst (λ (n : ℕ). n ≤ c.args.state.now.numbers.room) (length-map cs coordinate_of ∙ ap length (sym c.deref-in-Store.ensures.value)) fits.0

pub store-requires-clause-point : goal.store-requires-clause-point
store-requires-clause-point g c =
    let cs = c.in-Store.coordinates.items in
    let fits = subst (λ (a : Stmt). StatementFits (kept_of c.args.piece.now) (space_of c.args.state.now) c.args.symbols.now.room (statement_of a) (length c.args.symbols.now.bound)) c.in-Store.is c.requires.fits in
    subst (λ (n : ℕ). n ≤ c.args.state.now.point.room) (length-map cs coordinate_of ∙ ap length (sym c.deref-in-Store.ensures.value)) fits.1

pub store-requires-clause-stack : goal.store-requires-clause-stack
store-requires-clause-stack g c =
    let cs = c.in-Store.coordinates.items in
    let k = indices_in (term_of c.in-Store.value) in
    let fits = subst (λ (a : Stmt). StatementFits (kept_of c.args.piece.now) (space_of c.args.state.now) c.args.symbols.now.room (statement_of a) (length c.args.symbols.now.bound)) c.in-Store.is c.requires.fits in
    subst (λ (n : ℕ). n + k ≤ c.args.state.now.stack.room) (sym (indices_mapped cs) ∙ ap indices_of_all (sym c.deref-in-Store.ensures.value)) fits.2

pub store-requires-clause-code : goal.store-requires-clause-code
store-requires-clause-code g c =
    let x = c.args.piece.now in
    let cs = c.in-Store.coordinates.items in
    let e = term_of c.in-Store.value in
    let fits = subst (λ (a : Stmt). StatementFits (kept_of x) (space_of c.args.state.now) c.args.symbols.now.room (statement_of a) (length c.args.symbols.now.bound)) c.in-Store.is c.requires.fits in
    subst (λ (l : List CodeCoordinate). LineIsCoded x c.in-Store.buffer c.in-Store.definition l e) (sym c.deref-in-Store.ensures.value)
    (subst (λ (names : List (List ℕ)). IsCoded x.codes.now c.in-Store.buffer c.in-Store.definition names e) (names_is cs) fits.3)

pub store-requires-clause-narrow : goal.store-requires-clause-narrow
store-requires-clause-narrow g c =
    let s = symbols_of c.args.symbols.now in
    let Own : Symbols → Type 0 = OwnIsSmall c.args.piece.now in
    let P : Coordinate → Type 0 = λ x. IndexIsNarrow s x.index in
    let Q : List CodeCoordinate → Type 0 = λ cs. (k : ℕ) (d : CodeCoordinate) → k < length cs → CoordinateIsNarrow s (get_or cs k d) in
    subst Q (sym c.deref-in-Store.ensures.value) (all_unmapped P coordinate_of c.in-Store.coordinates.items (subst (λ (a : Stmt). StatementIsNarrow Own (statement_of a) s) c.in-Store.is c.requires.narrow))

pub returns-in-Alloc-clause-run : goal.returns-in-Alloc-clause-run
returns-in-Alloc-clause-run g c =
    let x = c.args.piece.now in
    let cell = g.C.Cells.cell c.args.cells.now in
    let A = around x cell in
    let s = symbols_of c.args.symbols.now in
    let p = progress_of c.args.state.now in
    let q = progress_of c.allot.new.state in
    subst (λ (a : Stmt). steps A (actions (setting x) (statement_of a) s) p ≡ Some q) (sym c.in-Alloc.is)
    (subst (λ (l : List Places). steps A (Allot c.in-Alloc.buffer (map (room s) l) ∷ []) p ≡ Some q) c.deref.ensures.value (sym (c.allot.ensures.allot A)))
