use Rattle.std.proofs.Common.{◌<◌, ℕ, pos, ◌+ℤ◌, sym, subst}
use Rattle.std.specs.Prelude.{All, int_le}
use Rattle.plan.specs.Symbols.{bind}
use Rattle.interpreter.specs.Bindings.{Bindings, symbols_of}
use Rattle.interpreter.specs.Targets.{CoordinateIsNarrow}
use Rattle.interpreter.proofs.runs.store_short_part.Goals as goal

pub store_known_part-requires-clause-narrow : goal.store_known_part-requires-clause-narrow
store_known_part-requires-clause-narrow c =
    let part = c.args.part in
    let cs = c.args.line.now.coordinates.now in
    let P : Bindings → Type 0 = λ y. (k : ℕ) → k < part.count → All (CoordinateIsNarrow (bind (symbols_of y) part.turns.symbol (part.low +ℤ pos k) (int_le (part.low +ℤ pos k) part.turns.low))) cs in
    subst P (sym c.update_part.ensures.symbols) c.requires.narrow

pub store_update-requires-clause-narrow : goal.store_update-requires-clause-narrow
store_update-requires-clause-narrow c =
    let part = c.args.part in
    let cs = c.args.line.now.coordinates.now in
    let P : Bindings → Type 0 = λ y. (k : ℕ) → k < part.count → All (CoordinateIsNarrow (bind (symbols_of y) part.turns.symbol (part.low +ℤ pos k) (int_le (part.low +ℤ pos k) part.turns.low))) cs in
    subst P (sym c.update_part.ensures.symbols) c.requires.narrow
