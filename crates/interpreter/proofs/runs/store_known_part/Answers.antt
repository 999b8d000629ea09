use Rattle.std.proofs.Common.{◌<◌, ℕ, pos, ◌+ℤ◌, sym, ap, ◌∙◌, subst}
use Rattle.std.specs.Prelude.{All, int_le}
use Rattle.plan.specs.Symbols.{bind}
use Rattle.interpreter.specs.Bindings.{Bindings, symbols_of}
use Rattle.interpreter.specs.Buffers.Blocks.{memory_of}
use Rattle.interpreter.specs.Runs.{numbers_of, FindsTurns}
use Rattle.interpreter.specs.Steps.{Progress}
use Rattle.interpreter.specs.Targets.{CoordinateIsNarrow}
use Rattle.plan.specs.Semantics.Memory.{Memory}
use Rattle.tree.specs.declared.value.Value.{Value}
use Rattle.tree.specs.Term.{term_of}
use Rattle.interpreter.proofs.runs.store_known_part.Goals as goal

pub write_part-requires-clause-narrow : goal.write_part-requires-clause-narrow
write_part-requires-clause-narrow c =
    let part = c.args.part in
    let cs = c.args.line.now.coordinates.now in
    let P : Bindings → Type 0 = λ y. (k : ℕ) → k < part.count → All (CoordinateIsNarrow (bind (symbols_of y) part.turns.symbol (part.low +ℤ pos k) (int_le (part.low +ℤ pos k) part.turns.low))) cs in
    subst P (sym c.evaluate_part.ensures.symbols) c.requires.narrow

pub store_one_by_one-requires-in-None-clause-narrow : goal.store_one_by_one-requires-in-None-clause-narrow
store_one_by_one-requires-in-None-clause-narrow c =
    let part = c.args.part in
    let cs = c.args.line.now.coordinates.now in
    let P : Bindings → Type 0 = λ y. (k : ℕ) → k < part.count → All (CoordinateIsNarrow (bind (symbols_of y) part.turns.symbol (part.low +ℤ pos k) (int_le (part.low +ℤ pos k) part.turns.low))) cs in
    subst P (sym c.evaluate_part.ensures.symbols) c.requires.narrow

pub write_part-requires-clause-finds : goal.write_part-requires-clause-finds
write_part-requires-clause-finds c =
    let part = c.args.part in
    let line = c.args.line.now in
    let F : Bindings → Memory Value → Type 0 = λ y m. FindsTurns c.args.piece.now line.buffer line.coordinates.now (term_of line.value.now) (symbols_of y) part.turns.symbol part.turns.low
    part.low m part.count c.in-Some.ty c.evaluate_part.new.state.words.items in
    let same = ap (λ (p : Progress). p.memory) c.evaluate_part.ensures.memory in
    subst (λ (y : Bindings). F y (memory_of c.evaluate_part.new.state.memory)) (sym c.evaluate_part.ensures.symbols)
    (subst (λ (m : Memory Value). F c.args.symbols.now m) (sym same) c.in-Some.ensures.finds)

pub write_part-requires-clause-known : goal.write_part-requires-clause-known
write_part-requires-clause-known c = λ k.
    let part = c.args.part in
    let cs = c.args.line.now.coordinates.now in
    c.in-Some.ensures.numbers k ∙ ap (λ (y : Bindings). numbers_of cs (symbols_of y) part.turns.symbol part.turns.low (part.low +ℤ pos k)) (sym c.evaluate_part.ensures.symbols)
