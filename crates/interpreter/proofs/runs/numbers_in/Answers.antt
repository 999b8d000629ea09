use Rattle.std.proofs.Common.{◌≡◌, refl, sym, ap, ◌∙◌, subst, map}
use Rattle.std.specs.Prelude.{All}
use Rattle.plan.specs.Symbols.{Symbols, bind}
use Rattle.interpreter.specs.Bindings.{symbols_of}
use Rattle.interpreter.specs.Rows.{listed}
use Rattle.interpreter.specs.Targets.{known_number, CoordinateIsNarrow}
use Rattle.interpreter.proofs.Bindings.{bound_now, forgotten}
use Rattle.interpreter.proofs.runs.numbers_in.Goals as goal

pub known_numbers-requires-clause-narrow : goal.known_numbers-requires-clause-narrow
known_numbers-requires-clause-narrow c =
    let b = c.args.binding in
    let old = c.args.symbols.now in
    let now : symbols_of c.bind.new.self ≡ bind (symbols_of old) b.symbol b.value b.first = bound_now old c.bind.new.self b b.symbol b.value b.first c.bind.ensures refl in
    subst (λ (s : Symbols). All (CoordinateIsNarrow s) c.args.coordinates.now) (sym now) c.requires.narrow

pub returns-clause-numbers : goal.returns-clause-numbers
returns-clause-numbers c =
    let b = c.args.binding in
    let old = c.args.symbols.now in
    let now : symbols_of c.bind.new.self ≡ bind (symbols_of old) b.symbol b.value b.first = bound_now old c.bind.new.self b b.symbol b.value b.first c.bind.ensures refl in
    c.known_numbers.ensures ∙ ap (λ (s : Symbols). listed (map (known_number s) c.args.coordinates.now) c.args.numbers.now.room) now

pub returns-clause-symbols : goal.returns-clause-symbols
returns-clause-symbols c = c.forget.ensures ∙ forgotten c.args.symbols.now c.bind.new.self c.args.binding c.bound_count-mark.result c.bind.ensures c.bound_count-mark.ensures
