use Rattle.std.proofs.Common.{◌≡◌, sym, subst, rules}
use Rattle.std.specs.Bool.{OnTrue}
use Rattle.std.specs.Prelude.{int_le}
use Rattle.std.proofs.lemmas.Int.{to_z-of_z}
use Rattle.plan.specs.Symbols.{Symbols}
use Rattle.interpreter.specs.Bindings.{symbols_of}
use Rattle.interpreter.specs.Shifting.{in_turn, IsFirstForm, NameIsNarrow}
use Rattle.interpreter.proofs.Bindings.{bound_now}
use Rattle.interpreter.proofs.shifting.is_first_form.Goals as goal

pub is_smaller-first-requires : goal.is_smaller-first-requires
is_smaller-first-requires c =
    let t = c.args.outer in
    let z = c.args.value in
    let is : c.turn.result ≡ record { symbol = t.symbol; value = z; first = int_le z t.low } = first_of (search rules, search (rules, to_z-of_z)) in
    let now : symbols_of c.bind.new.self ≡ in_turn t z (symbols_of c.args.symbols.now) =
    bound_now c.args.symbols.now c.bind.new.self c.turn.result t.symbol z (int_le z t.low) c.bind.ensures is in
    subst (NameIsNarrow c.args.name.now) (sym now) c.requires.narrow

pub returns-clause-first : goal.returns-clause-first
returns-clause-first c =
    let t = c.args.outer in
    let z = c.args.value in
    let is : c.turn.result ≡ record { symbol = t.symbol; value = z; first = int_le z t.low } = first_of (search rules, search (rules, to_z-of_z)) in
    let now : symbols_of c.bind.new.self ≡ in_turn t z (symbols_of c.args.symbols.now) =
    bound_now c.args.symbols.now c.bind.new.self c.turn.result t.symbol z (int_le z t.low) c.bind.ensures is in
    subst (λ (s : Symbols). OnTrue c.is_smaller-first.result (IsFirstForm c.args.name.now s)) now c.is_smaller-first.ensures
