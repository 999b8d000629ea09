use Rattle.std.proofs.Common.{◌≡◌, ◌+◌, ◌<◌, ℕ, ℤ, List, [], ◌∷◌, length, length-append, sym, ap, subst, ◌∙◌, rules, w64, to_z, of_z, SFits}
use Rattle.std.proofs.lemmas.Int.{to_z-of_z}
use Rattle.std.specs.Prelude.{All, Contains, flat_map, int_le}
use Rattle.tree.specs.Term.{term_of}
use Rattle.plan.specs.Symbols.{Symbols, bind}
use Rattle.plan.specs.Semantics.Actions.{Action}
use Rattle.interpreter.specs.Bindings.{Bindings, symbols_of, also}
use Rattle.interpreter.specs.Joining.{end_in, in_first, EndIsNarrow}
use Rattle.interpreter.specs.Pieces.{around}
use Rattle.interpreter.specs.Runs.{store_at}
use Rattle.interpreter.specs.States.{progress_of, EndsIn}
use Rattle.interpreter.specs.Steps.{steps}
use Rattle.interpreter.specs.Targets.{CoordinateIsNarrow}
use Rattle.interpreter.specs.Visits.{between}
use Rattle.interpreter.specs.declared.symbols.Binding.{Binding}
use Rattle.interpreter.proofs.Bindings.{bound_now, forgotten, on_ok}
use Rattle.interpreter.proofs.joining.run_joined.Goals as goal

pub end_in-high-requires : goal.end_in-high-requires
end_in-high-requires c =
    let t = c.args.outer in
    let both = c.args.both in
    let fits : SFits w64 t.low = search rules in
    let made : ℤ → Binding = λ z. record { symbol = t.symbol; value = z; first = int_le z t.low } in
    let is : c.turn.result ≡ made t.low = c.turn.ensures ∙ ap made (to_z-of_z w64 t.low fits) in
    let now : symbols_of c.bind.new.self ≡ in_first t (symbols_of c.args.symbols.now) =
    bound_now c.args.symbols.now c.bind.new.self c.turn.result t.symbol t.low (int_le t.low t.low) c.bind.ensures is in
    subst (λ (s : Symbols). EndIsNarrow s c.args.ends.form) (sym now) c.requires.form

pub run_stores-ended-requires-clause-narrow : goal.run_stores-ended-requires-clause-narrow
run_stores-ended-requires-clause-narrow c = λ z inside.
    let t = c.args.outer in
    let both = c.args.both in
    let fits : SFits w64 t.low = search rules in
    let both_fits : SFits w64 both.high = search rules in
    let low_fits : SFits w64 both.low = search rules in
    let low : to_z w64 (of_z w64 both.low) ≡ both.low = to_z-of_z w64 both.low low_fits in
    let made : ℤ → Binding = λ z. record { symbol = t.symbol; value = z; first = int_le z t.low } in
    let is : c.turn.result ≡ made t.low = c.turn.ensures ∙ ap made (to_z-of_z w64 t.low fits) in
    let now : symbols_of c.bind.new.self ≡ in_first t (symbols_of c.args.symbols.now) =
    bound_now c.args.symbols.now c.bind.new.self c.turn.result t.symbol t.low (int_le t.low t.low) c.bind.ensures is in
    let high_fits : SFits w64 c.end_in-high.result = search rules in
    let high : to_z w64 (of_z w64 c.end_in-high.result) ≡ end_in (in_first t (symbols_of c.args.symbols.now)) both.high c.args.ends.form =
    to_z-of_z w64 c.end_in-high.result high_fits ∙ c.end_in-high.ensures ∙ (λ i. end_in (now i) (to_z-of_z w64 both.high both_fits i) c.args.ends.form) in
    let there : Contains (between both.low (end_in (in_first t (symbols_of c.args.symbols.now)) both.high c.args.ends.form)) z =
    subst (λ (l : ℤ). Contains (between l (end_in (in_first t (symbols_of c.args.symbols.now)) both.high c.args.ends.form)) z) low
    (subst (λ (h : ℤ). Contains (between (to_z w64 (of_z w64 both.low)) h) z) high inside) in
    let Narrow : Symbols → ℤ → Type 0 = λ s l. All (CoordinateIsNarrow (bind s both.symbol z (int_le z l))) c.args.line.now.coordinates.now in
    subst (λ (l : ℤ). Narrow (symbols_of c.bind.new.self) l) (sym low) (subst (λ (s : Symbols). Narrow s both.low) (sym now) (c.requires.narrow z there))

pub run_stores-ended-requires-clause-symbols : goal.run_stores-ended-requires-clause-symbols
run_stores-ended-requires-clause-symbols c =
    let old = c.args.symbols.now in
    let made : c.bind.new.self ≡ also old c.turn.result = c.bind.ensures in
    let count : length c.bind.new.self.bound ≡ length old.bound + 1 = ap (λ (b : Bindings). length b.bound) made ∙ length-append old.bound (c.turn.result ∷ []) in
    let room : c.bind.new.self.room ≡ old.room = ap (λ (b : Bindings). b.room) made in
    subst (λ (n : ℕ). n < c.bind.new.self.room) (sym count) (subst (λ (n : ℕ). length old.bound + 1 < n) (sym room) c.requires.symbols)

pub returns-clause-symbols : goal.returns-clause-symbols
returns-clause-symbols c =
    let old = c.args.symbols.now in
    let new = c.run_stores-ended.new.symbols in
    on_ok c.run_stores-ended.result (new ≡ c.bind.new.self) _
    (λ kept. c.forget.ensures ∙ forgotten old new c.turn.result c.bound_count-mark.result (kept ∙ c.bind.ensures) c.bound_count-mark.ensures)
    c.run_stores-ended.ensures.symbols

pub returns-clause-run : goal.returns-clause-run
returns-clause-run c = λ d cell.
    let t = c.args.outer in
    let both = c.args.both in
    let fits : SFits w64 t.low = search rules in
    let both_fits : SFits w64 both.high = search rules in
    let low_fits : SFits w64 both.low = search rules in
    let low : to_z w64 (of_z w64 both.low) ≡ both.low = to_z-of_z w64 both.low low_fits in
    let made : ℤ → Binding = λ z. record { symbol = t.symbol; value = z; first = int_le z t.low } in
    let is : c.turn.result ≡ made t.low = c.turn.ensures ∙ ap made (to_z-of_z w64 t.low fits) in
    let now : symbols_of c.bind.new.self ≡ in_first t (symbols_of c.args.symbols.now) =
    bound_now c.args.symbols.now c.bind.new.self c.turn.result t.symbol t.low (int_le t.low t.low) c.bind.ensures is in
    let line = c.args.line.now in
    let x = c.args.piece.now in
    let p = progress_of c.args.state.now in
    let high_fits : SFits w64 c.end_in-high.result = search rules in
    let high : to_z w64 (of_z w64 c.end_in-high.result) ≡ end_in (in_first t (symbols_of c.args.symbols.now)) both.high c.args.ends.form =
    to_z-of_z w64 c.end_in-high.result high_fits ∙ c.end_in-high.ensures ∙ (λ i. end_in (now i) (to_z-of_z w64 both.high both_fits i) c.args.ends.form) in
    let stores : Symbols → ℤ → ℤ → List Action = λ s l h. flat_map (store_at x line.buffer line.coordinates.now (term_of line.value.now) s both.symbol l d) (between l h) in
    let Ends : List Action → Type 0 = λ l. EndsIn c.args.state.now.given.room (λ (_ : Unit {0}). progress_of c.run_stores-ended.new.state) c.run_stores-ended.result (steps (around x cell) l p) in
    subst Ends (λ i. stores (now i) (low i) (high i)) (c.run_stores-ended.ensures.run d cell)
