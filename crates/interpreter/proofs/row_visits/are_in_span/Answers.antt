use Rattle.std.proofs.Common.{◌≡◌, ℤ, true, sym, ap, ◌∙◌, rules, w64, SFits}
use Rattle.std.specs.Prelude.{◌≤ℤ◌, int_le}
use Rattle.std.specs.List.{list_all}
use Rattle.std.proofs.lemmas.Int.{to_z-of_z}
use Rattle.plan.specs.Symbols.{form_value}
use Rattle.plan.specs.Certificate.Cells.{is_in_span}
use Rattle.interpreter.specs.Bindings.{symbols_of}
use Rattle.interpreter.proofs.RowVisits.{on_true, span_by_ends}
use Rattle.interpreter.proofs.row_visits.are_in_span.Goals as goal

pub returns-then-are_at_most : goal.returns-then-are_at_most
returns-then-are_at_most c =
    let s = symbols_of c.args.symbols.now in
    let span = c.args.span.now in
    let low = c.args.numbers.low in
    let high = c.args.numbers.high in
    let low_fits : SFits w64 low = search rules in
    let high_fits : SFits w64 high = search rules in
    let ls = c.as_slice.result.now in
    let us = c.as_slice-then-are_at_most.result.now in
    let first = ap (λ (n : ℤ). list_all (λ l. int_le (form_value l s) n) ls) (sym (to_z-of_z w64 low low_fits)) ∙ sym c.are_at_most.ensures ∙ c.if-are_at_most.true in
    on_true c.is_at_most.result ((z : ℤ) → low ≤ℤ z → z ≤ℤ high → is_in_span s span z ≡ true)
    (λ e z from to. span_by_ends s span low high z ls us first
    (ap (λ (n : ℤ). list_all (λ u. int_le n (form_value u s)) us) (sym (to_z-of_z w64 high high_fits)) ∙ sym c.is_at_most.ensures ∙ e) from to (search rules) (search rules))
