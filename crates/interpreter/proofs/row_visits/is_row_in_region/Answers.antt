use Rattle.std.proofs.Common.{◌≡◌, ◌∷◌, ◌-◌, ℤ, List, length, take, drop, true, sym, ap, ◌∙◌, subst, arith}
use Rattle.std.specs.Prelude.{◌≤ℤ◌}
use Rattle.plan.specs.Certificate.Cells.{is_in_region}
use Rattle.std.proofs.lemmas.List.Elements.{All-take, All-drop}
use Rattle.lin.specs.declared.span.Span1.{Span1}
use Rattle.interpreter.specs.Bindings.{symbols_of}
use Rattle.interpreter.specs.Narrow.{SpanIsNarrow}
use Rattle.interpreter.proofs.RowVisits.{on_true, row_inside}
use Rattle.interpreter.proofs.Spots.{by_first}
use Rattle.interpreter.proofs.row_visits.is_row_in_region.Goals as goal

pub are_in_span-requires : goal.are_in_span-requires
are_in_span-requires c =
    let P : Span1 → Type 0 = SpanIsNarrow (symbols_of c.args.symbols.now) in
    subst P (sym c.span-item.is) (c.requires 0 c.span-item.result (omega (arith, c.in-len1-up.len_at_least)))

pub is_in_region-requires : goal.is_in_region-requires
is_in_region-requires c =
    let P : Span1 → Type 0 = SpanIsNarrow (symbols_of c.args.symbols.now) in
    All-take P _ _ (All-drop P 1 c.args.region.now c.requires)

pub returns-then-are_in_span : goal.returns-then-are_in_span
returns-then-are_in_span c =
    let s = symbols_of c.args.symbols.now in
    let r = c.args.region.now in
    let span : Span1 = c.span-item.result in
    let later : List Span1 = take (length r - 1) (drop 1 r) in
    let others = c.args.others.now in
    let is : r ≡ span ∷ later = by_first r span (omega (arith, c.in-len1-up.len_at_least)) ∙ ap (λ (y : Span1). y ∷ later) (sym c.span-item.is) in
    on_true c.is_in_region.result ((z : ℤ) → c.args.numbers.low ≤ℤ z → z ≤ℤ c.args.numbers.high → is_in_region s r (z ∷ others) ≡ true)
    (λ e z from to. row_inside s r span later z others is (c.if-are_in_span.ensures z from to) (sym c.is_in_region.ensures ∙ e))
