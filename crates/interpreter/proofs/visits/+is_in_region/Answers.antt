use Rattle.std.proofs.Common.{sym, subst, arith, rules}
use Rattle.std.proofs.lemmas.Bool.{ltb-false, ltb-true}
use Rattle.std.proofs.lemmas.Grind.{common_steps}
use Rattle.std.proofs.lemmas.List.Elements.{All-take, All-drop}
use Rattle.lin.specs.declared.span.Span1.{Span1}
use Rattle.interpreter.specs.Bindings.{symbols_of}
use Rattle.interpreter.specs.Narrow.{SpanIsNarrow}
use Rattle.interpreter.proofs.Shorts.{region_short}
use Rattle.interpreter.proofs.visits.+is_in_region.Goals as goal

pub is_in_span-requires : goal.is_in_span-requires
is_in_span-requires t c =
    let P : Span1 → Type 0 = SpanIsNarrow (symbols_of c.args.symbols.now) in
    subst P (sym c.span-item.is) (c.requires 0 c.span-item.result (omega (arith, ltb-false)))

pub is_in_region-requires : goal.is_in_region-requires
is_in_region-requires t c =
    let P : Span1 → Type 0 = SpanIsNarrow (symbols_of c.args.symbols.now) in
    (first_of (search rules, omega (arith, ltb-false), grind (arith, common_steps)), All-take P _ _ (All-drop P 1 c.args.region.now c.requires))

pub returns-in_default-2 : goal.returns-in_default-2
returns-in_default-2 t c = region_short (symbols_of c.args.symbols.now) c.args.region.now c.args.point.now (omega (arith, ltb-false)) (omega (arith, ltb-true))
