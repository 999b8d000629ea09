use Rattle.std.proofs.Common.{◌≡◌, ◌∙◌, ◌+◌, ◌*◌, ◌<◌, ◌≤◌, length, drop, get_or, ap, sym, subst, arith, pos, refl}
use Rattle.std.specs.Prelude.{◌+ℤ◌, ◌-ℤ◌, ◌≤ℤ◌}
use Rattle.std.specs.List.{range_with_len}
use Rattle.std.proofs.lemmas.List.{length-map}
use Rattle.std.proofs.lemmas.List.Elements.{All-get_or}
use Rattle.lin.specs.declared.span.Span1.{Span1}
use Rattle.plan.specs.Symbols.{Symbols, clipped}
use Rattle.plan.specs.Certificate.Cells.{grid_symbols}
use Rattle.shares.specs.declared.boxes.Side.{Side}
use Rattle.shares.specs.declared.straight.Row.{Row}
use Rattle.shares.specs.Boxes.{AreLimited, point_count, side, sides}
use Rattle.shares.specs.Walked.{shared_cells}
use Rattle.shares.proofs.Rowed.{if_both, row_below, row_cells, row_count, side_here}
use Rattle.shares.proofs.straight.+row_from.Goals as goal

abbrev none : Side
none = record { low = pos 0; count = 0 }

pub side_at-part-requires-clause-limits : goal.side_at-part-requires-clause-limits
side_at-part-requires-clause-limits t c =
    let P : Span1 → Type 0 = λ x. AreLimited x.lower × AreLimited x.upper in
    let less : c.args.place < length c.args.region.now = omega (arith, c.requires.place, c.if-place-region.false) in
    subst P (sym c.index-region-place.is) (All-get_or P c.args.region.now c.args.place c.index-region-place.result less c.requires.limits)

pub returns-in-Some-clause-cells : goal.returns-in-Some-clause-cells
returns-in-Some-clause-cells t c =
    let s : Symbols = grid_symbols c.args.at.now in
    let xs = c.args.region.now in
    let own = sides s xs in
    let R = c.args.extents.now in
    let i = c.args.place in
    let o = get_or own i none in
    let r = get_or R i none in
    let part = c.side_at-part.result in
    let less : i < length xs = omega (arith, c.requires.place, c.if-place-region.false) in
    let long = length-map xs (side s) in
    let is : part ≡ o = c.side_at-part.ensures.value ∙ side_here s xs i c.index-region-place.result none less c.index-region-place.is in
    let low = subst (λ (y : Side). r.low ≤ℤ y.low) is (c.if-not-is_within.ensures.low refl) in
    let high = subst (λ (y : Side). (y.low +ℤ pos y.count) ≤ℤ (r.low +ℤ pos r.count)) is (c.if-not-is_within.ensures.high refl) in
    let rest = c.in-Some.rest in
    if_both c.row_behind.result (λ row. rest.count ≡ 1) (λ row. row ≡ record { first = clipped (part.low -ℤ r.low) + r.count * rest.first; count = part.count })
    (λ row. shared_cells (drop i own) (drop i R) ≡ range_with_len row.first row.count)
    (λ row one row_is.
    row_cells own R i none rest.first (omega (arith, less, long)) (omega (arith, less, c.requires.dimensions)) low high (c.in-Some.ensures.cells ∙ ap (range_with_len rest.first) one)
    ∙ (λ j. range_with_len (clipped ((sym is j).low -ℤ r.low) + r.count * rest.first) (sym is j).count) ∙ ap (λ (w : Row). range_with_len w.first w.count) (sym row_is))
    c.row_behind.ensures.one c.row_behind.ensures.row

pub returns-in-Some-clause-count : goal.returns-in-Some-clause-count
returns-in-Some-clause-count t c =
    let s : Symbols = grid_symbols c.args.at.now in
    let xs = c.args.region.now in
    let own = sides s xs in
    let R = c.args.extents.now in
    let i = c.args.place in
    let r = get_or R i none in
    let part = c.side_at-part.result in
    let less : i < length xs = omega (arith, c.requires.place, c.if-place-region.false) in
    let long = length-map xs (side s) in
    let is : part ≡ get_or own i none = c.side_at-part.ensures.value ∙ side_here s xs i c.index-region-place.result none less c.index-region-place.is in
    let rest = c.in-Some.rest in
    if_both c.row_behind.result (λ row. rest.count ≡ 1) (λ row. row ≡ record { first = clipped (part.low -ℤ r.low) + r.count * rest.first; count = part.count })
    (λ row. point_count (drop i own) ≡ row.count)
    (λ row one row_is. row_count own R i none rest.first (omega (arith, less, long)) (omega (arith, less, c.requires.dimensions)) (c.in-Some.ensures.count ∙ one) ∙ ap (λ (y : Side). y.count) (sym is) ∙ ap (λ (w : Row). w.count) (sym row_is))
    c.row_behind.ensures.one c.row_behind.ensures.row

pub returns-in-Some-clause-within : goal.returns-in-Some-clause-within
returns-in-Some-clause-within t c =
    let s : Symbols = grid_symbols c.args.at.now in
    let xs = c.args.region.now in
    let own = sides s xs in
    let R = c.args.extents.now in
    let i = c.args.place in
    let r = get_or R i none in
    let part = c.side_at-part.result in
    let less : i < length xs = omega (arith, c.requires.place, c.if-place-region.false) in
    let long = length-map xs (side s) in
    let is : part ≡ get_or own i none = c.side_at-part.ensures.value ∙ side_here s xs i c.index-region-place.result none less c.index-region-place.is in
    let low = subst (λ (y : Side). r.low ≤ℤ y.low) is (c.if-not-is_within.ensures.low refl) in
    let high = subst (λ (y : Side). (y.low +ℤ pos y.count) ≤ℤ (r.low +ℤ pos r.count)) is (c.if-not-is_within.ensures.high refl) in
    let rest = c.in-Some.rest in
    let inner = c.in-Some.ensures.within in
    if_both c.row_behind.result (λ row. rest.count ≡ 1) (λ row. row ≡ record { first = clipped (part.low -ℤ r.low) + r.count * rest.first; count = part.count })
    (λ row. row.first + row.count ≤ point_count (drop i R))
    (λ row one row_is.
    let below = row_below own R i none rest.first (omega (arith, less, long)) (omega (arith, less, c.requires.dimensions)) low high (omega (arith, inner, one)) in
    subst (λ (w : Row). w.first + w.count ≤ point_count (drop i R)) (sym row_is) (subst (λ (y : Side). clipped (y.low -ℤ r.low) + r.count * rest.first + y.count ≤ point_count (drop i R)) (sym is) below))
    c.row_behind.ensures.one c.row_behind.ensures.row
