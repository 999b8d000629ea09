use Rattle.std.proofs.Common.{List, ℕ, ap, ◌∙◌, arith}
use Rattle.meaning.specs.Names.{same_name}
use Rattle.interpreter.proofs.NamedPlaces.{before_more, number_named}
use Rattle.interpreter.proofs.reading.place_among.Goals as goal

pub loop-place-init : goal.loop-place-init
loop-place-init c = λ j less x at. absurd (omega arith)

pub loop-place-preserved : goal.loop-place-preserved
loop-place-preserved c =
    let name = c.args.name.now in
    before_more c.args.coordinates.now name c.loop-place.place c.index-coordinates-place.result c.loop-place-test.true c.loop-place.invariant c.index-coordinates-place.is
    (c.if-is_named.ensures ∙ ap (λ (b : List ℕ). same_name b name) c.as_str.ensures.value)

pub returns-then-is_named : goal.returns-then-is_named
returns-then-is_named c = λ zs.
    let name = c.args.name.now in
    number_named c.args.coordinates.now zs name c.loop-place.place c.index-coordinates-place.result c.loop-place.invariant c.loop-place-test.true c.index-coordinates-place.is
    (c.if-is_named.ensures ∙ ap (λ (b : List ℕ). same_name b name) c.as_str.ensures.value)
