use Rattle.std.proofs.Common.{◌≡◌, sym, ap, ◌∙◌}
use Rattle.blocks.specs.Placed.{let_count}
use Rattle.blocks.proofs.Nested.{lets_there}
use Rattle.blocks.proofs.parts.first_lets.Goals as goal

pub returns-in_default : goal.returns-in_default
returns-in_default c =
    let same : c.in_ok-let_count.field-0 ≡ let_count c.deref.result.now = c.in_ok-let_count.ensures ∙ ap let_count (c.deref-2.ensures.value ∙ sym c.deref.ensures.value) in
    lets_there c.deref.result.now c.in_ok-let_count.field-0 same c.in_default.ensures.lookup.0
