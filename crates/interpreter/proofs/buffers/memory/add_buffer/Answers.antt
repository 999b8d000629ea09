use Rattle.std.proofs.Common.{List, sym, ap, ◌∙◌}
use Rattle.std.specs.Prelude.{◌==◌}
use Rattle.std.specs.List.{list_any}
use Rattle.interpreter.specs.Buffers.Blocks.{Block}
use Rattle.interpreter.proofs.Blocks.{any_number}
use Rattle.interpreter.proofs.buffers.memory.add_buffer.Goals as goal

pub returns-then-is_there-clause-there : goal.returns-then-is_there-clause-there
returns-then-is_there-clause-there c =
    let n = c.args.number in
    sym (any_number n c.args.buffers.now.items) ∙ ap (λ (bs : List Block). list_any (λ (b : Block). n == b.number) bs) (sym c.deref.ensures.value) ∙ sym c.is_there.ensures ∙ c.if-is_there.true
