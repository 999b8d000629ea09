use Rattle.std.proofs.Common.{◌≡◌, List, Option, Some, ℕ, get_or, position, sym, ap, ◌∙◌}
use Rattle.std.specs.Prelude.{◌==◌, ◌&&◌}
use Rattle.interpreter.specs.Buffers.Blocks.{Block}
use Rattle.interpreter.proofs.Blocks.{found_block, no_block, memory_read, memory_unread}
use Rattle.interpreter.proofs.buffers.memory.Buffers.read.Goals as goal

pub returns-in_err-found : goal.returns-in_err-found
returns-in_err-found c =
    let at : List Block → Option ℕ = λ blocks. position (λ block. block.used && (c.args.buffer == block.number)) blocks in
    let none = sym (ap at (c.deref.ensures.value ∙ c.self.view_is)) ∙ sym c.used_position.ensures ∙ c.in_err-found.was in
    c.from_residual.ensures ∙ sym (memory_unread c.args.self.now c.args.buffer c.args.at.now (no_block c.args.self.now c.args.buffer none))

pub returns : goal.returns
returns c =
    let at : List Block → Option ℕ = λ blocks. position (λ block. block.used && (c.args.buffer == block.number)) blocks in
    let found = sym (ap at (c.deref.ensures.value ∙ c.self.view_is)) ∙ sym c.used_position.ensures ∙ c.in_ok-found.was in
    let block : Block = c.index.result.now in
    let here = found_block c.args.self.now c.args.buffer c.in_ok-found.found block found in
    let is : block ≡ get_or c.args.self.now c.in_ok-found.found block = c.index.ensures ∙ ap (λ blocks. get_or blocks c.in_ok-found.found block) c.self.view_is in
    c.read.ensures ∙ sym (memory_read c.args.self.now c.args.buffer block c.args.at.now (here ∙ ap Some (sym is)))
