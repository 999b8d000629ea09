use Rattle.std.proofs.Common.{◌≡◌, ◌∷◌, List, Option, Some, ℕ, ℤ, get_or, position, sym, ap, ◌∙◌}
use Rattle.std.specs.Prelude.{◌==◌, ◌&&◌, ◌-ℤ◌}
use Rattle.tree.specs.declared.value.Value.{Value}
use Rattle.plan.specs.Rooms.{place}
use Rattle.plan.specs.Semantics.Memory.{held_at, read}
use Rattle.interpreter.specs.Buffers.Blocks.{held_in, memory_of, Block}
use Rattle.interpreter.specs.Buffers.Marks.{places_held}
use Rattle.interpreter.specs.Scanlines.{along}
use Rattle.interpreter.specs.declared.scanlines.Scanline.{Scanline}
use Rattle.interpreter.proofs.Blocks.{found_block, memory_read}
use Rattle.interpreter.proofs.FoundRuns.{if_some}
use Rattle.interpreter.proofs.buffers.memory.Buffers.scanline.Goals as goal

pub returns : goal.returns
returns c =
    let at : List Block → Option ℕ = λ blocks. position (λ block. block.used && (c.args.buffer == block.number)) blocks in
    let found = sym (ap at (c.deref.ensures.value ∙ c.self.view_is)) ∙ sym c.used_position.ensures ∙ c.in_ok-found.was in
    let block : Block = c.index.result.now in
    let here = found_block c.args.self.now c.args.buffer c.in_ok-found.found block found in
    let is : block ≡ get_or c.args.self.now c.in_ok-found.found block = c.index.ensures ∙ ap (λ blocks. get_or blocks c.in_ok-found.found block) c.self.view_is in
    let others = c.args.others.now in
    let holds : Scanline → ℤ → Option (Option Value) = λ l z. along (places_held l.held) (z -ℤ l.origin) in
    let P : Scanline → Type 0 = λ l. (z : ℤ) (v : Value) → holds l z ≡ Some (Some v) → held_at (held_in block) (place block.rooms (z ∷ others)) ≡ Some v in
    let Q : Scanline → Type 0 = λ l. (z : ℤ) (v : Value) → holds l z ≡ Some (Some v) → read (memory_of c.args.self.now) c.args.buffer (z ∷ others) ≡ Some v in
    if_some c.scanline.result P Q (λ l h z v e. memory_read c.args.self.now c.args.buffer block (z ∷ others) (here ∙ ap Some (sym is)) ∙ h z v e) c.scanline.ensures
