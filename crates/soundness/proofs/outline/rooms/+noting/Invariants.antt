use Rattle.std.proofs.Common.{◌≡◌, ℕ}
use Rattle.plan.specs.Plan.{block}
use Rattle.plan.specs.Lists.{list_statements}
use Rattle.plan.specs.Semantics.Setting.{block_allocated, or_else}
use Rattle.soundness.specs.Outline.Rooms.{first_room}
use Rattle.soundness.proofs.OfOutline.Noted.{left}
use Rattle.soundness.proofs.outline.rooms.+noting.Given as goal

abbrev pub invariant-note_all_rooms-loop-stmt : goal.invariant-note_all_rooms-loop-stmt
invariant-note_all_rooms-loop-stmt l = (b : ℕ) → or_else (first_room l.rooms.items b) (left l.all l.stmt-index b) ≡ or_else (first_room l.initial.rooms.items b) (block_allocated (block (list_statements l.all)) b)
