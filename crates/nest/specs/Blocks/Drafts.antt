-- What a plan in memory says that is put together line by line.
use Rattle.std.specs.Prelude.{List, map, string_bytes}
use Rattle.std.proofs.Common.{reverse}
use Rattle.plan.specs.View.{declaration_of}
use Rattle.plan.specs.Lists.{list_statements, list_groups}
use Rattle.nest.specs.declared.blocks.blocks.Open.{Open as CodeOpen}
use Rattle.nest.specs.declared.blocks.blocks.Open.TheVariants as code
use Rattle.nest.specs.declared.blocks.blocks.Level.{Level as CodeLevel}
use Rattle.nest.specs.declared.blocks.blocks.Blocks.{Blocks as CodeBlocks}
use Rattle.nest.specs.declared.blocks.draft.Draft.{Draft as CodeDraft}
use Rattle.nest.specs.declared.blocks.draft.Draft.TheVariants as draft
use Rattle.nest.specs.declared.blocks.count.Count.{Count as CodeCount}
use Rattle.nest.specs.Blocks.Numbers.{Count}
use Rattle.nest.specs.Blocks.Stages.{Stage}
use Rattle.nest.specs.declared.blocks.stage.Stage.{Stage as CodeStage}
use Rattle.nest.specs.Blocks.Nesting.{Open, OpenGroup, OpenFor, OpenFirst, OpenElse, OpenGuard, Level, level, Blocks, Draft, Nothing, Named, Fed, Headed}

abbrev pub open_of : CodeOpen → Open
open_of (code.Group function region grid) = OpenGroup (string_bytes function) region grid.items
open_of (code.For symbol span kind) = OpenFor symbol span kind
open_of (code.First symbol) = OpenFirst symbol
open_of (code.Else symbol first) = OpenElse symbol (list_statements first.items)
open_of (code.Guard low high) = OpenGuard low high

abbrev pub level_of : CodeLevel → Level
level_of l = level (open_of l.open) (list_statements l.inside.items)

-- the innermost, which was opened last, first
abbrev pub levels_of : List CodeLevel → List Level
levels_of ls = map level_of (reverse ls)

abbrev pub blocks_of : CodeBlocks → Blocks
blocks_of b = record { groups = list_groups b.groups.items; levels = levels_of b.levels.items }

abbrev pub draft_of : CodeDraft → Draft
draft_of draft.Nothing = Nothing
draft_of (draft.Named name) = Named (string_bytes name)
draft_of (draft.Fed name input) = Fed (string_bytes name) (declaration_of input)
draft_of (draft.Headed name input output blocks) = Headed (string_bytes name) (declaration_of input) (declaration_of output) (blocks_of blocks)

abbrev pub stage_of : CodeStage → Stage
stage_of s = record { depth = s.depth; published = s.published; may_fetch = s.may_fetch }

abbrev pub count_of : CodeCount → Count
count_of c = record { groups = c.groups; symbols = c.symbols; buffers = c.buffers; stage = stage_of c.stage }
