use Rattle.std.proofs.Common.{◌≡◌, ◌++◌, take}
use Rattle.std.specs.Prelude.{string_bytes}
use Rattle.plan.specs.Plan.{block}
use Rattle.plan.specs.Lists.{list_statements}
use Rattle.nest.specs.Writing.{block_text}
use Rattle.nest.proofs.writing.+put_stmt.Given as goal

abbrev pub invariant-put_block-loop-stmt : goal.invariant-put_block-loop-stmt
invariant-put_block-loop-stmt l = string_bytes l.text ≡ string_bytes l.fn.text ++ block_text (block (list_statements (take l.stmt-index l.all)))
