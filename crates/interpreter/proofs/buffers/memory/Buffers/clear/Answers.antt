use Rattle.std.proofs.Common.{◌≡◌, ◌<◌, List, length, false, ap, ◌∙◌, subst, rules}
use Rattle.std.specs.List.{AllByRecursion}
use Rattle.std.proofs.lemmas.List.{take_all, length-set}
use Rattle.interpreter.specs.Buffers.Blocks.{Block}
use Rattle.interpreter.proofs.Blocks.{nothing_used, same_limits, unused_more}
use Rattle.interpreter.proofs.buffers.memory.Buffers.clear.Goals as goal

pub loop-index-preserved : goal.loop-index-preserved
loop-index-preserved c =
    let l = c.loop-index in
    let blocks : List Block = l.self-inside.buffers.items in
    let old : Block = c.index_mut.result.now in
    let new : Block = c.end.new.self in
    let less : l.index < length blocks = search rules in
    record {
      count = length-set blocks l.index new ∙ l.invariant.count;
      limits = same_limits blocks l.index old new (ap (λ block. Block.number block) c.end.ensures ∙ ap (λ block. Block.number block) c.index_mut.ensures.value)
          (ap (λ block. Block.limit block) c.end.ensures ∙ ap (λ block. Block.limit block) c.index_mut.ensures.value) ∙ l.invariant.limits;
      unused = unused_more blocks l.index new less l.invariant.unused (ap (λ block. Block.used block) c.end.ensures);
    }

pub returns-clause-nothing : goal.returns-clause-nothing
returns-clause-nothing c =
    let l = c.loop-index in
    let blocks : List Block = l.self-inside.buffers.items in
    nothing_used blocks (subst (λ (xs : List Block). AllByRecursion (λ (block : Block). block.used ≡ false) xs) (take_all l.index blocks (search rules)) l.invariant.unused)
