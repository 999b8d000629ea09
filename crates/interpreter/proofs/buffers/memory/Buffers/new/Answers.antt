use Rattle.std.proofs.Common.{List, arith, subst}
use Rattle.std.proofs.lemmas.List.{take_all}
use Rattle.interpreter.specs.declared.buffers.limit.Limit.{Limit}
use Rattle.interpreter.specs.Buffers.Blocks.{AreNumbered}
use Rattle.interpreter.proofs.Blocks.{made_all, nothing_used, numbered_more}
use Rattle.interpreter.proofs.buffers.memory.Buffers.new.Goals as goal

pub loop-limit-preserved : goal.loop-limit-preserved
loop-limit-preserved c =
    let l = c.loop-limit in
    let added = c.in_ok-add_buffer.ensures in
    record {
      numbered = numbered_more c.args.limits.now l.buffers.items c.add_buffer.new.buffers.items l.limit-index _ (omega (arith, c.loop-limit-test.true)) added.kept added.there l.invariant.numbered;
      made = added.made l.invariant.made;
    }

pub returns-clause-nothing : goal.returns-clause-nothing
returns-clause-nothing c = nothing_used c.loop-limit.buffers.items c.loop-limit.invariant.made.unused

pub returns-clause-limits : goal.returns-clause-limits
returns-clause-limits c =
    let l = c.loop-limit in
    let all = take_all l.limit-index c.args.limits.now (omega arith) in
    made_all c.args.limits.now l.buffers.items (subst (λ (xs : List Limit). AreNumbered xs l.buffers.items) all l.invariant.numbered) l.invariant.made
