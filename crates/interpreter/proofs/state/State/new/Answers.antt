use Rattle.std.proofs.Common.{List, ap, subst, rules, arith}
use Rattle.std.specs.Prelude.{All}
use Rattle.interpreter.specs.Buffers.Blocks.{limits_of, HasMemoryFor}
use Rattle.interpreter.specs.Rows.{Listed}
use Rattle.interpreter.specs.declared.buffers.limit.Limit.{Limit}
use Rattle.interpreter.proofs.state.State.new.Goals as goal

pub returns : goal.returns
returns c = record {
  limits = subst (λ (l : List Limit). All (λ x. HasMemoryFor (limits_of c.in_ok-new.field-0) x.buffer x.places) l) c.deref.ensures.value c.in_ok-new.ensures.limits;
  given = (let room = ap (λ (r : Listed). r.room) c.in_ok-new-2.ensures in omega (arith, room));
  numbers = ap (λ (r : Listed). r.room) c.in_ok-new-3.ensures;
  point = ap (λ (r : Listed). r.room) c.in_ok-new-4.ensures;
  stack = ap (λ (r : Listed). r.room) c.in_ok-new-5.ensures;
}
