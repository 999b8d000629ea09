use Rattle.std.proofs.Common.{◌≡◌, ◌+◌, ◌*◌, ◌^◌, drop}
use Rattle.lin.specs.Forms.{plus_terms, AreWithin}
use Rattle.lin.proofs.terms.plus_terms.Given as goal

abbrev pub invariant-loop-term : goal.invariant-loop-term
invariant-loop-term l = record {
  rest : plus_terms l.terms l.factor l.others ≡ plus_terms l.sum.items l.factor (drop l.term-index l.others);
  room : AreWithin (2 ^ 20 + l.term-index * 2 ^ 41) l.sum.items;
}
