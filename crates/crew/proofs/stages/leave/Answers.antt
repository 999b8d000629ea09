use Rattle.std.proofs.Common.{inl, ◌∙◌}
use Rattle.crew.proofs.stages.leave.Goals as goal

pub returns-then-not-show-clause-done : goal.returns-then-not-show-clause-done
returns-then-not-show-clause-done g c =
    inl (c.keep_bits.ensures ∙ c.requires.bits)
