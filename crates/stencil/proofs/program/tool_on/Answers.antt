use Rattle.std.proofs.Common.{inl, inr}
use Rattle.commands.proofs.Kept.{same_refl}
use Rattle.stencil.proofs.Worded.{answer_of}
use Rattle.commands.specs.Asked.{asked_by}
use Rattle.stencil.proofs.program.tool_on.Goals as goal

pub returns-in-Ok : goal.returns-in-Ok
returns-in-Ok g c = inl (asked_by c.in-Ok.request, c.in-Ok.ensures, c.carry_out.ensures)

pub returns-in-Err : goal.returns-in-Err
returns-in-Err g c = inr (same_refl _, answer_of _ c.in-Err.error _ c.answer_words.ensures.memory c.answer_words.ensures.help c.answer_words.ensures.version c.answer_words.ensures.misuse c.in-Err.ensures)
