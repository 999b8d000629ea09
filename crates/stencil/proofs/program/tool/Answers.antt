use Rattle.std.proofs.Common.{arith, inr, rules}
use Rattle.std.proofs.lemmas.Grind.{common_steps}
use Rattle.stencil.proofs.Explained.{stated_answer}
use Rattle.commands.proofs.Kept.{same_refl}
use Rattle.stencil.proofs.Streams.{streams_answer}
use Rattle.stencil.proofs.program.tool.Goals as goal

pub returns-then-is_empty-clause-streams : goal.returns-then-is_empty-clause-streams
returns-then-is_empty-clause-streams g c = λ none. streams_answer _ _ c.increment.result _ c.increment.ensures.done c.increment.ensures.refused c.answer.ensures

pub returns-then-is_empty-clause-kept : goal.returns-then-is_empty-clause-kept
returns-then-is_empty-clause-kept g c = search rules

pub returns-then-is_empty-clause-unread : goal.returns-then-is_empty-clause-unread
returns-then-is_empty-clause-unread g c = grind (arith, common_steps)

pub returns-then-is_empty-clause-command : goal.returns-then-is_empty-clause-command
returns-then-is_empty-clause-command g c = grind (arith, common_steps)

pub returns-in-Ok-clause-streams : goal.returns-in-Ok-clause-streams
returns-in-Ok-clause-streams g c = search rules

pub returns-in-Ok-clause-kept : goal.returns-in-Ok-clause-kept
returns-in-Ok-clause-kept g c = search rules

pub returns-in-Ok-clause-unread : goal.returns-in-Ok-clause-unread
returns-in-Ok-clause-unread g c = search rules

pub returns-in-Ok-clause-command : goal.returns-in-Ok-clause-command
returns-in-Ok-clause-command g c = λ some. stated_answer (λ word. word.now) c.as_slice.result.now c.in-Ok.stated.items c.args.words.now _ _ _ c.as_slice.ensures.value c.in-Ok.ensures c.tool_on.ensures

pub returns-in-Err-clause-streams : goal.returns-in-Err-clause-streams
returns-in-Err-clause-streams g c = search rules

pub returns-in-Err-clause-kept : goal.returns-in-Err-clause-kept
returns-in-Err-clause-kept g c = search rules

pub returns-in-Err-clause-unread : goal.returns-in-Err-clause-unread
returns-in-Err-clause-unread g c = search rules

pub returns-in-Err-clause-command : goal.returns-in-Err-clause-command
returns-in-Err-clause-command g c = λ some. inr (same_refl _, inr (inr c.answer-in-Err.ensures))
