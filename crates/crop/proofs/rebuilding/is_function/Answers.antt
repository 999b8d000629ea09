use Rattle.std.proofs.Common.{Some, ap, ◌∙◌}
use Rattle.crop.proofs.rebuilding.is_function.Goals as goal

pub returns : goal.returns
returns c h = c.function_at.ensures ∙ ap Some (c.same_function.ensures h)
