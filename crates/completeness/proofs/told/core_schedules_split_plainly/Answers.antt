use Rattle.std.proofs.Common.{inr}
use Rattle.completeness.proofs.told.core_schedules_split_plainly.Goals as goal

pub returns : goal.returns
returns c a s core = record { whole = core.once.whole; once = core.once.once; near = λ n u at fs e r laid. inr (core.simple n u at fs e) }
