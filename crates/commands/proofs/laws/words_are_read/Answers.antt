use Rattle.std.proofs.Common.{refl, inl, inr}
use Rattle.clap.specs.declared.error.kind.ErrorKind.TheVariants.{MissingRequiredArgument, UnknownArgument}
use Rattle.std.specs.Fmt.{digits}
use Rattle.clap.proofs.OnLiterals.{clap_on_literals}
use Rattle.commands.specs.Limit.{limit_spelled, side_spelled}
use Rattle.commands.specs.Workers.{workers_spelled}
use Rattle.commands.proofs.laws.words_are_read.Goals as goal

pub returns-clause-plain : goal.returns-clause-plain
unfolding clap_on_literals
returns-clause-plain c = (refl, refl)

pub returns-clause-format : goal.returns-clause-format
unfolding clap_on_literals
returns-clause-format c = (refl, refl)

pub returns-clause-explain : goal.returns-clause-explain
unfolding clap_on_literals
returns-clause-explain c = ((refl, refl), (refl, refl), inr refl)

pub returns-clause-run : goal.returns-clause-run
unfolding clap_on_literals
returns-clause-run c = (refl, refl)

pub returns-clause-workers : goal.returns-clause-workers
unfolding clap_on_literals digits workers_spelled
returns-clause-workers c = (refl, refl)

pub returns-clause-compile : goal.returns-clause-compile
unfolding clap_on_literals
returns-clause-compile c = (refl, refl)

pub returns-clause-compare : goal.returns-clause-compare
unfolding clap_on_literals
returns-clause-compare c = (refl, refl)

pub returns-clause-by_first : goal.returns-clause-by_first
unfolding clap_on_literals
returns-clause-by_first c = ((refl, refl), (refl, refl))

pub returns-clause-check : goal.returns-clause-check
unfolding clap_on_literals
returns-clause-check c = (refl, refl)

pub returns-clause-cost : goal.returns-clause-cost
unfolding clap_on_literals
returns-clause-cost c = (refl, refl)

pub returns-clause-show : goal.returns-clause-show
unfolding clap_on_literals
returns-clause-show c = (refl, refl)

pub returns-clause-draw : goal.returns-clause-draw
unfolding clap_on_literals
returns-clause-draw c = (refl, refl)

pub returns-clause-drawn_after : goal.returns-clause-drawn_after
unfolding clap_on_literals
returns-clause-drawn_after c = (refl, refl)

pub returns-clause-crop : goal.returns-clause-crop
unfolding clap_on_literals digits side_spelled
returns-clause-crop c = (refl, refl)

pub returns-clause-tiles : goal.returns-clause-tiles
unfolding clap_on_literals digits side_spelled
returns-clause-tiles c = (refl, refl)

pub returns-clause-evaluations : goal.returns-clause-evaluations
unfolding clap_on_literals digits limit_spelled
returns-clause-evaluations c = (refl, refl)

pub returns-clause-stores : goal.returns-clause-stores
unfolding clap_on_literals digits limit_spelled
returns-clause-stores c = (refl, refl)

pub returns-clause-replay : goal.returns-clause-replay
unfolding clap_on_literals
returns-clause-replay c = (refl, refl)

pub returns-clause-help : goal.returns-clause-help
unfolding clap_on_literals
returns-clause-help c = (inl refl, inl refl, inl refl)

pub returns-clause-version : goal.returns-clause-version
unfolding clap_on_literals
returns-clause-version c = (inl refl, inl refl)

pub returns-clause-misuse : goal.returns-clause-misuse
unfolding clap_on_literals
returns-clause-misuse c = (inl (UnknownArgument, (λ e. cc e), (λ e. cc e), inl refl), inl (MissingRequiredArgument, (λ e. cc e), (λ e. cc e), inl refl), inl (UnknownArgument, (λ e. cc e), (λ e. cc e), inl refl))

pub returns-clause-crews : goal.returns-clause-crews
unfolding clap_on_literals digits workers_spelled
returns-clause-crews c = (inr refl, (inr refl, (inr refl, (inr refl, inr refl))))

pub returns-clause-limits : goal.returns-clause-limits
unfolding clap_on_literals digits limit_spelled
returns-clause-limits c = (inr refl, (inr refl, (inr refl, (inr refl, inr refl))))

pub returns-clause-sides : goal.returns-clause-sides
unfolding clap_on_literals digits side_spelled
returns-clause-sides c = (inr refl, inr refl, inr refl, inr refl, inr refl)
