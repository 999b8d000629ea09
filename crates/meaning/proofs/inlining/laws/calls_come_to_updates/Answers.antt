use Rattle.meaning.proofs.Own.{no_updates_taken, own_comes, through_comes}
use Rattle.meaning.proofs.inlining.laws.calls_come_to_updates.Goals as goal

pub returns : goal.returns
returns c = record {
  none = no_updates_taken;
  own = λ a stored k f w at mark changed. own_comes a w stored k f at mark changed;
  through = λ a stored k f w at mark h. through_comes a w stored k f at mark h;
}
