use Rattle.std.proofs.Common.{◌≡◌, ◌-◌, ◌<◌, length, take, drop}
use Rattle.std.specs.Prelude.{IfSome}
use Rattle.std.specs.Option.{option_map}
use Rattle.tails.specs.Moves.{best}
use Rattle.tails.specs.Held.{pendings_of}
use Rattle.tails.specs.Ready.{ready_of}
use Rattle.tails.proofs.Lists.{choices_from}
use Rattle.tails.proofs.choosing.best.Given as goal

abbrev pub invariant-loop-k : goal.invariant-loop-k
invariant-loop-k l = record {
  value : option_map (ready_of l.steps) l.found ≡ best l.spans (choices_from (pendings_of (take (length l.steps - l.k) l.steps)) (pendings_of (drop (length l.steps - l.k) l.steps)));
  known : IfSome l.found (λ r. r.place < length l.steps);
}
