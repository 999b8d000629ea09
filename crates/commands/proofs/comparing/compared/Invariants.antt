use Rattle.std.proofs.Common.{length, ◌-◌, ◌≡◌, ◌≤◌, take}
use Rattle.meaning.specs.Image.View.{numbers}
use Rattle.commands.proofs.comparing.compared.Given as goal

abbrev pub invariant-loop-place : goal.invariant-loop-place
invariant-loop-place l = (take l.place (numbers l.plain) ≡ take l.place (numbers l.picture)) × (l.place ≤ length (numbers l.plain)) × (l.place ≤ length (numbers l.picture))

abbrev pub decreases-loop-place : goal.decreases-loop-place
decreases-loop-place l = l.all - l.place
