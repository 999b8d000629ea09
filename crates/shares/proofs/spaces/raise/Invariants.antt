use Rattle.std.proofs.Common.{◌≡◌, ◌+◌, ◌++◌, map, take, drop, length}
use Rattle.shares.proofs.spaces.raise.Given as goal

abbrev pub invariant-loop-place : goal.invariant-loop-place
invariant-loop-place l = l.numbers ≡ map (λ n. l.first + n) (take l.place l.initial.numbers) ++ drop l.place l.initial.numbers
