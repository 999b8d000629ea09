use Rattle.std.proofs.Common.{◌≡◌, drop, map}
use Rattle.plain.specs.Works.{entry_of, recorded}
use Rattle.plain.proofs.scope.recorded.Given as goal

abbrev pub invariant-loop-answer : goal.invariant-loop-answer
invariant-loop-answer l = recorded (map entry_of l.answers) l.name l.at ≡ recorded (map entry_of (drop l.answer-index l.answers)) l.name l.at
