use Rattle.std.proofs.Common.{◌≡◌, ◌-◌, length, map}
use Rattle.tree.specs.Token.Cursor.{kinds}
use Rattle.sched.specs.View.{scheduled_of}
use Rattle.sched.specs.Reading.{functions, file}
use Rattle.sched.proofs.parser.file.Given as goal

abbrev pub invariant-loop : goal.invariant-loop
invariant-loop l = functions (length l.tokens - l.counter) (map scheduled_of l.found.items) (kinds l.rest) ≡ file (kinds l.tokens)
