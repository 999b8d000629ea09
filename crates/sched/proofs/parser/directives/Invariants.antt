use Rattle.std.proofs.Common.{◌≡◌, ◌-◌, [], length, map}
use Rattle.tree.specs.declared.token.token.Symbol.TheVariants.{Dot}
use Rattle.tree.specs.Token.Cursor.{kinds}
use Rattle.sched.specs.View.{directive_of}
use Rattle.sched.specs.Reading.{more_of, directive}
use Rattle.sched.proofs.parser.directives.Given as goal

abbrev pub invariant-loop : goal.invariant-loop
invariant-loop l = more_of Dot directive (length l.fn.tokens.now - l.counter) (map directive_of l.found.items) (kinds l.tokens.now) ≡ more_of Dot directive (length l.fn.tokens.now) [] (kinds l.fn.tokens.now)
