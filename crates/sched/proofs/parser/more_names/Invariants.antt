use Rattle.std.proofs.Common.{◌≡◌, ◌-◌, length}
use Rattle.tree.specs.declared.token.token.Symbol.TheVariants.{Comma}
use Rattle.tree.specs.Token.Cursor.{kinds}
use Rattle.sched.specs.Reading.{more_of, name}
use Rattle.sched.proofs.parser.more_names.Given as goal

abbrev pub invariant-loop : goal.invariant-loop
invariant-loop l = more_of Comma name (length l.fn.tokens.now - l.counter) l.found.items (kinds l.tokens.now) ≡ more_of Comma name (length l.fn.tokens.now) l.initial.found.items (kinds l.fn.tokens.now)
