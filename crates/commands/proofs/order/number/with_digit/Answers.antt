use Rattle.std.proofs.Common.{arith}
use Rattle.commands.proofs.Decimals.{none_large, none_padded, spells_longer}
use Rattle.commands.proofs.order.number.with_digit.Goals.{then-number-lt-FIRST_TENS-via-then-number-lt-FIRST_TENS, then-number-lt-FIRST_TENS-via-else-number-lt-FIRST_TENS+then-number-gt-LAST_TENS}
use Rattle.commands.proofs.order.number.with_digit.Goals as goal

pub returns-then-number-lt-FIRST_TENS : goal.returns-then-number-lt-FIRST_TENS
returns-then-number-lt-FIRST_TENS c = elim c.then-number-lt-FIRST_TENS.branch [ then-number-lt-FIRST_TENS-via-then-number-lt-FIRST_TENS w ↦ none_padded c.args.number c.args.digit (omega (arith, w.if-number-lt-FIRST_TENS.true)) | then-number-lt-FIRST_TENS-via-else-number-lt-FIRST_TENS+then-number-gt-LAST_TENS w ↦ none_large c.args.number c.args.digit c.requires.number c.requires.digit (omega (arith, w.if-number-gt-LAST_TENS.true)) ]

pub returns-then-longer-lt-WORKERS : goal.returns-then-longer-lt-WORKERS
returns-then-longer-lt-WORKERS c = spells_longer c.args.number c.args.digit (omega (arith, c.if-number-lt-FIRST_TENS.false)) c.requires.digit c.if-longer-lt-WORKERS.true

pub returns-else-longer-lt-WORKERS : goal.returns-else-longer-lt-WORKERS
returns-else-longer-lt-WORKERS c = none_large c.args.number c.args.digit c.requires.number c.requires.digit c.if-longer-lt-WORKERS.false
