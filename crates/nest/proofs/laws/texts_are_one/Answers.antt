use Rattle.spelling.proofs.Texts.{one_value, never_bad}
use Rattle.spelling.proofs.TermsAgain.{term_again}
use Rattle.spelling.proofs.Plain.{term_plain}
use Rattle.nest.specs.Notation.{plan_notation}
use Rattle.nest.proofs.Steps.{lawful}
use Rattle.nest.proofs.laws.texts_are_one.Goals as goal

pub returns-clause-one : goal.returns-clause-one
returns-clause-one c = one_value plan_notation (lawful term_again term_plain)

pub returns-clause-never_bad : goal.returns-clause-never_bad
returns-clause-never_bad c = never_bad plan_notation (lawful term_again term_plain)
