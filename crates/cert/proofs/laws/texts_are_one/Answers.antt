use Rattle.spelling.proofs.Texts.{one_value, never_bad}
use Rattle.cert.specs.Notation.{certificate_notation}
use Rattle.cert.proofs.Turns.{lawful}
use Rattle.cert.proofs.laws.texts_are_one.Goals as goal

pub returns-clause-one : goal.returns-clause-one
returns-clause-one c = one_value certificate_notation lawful

pub returns-clause-never_bad : goal.returns-clause-never_bad
returns-clause-never_bad c = never_bad certificate_notation lawful
