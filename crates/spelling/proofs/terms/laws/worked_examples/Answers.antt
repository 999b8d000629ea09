use Rattle.std.proofs.Common.{refl}
use Rattle.std.specs.Fmt.{digits}
use Rattle.tree.specs.Token.Lexical.{type_named}
use Rattle.spelling.specs.Words.Reading.{number_from, digits_from}
use Rattle.spelling.specs.Terms.Reading.{head_named, literal_at, brackets_at, cast_at, extreme_at, clamp_at, choice_at, row_at, named_at, word_at, term_at, compared_at, denied_at, both_at, indices_at, test_at, within, term_from}
use Rattle.spelling.proofs.terms.laws.worked_examples.Goals as goal

pub returns-clause-plus_one : goal.returns-clause-plus_one
unfolding digits type_named number_from digits_from head_named literal_at brackets_at cast_at extreme_at clamp_at choice_at row_at named_at word_at term_at compared_at denied_at both_at indices_at test_at within term_from
returns-clause-plus_one c = (refl, refl, refl)

pub returns-clause-clamped_load : goal.returns-clause-clamped_load
unfolding digits type_named number_from digits_from head_named literal_at brackets_at cast_at extreme_at clamp_at choice_at row_at named_at word_at term_at compared_at denied_at both_at indices_at test_at within term_from
returns-clause-clamped_load c = (refl, refl, refl)

pub returns-clause-chosen : goal.returns-clause-chosen
unfolding digits type_named number_from digits_from head_named literal_at brackets_at cast_at extreme_at clamp_at choice_at row_at named_at word_at term_at compared_at denied_at both_at indices_at test_at within term_from
returns-clause-chosen c = (refl, refl, refl)
