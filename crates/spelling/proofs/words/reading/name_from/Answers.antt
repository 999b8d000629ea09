use Rattle.std.proofs.Common.{sym, subst, ◌∙◌}
use Rattle.std.specs.Str.{IsUtf8}
use Rattle.spelling.proofs.WordsWords.{word_is_utf8}
use Rattle.spelling.proofs.words.reading.name_from.Goals as goal

pub returns-clause-name : goal.returns-clause-name
returns-clause-name c = c.in_ok-from_utf8_lossy.ensures.ok (subst IsUtf8 (sym c.word_from.ensures.word) (word_is_utf8 c.args.text.now)) ∙ c.word_from.ensures.word
