-- Letters, digits and `_` are UTF-8.
use Rattle.std.proofs.Common.{ℕ, List}
use Rattle.std.specs.Str.{IsUtf8}
use Rattle.std.proofs.lemmas.Str.{IsUtf8-from_ascii}
use Rattle.tree.proofs.Fronts.{word_is_ascii, front_passes}
use Rattle.tree.specs.Token.Spelling.{is_word_byte}
use Rattle.spelling.specs.Words.Reading.{name_from}

pub word_is_utf8 : (text : List ℕ) → IsUtf8 (name_from text).0
word_is_utf8 text = IsUtf8-from_ascii (name_from text).0 (word_is_ascii (name_from text).0 (front_passes is_word_byte text))
