use Rattle.std.proofs.Common.{◌≡◌, ◌++◌, take}
use Rattle.std.specs.Prelude.{string_bytes}
use Rattle.spelling.specs.Words.Spelling.{separated_text, form_text}
use Rattle.spelling.proofs.words.writing.put_by_commas.Given as goal

abbrev pub invariant-loop-i : goal.invariant-loop-i
invariant-loop-i l = string_bytes l.text ≡ string_bytes l.fn.text ++ separated_text 44 form_text (take l.i l.forms)
