use Rattle.std.proofs.Common.{◌≡◌, ◌++◌, take}
use Rattle.std.specs.Prelude.{string_bytes}
use Rattle.std.specs.List.{flat_map}
use Rattle.spelling.specs.Words.Spelling.{number_text, term_text}
use Rattle.spelling.proofs.words.writing.put_form.Given as goal

abbrev pub invariant-loop-term : goal.invariant-loop-term
invariant-loop-term l = string_bytes l.text ≡ string_bytes l.fn.text ++ (number_text l.form.constant ++ flat_map term_text (take l.term-index l.term-items))
