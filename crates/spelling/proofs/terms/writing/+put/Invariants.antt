use Rattle.std.proofs.Common.{◌≡◌, ◌++◌, take}
use Rattle.std.specs.Prelude.{string_bytes}
use Rattle.tree.specs.Term.{list_terms, indices}
use Rattle.spelling.specs.Terms.Spelling.{row_text}
use Rattle.spelling.proofs.terms.writing.+put.Given as goal

abbrev pub invariant-put_row-loop-i : goal.invariant-put_row-loop-i
invariant-put_row-loop-i l = string_bytes l.text ≡ string_bytes l.fn.text ++ row_text 0 (indices (list_terms (take l.i l.at)))
