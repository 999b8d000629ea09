use Rattle.std.proofs.Common.{◌≡◌, ◌-◌, length}
use Rattle.spelling.specs.Words.Reading.{terms_from}
use Rattle.spelling.proofs.words.reading.push_terms.Given as goal

abbrev pub invariant-loop : goal.invariant-loop
invariant-loop l = record {
  constant : l.form.constant ≡ l.fn.form.constant;
  so_far : terms_from (length l.text - l.counter) l.form.terms l.rest ≡ terms_from (length l.text) l.fn.form.terms l.text;
}
