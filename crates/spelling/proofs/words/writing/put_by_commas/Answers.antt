use Rattle.std.specs.Prelude.{string_bytes}
use Rattle.spelling.specs.Words.Spelling.{form_text}
use Rattle.spelling.proofs.Separated.{part_more}
use Rattle.spelling.proofs.words.writing.put_by_commas.Goals as goal

pub loop-i-preserved : goal.loop-i-preserved
loop-i-preserved c =
    part_more 44 form_text c.args.forms.now c.loop-i.i c.index-forms-i.result (string_bytes c.args.text.now) (string_bytes c.loop-i.text) (string_bytes c.put_separator.new.text) (string_bytes c.put_form.new.text)
    c.loop-i-test.true c.index-forms-i.is c.loop-i.invariant c.in_ok-put_separator.ensures c.in_ok-put_form.ensures
