use Rattle.std.specs.Prelude.{string_bytes}
use Rattle.spelling.specs.Words.Spelling.{span_text}
use Rattle.spelling.proofs.Separated.{part_more}
use Rattle.spelling.proofs.words.writing.put_spans.Goals as goal

pub loop-i-preserved : goal.loop-i-preserved
loop-i-preserved c =
    part_more 59 span_text c.args.spans.now c.loop-i.i c.index-spans-i.result (string_bytes c.args.text.now) (string_bytes c.loop-i.text) (string_bytes c.put_separator.new.text) (string_bytes c.put_span.new.text)
    c.loop-i-test.true c.index-spans-i.is c.loop-i.invariant c.in_ok-put_separator.ensures c.in_ok-put_span.ensures
