use Rattle.std.proofs.Common.{get_or}
use Rattle.std.specs.Prelude.{string_bytes}
use Rattle.spelling.specs.Words.Spelling.{count_text}
use Rattle.spelling.proofs.Separated.{item_is, part_more}
use Rattle.spelling.proofs.sizes.writing.put_by_commas.Goals as goal

pub loop-i-preserved : goal.loop-i-preserved
loop-i-preserved c =
    part_more 44 count_text c.args.sizes.now c.loop-i.i (get_or c.args.sizes.now c.loop-i.i 0) (string_bytes c.args.text.now) (string_bytes c.loop-i.text) (string_bytes c.put_separator.new.text) (string_bytes c.put_size.new.text)
    c.loop-i-test.true (item_is c.args.sizes.now c.loop-i.i 0 c.loop-i-test.true) c.loop-i.invariant c.in_ok-put_separator.ensures c.in_ok-put_size.ensures
