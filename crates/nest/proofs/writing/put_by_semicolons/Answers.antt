use Rattle.std.specs.Prelude.{string_bytes}
use Rattle.spelling.proofs.Separated.{part_more}
use Rattle.nest.specs.Spelling.{place_text}
use Rattle.nest.proofs.writing.put_by_semicolons.Goals as goal

pub loop-i-preserved : goal.loop-i-preserved
loop-i-preserved c =
    part_more 59 place_text c.args.all.now c.loop-i.i c.index-all-i.result (string_bytes c.args.text.now) (string_bytes c.loop-i.text) (string_bytes c.put_separator.new.text) (string_bytes c.put_place.new.text)
    c.loop-i-test.true c.index-all-i.is c.loop-i.invariant c.in_ok-put_separator.ensures c.in_ok-put_place.ensures
