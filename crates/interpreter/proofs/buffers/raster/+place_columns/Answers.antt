use Rattle.std.proofs.Common.{arith}
use Rattle.interpreter.specs.PlaceNumbers.{place_at}
use Rattle.interpreter.proofs.FoundRuns.{if_some}
use Rattle.interpreter.proofs.PlaceNumbers.{lies_column, lies_only_column}
use Rattle.interpreter.proofs.buffers.raster.+place_columns.Goals as goal

pub returns-in_ok-place_columns-in-len1-up : goal.returns-in_ok-place_columns-in-len1-up
returns-in_ok-place_columns-in-len1-up t c =
    let some = c.in-len1-up.len_at_least in
    if_some c.place_column.result _ _
    (λ _ h k lt.
    lies_column c.args.rooms.now _ c.args.count k (place_at c.place_columns.new.places k) (place_at c.place_column.new.places k) c.args.registers.now
    c.registers_behind.result.now (omega (arith, some)) c.registers_behind.ensures (h k lt) (c.in_ok-place_columns-in-len1-up.ensures k lt))
    c.place_column.ensures

pub returns-in-len1 : goal.returns-in-len1
returns-in-len1 t c =
    let from = c.in-len1.len_at_least in
    let to = c.in-len1.len_below in
    if_some c.begin_column.result _ _
    (λ _ h k lt.
    lies_only_column c.args.rooms.now _ c.args.count k (place_at c.begin_column.new.places k) c.args.registers.now (omega (arith, from, to)) (h k lt))
    c.begin_column.ensures
