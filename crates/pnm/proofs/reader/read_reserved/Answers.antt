use Rattle.std.proofs.Common.{arith}
use Rattle.pnm.proofs.InParts.{raster_ends, raster_fails, raster_file, raster_trails}
use Rattle.pnm.proofs.ByteByByte.{looks_byte, looks_end}
use Rattle.pnm.proofs.reader.read_reserved.Goals as goal

pub returns-in-Err-clause-refusal : goal.returns-in-Err-clause-refusal
returns-in-Err-clause-refusal g c w before bytes takes leads =
    let rest = g.S.Source.remaining in
    raster_ends w before (rest c.args.source.now) (rest c.loop-left.source) (rest c.read_part.new.source) bytes c.args.left c.loop-left.left c.args.samples.items c.loop-left.samples.items c.in-Err.e
    takes leads c.loop-left.invariant.0 c.loop-left-test.true c.in-Err.ensures.ends

pub returns-in-Ok-None-clause-file : goal.returns-in-Ok-None-clause-file
returns-in-Ok-None-clause-file g c w before bytes takes leads =
    let rest = g.S.Source.remaining in
    let ends = looks_end (rest c.loop-left.source) (rest c.next_byte.new.self) c.in-Ok-None.field-0 c.in-Ok-None.field-0-is c.in-Ok-None.ensures.bytes in
    raster_file w before (rest c.args.source.now) (rest c.loop-left.source) (rest c.next_byte.new.self) bytes c.args.left c.loop-left.left c.args.samples.items c.loop-left.samples.items
    takes leads c.loop-left.invariant.0 (omega arith) ends.0 ends.1

pub returns-in-Ok-Some-clause-refusal : goal.returns-in-Ok-Some-clause-refusal
returns-in-Ok-Some-clause-refusal g c w before bytes takes leads =
    let rest = g.S.Source.remaining in
    let byte = c.in-Ok-Some.field-0-0 in
    raster_trails w before (rest c.args.source.now) (rest c.loop-left.source) (rest c.next_byte.new.self) bytes c.args.left c.loop-left.left byte c.args.samples.items c.loop-left.samples.items
    takes leads c.loop-left.invariant.0 (omega arith) (looks_byte (rest c.loop-left.source) (rest c.next_byte.new.self) c.in-Ok-Some.field-0 byte c.in-Ok-Some.field-0-is c.in-Ok-Some.ensures.bytes)

pub returns-in-Err-next_byte-clause-refusal : goal.returns-in-Err-next_byte-clause-refusal
returns-in-Err-next_byte-clause-refusal g c w before bytes takes leads =
    let rest = g.S.Source.remaining in
    raster_fails w before (rest c.args.source.now) (rest c.loop-left.source) (rest c.next_byte.new.self) bytes c.args.left c.loop-left.left c.args.samples.items c.loop-left.samples.items c.in-Err-next_byte.e
    takes leads c.loop-left.invariant.0 c.in-Err-next_byte.ensures.bytes.0 c.in-Err-next_byte.ensures.bytes.1
