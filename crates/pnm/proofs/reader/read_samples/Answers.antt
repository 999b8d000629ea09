use Rattle.std.proofs.Common.{ap, sym, ◌∙◌, ◌||◌, false, []}
use Rattle.pnm.specs.Reading.{in_raster}
use Rattle.pnm.proofs.reader.read_samples.Goals as goal
use Rattle.pnm.proofs.ByteByByte.{begins, has_read_more, looks_byte, looks_end, refuses_byte, refuses_end, refuses_device}

pub returns-in-Err-take_byte-clause-refusal : goal.returns-in-Err-take_byte-clause-refusal
returns-in-Err-take_byte-clause-refusal g c =
    refuses_byte c.args.wanted.now (g.S.Source.remaining c.args.source.now) (g.S.Source.remaining c.loop-turn.source) (g.S.Source.remaining c.next_byte.new.self)
    c.loop-turn.turn c.in-Ok-Some.byte c.loop-turn.state c.loop-turn.samples.items c.in-Err-take_byte.e c.loop-turn.invariant.0 (looks_byte (g.S.Source.remaining c.loop-turn.source) (g.S.Source.remaining c.next_byte.new.self) c.in-Ok-Some.field-0 c.in-Ok-Some.byte c.in-Ok-Some.field-0-is c.in-Ok-Some.ensures.bytes) c.in-Err-take_byte.ensures

pub returns-in-Err-take_end-clause-refusal : goal.returns-in-Err-take_end-clause-refusal
returns-in-Err-take_end-clause-refusal g c =
    let ends = looks_end (g.S.Source.remaining c.loop-turn.source) (g.S.Source.remaining c.next_byte.new.self) c.in-Ok-None.field-0 c.in-Ok-None.field-0-is c.in-Ok-None.ensures.bytes in
    refuses_end c.args.wanted.now (g.S.Source.remaining c.args.source.now) (g.S.Source.remaining c.loop-turn.source) (g.S.Source.remaining c.next_byte.new.self)
    c.loop-turn.turn c.loop-turn.state c.loop-turn.samples.items c.in-Err-take_end.e c.loop-turn.invariant.0 ends.0 ends.1 c.in-Err-take_end.ensures

pub returns-in-Err-next_byte-clause-refusal : goal.returns-in-Err-next_byte-clause-refusal
returns-in-Err-next_byte-clause-refusal g c =
    refuses_device c.args.wanted.now (g.S.Source.remaining c.args.source.now) (g.S.Source.remaining c.loop-turn.source) (g.S.Source.remaining c.next_byte.new.self)
    c.loop-turn.turn c.loop-turn.state c.loop-turn.samples.items c.in-Err-next_byte.e c.loop-turn.invariant.0 c.in-Err-next_byte.ensures.bytes.0 c.in-Err-next_byte.ensures.bytes.1

pub loop-turn-preserved : goal.loop-turn-preserved
loop-turn-preserved g c = (
  has_read_more c.args.wanted.now (g.S.Source.remaining c.args.source.now) (g.S.Source.remaining c.loop-turn.source) (g.S.Source.remaining c.next_byte.new.self)
      c.loop-turn.turn c.in-Ok-Some.byte c.loop-turn.state c.in-Ok-take_byte.next c.loop-turn.samples.items c.take_byte.new.samples.items c.loop-turn.invariant.0 (looks_byte (g.S.Source.remaining c.loop-turn.source) (g.S.Source.remaining c.next_byte.new.self) c.in-Ok-Some.field-0 c.in-Ok-Some.byte c.in-Ok-Some.field-0-is c.in-Ok-Some.ensures.bytes) c.in-Ok-take_byte.ensures,
  c.in-Ok-Some.ensures.failure ∙ ap (λ b. b || false) c.loop-turn.invariant.1,
  c.in-Ok-Some.ensures.same ∙ c.loop-turn.invariant.2,
)

pub returns-in-Some-clause-file : goal.returns-in-Some-clause-file
returns-in-Some-clause-file g c =
    let read = c.loop-turn.invariant.0 in
    c.read_bytes.ensures.file c.args.wanted.now (g.S.Source.remaining c.args.source.now) read.bytes read.takes
    (read.leads ∙ begins c.loop-turn.state (in_raster c.in-Some.count) c.loop-turn.samples.items [] c.in-Some.ensures.0 (sym c.as_slice.ensures.value ∙ c.in-Some.ensures.1))

pub returns-in-Some-clause-refusal : goal.returns-in-Some-clause-refusal
returns-in-Some-clause-refusal g c =
    let read = c.loop-turn.invariant.0 in
    c.read_bytes.ensures.refusal c.args.wanted.now (g.S.Source.remaining c.args.source.now) read.bytes read.takes
    (read.leads ∙ begins c.loop-turn.state (in_raster c.in-Some.count) c.loop-turn.samples.items [] c.in-Some.ensures.0 (sym c.as_slice.ensures.value ∙ c.in-Some.ensures.1))
