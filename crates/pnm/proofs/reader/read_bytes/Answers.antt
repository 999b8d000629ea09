use Rattle.std.proofs.Common.{ap, sym, ◌∙◌}
use Rattle.pnm.specs.Reading.{in_raster, Going}
use Rattle.pnm.proofs.reader.read_bytes.Goals as goal

pub returns-in-Ok-clause-file : goal.returns-in-Ok-clause-file
returns-in-Ok-clause-file g c w before bytes takes leads =
    c.read_reserved.ensures.file w before bytes takes (leads ∙ ap (Going (in_raster c.args.count)) (sym c.in-Ok.ensures.items))

pub returns-in-Ok-clause-refusal : goal.returns-in-Ok-clause-refusal
returns-in-Ok-clause-refusal g c w before bytes takes leads =
    c.read_reserved.ensures.refusal w before bytes takes (leads ∙ ap (Going (in_raster c.args.count)) (sym c.in-Ok.ensures.items))

pub returns-in-Err-clause-refusal : goal.returns-in-Err-clause-refusal
returns-in-Err-clause-refusal g c w before bytes takes leads = (bytes, takes)
