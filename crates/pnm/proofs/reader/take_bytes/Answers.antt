use Rattle.std.proofs.Common.{◌-◌, length, ap, ◌∙◌, sym, arith}
use Rattle.pnm.specs.Reading.{in_raster, Going}
use Rattle.pnm.proofs.InParts.{bytes_taken}
use Rattle.pnm.proofs.reader.take_bytes.Goals as goal

pub returns-clause-leads : goal.returns-clause-leads
returns-clause-leads c w =
    let bytes = c.args.bytes.now in
    let samples = c.args.samples.now.items in
    bytes_taken w c.args.left (c.args.left - length bytes) samples bytes (λ i. (c.type_inv.bytes i).fits) (omega (arith, c.requires.few))
    ∙ ap (Going (in_raster (c.args.left - length bytes))) (sym c.in-Ok.ensures.items)
