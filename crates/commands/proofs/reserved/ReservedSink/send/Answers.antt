use Rattle.std.proofs.Common.{take-append-drop, take, drop, refl, sym, arith}
use Rattle.std.proofs.lemmas.List.{length-drop}
use Rattle.commands.proofs.reserved.ReservedSink.send.Goals as goal

pub returns-then-fits-bytes-clause-bytes : goal.returns-then-fits-bytes-clause-bytes
returns-then-fits-bytes-clause-bytes c =
    let k = c.min-fits.result in
    let bytes = c.args.bytes.now in (refl, take k bytes, drop k bytes, sym (take-append-drop k bytes), omega (arith, length-drop k bytes, c.if-fits-bytes.true), c.in-Ok.ensures.items)
