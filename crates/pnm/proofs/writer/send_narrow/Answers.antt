use Rattle.std.proofs.Common.{sym, subst}
use Rattle.pnm.specs.Source.{Sends}
use Rattle.pnm.proofs.Sending.{bytes_stand}
use Rattle.pnm.proofs.writer.send_narrow.Goals as goal

pub returns-clause-bytes : goal.returns-clause-bytes
returns-clause-bytes g c =
    let old = g.S.Sink.contents c.args.sink.now in
    let new = g.S.Sink.contents c.send.new.self in
    subst (λ bytes. Sends old new bytes c.send.result) (sym (bytes_stand c.args.samples.now (λ i. (c.type_inv.samples i).fits))) c.send.ensures.bytes
