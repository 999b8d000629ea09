use Rattle.pnm.proofs.writer.send_numbers.Goals as goal
use Rattle.std.proofs.Common.{◌∷◌, [], ◌++◌, Err, subst, decimal}
use Rattle.std.proofs.lemmas.Result.{err_from_is_err_and}
use Rattle.std.proofs.KnownBytes.{Appends-trans}
use Rattle.std.specs.Io.KnownBytes.{Appends}
use Rattle.meaning.specs.Image.View.{max_sample}
use Rattle.pnm.specs.Reading.{width_of, height_of}
use Rattle.pnm.specs.Source.{Sends}
use Rattle.pnm.proofs.Sending.{sends_first, sends_both, sends_failed}

pub returns-in_err-send_number-clause-bytes : goal.returns-in_err-send_number-clause-bytes
returns-in_err-send_number-clause-bytes g c =
    let old = g.S.Sink.contents c.args.sink.now in
    let new = g.S.Sink.contents c.send_number.new.sink in
    let e = c.in_err-send_number.field-0.0 in
    let width = decimal (width_of c.args.extents.now) ++ 32 ∷ [] in
    let height = decimal (height_of c.args.extents.now) ++ 10 ∷ [] in
    let max = decimal (max_sample c.args.ty) ++ 10 ∷ [] in
    let p = err_from_is_err_and c.from_residual.result c.from_residual.ensures.1 in
    let first = subst (λ n. Sends old new (decimal n ++ 32 ∷ []) (Err e)) c.width_of.ensures c.in_err-send_number.ensures.bytes in
    sends_failed old new _ c.from_residual.result p.0 e p.1 p.2 (sends_first old new (width ++ height) max e (sends_first old new width height e first))

pub returns-in_err-send_number-2-clause-bytes : goal.returns-in_err-send_number-2-clause-bytes
returns-in_err-send_number-2-clause-bytes g c =
    let old = g.S.Sink.contents c.args.sink.now in
    let mid = g.S.Sink.contents c.send_number.new.sink in
    let new = g.S.Sink.contents c.send_number-2.new.sink in
    let e = c.in_err-send_number-2.field-0.0 in
    let width = decimal (width_of c.args.extents.now) ++ 32 ∷ [] in
    let height = decimal (height_of c.args.extents.now) ++ 10 ∷ [] in
    let max = decimal (max_sample c.args.ty) ++ 10 ∷ [] in
    let p = err_from_is_err_and c.from_residual-in_err-send_number-2.result c.from_residual-in_err-send_number-2.ensures.1 in
    let first = subst (λ n. Appends old mid (decimal n ++ 32 ∷ [])) c.width_of.ensures c.in_ok-send_number.ensures.bytes in
    let second = subst (λ n. Sends mid new (decimal n ++ 10 ∷ []) (Err e)) c.height_of.ensures c.in_err-send_number-2.ensures.bytes in
    sends_failed old new _ c.from_residual-in_err-send_number-2.result p.0 e p.1 p.2 (sends_first old new (width ++ height) max e (sends_both old mid new width height (Err e) first second))

pub returns-clause-bytes : goal.returns-clause-bytes
returns-clause-bytes g c =
    let old = g.S.Sink.contents c.args.sink.now in
    let mid = g.S.Sink.contents c.send_number.new.sink in
    let later = g.S.Sink.contents c.send_number-2.new.sink in
    let new = g.S.Sink.contents c.send_number-3.new.sink in
    let r = c.send_number-3.result in
    let width = decimal (width_of c.args.extents.now) ++ 32 ∷ [] in
    let height = decimal (height_of c.args.extents.now) ++ 10 ∷ [] in
    let max = decimal (max_sample c.args.ty) ++ 10 ∷ [] in
    let first = subst (λ n. Appends old mid (decimal n ++ 32 ∷ [])) c.width_of.ensures c.in_ok-send_number.ensures.bytes in
    let second = subst (λ n. Appends mid later (decimal n ++ 10 ∷ [])) c.height_of.ensures c.in_ok-send_number-2.ensures.bytes in
    let third = subst (λ n. Sends later new (decimal n ++ 10 ∷ []) r) c.max_sample.ensures c.send_number-3.ensures.bytes in
    sends_both old later new (width ++ height) max r (Appends-trans old mid later width height first second) third
