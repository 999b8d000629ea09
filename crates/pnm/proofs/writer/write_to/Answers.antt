use Rattle.std.proofs.Common.{◌≡◌, ◌∙◌, ◌++◌, Err, subst, ap}
use Rattle.std.specs.List.{flat_map}
use Rattle.std.proofs.lemmas.Result.{err_from_is_err_and}
use Rattle.std.proofs.KnownBytes.{Appends-trans}
use Rattle.std.specs.Io.KnownBytes.{Appends}
use Rattle.meaning.specs.Image.View.{numbers as numbers_kept}
use Rattle.pnm.specs.Reading.{has_colours}
use Rattle.pnm.specs.Source.{Sends}
use Rattle.pnm.specs.Text.{magic, numbers, sample_bytes}
use Rattle.pnm.proofs.writer.write_to.Goals as goal
use Rattle.pnm.proofs.Sending.{sends_first, sends_both, sends_failed}

pub returns-in_err-send-clause-bytes : goal.returns-in_err-send-clause-bytes
returns-in_err-send-clause-bytes g c =
    let old = g.S.Sink.contents c.args.sink.now in
    let new = g.S.Sink.contents c.send.new.self in
    let e = c.in_err-send.field-0.0 in
    let image = c.args.image.now in
    let text : c.magic_of.result.now ≡ magic (has_colours image.extents.items) = c.magic_of.ensures ∙ ap magic (c.has_colours.ensures ∙ ap has_colours c.as_slice-extents.ensures.value) in
    let p = err_from_is_err_and c.from_residual.result c.from_residual.ensures.1 in
    let first = subst (λ xs. Sends old new xs (Err e)) text c.in_err-send.ensures.bytes in
    let start = magic (has_colours image.extents.items) in
    let header = numbers image.ty image.extents.items in
    sends_failed old new _ c.from_residual.result p.0 e p.1 p.2
    (sends_first old new (start ++ header) (flat_map (sample_bytes image.ty) (numbers_kept image.samples)) e (sends_first old new start header e first))

pub returns-in_err-send_numbers-clause-bytes : goal.returns-in_err-send_numbers-clause-bytes
returns-in_err-send_numbers-clause-bytes g c =
    let old = g.S.Sink.contents c.args.sink.now in
    let mid = g.S.Sink.contents c.send.new.self in
    let new = g.S.Sink.contents c.send_numbers.new.sink in
    let e = c.in_err-send_numbers.field-0.0 in
    let image = c.args.image.now in
    let text : c.magic_of.result.now ≡ magic (has_colours image.extents.items) = c.magic_of.ensures ∙ ap magic (c.has_colours.ensures ∙ ap has_colours c.as_slice-extents.ensures.value) in
    let p = err_from_is_err_and c.from_residual-in_err-send_numbers.result c.from_residual-in_err-send_numbers.ensures.1 in
    let first = subst (λ xs. Appends old mid xs) text c.in_ok-send.ensures.bytes in
    let second = subst (λ xs. Sends mid new (numbers image.ty xs) (Err e)) c.as_slice-extents.ensures.value c.in_err-send_numbers.ensures.bytes in
    let start = magic (has_colours image.extents.items) in
    let header = numbers image.ty image.extents.items in
    sends_failed old new _ c.from_residual-in_err-send_numbers.result p.0 e p.1 p.2
    (sends_first old new (start ++ header) (flat_map (sample_bytes image.ty) (numbers_kept image.samples)) e (sends_both old mid new start header (Err e) first second))

pub returns-clause-bytes : goal.returns-clause-bytes
returns-clause-bytes g c =
    let old = g.S.Sink.contents c.args.sink.now in
    let mid = g.S.Sink.contents c.send.new.self in
    let later = g.S.Sink.contents c.send_numbers.new.sink in
    let new = g.S.Sink.contents c.send_raster.new.sink in
    let r = c.send_raster.result in
    let image = c.args.image.now in
    let text : c.magic_of.result.now ≡ magic (has_colours image.extents.items) = c.magic_of.ensures ∙ ap magic (c.has_colours.ensures ∙ ap has_colours c.as_slice-extents.ensures.value) in
    let first = subst (λ xs. Appends old mid xs) text c.in_ok-send.ensures.bytes in
    let second = subst (λ xs. Appends mid later (numbers image.ty xs)) c.as_slice-extents.ensures.value c.in_ok-send_numbers.ensures.bytes in
    let third = c.send_raster.ensures.bytes in
    let start = magic (has_colours image.extents.items) in
    let header = numbers image.ty image.extents.items in
    sends_both old later new (start ++ header) (flat_map (sample_bytes image.ty) (numbers_kept image.samples)) r (Appends-trans old mid later start header first second) third
