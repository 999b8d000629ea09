use Rattle.std.proofs.Common.{◌∙◌, ◌≡◌, [], Some, Ok, ap, drop, subst, sym}
use Rattle.std.proofs.KnownBytes.{Consumes-nil}
use Rattle.meaning.specs.Image.View.{shape_of}
use Rattle.pnm.specs.Reading.{reading, wanted_of}
use Rattle.pnm.proofs.whole.read_whole.Goals as goal

pub returns-in-Ok-clause-file : goal.returns-in-Ok-clause-file
returns-in-Ok-clause-file c =
    let w = wanted_of (shape_of c.args.shape.now) in
    let at = c.in-Some.at in
    let found : reading w c.as_slice.result.now ≡ Ok (drop at c.as_slice.result.now) =
    subst (λ v. reading v c.as_slice.result.now ≡ Ok (drop at c.as_slice.result.now)) c.wanted.ensures c.in-Some.ensures.1 in
    subst (λ bytes. reading w bytes ≡ Ok (drop at bytes)) c.as_slice.ensures.value found ∙ ap Ok (sym c.from_place.ensures)

pub returns-in-Err-clause-refusal : goal.returns-in-Err-clause-refusal
returns-in-Err-clause-refusal c = (Some c.args.bytes.items, ([], Consumes-nil (Some c.args.bytes.items)))
