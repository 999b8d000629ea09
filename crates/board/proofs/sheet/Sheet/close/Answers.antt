use Rattle.std.proofs.Common.{◌≡◌, ◌<◌, ◌∙◌, ℕ, List, ap, subst, sym}
use Rattle.board.specs.Kept.{all_bits, planes_of}
use Rattle.board.specs.Layout.{pieces_of}
use Rattle.board.specs.Sheets.{IsPut}
use Rattle.board.proofs.sheet.Sheet.close.Goals as goal

pub shown_samples-samples-requires-clause-put : goal.shown_samples-samples-requires-clause-put
shown_samples-samples-requires-clause-put g c =
    let s = c.self.inside in
    let is : all_bits (planes_of s.kept) c.as_slice.result.now s.samples.items ≡ c.args.self =
    ap (λ (bits : List ℕ). all_bits (planes_of s.kept) bits s.samples.items) c.as_slice.ensures.value ∙ c.self.view_is in
    subst (λ (bs : List ℕ). (j : ℕ) → j < pieces_of g.J.Run.layout → IsPut g.J.Run.layout g.J.Run.values bs j) (sym is) c.requires
