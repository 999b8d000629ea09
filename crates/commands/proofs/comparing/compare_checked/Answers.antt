use Rattle.std.proofs.Common.{◌∙◌, ap, sym, List, ℕ}
use Rattle.meaning.specs.Image.View.{Picture}
use Rattle.commands.proofs.Compared.{same_of}
use Rattle.commands.proofs.comparing.compare_checked.Goals as goal

pub returns-clause-picture : goal.returns-clause-picture
returns-clause-picture g c =
    let samples_in : Picture → List ℕ = λ p. p.samples in
    let same = ap samples_in (c.requires.picture ∙ sym c.in_ok-image.ensures.picture) in
    same_of _ _ _ same c.compared-comparison.ensures.differs
