use Rattle.std.proofs.Common.{IsTrue, false, refl}
use Rattle.meaning.specs.Image.View.{IsSampleType}
use Rattle.algo.proofs.Placed.{sampleless}
use Rattle.algo.proofs.file.read_output.Goals as goal

pub returns-then-not-is_sample_type-clause-place : goal.returns-then-not-is_sample_type-clause-place
returns-then-not-is_sample_type-clause-place c =
    let tested : IsSampleType c.in-Some.ty → IsTrue false = c.if-not-is_sample_type.ensures.1 in
    (sampleless _ c.in-Some.ty c.in-Some.count (rw c.as_str.ensures.value at c.in-Some.ensures) (λ s. let no : IsTrue false = tested s in cc), refl)
