-- That two pictures of one algorithm and one input do not differ.
use Rattle.std.proofs.Common.{◌≡◌, ap, refl, ℕ, List, slice_get}
use Rattle.commands.specs.declared.comparing.Comparison.{Comparison}
use Rattle.commands.specs.declared.comparing.Comparison.TheVariants.{Same, DiffersAt}
use Rattle.commands.specs.Pictures.{IsFirstDifference}

pub same_of : (r : Comparison) (xs ys : List ℕ) → xs ≡ ys → ((place : ℕ) → r ≡ DiffersAt place → IsFirstDifference place xs ys) → r ≡ Same
same_of Same xs ys e h = refl
same_of (DiffersAt place) xs ys e h = absurd ((h place refl).1 (ap (λ zs. slice_get zs place) e))
