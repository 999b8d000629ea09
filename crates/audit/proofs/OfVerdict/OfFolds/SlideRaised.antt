-- The plan whose buffer slides, with more rows than are read.
use Rattle.std.proofs.Common.{◌≡◌, ℕ, zero, suc, ◌+◌, ◌*◌, ◌≤◌, ◌^◌, true, [], ◌∷◌, ◌++◌, Some, refl, subst, arith}
use Rattle.std.specs.Prelude.{◌&&◌, nat_le, pos, slice_get}
use Rattle.std.proofs.lemmas.Bool.{le-leb}
use Rattle.plan.specs.Plan.{Group}
use Rattle.soundness.specs.Outline.Flaws.{unless}
use Rattle.validation.specs.Groups.Lines.{flaws_of_groups}
use Rattle.validation.specs.Groups.Sizes.{more}
use Rattle.validation.specs.Stored.Sizes.{counted}
use Rattle.audit.specs.Verdict.Examples.Slide.{group_of, plan_of, slide, slides}
use Rattle.audit.specs.Verdict.Folds.{IsRaised, is_near_binder, is_small_form}
use Rattle.audit.specs.Verdict.Raised.{HasFolds, HasForms, HasSmallForms, SlideStaysAccepted}
use Rattle.audit.proofs.OfVerdict.OfFolds.Search.{alike_little}
use Rattle.audit.proofs.OfVerdict.OfFolds.Tests.{both}
use Rattle.audit.proofs.OfVerdict.OfFolds.Plans.{raised_are_accepted}
use Rattle.audit.proofs.OfVerdict.SlidePlan.{slide_accepted}

raised_by : (k : ℕ) → IsRaised (plan_of 3 (pos 1)) (slides 3) (plan_of (3 + k) (pos 1)) (slides (3 + k))
raised_by k = record { more = λ g b d. k; plan = refl; certificate = refl }

-- the one group
forms : HasForms (is_near_binder (λ i. 4095)) is_small_form (slides 3) (group_of 3 (pos 1))
forms = record { grid = refl; body = refl; certificate = refl }

folds : (m : ℕ) → m ≤ 2 ^ 22 → HasFolds (2 ^ 22) (slides m) (group_of m (pos 1))
folds m h =
    let few = le-leb m (2 ^ 22) h in
    record { body = both (nat_le m (2 ^ 22) && true) true (both (nat_le m (2 ^ 22)) true few refl) refl; windows = both (nat_le m (2 ^ 22)) true few refl }

only_one : (P : ℕ → Group → Type 0) (x : Group) → P 0 x → (n : ℕ) (g : Group) → slice_get (x ∷ []) n ≡ Some g → P n g
only_one P x h zero g e = let same : x ≡ g = cc e in subst (P 0) same h
only_one P x h (suc n) g e = absurd (cc e)

small : (m : ℕ) → m ≤ 2 ^ 22 → HasSmallForms (plan_of 3 (pos 1)) (slides 3) (plan_of m (pos 1)) (slides m)
small m h n g x here there = record {
  most = λ i. 4095;
  little = alike_little;
  forms = only_one (λ n g. HasForms (is_near_binder (λ i. 4095)) is_small_form (slides 3) g) (group_of 3 (pos 1)) forms n g here;
  folds = only_one (λ n g. HasFolds (2 ^ 22) (slides m) g) (group_of m (pos 1)) (folds m h) n x there;
}

no_flaw : (m : ℕ) → 1 ≤ m → 4 * m + 16 ≤ 2 ^ 22 → flaws_of_groups slide (plan_of m (pos 1)) (slides m) ≡ []
no_flaw m one few =
    let foldable = le-leb 1 m one in
    let places = le-leb (more 16 (counted (4 * (m * 1)))) (2 ^ 22) (omega (arith, few)) in
    λ j. (unless ((foldable j && true) && (places j && true)) 14 6 ++ []) ++ []

pub slide_stays_accepted : SlideStaysAccepted
slide_stays_accepted k h =
    raised_are_accepted slide (plan_of 3 (pos 1)) (slides 3) (plan_of (3 + k) (pos 1)) (slides (3 + k)) (raised_by k) slide_accepted.accepted
    (small (3 + k) (omega (arith, h))) (no_flaw (3 + k) (omega arith) (omega (arith, h)))
