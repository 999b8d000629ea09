-- Tests of lists, and the same said of each element.
use Rattle.std.proofs.Common.{◌≡◌, ℕ, suc, List, [], ◌∷◌, Bool, true, Some, refl, arith, ◌≤◌, ◌<◌}
use Rattle.std.specs.Prelude.{◌&&◌, nat_le, nat_lt, IsTrue, slice_get}
use Rattle.std.specs.List.{list_all, AllByRecursion}
use Rattle.std.proofs.lemmas.Bool.Decides.{nat_tests}
use Rattle.std.proofs.lemmas.List.Elements.{All-from_recursion}
use Rattle.lin.specs.Forms.{Form, is_within_limits}
use Rattle.lin.specs.declared.span.Span1.{Span1}
use Rattle.soundness.proofs.Refines.{and_parts}
use Rattle.soundness.specs.Outline.Forms.{are_within_limits, spans_are_within_limits}
use Rattle.shares.specs.Boxes.{AreLimited, IsLimited}

pub le_true : (m n : ℕ) → nat_le m n ≡ true → m ≤ n
le_true m n h = grind (arith, nat_tests, h)

pub lt_true : (m n : ℕ) → nat_lt m n ≡ true → m < n
lt_true m n h = grind (arith, nat_tests, h)

pub each : {A : Type 0} (f : A → Bool) (P : A → Type 0) → ((x : A) → f x ≡ true → P x) → (xs : List A) → list_all f xs ≡ true → AllByRecursion P xs
each f P step [] h = tt
each f P step (x ∷ xs) h = let k = and_parts (f x) (list_all f xs) h in (step x k.0, each f P step xs k.1)

pub forms_limited : (fs : List Form) → are_within_limits fs ≡ true → AreLimited fs
forms_limited fs h = All-from_recursion (λ f. IsTrue (is_within_limits f)) fs (each is_within_limits (λ f. IsTrue (is_within_limits f)) (λ f e. e) fs h)

pub spans_limited : (xs : List Span1) → spans_are_within_limits xs ≡ true → IsLimited xs
spans_limited xs h =
    All-from_recursion (λ x. AreLimited x.lower × AreLimited x.upper) xs
    (each (λ x. are_within_limits x.lower && are_within_limits x.upper) (λ x. AreLimited x.lower × AreLimited x.upper)
    (λ x e. let k = and_parts (are_within_limits x.lower) (are_within_limits x.upper) e in (forms_limited x.lower k.0, forms_limited x.upper k.1)) xs h)

-- a list of which each element that is looked up has a property
pub looked_up : {A : Type 0} (P : A → Type 0) (xs : List A) → ((i : ℕ) (x : A) → slice_get xs i ≡ Some x → P x) → AllByRecursion P xs
looked_up P [] h = tt
looked_up P (x ∷ xs) h = (h 0 x refl, looked_up P xs (λ i y e. h (suc i) y e))
