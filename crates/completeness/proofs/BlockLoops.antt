-- Names of variables and of reduction variables: they differ.
use Rattle.std.proofs.Common.{◌≡◌, ℕ, zero, suc, ◌+◌, List, [], ◌∷◌, length, Some, refl, sym, ap, ◌∙◌, inl, inr, arith}
use Rattle.std.proofs.Common.{◌++◌}
use Rattle.std.specs.Prelude.{slice_get}
use Rattle.std.proofs.lemmas.Option.{slice_get_within}
use Rattle.meaning.specs.Algorithm.{Change, Range}
use Rattle.meaning.specs.Conditions.{AreDistinct}
use Rattle.soundness.specs.Claims.{In}
use Rattle.headline.proofs.Lists.{at_left, at_right}
use Rattle.sched.specs.Subjects.{reductions_of}
use Rattle.sched.proofs.Leading.{in_right, in_left}
use Rattle.sched.specs.Around.{range_names, ranges_of}

-- ---- names

in_at : (xs : List (List ℕ)) (x : List ℕ) → In x xs → (j : ℕ) × (slice_get xs j ≡ Some x)
in_at [] x m = absurd m
in_at (y ∷ xs) x (inl e) = (0, ap (λ (z : List ℕ). Some z) (sym e))
in_at (y ∷ xs) x (inr m) = (let r = in_at xs x m in (suc r.0, r.1))

-- distinct names in one list and in another behind it
pub names_apart : (xs ys : List (List ℕ)) → AreDistinct (xs ++ ys) → (x y : List ℕ) → In x xs → In y ys → y ≡ x → ⊥
names_apart xs ys distinct x y mx my e =
    let i = in_at xs x mx in
    let j = in_at ys y my in
    let less = slice_get_within xs i.0 x i.1 in
    let there : slice_get (xs ++ ys) (length xs + j.0) ≡ Some x = at_right xs ys (length xs + j.0) j.0 refl ∙ j.1 ∙ ap (λ (z : List ℕ). Some z) e in
    let same_place = distinct i.0 (length xs + j.0) x (at_left xs ys i.0 x i.1) there in
    absurd (omega (arith, less, same_place))

-- each reduction variable is among those of all updates
pub in_all : (us : List Change) (d : ℕ) (x : List ℕ) → In x (range_names (ranges_of us d)) → In x (reductions_of us)
in_all us zero x m = absurd m
in_all [] (suc k) x m = absurd m
in_all (u ∷ us) (suc zero) x m = in_left x (range_names u.ranges) (reductions_of us) m
in_all (u ∷ us) (suc (suc k)) x m = in_right x (range_names u.ranges) (reductions_of us) (in_all us (suc k) x m)

pub in_names : (ds : List Range) (r : Range) → In r ds → In r.variable (range_names ds)
in_names [] r m = absurd m
in_names (d ∷ ds) r (inl e) = inl (ap (λ (x : Range). x.variable) e)
in_names (d ∷ ds) r (inr m) = inr (in_names ds r m)
