-- One binder more, the innermost.
use Rattle.std.proofs.Common.{◌≡◌, ℕ, suc, ◌+◌, ◌<◌, List, [], ◌∷◌, ◌++◌, length, take, get_or, refl, ap, ◌∙◌, arith}
use Rattle.std.specs.Prelude.{if◌then◌else◌, max}
use Rattle.std.proofs.Math.Seq.{take-suc}
use Rattle.soundness.specs.Binders.View.{binder_of, binders_of}
use Rattle.soundness.specs.declared.binders.binder.Binder.{Binder}
use Rattle.soundness.specs.declared.binders.binder.Binder.TheVariants.{Grid, Ranged, Picked, Passed}
use Rattle.rules.specs.Bounding.Held.{binds, told_by, end_of}
use Rattle.rules.specs.Bounding.Scopes.{binding_of, symbol_count}

one_more : (bs : List Binder) (b : Binder) → binders_of (bs ++ b ∷ []) ≡ binder_of b ∷ binders_of bs
one_more [] b = refl
one_more (x ∷ bs) b = ap (λ r. r ++ binder_of x ∷ []) (one_more bs b)

first_more : (bs : List Binder) (k : ℕ) (b : Binder) → k < length bs → get_or bs k b ≡ b → binders_of (take (k + 1) bs) ≡ binder_of b ∷ binders_of (take k bs)
first_more bs k b h e =
    let next : k + 1 ≡ suc k = omega arith in
    ap (λ n. binders_of (take n bs)) next ∙ ap binders_of (take-suc bs k b h ∙ ap (λ x. take k bs ++ x ∷ []) e) ∙ one_more (take k bs) b

told_one : (b : Binder) (bs : List Binder) (i : ℕ) → binding_of (binder_of b ∷ binders_of bs) i ≡ (if binds b i then told_by b else binding_of (binders_of bs) i)
told_one (Grid j n) bs i = refl
told_one (Ranged j x) bs i = refl
told_one (Picked j pick ls) bs i = refl
told_one (Passed low high) bs i = refl

-- what the innermost of the first binders tells of a symbol
pub told_more : (bs : List Binder) (k : ℕ) (b : Binder) (i : ℕ) → k < length bs → get_or bs k b ≡ b →
    binding_of (binders_of (take (k + 1) bs)) i ≡ (if binds b i then told_by b else binding_of (binders_of (take k bs)) i)
told_more bs k b i h e = ap (λ r. binding_of r i) (first_more bs k b h e) ∙ told_one b (take k bs) i

count_one : (b : Binder) (bs : List Binder) → symbol_count (binder_of b ∷ binders_of bs) ≡ max (symbol_count (binders_of bs)) (end_of b)
count_one (Grid j n) bs = refl
count_one (Ranged j x) bs = refl
count_one (Picked j pick ls) bs = refl
count_one (Passed low high) bs = omega arith

-- how many symbols the first binders make
pub count_more : (bs : List Binder) (k : ℕ) (b : Binder) → k < length bs → get_or bs k b ≡ b → symbol_count (binders_of (take (k + 1) bs)) ≡ max (symbol_count (binders_of (take k bs))) (end_of b)
count_more bs k b h e = ap symbol_count (first_more bs k b h e) ∙ count_one b (take k bs)
