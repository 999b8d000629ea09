-- Groups by their functions.
use Rattle.std.proofs.Common.{◌≡◌, ℕ, zero, suc, ◌+◌, ◌<◌, List, [], ◌∷◌, length, get_or, arith, ap, refl, sym, ◌∙◌, subst, inl, inr}
use Rattle.std.specs.Prelude.{map, ◌⊎◌}
use Rattle.std.proofs.lemmas.List.{get_or-map}
use Rattle.plan.specs.declared.plan.Group.{Group as GroupHeld}
use Rattle.plan.specs.Plan.{Group}
use Rattle.plan.specs.View.{group_of}
use Rattle.audit.specs.Stand.{IsGroupOf}

pub before_or_at : (k n : ℕ) → k < n + 1 → (k < n) ⊎ (k ≡ n)
before_or_at zero zero h = inr refl
before_or_at zero (suc n) h = inl (omega arith)
before_or_at (suc k) zero h = absurd (omega (arith, h))
before_or_at (suc k) (suc n) h = elim (before_or_at k n (omega (arith, h))) [ inl less ↦ inl (omega (arith, less)) | inr e ↦ inr (ap suc e) ]

-- none of the first n groups is of the function
abbrev pub NoneIsOf : List GroupHeld → List ℕ → ℕ → Type 0
NoneIsOf xs f n = (k : ℕ) (d : Group) → k < n → ¬ ((get_or (map group_of xs) k d).function ≡ f)

read_at : (xs : List GroupHeld) (n : ℕ) (x : GroupHeld) (d : Group) → n < length xs → x ≡ get_or xs n x → get_or (map group_of xs) n d ≡ group_of x
read_at xs n x d less is = get_or-map group_of xs n x d less ∙ ap group_of (sym is)

pub is_here : (xs : List GroupHeld) (n : ℕ) (x : GroupHeld) (f : List ℕ) → n < length xs → x ≡ get_or xs n x → (group_of x).function ≡ f → IsGroupOf (map group_of xs) f n
is_here [] n x f less is e = absurd (omega (arith, less))
is_here (y ∷ ys) zero x f less is e = subst (λ (z : GroupHeld). (group_of z).function ≡ f) is e
is_here (y ∷ ys) (suc n) x f less is e = is_here ys n x f (omega (arith, less)) is e

pub none_more : (xs : List GroupHeld) (n : ℕ) (x : GroupHeld) (f : List ℕ) → n < length xs → x ≡ get_or xs n x → ¬ ((group_of x).function ≡ f) → NoneIsOf xs f n → NoneIsOf xs f (n + 1)
none_more xs n x f less is other none k d below =
    elim (before_or_at k n below) [
      | inl before ↦ none k d before
      | inr here ↦ λ e. other (ap (λ (g : Group). g.function) (sym (read_at xs n x d less is) ∙ ap (λ (i : ℕ). get_or (map group_of xs) i d) (sym here)) ∙ e)
    ]
