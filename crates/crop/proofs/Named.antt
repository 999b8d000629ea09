-- What is kept of the function of a name, looked for from the front.
use Rattle.std.proofs.Common.{◌≡◌, ◌<◌, ◌≤◌, ◌+◌, ℕ, zero, suc, List, [], ◌∷◌, length, map, drop, get_or, add-one, true, false, Option, Some, None, refl, sym, ap, ◌∙◌, arith}
use Rattle.std.specs.Prelude.{option_map, option_copied}
use Rattle.std.specs.Borrow.{Bor}
use Rattle.meaning.specs.Algorithm.{Function}
use Rattle.crop.specs.Cutting.{Kept, kept_named}
use Rattle.crop.specs.View.{is_named_at}

-- what stands behind a reference
pub mapped_copied : {A B : Type 0} (g : A → B) (o : Option (Bor A)) → option_map (λ x. g x.now) o ≡ option_map g (option_copied o)
mapped_copied g None = refl
mapped_copied g (Some x) = refl

module _ {A : Type 0} (g : A → Option Kept) (name : List ℕ) where
  abbrev Rest : List Function → List A → ℕ → Option Kept
  Rest fs ks i = kept_named (drop i fs) (map g (drop i ks)) name

  pub hit : (fs : List Function) (ks : List A) (i : ℕ) (x : A) → i < length ks → x ≡ get_or ks i x → is_named_at fs i name ≡ true → g x ≡ Rest fs ks i
  hit fs [] i x lt is t = absurd (omega arith)
  hit [] (k ∷ ks) i x lt is t = absurd (cc)
  hit (f ∷ fs) (k ∷ ks) zero x lt is t = ap g is ∙ ap (λ b. elim b [ true ↦ g k | false ↦ kept_named fs (map g ks) name ]) (sym t)
  hit (f ∷ fs) (k ∷ ks) (suc i) x lt is t = hit fs ks i x (omega arith) is t

  none : (fs : List Function) → kept_named fs [] name ≡ None
  none [] = refl
  none (f ∷ fs) = refl

  miss : (fs : List Function) (ks : List A) (i : ℕ) → is_named_at fs i name ≡ false → Rest fs ks (suc i) ≡ Rest fs ks i
  miss [] [] zero t = refl
  miss [] (k ∷ ks) zero t = refl
  miss [] [] (suc i) t = refl
  miss [] (k ∷ ks) (suc i) t = refl
  miss (f ∷ fs) [] zero t = none fs
  miss (f ∷ fs) [] (suc i) t = none (drop (suc i) fs) ∙ sym (none (drop i fs))
  miss (f ∷ fs) (k ∷ ks) zero t = ap (λ b. elim b [ true ↦ g k | false ↦ kept_named fs (map g ks) name ]) (sym t)
  miss (f ∷ fs) (k ∷ ks) (suc i) t = miss fs ks i t

  pub past : (fs : List Function) (ks : List A) (i : ℕ) → length ks ≤ i → None ≡ Rest fs ks i
  past fs [] zero h = sym (none fs)
  past [] [] (suc i) h = refl
  past (f ∷ fs) [] (suc i) h = sym (none (drop i fs))
  past fs (k ∷ ks) zero h = absurd (omega arith)
  past [] (k ∷ ks) (suc i) h = refl
  past (f ∷ fs) (k ∷ ks) (suc i) h = past fs ks i (omega arith)

  pub missed : (fs : List Function) (ks : List A) (i : ℕ) → is_named_at fs i name ≡ false → Rest fs ks (i + 1) ≡ Rest fs ks i
  missed fs ks i t = ap (Rest fs ks) (add-one i) ∙ miss fs ks i t
