-- The first flaw of lines.
use Rattle.std.proofs.Common.{◌≡◌, ℕ, suc, ◌+◌, ◌-◌, ◌^◌, ◌<◌, min, List, [], ◌∷◌, ◌++◌, length, drop, get_or, drop-cons, Option, Some, None, refl, sym, ap, ◌∙◌, arith, add-one}
use Rattle.std.proofs.Common.{map}
use Rattle.plan.specs.Certificate.Certificate.{Certificate}
use Rattle.plan.specs.Certificate.Lines.{window_line, claim_line}
use Rattle.plan.specs.Semantics.Setting.{or_else}
use Rattle.soundness.specs.Outline.Flaws.{Flaw, first_of}
use Rattle.validation.specs.Certificate.Lines.{each_line}

pub first_of-append : (xs ys : List Flaw) → first_of (xs ++ ys) ≡ or_else (first_of xs) (first_of ys)
first_of-append [] ys = refl
first_of-append (x ∷ xs) ys = refl

-- the lines from here on, by the first of them and the rest
lines_split : {A : Type 0} (f : ℕ → A → List Flaw) (xs : List A) (i : ℕ) (x : A) → i < length xs → x ≡ get_or xs i x
    → first_of (each_line f i (drop i xs)) ≡ or_else (first_of (f i x)) (first_of (each_line f (i + 1) (drop (i + 1) xs)))
lines_split {A} f xs i x lt is =
    ap (λ (ys : List A). first_of (each_line f i ys)) (drop-cons xs i x lt ∙ ap (λ (y : A). y ∷ drop (suc i) xs) (sym is))
    ∙ first_of-append (f i x) (each_line f (i + 1) (drop (suc i) xs))
    ∙ ap (λ (n : ℕ). or_else (first_of (f i x)) (first_of (each_line f (i + 1) (drop n xs)))) (sym (add-one i))

-- a line without a flaw
pub line_fine : {A : Type 0} (f : ℕ → A → List Flaw) (xs : List A) (i : ℕ) (x : A) → i < length xs → x ≡ get_or xs i x → None ≡ first_of (f i x)
    → first_of (each_line f i (drop i xs)) ≡ first_of (each_line f (i + 1) (drop (i + 1) xs))
line_fine f xs i x lt is fine = lines_split f xs i x lt is ∙ ap (λ (o : Option Flaw). or_else o (first_of (each_line f (i + 1) (drop (i + 1) xs)))) (sym fine)

-- a line with a flaw
pub line_flawed : {A : Type 0} (f : ℕ → A → List Flaw) (xs : List A) (i : ℕ) (x : A) (v : Flaw) → i < length xs → x ≡ get_or xs i x → Some v ≡ first_of (f i x)
    → Some v ≡ first_of (each_line f i (drop i xs))
line_flawed f xs i x v lt is flawed = sym (lines_split f xs i x lt is ∙ ap (λ (o : Option Flaw). or_else o (first_of (each_line f (i + 1) (drop (i + 1) xs)))) (sym flawed))

-- lines of things that are told by others
pub each_line-map : {A B : Type 0} (g : A → B) (f : ℕ → B → List Flaw) (i : ℕ) (xs : List A) → each_line f i (map g xs) ≡ each_line (λ j x. f j (g x)) i xs
each_line-map g f i [] = refl
each_line-map g f i (x ∷ xs) = ap (λ (ys : List Flaw). f i (g x) ++ ys) (each_line-map g f (i + 1) xs)

-- the lines of claims and windows behind the line `cert` as it is told
pub claim_told : (c : Certificate) (line told i : ℕ) → told ≡ min line (2 ^ 32 - 1) → min (claim_line c told i) (2 ^ 32 - 1) ≡ min (claim_line c line i) (2 ^ 32 - 1)
claim_told c line told i e = omega arith

pub window_told : (c : Certificate) (line told i : ℕ) → told ≡ min line (2 ^ 32 - 1) → min (window_line c told i) (2 ^ 32 - 1) ≡ min (window_line c line i) (2 ^ 32 - 1)
window_told c line told i e = omega arith
