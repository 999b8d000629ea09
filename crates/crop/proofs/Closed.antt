-- What is shown of each function that may be called.
use Rattle.std.proofs.Common.{◌≡◌, ◌<◌, ◌+◌, ◌∷◌, ◌⊎◌, ℕ, zero, suc, List, [], length, take, get_or, Bool, true, false, Option, Some, None, inl, inr, refl, sym, ap, ◌∙◌, subst, arith}
use Rattle.std.specs.Prelude.{map, slice_get, IsSome, IfOk, Result, Ok, Err}
use Rattle.std.proofs.lemmas.Bool.{false≢true}
use Rattle.numeric.specs.declared.ty.Ty.{Ty}
use Rattle.meaning.specs.Algorithm.{Function, Algorithm}
use Rattle.meaning.specs.Names.{same_name}
use Rattle.meaning.specs.Conditions.{callable}
use Rattle.meaning.proofs.Cases.{same_name_is}
use Rattle.crop.specs.Inference.Needed.{callable_through}
use Rattle.crop.specs.Cutting.{Kept, Cut, IsClosedAt}
use Rattle.crop.proofs.Points.{some_bool}

pub same_some : {A : Type 0} {x y : A} → Some x ≡ Some y → x ≡ y
same_some e = cc

-- what holds of a result that is one, by what is shown of it
pub if_ok : {A E : Type 0} (r : Result A E) (P Q : A → Type 0) → ((x : A) → P x → Q x) → IfOk r P → IfOk r Q
if_ok (Ok x) P Q f h = f x h
if_ok (Err e) P Q f h = tt

pub if_ok_two : {A E : Type 0} (r : Result A E) (P Q R : A → Type 0) → ((x : A) → P x → Q x → R x) → IfOk r P → IfOk r Q → IfOk r R
if_ok_two (Ok x) P Q R f h k = f x h k
if_ok_two (Err e) P Q R f h k = tt

none_some : {A : Type 0} (x : A) → None ≡ Some x → ⊥
none_some x e = cc

below_or_at : (j k : ℕ) → j < k + 1 → (j < k) ⊎ (j ≡ k)
below_or_at zero zero h = inr refl
below_or_at zero (suc k) h = inl (omega arith)
below_or_at (suc j) zero h = absurd (omega (arith, h))
below_or_at (suc j) (suc k) h = elim (below_or_at j k (omega (arith, h))) [ inl lt ↦ inl (omega (arith, lt)) | inr e ↦ inr (ap suc e) ]

-- a property of all that may be called, by their names
every_callable : (P : List ℕ → Type 0) (a : Algorithm) (fs : List Function) → ((k : ℕ) (f : Function) → slice_get fs k ≡ Some f → P f.name) → P a.input
    → (name : List ℕ) → IsSome (callable a fs name) → P name
every_callable P a [] h q name s = elim (some_bool (same_name a.input name)) [
  | inl t ↦ subst P (same_name_is a.input name t) q
  | inr t ↦ absurd (false≢true (subst (λ (b : Bool). IsSome {T = Ty × ℕ} (elim b [ true ↦ Some (a.input_ty, length a.input_extents) | false ↦ None ])) t s))
]
every_callable P a (g ∷ gs) h q name s = elim (some_bool (same_name g.name name)) [
  | inl t ↦ subst P (same_name_is g.name name t) (h 0 g refl)
  | inr t ↦ every_callable P a gs (λ k f e. h (suc k) f e) q name (subst (λ (b : Bool). IsSome {T = Ty × ℕ} (elim b [ true ↦ Some (g.ty, length g.variables) | false ↦ callable a gs name ])) t s)
]

taken_at : {A : Type 0} (xs : List A) (n j : ℕ) (x : A) → slice_get (take n xs) j ≡ Some x → (j < n) × (slice_get xs j ≡ Some x)
taken_at xs zero j x e = absurd (none_some x e)
taken_at [] (suc n) j x e = absurd (none_some x e)
taken_at (y ∷ ys) (suc n) zero x e = (omega arith, e)
taken_at (y ∷ ys) (suc n) (suc j) x e = let r = taken_at ys n j x e in (omega (arith, r.0), r.1)

pub index_below : {A : Type 0} (xs : List A) (j : ℕ) (x : A) → slice_get xs j ≡ Some x → j < length xs
index_below [] j x e = absurd (none_some x e)
index_below (y ∷ ys) zero x e = omega arith
index_below (y ∷ ys) (suc j) x e = omega (arith, index_below ys j x e)

-- what is read of a list, in a list that is made of it
pub mapped_at : {A B : Type 0} (f : A → B) (xs : List A) (i : ℕ) (x : A) → i < length xs → x ≡ get_or xs i x → slice_get (map f xs) i ≡ Some (f x)
mapped_at f [] i x h e = absurd (omega (arith, h))
mapped_at f (y ∷ ys) zero x h e = ap (λ z. Some (f z)) (sym e)
mapped_at f (y ∷ ys) (suc i) x h e = mapped_at f ys i x (omega (arith, h)) e

-- one function more
pub next_each : (a : Algorithm) (P : List ℕ → Type 0) (i : ℕ) (g : Function) → slice_get a.functions i ≡ Some g → P g.name
    → ((k : ℕ) (f : Function) → k < i → slice_get a.functions k ≡ Some f → P f.name) → (k : ℕ) (f : Function) → k < i + 1 → slice_get a.functions k ≡ Some f → P f.name
next_each a P i g at here before k f h e = elim (below_or_at k i h) [
  | inl lt ↦ before k f lt e
  | inr same ↦ subst (λ (u : Function). P u.name) (same_some (sym at ∙ ap (slice_get a.functions) (sym same) ∙ e)) here
]

-- what holds of the functions before one, of itself and of the input holds of all that it may call
pub through_all : (a : Algorithm) (P : List ℕ → Type 0) (i : ℕ) (g : Function) → slice_get a.functions i ≡ Some g → P g.name
    → ((k : ℕ) (f : Function) → k < i → slice_get a.functions k ≡ Some f → P f.name) → P a.input → (name : List ℕ) → IsSome (callable_through a i name) → P name
through_all a P i g at here before input =
    every_callable P a (take (suc i) a.functions) (λ k f e. let r = taken_at a.functions (suc i) k f e in next_each a P i g at here before k f (omega (arith, r.0)) r.1) input

-- one function more of which it is shown that it is closed, where it is kept
pub next_closed : (a : Algorithm) (cut : Cut) (i : ℕ) (x : Option Kept) → slice_get cut.kept i ≡ Some x
    → ((f : Function) (one : Kept) → slice_get a.functions i ≡ Some f → x ≡ Some one → IsClosedAt a cut i f one)
    → ((k : ℕ) (f : Function) (one : Kept) → k < i → slice_get a.functions k ≡ Some f → slice_get cut.kept k ≡ Some (Some one) → IsClosedAt a cut k f one)
    → (k : ℕ) (f : Function) (one : Kept) → k < i + 1 → slice_get a.functions k ≡ Some f → slice_get cut.kept k ≡ Some (Some one) → IsClosedAt a cut k f one
next_closed a cut i x at here before k f one h e g = elim (below_or_at k i h) [
  | inl lt ↦ before k f one lt e g
  | inr same ↦ subst (λ (n : ℕ). IsClosedAt a cut n f one) (sym same)
      (here f one (ap (slice_get a.functions) (sym same) ∙ e) (same_some (sym at ∙ ap (slice_get cut.kept) (sym same) ∙ g)))
]
