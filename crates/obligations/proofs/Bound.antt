-- Binders and buffers, which memory has from the outermost on.
use Rattle.std.proofs.Common.{◌≡◌, ℕ, Bool, false, Some, eq-eqb, List, [], ◌∷◌, ◌++◌, map, refl, sym, ap, ◌∙◌}
use Rattle.std.specs.Prelude.{◌||◌, if◌then◌else◌}
use Rattle.std.proofs.lemmas.Bool.{ne_eqb}
use Rattle.std.specs.List.{list_any}
use Rattle.std.proofs.lemmas.List.Folds.{list_any-append}
use Rattle.soundness.specs.Obligations.{Binder, Buffer, Updating, places_of}
use Rattle.soundness.specs.declared.binders.binder.Binder.{Binder as BinderHeld}
use Rattle.soundness.specs.Binders.View.{binder_of, binders_of}
use Rattle.obligations.specs.declared.context.known.Buffer.{Buffer as BufferHeld}
use Rattle.obligations.specs.declared.context.known.Nest.{Nest}
use Rattle.obligations.specs.Context.Around.{buffer_of, buffers_of, nest_of}
use Rattle.obligations.proofs.Tests.{or_comm, or_false}

pub binders_pushed : (xs : List BinderHeld) (x : BinderHeld) → binders_of (xs ++ x ∷ []) ≡ binder_of x ∷ binders_of xs
binders_pushed [] x = refl
binders_pushed (y ∷ ys) x = ap (λ (l : List Binder). l ++ binder_of y ∷ []) (binders_pushed ys x)

pub buffers_pushed : (xs : List BufferHeld) (x : BufferHeld) → buffers_of (xs ++ x ∷ []) ≡ buffer_of x ∷ buffers_of xs
buffers_pushed [] x = refl
buffers_pushed (y ∷ ys) x = ap (λ (l : List Buffer). l ++ buffer_of y ∷ []) (buffers_pushed ys x)

last_first : {X : Type 0} (p : X → Bool) (xs : List X) (x : X) → list_any p (xs ++ x ∷ []) ≡ (p x || list_any p xs)
last_first p xs x = list_any-append p xs (x ∷ []) ∙ or_comm (list_any p xs) (p x || false) ∙ ap (λ (b : Bool). b || list_any p xs) (or_false (p x))

pub any_binders : (p : Binder → Bool) (xs : List BinderHeld) → list_any p (binders_of xs) ≡ list_any (λ b. p (binder_of b)) xs
any_binders p [] = refl
any_binders p (x ∷ xs) = last_first p (binders_of xs) (binder_of x) ∙ ap (λ (b : Bool). p (binder_of x) || b) (any_binders p xs)

pub any_buffers : (p : Buffer → Bool) (xs : List BufferHeld) → list_any p (buffers_of xs) ≡ list_any (λ b. p (buffer_of b)) xs
any_buffers p [] = refl
any_buffers p (x ∷ xs) = last_first p (buffers_of xs) (buffer_of x) ∙ ap (λ (b : Bool). p (buffer_of x) || b) (any_buffers p xs)

pub any_nests : (p : Updating → Bool) (xs : List Nest) → list_any p (map nest_of xs) ≡ list_any (λ u. p (nest_of u)) xs
any_nests p [] = refl
any_nests p (x ∷ xs) = ap (λ (b : Bool). p (nest_of x) || b) (any_nests p xs)

pub places_here : (x : BufferHeld) (xs : List BufferHeld) (b : ℕ) → b ≡ x.name → Some x.places.now ≡ places_of (buffers_of (xs ++ x ∷ [])) b
places_here x xs b h =
    sym (ap (λ (l : List Buffer). places_of l b) (buffers_pushed xs x) ∙ ap (λ (t : Bool). if t then Some x.places.now else places_of (buffers_of xs) b) (eq-eqb b x.name h))

pub places_there : (x : BufferHeld) (xs : List BufferHeld) (b : ℕ) → (b ≡ x.name → ⊥) → places_of (buffers_of xs) b ≡ places_of (buffers_of (xs ++ x ∷ [])) b
places_there x xs b h =
    sym (ap (λ (l : List Buffer). places_of l b) (buffers_pushed xs x) ∙ ap (λ (t : Bool). if t then Some x.places.now else places_of (buffers_of xs) b) (ne_eqb b x.name h))
