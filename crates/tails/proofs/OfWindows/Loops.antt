-- What is bound inside a loop, where what is around a line is given from the outermost on.
use Rattle.std.proofs.Common.{◌≡◌, ℕ, ◌-◌, ◌≤◌, Bool, true, false, List, [], ◌∷◌, ◌++◌, length, take, drop, get_or, refl, sym, ap, ◌∙◌}
use Rattle.std.specs.Prelude.{◌||◌, if◌then◌else◌}
use Rattle.std.specs.List.{list_any}
use Rattle.soundness.specs.declared.binders.binder.Binder.{Binder as BinderHeld}
use Rattle.soundness.specs.Around.{Binder, is_loop, inside}
use Rattle.soundness.specs.Binders.View.{binder_of, binders_of}
use Rattle.tails.proofs.Joined.{first_and}
use Rattle.tails.specs.Windows.Spans.{inside_or}

or_swap : (a b c : Bool) → (a || (b || c)) ≡ (b || (a || c))
or_swap true true c = refl
or_swap true false c = refl
or_swap false b c = refl

pub any_of_last : {A : Type 0} (p : A → Bool) (xs : List A) (x : A) → list_any p (xs ++ x ∷ []) ≡ (p x || list_any p xs)
any_of_last p [] x = refl
any_of_last p (y ∷ xs) x = ap (λ b. p y || b) (any_of_last p xs x) ∙ or_swap (p y) (p x) (list_any p xs)

-- the loop stands last: what is inside another loop of the symbol before it, or all before it
inside_append : (i : ℕ) (bs : List Binder) (b : Binder) → inside i (bs ++ b ∷ []) ≡ inside_or i bs (bs ++ (if is_loop i b then [] else b ∷ []))
inside_append i [] b = refl
inside_append i (c ∷ bs) b = of (is_loop i c) (list_any (is_loop i) bs) (inside_append i bs b)
  where
    of : (v w : Bool) → inside i (bs ++ b ∷ []) ≡ (if w then inside i bs else (bs ++ (if is_loop i b then [] else b ∷ []))) →
        (if v then [] else c ∷ inside i (bs ++ b ∷ [])) ≡ (if v || w then (if v then [] else c ∷ inside i bs) else (c ∷ bs ++ (if is_loop i b then [] else b ∷ [])))
    of true w e = refl
    of false true e = ap (λ l. c ∷ l) e
    of false false e = ap (λ l. c ∷ l) e

append_nothing : (bs : List Binder) → bs ++ [] ≡ bs
append_nothing [] = refl
append_nothing (b ∷ bs) = ap (λ l. b ∷ l) (append_nothing bs)

pub inside_here : (i : ℕ) (bs others : List Binder) (b : Binder) → is_loop i b ≡ true → inside_or i (bs ++ b ∷ []) others ≡ inside_or i bs bs
inside_here i bs others b h =
    ap (λ v. if v then inside i (bs ++ b ∷ []) else others) (any_of_last (is_loop i) bs b ∙ ap (λ v. v || list_any (is_loop i) bs) h)
    ∙ inside_append i bs b ∙ ap (λ v. inside_or i bs (bs ++ (if v then [] else b ∷ []))) h ∙ ap (inside_or i bs) (append_nothing bs)

pub inside_later : (i : ℕ) (bs others : List Binder) (b : Binder) → is_loop i b ≡ false → inside_or i (bs ++ b ∷ []) others ≡ inside_or i bs others
inside_later i bs others b h =
    ap (λ v. if v then inside i (bs ++ b ∷ []) else others) (any_of_last (is_loop i) bs b ∙ ap (λ v. v || list_any (is_loop i) bs) h) ∙ of (list_any (is_loop i) bs) (inside_append i bs b)
  where
    of : (w : Bool) → inside i (bs ++ b ∷ []) ≡ (if w then inside i bs else (bs ++ (if is_loop i b then [] else b ∷ []))) →
        (if w then inside i (bs ++ b ∷ []) else others) ≡ (if w then inside i bs else others)
    of true e = e
    of false e = refl

pub inside_all : (i : ℕ) (bs : List Binder) → inside_or i bs bs ≡ inside i bs
inside_all i [] = refl
inside_all i (b ∷ bs) = of (is_loop i b) (list_any (is_loop i) bs) (inside_all i bs)
  where
    of : (v w : Bool) → (if w then inside i bs else bs) ≡ inside i bs → (if v || w then (if v then [] else b ∷ inside i bs) else (b ∷ bs)) ≡ (if v then [] else b ∷ inside i bs)
    of true w e = refl
    of false true e = refl
    of false false e = ap (λ l. b ∷ l) e

-- the same of what is given from the outermost on
pub from_here : (i : ℕ) (bs : List BinderHeld) (b : BinderHeld) (others result : List Binder) (v : Bool) → 1 ≤ length bs → b ≡ get_or bs 0 b → v ≡ is_loop i (binder_of b) → v ≡ true →
    result ≡ inside_or i (binders_of (take (length bs - 1) (drop 1 bs))) (binders_of (take (length bs - 1) (drop 1 bs))) → result ≡ inside_or i (binders_of bs) others
from_here i bs b others result v h is by so rest =
    let more = binders_of (take (length bs - 1) (drop 1 bs)) in
    rest ∙ sym (ap (λ l. inside_or i (binders_of l) others) (first_and bs b h is) ∙ inside_here i more others (binder_of b) (sym by ∙ so))

pub from_later : (i : ℕ) (bs : List BinderHeld) (b : BinderHeld) (others result : List Binder) (v : Bool) → 1 ≤ length bs → b ≡ get_or bs 0 b → v ≡ is_loop i (binder_of b) → v ≡ false →
    result ≡ inside_or i (binders_of (take (length bs - 1) (drop 1 bs))) others → result ≡ inside_or i (binders_of bs) others
from_later i bs b others result v h is by other rest =
    let more = binders_of (take (length bs - 1) (drop 1 bs)) in
    rest ∙ sym (ap (λ l. inside_or i (binders_of l) others) (first_and bs b h is) ∙ inside_later i more others (binder_of b) (sym by ∙ other))
