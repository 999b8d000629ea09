-- Binders with one more behind them, and the loops of a list from one on.
use Rattle.std.proofs.Common.{◌≡◌, ℕ, suc, ◌+◌, ◌<◌, List, [], ◌∷◌, ◌++◌, length, drop, get_or, Bool, true, false, refl, sym, ap, ◌∙◌, add-one}
use Rattle.std.specs.Prelude.{◌||◌}
use Rattle.std.specs.List.{list_any}
use Rattle.std.proofs.Math.Seq.{drop-cons}
use Rattle.soundness.specs.Obligations.{Binder, Ranged}
use Rattle.soundness.specs.declared.binders.binder.Binder.{Binder as BinderHeld}
use Rattle.soundness.specs.Binders.View.{binder_of, binders_of}
use Rattle.soundness.specs.Nests.Tests.{binders_in}
use Rattle.rules.specs.declared.nests.lines.PlainLoop.{PlainLoop}
use Rattle.rules.specs.Nests.View.{loops_of}

pub or_assoc : (a b c : Bool) → (a || (b || c)) ≡ (b || (a || c))
or_assoc true true c = refl
or_assoc true false c = refl
or_assoc false b c = refl

pub any_of_last : {A : Type 0} (p : A → Bool) (xs : List A) (x : A) → list_any p (xs ++ x ∷ []) ≡ (p x || list_any p xs)
any_of_last p [] x = refl
any_of_last p (y ∷ xs) x = ap (λ b. p y || b) (any_of_last p xs x) ∙ or_assoc (p y) (p x) (list_any p xs)

pub binders_more : (xs : List BinderHeld) (x : BinderHeld) → binders_of (xs ++ x ∷ []) ≡ binder_of x ∷ binders_of xs
binders_more [] x = refl
binders_more (y ∷ xs) x = ap (λ l. l ++ binder_of y ∷ []) (binders_more xs x)

pub bound_from : (xs : List PlainLoop) (i : ℕ) (x : PlainLoop) (bs : List Binder) → i < length xs → x ≡ get_or xs i x →
    binders_in (loops_of (drop i xs)) bs ≡ binders_in (loops_of (drop (i + 1) xs)) (Ranged x.symbol x.span.now ∷ bs)
bound_from xs i x bs h is =
    ap (λ l. binders_in (loops_of l) bs) (drop-cons xs i x h ∙ ap (λ y. y ∷ drop (suc i) xs) (sym is) ∙ ap (λ n. x ∷ drop n xs) (sym (add-one i)))
