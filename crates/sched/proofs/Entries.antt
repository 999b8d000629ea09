-- The functions of an algorithm from one on.
use Rattle.std.proofs.Common.{◌≡◌, ℕ, zero, suc, ◌+◌, ◌-◌, List, [], ◌∷◌, map, drop, Some, sym, ap, ◌∙◌, add-one}
use Rattle.std.specs.Prelude.{slice_get}
use Rattle.std.specs.declared.string.String.{String}
use Rattle.std.specs.Global.{Global}
use Rattle.meaning.specs.Algorithm.{Function}
use Rattle.algo.specs.declared.function.Function.{Function as Held}
use Rattle.algo.specs.Parts.{function_of, functions_of}

some_is : {A : Type 0} (x y : A) → Some x ≡ Some y → x ≡ y
some_is x y e = cc

found_here : {A B : Type 0} (f : A → B) (xs : List A) (n : ℕ) (x : A) → slice_get xs n ≡ Some x → drop n (map f xs) ≡ f x ∷ drop (suc n) (map f xs)
found_here f [] zero x h = cc
found_here f [] (suc n) x h = cc
found_here f (y ∷ ys) zero x h = ap (λ z. f z ∷ map f ys) (some_is y x h)
found_here f (y ∷ ys) (suc n) x h = found_here f ys n x h

next_here : (fs : List Function) (es : List (String Global × Held)) (n : ℕ) (e : String Global × Held)
    → functions_of es ≡ fs → slice_get es n ≡ Some e → drop n fs ≡ function_of e ∷ drop (suc n) fs
next_here fs es n e is h = ap (λ (gs : List Function). drop n gs) (sym is) ∙ found_here function_of es n e h ∙ ap (λ (gs : List Function). function_of e ∷ drop (suc n) gs) is

-- the next function, or none
pub function_here : (fs : List Function) (es : List (String Global × Held)) (n : ℕ) (e : String Global × Held)
    → functions_of es ≡ fs → slice_get es n ≡ Some e → drop n fs ≡ function_of e ∷ drop (n + 1) fs
function_here fs es n e is h = rw (add-one) (next_here fs es n e is h)
