-- What can be called by a name, by the first function that has it.
use Rattle.std.proofs.Common.{◌≡◌, ◌≢◌, ◌<◌, ◌≤◌, ℕ, zero, suc, List, [], ◌∷◌, length, take, Some, get_or, refl, ◌∙◌, arith}
use Rattle.meaning.specs.Algorithm.{Function, Algorithm}
use Rattle.meaning.specs.Conditions.{callable}
use Rattle.meaning.proofs.Cases.{name_same, name_differs}
use Rattle.meaning.proofs.Calls.{callable_hit, callable_miss}
use Rattle.plain.specs.Scopes.{function_at, NoneBefore, IsFirstNamed}

first_of : (a : Algorithm) (fs : List Function) (d : Function) (k : ℕ) (name : List ℕ) (j : ℕ) → k ≤ length fs → j < k → ((i : ℕ) → i < j → (get_or fs i d).name ≢ name) → (get_or fs j d).name ≡ name →
    callable a (take k fs) name ≡ Some ((get_or fs j d).ty, length (get_or fs j d).variables)
first_of a fs d zero name j h l none named = absurd (omega arith)
first_of a [] d (suc k) name j h l none named = absurd (omega arith)
first_of a (f ∷ fs) d (suc k) name zero h l none named = callable_hit a f (take k fs) name (name_same f.name name named)
first_of a (f ∷ fs) d (suc k) name (suc j) h l none named =
    callable_miss a f (take k fs) name (name_differs f.name name (none 0 (omega arith)))
    ∙ first_of a fs d k name j (omega arith) (omega arith) (λ i m. none (suc i) (omega arith)) named

none_of : (a : Algorithm) (fs : List Function) (d : Function) (k : ℕ) (name : List ℕ) → k ≤ length fs → ((i : ℕ) → i < k → (get_or fs i d).name ≢ name) →
    callable a (take k fs) name ≡ callable a [] name
none_of a [] d zero name h none = refl
none_of a [] d (suc k) name h none = refl
none_of a (f ∷ fs) d zero name h none = refl
none_of a (f ∷ fs) d (suc k) name h none =
    callable_miss a f (take k fs) name (name_differs f.name name (none 0 (omega arith)))
    ∙ none_of a fs d k name (omega arith) (λ i m. none (suc i) (omega arith))

pub callable_first : (a : Algorithm) (k : ℕ) (name : List ℕ) (j : ℕ) → k ≤ length a.functions → IsFirstNamed a k name j →
    callable a (take k a.functions) name ≡ Some ((function_at a j).ty, length (function_at a j).variables)
callable_first a k name j h first = first_of a a.functions _ k name j h first.below first.none first.named

pub callable_alone : (a : Algorithm) (k : ℕ) (name : List ℕ) → k ≤ length a.functions → NoneBefore a k name → callable a (take k a.functions) name ≡ callable a [] name
callable_alone a k name h none = none_of a a.functions _ k name h none
