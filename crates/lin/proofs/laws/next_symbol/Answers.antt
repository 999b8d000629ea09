use Rattle.std.proofs.Common.{◌≡◌, ℕ, zero, suc, List, [], ◌∷◌, ◌++◌, length, refl, subst}
use Rattle.std.specs.Prelude.{Some, slice_get}
use Rattle.lin.specs.declared.scope.Binding.{Binding}
use Rattle.lin.specs.Spans.{Holds}
use Rattle.lin.proofs.laws.next_symbol.Goals as goal

some_is : (x y : Binding) → Some x ≡ Some y → x ≡ y
some_is x y e = cc

get-front : (scope : List Binding) (next : Binding) (n : ℕ) (binding : Binding) → slice_get scope n ≡ Some binding → slice_get (scope ++ next ∷ []) n ≡ Some binding
get-front [] next n binding e = cc
get-front (b ∷ bs) next zero binding e = e
get-front (b ∷ bs) next (suc n) binding e = get-front bs next n binding e

get-last : (scope : List Binding) (next : Binding) → slice_get (scope ++ next ∷ []) (length scope) ≡ Some next
get-last [] next = refl
get-last (b ∷ bs) next = get-last bs next

-- P of each entry of a longer list, from P of each entry before and of the last
each_entry : (P : ℕ → Binding → Type 0) (scope : List Binding) (next : Binding) → ((n : ℕ) (binding : Binding) → slice_get scope n ≡ Some binding → P n binding) → P (length scope) next
    → (n : ℕ) (binding : Binding) → slice_get (scope ++ next ∷ []) n ≡ Some binding → P n binding
each_entry P [] next h last zero binding e = subst (P 0) (some_is next binding e) last
each_entry P [] next h last (suc n) binding e = cc
each_entry P (b ∷ bs) next h last zero binding e = h 0 binding e
each_entry P (b ∷ bs) next h last (suc n) binding e = each_entry (λ k x. P (suc k) x) bs next (λ k x g. h (suc k) x g) last n binding e

pub returns : goal.returns
returns c = λ scope next v. (
  (λ all. ((λ n binding e. all n binding (get-front scope next n binding e)), all (length scope) next (get-last scope next))),
  (λ both. each_entry (λ n binding. Holds binding (v n) v) scope next both.0 both.1),
)
