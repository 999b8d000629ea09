-- Lemmas on the search for a bound.
use Rattle.std.proofs.Common.{◌≡◌, ℕ, zero, suc, ◌+◌, ◌-◌, ◌<◌, ◌≤◌, List, [], ◌∷◌, length, drop, get_or, arith, ap, refl, sym, Bool, false, drop-cons, add-one}
use Rattle.std.specs.Prelude.{ℤ, pos, map, fold, Option, Some, None, slice_get}
use Rattle.lin.specs.Forms.{Form, factor_of, is_zero, combined, without}
use Rattle.lin.specs.Search.{total, branch_cost, branch_bound, pick, that_counts, least, replacements, candidates, any_may_be}
use Rattle.lin.specs.declared.scope.Binding.{Binding}
use Rattle.lin.proofs.TermLemmas.{is_zero-other}

pub drop_all : {X : Type 0} (xs : List X) (p : ℕ) → length xs ≤ p → drop p xs ≡ []
drop_all [] zero h = refl
drop_all [] (suc p) h = refl
drop_all (x ∷ xs) zero h = absurd (omega arith)
drop_all (x ∷ xs) (suc p) h = drop_all xs p (omega arith)

pub total-drop : (g : Form → ℕ) (fs : List Form) (p : ℕ) (f : Form) → p < length fs → f ≡ get_or fs p f → total g (drop p fs) ≡ g f + total g (drop (p + 1) fs)
total-drop g fs p f h e = rw (drop-cons fs p f h, add-one, ← e) refl

pub slice_get-is : {X : Type 0} (xs : List X) (p : ℕ) (x : X) → p < length xs → x ≡ get_or xs p x → slice_get xs p ≡ Some x
slice_get-is [] p x h e = absurd (omega arith)
slice_get-is (y ∷ ys) zero x h e = ap Some (sym e)
slice_get-is (y ∷ ys) (suc p) x h e = slice_get-is ys p x (omega arith) e

pub least-zero : (symbols : List Binding) (earlier : ℕ) (form : Form) → (earlier ≡ 0 → ⊥) → factor_of form.terms (earlier - 1) ≡ pos 0 → least symbols earlier form ≡ least symbols (earlier - 1) form
least-zero symbols zero form h e = absurd (h refl)
least-zero symbols (suc n) form h e = let p : suc n - 1 ≡ n = omega arith in let e' = rw p at e in rw (p, e') refl

pub replacements-zero : (symbols : List Binding) (earlier : ℕ) (form : Form) → (earlier ≡ 0 → ⊥) → factor_of form.terms (earlier - 1) ≡ pos 0 → replacements symbols earlier form ≡ replacements symbols (earlier - 1) form
replacements-zero symbols zero form h e = absurd (h refl)
replacements-zero symbols (suc n) form h e = let p : suc n - 1 ≡ n = omega arith in let e' = rw p at e in rw (p, e') refl

least-suc : (symbols : List Binding) (n : ℕ) (form : Form) (c : ℤ) (binding : Binding) → factor_of form.terms n ≡ c → is_zero c ≡ false → slice_get symbols n ≡ Some binding
    → least symbols (suc n) form ≡ that_counts (any_may_be binding c) (map (λ other. branch_bound symbols n (combined (without form n) c other)) (candidates binding c))
least-suc symbols n form c binding e z g = rw (e, z, g) refl

replacements-suc : (symbols : List Binding) (n : ℕ) (form : Form) (c : ℤ) (binding : Binding) → factor_of form.terms n ≡ c → is_zero c ≡ false → slice_get symbols n ≡ Some binding
    → replacements symbols (suc n) form ≡ total (λ other. branch_cost symbols n (combined (without form n) c other)) (candidates binding c)
replacements-suc symbols n form c binding e z g = rw (e, z, g) refl

pub least-step : (symbols : List Binding) (earlier : ℕ) (form : Form) (c : ℤ) (binding : Binding) → (earlier ≡ 0 → ⊥) → c ≡ factor_of form.terms (earlier - 1) → (c ≡ pos 0 → ⊥)
    → slice_get symbols (earlier - 1) ≡ Some binding
    → least symbols earlier form ≡ that_counts (any_may_be binding c) (map (λ other. branch_bound symbols (earlier - 1) (combined (without form (earlier - 1)) c other)) (candidates binding c))
least-step symbols zero form c binding h e z g = absurd (h refl)
least-step symbols (suc n) form c binding h e z g =
    let p : suc n - 1 ≡ n = omega arith in
    let e' = rw p at e in let g' = rw p at g in
    rw p (least-suc symbols n form c binding (sym e') (is_zero-other c z) g')

pub replacements-step : (symbols : List Binding) (earlier : ℕ) (form : Form) (c : ℤ) (binding : Binding) → (earlier ≡ 0 → ⊥) → c ≡ factor_of form.terms (earlier - 1) → (c ≡ pos 0 → ⊥)
    → slice_get symbols (earlier - 1) ≡ Some binding
    → replacements symbols earlier form ≡ total (λ other. branch_cost symbols (earlier - 1) (combined (without form (earlier - 1)) c other)) (candidates binding c)
replacements-step symbols zero form c binding h e z g = absurd (h refl)
replacements-step symbols (suc n) form c binding h e z g =
    let p : suc n - 1 ≡ n = omega arith in
    let e' = rw p at e in let g' = rw p at g in
    rw p (replacements-suc symbols n form c binding (sym e') (is_zero-other c z) g')

pub counted_all : (f : Form → Option ℤ) (largest : Bool) (fs : List Form) (p : ℕ) (counted : Option ℤ) → length fs ≤ p → (p ≡ 0 → counted ≡ None)
    → (0 < p → that_counts largest (map f fs) ≡ fold (pick largest) counted (map f (drop p fs))) → counted ≡ that_counts largest (map f fs)
counted_all f largest [] zero counted h first rest = first refl
counted_all f largest (x ∷ xs) zero counted h first rest = absurd (omega arith)
counted_all f largest fs (suc p) counted h first rest = let e = rest (omega arith) in let none = drop_all fs (suc p) h in sym (rw none at e)

pub over_budget : (budget left all here rest atp : ℕ) → budget + atp ≡ all + left → atp ≡ here + rest → left < here → budget < all
over_budget budget left all here rest atp h e l = omega arith

-- the steps, in the terms of the code
pub replacements-made : (symbols : List Binding) (earlier : ℕ) (form : Form) (z z' : ℤ) (binding : Binding) (rest : Form) (forms : List Form)
    → (earlier ≡ 0 → ⊥) → z ≡ factor_of form.terms (earlier - 1) → (z ≡ pos 0 → ⊥) → slice_get symbols (earlier - 1) ≡ Some binding
    → z' ≡ z → rest ≡ without form (earlier - 1) → forms ≡ candidates binding z'
    → replacements symbols earlier form ≡ total (λ other. branch_cost symbols (earlier - 1) (combined rest z' other)) forms
replacements-made symbols earlier form z z' binding rest forms h e n g ez er ef =
    rw (ef, er, ez) (replacements-step symbols earlier form z binding h e n g)

pub least-made : (symbols : List Binding) (earlier : ℕ) (form : Form) (z z' : ℤ) (binding : Binding) (rest : Form) (forms : List Form) (largest : Bool)
    → (earlier ≡ 0 → ⊥) → z ≡ factor_of form.terms (earlier - 1) → (z ≡ pos 0 → ⊥) → slice_get symbols (earlier - 1) ≡ Some binding
    → z' ≡ z → rest ≡ without form (earlier - 1) → forms ≡ candidates binding z' → largest ≡ any_may_be binding z'
    → least symbols earlier form ≡ that_counts largest (map (λ other. branch_bound symbols (earlier - 1) (combined rest z' other)) forms)
least-made symbols earlier form z z' binding rest forms largest h e n g ez er ef el =
    rw (el, ef, er, ez) (least-step symbols earlier form z binding h e n g)
