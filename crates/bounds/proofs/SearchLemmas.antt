-- Lemmas on the search for bounds.
use Rattle.std.proofs.Common.{◌≡◌, ℕ, zero, suc, ◌-◌, ◌<◌, ◌≤◌, List, [], ◌∷◌, length, drop, Bool, true, false, arith, refl, sym}
use Rattle.std.specs.Prelude.{ℤ, map, fold, Option, Some, slice_get}
use Rattle.lin.specs.Forms.{Form, factor_of, combined, without}
use Rattle.lin.specs.Search.{candidates, any_may_be, total}
use Rattle.lin.specs.declared.scope.Binding.{Binding}
use Rattle.lin.proofs.SearchLemmas.{drop_all}
use Rattle.bounds.specs.Projection.Elimination.{is_eliminated, both, that_count, bounds_below, replacements_below, branch_bounds, branch_cost}

module _ (scope : List Binding) (inner : List ℕ) where
  -- a symbol that is not eliminated
  pub bounds-passed : (earlier : ℕ) (form : Form) (c c' : ℤ) → (earlier ≡ 0 → ⊥) → c ≡ factor_of form.terms (earlier - 1) → c' ≡ c → is_eliminated inner (earlier - 1) c' ≡ false
      → bounds_below scope inner earlier form ≡ bounds_below scope inner (earlier - 1) form
  bounds-passed zero form c c' h e ec out = absurd (h refl)
  bounds-passed (suc n) form c c' h e ec out = let p : suc n - 1 ≡ n = omega arith in let e' = rw p at e in let out' = rw (p, ec) at out in rw (p, sym e', out') refl

  pub replacements-passed : (earlier : ℕ) (form : Form) (c c' : ℤ) → (earlier ≡ 0 → ⊥) → c ≡ factor_of form.terms (earlier - 1) → c' ≡ c → is_eliminated inner (earlier - 1) c' ≡ false
      → replacements_below scope inner earlier form ≡ replacements_below scope inner (earlier - 1) form
  replacements-passed zero form c c' h e ec out = absurd (h refl)
  replacements-passed (suc n) form c c' h e ec out = let p : suc n - 1 ≡ n = omega arith in let e' = rw p at e in let out' = rw (p, ec) at out in rw (p, sym e', out') refl

  -- a symbol that is, in the terms of the code
  bounds-suc : (n : ℕ) (form : Form) (c : ℤ) (binding : Binding) → factor_of form.terms n ≡ c → is_eliminated inner n c ≡ true → slice_get scope n ≡ Some binding
      → bounds_below scope inner (suc n) form ≡ that_count scope (any_may_be binding c) (map (λ other. branch_bounds scope inner n (combined (without form n) c other)) (candidates binding c))
  bounds-suc n form c binding e is g = rw (e, is, g) refl

  replacements-suc : (n : ℕ) (form : Form) (c : ℤ) (binding : Binding) → factor_of form.terms n ≡ c → is_eliminated inner n c ≡ true → slice_get scope n ≡ Some binding
      → replacements_below scope inner (suc n) form ≡ total (λ other. branch_cost scope inner n (combined (without form n) c other)) (candidates binding c)
  replacements-suc n form c binding e is g = rw (e, is, g) refl

  pub bounds-made : (earlier : ℕ) (form : Form) (z z' : ℤ) (binding : Binding) (rest : Form) (forms : List Form) (largest : Bool)
      → (earlier ≡ 0 → ⊥) → z ≡ factor_of form.terms (earlier - 1) → is_eliminated inner (earlier - 1) z' ≡ true → slice_get scope (earlier - 1) ≡ Some binding
      → z' ≡ z → rest ≡ without form (earlier - 1) → forms ≡ candidates binding z' → largest ≡ any_may_be binding z'
      → bounds_below scope inner earlier form ≡ that_count scope largest (map (λ other. branch_bounds scope inner (earlier - 1) (combined rest z' other)) forms)
  bounds-made zero form z z' binding rest forms largest h e is g ez er ef el = absurd (h refl)
  bounds-made (suc n) form z z' binding rest forms largest h e is g ez er ef el =
      let p : suc n - 1 ≡ n = omega arith in
      let e' = rw p at e in let is' = rw (p, ez) at is in let g' = rw p at g in let er' = rw p at er in
      rw (p, el, ef, er', ez) (bounds-suc n form z binding (sym e') is' g')

  pub replacements-made : (earlier : ℕ) (form : Form) (z z' : ℤ) (binding : Binding) (rest : Form) (forms : List Form)
      → (earlier ≡ 0 → ⊥) → z ≡ factor_of form.terms (earlier - 1) → is_eliminated inner (earlier - 1) z' ≡ true → slice_get scope (earlier - 1) ≡ Some binding
      → z' ≡ z → rest ≡ without form (earlier - 1) → forms ≡ candidates binding z'
      → replacements_below scope inner earlier form ≡ total (λ other. branch_cost scope inner (earlier - 1) (combined rest z' other)) forms
  replacements-made zero form z z' binding rest forms h e is g ez er ef = absurd (h refl)
  replacements-made (suc n) form z z' binding rest forms h e is g ez er ef =
      let p : suc n - 1 ≡ n = omega arith in
      let e' = rw p at e in let is' = rw (p, ez) at is in let g' = rw p at g in let er' = rw p at er in
      rw (p, ef, er', ez) (replacements-suc n form z binding (sym e') is' g')

-- all candidates have been put in the symbol's place
pub counted_all : (scope : List Binding) (f : Form → Option (List Form)) (largest : Bool) (fs : List Form) (p : ℕ) (counted : Option (List Form)) → length fs ≤ p → (p ≡ 0 → counted ≡ Some [])
    → (0 < p → that_count scope largest (map f fs) ≡ fold (both scope largest) counted (map f (drop p fs))) → counted ≡ that_count scope largest (map f fs)
counted_all scope f largest [] zero counted h first rest = first refl
counted_all scope f largest (x ∷ xs) zero counted h first rest = absurd (omega arith)
counted_all scope f largest fs (suc p) counted h first rest = let e = rest (omega arith) in let none = drop_all fs (suc p) h in sym (rw none at e)
