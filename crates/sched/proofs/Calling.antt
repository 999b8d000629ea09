-- The calls of an expression, one after another.
use Rattle.std.proofs.Common.{◌≡◌, List, [], ◌∷◌, ◌++◌, map, sym, ap, ◌∙◌, append_assoc}
use Rattle.std.proofs.lemmas.List.{map-append}
use Rattle.std.specs.Prelude.{string_bytes}
use Rattle.std.specs.Global.{Vec}
use Rattle.tree.specs.declared.expr.Expr.{Expr}
use Rattle.tree.specs.declared.expr.Cond.TheViews.{Call}
use Rattle.tree.specs.Term.{term_of, list_terms, indices}
use Rattle.tree.proofs.Rows.{term_of-call}
use Rattle.algo.specs.Scoping.Standing.{Written, written, calls_of, calls_of_all}
use Rattle.sched.specs.declared.calls.Call.{Call as Made}
use Rattle.sched.specs.Calls.{call_of}

-- the calls of one part behind those of others
pub behind_two : (xs ys zs : List Written) → (xs ++ ys) ++ zs ≡ xs ++ (ys ++ zs)
behind_two xs ys zs = append_assoc xs ys zs

pub behind_three : (ws xs ys zs : List Written) → ((ws ++ xs) ++ ys) ++ zs ≡ ws ++ (xs ++ (ys ++ zs))
behind_three ws xs ys zs = append_assoc (ws ++ xs) ys zs ∙ append_assoc ws xs (ys ++ zs)

-- a call, and then the calls in its indices
pub call_added : (known pushed : List Made) (c : Made) (name : _) (at : Vec Expr) (s : _) (xs : List Expr)
    → c.name.now ≡ string_bytes name → c.at.now ≡ at.items → xs ≡ at.items → pushed ≡ known ++ c ∷ [] →
    map call_of pushed ++ calls_of_all (indices (list_terms xs)) ≡ map call_of known ++ calls_of (term_of (Call name at s))
call_added known pushed c name at s xs named first second was =
    ap (λ (l : List Made). map call_of l ++ calls_of_all (indices (list_terms xs))) was
    ∙ ap (λ (l : List Written). l ++ calls_of_all (indices (list_terms xs))) (map-append call_of known (c ∷ []))
    ∙ append_assoc (map call_of known) (call_of c ∷ []) (calls_of_all (indices (list_terms xs)))
    ∙ (λ i. map call_of known ++ written (named i) (indices (list_terms (first i))) ∷ calls_of_all (indices (list_terms (second i))))
    ∙ ap (λ e. map call_of known ++ calls_of e) (sym (term_of-call name at s))
