-- What the statements of a block change, from one of them on.
use Rattle.std.proofs.Common.{◌≡◌, ℕ, suc, ◌+◌, ◌<◌, List, ◌∷◌, length, drop, get_or, sym, ap, ◌∙◌, add-one}
use Rattle.std.specs.Prelude.{if◌then◌else◌, None}
use Rattle.std.proofs.Math.Seq.{drop-cons}
use Rattle.plan.specs.declared.stmt.Stmt.{Stmt}
use Rattle.plan.specs.Plan.{block}
use Rattle.plan.specs.View.{statement_of}
use Rattle.plan.specs.Lists.{list_statements}
use Rattle.soundness.specs.Claims.{changes, block_changes}
use Rattle.soundness.specs.Nests.Nest.{nest_of, block_nest, is_let}

pub rest_from : (xs : List Stmt) (i : ℕ) (x : Stmt) → i < length xs → x ≡ get_or xs i x → drop i xs ≡ x ∷ drop (i + 1) xs
rest_from xs i x h is = drop-cons xs i x h ∙ ap (λ y. y ∷ drop (suc i) xs) (sym is) ∙ ap (λ n. x ∷ drop n xs) (sym (add-one i))

pub nest_from : (xs : List Stmt) (i : ℕ) (x : Stmt) (b : ℕ) → i < length xs → x ≡ get_or xs i x →
    block_nest (block (list_statements (drop i xs))) b
    ≡ (if changes (statement_of x) b then (if block_changes (block (list_statements (drop (i + 1) xs))) b then None else nest_of (statement_of x) b)
    else (if is_let (statement_of x) then None else block_nest (block (list_statements (drop (i + 1) xs))) b))
nest_from xs i x b h is = ap (λ l. block_nest (block (list_statements l)) b) (rest_from xs i x h is)
