-- The statements of a block, one more at a time.
use Rattle.std.proofs.Common.{◌≡◌, ℕ, suc, ◌+◌, ◌<◌, ◌≤◌, List, ◌∷◌, drop, length, get_or, drop-cons, add-one, sym, ap, ◌∙◌}
use Rattle.std.proofs.lemmas.List.{drop_all}
use Rattle.plan.specs.declared.stmt.Stmt.{Stmt}
use Rattle.plan.specs.declared.stmt.Stmt.TheViews.{Seq as Block}
use Rattle.plan.specs.Plan.{Seq, Statements, Empty, Then, block}
use Rattle.plan.specs.Lists.{list_statements}
use Rattle.plan.specs.View.{statement_of}
use Rattle.plan.proofs.Rows.{statement_of-seq}

-- the statements of a block from the i-th on
abbrev pub from : List Stmt → ℕ → Statements
from all i = block (list_statements (drop i all))

pub from_more : (all : List Stmt) (i : ℕ) (x : Stmt) → i < length all → x ≡ get_or all i x → from all i ≡ Then (statement_of x) (from all (i + 1))
from_more all i x lt is =
    ap (λ (xs : List Stmt). block (list_statements xs)) (drop-cons all i x lt ∙ ap (λ (y : Stmt). y ∷ drop (suc i) all) (sym is))
    ∙ ap (λ (n : ℕ). Then (statement_of x) (from all n)) (sym (add-one i))

pub from_end : (all : List Stmt) (i : ℕ) → length all ≤ i → from all i ≡ Empty
from_end all i le = ap (λ (xs : List Stmt). block (list_statements xs)) (drop_all i all le)

-- a block's statement, by the list of its statements
pub seq_is : (stmt : Stmt) (all : _) (items : List Stmt) → stmt ≡ Block all → items ≡ all.items → statement_of stmt ≡ Seq (block (list_statements items))
seq_is stmt all items is same = ap statement_of is ∙ statement_of-seq all ∙ ap (λ (l : List Stmt). Seq (block (list_statements l))) (sym same)
