-- Blocks, read at the list of a `Vec`.
use Rattle.std.proofs.Common.{◌≡◌, ℕ, List, [], ◌∷◌, refl, ap, ◌∙◌}
use Rattle.plan.specs.declared.stmt.Stmt.{Stmt, Row_of-Stmt, end_of-Stmt, more_of-Stmt, items-the_row-Stmt, items_hidden-the_row-Stmt-0}
use Rattle.plan.specs.declared.stmt.Stmt.TheViews.{Seq as Block}
use Rattle.plan.specs.declared.stmt.Stmt.TheBlock.{hidden-the_row-Stmt-0}
use Rattle.plan.specs.Plan.{Seq, Then, block}
use Rattle.plan.specs.View.{statement_of, statements_of}
use Rattle.plan.specs.Lists.{list_statements}

statements_of-row : (n : _) (k : Row_of-Stmt n) → statements_of k ≡ block (list_statements (items-the_row-Stmt n k))
statements_of-row n end_of-Stmt = refl
statements_of-row n (more_of-Stmt a rest) = ap (Then (statement_of a)) (statements_of-row _ rest)

-- a block's statement, by the list of its statements
pub statement_of-seq : (all : _) → statement_of (Block all) ≡ Seq (block (list_statements all.items))
statement_of-seq all = ap Seq (statements_of-row _ (hidden-the_row-Stmt-0 all) ∙ ap (λ l. block (list_statements l)) (items_hidden-the_row-Stmt-0 all))
