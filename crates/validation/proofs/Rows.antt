-- Blocks, read at the list of a `Vec`.
use Rattle.std.proofs.Common.{◌≡◌, List, sym, ap, ◌∙◌}
use Rattle.std.specs.Global.{Vec}
use Rattle.plan.specs.declared.stmt.Stmt.{Stmt}
use Rattle.plan.specs.declared.stmt.Stmt.TheViews.{Seq as Block}
use Rattle.plan.specs.Plan.{Statement, Seq, block}
use Rattle.plan.specs.View.{statement_of}
use Rattle.plan.specs.Lists.{list_statements}
use Rattle.plan.proofs.Rows.{statement_of-seq}

-- what holds of a block's list holds of its statement
pub at_seq : {A : Type 0} (f : Statement → A) (all : Vec Stmt) (xs : List Stmt) (s : Stmt) → xs ≡ all.items → s ≡ Block all → f (Seq (block (list_statements xs))) ≡ f (statement_of s)
at_seq f all xs s e is = ap (λ (l : List Stmt). f (Seq (block (list_statements l)))) e ∙ ap f (sym (statement_of-seq all)) ∙ ap (λ (x : Stmt). f (statement_of x)) (sym is)
