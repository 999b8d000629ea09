-- The statements of a block, one more at a time.
use Rattle.std.proofs.Common.{◌≡◌, ℕ, suc, ◌+◌, ◌<◌, ◌≤◌, List, ◌∷◌, drop, length, get_or, drop-cons, add-one, sym, ap, ◌∙◌}
use Rattle.std.specs.Prelude.{◌||◌, ◌&&◌, ◌-◌, not, if◌then◌else◌}
use Rattle.std.proofs.lemmas.List.{drop_all}
use Rattle.plan.specs.declared.stmt.Stmt.{Stmt}
use Rattle.plan.specs.declared.stmt.Stmt.TheViews.{Seq as Block}
use Rattle.plan.specs.Plan.{Seq, Statements, Empty, Then, block}
use Rattle.plan.specs.Lists.{list_statements}
use Rattle.plan.specs.View.{statement_of}
use Rattle.plan.proofs.Rows.{statement_of-seq}
use Rattle.plan.specs.Lines.{lines, block_lines}
use Rattle.plan.specs.declared.certificate.cert.Window.{Window}
use Rattle.soundness.specs.Origins.{Outline}
use Rattle.soundness.specs.Claims.{changes, block_changes}
use Rattle.soundness.specs.Obligations.{gives, is_member, stands_alone}
use Rattle.soundness.specs.Outline.Kept.{keeps, some_keep}

-- the statements of a block from the i-th on
abbrev pub from : List Stmt → ℕ → Statements
from all i = block (list_statements (drop i all))

pub from_more : (all : List Stmt) (i : ℕ) (x : Stmt) → i < length all → x ≡ get_or all i x → from all i ≡ Then (statement_of x) (from all (i + 1))
from_more all i x lt is =
    ap (λ (xs : List Stmt). block (list_statements xs)) (drop-cons all i x lt ∙ ap (λ (y : Stmt). y ∷ drop (suc i) all) (sym is))
    ∙ ap (λ (n : ℕ). Then (statement_of x) (from all n)) (sym (add-one i))

pub from_end : (all : List Stmt) (i : ℕ) → length all ≤ i → from all i ≡ Empty
from_end all i le = ap (λ (xs : List Stmt). block (list_statements xs)) (drop_all i all le)

-- a block's statement, by the list of its statements
pub seq_is : (stmt : Stmt) (all : _) (items : List Stmt) → stmt ≡ Block all → items ≡ all.items → statement_of stmt ≡ Seq (block (list_statements items))
seq_is stmt all items is same = ap statement_of is ∙ statement_of-seq all ∙ ap (λ (l : List Stmt). Seq (block (list_statements l))) (sym same)

pub changes_from : (xs : List Stmt) (i : ℕ) (x : Stmt) (b : ℕ) → i < length xs → x ≡ get_or xs i x →
    block_changes (from xs i) b ≡ (changes (statement_of x) b || block_changes (from xs (i + 1)) b)
changes_from xs i x b h is = ap (λ l. block_changes l b) (from_more xs i x h is)

-- one statement more of a block: its lines, whether a claim stands alone from there on, and whether a loop keeps a window
pub lines_more : (xs : List Stmt) (i : ℕ) (x : Stmt) → i < length xs → x ≡ get_or xs i x → block_lines (from xs i) ≡ lines (statement_of x) + block_lines (from xs (i + 1))
lines_more xs i x h is = ap block_lines (from_more xs i x h is)

pub alone_more : (outline : Outline) (s c : ℕ) (xs : List Stmt) (i : ℕ) (x : Stmt) (line : ℕ) → i < length xs → x ≡ get_or xs i x →
    stands_alone outline s c (from xs i) line
    ≡ (if is_member c (outline.named (line + lines (statement_of x) - 1)) then not (block_changes (from xs (i + 1)) (outline.claim c).buffer)
    else (not (changes (statement_of x) (outline.claim c).buffer)
    && (not (gives s (statement_of x)) && stands_alone outline s c (from xs (i + 1)) (line + lines (statement_of x)))))
alone_more outline s c xs i x line h is = ap (λ (l : Statements). stands_alone outline s c l line) (from_more xs i x h is)

pub keep_more : (outline : Outline) (w : Window) (xs : List Stmt) (i : ℕ) (x : Stmt) (line : ℕ) → i < length xs → x ≡ get_or xs i x →
    some_keep outline w (from xs i) line ≡ (keeps outline w (statement_of x) line || some_keep outline w (from xs (i + 1)) (line + lines (statement_of x)))
keep_more outline w xs i x line h is = ap (λ (l : Statements). some_keep outline w l line) (from_more xs i x h is)
