-- Runs of blocks and loops, one part after another.
use Rattle.std.proofs.Common.{◌≡◌, ℕ, suc, ◌+◌, ◌<◌, ◌≤◌, List, ◌∷◌, drop, length, get_or, drop-cons, add-one, Option, Some, sym, ap, ◌∙◌, subst, ℤ, pos, ◌+ℤ◌, ◌≤ℤ◌, ◌<ℤ◌}
use Rattle.std.specs.Prelude.{flat_map}
use Rattle.plan.specs.declared.stmt.Stmt.{Stmt}
use Rattle.plan.specs.Plan.{Statements, Then, block}
use Rattle.interpreter.specs.Needs.{name_count, BlockFits, Kept, Space, StatementFits}
use Rattle.plan.specs.Lists.{list_statements}
use Rattle.plan.specs.View.{statement_of}
use Rattle.plan.specs.Symbols.{Symbols}
use Rattle.plan.specs.Semantics.Actions.{Setting, Action, actions, block_actions, after}
use Rattle.plan.specs.Semantics.Found.{with}
use Rattle.plan.specs.Semantics.Run.{Around}
use Rattle.interpreter.specs.Narrow.{StatementIsNarrow, BlockIsNarrow}
use Rattle.interpreter.specs.Steps.{Progress, steps}
use Rattle.interpreter.specs.Visits.{between}
use Rattle.interpreter.proofs.Counting.{between_more, between_none}
use Rattle.interpreter.proofs.Steps.{steps-append}

-- what a run comes to by the steps of a list
abbrev pub Comes : Around → Option Progress → List Action → Progress → Type 0
Comes A whole xs x = whole ≡ steps A xs x

-- one turn, and then the others
pub turns_next : (A : Around) (f : ℤ → List Action) (z high : ℤ) (x : Progress) (whole : Option Progress) → z ≤ℤ high → Comes A whole (flat_map f (between z high)) x
    → whole ≡ with (steps A (f z) x) (steps A (flat_map f (between (z +ℤ pos 1) high)))
turns_next A f z high x whole le h =
    h ∙ ap (λ (zs : List ℤ). steps A (flat_map f zs) x) (between_more z high le) ∙ steps-append A (f z) (flat_map f (between (z +ℤ pos 1) high)) x

pub turns_end : (A : Around) (f : ℤ → List Action) (z high : ℤ) (x : Progress) (whole : Option Progress) → high <ℤ z → Comes A whole (flat_map f (between z high)) x → whole ≡ Some x
turns_end A f z high x whole lt h = h ∙ ap (λ (zs : List ℤ). steps A (flat_map f zs) x) (between_none z high lt)

-- the statements of a block from the i-th on
abbrev pub from : List Stmt → ℕ → Statements
from all i = block (list_statements (drop i all))

from_more : (all : List Stmt) (i : ℕ) (x : Stmt) → i < length all → x ≡ get_or all i x → from all i ≡ Then (statement_of x) (from all (i + 1))
from_more all i x lt is =
    ap (λ (xs : List Stmt). block (list_statements xs)) (drop-cons all i x lt ∙ ap (λ (y : Stmt). y ∷ drop (suc i) all) (sym is))
    ∙ ap (λ (n : ℕ). Then (statement_of x) (from all n)) (sym (add-one i))

-- one statement of a block, and then the others
pub block_next : (A : Around) (setting : Setting) (all : List Stmt) (i : ℕ) (a : Stmt) (s : Symbols) (x : Progress) (whole : Option Progress) → i < length all → a ≡ get_or all i a
    → Comes A whole (block_actions setting (from all i) s) x
    → whole ≡ with (steps A (actions setting (statement_of a) s) x) (steps A (block_actions setting (from all (i + 1)) (after (statement_of a) s)))
block_next A setting all i a s x whole lt is h =
    h ∙ ap (λ (b : Statements). steps A (block_actions setting b s) x) (from_more all i a lt is)
    ∙ steps-append A (actions setting (statement_of a) s) (block_actions setting (from all (i + 1)) (after (statement_of a) s)) x

pub block_narrow : (Own : Symbols → Type 0) (all : List Stmt) (i : ℕ) (a : Stmt) (s : Symbols) → i < length all → a ≡ get_or all i a → BlockIsNarrow Own (from all i) s
    → StatementIsNarrow Own (statement_of a) s × BlockIsNarrow Own (from all (i + 1)) (after (statement_of a) s)
block_narrow Own all i a s lt is h = subst (λ (b : Statements). BlockIsNarrow Own b s) (from_more all i a lt is) h

-- ---- what parts need

pub block_fits : (own : Kept) (space : Space) (room : ℕ) (all : List Stmt) (i : ℕ) (a : Stmt) (n : ℕ) → i < length all → a ≡ get_or all i a → BlockFits own space room (from all i) n
    → StatementFits own space room (statement_of a) n × (n + name_count (statement_of a) ≤ room) × BlockFits own space room (from all (i + 1)) (n + name_count (statement_of a))
block_fits own space room all i a n lt is h = subst (λ (b : Statements). BlockFits own space room b n) (from_more all i a lt is) h
