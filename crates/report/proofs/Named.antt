-- The function of the first line that allocates a buffer.
use Rattle.std.proofs.Common.{◌≡◌, ℕ, ◌+◌, ◌<◌, List, [], Option, Some, None, length, get_or, refl, sym, ap, ◌∙◌}
use Rattle.plan.specs.declared.stmt.Stmt.{Stmt}
use Rattle.plan.specs.View.{statement_of}
use Rattle.plan.specs.Semantics.Setting.{Buffer, allocated, block_allocated, function_in, or_else}
use Rattle.report.specs.Subject.{named}
use Rattle.report.proofs.Places.{from, from_more}

pub first_named : (o p : Option Buffer) (n : List ℕ) → Some n ≡ named o → Some n ≡ named (or_else o p)
first_named None p n e = cc
first_named (Some b) p n e = e

pub later_named : (o p : Option Buffer) → None ≡ named o → named (or_else o p) ≡ named p
later_named None p e = refl
later_named (Some b) p e = cc

pub name_found : (o : Option Buffer) (n : List ℕ) → Some n ≡ named o → n ≡ function_in o
name_found None n e = cc
name_found (Some b) n e = cc

pub name_none : (o : Option Buffer) → None ≡ named o → [] ≡ function_in o
name_none None e = refl
name_none (Some b) e = cc

allocated_more : (all : List Stmt) (b i : ℕ) (x : Stmt) → i < length all → x ≡ get_or all i x →
    block_allocated (from all i) b ≡ or_else (allocated (statement_of x) b) (block_allocated (from all (i + 1)) b)
allocated_more all b i x lt is = ap (λ r. block_allocated r b) (from_more all i x lt is)

pub block_here : (all : List Stmt) (b i : ℕ) (x : Stmt) (n : List ℕ) (whole : Option (List ℕ)) → i < length all → x ≡ get_or all i x →
    whole ≡ named (block_allocated (from all i) b) → Some n ≡ named (allocated (statement_of x) b) → Some n ≡ whole
block_here all b i x n whole lt is w e =
    first_named (allocated (statement_of x) b) (block_allocated (from all (i + 1)) b) n e
    ∙ sym (w ∙ ap named (allocated_more all b i x lt is))

pub block_later : (all : List Stmt) (b i : ℕ) (x : Stmt) (whole : Option (List ℕ)) → i < length all → x ≡ get_or all i x →
    whole ≡ named (block_allocated (from all i) b) → None ≡ named (allocated (statement_of x) b) → whole ≡ named (block_allocated (from all (i + 1)) b)
block_later all b i x whole lt is w e =
    w ∙ ap named (allocated_more all b i x lt is) ∙ later_named (allocated (statement_of x) b) (block_allocated (from all (i + 1)) b) e
