-- The lines of a list's statements and groups, one more at a time.
use Rattle.std.proofs.Common.{◌≡◌, ℕ, ◌+◌, ◌^◌, ◌<◌, ◌-◌, ◌≤◌, min, List, [], ◌∷◌, ◌++◌, length, map, take, get_or, refl, sym, ap, ◌∙◌, arith, add_assoc}
use Rattle.std.proofs.lemmas.List.{take_more, map-append, take-map}
use Rattle.plan.specs.declared.stmt.Stmt.{Stmt}
use Rattle.plan.specs.declared.plan.Group.{Group as CodeGroup}
use Rattle.plan.specs.Plan.{Statement, Group, block}
use Rattle.plan.specs.View.{statement_of, group_of}
use Rattle.plan.specs.Lists.{list_statements, list_groups}
use Rattle.plan.specs.Lines.{lines, block_lines, group_lines, groups_lines}

block_lines-append : (xs ys : List Statement) → block_lines (block (xs ++ ys)) ≡ block_lines (block xs) + block_lines (block ys)
block_lines-append [] ys = omega arith
block_lines-append (x ∷ xs) ys = ap (λ n. lines x + n) (block_lines-append xs ys) ∙ sym (add_assoc (lines x) _ _)

groups_lines-append : (xs ys : List Group) → groups_lines (xs ++ ys) ≡ groups_lines xs + groups_lines ys
groups_lines-append [] ys = omega arith
groups_lines-append (x ∷ xs) ys = ap (λ n. group_lines x + n) (groups_lines-append xs ys) ∙ sym (add_assoc (group_lines x) _ _)

pub more_lines : (xs : List Stmt) (i : ℕ) (x : Stmt) → i < length xs → x ≡ get_or xs i x →
    block_lines (block (list_statements (take (i + 1) xs))) ≡ block_lines (block (list_statements (take i xs))) + lines (statement_of x)
more_lines xs i x h is =
    ap (λ l. block_lines (block (list_statements l))) (take_more xs i x h ∙ ap (λ y. take i xs ++ y ∷ []) (sym is))
    ∙ ap (λ l. block_lines (block l)) (map-append statement_of (take i xs) (x ∷ []))
    ∙ block_lines-append (list_statements (take i xs)) (statement_of x ∷ [])
    ∙ omega arith

pub more_group_lines : (xs : List CodeGroup) (i : ℕ) (x : CodeGroup) → i < length xs → x ≡ get_or xs i x →
    groups_lines (list_groups (take (i + 1) xs)) ≡ groups_lines (list_groups (take i xs)) + (lines (statement_of x.body) + 1)
more_group_lines xs i x h is =
    ap (λ l. groups_lines (list_groups l)) (take_more xs i x h ∙ ap (λ y. take i xs ++ y ∷ []) (sym is))
    ∙ ap groups_lines (map-append group_of (take i xs) (x ∷ []))
    ∙ groups_lines-append (list_groups (take i xs)) (group_of x ∷ [])
    ∙ omega arith

-- counts that stop at a limit
pub capped_sum : (a b c m : ℕ) → c ≡ a + b → min (min a m + min b m) m ≡ min c m
capped_sum a b c m e = omega arith

pub take_groups : (xs : List CodeGroup) (i : ℕ) → list_groups (take i xs) ≡ take i (list_groups xs)
take_groups xs i = sym (take-map group_of i xs)
