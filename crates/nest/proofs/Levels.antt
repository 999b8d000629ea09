-- Open blocks, the last opened first.
use Rattle.std.proofs.Common.{◌≡◌, List, [], ◌∷◌, ◌++◌, map, length, arith, refl, ap}
use Rattle.std.proofs.lemmas.List.{reverse-append, map-append}
use Rattle.plan.specs.declared.stmt.Stmt.{Stmt}
use Rattle.plan.specs.declared.plan.Group.{Group}
use Rattle.plan.specs.View.{statement_of, group_of}
use Rattle.plan.specs.Lists.{list_statements, list_groups}
use Rattle.nest.specs.declared.blocks.blocks.Level.{Level}
use Rattle.nest.specs.Blocks.Drafts.{level_of, levels_of}

pub levels_push : (ls : List Level) (l : Level) → levels_of (ls ++ l ∷ []) ≡ level_of l ∷ levels_of ls
levels_push ls l = ap (map level_of) (reverse-append ls (l ∷ []))

pub statements_push : (xs : List Stmt) (x : Stmt) → list_statements (xs ++ x ∷ []) ≡ list_statements xs ++ statement_of x ∷ []
statements_push xs x = map-append statement_of xs (x ∷ [])

pub groups_push : (xs : List Group) (x : Group) → list_groups (xs ++ x ∷ []) ≡ list_groups xs ++ group_of x ∷ []
groups_push xs x = map-append group_of xs (x ∷ [])

pub levels_none : (ls : List Level) → ls ≡ [] → levels_of ls ≡ []
levels_none ls e = ap levels_of e

pub groups_count : (xs : List Group) → length (list_groups xs) ≡ length xs
groups_count [] = refl
groups_count (x ∷ xs) = omega (arith, groups_count xs)
