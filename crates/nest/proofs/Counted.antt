-- A plan's lines are as many as its statements are said to take.
use Rattle.std.proofs.Common.{◌≡◌, ℕ, ◌+◌, List, [], ◌∷◌, ◌++◌, length, refl, arith, length-append}
use Rattle.plan.specs.Plan.{Statement, Seq, For, Let, First, Guard, Alloc, Fetch, Store, Publish, Statements, Empty, Then, Group, Plan}
use Rattle.plan.specs.Lines as nest
use Rattle.nest.specs.Blocks.Line.{ElseLine, EndLine}
use Rattle.nest.specs.Blocks.Flat.{statement_lines, block_lines, group_lines, groups_lines, plan_lines}

mutual
  pub statement_count : (s : Statement) → length (statement_lines s) ≡ nest.lines s
  statement_count (Seq all) = block_count all
  statement_count (For i x kind body) = omega (arith, statement_count body, length-append (statement_lines body) (EndLine ∷ []))
  statement_count (Let i pick forms) = refl
  statement_count (First i a b) = omega (arith, statement_count a, statement_count b, length-append (statement_lines b) (EndLine ∷ []), length-append (statement_lines a) (ElseLine ∷ (statement_lines b ++ EndLine ∷ [])))
  statement_count (Guard low high body) = omega (arith, statement_count body, length-append (statement_lines body) (EndLine ∷ []))
  statement_count (Alloc b f places) = refl
  statement_count (Fetch b g region) = refl
  statement_count (Store b k at e) = refl
  statement_count (Publish c) = refl

  pub block_count : (all : Statements) → length (block_lines all) ≡ nest.block_lines all
  block_count Empty = refl
  block_count (Then a rest) = omega (arith, statement_count a, block_count rest, length-append (statement_lines a) (block_lines rest))

pub groups_count : (n : ℕ) (gs : List Group) → length (groups_lines n gs) ≡ nest.groups_lines gs
groups_count n [] = refl
groups_count n (g ∷ gs) = omega (arith, statement_count g.body, groups_count (n + 1) gs, length-append (group_lines n g) (groups_lines (n + 1) gs))

pub plan_count : (p : Plan) → length (plan_lines p) + 1 ≡ nest.certificate_line p
plan_count p = omega (arith, groups_count 0 p.groups)
