-- Plans that a text can tell apart: each body is a block, and no block stands directly in another.
use Rattle.std.specs.Prelude.{Bool, true, false, ◌&&◌}
use Rattle.std.specs.List.{list_all}
use Rattle.plan.specs.Plan.{Statement, Seq, For, First, Guard, Statements, Empty, Then, Group, Plan}

abbrev mutual
  pub is_block : Statement → Bool
  is_block (Seq all) = are_single all
  is_block _ = false

  pub is_single : Statement → Bool
  is_single (Seq all) = false
  is_single (For i x kind body) = is_block body
  is_single (First i a b) = is_block a && is_block b
  is_single (Guard low high body) = is_block body
  is_single _ = true

  pub are_single : Statements → Bool
  are_single Empty = true
  are_single (Then a rest) = is_single a && are_single rest

abbrev pub has_block : Group → Bool
has_block g = is_block g.body

abbrev pub is_canonical : Plan → Bool
is_canonical p = list_all has_block p.groups
