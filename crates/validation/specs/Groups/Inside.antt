-- Lines inside a group, each with what is in scope there.
use Rattle.std.specs.Prelude.{◌≡◌, ℕ, Some, slice_get, ◌⊎◌}
use Rattle.plan.specs.Plan.{Statement, Seq, For, Let, First, Guard, Alloc, Fetch, Store, Publish, Statements, Empty, Then, Group, Plan}
use Rattle.plan.specs.Lines.{group_line}
use Rattle.soundness.specs.Outline.Flaws.{line_told}
use Rattle.validation.specs.Groups.Lines.{Here, in_loop, inside, in_later, before, after, is_empty, start}

-- This is so of some line in the statement, where that stands so: of its own first line, or of one of the statements that it holds.
module _ (IsSo : Statement → Here → Type 0) where
  abbrev mutual
    pub Inside : Statement → Here → Type 0
    Inside (Seq all) here = InsideOne all here
    Inside (For i x kind body) here = IsSo (For i x kind body) here ⊎ Inside body (in_loop i here)
    Inside (Let i pick forms) here = IsSo (Let i pick forms) here
    Inside (First i a b) here = IsSo (First i a b) here ⊎ (Inside a (inside here) ⊎ Inside b (in_later a here))
    Inside (Guard low high body) here = IsSo (Guard low high body) here ⊎ Inside body (inside here)
    Inside (Alloc b f places) here = IsSo (Alloc b f places) here
    Inside (Fetch b g region) here = IsSo (Fetch b g region) here
    Inside (Store b k at e) here = IsSo (Store b k at e) here
    Inside (Publish k) here = IsSo (Publish k) here

    pub InsideOne : Statements → Here → Type 0
    InsideOne Empty here = ⊥
    InsideOne (Then a rest) here = Inside a (before (is_empty rest) here) ⊎ InsideOne rest (after a here)

-- this is so of a statement of the group of this number, where it stands at the line
pub record StandsIn (p : Plan) (IsSo : ℕ → Group → Statement → Here → Type 0) (line : ℕ) : Type 0 where
  pub number : ℕ
  pub group : Group
  pub there : slice_get p.groups number ≡ Some group
  pub stands : Inside (λ s here. (line_told here.line ≡ line) × IsSo number group s here) group.body (start (line_told (group_line p number)) group)

-- this is so of the group of this number, whose line `group` is the line
pub record Begins (p : Plan) (IsSo : ℕ → Group → Type 0) (line : ℕ) : Type 0 where
  pub number : ℕ
  pub group : Group
  pub there : slice_get p.groups number ≡ Some group
  pub line_is : line_told (group_line p number) ≡ line
  pub so : IsSo number group
