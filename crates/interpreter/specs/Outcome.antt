-- What the piece of a group at a grid point gives, told by the group's number.
use Rattle.std.specs.Prelude.{◌≡◌, ℕ, List, [], Option, Some, None, ℤ, slice_get}
use Rattle.tree.specs.declared.value.Value.{Value}
use Rattle.meaning.specs.Image.View.{Picture, AreExtents}
use Rattle.plan.specs.Plan.{Group, Plan}
use Rattle.plan.specs.Certificate.Certificate.{Certificate}
use Rattle.plan.specs.Certificate.Cells.{grid_point}
use Rattle.plan.specs.Semantics.Setting.{piece_run}
use Rattle.headline.specs.Work.{numbers}

-- the numbers that the piece gives for its own cells, none where there is no such group
abbrev pub group_gives : Plan → Certificate → List ℕ → (List ℕ → List ℤ → Value) → ℕ → List ℕ → Option Group → Option (List ℤ)
group_gives p c samples cell number at None = None
group_gives p c samples cell number at (Some g) = numbers (piece_run p c samples cell number g at)

abbrev pub piece_gives : Plan → Certificate → List ℕ → (List ℕ → List ℤ → Value) → ℕ → List ℕ → Option (List ℤ)
piece_gives p c samples cell number at = group_gives p c samples cell number at (slice_get p.groups number)

-- the point of a group's grid that so many come before
abbrev pub point_in : Option Group → ℕ → List ℕ
point_in None rank = []
point_in (Some g) rank = grid_point g.grid rank

-- what the piece of a group gives that so many of its pieces come before
abbrev pub rank_gives : Plan → Certificate → List ℕ → (List ℕ → List ℤ → Value) → ℕ → ℕ → Option (List ℤ)
rank_gives p c samples cell number rank = piece_gives p c samples cell number (point_in (slice_get p.groups number) rank)

-- the picture is one that the plan can read: it has the extents of the plan's input
pub record IsInput (p : Plan) (x : Picture) : Type 0 where
  pub extents : x.extents ≡ p.input.extents
  pub raster : AreExtents x.extents
