-- What a board is told of its work: the own cells of each piece, and which cells the picture shows.
use Rattle.std.specs.Prelude.{ℕ, ◌^◌, ◌<◌, ◌≤◌, ℤ, pos, List, [], map, length, slice_index, slice_index_or}
use Rattle.std.specs.List.{range_with_len}
use Rattle.numeric.specs.Wrap.{IsOf}
use Rattle.meaning.specs.Image.View.{Frame, Picture, IsShape}
use Rattle.meaning.specs.Image.Raster.{natural, raster_point, sample_count}
use Rattle.orders.specs.Work.{OwnIsParted, OwnIsWhole}

pub record Layout : Type 0 where
  -- the own cells of each piece, in the order in which they are put
  pub own : List (List ℕ)
  -- how many cells there are
  pub cells : ℕ
  -- the type and the extents of the picture
  pub frame : Frame
  -- the cell that has a point of the picture
  pub cell_of : List ℤ → ℕ

-- how many pieces there are
abbrev pub pieces_of : Layout → ℕ
pieces_of plan = length plan.own

-- the own cells of piece j
abbrev pub own_of : Layout → ℕ → List ℕ
own_of plan j = slice_index_or plan.own j []

-- the i-th own cell of piece j
abbrev pub own_cell : Layout → ℕ → ℕ → ℕ
own_cell plan j i = slice_index (own_of plan j) i

-- how many samples the picture has
abbrev pub samples_in : Layout → ℕ
samples_in plan = sample_count plan.frame.extents

-- the cell of the n-th sample, in raster order
abbrev pub shown_cell : Layout → ℕ → ℕ
shown_cell plan n = plan.cell_of (raster_point plan.frame.extents n)

-- Each cell is the own cell of one piece, once, and each sample of the picture is a cell's
pub record IsSound (plan : Layout) : Type 0 where
  pub few_pieces : pieces_of plan ≤ 2 ^ 20
  pub few_cells : plan.cells ≤ 2 ^ 24
  pub parted : OwnIsParted (pieces_of plan) plan.cells (own_of plan)
  pub whole : OwnIsWhole (pieces_of plan) plan.cells (own_of plan)
  pub shape : IsShape plan.frame
  pub shown : (n : ℕ) → n < samples_in plan → shown_cell plan n < plan.cells

-- the value of a cell, where this list has them all
abbrev pub value_at : List ℤ → ℕ → ℤ
value_at values c = slice_index_or values c (pos 0)

-- what the picture shows are values of its type
abbrev pub ShowsSamples : Layout → List ℤ → Type 0
ShowsSamples plan values = (n : ℕ) → n < samples_in plan → IsOf plan.frame.ty (value_at values (shown_cell plan n))

-- the picture: the value of each point's cell, in raster order
abbrev pub picture_of : Layout → List ℤ → Picture
picture_of plan values = record {
  ty = plan.frame.ty;
  extents = plan.frame.extents;
  samples = map (λ n. natural (value_at values (shown_cell plan n))) (range_with_len 0 (samples_in plan));
}
