-- What a worker needs of a plan's pieces and of its desk, by a board of this layout and these values.
use Rattle.std.specs.Prelude.{List, ℤ}
use Rattle.algo.specs.View.{picture_of}
use Rattle.board.specs.Layout.{Layout, pieces_of}
use Rattle.checked_plan.specs.View.{certificate_checked, plan_checked}
use Rattle.crew.specs.Private.{CanRun, HasMemory, HasRoom}
use Rattle.crew.specs.declared.values.Desk.{Desk}
use Rattle.crew.specs.declared.values.Pieces.{Pieces}

-- each piece gives the values of its own cells once it is told the bits of those that it fetches
abbrev pub ArePieces : Layout → List ℤ → Pieces → Type 0
ArePieces layout values p = CanRun layout values p.checked.now (picture_of p.inputs.now) p.most

-- the desk has all the memory that the runs of all these pieces take
pub record IsDeskFor (layout : Layout) (p : Pieces) (d : Desk) : Type 0 where
  pub scratch : HasMemory layout (plan_checked p.checked.now) (certificate_checked p.checked.now) d.scratch
  pub room : HasRoom p.checked.now (pieces_of layout) d.looked
