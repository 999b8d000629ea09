-- The cells that fetch lines read at a grid point.
use Rattle.std.specs.Prelude.{List, map, flat_map, length, MatchOption, slice_get}
use Rattle.plan.specs.Plan.{Plan}
use Rattle.plan.specs.Symbols.{Symbols, points}
use Rattle.plan.specs.Certificate.Cells.{Cell, cell}
use Rattle.shares.specs.FetchLines.{FetchLine}
use Rattle.shares.specs.Lets.{NamingsAreLimited, AreNear, named}
use Rattle.shares.specs.Shared.{IsLike}

-- the cells of a line, under the symbols before the lines `let` that stand before it
abbrev pub line_cells : Symbols → FetchLine → List Cell
line_cells s x = map (cell x.fetched) (points (named x.lets s) x.region)

abbrev pub lines_cells : Symbols → List FetchLine → List Cell
lines_cells s xs = flat_map (line_cells s) xs

-- a line that reads a known group, with forms within the limits
pub record IsOpen (p : Plan) (x : FetchLine) : Type 0 where
  pub region : MatchOption (slice_get p.groups x.fetched) ⊥ (λ g. IsLike x.region (length g.region))
  pub lets : NamingsAreLimited x.lets

-- and its lines `let` come to near numbers
pub record IsTold (p : Plan) (s : Symbols) (x : FetchLine) : Type 0 where
  pub stands : IsOpen p x
  pub near : AreNear x.lets s
