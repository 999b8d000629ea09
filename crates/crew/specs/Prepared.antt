-- What a run of a checked plan holds before it begins: a board that was just opened, and all the memory that its workers take.
use Rattle.std.specs.Prelude.{◌≡◌, ◌<◌, ◌≤◌, List, ℕ, ℤ, All, Vec, length}
use Rattle.std.specs.Global.{Global}
use Rattle.algo.specs.View.{picture_said, samples_of}
use Rattle.atomic_table.specs.Seated.{TableId}
use Rattle.board.specs.Layout.{Layout, pieces_of, picture_of}
use Rattle.checked_plan.specs.View.{algorithm_checked, certificate_checked, plan_checked}
use Rattle.crew.specs.Crews.{ArePieces, IsDeskFor}
use Rattle.crew.specs.Private.{HasMemory}
use Rattle.crew.specs.Stages.{AreDesks, AreFresh}
use Rattle.crew.specs.Workers.{seats_held, IsReady}
use Rattle.crew.specs.declared.values.Desk.{Desk}
use Rattle.crew.specs.declared.values.Pieces.{Pieces}
use Rattle.crew.specs.declared.prepared.Way.{Way}
use Rattle.crew.specs.declared.prepared.Way.TheVariants.{AtBoard, InStages}
use Rattle.crew.specs.declared.workers.Worker.{Worker}
use Rattle.meaning.specs.Image.View.{Picture}

-- the picture that the algorithm says of the input
abbrev pub said_of : Pieces → Picture
said_of p = picture_said (algorithm_checked p.checked.now) (samples_of p.inputs.now)

-- at this board: some workers, who stand for all its seats, and of whom each may begin
pub record IsPrepared (layout : Layout) (values : List ℤ) (board : TableId) (p : Pieces) (ws : List Worker) : Type 0 where
  pub said : picture_of layout values ≡ said_of p
  pub pieces : ArePieces layout values p
  pub some : 0 < length ws
  pub seats : seats_held ws ≡ 64
  pub ready : All (IsReady board p.checked.now (pieces_of layout) (HasMemory layout (plan_checked p.checked.now) (certificate_checked p.checked.now))) ws

-- some workers, each with a desk, and a list for each piece, of which none is computed
pub record IsPreparedInStages (layout : Layout) (values : List ℤ) (p : Pieces) (ds : List Desk) (ls : List (Vec ℕ Global)) : Type 0 where
  pub said : picture_of layout values ≡ said_of p
  pub pieces : ArePieces layout values p
  pub some : 0 < length ds
  pub few : length ds ≤ 64
  pub desks : AreDesks layout p.checked.now (HasMemory layout (plan_checked p.checked.now) (certificate_checked p.checked.now)) ds
  pub all : length ls ≡ pieces_of layout
  pub lists : AreFresh layout 0 ls

-- either of the two
abbrev pub CanBegin : {J : Type 0} → Layout → List ℤ → Way J → Pieces → Type 0
CanBegin layout values (AtBoard board workers) p = IsPrepared layout values board p workers.items
CanBegin layout values (InStages sheet desks lists) p = IsPreparedInStages layout values p desks.items lists.items

-- a desk, for one worker who has the cells alone
pub record IsPreparedAlone (layout : Layout) (values : List ℤ) (p : Pieces) (d : Desk) : Type 0 where
  pub said : picture_of layout values ≡ said_of p
  pub pieces : ArePieces layout values p
  pub desk : IsDeskFor layout p d
