-- What the workers of a crew have before they begin, and what they know once they come back.
use Rattle.std.specs.Prelude.{◌≡◌, ℕ, List, true, sum_by}
use Rattle.atomic_table.specs.Seated.{TableId}
use Rattle.board.specs.Views.{HasFinished, IsIdle}
use Rattle.checked_plan.specs.declared.checked.Checked.{Checked}
use Rattle.interpreter.specs.declared.scratch.Scratch.{Scratch}
use Rattle.crew.specs.Private.{HasRoom}
use Rattle.crew.specs.declared.workers.Worker.{Worker}

-- a worker that may begin: its seat is of this board and has no piece to finish, and its desk has all the memory that it takes
pub record IsReady (table : TableId) (x : Checked) (count : ℕ) (suffices : Scratch → Type 0) (w : Worker) : Type 0 where
  pub board : w.seat.board ≡ table
  pub idle : IsIdle w.seat.view
  pub finished : HasFinished w.seat.view
  pub scratch : suffices w.desk.scratch
  pub room : HasRoom x count w.desk.looked

-- a worker that came back: all pieces are drawn, and it has finished its own
pub record HasDrawnAll (table : TableId) (w : Worker) : Type 0 where
  pub board : w.seat.board ≡ table
  pub idle : IsIdle w.seat.view
  pub finished : HasFinished w.seat.view
  pub drawn : w.seat.view.none_left ≡ true

-- how many of the board's seats these workers stand for
abbrev pub seats_held : List Worker → ℕ
seats_held ws = sum_by (λ w. w.seat.view.seats) ws
