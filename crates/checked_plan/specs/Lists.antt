-- The lists of a plan's pieces.
use Rattle.std.specs.Prelude.{◌≡◌, ℕ, List, length}
use Rattle.meaning.specs.Algorithm.{Algorithm}
use Rattle.plan.specs.Plan.{Plan}
use Rattle.plan.specs.Certificate.Certificate.{Certificate}
use Rattle.orders.specs.Work.{Work}
use Rattle.orders.specs.Lists.{own_lists, fetched_lists, needs_lists}
use Rattle.orders.specs.declared.lists.Piece.{Piece}
use Rattle.headline.specs.Work.{work_of}

-- the lists of the pieces are those of the work
pub record AreListsOf (work : Work) (pieces : List Piece) : Type 0 where
  pub count : length pieces ≡ work.pieces
  pub own : (n : ℕ) → own_lists pieces n ≡ work.own n
  pub fetched : (n : ℕ) → fetched_lists pieces n ≡ work.fetched n
  pub needs : (n : ℕ) → needs_lists pieces n ≡ work.needs n

-- whatever the input's samples
abbrev pub ListsAreOf : Algorithm → Plan → Certificate → List Piece → Type 0
ListsAreOf a p c pieces = (samples : List ℕ) → AreListsOf (work_of a p c samples) pieces
