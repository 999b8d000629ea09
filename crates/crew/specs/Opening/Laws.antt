-- What the board of a checked plan means to its algorithm.
use Rattle.std.specs.Prelude.{◌≡◌, ℕ, ◌<◌, List, map, Some, ℤ}
use Rattle.algo.specs.declared.inputs.Inputs.{Inputs}
use Rattle.algo.specs.View.{IsFor, picture_said, samples_of}
use Rattle.meaning.specs.Functions.{AreSamples}
use Rattle.orders.specs.Work.{Work, IsSound as IsSoundWork}
use Rattle.headline.specs.Work.{target, work_of}
use Rattle.checked_plan.specs.declared.checked.Checked.{Checked}
use Rattle.checked_plan.specs.View.{algorithm_checked, plan_checked, certificate_checked}
use Rattle.board.specs.Layout.{pieces_of, own_of, value_at, picture_of, IsSound, ShowsSamples}
use Rattle.crew.specs.Opening.Layouts.{layout_of, values_of}

-- the work of a checked plan on these samples of the input
abbrev pub work_checked : Checked → List ℕ → Work
work_checked x samples = work_of (algorithm_checked x) (plan_checked x) (certificate_checked x) samples

-- the right value of each cell, by its number
abbrev pub target_checked : Checked → List ℕ → ℕ → ℤ
target_checked x samples = target (algorithm_checked x) (plan_checked x) samples

-- the pieces part the cells among them, and private runs on right values give right values
abbrev pub WorksAreSound : Type 0
WorksAreSound = (x : Checked) (samples : List ℕ) → AreSamples (algorithm_checked x) samples → ∥ IsSoundWork (work_checked x samples) (target_checked x samples) ∥₁

abbrev pub LayoutsAreSound : Type 0
LayoutsAreSound = (x : Checked) → IsSound (layout_of x)

-- the layout has the work's pieces, cells and own cells, whatever the input's samples
pub record HasOwnOf (x : Checked) (samples : List ℕ) : Type 0 where
  pub pieces : pieces_of (layout_of x) ≡ (work_checked x samples).pieces
  pub cells : (layout_of x).cells ≡ (work_checked x samples).cells
  pub own : (j : ℕ) → own_of (layout_of x) j ≡ (work_checked x samples).own j

abbrev pub OwnIsOfWork : Type 0
OwnIsOfWork = (x : Checked) (samples : List ℕ) → HasOwnOf x samples

-- the value of a cell on the board is the algorithm's
abbrev pub ValuesAreTargets : Type 0
ValuesAreTargets = (x : Checked) (i : Inputs) (c : ℕ) → value_at (values_of x i) c ≡ target_checked x (samples_of i) c

abbrev pub ValuesAreSamples : Type 0
ValuesAreSamples = (x : Checked) (i : Inputs) → IsFor x.algo.now i → ShowsSamples (layout_of x) (values_of x i)

-- the board's picture is the algorithm's
abbrev pub PicturesAreSaid : Type 0
PicturesAreSaid = (x : Checked) (i : Inputs) → IsFor x.algo.now i → picture_of (layout_of x) (values_of x i) ≡ picture_said (algorithm_checked x) (samples_of i)

-- the private run of piece j, where its fetched cells have the algorithm's values, gives the values of its own cells
abbrev pub RunsGiveValues : Type 0
RunsGiveValues =
    (x : Checked) (i : Inputs) (j : ℕ) → IsFor x.algo.now i → j < pieces_of (layout_of x) →
    (work_checked x (samples_of i)).private_run j (map (target_checked x (samples_of i)) ((work_checked x (samples_of i)).fetched j)) ≡ Some (map (value_at (values_of x i)) (own_of (layout_of x) j))
