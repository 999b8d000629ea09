-- Stages of pieces that are computed side by side, and what their workers leave until a stage is put.
use Rattle.std.specs.Prelude.{◌≡◌, ◌⊎◌, ℕ, ◌+◌, ◌^◌, ◌<◌, ◌≤◌, List, [], ℤ, Contains, Vec, length, slice_index_or, vec_capacity}
use Rattle.std.specs.Global.{Global}
use Rattle.board.specs.Layout.{Layout, own_of, pieces_of}
use Rattle.board.specs.Seen.{IsShown, Seen}
use Rattle.board.specs.Sheets.{bits_at, IsPut}
use Rattle.checked_plan.specs.declared.checked.Checked.{Checked}
use Rattle.interpreter.specs.declared.scratch.Scratch.{Scratch}
use Rattle.crew.specs.Private.{needs_of, HasRoom}
use Rattle.crew.specs.declared.values.Desk.{Desk}

-- each of these pieces needs pieces before the first of them alone
abbrev pub IsStage : Checked → ℕ → ℕ → Type 0
IsStage x from to = (j : ℕ) → from ≤ j → j < to → (m : ℕ) → Contains (needs_of x j) m → m < from

-- each piece before this one is put
abbrev pub ArePut : Layout → List ℤ → List ℕ → ℕ → Type 0
ArePut layout values bits from = (j : ℕ) → j < from → IsPut layout values bits j

-- a list for piece j, which is not computed: it is empty, and has room for the bits of the piece's own cells
pub record IsFresh (layout : Layout) (j : ℕ) (list : Vec ℕ Global) : Type 0 where
  pub none : list.items ≡ []
  pub room : length (own_of layout j) ≤ vec_capacity list

-- lists for pieces that follow each other, from this one on
abbrev pub AreFresh : Layout → ℕ → List (Vec ℕ Global) → Type 0
AreFresh layout first lists = (i : ℕ) (d : Vec ℕ Global) → i < length lists → IsFresh layout (first + i) (slice_index_or lists i d)

-- lists for all pieces, of which those from this one on are not computed
abbrev pub AreFreshFrom : Layout → ℕ → List (Vec ℕ Global) → Type 0
AreFreshFrom layout from lists = (j : ℕ) (d : Vec ℕ Global) → from ≤ j → j < length lists → IsFresh layout j (slice_index_or lists j d)

-- piece j is computed: its list has the bits of its own cells, or it has none, and they are samples in this part of all
abbrev pub IsDone : Layout → List ℤ → Seen → ℕ → List ℕ → ℕ → Vec ℕ Global → Type 0
IsDone layout values s from part j list = (list.items ≡ bits_at values (own_of layout j)) ⊎ ((list.items ≡ []) × IsShown layout values s from part j)

abbrev pub AreDone : Layout → List ℤ → Seen → ℕ → List ℕ → ℕ → List (Vec ℕ Global) → Type 0
AreDone layout values s from part first lists = (i : ℕ) (d : Vec ℕ Global) → i < length lists → IsDone layout values s from part (first + i) (slice_index_or lists i d)

-- piece j is computed: its list has the bits of its own cells, or it has none, and they are put
abbrev pub IsLeft : Layout → List ℤ → List ℕ → ℕ → List ℕ → Type 0
IsLeft layout values bits j list = (list ≡ bits_at values (own_of layout j)) ⊎ ((list ≡ []) × IsPut layout values bits j)

-- of each of so many pieces that follow each other, what it needs is put
abbrev pub CanCompute : Layout → List ℤ → Checked → List ℕ → ℕ → ℕ → Type 0
CanCompute layout values x bits first count =
    (j : ℕ) → first ≤ j → j < first + count → (m : ℕ) → Contains (needs_of x j) m → (m < pieces_of layout) × IsPut layout values bits m

-- a desk with all the memory that its worker takes
pub record IsDesk (layout : Layout) (x : Checked) (suffices : Scratch → Type 0) (d : Desk) : Type 0 where
  pub scratch : suffices d.scratch
  pub looked : HasRoom x (pieces_of layout) d.looked

abbrev pub AreDesks : Layout → Checked → (Scratch → Type 0) → List Desk → Type 0
AreDesks layout x suffices desks = (w : ℕ) (d : Desk) → w < length desks → IsDesk layout x suffices (slice_index_or desks w d)

-- workers may compute pieces that follow each other, from this one on: each worker has a desk, and each piece a list, and they have
-- a part of the samples, which begins at this place of all
pub record CanWork {D : Type 0} (desk : D → Desk) (layout : Layout) (values : List ℤ) (x : Checked) (suffices : Scratch → Type 0) (bits : List ℕ) (first from : ℕ) (desks : List D) (lists : List (Vec ℕ Global)) (part : List ℕ) : Type 0 where
  pub some : 0 < length desks
  pub few : length desks ≤ 64
  pub inside : first + length lists ≤ pieces_of layout
  pub short : from + length part < 2 ^ 32
  pub can : CanCompute layout values x bits first (length lists)
  pub each_desk : (w : ℕ) (d : D) → w < length desks → IsDesk layout x suffices (desk (slice_index_or desks w d))
  pub each_list : AreFresh layout first lists

-- they have computed them
pub record HasWorked {D : Type 0} (desk : D → Desk) (layout : Layout) (values : List ℤ) (x : Checked) (suffices : Scratch → Type 0) (s : Seen) (first from : ℕ) (desks : List D) (lists : List (Vec ℕ Global)) (part : List ℕ) : Type 0 where
  pub each_desk : (w : ℕ) (d : D) → w < length desks → IsDesk layout x suffices (desk (slice_index_or desks w d))
  pub each_list : AreDone layout values s from part first lists
