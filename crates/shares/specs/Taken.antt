-- A table of the cells that are taken, as far as it is filled.
use Rattle.std.specs.Prelude.{◌≡◌, ℕ, ◌+◌, ◌<◌, ◌≤◌, ◌/◌, ◌%◌, length, slice_index, Bool, not, List, Option, map, is_some, nat_eq}
use Rattle.std.specs.Int.{bit_at}
use Rattle.std.specs.List.{count_by, range_with_len}
use Rattle.orders.specs.Claimed.{IsClaimed}
use Rattle.orders.specs.declared.cell_runs.CellRun.{CellRun}

-- the own cells before place a of piece p are taken, and no other cell is. They are apart.
abbrev pub AreTaken : (ℕ → List ℕ) → List Bool → ℕ → ℕ → Type 0
AreTaken own taken p a = (owners : List (Option ℕ)) × IsClaimed own owners p a × (taken ≡ map is_some owners)

-- how many cells are not taken
abbrev pub free_count : List Bool → ℕ
free_count taken = count_by not taken

-- the cells of the run stand in the list from place a on
abbrev pub HasRun : List ℕ → ℕ → CellRun → Type 0
HasRun cells a r = (k : ℕ) → k < r.count → (a + k < length cells) × (slice_index cells (a + k) ≡ r.first + k)

-- ---- the table by words of 64 bits

-- the bit of a cell
abbrev pub mark_of : List ℕ → ℕ → ℕ
mark_of words x = bit_at (slice_index words (x / 64)) (x % 64)

-- whether each of the first cells, so many, is taken
abbrev pub marks_in : List ℕ → ℕ → List Bool
marks_in words count = map (λ x. nat_eq (mark_of words x) 1) (range_with_len 0 count)

-- no bit of the word from one up to another is set
abbrev pub IsClear : ℕ → ℕ → ℕ → Type 0
IsClear word low high = (i : ℕ) → low ≤ i → i < high → bit_at word i ≡ 0

-- the new word has these bits set, and the others as in the old one
pub record HasPart (old new low high : ℕ) : Type 0 where
  pub set : (i : ℕ) → low ≤ i → i < high → bit_at new i ≡ 1
  pub below : (i : ℕ) → i < low → bit_at new i ≡ bit_at old i
  pub above : (i : ℕ) → high ≤ i → bit_at new i ≡ bit_at old i

-- none of the cells from one up to another is taken
abbrev pub AreClear : List ℕ → ℕ → ℕ → Type 0
AreClear words first end = (x : ℕ) → first ≤ x → x < end → mark_of words x ≡ 0

-- of the cells from one up to another those before a place, none of which was taken, are taken now, and all others are as they were
pub record AreMarked (old new : List ℕ) (first end place : ℕ) : Type 0 where
  pub clear : (x : ℕ) → first ≤ x → x < end → x < place → mark_of old x ≡ 0
  pub set : (x : ℕ) → first ≤ x → x < end → x < place → mark_of new x ≡ 1
  pub before : (x : ℕ) → x < first → mark_of new x ≡ mark_of old x
  pub behind : (x : ℕ) → end ≤ x → mark_of new x ≡ mark_of old x
  pub later : (x : ℕ) → place ≤ x → mark_of new x ≡ mark_of old x
