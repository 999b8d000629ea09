-- Stores that leave their buffers where they go past the i32 numbers: of these that is told, and no number that may be too large.
use Rattle.std.specs.Prelude.{◌≡◌, ◌==◌, ◌+◌, ◌-◌, ◌<◌, ◌≤◌, ◌^◌, ◌&&◌, ◌||◌, nat_le, nat_lt, not, ℕ, Bool, true, false, if◌then◌else◌, List, [], ◌∷◌, length, Some, slice_get}
use Rattle.std.specs.Int.RustNames.{unsigned_abs}
use Rattle.std.specs.List.{list_all}
use Rattle.lin.specs.Forms.{Form}
use Rattle.lin.specs.declared.form.Multiple.{Multiple}
use Rattle.plan.specs.declared.stmt.Places.{Places}
use Rattle.plan.specs.declared.stmt.Places.TheVariants.{From, Folded}
use Rattle.plan.specs.Plan.{Plan, Group, Statement, Seq, For, Let, First, Guard, Alloc, Fetch, Store, Publish, Statements, Empty, Then}
use Rattle.plan.specs.Lines.{body_line, group_line, lines}
use Rattle.soundness.specs.Outline.Flaws.{line_told}
use Rattle.validation.specs.Groups.Lines.{on}

-- the factors come to at most so much in all
abbrev pub factors_fit : ℕ → List Multiple → Bool
factors_fit most [] = true
factors_fit most (t ∷ ts) = if nat_lt most (unsigned_abs t.factor) then false else factors_fit (most - unsigned_abs t.factor) ts

-- the form is an i32 number where its symbols are below 2^20
abbrev pub is_near_form : Form → Bool
is_near_form f = nat_le (unsigned_abs f.constant) (2 ^ 30) && factors_fit (2 ^ 9) f.terms

-- the places of a dimension begin near 0; where they are folded, no coordinate leaves them
abbrev pub is_left : Places → Bool
is_left (From l n) = is_near_form l
is_left (Folded n) = false

abbrev mutual
  -- each line `alloc` of the buffer has so many dimensions, whose places begin near 0
  pub leaves : ℕ → ℕ → Statement → Bool
  leaves b n (Seq all) = all_leave b n all
  leaves b n (For i x kind body) = leaves b n body
  leaves b n (Let i pick ls) = true
  leaves b n (First i x y) = leaves b n x && leaves b n y
  leaves b n (Guard low high body) = leaves b n body
  leaves b n (Alloc m f places) = not (m == b) || ((length places == n) && list_all is_left places)
  leaves b n (Fetch m g region) = true
  leaves b n (Store m k at e) = true
  leaves b n (Publish c) = true

  pub all_leave : ℕ → ℕ → Statements → Bool
  all_leave b n Empty = true
  all_leave b n (Then a rest) = leaves b n a && all_leave b n rest

-- at this line stands a store into the buffer, with so many coordinates, where the statement begins at the line `begun`
module _ (buffer coordinates line : ℕ) where
  abbrev mutual
    pub stores_at : ℕ → Statement → Bool
    stores_at begun (Seq all) = some_stores_at begun all
    stores_at begun (For i x kind body) = stores_at (on begun 1) body
    stores_at begun (Let i pick ls) = false
    stores_at begun (First i x y) = stores_at (on begun 1) x || stores_at (on begun (lines x + 2)) y
    stores_at begun (Guard low high body) = stores_at (on begun 1) body
    stores_at begun (Alloc m f places) = false
    stores_at begun (Fetch m g region) = false
    stores_at begun (Store m k at e) = (begun == line) && ((m == buffer) && (length at == coordinates))
    stores_at begun (Publish c) = false

    pub some_stores_at : ℕ → Statements → Bool
    some_stores_at begun Empty = false
    some_stores_at begun (Then a rest) = stores_at begun a || some_stores_at (on begun (lines a)) rest

-- at the line stands a store of a group, into a buffer of which each line `alloc` there has a dimension for each of the store's coordinates, with places that begin near 0:
-- it leaves the buffer where it goes past the i32 numbers
pub record LeavesBuffer (p : Plan) (line : ℕ) : Type 0 where
  pub number : ℕ
  pub group : Group
  pub stands : slice_get p.groups number ≡ Some group
  pub from : line_told (body_line p number) ≤ line
  pub to : line < line_told (group_line p (number + 1))
  pub buffer : ℕ
  pub coordinates : ℕ
  pub stores : stores_at buffer coordinates line (line_told (body_line p number)) group.body ≡ true
  pub leaves_all : leaves buffer coordinates group.body ≡ true
