-- What a piece does, cell by cell and in order. It does not depend on what memory holds.
use Rattle.std.specs.Prelude.{ℕ, zero, suc, true, false, Bool, ◌&&◌, if◌then◌else◌, List, [], ◌∷◌, ◌++◌, ℤ, pos, int_le, flat_map, map, take, drop}
use Rattle.lin.specs.Forms.{Form}
use Rattle.tree.specs.Term.{Term}
use Rattle.plan.specs.declared.stmt.Pick.{Pick}
use Rattle.plan.specs.declared.stmt.Pick.TheVariants.{Min, Max}
use Rattle.plan.specs.Plan.{Index, At, Found, Coordinate, Statement, Seq, For, Let, First, Guard, Alloc, Fetch, Store, Publish, Statements, Empty, Then}
use Rattle.plan.specs.Symbols.{Symbols, bind, form_value, largest, smallest, turns, points}
use Rattle.plan.specs.Rooms.{Room, room}

-- what a group's lines refer to: the function of each group, the function and the number of coordinates of each buffer, and
-- the points that the piece owns
pub record Setting : Type 0 where
  pub group_function : ℕ → List ℕ
  pub buffer_function : ℕ → List ℕ
  pub dimensions : ℕ → ℕ
  pub own : Symbols → List (List ℤ)

-- a coordinate of a store: known, or found by an expression
pub data Target : Type 0 where
  Fixed : ℤ → Target
  Open : Term → Target

abbrev pub index_target : Symbols → Index → Target
index_target s (At l) = Fixed (form_value l s)
index_target s (Found e) = Open e

abbrev pub target : Symbols → Coordinate → Target
target s c = index_target s c.index

-- the number of a known coordinate
abbrev pub fixed : Target → ℤ
fixed (Fixed z) = z
fixed (Open e) = pos 0

abbrev pub are_fixed : List Target → Bool
are_fixed [] = true
are_fixed (Fixed z ∷ ts) = are_fixed ts
are_fixed (Open e ∷ ts) = false

-- one cell at a time, but for an allocation
pub data Action : Type 0 where
  -- a buffer with these places, all unset
  Allot : (buffer : ℕ) (rooms : List Room) → Action
  -- a fetched cell is set
  Take : (buffer : ℕ) (function : List ℕ) (point : List ℤ) → Action
  -- a pure definition's value is set
  Put : (buffer : ℕ) (function : List ℕ) (names : List (List ℕ)) (point : List ℤ) (value : Term) → Action
  -- an update sets the place that its left side finds, for a reduction point
  Change : (buffer : ℕ) (function : List ℕ) (definition : ℕ) (names : List (List ℕ)) (at : List Target) (over : List ℤ) (value : Term) → Action
  -- an own cell gets its value
  Give : (claim : ℕ) (point : List ℤ) → Action

-- a pure definition's store has forms alone and no reduction variable
abbrev pub is_pure_store : ℕ → List Target → List ℤ → Bool
is_pure_store zero at [] = are_fixed at
is_pure_store zero at (z ∷ zs) = false
is_pure_store (suc k) at over = false

abbrev pub action_for : Bool → ℕ → List ℕ → ℕ → List (List ℕ) → List Target → List ℤ → Term → Action
action_for true b f k names at over e = Put b f names (map fixed at) e
action_for false b f k names at over e = Change b f k names at over e

abbrev pub store_action : ℕ → List ℕ → ℕ → List (List ℕ) → List Target → List ℤ → Term → Action
store_action b f k names at over e = action_for (is_pure_store k at over) b f k names at over e

-- the symbols after a statement of a block
abbrev pub after : Statement → Symbols → Symbols
after (Let i Min ls) s = bind s i (smallest s ls) true
after (Let i Max ls) s = bind s i (largest s ls) true
after _ s = s

module _ (setting : Setting) where
  -- the coordinates of the buffer's function, and after them the reduction variables
  abbrev pub stored : ℕ → ℕ → List Coordinate → Term → Symbols → Action
  stored b k at e s =
      let n = setting.dimensions b in
      store_action b (setting.buffer_function b) k (map (λ c. c.variable) at) (map (target s) (take n at)) (map (λ c. fixed (target s c)) (drop n at)) e

  abbrev mutual
    pub actions : Statement → Symbols → List Action
    actions (Seq all) s = block_actions all s
    actions (For i x kind body) s = flat_map (λ z. actions body (bind s i z (int_le z (largest s x.lower)))) (turns s x)
    actions (Let i pick ls) s = []
    actions (First i a b) s = if s.first i then actions a s else actions b s
    actions (Guard low high body) s = if int_le (form_value low s) (form_value high s) then actions body s else []
    actions (Alloc b f places) s = Allot b (map (room s) places) ∷ []
    actions (Fetch b g region) s = map (Take b (setting.group_function g)) (points s region)
    actions (Store b k at e) s = stored b k at e s ∷ []
    actions (Publish c) s = map (Give c) (setting.own s)

    pub block_actions : Statements → Symbols → List Action
    block_actions Empty s = []
    block_actions (Then a rest) s = actions a s ++ block_actions rest (after a s)
