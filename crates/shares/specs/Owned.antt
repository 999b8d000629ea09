-- The own cells of one group's pieces, and the first flaw at own lines.
use Rattle.std.specs.Prelude.{◌≡◌, ℕ, ◌≤◌, ◌<◌, ◌==◌, if◌then◌else◌, List, [], length, map, IsTrue, IsFalse, Contains, Option, Some, None, MatchOption, slice_get}
use Rattle.plan.specs.Plan.{Plan}
use Rattle.plan.specs.Certificate.Certificate.{Certificate}
use Rattle.plan.specs.Certificate.Cells.{cells, pieces}
use Rattle.orders.specs.Work.{OwnIsParted, OwnIsWhole}
use Rattle.headline.specs.Numbers.{cell_number}
use Rattle.headline.specs.Work.{of_piece, own_cells}
use Rattle.soundness.specs.Outline.Refusals.Codes.{number_of}
use Rattle.soundness.specs.declared.outline.refusals.code.Flaw.{Flaw}
use Rattle.soundness.specs.declared.outline.refusals.code.K.{K}
use Rattle.shares.specs.Has.{IsServed}
use Rattle.shares.specs.declared.owners.Owned.{Owned}
use Rattle.shares.specs.Layout.{OwnIsInside, own_list}
use Rattle.shares.specs.Made.{HaveOwn, HasGap, IsPieceOf, Leaves, OwnCode, IsOwnFlaw, IsFirstOwn, Overlaps}

-- the own cells of each piece of the group, and none of any other piece
abbrev pub own_in : Plan → Certificate → ℕ → ℕ → List ℕ
own_in p c n i = of_piece (slice_get (pieces p) i) [] (λ j. if j.group == n then map (cell_number p) (own_cells p c j) else [])

-- the own regions of the group's pieces lie in its region
abbrev pub GroupIsInside : Plan → Certificate → ℕ → Type 0
GroupIsInside p c n = (i : ℕ) → IsPieceOf p n i → OwnIsInside p c i

-- a cell that no piece owns
abbrev pub IsLeft : Plan → Certificate → ℕ → Type 0
IsLeft p c y = (y < length (cells p)) × ((k : ℕ) → k < length (pieces p) → ¬ Contains (own_list p c k) y)

-- the own cells of the pieces, which are apart, and that each cell is one, and that all own regions stay inside, where it is said
pub record AreOwners (p : Plan) (c : Certificate) (x : Owned) : Type 0 where
  pub own : HaveOwn p c x.pieces.items
  pub parted : OwnIsParted (length (pieces p)) (length (cells p)) (own_list p c)
  pub whole : IsTrue x.whole → OwnIsWhole (length (pieces p)) (length (cells p)) (own_list p c)
  pub gap : IsFalse x.whole → (y : ℕ) × IsLeft p c y
  pub inside : IsTrue x.inside → (i : ℕ) → i < length (pieces p) → OwnIsInside p c i

-- each of the group's cells is in the own region of one piece, and its pieces' own regions stay inside
pub record IsParted (p : Plan) (c : Certificate) (n : ℕ) : Type 0 where
  pub apart : ¬ Overlaps p c n
  pub inside : ¬ Leaves p c n
  pub whole : ¬ HasGap p c n

-- the piece is the group's, and is not served
abbrev pub IsLeftAlone : Plan → Certificate → ℕ → ℕ → Type 0
IsLeftAlone p c n i = IsPieceOf p n i × ¬ IsServed p c i

-- the lowest code of what is wrong at the group's own line, if anything is
abbrev pub IsLowestCode : Plan → Certificate → ℕ → Option K → Type 0
IsLowestCode p c n None = (k : K) → ¬ OwnCode p c n k
IsLowestCode p c n (Some k) = OwnCode p c n k × ((h : K) → OwnCode p c n h → number_of k ≤ number_of h)

-- the first flaw at the own lines of the first groups, so many, if there is one
abbrev pub IsFirstFlaw : Plan → Certificate → ℕ → Option Flaw → Type 0
IsFirstFlaw p c groups None = (f : Flaw) → ¬ IsOwnFlaw p c groups f
IsFirstFlaw p c groups (Some f) = IsOwnFlaw p c groups f × IsFirstOwn p c groups f
