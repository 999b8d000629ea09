-- The lists of pieces as they are made.
use Rattle.std.specs.Prelude.{false, Option, None, suc, ◌+◌, ◌-◌, ◌≤◌, ◌^◌, ◌==◌, if◌then◌else◌, [], ◌∷◌, min, MatchOption, ◌≡◌, ℕ, ◌<◌, List, length, Some, Contains, slice_get, ◌⊎◌}
use Rattle.plan.specs.Plan.{Plan}
use Rattle.plan.specs.Certificate.Certificate.{Certificate}
use Rattle.plan.specs.Lines.{certificate_line}
use Rattle.plan.specs.declared.certificate.cert.Own.{Own}
use Rattle.plan.specs.declared.certificate.cert.Need.{Need}
use Rattle.plan.specs.Certificate.Lines.{own_line, need_line}
use Rattle.plan.specs.Certificate.Cells.{first_cell, pieces}
use Rattle.orders.specs.Work.{Work}
use Rattle.orders.specs.declared.lists.Piece.{Piece}
use Rattle.orders.specs.Lists.{own_lists, fetched_lists, needs_lists}
use Rattle.soundness.specs.declared.outline.refusals.code.Flaw.{Flaw as FlawHeld}
use Rattle.soundness.specs.declared.outline.refusals.code.K.{K}
use Rattle.soundness.specs.declared.outline.refusals.code.K.TheVariants.{K9, K10, K11, K14}
use Rattle.soundness.specs.Outline.Refusals.Codes.{is_before}
use Rattle.shares.specs.declared.answer.SharesError.{SharesError}
use Rattle.shares.specs.declared.answer.SharesError.TheVariants.{Flaw, Memory}
use Rattle.shares.specs.declared.lists.Looks.{Looks}
use Rattle.shares.specs.declared.lists.Trouble.{Trouble}
use Rattle.shares.specs.declared.lists.Trouble.TheVariants.{Unserved, Large, Memory as Want}
use Rattle.shares.specs.declared.stop.Stop.{Stop}
use Rattle.shares.specs.declared.stop.Stop.TheVariants.{Unserved as StopUnserved, Large as StopLarge, Memory as StopWant}
use Rattle.shares.specs.Layout.{own_list, fetched_list, needs_list, FetchesCells, OwnIsInside}
use Rattle.shares.specs.Counts.{FetchIsRefused, FetchPasses, NeedPasses}
use Rattle.shares.specs.Faults.{IsApart}
use Rattle.shares.specs.Has.{AreFew, NeedsPieces, IsServed, fetched_before}

-- the own cells of each piece are the plan's
pub record HaveOwn (p : Plan) (c : Certificate) (xs : List Piece) : Type 0 where
  pub count : length xs ≡ length (pieces p)
  pub each : (n : ℕ) (x : Piece) → slice_get xs n ≡ Some x → x.own ≡ own_list p c n

-- what a piece looks at is the plan's
pub record AreLooks (p : Plan) (c : Certificate) (n : ℕ) (x : Looks) : Type 0 where
  pub fetched : x.fetched.items ≡ fetched_list p n
  pub needs : x.needs.items ≡ needs_list p c n
  pub known : FetchesCells p n
  pub pieces : NeedsPieces p c n

-- the lists of a piece are the plan's
pub record IsMade (p : Plan) (c : Certificate) (n : ℕ) (x : Piece) : Type 0 where
  pub own : x.own ≡ own_list p c n
  pub fetched : x.fetched.items ≡ fetched_list p n
  pub needs : x.needs.items ≡ needs_list p c n
  pub known : FetchesCells p n
  pub pieces : NeedsPieces p c n

abbrev pub AreMade : Plan → Certificate → List Piece → Type 0
AreMade p c xs = (n : ℕ) (x : Piece) → slice_get xs n ≡ Some x → IsMade p c n x

-- the lists of the pieces are those of the work
pub record AreListsOf (work : Work) (made : List Piece) : Type 0 where
  pub count : length made ≡ work.pieces
  pub own : (n : ℕ) → own_lists made n ≡ work.own n
  pub fetched : (n : ℕ) → fetched_lists made n ≡ work.fetched n
  pub needs : (n : ℕ) → needs_lists made n ≡ work.needs n

-- the place of a group's own line among the own lines
abbrev pub own_place : List Own → ℕ → ℕ
own_place [] g = 0
own_place (o ∷ os) g = if o.group == g then 0 else suc (own_place os g)

abbrev pub next_place : Option ℕ → Option ℕ
next_place None = None
next_place (Some i) = Some (suc i)

-- the place of a group's first need line among the need lines, if it has one
abbrev pub need_place : List Need → ℕ → Option ℕ
need_place [] g = None
need_place (n ∷ ns) g = if n.group == g then Some 0 else next_place (need_place ns g)

-- the piece is the group's
abbrev pub IsPieceOf : Plan → ℕ → ℕ → Type 0
IsPieceOf p n piece = MatchOption (slice_get (pieces p) piece) ⊥ (λ j. j.group ≡ n)

-- some own cell of a piece of the group stands in another place or in another piece's list
abbrev pub Overlaps : Plan → Certificate → ℕ → Type 0
Overlaps p c n = (piece : ℕ) × IsPieceOf p n piece × ¬ IsApart p c piece

-- the own region of a piece of the group leaves the group's region
abbrev pub Leaves : Plan → Certificate → ℕ → Type 0
Leaves p c n = (piece : ℕ) × IsPieceOf p n piece × ¬ OwnIsInside p c piece

-- a cell of the group is owned by none
abbrev pub HasGap : Plan → Certificate → ℕ → Type 0
HasGap p c n = (x : ℕ) × (first_cell p.groups n ≤ x) × (x < first_cell p.groups (n + 1)) × ((k : ℕ) → k < length (pieces p) → ¬ Contains (own_list p c k) x)

-- a piece of the group is not served
abbrev pub IsUnserved : Plan → Certificate → ℕ → Type 0
IsUnserved p c n = (piece : ℕ) × IsPieceOf p n piece × ¬ IsServed p c piece

-- what a code says of a group; no other code is told of one
abbrev pub CodeMeans : Plan → Certificate → ℕ → K → Type 0
CodeMeans p c n K9 = Overlaps p c n
CodeMeans p c n K10 = Leaves p c n ⊎ HasGap p c n
CodeMeans p c n K11 = IsUnserved p c n
CodeMeans p c n k = ⊥

-- a group's own line
abbrev pub owns_line : Plan → Certificate → ℕ → ℕ
owns_line p c n = own_line (certificate_line p) (own_place c.own n)

-- a group's first need line, or its own line where it has none
abbrev pub line_at : Plan → Certificate → ℕ → Option ℕ → ℕ
line_at p c n None = owns_line p c n
line_at p c n (Some i) = need_line c (certificate_line p) i

abbrev pub needs_line : Plan → Certificate → ℕ → ℕ
needs_line p c n = line_at p c n (need_place c.needs n)

-- K9 and K10 stand at the group's own line, K11 at its first need line, or its own line where it has none; lines past the greatest
-- `u32` count as that
abbrev pub StandsAt : Plan → Certificate → ℕ → K → ℕ → Type 0
StandsAt p c n K11 line = line ≡ min (needs_line p c n) (2 ^ 32 - 1)
StandsAt p c n k line = line ≡ min (owns_line p c n) (2 ^ 32 - 1)

-- what a flaw tells: a code of some group, at the line where it stands, or a limit that is passed with the line
abbrev pub FlawMeans : Plan → Certificate → FlawHeld → Type 0
FlawMeans p c f = ((n : ℕ) × CodeMeans p c n f.code × StandsAt p c n f.code f.line) ⊎ ((f.code ≡ K14) × (FetchPasses p c f.line ⊎ NeedPasses p c f.line))

-- what is wrong at a group's own line: K11 stands there where the group needs no pieces
abbrev pub OwnCode : Plan → Certificate → ℕ → K → Type 0
OwnCode p c n K9 = Overlaps p c n
OwnCode p c n K10 = Leaves p c n ⊎ HasGap p c n
OwnCode p c n K11 = (need_place c.needs n ≡ None) × IsUnserved p c n
OwnCode p c n k = ⊥

-- a flaw at the own line of one of the first groups, so many
abbrev pub IsOwnFlaw : Plan → Certificate → ℕ → FlawHeld → Type 0
IsOwnFlaw p c groups f = (n : ℕ) × (n < groups) × OwnCode p c n f.code × (f.line ≡ min (owns_line p c n) (2 ^ 32 - 1))

-- no flaw at an own line is told before it
abbrev pub IsFirstOwn : Plan → Certificate → ℕ → FlawHeld → Type 0
IsFirstOwn p c groups f = (g : FlawHeld) → IsOwnFlaw p c groups g → is_before g f ≡ false

-- the flaw holds
abbrev pub Holds : Plan → Certificate → SharesError → Type 0
Holds p c (Flaw f) = FlawMeans p c f
Holds p c Memory = Unit {0}

-- the first of what is wrong at fetch lines and own lines
abbrev pub LineMeans : Plan → Certificate → FlawHeld → Type 0
LineMeans p c f = (IsOwnFlaw p c (length p.groups) f ⊎ ((f.code ≡ K14) × FetchPasses p c f.line)) × IsFirstOwn p c (length p.groups) f

-- nothing is wrong at fetch lines and own lines
pub record LinesStand (p : Plan) (c : Certificate) : Type 0 where
  pub fetched : fetched_before p (length (pieces p)) ≤ 2 ^ 26
  pub own : (f : FlawHeld) → ¬ IsOwnFlaw p c (length p.groups) f

-- the flaw holds, and of all at own lines none is told before it; or it tells of the first fetch line at which something is wrong
abbrev pub ErrorMeans : Plan → Certificate → SharesError → Type 0
ErrorMeans p c (Flaw f) = (FlawMeans p c f × IsFirstOwn p c (length p.groups) f) ⊎ ((f.code ≡ K14) × FetchIsRefused p c f.line)
ErrorMeans p c Memory = Unit {0}

-- what trouble tells of a piece, which is one of so many: it is not served, or with it more is fetched or needed than may be
abbrev pub TroubleMeans : Plan → Certificate → ℕ → Trouble → Type 0
TroubleMeans p c count (Unserved piece) = (piece < count) × ¬ IsServed p c piece
TroubleMeans p c count (Large piece) = (piece < count) × ¬ AreFew p c
TroubleMeans p c count Want = Unit {0}

-- the trouble of a piece at which it stopped
abbrev pub trouble_of : ℕ → Stop → Trouble
trouble_of piece StopUnserved = Unserved piece
trouble_of piece StopLarge = Large piece
trouble_of piece StopWant = Want
