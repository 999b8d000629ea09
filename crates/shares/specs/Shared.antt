-- What the shares of pieces rest on: what is asked of the lines before.
use Rattle.std.specs.Prelude.{◌≡◌, ℕ, ◌≤◌, ◌^◌, false, List, length, Some, MatchOption, All, slice_get}
use Rattle.lin.specs.declared.span.Span1.{Span1}
use Rattle.plan.specs.Plan.{Statement, Seq, Let, Fetch, Statements, Empty, Then, Group, Plan}
use Rattle.plan.specs.declared.certificate.cert.Need.{Need}
use Rattle.plan.specs.Certificate.Certificate.{Certificate}
use Rattle.plan.specs.Certificate.Cells.{no_symbols, own_region, cells, pieces}
use Rattle.headline.specs.Fetched.{fetches}
use Rattle.headline.specs.Numbers.{HaveEnds}
use Rattle.shares.specs.Boxes.{AreLimited, IsLimited, sides}

-- a region in forms within the limits that has as many spans as another
abbrev pub IsLike : List Span1 → ℕ → Type 0
IsLike xs n = IsLimited xs × (length xs ≡ n)

-- a statement of the body of a group that no loop, choice or guard stands around: a block of such statements, or a line that
-- fetches from a known group, or one that names a number, or one that does neither
abbrev mutual
  pub LineIsShared : Plan → Statement → Type 0
  LineIsShared p (Seq all) = LinesAreShared p all
  LineIsShared p (Fetch b h region) = MatchOption (slice_get p.groups h) ⊥ (λ g. IsLike region (length g.region))
  LineIsShared p (Let i pick forms) = AreLimited forms
  LineIsShared p a = fetches a ≡ false

  pub LinesAreShared : Plan → Statements → Type 0
  LinesAreShared p Empty = Unit {0}
  LinesAreShared p (Then a rest) = LineIsShared p a × LinesAreShared p rest

-- a needed region of a known group's grid
abbrev pub NeedIsShared : Plan → Need → Type 0
NeedIsShared p n = MatchOption (slice_get p.groups n.needed) ⊥ (λ g. IsLike n.region (length g.grid))

-- of a group
pub record GroupIsShared (p : Plan) (c : Certificate) (n : ℕ) (g : Group) : Type 0 where
  -- its region has a form on each side, within the limits, and small extents
  pub ends : HaveEnds g.region
  pub limits : IsLimited g.region
  pub extents : All (λ x. x.count ≤ 8192) (sides no_symbols g.region)
  -- its grid's counts are small where the grid has a point
  pub grid : All (λ m. 1 ≤ m) g.grid → All (λ m. m ≤ 2 ^ 20) g.grid
  -- its own region is given
  pub own : MatchOption (own_region c.own n) ⊥ (λ xs. IsLike xs (length g.region))
  pub body : LineIsShared p g.body

-- of a plan and its certificate: the shares of the pieces can be told
pub record AreShared (p : Plan) (c : Certificate) : Type 0 where
  pub groups : (n : ℕ) (g : Group) → slice_get p.groups n ≡ Some g → GroupIsShared p c n g
  pub needs : All (NeedIsShared p) c.needs
  pub cells : length (cells p) ≤ 2 ^ 24
  pub pieces : length (pieces p) ≤ 2 ^ 20
