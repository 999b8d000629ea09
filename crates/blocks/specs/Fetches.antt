-- What a piece fetches of other root functions, and what the certificate says of it: which pieces are needed, and by which claims it is loaded.
-- What crates below need of it stands there: `sched`.
use Rattle.std.specs.Prelude.{◌≡◌, ℕ, ◌-◌, List, [], ◌∷◌, length, string_bytes}
use Rattle.lin.specs.declared.span.Span1.{Span1}
use Rattle.plan.specs.declared.stmt.Places.{Places}
use Rattle.plan.specs.declared.certificate.cert.Claim.{Claim}
use Rattle.plan.specs.Plan.{Statement, Alloc, Fetch}
use Rattle.sched.specs.Stored.{FormulaText}
use Rattle.blocks.specs.declared.whole.Fetch.{Fetch as CodeFetch}

-- a buffer for points of another function, its places, and the region that is fetched into it of that function's group
pub record FetchText : Type 0 where
  pub buffer : ℕ
  pub function : List ℕ
  pub places : List Places
  pub group : ℕ
  pub region : List Span1

-- ---- what the certificate says

-- from after the statement that ends at this line on, it claims that this buffer has this definition of this function at every point of this region
pub record Claims (line b : ℕ) (x : List ℕ) (d : ℕ) (region : List Span1) (claim : Claim) : Type 0 where
  pub after : claim.line ≡ line
  pub buffered : claim.buffer ≡ b
  pub named : string_bytes claim.function ≡ x
  pub defined : claim.definition ≡ d
  pub over : claim.region ≡ region

-- the number of the last of some definitions, the pure one of which is 0
abbrev pub last_number : List FormulaText → ℕ
last_number fs = length fs - 1

-- ---- what the piece does

-- the buffer, and what is fetched into it, before others
abbrev pub with_fetch : FetchText → List Statement → List Statement
with_fetch f xs = Alloc f.buffer f.function f.places ∷ (Fetch f.buffer f.group f.region ∷ xs)

abbrev pub with_fetches : List FetchText → List Statement → List Statement
with_fetches [] xs = xs
with_fetches (f ∷ fs) xs = with_fetch f (with_fetches fs xs)

-- ---- as memory keeps it

abbrev pub fetch_seen : CodeFetch → FetchText
fetch_seen f = record { buffer = f.buffer; function = f.function.now; places = f.places.items; group = f.group; region = f.region }
