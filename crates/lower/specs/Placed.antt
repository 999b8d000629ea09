-- What a piece does where functions are computed inside its loops: at each place of a nest the buffers of those that are stored there, then the nests of
-- those that are computed there, and then what the nest itself does. Symbols, buffers and claims are numbered in the order of the lines.
-- What crates below need of it stands there: `sched`, `blocks`.
use Rattle.std.specs.Prelude.{◌≡◌, ℕ, ◌+◌, ◌-◌, ◌*◌, Bool, if◌then◌else◌, List, [], ◌∷◌, ◌++◌, length, map, Option, Some, None}
use Rattle.plan.specs.declared.certificate.cert.Claim.{Claim as CodeClaim}
use Rattle.plan.specs.declared.certificate.cert.Need.{Need}
use Rattle.plan.specs.declared.certificate.cert.Window.{Window}
use Rattle.plan.specs.Certificate.Certificate.{claim_of}
use Rattle.plan.specs.Plan.{Statement}
use Rattle.blocks.specs.declared.group.Body.{Body}
use Rattle.sched.specs.Fetches.{Entry}
use Rattle.blocks.specs.Fetches.{FetchText}
use Rattle.lower.specs.Fetches.{IsFetched, loads_from}
use Rattle.blocks.specs.Blocks.{dimensions_of, claimed_region, own_places}
use Rattle.lower.specs.Making.{FetchMade}
use Rattle.blocks.specs.Bodies.{first_lines, IsBodyWith}
use Rattle.sched.specs.Placed.{PlacedText, SoFar}
use Rattle.blocks.specs.Placed.{group_owner, nests_over_grid, begun, so_far}

-- ---- what the group fetches first

-- functions with the numbers of their groups, of which the first is this
abbrev pub numbered : ℕ → List Entry → List (ℕ × Entry)
numbered h [] = []
numbered h (e ∷ es) = (h, e) ∷ numbered (h + 1) es

-- those at which this says so
abbrev pub picked : List Bool → List (ℕ × Entry) → List (ℕ × Entry)
picked [] xs = []
picked (b ∷ bs) [] = []
picked (b ∷ bs) (x ∷ xs) = if b then x ∷ picked bs xs else picked bs xs

-- of each of these groups the pieces of n fetch points of its function, into buffers from b on, by lines from this one on, with a need line and a claim for each
abbrev pub AreFetchedBy : ℕ → ℕ → ℕ → List (ℕ × Entry) → List FetchText → List Need → List CodeClaim → Type 0
AreFetchedBy n b line [] [] [] [] = Unit {0}
AreFetchedBy n b line (x ∷ xs) (f ∷ fs) (w ∷ ws) (c ∷ cs) = IsFetched n b line x.0 x.1 f w c × AreFetchedBy n (b + 1) (line + 2) xs fs ws cs
AreFetchedBy n b line _ _ _ _ = ⊥

abbrev pub with_fetched : List FetchText → List Need → List CodeClaim → SoFar → SoFar
with_fetched fs ws cs p = record p {
  line = p.line + 2 * length fs;
  buffer = p.buffer + length fs;
  claim = p.claim + length fs;
  loads = p.loads ++ loads_from p.claim fs;
  needs = p.needs ++ ws;
  claims = p.claims ++ map claim_of cs;
}

-- ---- its body

-- the body of the group n of these functions, whose line is this one, in whose loops these are computed, with its claims, need lines and windows, of which the first
-- claim has the number c: the lets over the grid, the piece's own buffer, what it fetches, the nests, and by which claim it publishes. The next group has this line
pub record IsMixedBody (all : List Entry) (n c line next : ℕ) (is : List PlacedText) (e : Entry) (claims : List CodeClaim) (needs : List Need) (windows : List Window) (body : Statement) : Type 0 where
  pub called : List Bool
  pub fetches : List FetchText
  pub lines_of : List Need
  pub fetched : List CodeClaim
  pub fetching : AreFetchedBy n 1 (line + first_lines e.1.skeleton) (picked called (numbered 0 all)) fetches lines_of fetched
  pub nests : List Statement
  pub done : SoFar
  pub made : nests_over_grid is (group_owner e (claimed_region (dimensions_of e.0 e.1.region e.1.skeleton))) e.1.skeleton
      (with_fetched fetches lines_of fetched (begun c line e.1.skeleton)) ≡ Some (nests, done)
  pub with : IsBodyWith e.0 e.1.skeleton (own_places (dimensions_of e.0 e.1.region e.1.skeleton)) fetches nests (done.claim - 1) body
  pub claimed : map claim_of claims ≡ done.claims
  pub needed : needs ≡ done.needs
  pub held : windows ≡ done.windows
  pub behind : next ≡ done.line + 1

-- ---- while they are made

-- this is fetched of the group h, or nothing
abbrev pub MayFetch : ℕ → ℕ → Entry → Option FetchText → Body → Body → Type 0
MayFetch n h e None old new = new ≡ old
MayFetch n h e (Some f) old new = FetchMade n h e f old new × (new.next_symbol ≡ old.next_symbol) × (new.seats.items ≡ old.seats.items)

-- these are fetched of some of these groups
pub record FetchesBy (n : ℕ) (xs : List (ℕ × Entry)) (fs : List FetchText) (old new : Body) : Type 0 where
  pub called : List Bool
  pub needs : List Need
  pub claims : List CodeClaim
  pub fetched : AreFetchedBy n old.next_buffer old.line (picked called xs) fs needs claims
  pub state : so_far new ≡ with_fetched fs needs claims (so_far old)
