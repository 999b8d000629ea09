-- What a piece of a whole function does: the lets over the grid, its buffer, what it fetches, then for each definition the loops, lets and
-- guards of the skeleton down to its store, of the definition's value with each call as a load; and its claims.
-- What crates below need of it stands there: `sched`, `blocks`.
use Rattle.std.specs.Prelude.{◌≡◌, ℕ, ◌+◌, ◌-◌, ◌*◌, List, ◌++◌, length}
use Rattle.plan.specs.declared.certificate.cert.Claim.{Claim}
use Rattle.plan.specs.declared.certificate.cert.Need.{Need}
use Rattle.plan.specs.Plan.{Statement}
use Rattle.sched.specs.Skeleton.{SkeletonText}
use Rattle.sched.specs.Stored.{FormulaText, StoredText}
use Rattle.meaning.specs.Algorithm.{Algorithm}
use Rattle.regions.specs.Taken.{sites_of}
use Rattle.sched.specs.Around.{grid_scope}
use Rattle.blocks.specs.declared.blocks.Dimension.{Dimension}
use Rattle.blocks.specs.Blocks.{claimed_region, own_places}
use Rattle.sched.specs.Fetches.{Entry}
use Rattle.blocks.specs.Fetches.{FetchText}
use Rattle.lower.specs.Fetches.{fetched_groups, AreFetched, loads_from}
use Rattle.blocks.specs.Bodies.{AreNests, IsBodyWith, first_lines}

-- the number of the last claim, where so many of what is fetched come first, from this number on, and then one of each nest
abbrev pub last_claim : ℕ → List FetchText → SkeletonText → ℕ
last_claim c fetches k = (c + (length fetches + length k.nests)) - 1

-- the body of the group n of these functions, whose line is this one, with its claims, of which the first has the number c, and its need lines, where this is what
-- of each dimension belongs to a piece: it fetches of each other function that its definitions call, its nests are those of the skeleton, and it publishes by the
-- claim of its last definition
pub record IsBody (a : Algorithm) (all : List Entry) (n c line : ℕ) (g : StoredText) (fs : List FormulaText) (k : SkeletonText) (ds : List Dimension) (claims : List Claim) (needs : List Need)
    (body : Statement) : Type 0 where
  pub fetches : List FetchText
  pub fetched : List Claim
  pub own : List Claim
  pub claimed : claims ≡ fetched ++ own
  pub fetching : AreFetched (sites_of a g fs k) (grid_scope k.grid) n 1 (line + first_lines k) (fetched_groups fs n 0 all) fetches needs fetched
  pub nests : List Statement
  pub nested : AreNests g fs (claimed_region ds) (loads_from c fetches) (c + length fetches) (line + first_lines k + 2 * length fetches) 0 k.nests nests own
  pub with : IsBodyWith g k (own_places ds) fetches nests (last_claim c fetches k) body
