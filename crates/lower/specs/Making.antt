-- What is known of a piece's body while it is made.
-- What crates below need of it stands there: `blocks`.
use Rattle.std.specs.Prelude.{◌≡◌, ℕ, ◌+◌, ◌*◌, Bool, true, false, List, [], ◌∷◌, ◌++◌, length, map, Option, Some, None}
use Rattle.plan.specs.declared.certificate.cert.Claim.{Claim}
use Rattle.plan.specs.declared.certificate.cert.Need.{Need}
use Rattle.plan.specs.declared.plan.Group.{Group}
use Rattle.plan.specs.View.{statement_of}
use Rattle.plan.specs.Plan.{Statement}
use Rattle.plan.specs.Lines.{lines}
use Rattle.blocks.specs.declared.group.Body.{Body}
use Rattle.blocks.specs.Loading.{load_of}
use Rattle.meaning.specs.Algorithm.{Algorithm}
use Rattle.lin.specs.declared.scope.Binding.{Binding}
use Rattle.sched.specs.Fetches.{Entry}
use Rattle.blocks.specs.Fetches.{FetchText}
use Rattle.lower.specs.Fetches.{Calls, IsTaken, IsFetched, AreFetched, loads_from}
use Rattle.blocks.specs.Blocks.{dimensions_of}
use Rattle.lower.specs.Bodies.{IsBody}

-- nothing is claimed, needed, held or loaded; the next claim and the next line have these numbers, and the next buffer is 1
pub record IsBegun (c line : ℕ) (b : Body) : Type 0 where
  pub claims : b.claims.items ≡ []
  pub needs : b.needs.items ≡ []
  pub windows : b.windows.items ≡ []
  pub loads : b.loads.items ≡ []
  pub next_claim : b.next_claim ≡ c
  pub next_buffer : b.next_buffer ≡ 1
  pub next_line : b.line ≡ line

-- this is fetched of the group h, with its need line, its claim, and the load by it
pub record FetchMade (n h : ℕ) (e : Entry) (f : FetchText) (old new : Body) : Type 0 where
  pub need : Need
  pub claim : Claim
  pub is : IsFetched n old.next_buffer old.line h e f need claim
  pub needed : new.needs.items ≡ old.needs.items ++ need ∷ []
  pub claimed : new.claims.items ≡ old.claims.items ++ claim ∷ []
  pub loaded : map load_of new.loads.items ≡ map load_of old.loads.items ++ (f.function, old.next_claim) ∷ []
  pub counted : new.next_claim ≡ old.next_claim + 1
  pub numbered : new.next_buffer ≡ old.next_buffer + 1
  pub lined : new.line ≡ old.line + 2
  pub held : new.windows.items ≡ old.windows.items

-- this is fetched, or nothing
abbrev pub MayMake : Calls → List Binding → ℕ → Bool → ℕ → Entry → Option FetchText → Body → Body → Type 0
MayMake s t n called h e None old new = (called ≡ false) × (new ≡ old)
MayMake s t n called h e (Some f) old new = (called ≡ true) × FetchMade n h e f old new × IsTaken s t e.0.subject.name e.1.region f.region f.places

-- these are fetched of these groups
pub record FetchesMade (s : Calls) (t : List Binding) (n : ℕ) (xs : List (ℕ × Entry)) (fs : List FetchText) (old new : Body) : Type 0 where
  pub needs : List Need
  pub claims : List Claim
  pub fetched : AreFetched s t n old.next_buffer old.line xs fs needs claims
  pub needed : new.needs.items ≡ old.needs.items ++ needs
  pub claimed : new.claims.items ≡ old.claims.items ++ claims
  pub loaded : map load_of new.loads.items ≡ map load_of old.loads.items ++ loads_from old.next_claim fs
  pub counted : new.next_claim ≡ old.next_claim + length fs
  pub lined : new.line ≡ old.line + 2 * length fs
  pub held : new.windows.items ≡ old.windows.items

-- the body is made, its claims and need lines stand behind those of other groups, and this is the line of its last statement
pub record BodyMade (a : Algorithm) (all : List Entry) (n c line last : ℕ) (e : Entry) (old new : List Claim) (before behind : List Need) (body : Statement) : Type 0 where
  pub claims : List Claim
  pub needs : List Need
  pub claimed : new ≡ old ++ claims
  pub needed : behind ≡ before ++ needs
  pub ends : last ≡ line + lines body
  pub is : IsBody a all n c line e.0 e.2 e.1.skeleton (dimensions_of e.0 e.1.region e.1.skeleton) claims needs body

-- the same of a group; this is the line of the next
abbrev pub GroupMade : Algorithm → List Entry → ℕ → ℕ → ℕ → ℕ → Entry → List Claim → List Claim → List Need → List Need → Group → Type 0
GroupMade a all n c line next e old new before behind p = (last : ℕ) × (next ≡ last + 1) × BodyMade a all n c line last e old new before behind (statement_of p.body)
