-- The private run of a piece: its actions in order, each of which may be a fault.
use Rattle.std.specs.Prelude.{ℕ, ◌<◌, nat_lt, List, [], ◌∷◌, ◌++◌, map, Option, Some, None, ℤ, if◌then◌else◌}
use Rattle.tree.specs.declared.value.Value.{Value}
use Rattle.tree.specs.Term.{Term}
use Rattle.meaning.specs.Names.{same_name, bound}
use Rattle.plan.specs.Claimed.{claim_of}
use Rattle.plan.specs.Plan.{Statement}
use Rattle.plan.specs.Symbols.{Symbols}
use Rattle.plan.specs.Semantics.Actions.{Setting, Action, Allot, Take, Put, Change, Give, Target, Fixed, Open, fixed, actions}
use Rattle.plan.specs.Semantics.Memory.{Memory, read, write, allot, nothing}
use Rattle.plan.specs.Semantics.Found.{with, found}

-- what a name in a stored expression means: the input, a claim, or nothing
pub data Source : Type 0 where
  Input : Source
  ByClaim : ℕ → Source
  Unknown : Source

-- where there are so many claims
abbrev pub claim_source : ℕ → Option ℕ → Source
claim_source count None = Unknown
claim_source count (Some c) = if nat_lt c count then ByClaim c else Unknown

abbrev pub source_of : List ℕ → ℕ → List ℕ → Source
source_of input count name = if same_name name input then Input else claim_source count (claim_of name)

-- what a piece finds around it: what a name means, the input's samples within its extents, the cells that it looked at, and
-- each claim's buffer
pub record Around : Type 0 where
  pub source : List ℕ → Source
  pub sample : List ℤ → Option Value
  pub cell : List ℕ → List ℤ → Value
  pub claim_buffer : ℕ → ℕ

module _ (around : Around) where
  -- what a read finds
  abbrev pub look_at : Memory Value → Source → List ℤ → Option Value
  look_at m Input p = around.sample p
  look_at m (ByClaim c) p = read m (around.claim_buffer c) p
  look_at m Unknown p = None

  abbrev pub look : Memory Value → List ℕ → List ℤ → Option Value
  look m name p = look_at m (around.source name) p

  -- the point of a left side
  abbrev pub found_target : (List ℕ → ℤ) → List Target → Memory Value → Option (List ℤ)
  found_target variables [] m = Some []
  found_target variables (Fixed z ∷ ts) m = with (found_target variables ts m) (λ zs. Some (z ∷ zs))
  found_target variables (Open e ∷ ts) m = with (found variables (look m) e) (λ x. with (found_target variables ts m) (λ zs. Some (x.number ∷ zs)))

  -- one action; none is a fault
  abbrev pub act : Action → Memory Value → Option (Memory Value)
  act (Allot b rooms) m = Some (allot m b rooms)
  act (Take b f p) m = write m b p (around.cell f p)
  act (Put b f names p e) m = with (found (bound names p) (look m) e) (λ v. write m b p v)
  act (Change b f k names at over e) m =
      with (found_target (bound names (map fixed at ++ over)) at m) (λ p. with (found (bound names (p ++ over)) (look m) e) (λ v. write m b p v))
  act (Give c p) m = with (read m (around.claim_buffer c) p) (λ v. Some m)

  abbrev pub act_all : List Action → Memory Value → Option (Memory Value)
  act_all [] m = Some m
  act_all (a ∷ later) m = with (act a m) (act_all later)

  -- the private run of a statement
  abbrev pub run : Setting → Statement → Symbols → Memory Value → Option (Memory Value)
  run setting body s m = act_all (actions setting body s) m

  -- the values that actions give, in their order; none where one of them is a fault
  abbrev pub outcome : List Action → Memory Value → Option (List Value)
  outcome [] m = Some []
  outcome (Allot b rooms ∷ later) m = outcome later (allot m b rooms)
  outcome (Take b f p ∷ later) m = with (act (Take b f p) m) (outcome later)
  outcome (Put b f names p e ∷ later) m = with (act (Put b f names p e) m) (outcome later)
  outcome (Change b f k names at over e ∷ later) m = with (act (Change b f k names at over e) m) (outcome later)
  outcome (Give c p ∷ later) m = with (read m (around.claim_buffer c) p) (λ v. with (outcome later m) (λ vs. Some (v ∷ vs)))

  -- what the piece gives: the values of its own cells
  abbrev pub private_run : Setting → Statement → Symbols → Option (List Value)
  private_run setting body s = outcome (actions setting body s) nothing
