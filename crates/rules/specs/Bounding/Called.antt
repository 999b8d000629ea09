-- What the names of a stored expression mean to its type.
use Rattle.std.specs.Prelude.{ℕ, List, length, Option, Some, None, slice_get}
use Rattle.numeric.specs.declared.ty.Ty.{Ty}
use Rattle.meaning.specs.Algorithm.{Function, Algorithm}
use Rattle.plan.specs.Plan.{Plan}
use Rattle.plan.specs.Certificate.Certificate.{Certificate}
use Rattle.plan.specs.Semantics.Run.{Source, Input, ByClaim, Unknown, source_of}
use Rattle.soundness.specs.Given.{function_named, claim_or_none}

-- the type and the number of indices of a function
abbrev pub call_of : Option Function → Option (Ty × ℕ)
call_of None = None
call_of (Some f) = Some (f.ty, length f.variables)

-- how many updates a function has, and with that the number of its last definition
abbrev pub update_count : Option Function → ℕ
update_count None = 0
update_count (Some f) = length f.changes

module _ (a : Algorithm) (p : Plan) (c : Certificate) where
  -- of the input, or of a claim's function
  abbrev pub source_call : Source → Option (Ty × ℕ)
  source_call Input = Some (a.input_ty, length a.input_extents)
  source_call (ByClaim k) = call_of (function_named a.functions (claim_or_none (slice_get c.claims k)).function)
  source_call Unknown = None

  -- the type and the number of indices of what a stored expression calls by a name
  abbrev pub called : List ℕ → Option (Ty × ℕ)
  called name = source_call (source_of p.input.name (length c.claims) name)
