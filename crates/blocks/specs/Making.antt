-- What is known of a piece's body while it is made.
use Rattle.std.specs.Prelude.{◌≡◌, ℕ, ◌+◌, List, [], ◌∷◌, ◌++◌, length, map, Option, Some, None}
use Rattle.lin.specs.declared.span.Span1.{Span1}
use Rattle.plan.specs.declared.certificate.cert.Claim.{Claim}
use Rattle.plan.specs.Plan.{Statement, block}
use Rattle.plan.specs.Lines.{block_lines}
use Rattle.sched.specs.Skeleton.{NestText}
use Rattle.blocks.specs.declared.group.Body.{Body}
use Rattle.sched.specs.Stored.{FormulaText, StoredText}
use Rattle.blocks.specs.Loading.{load_of}
use Rattle.blocks.specs.Fetches.{FetchText, Claims}
use Rattle.blocks.specs.Bodies.{AreNests}

-- one more claim, of this definition of this function in this buffer
pub record AddsClaim (line b : ℕ) (x : List ℕ) (d : ℕ) (region : List Span1) (old new : List Claim) : Type 0 where
  pub claim : Claim
  pub claims : Claims line b x d region claim
  pub added : new ≡ old ++ claim ∷ []

abbrev pub with_first : Option FetchText → List FetchText → List FetchText
with_first None fs = fs
with_first (Some f) fs = f ∷ fs

-- the nests of these definitions are made, each with its claim
pub record NestsMade (g : StoredText) (fs : List FormulaText) (r : List Span1) (d : ℕ) (ns : List NestText) (xs : List Statement) (old new : Body) : Type 0 where
  pub claims : List Claim
  pub nested : AreNests g fs r (map load_of old.loads.items) old.next_claim old.line d ns xs claims
  pub claimed : new.claims.items ≡ old.claims.items ++ claims
  pub counted : new.next_claim ≡ old.next_claim + length ns
  pub lined : new.line ≡ old.line + block_lines (block xs)
  pub needed : new.needs.items ≡ old.needs.items
  pub held : new.windows.items ≡ old.windows.items
