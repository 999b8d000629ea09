-- Numbers of claims as far as memory can have so many.
use Rattle.std.specs.Prelude.{◌≡◌, ℕ, ◌<◌, ◌^◌, List, Option}
use Rattle.plan.specs.Claimed.{claim_of}
use Rattle.plan.specs.Semantics.Run.{claim_source}

-- the name means the claim of this number, where there are fewer than 2^64
abbrev pub Means : List ℕ → Option ℕ → Type 0
Means name c = (count : ℕ) → count < 2 ^ 64 → claim_source count c ≡ claim_source count (claim_of name)
