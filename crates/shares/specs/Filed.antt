-- Need lines by their groups.
use Rattle.std.specs.Prelude.{◌≡◌, ℕ, ◌==◌, List, All, length, filter, Some, slice_get}
use Rattle.plan.specs.Plan.{Plan}
use Rattle.plan.specs.declared.certificate.cert.Need.{Need}
use Rattle.shares.specs.Shared.{NeedIsShared}

-- the need lines of a group, in their order
abbrev pub needs_in : List Need → ℕ → List Need
needs_in ns g = filter (λ n. n.group == g) ns

-- the need lines of each of so many groups
pub record AreFiled (ns : List Need) (groups : ℕ) (lists : List (List Need)) : Type 0 where
  pub count : length lists ≡ groups
  pub each : (g : ℕ) (xs : List Need) → slice_get lists g ≡ Some xs → xs ≡ needs_in ns g

-- need lines of one group, each of a known group's grid
abbrev pub AreLinesOf : Plan → ℕ → List Need → Type 0
AreLinesOf p g ns = All (λ n. (n.group ≡ g) × NeedIsShared p n) ns
