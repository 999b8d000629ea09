-- Why the lists of a piece are not made.
use Rattle.std.specs.Prelude.{ℕ, ◌<◌, length, ◌⊎◌}
use Rattle.plan.specs.Plan.{Plan}
use Rattle.plan.specs.Certificate.Certificate.{Certificate}
use Rattle.shares.specs.declared.stop.Stop.{Stop}
use Rattle.shares.specs.declared.stop.Stop.TheVariants.{Unserved, Large, Memory}
use Rattle.shares.specs.Layout.{FetchesCells, fetched_list, needs_list}
use Rattle.shares.specs.Has.{NeedsPieces, IsServed}

-- that the fetched cells of a piece are not told, where there is room for so many
abbrev pub FetchStops : Plan → ℕ → ℕ → Stop → Type 0
FetchStops p n room Unserved = ¬ FetchesCells p n
FetchStops p n room Large = room < length (fetched_list p n)
FetchStops p n room Memory = Unit {0}

-- that the needed pieces of a piece are not told, where there is room for so many
abbrev pub NeedStops : Plan → Certificate → ℕ → ℕ → Stop → Type 0
NeedStops p c n room Unserved = ¬ NeedsPieces p c n
NeedStops p c n room Large = room < length (needs_list p c n)
NeedStops p c n room Memory = Unit {0}

-- that either are not told, where there is room for so many fetched cells and so many needed pieces
abbrev pub StopMeans : Plan → Certificate → ℕ → (cells pieces : ℕ) → Stop → Type 0
StopMeans p c n cells pieces Unserved = ¬ IsServed p c n
StopMeans p c n cells pieces Large = (cells < length (fetched_list p n)) ⊎ (pieces < length (needs_list p c n))
StopMeans p c n cells pieces Memory = Unit {0}
