-- Forms, spans and steps under other names of their symbols: those of the plan for those of a nest.
-- What crates below need of it stands there: `sched`.
use Rattle.std.specs.Prelude.{ℕ, zero, suc, List, [], ◌∷◌, ◌++◌, Option, Some}
use Rattle.plan.specs.declared.stmt.Places.{Places}
use Rattle.plan.specs.declared.stmt.Places.TheVariants.{From, Folded}
use Rattle.sched.specs.Standing.{◌>>=◌}
use Rattle.blocks.specs.declared.renaming.Renaming.{Renaming}
use Rattle.sched.specs.Renamed.{Pairs, form_renamed, behind}

-- the numbers before this one, each under its own name
abbrev pub own_pairs : ℕ → Pairs
own_pairs zero = []
own_pairs (suc n) = own_pairs n ++ (n, n) ∷ []

abbrev pub place_renamed : Pairs → Places → Option Places
place_renamed m (From origin count) = form_renamed m origin >>= λ f. Some (From f count)
place_renamed m (Folded count) = Some (Folded count)

abbrev pub places_renamed : Pairs → List Places → Option (List Places)
places_renamed m ps = behind (place_renamed m) [] ps

-- ---- as memory keeps them

abbrev pub pair_of : Renaming → ℕ × ℕ
pair_of r = (r.symbol, r.name)
