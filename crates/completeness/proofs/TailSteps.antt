-- The steps of a nest whose loops are split with any tail, in any order: loops, the lets of shifted blocks, and guards, with lets behind them. A loop and a let take a symbol each, one
-- after another; a guard takes none.
use Rattle.std.specs.Prelude.{ℕ, ◌+◌, ℤ, Bool, true, false, List, [], ◌∷◌, ◌++◌}
use Rattle.lin.specs.Forms.{Form, number}
use Rattle.plan.specs.declared.stmt.Pick.TheVariants.{Min}
use Rattle.soundness.specs.Obligations.{Binder, Ranged, Picked, Passed}
use Rattle.sched.specs.declared.skeleton.Step.{Step}
use Rattle.sched.specs.declared.skeleton.Step.TheVariants.{Turns, Named, Tested}
use Rattle.sched.specs.declared.nest.Turning.{Turning}
use Rattle.sched.specs.Skeleton.{span}
use Rattle.completeness.proofs.LoopMoves.{Item}

-- what the symbol is of
pub data Line : Type 0 where
  -- a loop
  Loop : Line
  -- the let of a shifted block behind its outer loop: the smaller of the form and the last number at which a full block begins
  Block : Form → ℤ → Line
  -- a guard, and a let behind it, where the outer loop stands inside of the inner one
  Pair : Form → ℤ → Line

abbrev pub is_loop : Line → Bool
is_loop Loop = true
is_loop (Block f z) = false
is_loop (Pair f z) = false

-- of a symbol, its loop and further upper forms, before these steps
abbrev pub line_steps : Line → ℕ → Turning → List Form → List Step → List Step
line_steps Loop s t fs rest = Turns s (span t.low t.last fs) t.kind ∷ rest
line_steps (Block f z) s t fs rest = Named s Min (f ∷ number z ∷ []) ∷ rest
line_steps (Pair f z) s t fs rest = Tested f (number z) ∷ Named s Min (f ∷ number z ∷ []) ∷ rest

-- by symbol what each is of and its further upper forms, from this symbol on
abbrev pub steps_of : (ℕ → Line) → (ℕ → List Form) → ℕ → List Turning → List Step
steps_of line lim n [] = []
steps_of line lim n (t ∷ ts) = line_steps (line n) n t (lim n) (steps_of line lim (n + 1) ts)

-- the same as the checker sees them, the innermost first
abbrev pub line_binders : Line → Item → List Form → List Binder
line_binders Loop t fs = Ranged t.symbol (span t.low t.last fs) ∷ []
line_binders (Block f z) t fs = Picked t.symbol Min (f ∷ number z ∷ []) ∷ []
line_binders (Pair f z) t fs = Picked t.symbol Min (f ∷ number z ∷ []) ∷ Passed f (number z) ∷ []

abbrev pub binders_of : (ℕ → Line) → (ℕ → List Form) → List Item → List Binder
binders_of line lim [] = []
binders_of line lim (t ∷ ts) = line_binders (line t.symbol) t (lim t.symbol) ++ binders_of line lim ts
