-- Stores of a pure definition, with the steps down to them.
use Rattle.std.specs.Prelude.{ℕ, zero, ◌==◌, ◌&&◌, Bool, if◌then◌else◌, List, ◌++◌, map, Option, Some, None, option_and_then}
use Rattle.std.specs.List.{list_all}
use Rattle.std.specs.Option.{option_map}
use Rattle.lin.specs.Forms.{Form}
use Rattle.lin.specs.Search.{is_empty}
use Rattle.meaning.specs.Names.{same_name}
use Rattle.plan.specs.declared.stmt.Places.{Places}
use Rattle.plan.specs.Plan.{Coordinate, Statement, Store}
use Rattle.plan.specs.Semantics.Actions.{Setting}
use Rattle.plan.specs.Certificate.Certificate.{Claim}
use Rattle.soundness.specs.Obligations.{Binder, Rules, exactly, is_form}
use Rattle.soundness.specs.Shown.{are_seated}
use Rattle.soundness.specs.Nests.Tests.{left_of, over_of}
use Rattle.tails.specs.Steps.{Step, Spine, along}
use Rattle.tails.specs.Apart.{form_of, is_apart, is_steady}

-- the steps, the outermost first, and what the coordinates are at a turn
pub record Stored : Type 0 where
  pub steps : List Step
  pub forms : List Form

module _ (setting : Setting) (claim : Claim) where
  -- the store is one of the pure definition of the claim's function, and all its coordinates are forms
  abbrev pub is_pure : ℕ → List Coordinate → Bool
  is_pure b at =
      (claim.definition == 0) && (same_name (setting.buffer_function b) claim.function
      && (list_all is_form (left_of setting b at) && is_empty (over_of setting b at)))

  abbrev pub pure_forms : ℕ → List Coordinate → Option (List Form)
  pure_forms b at = if is_pure b at then Some (map form_of (left_of setting b at)) else None

  -- what the coordinates of such a line are
  abbrev pub forms_at : Statement → Option (List Form)
  forms_at (Store b zero at e) = pure_forms b at
  forms_at _ = None

  abbrev pub stored_at : Spine → Option Stored
  stored_at n = option_map (λ fs. record { steps = n.steps; forms = fs }) (forms_at n.line)

  abbrev pub stored_by : Option Spine → Option Stored
  stored_by o = option_and_then stored_at o

-- what is bound around is the same at all turns, and each point has a place
abbrev pub has_places : (folded : Bool) → Rules → List Binder → Stored → List Places → Bool
has_places folded rules bs n places =
    (list_all (is_apart (along n.steps)) bs && list_all (is_steady folded (along n.steps)) places)
    && are_seated rules (along n.steps ++ bs) (map exactly n.forms) places
