-- The test that a nest of split loops does an update's steps in turn: the loops of its pure variables may be split, with guards and
-- lets among them, and those of the reduction stand anywhere between.
use Rattle.std.specs.Prelude.{ℕ, suc, ◌==◌, ◌&&◌, Bool, false, not, if◌then◌else◌, List, [], ◌∷◌, map, filter, length, Option, Some, None}
use Rattle.std.specs.List.{list_any, list_all}
use Rattle.lin.specs.Forms.{Form}
use Rattle.meaning.specs.Algorithm.{Range}
use Rattle.meaning.specs.Names.{same_name}
use Rattle.plan.specs.Plan.{Coordinate, Statement, Store}
use Rattle.plan.specs.Semantics.Actions.{Setting}
use Rattle.plan.specs.Certificate.Certificate.{Claim}
use Rattle.soundness.specs.Obligations.{Binder, Rules, is_form, is_next}
use Rattle.soundness.specs.Nests.Nest.{Loop, is_symbol}
use Rattle.soundness.specs.Nests.Tests.{left_of, over_of, is_reduced}
use Rattle.tails.specs.Steps.{Step, Turns, Named, Tested, Spine, binder}
use Rattle.tails.specs.Moves.{is_outer}
use Rattle.tails.specs.Maps.{is_beyond, is_scoped, is_once, covers}
use Rattle.tails.specs.Apart.{form_of, is_apart}

-- ---- the steps of a reduction

-- the loops among the steps
abbrev pub loops_in : List Step → List Loop
loops_in [] = []
loops_in (Turns i x kind ∷ steps) = record { symbol = i; span = x } ∷ loops_in steps
loops_in (Named i pick ls ∷ steps) = loops_in steps
loops_in (Tested low high ∷ steps) = loops_in steps

-- a loop whose symbol is one of the reduction's variables
abbrev pub is_reducing : List Coordinate → Step → Bool
is_reducing over (Turns i x kind) = list_any (is_symbol i) over
is_reducing over (Named i pick ls) = false
is_reducing over (Tested low high) = false

abbrev pub reducing : List Coordinate → List Step → List Step
reducing over steps = filter (is_reducing over) steps

-- the other steps
abbrev pub pure_steps : List Coordinate → List Step → List Step
pure_steps over steps = filter (λ x. not (is_reducing over x)) steps

-- ---- coordinates that are forms

abbrev pub forms_in : List Coordinate → List Form
forms_in [] = []
forms_in (c ∷ cs) = if is_form c then form_of c ∷ forms_in cs else forms_in cs

-- what stands at them: spans of a region, or numbers of a point
abbrev pub at_forms : {A : Type 0} → List Coordinate → List A → List A
at_forms [] xs = []
at_forms (c ∷ cs) [] = []
at_forms (c ∷ cs) (x ∷ xs) = if is_form c then x ∷ at_forms cs xs else at_forms cs xs

-- ---- tests

-- the loops of the reduction have ends over symbols around all steps, and no other step and no form has their symbols
abbrev pub is_parted : List Coordinate → List Step → List Form → Bool
is_parted over steps fs =
    list_all (is_beyond (map binder steps)) (map binder (reducing over steps))
    && (list_all (is_apart (map binder (reducing over steps))) (map binder (pure_steps over steps)) && list_all (is_outer (map binder (reducing over steps))) fs)

module _ (setting : Setting) (rules : Rules) where
  -- the steps but those of the reduction meet each point of the claim's region
  abbrev pub is_spread : List Binder → Claim → List Step → Statement → Bool
  is_spread bs claim steps (Store b k at e) =
      (length (left_of setting b at) == length claim.region)
      && covers rules bs (pure_steps (over_of setting b at) steps) (forms_in (left_of setting b at)) (at_forms (left_of setting b at) claim.region)
  is_spread bs claim steps _ = false

module _ (setting : Setting) (rules : Rules) (domain : List ℕ → ℕ → Option (List Range)) where
  -- the steps round a store of an update do each step of the claim's definition in its turn: at each point of the reduction the others
  -- meet no point twice
  abbrev pub is_stepped : List Binder → Claim → List Step → Statement → Bool
  is_stepped bs claim steps (Store b (suc k) at e) =
      (claim.definition == suc k) && (same_name (setting.buffer_function b) claim.function
      && (is_reduced rules bs (domain claim.function (suc k)) (over_of setting b at) (loops_in steps)
      && (is_scoped (map binder steps) && (is_parted (over_of setting b at) steps (forms_in (left_of setting b at))
      && is_once (pure_steps (over_of setting b at) steps) (forms_in (left_of setting b at))))))
  is_stepped bs claim steps _ = false

  -- the claim is made from the definition before it
  abbrev pub makes_update : List Binder → Claim → ℕ → Option Spine → Bool
  makes_update bs claim k None = false
  makes_update bs claim k (Some n) = is_next k claim.definition && (is_stepped bs claim n.steps n.line && is_spread setting rules bs claim n.steps n.line)

  abbrev pub is_in_steps : List Binder → Claim → Option Spine → Bool
  is_in_steps bs claim None = false
  is_in_steps bs claim (Some n) = is_stepped bs claim n.steps n.line
