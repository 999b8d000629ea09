-- The head of a plan: its name, its input and its output, as the algorithm has them.
use Rattle.std.specs.Prelude.{◌≡◌, ℕ, All, ◌⊎◌, Option, MatchOption}
use Rattle.meaning.specs.Algorithm.{Function, Algorithm}
use Rattle.meaning.specs.Conditions.{function_named}
use Rattle.plan.specs.Plan.{Declaration, Plan}

-- the output's function
abbrev pub output_function : Algorithm → Option Function
output_function a = function_named a.functions a.output

pub record SameInput (a : Algorithm) (d : Declaration) : Type 0 where
  pub name : d.name ≡ a.input
  pub ty : d.ty ≡ a.input_ty
  pub extents : d.extents ≡ a.input_extents

pub record SameOutput (a : Algorithm) (d : Declaration) : Type 0 where
  pub name : d.name ≡ a.output
  pub ty : MatchOption (output_function a) ⊥ (λ f. d.ty ≡ f.ty)
  pub extents : d.extents ≡ a.output_extents

-- whatever plan it is: its name, its input or its output is not the algorithm's, or no group is the output's
abbrev pub FailsHead : Algorithm → Plan → ℕ → Type 0
FailsHead a p line =
    ((line ≡ 1) × ¬ (p.name ≡ a.name))
    ⊎ (((line ≡ 2) × ¬ SameInput a p.input) ⊎ ((line ≡ 3) × (¬ SameOutput a p.output ⊎ All (λ g. ¬ (g.function ≡ a.output)) p.groups)))
