-- What is asked of a plan's head.
use Rattle.std.specs.Prelude.{◌≡◌, ℕ, All, List, MatchOption}
use Rattle.numeric.specs.declared.ty.Ty.{Ty}
use Rattle.meaning.specs.Algorithm.{Algorithm}
use Rattle.plan.specs.Plan.{Plan}
use Rattle.headline.specs.Head.{output_function}

-- the output's name and extents, and the type of its function
pub record IsOutput (a : Algorithm) (output : List ℕ) (sample : Ty) (lengths : List ℕ) : Type 0 where
  pub name : a.output ≡ output
  pub ty : MatchOption (output_function a) ⊥ (λ f. f.ty ≡ sample)
  pub extents : a.output_extents ≡ lengths

-- it is not so that no group is the output's
abbrev pub HasOutputGroup : Algorithm → Plan → Type 0
HasOutputGroup a p = ¬ All (λ g. ¬ (g.function ≡ a.output)) p.groups
