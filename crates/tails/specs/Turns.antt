-- What is done at the turns of steps, and actions that do a point's part or pass it by.
use Rattle.std.specs.Prelude.{true, if◌then◌else◌, List, [], ◌∷◌, ◌++◌, flat_map, int_le}
use Rattle.plan.specs.Symbols.{Symbols, bind, form_value, largest, turns}
use Rattle.plan.specs.Semantics.Actions.{Action}
use Rattle.soundness.specs.Obligations.{picked}
use Rattle.tails.specs.Steps.{Step, Turns, Named, Tested}

-- what is done at each turn, one after another
abbrev pub done_at : (Symbols → List Action) → List Step → Symbols → List Action
done_at act [] s = act s
done_at act (Turns i x kind ∷ steps) s = flat_map (λ z. done_at act steps (bind s i z (int_le z (largest s x.lower)))) (turns s x)
done_at act (Named i pick ls ∷ steps) s = done_at act steps (bind s i (picked pick ls s) true)
done_at act (Tested low high ∷ steps) s = if int_le (form_value low s) (form_value high s) then done_at act steps s else []

-- actions that pass a point by, and actions that do its part: before and after such as pass it by they still do
pub record PassOrTake (passes takes : List Action → Type 0) : Type 0 where
  pub none : passes []
  pub both : (xs ys : List Action) → passes xs → passes ys → passes (xs ++ ys)
  pub before : (xs ys : List Action) → takes xs → passes ys → takes (xs ++ ys)
  pub later : (xs ys : List Action) → passes xs → takes ys → takes (xs ++ ys)
