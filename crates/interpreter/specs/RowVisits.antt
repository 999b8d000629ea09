-- What is done at the points of a row together.
use Rattle.std.specs.Prelude.{ℕ, zero, suc, List, [], ◌∷◌, ◌++◌, Option, Some, None, ℤ, flat_map, slice_index_or}
use Rattle.tree.specs.declared.value.Value.{Value}
use Rattle.plan.specs.Semantics.Actions.{Action, Take}
use Rattle.plan.specs.Semantics.Found.{with}
use Rattle.interpreter.specs.Visits.{at_point, between}
use Rattle.interpreter.specs.declared.piece.Piece.{Piece}
use Rattle.interpreter.specs.declared.visits.Visit.{Visit}

-- what is done at the points whose first coordinate goes from one number to another, and whose others are these
abbrev pub row_actions : Piece → Visit → List ℤ → ℤ → ℤ → List Action
row_actions x v others low high = flat_map (λ z. flat_map (at_point x v) ((z ∷ others) ∷ [])) (between low high)

-- the cells of a function at these points, each set in a buffer
abbrev pub row_takes : ℕ → List ℕ → List ℤ → ℤ → ℤ → List Action
row_takes b f others low high = flat_map (λ z. Take b f (z ∷ others) ∷ []) (between low high)

-- earlier numbers, and behind them those that so many of the first places hold, if each of these holds one
abbrev pub given_from : List (Option Value) → List ℤ → ℕ → Option (List ℤ)
given_from places given zero = Some given
given_from places given (suc n) = with (given_from places given n) (λ zs. with (slice_index_or places n None) (λ v. Some (zs ++ v.number ∷ [])))
