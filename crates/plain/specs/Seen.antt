-- What a scope gives to an expression.
use Rattle.std.specs.Prelude.{◌≡◌, ℕ, List, true, false, Bool, map, take, ℤ, ◌≤◌, ◌+◌}
use Rattle.tree.specs.declared.value.Value.{Value}
use Rattle.tree.specs.Term.{Terms}
use Rattle.tree.specs.Names.{typed_answers}
use Rattle.tree.specs.Typing.{are_indices, index_count}
use Rattle.tree.specs.Uses.{EachCallOfAll}
use Rattle.meaning.specs.Names.{is_among, bound}
use Rattle.meaning.specs.Conditions.{callable}
use Rattle.algo.specs.declared.algorithm.Algo.{Algo}
use Rattle.algo.specs.declared.inputs.Inputs.{Inputs}
use Rattle.algo.specs.View.{algorithm_of, picture_of}
use Rattle.plain.specs.declared.scope.Scope.{Scope}
use Rattle.plain.specs.declared.frame.Frame.{Frame}
use Rattle.plain.specs.declared.frame.Stage.TheVariants.{Right}
use Rattle.plain.specs.declared.frame.Step.{Step}
use Rattle.plain.specs.declared.frame.Step.TheVariants.{Falls, Turns}
use Rattle.plain.specs.Works.{bound_name, bound_number, entry_of}
use Rattle.plain.specs.Scopes.{answered}
use Rattle.plain.specs.Stages.{callees_at}

abbrev pub scope_variables : Scope → List ℕ → ℤ
scope_variables s = bound (map bound_name s.bindings.now) (map bound_number s.bindings.now)

abbrev pub scope_answers : Scope → List ℕ → List ℤ → Value
scope_answers s = typed_answers (callable (algorithm_of s.algo.now) (take s.callees (algorithm_of s.algo.now).functions)) (answered (algorithm_of s.algo.now) (picture_of s.inputs.now) (map entry_of s.answers.now))

-- each of these is an index, over the scope's names and calls
pub record CanEvaluateAll (s : Scope) (at : Terms) : Type 0 where
  pub typed : are_indices (is_among (map bound_name s.bindings.now)) (callable (algorithm_of s.algo.now) (take s.callees (algorithm_of s.algo.now).functions)) at ≡ true
  pub few : EachCallOfAll (λ name at. index_count at ≤ 4) at

-- the scope has the frame's bindings and answers, and the functions that the frame's stage may call
pub record IsScopeOf (a : Algo) (i : Inputs) (f : Frame) (s : Scope) : Type 0 where
  pub algo : s.algo.now ≡ a
  pub inputs : s.inputs.now ≡ i
  pub callees : s.callees ≡ callees_at f.stage f.function
  pub bindings : s.bindings.now ≡ f.bindings.items
  pub answers : s.answers.now ≡ f.answers.items

-- on to the right side where the left side is the point, else to the value before the reduction point
abbrev pub turned : Bool → ℕ → ℕ → Step
turned true i n = Turns (Right i n)
turned false i n = Falls (i + 1) n
