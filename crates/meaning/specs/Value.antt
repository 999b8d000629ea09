-- The value of a function at a point: no loops, no storage, no order of work.
use Rattle.std.specs.Prelude.{ℕ, zero, suc, ◌+◌, ◌-◌, List, [], ◌∷◌, ◌++◌, map, fold, take, true, false, Some, None, ℤ, pos, nat_le, slice_get}
use Rattle.numeric.specs.declared.ty.Ty.{Ty}
use Rattle.tree.specs.declared.value.Value.{Value}
use Rattle.tree.specs.Term.{Term}
use Rattle.tree.specs.Meaning.{value_of, typed}
use Rattle.meaning.specs.Image.Raster.{sample}
use Rattle.meaning.specs.Algorithm.{Change, Function, Algorithm}
use Rattle.meaning.specs.Reduction.{size, point, rank}
use Rattle.meaning.specs.Names.{same_name, same_point, bound}

-- what each call answers, by name and indices
abbrev pub Calls : Type 0
Calls = List ℕ → List ℤ → Value

-- the same calls, but for one name
abbrev pub with_name : Calls → List ℕ → Ty → (List ℤ → ℤ) → Calls
with_name calls name t values called at = elim (same_name name called) [ true ↦ typed t (values at) | false ↦ calls called at ]

-- the number of an expression where these names stand for these numbers
abbrev pub number_at : Calls → List (List ℕ) → List ℤ → Term → ℤ
number_at calls names numbers e = (value_of (bound names numbers) calls e).number

-- one function, over the calls of those before it
module _ (calls : Calls) (f : Function) where
  abbrev pub variable_names : List (List ℕ)
  variable_names = f.variables

  -- the names that an update's expressions may use, its reduction variables last
  abbrev pub update_names : Change → List (List ℕ)
  update_names u = variable_names ++ map (λ d. d.variable) u.ranges

  -- the place that an update sets at a reduction point r, for the pure variables of p
  abbrev pub left_side : Change → List ℤ → List ℤ → List ℤ
  left_side u p r = map (number_at calls (update_names u) (p ++ r)) u.at

  -- what it sets there, where the function so far has these values
  abbrev pub right_side : (List ℤ → ℤ) → Change → List ℤ → List ℤ → ℤ
  right_side values u p r = number_at (with_name calls f.name f.ty values) (update_names u) (p ++ r) u.value

  abbrev pub pure_value : List ℤ → ℤ
  pure_value p = number_at calls variable_names p f.value

  -- the value at p after the first n points of an update
  abbrev pub value_after : (List ℤ → ℤ) → Change → ℕ → List ℤ → ℤ
  value_after before u zero p = before p
  value_after before u (suc n) p =
      elim (same_point (left_side u p (point u.ranges n)) p) [
        | true ↦ right_side (value_after before u n) u p (point u.ranges n)
        | false ↦ value_after before u n p
      ]

  abbrev pub value_updated : (List ℤ → ℤ) → Change → List ℤ → ℤ
  value_updated before u = value_after before u (size u.ranges)

  -- the value at p after the first k updates
  abbrev pub value_through : ℕ → List ℤ → ℤ
  value_through k = fold value_updated pure_value (take k f.changes)

  -- the value at p after all updates
  abbrev pub value : List ℤ → ℤ
  value = fold value_updated pure_value f.changes

  -- the value at p after so many steps of these updates, one after another, each reduction point of each a step
  abbrev pub value_stepped : (List ℤ → ℤ) → List Change → ℕ → List ℤ → ℤ
  value_stepped before [] s = before
  value_stepped before (u ∷ later) s = elim (nat_le s (size u.ranges)) [
    | true ↦ value_after before u s
    | false ↦ value_stepped (value_updated before u) later (s - size u.ranges)
  ]

  -- the value at p after so many steps, counted through all updates: the pure value after none
  abbrev pub value_at_step : ℕ → List ℤ → ℤ
  value_at_step s = value_stepped pure_value f.changes s

-- how many steps these updates have
abbrev pub steps_of : List Change → ℕ
steps_of [] = 0
steps_of (u ∷ later) = size u.ranges + steps_of later

-- how many steps the first k updates of a function have, and all of them
abbrev pub steps_before : Function → ℕ → ℕ
steps_before f k = steps_of (take k f.changes)

abbrev pub all_steps : Function → ℕ
all_steps f = steps_of f.changes

-- how many steps come before that of a reduction point of an update, counted from 0
abbrev pub step_at : Function → ℕ → Change → List ℤ → ℕ
step_at f k u r = steps_before f k + rank u.ranges r

abbrev pub with_function : Calls → Function → Calls
with_function calls f = with_name calls f.name f.ty (value calls f)

-- a call of the input answers the sample at its indices, and 0 off the input's extents
abbrev pub input_calls : Algorithm → List ℕ → Calls
input_calls a samples called at = typed a.input_ty (sample a.input_extents samples at)

-- what calls answer where only the first k functions are defined
abbrev pub calls_before : Algorithm → List ℕ → ℕ → Calls
calls_before a samples k = fold with_function (input_calls a samples) (take k a.functions)

-- what calls of the input, whose samples are given, and of all functions answer
abbrev pub calls_of : Algorithm → List ℕ → Calls
calls_of a samples = fold with_function (input_calls a samples) a.functions

-- the value at p of the k-th function, counted from 0, after so many steps of its updates
abbrev pub value_of_function_at_step : Algorithm → List ℕ → ℕ → ℕ → List ℤ → ℤ
value_of_function_at_step a samples k s p = elim (slice_get a.functions k) [ Some f ↦ value_at_step (calls_before a samples k) f s p | None ↦ pos 0 ]

-- the value at p of the k-th function, counted from 0
abbrev pub value_of_function : Algorithm → List ℕ → ℕ → List ℤ → ℤ
value_of_function a samples k p = elim (slice_get a.functions k) [ Some f ↦ value (calls_before a samples k) f p | None ↦ pos 0 ]

-- the output's value at a point
abbrev pub output_value : Algorithm → List ℕ → List ℤ → ℤ
output_value a samples p = (calls_of a samples a.output p).number
