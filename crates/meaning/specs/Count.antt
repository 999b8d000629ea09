-- How many evaluations a value takes, where nothing is remembered.
use Rattle.std.specs.Prelude.{◌≡◌, ◌≢◌, ℕ, zero, suc, ◌+◌, List, ◌++◌, fold, sum_by, true, false, ℤ}
use Rattle.tree.specs.Term.{Term}
use Rattle.tree.specs.Uses.{calls_made}
use Rattle.meaning.specs.Algorithm.{Change, Function, Algorithm}
use Rattle.meaning.specs.Reduction.{size, point}
use Rattle.meaning.specs.Names.{same_name, same_point, bound}
use Rattle.meaning.specs.Value.{Calls, with_name, with_function, variable_names, update_names, left_side, pure_value, value_after, value_updated, value, input_calls, calls_of}

-- what each call costs, by name and indices
abbrev pub Costs : Type 0
Costs = List ℕ → List ℤ → ℕ

abbrev pub with_cost : Costs → List ℕ → (List ℤ → ℕ) → Costs
with_cost costs name counts called at = elim (same_name name called) [ true ↦ counts at | false ↦ costs called at ]

-- what the calls cost that an expression makes, each as often as it stands, those in indices and in both arms of a `select` among them
abbrev pub cost_of : (List ℕ → ℤ) → Calls → Costs → Term → ℕ
cost_of variables calls costs e = sum_by (λ c. costs c.name c.at) (calls_made variables calls e)

-- the values of a function so far, and what each takes
pub record Counted : Type 0 where
  pub values : List ℤ → ℤ
  pub counts : List ℤ → ℕ

-- one function, over the calls of those before it
module _ (calls : Calls) (costs : Costs) (f : Function) where
  abbrev pub pure_count : List ℤ → ℕ
  pure_count p = 1 + cost_of (bound (variable_names calls f) p) calls costs f.value

  -- the calls of an update's right side, where the function so far has these values and counts
  abbrev pub right_cost : (List ℤ → ℤ) → (List ℤ → ℕ) → Change → List ℤ → ℕ
  right_cost values counts u at =
      cost_of (bound (update_names calls f u) at) (with_name calls f.name f.ty values) (with_cost costs f.name counts) u.value

  abbrev pub left_cost : Change → List ℤ → ℕ
  left_cost u at = sum_by (cost_of (bound (update_names calls f u) at) calls costs) u.at

  -- the evaluations that the value at p takes after the first n points of an update
  abbrev pub count_after : Counted → Change → ℕ → List ℤ → ℕ
  count_after before u zero p = 1 + before.counts p
  count_after before u (suc n) p =
      1 + left_cost u (p ++ point u.ranges n) + elim (same_point (left_side calls f u p (point u.ranges n)) p) [
        | true ↦ right_cost (value_after calls f before.values u n) (count_after before u n) u (p ++ point u.ranges n)
        | false ↦ count_after before u n p
      ]

  abbrev pub counted_updated : Counted → Change → Counted
  counted_updated before u = record {
    values = value_updated calls f before.values u;
    counts = count_after before u (size u.ranges);
  }

  abbrev pub counted : Counted
  counted = fold counted_updated (record { values = pure_value calls f; counts = pure_count }) f.changes

-- the calls of the functions so far, and what each costs
pub record Priced : Type 0 where
  pub calls : Calls
  pub costs : Costs

abbrev pub with_priced : Priced → Function → Priced
with_priced so_far f = record {
  calls = with_function so_far.calls f;
  costs = with_cost so_far.costs f.name (counted so_far.calls so_far.costs f).counts;
}

-- input reads cost nothing
abbrev pub priced : Algorithm → List ℕ → Priced
priced a samples = fold with_priced (record { calls = input_calls a samples; costs = λ called at. 0 }) a.functions

-- the evaluations that the output's value at a point takes
abbrev pub output_count : Algorithm → List ℕ → List ℤ → ℕ
output_count a samples p = (priced a samples).costs a.output p

-- the count, case by case
pub record CountFollowsCases : Type 0 where
  -- before the first point: one, and what the definition before takes
  pub first : (calls : Calls) (costs : Costs) (f : Function) (before : Counted) (u : Change) (p : List ℤ) → count_after calls costs f before u 0 p ≡ 1 + before.counts p
  -- where the left side is p: one, the calls of the left side, and those of the right side
  pub set : (calls : Calls) (costs : Costs) (f : Function) (before : Counted) (u : Change) (n : ℕ) (p : List ℤ) → left_side calls f u p (point u.ranges n) ≡ p →
      count_after calls costs f before u (n + 1) p
      ≡ 1 + left_cost calls costs f u (p ++ point u.ranges n) + right_cost calls costs f (value_after calls f before.values u n) (count_after calls costs f before u n) u (p ++ point u.ranges n)
  -- elsewhere: one, the calls of the left side, and what the value before the point takes
  pub kept : (calls : Calls) (costs : Costs) (f : Function) (before : Counted) (u : Change) (n : ℕ) (p : List ℤ) → left_side calls f u p (point u.ranges n) ≢ p →
      count_after calls costs f before u (n + 1) p ≡ 1 + left_cost calls costs f u (p ++ point u.ranges n) + count_after calls costs f before u n p

-- the values that stand beside the counts are the functions' values
pub record CountsStandBesideValues : Type 0 where
  pub values : (calls : Calls) (costs : Costs) (f : Function) → (counted calls costs f).values ≡ value calls f
  pub calls : (a : Algorithm) (samples : List ℕ) → (priced a samples).calls ≡ calls_of a samples
