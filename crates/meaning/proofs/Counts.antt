-- The evaluation count, and the values beside it.
use Rattle.std.proofs.Common.{◌≡◌, ◌≢◌, ℕ, ◌+◌, Bool, true, false, List, [], ◌∷◌, ◌++◌, ℤ, refl, ap, add-one}
use Rattle.std.specs.Prelude.{fold}
use Rattle.meaning.specs.Algorithm.{Change, Function}
use Rattle.meaning.specs.Reduction.{point}
use Rattle.meaning.specs.Value.{Calls, left_side, value_after, value_updated, with_function}
use Rattle.meaning.specs.Count.{Costs, Counted, Priced, left_cost, right_cost, count_after, counted_updated, with_priced}
use Rattle.meaning.proofs.Cases.{point_same, point_differs}

module _ (calls : Calls) (costs : Costs) (f : Function) where
  module _ (before : Counted) (u : Change) (n : ℕ) (p : List ℤ) where
    choose : Bool → ℕ
    choose b = 1 + left_cost calls costs f u (p ++ point u.ranges n) + elim b [
      | true ↦ right_cost calls costs f (value_after calls f before.values u n) (count_after calls costs f before u n) u (p ++ point u.ranges n)
      | false ↦ count_after calls costs f before u n p
    ]

    pub count_set : left_side calls f u p (point u.ranges n) ≡ p →
        count_after calls costs f before u (n + 1) p
        ≡ 1 + left_cost calls costs f u (p ++ point u.ranges n) + right_cost calls costs f (value_after calls f before.values u n) (count_after calls costs f before u n) u (p ++ point u.ranges n)
    unfolding choose
    count_set e = let test = point_same (left_side calls f u p (point u.ranges n)) p e in rw add-one (ap choose test)

    pub count_kept : left_side calls f u p (point u.ranges n) ≢ p →
        count_after calls costs f before u (n + 1) p ≡ 1 + left_cost calls costs f u (p ++ point u.ranges n) + count_after calls costs f before u n p
    unfolding choose
    count_kept d = let test = point_differs (left_side calls f u p (point u.ranges n)) p d in rw add-one (ap choose test)

  pub updated_values : (before : Counted) (us : List Change) → (fold (counted_updated calls costs f) before us).values ≡ fold (value_updated calls f) before.values us
  updated_values before [] = refl
  updated_values before (u ∷ us) = updated_values (counted_updated calls costs f before u) us

pub priced_calls : (so_far : Priced) (fs : List Function) → (fold with_priced so_far fs).calls ≡ fold with_function so_far.calls fs
priced_calls so_far [] = refl
priced_calls so_far (f ∷ fs) = priced_calls (with_priced so_far f) fs
