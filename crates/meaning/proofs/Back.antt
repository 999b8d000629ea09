-- The calls of a well-formed algorithm, and what follows for its values.
use Rattle.std.proofs.Common.{◌≡◌, ℕ, List, [], ◌∷◌, ◌++◌, take, Some, IsSome, ℤ, ap, ◌∙◌, ◌⊎◌}
use Rattle.std.specs.Prelude.{slice_get, All}
use Rattle.std.proofs.lemmas.List.Elements.{All-weaker}
use Rattle.numeric.specs.declared.ty.Ty.TheVariants.{I32}
use Rattle.tree.specs.Term.{Term}
use Rattle.tree.specs.Uses.{EachCall}
use Rattle.meaning.specs.Algorithm.{Change, Function, Algorithm}
use Rattle.meaning.specs.Conditions.{IsAlgorithm, IsFunction, IsUpdate, IsExpression, callable, names_in}
use Rattle.meaning.specs.Functions.{IsAt, GoesBack, AgreeBefore}
use Rattle.meaning.specs.Value.{Calls, value_at_step, calls_before, calls_of, value_of_function_at_step}
use Rattle.meaning.proofs.Alone.{each_call, all_at, UpdateCalls, same_at_step}
use Rattle.meaning.proofs.Calls.{goes_back, goes_back_or_own, agree_before, of_function_at_step}

module _ (a : Algorithm) (k : ℕ) (f : Function) (w : IsAlgorithm a) (e : IsAt a k f) where
  pub function_is : IsFunction a (take k a.functions) f
  function_is = w.functions k f e

  pub update_is : (i : ℕ) (u : Change) → slice_get f.changes i ≡ Some u → IsUpdate a (take k a.functions) f u
  update_is i u h = all_at (IsUpdate a (take k a.functions) f) f.changes i u function_is.updates h

  back : (t : Term) → EachCall (λ name at. IsSome (callable a (take k a.functions) name)) t → EachCall (λ name at. GoesBack a k name) t
  back t h = each_call (λ name at. IsSome (callable a (take k a.functions) name)) (λ name at. GoesBack a k name) (λ name at. goes_back a k name) t h

  pub pure_goes_back : EachCall (λ name at. GoesBack a k name) f.value
  pure_goes_back = back f.value function_is.pure.called

  pub left_goes_back : (i : ℕ) (u : Change) → slice_get f.changes i ≡ Some u → All (EachCall (λ name at. GoesBack a k name)) u.at
  left_goes_back i u h =
      All-weaker (IsExpression (names_in f u) (callable a (take k a.functions)) I32) (EachCall (λ name at. GoesBack a k name)) (λ t x. back t x.called) u.at (update_is i u h).left

  pub right_goes_back : (i : ℕ) (u : Change) → slice_get f.changes i ≡ Some u → EachCall (λ name at. GoesBack a k name ⊎ (name ≡ f.name)) u.value
  right_goes_back i u h =
      each_call (λ name at. IsSome (callable a (take k a.functions ++ f ∷ []) name)) (λ name at. GoesBack a k name ⊎ (name ≡ f.name)) (λ name at. goes_back_or_own a k f name) u.value (update_is i u h).right.called

  pub stands_alone : (calls others : Calls) → AgreeBefore a k calls others → (s : ℕ) (p : List ℤ) → value_at_step calls f s p ≡ value_at_step others f s p
  stands_alone calls others h s p =
      let updates : (i : ℕ) (u : Change) → slice_get f.changes i ≡ Some u → UpdateCalls calls others f (GoesBack a k) h u =
      λ i u g. record { left = left_goes_back i u g; right = right_goes_back i u g } in
      ap (λ (g : List ℤ → ℤ). g p) (same_at_step calls others f (GoesBack a k) h pure_goes_back updates s)

  pub finished : (samples : List ℕ) (s : ℕ) (p : List ℤ) → value_of_function_at_step a samples k s p ≡ value_at_step (calls_of a samples) f s p
  finished samples s p =
      of_function_at_step a w.names samples k f s p e ∙ stands_alone (calls_before a samples k) (calls_of a samples) (agree_before a w.names samples k) s p
