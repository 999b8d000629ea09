-- The algorithm's value of each cell is a value of its function's type.
use Rattle.std.proofs.Common.{◌≡◌, ℕ, zero, suc, Bool, true, false, List, [], ◌∷◌, length, Option, Some, None, ℤ, refl, sym, ap, ◌∙◌, subst, arith}
use Rattle.std.specs.Prelude.{slice_get, if◌then◌else◌}
use Rattle.numeric.specs.Wrap.{IsOf}
use Rattle.tree.specs.declared.value.Value.{Value}
use Rattle.meaning.specs.Algorithm.{Function, Algorithm}
use Rattle.meaning.specs.Conditions.{IsAlgorithm}
use Rattle.meaning.specs.Functions.{AreSamples, IsPoint}
use Rattle.meaning.specs.Names.{same_name}
use Rattle.meaning.specs.Value.{calls_of, input_calls, value_of_function}
use Rattle.meaning.proofs.Calls.{NoneNamed, called, callable_input, calls_miss}
use Rattle.meaning.proofs.Typed.{before_answers, value_is_typed}
use Rattle.soundness.specs.Given.{function_named}
use Rattle.soundness.proofs.Refines.{name_refl}
use Rattle.headline.specs.Work.{type_named, type_or_input}
use Rattle.headline.proofs.Types.{stands}

none_named : (fs : List Function) (name : List ℕ) → function_named fs name ≡ None → NoneNamed name fs
none_named [] name e j g at is = cc
none_named (f ∷ fs) name e j g at is = of (same_name f.name name) refl e (none_named fs name) j at
  where
    of : (v : Bool) → same_name f.name name ≡ v → (if v then Some f else function_named fs name) ≡ None → (function_named fs name ≡ None → NoneNamed name fs) → (j : ℕ) → slice_get (f ∷ fs) j ≡ Some g → ⊥
    of true h k rest j at = cc
    of false h k rest zero at =
        let same : f ≡ g = cc in
        let hit : same_name f.name name ≡ true = ap (λ (x : Function). same_name x.name name) same ∙ ap (λ n. same_name n name) is ∙ name_refl name in
        cc
    of false h k rest (suc j) at = rest k j g at is

module _ (a : Algorithm) (samples : List ℕ) (w : IsAlgorithm a) (in_type : AreSamples a samples) where
  -- what the input answers, whatever the name
  input_typed : (at : List ℤ) → IsPoint at → IsOf a.input_ty (input_calls a samples a.input at).number
  input_typed at inside =
      (before_answers a samples w in_type 0 (omega arith) a.input (a.input_ty, length a.input_extents) (callable_input a a.input (name_refl a.input)) at inside).within

  of_type : (name : List ℕ) (at : List ℤ) (o : Option Function) → function_named a.functions name ≡ o → IsPoint at → IsOf (type_or_input a o) (calls_of a samples name at).number
  of_type name at None e inside =
      subst (λ (v : Value). IsOf a.input_ty v.number) (sym (calls_miss (input_calls a samples) a.functions name at (none_named a.functions name e))) (input_typed at inside)
  of_type name at (Some f) e inside =
      let s = stands a.functions name f e in
      let same : (calls_of a samples name at).number ≡ value_of_function a samples s.place at = ap (λ n. (calls_of a samples n at).number) (sym s.name_is) ∙ ap (λ (v : Value). v.number) (called a w.names samples s.place f at s.at) in
      subst (IsOf f.ty) (sym same) (value_is_typed a samples w in_type s.place f s.at at inside)

  pub call_typed : (name : List ℕ) (at : List ℤ) → IsPoint at → IsOf (type_named a name) (calls_of a samples name at).number
  call_typed name at inside = of_type name at (function_named a.functions name) refl inside
