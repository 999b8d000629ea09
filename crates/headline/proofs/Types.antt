-- The types of what calls answer.
use Rattle.std.proofs.Common.{◌≡◌, ℕ, zero, suc, Bool, true, false, List, [], ◌∷◌, Option, Some, None, ℤ, refl, sym, ap, ◌∙◌}
use Rattle.std.specs.Prelude.{slice_get, if◌then◌else◌}
use Rattle.tree.specs.declared.value.Value.{Value}
use Rattle.tree.specs.Meaning.{typed}
use Rattle.meaning.specs.Algorithm.{Function, Algorithm}
use Rattle.meaning.specs.Conditions.{IsAlgorithm}
use Rattle.meaning.specs.Names.{same_name}
use Rattle.meaning.specs.Value.{calls_of, input_calls}
use Rattle.meaning.proofs.Calls.{NoneNamed, calls_miss, called}
use Rattle.soundness.specs.Given.{function_named}
use Rattle.soundness.proofs.Refines.{name_true, name_refl}
use Rattle.headline.specs.Work.{type_named, type_or_input}

-- where the function of a name stands
pub record Stands (fs : List Function) (name : List ℕ) (f : Function) : Type 0 where
  pub place : ℕ
  pub at : slice_get fs place ≡ Some f
  pub name_is : f.name ≡ name

pub stands : (fs : List Function) (name : List ℕ) (f : Function) → function_named fs name ≡ Some f → Stands fs name f
stands [] name f e = absurd (cc)
stands (g ∷ gs) name f e = at (same_name g.name name) refl e (stands gs name f)
  where
    at : (v : Bool) → same_name g.name name ≡ v → (if v then Some g else function_named gs name) ≡ Some f → (function_named gs name ≡ Some f → Stands gs name f) → Stands (g ∷ gs) name f
    at true h k rest = let same : g ≡ f = cc in record { place = zero; at = k; name_is = ap (λ (x : Function). x.name) (sym same) ∙ name_true g.name name h }
    at false h k rest = let r = rest k in record { place = suc r.place; at = r.at; name_is = r.name_is }

none_named : (fs : List Function) (name : List ℕ) → function_named fs name ≡ None → NoneNamed name fs
none_named [] name e j g at is = cc
none_named (f ∷ fs) name e j g at is = of (same_name f.name name) refl e (none_named fs name) j at
  where
    of : (v : Bool) → same_name f.name name ≡ v → (if v then Some f else function_named fs name) ≡ None → (function_named fs name ≡ None → NoneNamed name fs) → (j : ℕ) → slice_get (f ∷ fs) j ≡ Some g → ⊥
    of true h k rest j at = cc
    of false h k rest zero at =
        let same : f ≡ g = cc in
        let hit : same_name f.name name ≡ true = ap (λ (x : Function). same_name x.name name) same ∙ ap (λ n. same_name n name) is ∙ name_refl name in
        cc
    of false h k rest (suc j) at = rest k j g at is

module _ (a : Algorithm) (samples : List ℕ) (is : IsAlgorithm a) where
  function_type : (k : ℕ) (g : Function) (at : List ℤ) → slice_get a.functions k ≡ Some g → (calls_of a samples g.name at).ty ≡ g.ty
  function_type k g at e = ap (λ (v : Value). v.ty) (called a is.names samples k g at e)

  -- what a call answers has the type that its name tells
  type_told : (name : List ℕ) (at : List ℤ) (o : Option Function) → function_named a.functions name ≡ o → (calls_of a samples name at).ty ≡ type_or_input a o
  type_told name at None e = ap (λ (v : Value). v.ty) (calls_miss (input_calls a samples) a.functions name at (none_named a.functions name e))
  type_told name at (Some f) e =
      let s = stands a.functions name f e in
      ap (λ n. (calls_of a samples n at).ty) (sym s.name_is) ∙ function_type s.place f at s.at

  pub call_is : (name : List ℕ) (at : List ℤ) → typed (type_named a name) (calls_of a samples name at).number ≡ calls_of a samples name at
  call_is name at = ap (λ t. typed t (calls_of a samples name at).number) (sym (type_told name at (function_named a.functions name) refl))
