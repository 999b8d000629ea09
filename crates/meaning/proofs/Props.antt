-- That an algorithm is well formed has at most one proof.
use Rattle.std.specs.Prelude.{◌≡◌, ℕ, List, [], ◌∷◌, All, Bool, true, false, Option, Some, None, IsSome, MatchOption, IsTrue}
use Rattle.std.proofs.Props.{props}
use Rattle.numeric.specs.declared.ty.Ty.{Ty}
use Rattle.numeric.specs.declared.ty.Ty.TheVariants.{U8, U16, U32, I8, I16, I32}
use Rattle.meaning.specs.Image.View.{IsSampleType, AreExtents}
use Rattle.tree.specs.Names.{TakesCall}
use Rattle.tree.specs.Term.{Term, Number, Name, Call, Minus, Binary, Clamp, Cast, Choice, Terms, End, More, Test, Compares, Fails, Both, Either}
use Rattle.tree.specs.Uses.{EachCall, EachCallOfTest, EachCallOfAll, variables_of}
use Rattle.tree.specs.Typing.{index_count}
use Rattle.meaning.specs.Algorithm.{Change, Function, Algorithm}
use Rattle.meaning.specs.Names.{same_name, is_among}
use Rattle.meaning.specs.Conditions.{IsExpression, is_variable, has_variable, KeepsPlace, IsUpdate, IsFunction, function_named, IsOutput, IsAlgorithm}

module _ (P : List ℕ → Terms → Type 0) (p : (name : List ℕ) (at : Terms) → IsProp (P name at)) where
  mutual
    each_call : (e : Term) → IsProp (EachCall P e)
    each_call (Number t n) = Prim.hlevel props
    each_call (Name name) = Prim.hlevel props
    each_call (Call name at) = Prim.hlevel (props, p name at, each_call_of_all at)
    each_call (Minus a) = each_call a
    each_call (Binary op a b) = Prim.hlevel (props, each_call a, each_call b)
    each_call (Clamp a l h) = Prim.hlevel (props, each_call a, each_call l, each_call h)
    each_call (Cast t a) = each_call a
    each_call (Choice c a b) = Prim.hlevel (props, each_call_of_test c, each_call a, each_call b)

    each_call_of_test : (c : Test) → IsProp (EachCallOfTest P c)
    each_call_of_test (Compares by a b) = Prim.hlevel (props, each_call a, each_call b)
    each_call_of_test (Fails c) = each_call_of_test c
    each_call_of_test (Both c d) = Prim.hlevel (props, each_call_of_test c, each_call_of_test d)
    each_call_of_test (Either c d) = Prim.hlevel (props, each_call_of_test c, each_call_of_test d)

    each_call_of_all : (at : Terms) → IsProp (EachCallOfAll P at)
    each_call_of_all End = Prim.hlevel props
    each_call_of_all (More a rest) = Prim.hlevel (props, each_call a, each_call_of_all rest)

takes_call : (o : Option (Ty × ℕ)) (n : ℕ) → IsProp (TakesCall o n)
takes_call None n = Prim.hlevel props
takes_call (Some s) n = Prim.hlevel props

sample_type : (t : Ty) → IsProp (IsSampleType t)
sample_type U8 = Prim.hlevel props
sample_type U16 = Prim.hlevel props
sample_type U32 = Prim.hlevel props
sample_type I8 = Prim.hlevel props
sample_type I16 = Prim.hlevel props
sample_type I32 = Prim.hlevel props

extents : (es : List ℕ) → IsProp (AreExtents es)
extents [] = Prim.hlevel props
extents (w ∷ []) = Prim.hlevel props
extents (w ∷ h ∷ []) = Prim.hlevel props
extents (w ∷ h ∷ c ∷ []) = Prim.hlevel props
extents (w ∷ h ∷ c ∷ d ∷ es) = Prim.hlevel props

expression : (variables : List (List ℕ)) (calls : List ℕ → Option (Ty × ℕ)) (t : Ty) (e : Term) → IsProp (IsExpression variables calls t e)
expression variables calls t e =
    let called = each_call (λ name at. IsSome (calls name)) (λ name at. Prim.hlevel props) e in
    let indexed = each_call (λ name at. TakesCall (calls name) (index_count at)) (λ name at. takes_call (calls name) (index_count at)) e in
    Prim.hlevel (props, called, indexed)

keeps_by : (b : Bool) (A B : Type 0) → IsProp A → IsProp B → IsProp (elim b as (λ _. Type 0) [ true ↦ A | false ↦ B ])
keeps_by true A B p q = p
keeps_by false A B p q = q

keeps_place : (f : Function) (u : Change) (k : ℕ) (v : List ℕ) (e : Term) → IsProp (KeepsPlace f u k v e)
keeps_place f u k v e =
    keeps_by (is_variable v e) (EachCall (λ name at. IsTrue (same_name f.name name) → IsTrue (has_variable v k at)) u.value) (All (λ name. is_among f.variables name ≡ false) (variables_of e))
    (each_call (λ name at. IsTrue (same_name f.name name) → IsTrue (has_variable v k at)) (λ name at. Prim.hlevel props) u.value) (Prim.hlevel props)

update : (a : Algorithm) (before : List Function) (f : Function) (u : Change) → IsProp (IsUpdate a before f u)
update a before f u = Prim.hlevel (props, expression, keeps_place f u)

function : (a : Algorithm) (before : List Function) (f : Function) → IsProp (IsFunction a before f)
function a before f = Prim.hlevel (props, expression, update a before f)

output : (es : List ℕ) (o : Option Function) → IsProp (MatchOption o ⊥ (IsOutput es))
output es None = Prim.hlevel props
output es (Some f) = Prim.hlevel (props, sample_type f.ty)

pub IsAlgorithm-prop : (a : Algorithm) → IsProp (IsAlgorithm a)
IsAlgorithm-prop a =
    Prim.hlevel (props, sample_type a.input_ty, extents a.input_extents, function a, output a.output_extents (function_named a.functions a.output), extents a.output_extents)
