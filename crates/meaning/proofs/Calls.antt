-- What calls answer, by the functions' names.
use Rattle.std.proofs.Common.{◌≡◌, ◌≢◌, ℕ, zero, suc, ◌<◌, Bool, true, false, List, [], ◌∷◌, ◌++◌, map, length, take, Option, Some, None, IsSome, ℤ, refl, sym, ap, ◌∙◌, subst, arith, ◌⊎◌, inl, inr, pos}
use Rattle.std.specs.Prelude.{slice_get, fold, option_map}
use Rattle.std.proofs.lemmas.Option.{slice_get-map}
use Rattle.std.proofs.lemmas.Bool.{false≢true}
use Rattle.numeric.specs.declared.ty.Ty.{Ty}
use Rattle.tree.specs.Meaning.{typed}
use Rattle.tree.specs.declared.value.Value.{Value}
use Rattle.meaning.specs.Image.Raster.{sample}
use Rattle.meaning.specs.Algorithm.{Function, Algorithm}
use Rattle.meaning.specs.Names.{same_name}
use Rattle.meaning.specs.Conditions.{AreDistinct, callable}
use Rattle.meaning.specs.Functions.{GoesBack}
use Rattle.meaning.specs.Value.{Calls, with_function, value, value_at_step, input_calls, calls_before, calls_of, value_of_function, value_of_function_at_step}
use Rattle.meaning.proofs.Cases.{name_same, name_differs, same_name_is}

-- no function of the list has the name
abbrev pub NoneNamed : List ℕ → List Function → Type 0
NoneNamed name fs = (j : ℕ) (g : Function) → slice_get fs j ≡ Some g → g.name ≢ name

-- no two functions of the list have one name
abbrev pub OwnNames : List Function → Type 0
OwnNames fs = (i j : ℕ) (g h : Function) → slice_get fs i ≡ Some g → slice_get fs j ≡ Some h → g.name ≡ h.name → i ≡ j

none_more : (name : List ℕ) (f : Function) (fs : List Function) → NoneNamed name (f ∷ fs) → NoneNamed name fs
none_more name f fs h j g e = h (suc j) g e

own_more : (f : Function) (fs : List Function) → OwnNames (f ∷ fs) → OwnNames fs
own_more f fs h i j g k e d s = let r = h (suc i) (suc j) g k e d s in omega arith

own_first : (f : Function) (fs : List Function) → OwnNames (f ∷ fs) → NoneNamed f.name fs
own_first f fs h j g e s = let r = h 0 (suc j) f g refl e (sym s) in absurd (omega arith)

-- a name that is not among the functions
pub calls_miss : (calls : Calls) (fs : List Function) (name : List ℕ) (at : List ℤ) → NoneNamed name fs → fold with_function calls fs name at ≡ calls name at
calls_miss calls [] name at h = refl
calls_miss calls (f ∷ fs) name at h =
    let test = name_differs f.name name (h 0 f refl) in
    let pick : Bool → Value = λ b. elim b [ true ↦ typed f.ty (value calls f at) | false ↦ calls name at ] in
    calls_miss (with_function calls f) fs name at (none_more name f fs h) ∙ ap pick test

pub own_hit : (calls : Calls) (f : Function) (at : List ℤ) → with_function calls f f.name at ≡ typed f.ty (value calls f at)
own_hit calls f at =
    let pick : Bool → Value = λ b. elim b [ true ↦ typed f.ty (value calls f at) | false ↦ calls f.name at ] in
    ap pick (name_same f.name f.name refl)

-- the name of the k-th function
pub calls_hit : (calls : Calls) (fs : List Function) (k : ℕ) (f : Function) (at : List ℤ) → OwnNames fs → slice_get fs k ≡ Some f →
    fold with_function calls fs f.name at ≡ typed f.ty (value (fold with_function calls (take k fs)) f at)
calls_hit calls [] k f at h e = absurd (cc)
calls_hit calls (x ∷ fs) zero f at h e =
    let same : x ≡ f = cc in
    let go = calls_miss (with_function calls x) fs x.name at (own_first x fs h) ∙ own_hit calls x at in
    subst (λ (g : Function). fold with_function calls (x ∷ fs) g.name at ≡ typed g.ty (value calls g at)) same go
calls_hit calls (x ∷ fs) (suc k) f at h e = calls_hit (with_function calls x) fs k f at (own_more x fs h) e

-- the functions of the beginning of a list
pub get_take : {A : Type 0} (xs : List A) (k j : ℕ) → j < k → slice_get (take k xs) j ≡ slice_get xs j
get_take [] zero j h = absurd (omega arith)
get_take [] (suc k) j h = refl
get_take (x ∷ xs) zero j h = absurd (omega arith)
get_take (x ∷ xs) (suc k) zero h = refl
get_take (x ∷ xs) (suc k) (suc j) h = get_take xs k j (omega arith)

pub from_take : {A : Type 0} (xs : List A) (k j : ℕ) (x : A) → slice_get (take k xs) j ≡ Some x → (j < k) × (slice_get xs j ≡ Some x)
from_take [] zero j x e = absurd (cc)
from_take [] (suc k) j x e = absurd (cc)
from_take (y ∷ xs) zero j x e = absurd (cc)
from_take (y ∷ xs) (suc k) zero x e = (omega arith, e)
from_take (y ∷ xs) (suc k) (suc j) x e = let r = from_take xs k j x e in (omega arith, r.1)

pub take_take : {A : Type 0} (xs : List A) (k j : ℕ) → j < k → take j (take k xs) ≡ take j xs
take_take [] zero j h = absurd (omega arith)
take_take [] (suc k) j h = refl
take_take (x ∷ xs) zero j h = absurd (omega arith)
take_take (x ∷ xs) (suc k) zero h = refl
take_take (x ∷ xs) (suc k) (suc j) h = ap (λ ys. x ∷ ys) (take_take xs k j (omega arith))

pub take_one_more : {A : Type 0} (xs : List A) (k : ℕ) (x : A) → slice_get xs k ≡ Some x → take (suc k) xs ≡ take k xs ++ x ∷ []
take_one_more [] k x e = absurd (cc)
take_one_more (y ∷ xs) zero x e = let same : y ≡ x = cc in ap (λ z. z ∷ []) same
take_one_more (y ∷ xs) (suc k) x e = ap (λ ys. y ∷ ys) (take_one_more xs k x e)

pub own_take : (fs : List Function) (k : ℕ) → OwnNames fs → OwnNames (take k fs)
own_take fs k h i j g d e1 e2 s = h i j g d (from_take fs k i g e1).1 (from_take fs k j d e2).1 s

-- the names of the input and the functions
name_at : (fs : List Function) (j : ℕ) (g : Function) → slice_get fs j ≡ Some g → slice_get (map (λ f. f.name) fs) j ≡ Some g.name
name_at fs j g e = slice_get-map (λ f. f.name) fs j ∙ ap (λ (o : Option Function). option_map (λ f. f.name) o) e

module _ (a : Algorithm) (d : AreDistinct (a.input ∷ map (λ f. f.name) a.functions)) where
  pub own_names : OwnNames a.functions
  own_names i j g h e1 e2 s =
      let r = d (suc i) (suc j) g.name (name_at a.functions i g e1) (name_at a.functions j h e2 ∙ ap Some (sym s)) in
      omega arith

  pub none_is_input : NoneNamed a.input a.functions
  none_is_input j g e s =
      let r = d 0 (suc j) a.input refl (name_at a.functions j g e ∙ ap Some s) in
      absurd (omega arith)

  pub none_before_is_input : (k : ℕ) → NoneNamed a.input (take k a.functions)
  none_before_is_input k j g e s = none_is_input j g (from_take a.functions k j g e).1 s

  pub none_before_is : (k : ℕ) (f : Function) → slice_get a.functions k ≡ Some f → NoneNamed f.name (take k a.functions)
  none_before_is k f e j g h s =
      let r = from_take a.functions k j g h in
      let same = own_names j k g f r.1 e s in
      absurd (omega arith)

  module _ (samples : List ℕ) where
    pub of_function : (k : ℕ) (f : Function) (p : List ℤ) → slice_get a.functions k ≡ Some f → value_of_function a samples k p ≡ value (calls_before a samples k) f p
    of_function k f p e =
        let pick : Option Function → ℤ = λ o. elim o [ Some g ↦ value (calls_before a samples k) g p | None ↦ pos 0 ] in
        ap pick e

    pub of_function_at_step : (k : ℕ) (f : Function) (s : ℕ) (p : List ℤ) → slice_get a.functions k ≡ Some f → value_of_function_at_step a samples k s p ≡ value_at_step (calls_before a samples k) f s p
    of_function_at_step k f s p e =
        let pick : Option Function → ℤ = λ o. elim o [ Some g ↦ value_at_step (calls_before a samples k) g s p | None ↦ pos 0 ] in
        ap pick e

    pub called : (k : ℕ) (f : Function) (p : List ℤ) → slice_get a.functions k ≡ Some f → calls_of a samples f.name p ≡ typed f.ty (value_of_function a samples k p)
    called k f p e = calls_hit (input_calls a samples) a.functions k f p own_names e ∙ ap (typed f.ty) (sym (of_function k f p e))

    pub called_before : (j k : ℕ) (f : Function) (p : List ℤ) → slice_get a.functions j ≡ Some f → j < k → calls_before a samples k f.name p ≡ typed f.ty (value_of_function a samples j p)
    called_before j k f p e h =
        calls_hit (input_calls a samples) (take k a.functions) j f p (own_take a.functions k own_names) (get_take a.functions k j h ∙ e)
        ∙ ap (λ (fs : List Function). typed f.ty (value (fold with_function (input_calls a samples) fs) f p)) (take_take a.functions k j h)
        ∙ ap (typed f.ty) (sym (of_function j f p e))

    pub input_called : (p : List ℤ) → calls_of a samples a.input p ≡ typed a.input_ty (sample a.input_extents samples p)
    input_called p = calls_miss (input_calls a samples) a.functions a.input p none_is_input

    pub input_called_before : (k : ℕ) (p : List ℤ) → calls_before a samples k a.input p ≡ typed a.input_ty (sample a.input_extents samples p)
    input_called_before k p = calls_miss (input_calls a samples) (take k a.functions) a.input p (none_before_is_input k)

    -- finished calls and those before a function agree on what the function may call
    pub agree_before : (k : ℕ) (name : List ℕ) → GoesBack a k name → (at : List ℤ) → calls_before a samples k name at ≡ calls_of a samples name at
    agree_before k name (inl e) at =
        ap (λ n. calls_before a samples k n at) e ∙ input_called_before k at ∙ sym (input_called at) ∙ ap (λ n. calls_of a samples n at) (sym e)
    agree_before k name (inr g) at =
        let e = sym g.4 in
        ap (λ n. calls_before a samples k n at) e ∙ called_before g.0 k g.1 at g.3 g.2 ∙ sym (called g.0 g.1 at g.3) ∙ ap (λ n. calls_of a samples n at) (sym e)

-- what can be called is the input or one of the functions
abbrev pub Found : Algorithm → List Function → List ℕ → Type 0
Found a fs name = (name ≡ a.input) ⊎ ((j : ℕ) × (g : Function) × (slice_get fs j ≡ Some g) × (g.name ≡ name))

some_bool : (b : Bool) → (b ≡ true) ⊎ (b ≡ false)
some_bool true = inl refl
some_bool false = inr refl

pub callable_hit : (a : Algorithm) (f : Function) (fs : List Function) (name : List ℕ) → same_name f.name name ≡ true → callable a (f ∷ fs) name ≡ Some (f.ty, length f.variables)
callable_hit a f fs name e =
    let pick : Bool → Option (Ty × ℕ) = λ b. elim b [ true ↦ Some (f.ty, length f.variables) | false ↦ callable a fs name ] in ap pick e

pub callable_miss : (a : Algorithm) (f : Function) (fs : List Function) (name : List ℕ) → same_name f.name name ≡ false → callable a (f ∷ fs) name ≡ callable a fs name
callable_miss a f fs name e =
    let pick : Bool → Option (Ty × ℕ) = λ b. elim b [ true ↦ Some (f.ty, length f.variables) | false ↦ callable a fs name ] in ap pick e

pub callable_input : (a : Algorithm) (name : List ℕ) → same_name a.input name ≡ true → callable a [] name ≡ Some (a.input_ty, length a.input_extents)
callable_input a name e =
    let pick : Bool → Option (Ty × ℕ) = λ b. elim b [ true ↦ Some (a.input_ty, length a.input_extents) | false ↦ None ] in ap pick e

pub callable_none : (a : Algorithm) (name : List ℕ) → same_name a.input name ≡ false → callable a [] name ≡ None
callable_none a name e =
    let pick : Bool → Option (Ty × ℕ) = λ b. elim b [ true ↦ Some (a.input_ty, length a.input_extents) | false ↦ None ] in ap pick e

pub callable_found : (a : Algorithm) (fs : List Function) (name : List ℕ) → IsSome (callable a fs name) → Found a fs name
callable_found a [] name h = elim (some_bool (same_name a.input name)) [
  | inl e ↦ inl (sym (same_name_is a.input name e))
  | inr e ↦ let r = callable_none a name e in absurd (false≢true (subst (λ (o : Option (Ty × ℕ)). IsSome o) r h))
]
callable_found a (f ∷ fs) name h = elim (some_bool (same_name f.name name)) [
  | inl e ↦ inr (0, f, refl, same_name_is f.name name e)
  | inr e ↦ elim (callable_found a fs name (subst (λ (o : Option (Ty × ℕ)). IsSome o) (callable_miss a f fs name e) h)) [
    | inl i ↦ inl i
    | inr g ↦ inr (suc g.0, g.1, g.2, g.3)
  ]
]

pub goes_back : (a : Algorithm) (k : ℕ) (name : List ℕ) → IsSome (callable a (take k a.functions) name) → GoesBack a k name
goes_back a k name h = elim (callable_found a (take k a.functions) name h) [
  | inl i ↦ inl i
  | inr g ↦ let r = from_take a.functions k g.0 g.1 g.2 in inr (g.0, g.1, r.0, r.1, g.3)
]

-- with one function more, its name is that function, and no other name changes
pub callable_other : (a : Algorithm) (fs : List Function) (f : Function) (name : List ℕ) → same_name f.name name ≡ false → callable a (fs ++ f ∷ []) name ≡ callable a fs name
callable_other a [] f name e = callable_miss a f [] name e
callable_other a (g ∷ fs) f name e =
    let pick : Option (Ty × ℕ) → Option (Ty × ℕ) = λ o. elim (same_name g.name name) [ true ↦ Some (g.ty, length g.variables) | false ↦ o ] in
    ap pick (callable_other a fs f name e)

pub callable_own : (a : Algorithm) (fs : List Function) (f : Function) → NoneNamed f.name fs → callable a (fs ++ f ∷ []) f.name ≡ Some (f.ty, length f.variables)
callable_own a [] f h = callable_hit a f [] f.name (name_same f.name f.name refl)
callable_own a (g ∷ fs) f h = callable_miss a g (fs ++ f ∷ []) f.name (name_differs g.name f.name (h 0 g refl)) ∙ callable_own a fs f (none_more f.name g fs h)

pub goes_back_or_own : (a : Algorithm) (k : ℕ) (f : Function) (name : List ℕ) → IsSome (callable a (take k a.functions ++ f ∷ []) name) → GoesBack a k name ⊎ (name ≡ f.name)
goes_back_or_own a k f name h = elim (some_bool (same_name f.name name)) [
  | inl e ↦ inr (sym (same_name_is f.name name e))
  | inr e ↦ inl (goes_back a k name (subst (λ (o : Option (Ty × ℕ)). IsSome o) (callable_other a (take k a.functions) f name e) h))
]
