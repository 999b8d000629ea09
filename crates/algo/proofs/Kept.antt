-- A statement that keeps every condition makes functions that can stand in an algorithm.
use Rattle.std.proofs.Common.{◌≡◌, ℕ, zero, suc, ◌+◌, ◌<◌, ◌≤◌, ◌⊎◌, inl, inr, List, [], ◌∷◌, ◌++◌, length, map, take, All, Some, Option, refl, sym, ap, subst, ◌∙◌, arith, true, false, length-append, get_or}
use Rattle.std.specs.Prelude.{slice_get}
use Rattle.std.proofs.lemmas.List.{take-append-le, map-append, length-map}
use Rattle.std.proofs.lemmas.List.Elements.{All-push}
use Rattle.std.proofs.lemmas.Option.{slice_get_within}
use Rattle.std.proofs.Math.Seq.{take-append_seam}
use Rattle.numeric.specs.declared.ty.Ty.{Ty}
use Rattle.numeric.specs.declared.ty.Ty.TheVariants.{I32}
use Rattle.tree.specs.Term.{Term}
use Rattle.tree.specs.Typing.{type_of}
use Rattle.meaning.specs.Algorithm.{Range, Change, Function, Algorithm}
use Rattle.meaning.specs.Names.{same_name, is_among}
use Rattle.meaning.specs.Conditions.{AreDistinct, callable, IsSmall, IsExpression, IsDomain, IsUpdate, IsFunction, names_in}
use Rattle.algo.proofs.Expressions.{typed_is_expression}
use Rattle.algo.proofs.Doubles.{distinct_push}
use Rattle.expr.specs.Statements.Text.{DomainText, FunctionText, UpdateText}
use Rattle.algo.specs.declared.error.Code.{Code}
use Rattle.algo.specs.declared.error.Code.TheVariants.{BadToken, BadForm, TooLarge, Name, LaterCall, IndexCount, MovedVariable, NoDomain, TypesDiffer, Limit, SampleType}
use Rattle.algo.specs.Saying.{range_said, change_said, function_said, domain_names, with_update}
use Rattle.algo.specs.Context.{AreFunctions, function_names}
use Rattle.algo.specs.Keeping.{KeepsFunction, KeepsUpdate, KeepsUpdateOver, names_for, CallsKnown, CallsCounted, FunctionNames, FunctionLimits, UpdateNames, UpdateCalls, UpdateIndices, UpdatePlaces, UpdateTypes, UpdateLimits}

-- the names of ranges are those of their domains
pub names-said : (ds : List DomainText) → map (λ (d : Range). d.variable) (map range_said ds) ≡ domain_names ds
names-said [] = refl
names-said (d ∷ ds) = λ i. d.variable ∷ names-said ds i

-- the same function with one more update
abbrev pub updated : Function → Change → Function
updated f u = record f { changes = f.changes ++ u ∷ [] }

module _ (a : Algorithm) (f : Function) (u : Change) where
  own_same_at : (before : List Function) (name : List ℕ) → callable a (before ++ f ∷ []) name ≡ callable a (before ++ updated f u ∷ []) name
  own_same_at [] name = refl
  own_same_at (g ∷ gs) name =
      let pick : Option (Ty × ℕ) → Option (Ty × ℕ) = λ o. elim (same_name g.name name) [ true ↦ Some (g.ty, length g.variables) | false ↦ o ] in
      ap pick (own_same_at gs name)

  -- its updates do not count for what can be called
  own_same : (before : List Function) → callable a (before ++ f ∷ []) ≡ callable a (before ++ updated f u ∷ [])
  own_same before = λ i name. own_same_at before name i

  -- nor for whether an update can be one of it
  update_moved : (before : List Function) (v : Change) → IsUpdate a before f v → IsUpdate a before (updated f u) v
  update_moved before v k = record {
    domain = k.domain;
    names = k.names;
    places = k.places;
    left = k.left;
    kept = k.kept;
    right = subst (λ (calls : List ℕ → Option (Ty × ℕ)). IsExpression (names_in f v) calls f.ty v.value) (own_same before) k.right;
  }

module _ (a : Algorithm) (declared : List (List ℕ)) (before : List Function) where
  pub function_kept : (s : FunctionText Term) → ((code : Code) → KeepsFunction a declared before code s) → IsSmall s.value → IsFunction a before (function_said s)
  function_kept s keeps small = record {
    some = (keeps Limit).some;
    few = (keeps Limit).few;
    names = (keeps Name).distinct;
    pure = typed_is_expression s.variables (callable a before) s.ty s.value (keeps TypesDiffer) small;
    few_updates = omega arith;
    updates = λ k d lt. absurd (omega arith);
  }

  module _ (f : Function) (s : UpdateText Term) (keeps : (code : Code) → KeepsUpdate a declared before f code s) (small : All IsSmall s.at) (small_value : IsSmall s.value) where
    vs : names_for f s ≡ names_in f (change_said s)
    vs = ap (λ names. f.variables ++ names) (sym (names-said s.domains))

    expression : (calls : List ℕ → Option (Ty × ℕ)) (t : Ty) (e : Term) → type_of (is_among (names_for f s)) calls e ≡ Some t → IsSmall e → IsExpression (names_in f (change_said s)) calls t e
    expression calls t e typed h = subst (λ names. IsExpression names calls t e) vs (typed_is_expression (names_for f s) calls t e typed h)

    is_domain : IsDomain (change_said s).ranges
    is_domain =
        let n : length (map range_said s.domains) ≡ length s.domains = length-map s.domains range_said in
        let some : 1 ≤ length s.domains = keeps NoDomain in
        let few : length s.domains ≤ 3 = (keeps Limit).domain.few in
        record { some = omega arith; few = omega arith; ranges = (keeps Limit).domain.ranges; points = (keeps Limit).domain.points }

    is_update : IsUpdate a before f (change_said s)
    is_update = record {
      domain = is_domain;
      names = subst AreDistinct vs (keeps Name).distinct;
      places = (keeps IndexCount).places;
      left = λ k d lt. expression (callable a before) I32 (get_or s.at k d) ((keeps TypesDiffer).left k d lt) (small k d lt);
      kept = (keeps MovedVariable).kept;
      right = expression (callable a (before ++ f ∷ [])) f.ty s.value (keeps TypesDiffer).value small_value;
    }

    pub update_kept : IsFunction a before f → IsFunction a before (updated f (change_said s))
    update_kept h =
        let moved : All (IsUpdate a before (updated f (change_said s))) f.changes = λ k d lt. update_moved a f (change_said s) before _ (h.updates k d lt) in
        let n : length (f.changes ++ change_said s ∷ []) ≡ length f.changes + 1 = length-append f.changes (change_said s ∷ []) in
        let room : length f.changes < 4 = (keeps Limit).room in
        record {
          some = h.some;
          few = h.few;
          names = h.names;
          pure = h.pure;
          few_updates = omega arith;
          updates = All-push (IsUpdate a before (updated f (change_said s))) f.changes (change_said s) moved (update_moved a f (change_said s) before (change_said s) is_update);
        }

-- ---- lists of functions

pub some_inside : {A : Type 0} {x y : A} → Some x ≡ Some y → x ≡ y
some_inside e = cc

-- what stands in a list with one more stands in the list, or is the one more
pub pushed_cases : {A : Type 0} (xs : List A) (x : A) (i : ℕ) (y : A) → slice_get (xs ++ x ∷ []) i ≡ Some y → ((i < length xs) × (slice_get xs i ≡ Some y)) ⊎ ((i ≡ length xs) × (x ≡ y))
pushed_cases [] x zero y h = inr (refl, some_inside h)
pushed_cases [] x (suc i) y h = cc
pushed_cases (z ∷ xs) x zero y h = inl (omega arith, h)
pushed_cases (z ∷ xs) x (suc i) y h = elim (pushed_cases xs x i y h) [ inl e ↦ inl (let l : i < length xs = e.0 in omega arith, e.1) | inr e ↦ inr (let l : i ≡ length xs = e.0 in omega arith, e.1) ]

pub stands_left : {A : Type 0} (xs ys : List A) (i : ℕ) (x : A) → slice_get xs i ≡ Some x → slice_get (xs ++ ys) i ≡ Some x
stands_left [] ys i x h = cc
stands_left (z ∷ xs) ys zero x h = h
stands_left (z ∷ xs) ys (suc i) x h = stands_left xs ys i x h

stands_last : {A : Type 0} (xs : List A) (x : A) → slice_get (xs ++ x ∷ []) (length xs) ≡ Some x
stands_last [] x = refl
stands_last (z ∷ xs) x = stands_last xs x

take_before : {A : Type 0} (xs : List A) (x : A) (k : ℕ) → k ≤ length xs → take k (xs ++ x ∷ []) ≡ take k xs
take_before xs x k h = rw take-append-le refl

take_whole : {A : Type 0} (xs : List A) (x : A) → take (length xs) (xs ++ x ∷ []) ≡ xs
take_whole xs x = take-append_seam xs (x ∷ [])

names-pushed : (fs : List Function) (f : Function) → function_names (fs ++ f ∷ []) ≡ function_names fs ++ f.name ∷ []
names-pushed fs f = map-append (λ (g : Function). g.name) fs (f ∷ [])

module _ (a : Algorithm) (fs : List Function) (f : Function) where
  -- each of the functions, where the last one is a function after the others
  each_function : ((k : ℕ) (g : Function) → slice_get fs k ≡ Some g → IsFunction a (take k fs) g) → IsFunction a fs f
      → (k : ℕ) (g : Function) → slice_get (fs ++ f ∷ []) k ≡ Some g → IsFunction a (take k (fs ++ f ∷ [])) g
  each_function old new k g h = elim (pushed_cases fs f k g h) [
    | inl e ↦ let l : k < length fs = e.0 in subst (λ before. IsFunction a before g) (sym (take_before fs f k (omega arith))) (old k g e.1)
    | inr e ↦ let p : take k (fs ++ f ∷ []) ≡ fs = ap (λ n. take n (fs ++ f ∷ [])) e.0 ∙ take_whole fs f in subst (λ before. IsFunction a before g) (sym p) (subst (IsFunction a fs) e.1 new)
  ]

  -- those before the last
  earlier_functions : ((k : ℕ) (g : Function) → slice_get (fs ++ f ∷ []) k ≡ Some g → IsFunction a (take k (fs ++ f ∷ [])) g)
      → (k : ℕ) (g : Function) → slice_get fs k ≡ Some g → IsFunction a (take k fs) g
  earlier_functions all k g h =
      let l : k < length fs = slice_get_within fs k g h in
      subst (λ before. IsFunction a before g) (take_before fs f k (omega arith)) (all k g (stands_left fs (f ∷ []) k g h))

  last_function : ((k : ℕ) (g : Function) → slice_get (fs ++ f ∷ []) k ≡ Some g → IsFunction a (take k (fs ++ f ∷ [])) g) → IsFunction a fs f
  last_function all = subst (λ before. IsFunction a before f) (take_whole fs f) (all (length fs) f (stands_last fs f))

pub functions_pushed : (a : Algorithm) (fs : List Function) (f : Function) → AreFunctions a fs → length fs < 64 → is_among (a.input ∷ function_names fs) f.name ≡ false → IsFunction a fs f → AreFunctions a (fs ++ f ∷ [])
functions_pushed a fs f h room new is = record {
  few = let n : length (fs ++ f ∷ []) ≡ length fs + 1 = length-append fs (f ∷ []) in omega arith;
  names = subst (λ names. AreDistinct (a.input ∷ names)) (sym (names-pushed fs f)) (distinct_push (a.input ∷ function_names fs) f.name h.names new);
  functions = each_function a fs f h.functions is;
}

pub functions_updated : (a : Algorithm) (fs : List Function) (f : Function) (u : Change) → AreFunctions a (fs ++ f ∷ []) → IsFunction a fs (updated f u) → AreFunctions a (fs ++ updated f u ∷ [])
functions_updated a fs f u h is = record {
  few =
      let n : length (fs ++ updated f u ∷ []) ≡ length fs + 1 = length-append fs (updated f u ∷ []) in
      let m : length (fs ++ f ∷ []) ≡ length fs + 1 = length-append fs (f ∷ []) in
      let k : length (fs ++ f ∷ []) ≤ 64 = h.few in
      omega arith;
  names = subst (λ names. AreDistinct (a.input ∷ names)) (names-pushed fs f ∙ sym (names-pushed fs (updated f u))) h.names;
  functions = each_function a fs (updated f u) (earlier_functions a fs f h.functions) is;
}

-- the last of functions
pub last_is : (a : Algorithm) (fs : List Function) (f : Function) → AreFunctions a (fs ++ f ∷ []) → IsFunction a fs f
last_is a fs f h = last_function a fs f h.functions

pub with_update-last : (fs : List Function) (f : Function) (u : Change) → with_update (fs ++ f ∷ []) u ≡ fs ++ updated f u ∷ []
with_update-last [] f u = refl
with_update-last (g ∷ []) f u = refl
with_update-last (g ∷ h ∷ fs) f u = ap (λ l. g ∷ l) (with_update-last (h ∷ fs) f u)

-- ---- from the conditions one by one to all of them

module _ (a : Algorithm) (declared : List (List ℕ)) (before : List Function) where
  pub function_keeps : (s : FunctionText Term) → FunctionNames a declared before s → CallsKnown (callable a before) s.value → CallsCounted (callable a before) s.value
      → type_of (is_among s.variables) (callable a before) s.value ≡ Some s.ty → FunctionLimits a declared before s → (code : Code) → KeepsFunction a declared before code s
  function_keeps s names calls counts types limits Name = names
  function_keeps s names calls counts types limits LaterCall = calls
  function_keeps s names calls counts types limits IndexCount = counts
  function_keeps s names calls counts types limits TypesDiffer = types
  function_keeps s names calls counts types limits Limit = limits
  function_keeps s names calls counts types limits BadToken = tt
  function_keeps s names calls counts types limits BadForm = tt
  function_keeps s names calls counts types limits TooLarge = tt
  function_keeps s names calls counts types limits MovedVariable = tt
  function_keeps s names calls counts types limits NoDomain = tt
  function_keeps s names calls counts types limits SampleType = tt

  pub update_keeps : (f : Function) (fs : List Function) (s : UpdateText Term) → UpdateNames declared f s → UpdateCalls (callable a fs) s → UpdateIndices (callable a fs) f s → UpdatePlaces f s
      → 1 ≤ length s.domains → UpdateTypes (callable a before) (callable a fs) f s → UpdateLimits f s → (code : Code) → KeepsUpdateOver a declared before f fs code s
  update_keeps f fs s names calls counts places domain types limits Name = names
  update_keeps f fs s names calls counts places domain types limits LaterCall = calls
  update_keeps f fs s names calls counts places domain types limits IndexCount = counts
  update_keeps f fs s names calls counts places domain types limits MovedVariable = places
  update_keeps f fs s names calls counts places domain types limits NoDomain = domain
  update_keeps f fs s names calls counts places domain types limits TypesDiffer = types
  update_keeps f fs s names calls counts places domain types limits Limit = limits
  update_keeps f fs s names calls counts places domain types limits BadToken = tt
  update_keeps f fs s names calls counts places domain types limits BadForm = tt
  update_keeps f fs s names calls counts places domain types limits TooLarge = tt
  update_keeps f fs s names calls counts places domain types limits SampleType = tt
