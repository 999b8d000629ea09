-- A well-formed algorithm's expressions with calls put in.
use Rattle.std.proofs.Common.{◌≡◌, ◌≢◌, ℕ, zero, suc, ◌+◌, ◌≤◌, ◌<◌, Bool, true, false, List, [], ◌∷◌, ◌++◌, length, take, Option, Some, None, IsSome, ℤ, refl, sym, ap, ◌∙◌, subst, arith, ◌⊎◌, inl, inr}
use Rattle.std.specs.Prelude.{slice_get, fold, is_some, if◌then◌else◌, not, ◌&&◌, ◌||◌}
use Rattle.std.proofs.lemmas.Bool.{false≢true}
use Rattle.numeric.specs.declared.ty.Ty.{Ty}
use Rattle.numeric.specs.declared.ty.Ty.TheVariants.{I32}
use Rattle.std.proofs.lemmas.List.Elements.{All-weaker}
use Rattle.tree.specs.declared.value.Value.{Value}
use Rattle.tree.specs.Term.{Term, Terms, Call}
use Rattle.tree.specs.Meaning.{value_of, typed}
use Rattle.tree.specs.Typing.{type_of}
use Rattle.tree.specs.Uses.{EachCall}
use Rattle.tree.proofs.Uses.{each_call as every_call}
use Rattle.meaning.specs.Algorithm.{Change, Function, Algorithm}
use Rattle.meaning.specs.Names.{same_name, is_among}
use Rattle.meaning.specs.Conditions.{IsAlgorithm, IsExpression, callable, function_named, names_in}
use Rattle.meaning.specs.Functions.{IsAt, GoesBack, AgreeBefore}
use Rattle.meaning.specs.Value.{Calls, with_name, pure_value, value, value_updated, calls_before, calls_of}
use Rattle.meaning.proofs.Alone.{each_call}
use Rattle.meaning.proofs.Cases.{name_same, name_differs, same_name_is}
use Rattle.meaning.proofs.Calls.{NoneNamed, OwnNames, callable_hit, callable_miss, callable_none, callable_input, callable_found, own_names, none_is_input, called, input_called, of_function, agree_before, goes_back, from_take, take_one_more}
use Rattle.meaning.proofs.Steps.{stepped_none}
use Rattle.meaning.proofs.Back.{stands_alone, pure_goes_back, right_goes_back, update_is}
use Rattle.meaning.specs.Inlining.PutIn.{with_definitions, put_in, calls_some, has_updates, with_updates, comes_to_updates, calls_updates, is_typed_anywhere, is_possible, put_in_where_possible}
use Rattle.meaning.specs.Inlining.Laws.{MayPutIn, HasType, TakesNoUpdates, KeepsItsValue, KeepsItsValueAnyhow, KeepsItsSide, KeepsItsSides, KeepsValues, StaysCalled}
use Rattle.meaning.proofs.InliningTyped.{some_is, some-is, some_bool, both_true, AnswersTyped, same_type_of, type_is, type_anywhere, both_calls}
use Rattle.meaning.proofs.Keeps.{CanPutIn, right_with_all, keeps, IsOfItsType, HasCallsType, calls_have_types, type_with_all, keeps_type}
use Rattle.meaning.proofs.Marks.{calls_none, no_call, same_marks, steps_before, steps_at, with_updates-miss, with_updates-hit, none_marked}
use Rattle.meaning.proofs.Stays.{same_calls, calls_alone, definitions_miss, definitions_before, CallNoneLater, all_done, done, IsDone}

callable_none_named : (a : Algorithm) (fs : List Function) (name : List ℕ) → NoneNamed name fs → callable a fs name ≡ callable a [] name
callable_none_named a [] name h = refl
callable_none_named a (f ∷ fs) name h = callable_miss a f fs name (name_differs f.name name (h 0 f refl)) ∙ callable_none_named a fs name (λ j g e. h (suc j) g e)

-- what can be called stays with more functions
callable_more : (a : Algorithm) (fs : List Function) (k : ℕ) (name : List ℕ) → NoneNamed a.input fs → IsSome (callable a (take k fs) name) → callable a (take k fs) name ≡ callable a fs name
callable_more a fs zero name h some = elim (some_bool (same_name a.input name)) [
  | inl t ↦ let n = same_name_is a.input name t in sym (callable_none_named a fs name (subst (λ x. NoneNamed x fs) n h))
  | inr t ↦ absurd (false≢true (subst (λ (o : Option (Ty × ℕ)). IsSome o) (callable_none a name t) some))
]
callable_more a [] (suc k) name h some = refl
callable_more a (f ∷ fs) (suc k) name h some = elim (some_bool (same_name f.name name)) [
  | inl t ↦ callable_hit a f (take k fs) name t ∙ sym (callable_hit a f fs name t)
  | inr t ↦
      let less = callable_miss a f (take k fs) name t in
      less ∙ callable_more a fs k name (λ j g e. h (suc j) g e) (subst (λ (o : Option (Ty × ℕ)). IsSome o) less some) ∙ sym (callable_miss a f fs name t)
]

callable_at : (a : Algorithm) (fs : List Function) (k : ℕ) (f : Function) → OwnNames fs → slice_get fs k ≡ Some f → callable a fs f.name ≡ Some (f.ty, length f.variables)
callable_at a [] k f h e = absurd (cc)
callable_at a (x ∷ fs) zero f h e =
    let same : x ≡ f = some_is e in
    subst (λ (g : Function). callable a (x ∷ fs) g.name ≡ Some (g.ty, length g.variables)) same (callable_hit a x fs x.name (name_same x.name x.name refl))
callable_at a (x ∷ fs) (suc k) f h e =
    let apart : x.name ≢ f.name = λ s. let r = h 0 (suc k) x f refl e s in absurd (omega arith) in
    callable_miss a x fs f.name (name_differs x.name f.name apart) ∙ callable_at a fs k f (λ i j g d e1 e2 s. let r = h (suc i) (suc j) g d e1 e2 s in omega arith) e

-- a function found by its name
pub named_at : (fs : List Function) (name : List ℕ) (f : Function) → function_named fs name ≡ Some f → (k : ℕ) × (slice_get fs k ≡ Some f) × (f.name ≡ name)
named_at [] name f e = absurd (cc)
named_at (x ∷ fs) name f e =
    let pick : Bool → Option Function = λ b. elim b [ true ↦ Some x | false ↦ function_named fs name ] in
    elim (some_bool (same_name x.name name)) [
      | inl t ↦
          let same : x ≡ f = some_is (sym (ap pick t) ∙ e) in
          (0, ap Some same, ap (λ (g : Function). g.name) (sym same) ∙ same_name_is x.name name t)
      | inr t ↦ let r = named_at fs name f (sym (ap pick t) ∙ e) in (suc r.0, r.1, r.2)
    ]

module _ (a : Algorithm) (w : IsAlgorithm a) where
  -- a function's definition over all functions
  pub definition_typed : (k : ℕ) (f : Function) → IsAt a k f → HasType a (is_among f.variables) f.ty f.value
  definition_typed k f e =
      let is = w.functions k f e in
      let more = each_call (λ name at. IsSome (callable a (take k a.functions) name)) (λ name at. callable a (take k a.functions) name ≡ callable a a.functions name)
      (λ name at. callable_more a a.functions k name (none_is_input a w.names)) f.value is.pure.called in
      sym (same_type_of (is_among f.variables) (callable a (take k a.functions)) (callable a a.functions) f.value more) ∙ is.pure.typed

  pub of_its_type : (k : ℕ) (f : Function) → IsAt a k f → IsOfItsType (callable a a.functions) f
  of_its_type k f e = record { declared = callable_at a a.functions k f (own_names a w.names) e; has_type = definition_typed k f e }

  pub put_in_types : (stored : List Bool) → HasCallsType (callable a a.functions) (with_definitions Call a.functions stored)
  put_in_types stored = type_with_all (callable a a.functions) Call a.functions stored (calls_have_types (callable a a.functions)) of_its_type

  pub put_in_keeps_type : (stored : List Bool) (known : List ℕ → Bool) (t : Ty) (e : Term) → HasType a known t e → HasType a known t (put_in a stored e)
  put_in_keeps_type stored known t e h = keeps_type (callable a a.functions) (with_definitions Call a.functions stored) (put_in_types stored) known e t h ∙ h

  -- names that stay called
  pub input_stays : (stored : List Bool) → StaysCalled a stored a.input
  input_stays stored k f e m = none_is_input a w.names k f e

  pub stored_stays : (stored : List Bool) (k : ℕ) (f : Function) → IsAt a k f → slice_get stored k ≡ Some true → StaysCalled a stored f.name
  stored_stays stored k f e t j g d m s =
      let same : j ≡ k = own_names a w.names j k g f d e s in
      let both : Some false ≡ Some true = sym m ∙ ap (slice_get stored) same ∙ t in
      absurd (cc)

  -- calls of a definition do not go to later functions
  later_apart : (k j : ℕ) (g : Function) (name : List ℕ) → GoesBack a k name → k ≤ j → IsAt a j g → g.name ≢ name
  later_apart k j g name (inl i) le e s = none_is_input a w.names j g e (s ∙ i)
  later_apart k j g name (inr b) le e s =
      let same : j ≡ b.0 = own_names a w.names j b.0 g b.1 e b.3 (s ∙ sym b.4) in
      absurd (omega (arith, b.2))

  none_later : (fs : List Function) (k : ℕ) → ((j : ℕ) (g : Function) → slice_get fs j ≡ Some g → IsAt a (k + j) g) → CallNoneLater fs
  none_later [] k h = tt
  none_later (f ∷ fs) k h =
      let here : IsAt a k f = subst (λ n. IsAt a n f) (omega arith) (h 0 f refl) in (
        each_call (λ name at. GoesBack a k name) (λ name at. NoneNamed name (f ∷ fs)) (λ name at back j g e. later_apart k (k + j) g name back (omega arith) (h j g e)) f.value (pure_goes_back a k f w here),
        none_later fs (k + 1) (λ j g e. subst (λ n. IsAt a n g) (omega arith) (h (suc j) g e)),
      )

  pub others_are_left : (stored : List Bool) (e : Term) → EachCall (λ name at. StaysCalled a stored name) (put_in a stored e)
  others_are_left stored e =
      let back = none_later a.functions 0 (λ j g d. subst (λ n. IsAt a n g) (omega arith) d) in
      let all = all_done (StaysCalled a stored) Call a.functions stored back (λ name h at stay. (h, stay)) in
      let r = with_definitions Call a.functions stored in
      done (StaysCalled a stored) r e (every_call (λ name at. IsDone (StaysCalled a stored) r name) (λ name at. all name) e)

-- which names come to updates
module _ (a : Algorithm) (w : IsAlgorithm a) (stored : List Bool) (k : ℕ) (f : Function) (e : IsAt a k f) (m : slice_get stored k ≡ Some false) where
  none_after : (j : ℕ) (g : Function) → suc k ≤ j → slice_get a.functions j ≡ Some g → slice_get stored j ≡ Some false → g.name ≢ f.name
  none_after j g le h d s = let same = own_names a w.names j k g f h e s in absurd (omega (arith, le, same))

  comes : comes_to_updates a.functions stored f.name ≡ (has_updates f.changes || calls_some (comes_to_updates (take k a.functions) stored) f.value)
  comes =
      steps_at with_updates f.name (λ (x : List ℕ → Bool). x f.name) (λ x g d. with_updates-miss f.name x g d) (λ n. false) a.functions stored k f none_after e m
      ∙ with_updates-hit (comes_to_updates (take k a.functions) stored) f

  pub own_comes : f.changes ≢ [] → comes_to_updates a.functions stored f.name ≡ true
  own_comes changed = comes ∙ ap (λ b. b || calls_some (comes_to_updates (take k a.functions) stored) f.value) (some_updates f.changes changed)
    where
      some_updates : (us : List Change) → us ≢ [] → has_updates us ≡ true
      some_updates [] h = absurd (h refl)
      some_updates (u ∷ us) h = refl

  pub through_comes : calls_updates a stored f.value ≡ true → comes_to_updates a.functions stored f.name ≡ true
  through_comes h =
      let fewer = same_marks (comes_to_updates a.functions stored) (comes_to_updates (take k a.functions) stored) f.value
      (each_call (λ name at. GoesBack a k name) (λ name at. comes_to_updates a.functions stored name ≡ comes_to_updates (take k a.functions) stored name)
      (λ name at back. steps_before with_updates name (λ (x : List ℕ → Bool). x name) (λ x g d. with_updates-miss name x g d) (λ n. false) a.functions stored k (λ j g le d s. later_apart a w k j g name back le d)) f.value (pure_goes_back a k f w e)) in
      comes ∙ ap (λ b. has_updates f.changes || b) (sym fewer ∙ h) ∙ or_true (has_updates f.changes)
    where
      or_true : (b : Bool) → (b || true) ≡ true
      or_true true = refl
      or_true false = refl

pub no_updates_taken : (a : Algorithm) (stored : List Bool) (e : Term) → MayPutIn a stored → TakesNoUpdates a stored e
no_updates_taken a stored e may =
    no_call (comes_to_updates a.functions stored) e (every_call (λ name at. comes_to_updates a.functions stored name ≡ false) (λ name at. none_marked a.functions stored (λ n. false) may (λ n. refl) name) e)

pub stored_calls_stay : (a : Algorithm) (stored : List Bool) (e : Term) → EachCall (λ name at. StaysCalled a stored name) e → put_in a stored e ≡ e
stored_calls_stay a stored e h =
    same_calls (with_definitions Call a.functions stored) Call e
    (each_call (λ name at. StaysCalled a stored name) (λ name at. (now : Terms) → with_definitions Call a.functions stored name now ≡ Call name now) (λ name at stay now. definitions_miss Call a.functions stored name now stay) e h)
    ∙ calls_alone e

not_false : (b : Bool) → not b ≡ true → b ≡ false
not_false true h = absurd (cc)
not_false false h = refl

-- where calls can be put in at all
module _ (a : Algorithm) (stored : List Bool) where
  pub put_in_possible : (known : List ℕ → Bool) (t : Ty) (e : Term) → HasType a known t e → TakesNoUpdates a stored e → put_in_where_possible a stored e ≡ put_in a stored e
  put_in_possible known t e h none =
      let typed : is_typed_anywhere a e ≡ true = ap is_some (type_anywhere known (callable a a.functions) e t h) in
      let possible : is_possible a stored e ≡ true = λ i. typed i && not (none i) in
      ap (λ (b : Bool). if b then put_in a stored e else e) possible

  anyhow_keeps : (calls : Calls) (e : Term) → (TakesNoUpdates a stored e → KeepsItsValue a stored calls e) → KeepsItsValueAnyhow a stored calls e
  anyhow_keeps calls e keep variables =
      let pick : Bool → Value = λ b. value_of variables calls (if b then put_in a stored e else e) in
      elim (some_bool (is_possible a stored e)) [
        | inl h ↦ ap pick h ∙ keep (not_false (calls_updates a stored e) (both_true (is_typed_anywhere a e) (not (calls_updates a stored e)) h).1) variables
        | inr h ↦ ap pick h
      ]

module _ (a : Algorithm) (samples : List ℕ) (w : IsAlgorithm a) where
  -- finished calls answer with the types that are declared
  pub finished_typed : AnswersTyped (callable a a.functions) (calls_of a samples)
  finished_typed name s e at = elim (callable_found a a.functions name (ap is_some e)) [
    | inl i ↦
        let declared : callable a a.functions name ≡ Some (a.input_ty, length a.input_extents) =
        callable_none_named a a.functions name (subst (λ n. NoneNamed n a.functions) (sym i) (none_is_input a w.names)) ∙ callable_input a name (name_same a.input name (sym i)) in
        let same : (a.input_ty, length a.input_extents) ≡ s = some_is (sym declared ∙ e) in
        ap (λ n. (calls_of a samples n at).ty) i ∙ ap (λ (v : Value). v.ty) (input_called a w.names samples at) ∙ ap (λ (x : Ty × ℕ). x.0) same
    | inr g ↦
        let declared = ap (callable a a.functions) (sym g.3) ∙ callable_at a a.functions g.0 g.1 (own_names a w.names) g.2 in
        let same : (g.1.ty, length g.1.variables) ≡ s = some_is (sym declared ∙ e) in
        ap (λ n. (calls_of a samples n at).ty) (sym g.3) ∙ ap (λ (v : Value). v.ty) (called a w.names samples g.0 g.1 at g.2) ∙ ap (λ (x : Ty × ℕ). x.0) same
  ]

  -- a call of a function without updates gives its definition
  pub gives_definition : (k : ℕ) (f : Function) → IsAt a k f → f.changes ≡ [] → (at : List ℤ) → calls_of a samples f.name at ≡ typed f.ty (pure_value (calls_of a samples) f at)
  gives_definition k f e none at =
      let whole : value (calls_before a samples k) f ≡ pure_value (calls_before a samples k) f = ap (λ (us : List Change). fold (value_updated (calls_before a samples k) f) (pure_value (calls_before a samples k) f) us) none in
      let start = ap (λ (g : List ℤ → ℤ). g at) (sym (stepped_none (calls_before a samples k) f (pure_value (calls_before a samples k) f) f.changes)) in
      let same = stands_alone a k f w e (calls_before a samples k) (calls_of a samples) (agree_before a w.names samples k) 0 at in
      let back = ap (λ (g : List ℤ → ℤ). g at) (stepped_none (calls_of a samples) f (pure_value (calls_of a samples) f) f.changes) in
      called a w.names samples k f at e ∙ ap (typed f.ty) (of_function a w.names samples k f at e ∙ ap (λ (g : List ℤ → ℤ). g at) whole ∙ start ∙ same ∙ back)

  can_put_in : (k : ℕ) (f : Function) → IsAt a k f → CanPutIn (callable a a.functions) (calls_of a samples) finished_typed f
  can_put_in k f e = record {
    declared = callable_at a a.functions k f (own_names a w.names) e;
    has_type = definition_typed a w k f e;
    named = (w.functions k f e).pure.named;
    defined = gives_definition k f e;
  }

  pub put_in_keeps : (stored : List Bool) (known : List ℕ → Bool) (t : Ty) (e : Term) → HasType a known t e → TakesNoUpdates a stored e → KeepsItsValue a stored (calls_of a samples) e
  put_in_keeps stored known t e h none variables =
      keeps (callable a a.functions) (calls_of a samples) finished_typed (comes_to_updates a.functions stored) (with_definitions Call a.functions stored)
      (right_with_all (callable a a.functions) (calls_of a samples) finished_typed (λ name. false) Call a.functions stored (λ vs name at s m g c ps. refl) can_put_in)
      variables known e t h (calls_none (comes_to_updates a.functions stored) e none)

  -- the right side of an update
  module _ (k : ℕ) (f : Function) (e : IsAt a k f) (values : List ℤ → ℤ) where
    calls : Calls
    calls = with_name (calls_of a samples) f.name f.ty values

    calls_own : (at : List ℤ) → with_name (calls_of a samples) f.name f.ty values f.name at ≡ typed f.ty (values at)
    calls_own at =
        let pick : Bool → Value = λ b. elim b [ true ↦ typed f.ty (values at) | false ↦ calls_of a samples f.name at ] in
        ap pick (name_same f.name f.name refl)

    calls_other : (name : List ℕ) (at : List ℤ) → f.name ≢ name → with_name (calls_of a samples) f.name f.ty values name at ≡ calls_of a samples name at
    calls_other name at d =
        let pick : Bool → Value = λ b. elim b [ true ↦ typed f.ty (values at) | false ↦ calls_of a samples name at ] in
        ap pick (name_differs f.name name d)

    own_typed : AnswersTyped (callable a a.functions) (with_name (calls_of a samples) f.name f.ty values)
    own_typed name s d at =
        let pick : Bool → Value = λ b. elim b [ true ↦ typed f.ty (values at) | false ↦ calls_of a samples name at ] in
        elim (some_bool (same_name f.name name)) [
          | inl t ↦
              let named = same_name_is f.name name t in
              let same : (f.ty, length f.variables) ≡ s = some_is (sym (callable_at a a.functions k f (own_names a w.names) e) ∙ ap (callable a a.functions) named ∙ d) in
              ap (λ (v : Value). v.ty) (ap pick t) ∙ ap (λ (x : Ty × ℕ). x.0) same
          | inr t ↦ ap (λ (v : Value). v.ty) (ap pick t) ∙ finished_typed name s d at
        ]

    before_can : (j : ℕ) (g : Function) → j < k → IsAt a j g → CanPutIn (callable a a.functions) (with_name (calls_of a samples) f.name f.ty values) own_typed g
    before_can j g lt d =
        let calls' = with_name (calls_of a samples) f.name f.ty values in
        let agree : AgreeBefore a j (calls_of a samples) calls' = λ name back at. sym (calls_other name at (later_apart a w j k f name back (omega (arith, lt)) e)) in
        let apart : f.name ≢ g.name = λ s. let same = own_names a w.names k j f g e d s in absurd (omega (arith, lt, same)) in
        record {
          declared = callable_at a a.functions j g (own_names a w.names) d;
          has_type = definition_typed a w j g d;
          named = (w.functions j g d).pure.named;
          defined = λ none at.
              let from = ap (λ (v : List ℤ → ℤ). v at) (sym (stepped_none (calls_of a samples) g (pure_value (calls_of a samples) g) g.changes)) in
              let same = stands_alone a j g w d (calls_of a samples) calls' agree 0 at in
              let back = ap (λ (v : List ℤ → ℤ). v at) (stepped_none calls' g (pure_value calls' g) g.changes) in
              calls_other g.name at apart ∙ gives_definition j g d none at ∙ ap (typed g.ty) (from ∙ same ∙ back);
        }

    -- an expression of an update, whose calls go back or to the function itself
    module _ (stored : List Bool) (changed : f.changes ≢ []) where
      -- a later function with the name is not put in, nor is the function itself
      apart : (name : List ℕ) → GoesBack a k name ⊎ (name ≡ f.name) → comes_to_updates a.functions stored name ≡ false → (j : ℕ) (g : Function) → k ≤ j → slice_get a.functions j ≡ Some g → slice_get stored j ≡ Some false → g.name ≢ name
      apart name (inl back) none j g le h m = later_apart a w k j g name back le h
      apart name (inr own) none j g le h m = λ s.
          let same : j ≡ k = own_names a w.names j k g f h e (s ∙ own) in
          let marked = own_comes a w stored k f e (sym (ap (slice_get stored) same) ∙ m) changed in
          let no : false ≡ true = sym none ∙ ap (comes_to_updates a.functions stored) own ∙ marked in
          absurd (cc)

      -- what stands for a call that it makes, by all functions and by those before the function
      record SameBefore (name : List ℕ) : Type 0 where
        stands : (now : Terms) → with_definitions Call a.functions stored name now ≡ with_definitions Call (take k a.functions) stored name now
        none : comes_to_updates (take k a.functions) stored name ≡ false

      same_before : (name : List ℕ) → GoesBack a k name ⊎ (name ≡ f.name) → comes_to_updates a.functions stored name ≡ false → SameBefore name
      same_before name called none = record {
        stands = λ now. definitions_before Call a.functions stored k name now (apart name called none);
        none = sym (steps_before with_updates name (λ (x : List ℕ → Bool). x name) (λ x g d. with_updates-miss name x g d) (λ n. false) a.functions stored k (apart name called none)) ∙ none;
      }

      within_keeps : (known : List ℕ → Bool) (t : Ty) (x : Term) → EachCall (λ name at. GoesBack a k name ⊎ (name ≡ f.name)) x → HasType a known t x → TakesNoUpdates a stored x →
          KeepsItsValue a stored (with_name (calls_of a samples) f.name f.ty values) x
      within_keeps known t x back h none variables =
          let calls' = with_name (calls_of a samples) f.name f.ty values in
          let first = with_definitions Call (take k a.functions) stored in
          let each = both_calls (λ name at. GoesBack a k name ⊎ (name ≡ f.name)) (λ name at. comes_to_updates a.functions stored name ≡ false) (λ name at. SameBefore name) (λ name at. same_before name) x back (calls_none (comes_to_updates a.functions stored) x none) in
          let same = same_calls (with_definitions Call a.functions stored) first x (each_call (λ name at. SameBefore name) (λ name at. (now : Terms) → with_definitions Call a.functions stored name now ≡ first name now) (λ name at s. s.stands) x each) in
          let right = right_with_all (callable a a.functions) calls' own_typed (λ name. false) Call (take k a.functions) stored (λ vs name at s m g c ps. refl)
          (λ j g d. let r = from_take a.functions k j g d in before_can j g r.0 r.1) in
          ap (value_of variables calls') same ∙ keeps (callable a a.functions) calls' own_typed (comes_to_updates (take k a.functions) stored) first right variables known x t h
          (each_call (λ name at. SameBefore name) (λ name at. comes_to_updates (take k a.functions) stored name ≡ false) (λ name at s. s.none) x each)

      side_keeps : (t : Ty) (names : List (List ℕ)) (x : Term) → EachCall (λ name at. GoesBack a k name ⊎ (name ≡ f.name)) x → HasType a (is_among names) t x →
          KeepsItsSide a stored (with_name (calls_of a samples) f.name f.ty values) names t x
      side_keeps t names x back h = record {
        keeps = within_keeps (is_among names) t x back h;
        anyhow = λ variables. anyhow_keeps a stored (with_name (calls_of a samples) f.name f.ty values) x (within_keeps (is_among names) t x back h) variables;
        has_type = h;
        of_type = λ variables. type_is variables (is_among names) (callable a a.functions) (with_name (calls_of a samples) f.name f.ty values) own_typed x t h;
      }

    -- an update's sides over all functions
    module _ (stored : List Bool) (i : ℕ) (u : Change) (d : slice_get f.changes i ≡ Some u) where
      changed : f.changes ≢ []
      changed none = let no : None ≡ Some u = ap (λ (us : List Change). slice_get us i) (sym none) ∙ d in absurd (cc)

      right_typed : HasType a (is_among (names_in f u)) f.ty u.value
      right_typed =
          let is = (update_is a k f w e i u d).right in
          let one = take_one_more a.functions k f e in
          let more = each_call (λ name at. IsSome (callable a (take k a.functions ++ f ∷ []) name)) (λ name at. callable a (take k a.functions ++ f ∷ []) name ≡ callable a a.functions name)
          (λ name at. subst (λ (fs : List Function). IsSome (callable a fs name) → callable a fs name ≡ callable a a.functions name) one (callable_more a a.functions (suc k) name (none_is_input a w.names)))
          u.value is.called in
          sym (same_type_of (is_among (names_in f u)) (callable a (take k a.functions ++ f ∷ [])) (callable a a.functions) u.value more) ∙ is.typed

      left_typed : (x : Term) → IsExpression (names_in f u) (callable a (take k a.functions)) I32 x → HasType a (is_among (names_in f u)) I32 x
      left_typed x is =
          let more = each_call (λ name at. IsSome (callable a (take k a.functions) name)) (λ name at. callable a (take k a.functions) name ≡ callable a a.functions name)
          (λ name at. callable_more a a.functions k name (none_is_input a w.names)) x is.called in
          sym (same_type_of (is_among (names_in f u)) (callable a (take k a.functions)) (callable a a.functions) x more) ∙ is.typed

      pub sides_keep : KeepsItsSides a stored (with_name (calls_of a samples) f.name f.ty values) f u
      sides_keep = record {
        right = side_keeps stored changed f.ty (names_in f u) u.value (right_goes_back a k f w e i u d) right_typed;
        left = All-weaker (IsExpression (names_in f u) (callable a (take k a.functions)) I32) (KeepsItsSide a stored (with_name (calls_of a samples) f.name f.ty values) (names_in f u) I32)
            (λ x is. side_keeps stored changed I32 (names_in f u) x
            (each_call (λ name at. IsSome (callable a (take k a.functions) name)) (λ name at. GoesBack a k name ⊎ (name ≡ f.name)) (λ name at some. inl (goes_back a k name some)) x is.called) (left_typed x is))
            u.at (update_is a k f w e i u d).left;
      }

-- definitions by their functions' names
pub named_type : (a : Algorithm) (samples : List ℕ) → IsAlgorithm a → (name : List ℕ) (f : Function) (variables : List ℕ → ℤ) → function_named a.functions name ≡ Some f → (value_of variables (calls_of a samples) f.value).ty ≡ f.ty
named_type a samples w name f variables e =
    let k = named_at a.functions name f e in
    type_is variables (is_among f.variables) (callable a a.functions) (calls_of a samples) (finished_typed a samples w) f.value f.ty (definition_typed a w k.0 f k.1)

pub named_definition : (a : Algorithm) (stored : List Bool) (name : List ℕ) (f : Function) → IsAlgorithm a → function_named a.functions name ≡ Some f → TakesNoUpdates a stored f.value → put_in_where_possible a stored f.value ≡ put_in a stored f.value
named_definition a stored name f w e none =
    let k = named_at a.functions name f e in
    put_in_possible a stored (is_among f.variables) f.ty f.value (definition_typed a w k.0 f k.1) none

-- all expressions, under every input
pub where_possible_keeps : (a : Algorithm) (stored : List Bool) (samples : List ℕ) → IsAlgorithm a → (e : Term) → KeepsItsValueAnyhow a stored (calls_of a samples) e
where_possible_keeps a stored samples w e variables =
    let pick : Bool → Value = λ b. value_of variables (calls_of a samples) (if b then put_in a stored e else e) in
    elim (some_bool (is_possible a stored e)) [
      | inl h ↦
          let b = both_true (is_typed_anywhere a e) (not (calls_updates a stored e)) h in
          let t = some-is (type_of (λ name. true) (callable a a.functions) e) b.0 in
          ap pick h ∙ put_in_keeps a samples w stored (λ name. true) t.0 e t.1 (not_false (calls_updates a stored e) b.1) variables
      | inr h ↦ ap pick h
    ]

pub all_kept : (a : Algorithm) (stored : List Bool) (samples : List ℕ) → IsAlgorithm a → KeepsValues a samples (put_in_where_possible a stored)
all_kept a stored samples w = record {
  value = λ variables e. where_possible_keeps a stored samples w e variables;
  of_type = named_type a samples w;
  right_value = λ name f i u values variables e d. let k = named_at a.functions name f e in (sides_keep a samples w k.0 f k.1 values stored i u d).right.anyhow variables;
  right_type = λ name f i u values variables e d. let k = named_at a.functions name f e in (sides_keep a samples w k.0 f k.1 values stored i u d).right.of_type variables;
  left_value = λ name f i u values variables e d.
      let k = named_at a.functions name f e in
      let calls = with_name (calls_of a samples) f.name f.ty values in
      All-weaker (KeepsItsSide a stored calls (names_in f u) I32) (λ x. value_of variables calls (put_in_where_possible a stored x) ≡ value_of variables calls x) (λ x side. side.anyhow variables) u.at
      (sides_keep a samples w k.0 f k.1 values stored i u d).left;
}
