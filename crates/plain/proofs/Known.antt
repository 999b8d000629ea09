-- What holds of the functions of a well-formed algorithm, of what they answer and of what they cost.
use Rattle.std.proofs.Common.{◌≡◌, ◌<◌, ◌≤◌, ℕ, zero, suc, ◌+◌, Bool, true, false, List, [], ◌∷◌, ◌++◌, length, take, Option, Some, None, ℤ, refl, sym, ap, ◌∙◌, subst, arith, ◌⊎◌, inl, inr, All, get_or, add-one}
use Rattle.std.specs.Prelude.{slice_get, fold}
use Rattle.std.proofs.lemmas.List.Sums.{fold-append}
use Rattle.std.proofs.lemmas.List.Elements.{All-head, All-tail}
use Rattle.numeric.specs.declared.ty.Ty.{Ty}
use Rattle.numeric.specs.Wrap.{IsOf}
use Rattle.tree.specs.declared.value.Value.{Value}
use Rattle.tree.specs.Names.{TakesCall}
use Rattle.tree.specs.Meaning.{typed}
use Rattle.meaning.specs.Image.Raster.{sample}
use Rattle.meaning.specs.Image.View.{AreExtents}
use Rattle.meaning.specs.Algorithm.{Change, Function, Algorithm}
use Rattle.meaning.specs.Names.{same_name}
use Rattle.meaning.specs.Reduction.{size}
use Rattle.meaning.specs.Conditions.{IsAlgorithm, IsFunction, IsUpdate, callable}
use Rattle.meaning.specs.Functions.{AreSamples}
use Rattle.meaning.specs.Value.{Calls, with_name, value_of_function, calls_before, input_calls, pure_value}
use Rattle.meaning.specs.Count.{Counted, Priced, priced, counted, counted_updated, with_priced, pure_count}
use Rattle.meaning.proofs.Cases.{name_same, name_differs, same_name_is}
use Rattle.meaning.proofs.Calls.{NoneNamed, OwnNames, callable_own, callable_other, callable_hit, callable_miss, callable_input, callable_none, none_before_is, none_is_input, none_before_is_input, own_names, own_take, get_take, take_take, from_take, called_before, input_called_before, of_function}
use Rattle.meaning.proofs.Counts.{updated_values, priced_calls}
use Rattle.meaning.proofs.Types.{IsValue, AnswersAre}
use Rattle.meaning.proofs.Typed.{ValuesAre, pure_is, after_is, before_answers}
use Rattle.plain.specs.declared.frame.Stage.{Stage}
use Rattle.plain.specs.declared.frame.Stage.TheVariants.{Pure, Before, Left, Right}
use Rattle.plain.specs.Count.{count_of_function}
use Rattle.plain.specs.Scopes.{function_at, change_at}
use Rattle.plain.specs.Stages.{costs_before, size_before, through, after, level, calls_at, costs_at, IsStage, callees_at}
use Rattle.plain.proofs.Machine.{take_at}
use Rattle.plain.proofs.Standing.{All-get, All-take}

pub get_at : {A : Type 0} (xs : List A) (k : ℕ) (d : A) → k < length xs → slice_get xs k ≡ Some (get_or xs k d)
get_at [] k d h = absurd (omega arith)
get_at (x ∷ xs) zero d h = refl
get_at (x ∷ xs) (suc k) d h = get_at xs k d (omega arith)

take_all : {A : Type 0} (xs : List A) → take (length xs) xs ≡ xs
take_all [] = refl
take_all (x ∷ xs) = ap (λ ys. x ∷ ys) (take_all xs)

some_bool : (b : Bool) → (b ≡ true) ⊎ (b ≡ false)
some_bool true = inl refl
some_bool false = inr refl

some_sig : {A : Type 0} {x y : A} → Some x ≡ Some y → x ≡ y
some_sig e = cc

-- ---- what a name costs among functions

module _ (called : List ℕ) (at : List ℤ) where
  costs_miss : (so_far : Priced) (fs : List Function) → NoneNamed called fs → (fold with_priced so_far fs).costs called at ≡ so_far.costs called at
  costs_miss so_far [] h = refl
  costs_miss so_far (f ∷ fs) h =
      let test = name_differs f.name called (h 0 f refl) in
      let pick : Bool → ℕ = λ b. elim b [ true ↦ (counted so_far.calls so_far.costs f).counts at | false ↦ so_far.costs called at ] in
      costs_miss (with_priced so_far f) fs (λ j g e. h (suc j) g e) ∙ ap pick test

costs_hit : (so_far : Priced) (fs : List Function) (k : ℕ) (f : Function) (at : List ℤ) → OwnNames fs → slice_get fs k ≡ Some f →
    (fold with_priced so_far fs).costs f.name at ≡ (counted (fold with_priced so_far (take k fs)).calls (fold with_priced so_far (take k fs)).costs f).counts at
costs_hit so_far [] k f at h e = absurd (cc)
costs_hit so_far (x ∷ fs) zero f at h e =
    let same : x ≡ f = cc in
    let none : NoneNamed x.name fs = λ j g d s. let r = h 0 (suc j) x g refl d (sym s) in absurd (omega arith) in
    let pick : Bool → ℕ = λ b. elim b [ true ↦ (counted so_far.calls so_far.costs x).counts at | false ↦ so_far.costs x.name at ] in
    let go = costs_miss x.name at (with_priced so_far x) fs none ∙ ap pick (name_same x.name x.name refl) in
    subst (λ (g : Function). (fold with_priced so_far (x ∷ fs)).costs g.name at ≡ (counted so_far.calls so_far.costs g).counts at) same go
costs_hit so_far (x ∷ fs) (suc k) f at h e =
    costs_hit (with_priced so_far x) fs k f at (λ i j g d p q s. let r = h (suc i) (suc j) g d p q s in omega arith) e

-- ---- what can be called takes few indices

takes_few : (a : Algorithm) (fs : List Function) → length a.input_extents ≤ 4 → ((j : ℕ) (g : Function) → slice_get fs j ≡ Some g → length g.variables ≤ 4) → (name : List ℕ) (count : ℕ) → TakesCall (callable a fs name) count → count ≤ 4
takes_few a [] e h name count t = elim (some_bool (same_name a.input name)) [
  | inl b ↦ let r = subst (λ (o : Option (Ty × ℕ)). TakesCall o count) (callable_input a name b) t in omega (arith, r)
  | inr b ↦ absurd (subst (λ (o : Option (Ty × ℕ)). TakesCall o count) (callable_none a name b) t)
]
takes_few a (f ∷ fs) e h name count t = elim (some_bool (same_name f.name name)) [
  | inl b ↦
      let r = subst (λ (o : Option (Ty × ℕ)). TakesCall o count) (callable_hit a f fs name b) t in
      let few : length f.variables ≤ 4 = h 0 f refl in
      omega (arith, r)
  | inr b ↦ takes_few a fs e (λ j g k. h (suc j) g k) name count (subst (λ (o : Option (Ty × ℕ)). TakesCall o count) (callable_miss a f fs name b) t)
]

few_extents : (es : List ℕ) → AreExtents es → length es ≤ 4
few_extents [] h = omega arith
few_extents (w ∷ []) h = omega arith
few_extents (w ∷ h ∷ []) k = omega arith
few_extents (w ∷ h ∷ c ∷ []) k = omega arith
few_extents (w ∷ h ∷ c ∷ d ∷ es) k = absurd k

-- ---- a function's own values beside the calls

with_own : (a : Algorithm) (before : List Function) (f : Function) (calls : Calls) (v : List ℤ → ℤ) → NoneNamed f.name before → AnswersAre (callable a before) calls → ValuesAre f.ty v →
    AnswersAre (callable a (before ++ f ∷ [])) (with_name calls f.name f.ty v)
with_own a before f calls v none answers is name s e at inside =
    let pick : Bool → Value = λ b. elim b [ true ↦ typed f.ty (v at) | false ↦ calls name at ] in
    elim (some_bool (same_name f.name name)) [
      | inl test ↦
          let named = same_name_is f.name name test in
          let it = ap (callable a (before ++ f ∷ [])) (sym named) ∙ callable_own a before f none in
          let same : (f.ty, length f.variables) ≡ s = some_sig (sym it ∙ e) in
          let ty : f.ty ≡ s.0 = ap (λ (x : Ty × ℕ). x.0) same in
          subst (IsValue s.0) (sym (ap pick test)) (record { ty = ty; within = subst (λ (t : Ty). IsOf t (v at)) ty (is at inside) })
      | inr test ↦
          let other = sym (callable_other a before f name test) ∙ e in
          subst (IsValue s.0) (sym (ap pick test)) (answers name s other at inside)
    ]

module _ (a : Algorithm) (samples : List ℕ) (w : IsAlgorithm a) where
  module _ (k : ℕ) (below : k < length a.functions) where
    pub stands : slice_get a.functions k ≡ Some (function_at a k)
    stands = get_at a.functions k _ below

    pub is_function : IsFunction a (take k a.functions) (function_at a k)
    is_function = w.functions k (function_at a k) stands

    pub is_update : (i : ℕ) → i < length (function_at a k).changes → IsUpdate a (take k a.functions) (function_at a k) (change_at (function_at a k) i)
    is_update i h = All-get (IsUpdate a (take k a.functions) (function_at a k)) (function_at a k).changes i _ (get_at (function_at a k).changes i _ h) is_function.updates

    -- the functions up to the k-th
    pub with_itself : take (k + 1) a.functions ≡ take k a.functions ++ function_at a k ∷ []
    with_itself = take_at a.functions k (function_at a k) stands

    pub none_named : NoneNamed (function_at a k).name (take k a.functions)
    none_named = none_before_is a w.names k (function_at a k) stands

  -- a value after all updates up to the d-th
  module _ (k : ℕ) where
    pub level-through : (d : ℕ) → d ≤ length (function_at a k).changes → level a samples k d (size_before (function_at a k) d) ≡ through a samples k d
    level-through zero h = refl
    level-through (suc i) h =
        let f = function_at a k in
        let calls = calls_before a samples k in
        let costs = costs_before a samples k in
        let first : Counted = record { values = pure_value calls f; counts = pure_count calls costs f } in
        let more = take_at f.changes i (change_at f i) (get_at f.changes i _ (omega arith)) in
        let e = rw add-one at more in
        sym (ap (fold (counted_updated calls costs f) first) e ∙ fold-append (counted_updated calls costs f) first (take i f.changes) (change_at f i ∷ []))

    pub through-all : through a samples k (length (function_at a k).changes) ≡ counted (calls_before a samples k) (costs_before a samples k) (function_at a k)
    through-all =
        let f = function_at a k in
        let calls = calls_before a samples k in
        let costs = costs_before a samples k in
        ap (fold (counted_updated calls costs f) (record { values = pure_value calls f; counts = pure_count calls costs f })) (take_all f.changes)

    pub whole_level : level a samples k (length (function_at a k).changes) (size_before (function_at a k) (length (function_at a k).changes)) ≡ counted (calls_before a samples k) (costs_before a samples k) (function_at a k)
    whole_level = level-through (length (function_at a k).changes) (omega arith) ∙ through-all

  first_priced : Priced
  first_priced = record { calls = input_calls a samples; costs = λ called at. 0 }

  -- what a function's call answers and costs
  pub call_answer : (j k : ℕ) (p : List ℤ) → j < k → k ≤ length a.functions →
      calls_before a samples k (function_at a j).name p ≡ typed (function_at a j).ty ((level a samples j (length (function_at a j).changes) (size_before (function_at a j) (length (function_at a j).changes))).values p)
  call_answer j k p h l =
      let f = function_at a j in
      let s = stands j (omega arith) in
      let values = ap (λ (c : Counted). c.values p) (whole_level j) ∙ ap (λ (v : List ℤ → ℤ). v p) (updated_values (calls_before a samples j) (costs_before a samples j) f (record { values = pure_value (calls_before a samples j) f; counts = pure_count (calls_before a samples j) (costs_before a samples j) f }) f.changes) in
      called_before a w.names samples j k f p s h ∙ ap (typed f.ty) (of_function a w.names samples j f p s ∙ sym values)

  pub call_cost : (j k : ℕ) (p : List ℤ) → j < k → k ≤ length a.functions →
      costs_before a samples k (function_at a j).name p ≡ (level a samples j (length (function_at a j).changes) (size_before (function_at a j) (length (function_at a j).changes))).counts p
  call_cost j k p h l =
      let f = function_at a j in
      let s = stands j (omega arith) in
      let so_far : Priced = record { calls = input_calls a samples; costs = λ called at. 0 } in
      costs_hit so_far (take k a.functions) j f p (own_take a.functions k (own_names a w.names)) (get_take a.functions k j h ∙ s)
      ∙ ap (λ (fs : List Function). (counted (fold with_priced so_far fs).calls (fold with_priced so_far fs).costs f).counts p) (take_take a.functions k j h)
      ∙ ap (λ (calls : Calls). (counted calls (costs_before a samples j) f).counts p) (priced_calls so_far (take j a.functions))
      ∙ ap (λ (c : Counted). c.counts p) (sym (whole_level j))

  -- the finished value and its count
  pub value_whole : (k : ℕ) (p : List ℤ) → k < length a.functions →
      (level a samples k (length (function_at a k).changes) (size_before (function_at a k) (length (function_at a k).changes))).values p ≡ value_of_function a samples k p
  value_whole k p below =
      let f = function_at a k in
      ap (λ (c : Counted). c.values p) (whole_level k)
      ∙ ap (λ (v : List ℤ → ℤ). v p) (updated_values (calls_before a samples k) (costs_before a samples k) f (record { values = pure_value (calls_before a samples k) f; counts = pure_count (calls_before a samples k) (costs_before a samples k) f }) f.changes)
      ∙ sym (of_function a w.names samples k f p (stands k below))

  pub count_whole : (k : ℕ) (p : List ℤ) → k < length a.functions →
      (level a samples k (length (function_at a k).changes) (size_before (function_at a k) (length (function_at a k).changes))).counts p ≡ count_of_function a samples k p
  count_whole k p below =
      let f = function_at a k in
      let s = stands k below in
      let so_far : Priced = record { calls = input_calls a samples; costs = λ called at. 0 } in
      let pick : Option Function → ℕ = λ o. elim o [ Some g ↦ (priced a samples).costs g.name p | None ↦ 0 ] in
      let hit = costs_hit so_far a.functions k f p (own_names a w.names) s
      ∙ ap (λ (calls : Calls). (counted calls (costs_before a samples k) f).counts p) (priced_calls so_far (take k a.functions)) in
      ap (λ (c : Counted). c.counts p) (whole_level k) ∙ sym hit ∙ sym (ap pick s)

  -- what the input answers and costs
  module _ (k : ℕ) (below : k < length a.functions) where
    pub input_answer : (s : Stage) (at : List ℤ) → calls_at a samples k s a.input at ≡ typed a.input_ty (sample a.input_extents samples at)
    input_answer Pure at = input_called_before a w.names samples k at
    input_answer (Before i) at = input_called_before a w.names samples k at
    input_answer (Left i n) at = input_called_before a w.names samples k at
    input_answer (Right i n) at =
        let f = function_at a k in
        let pick : Bool → Value = λ b. elim b [ true ↦ typed f.ty ((after a samples k i n).values at) | false ↦ calls_before a samples k a.input at ] in
        ap pick (name_differs f.name a.input (none_is_input a w.names k f (stands k below))) ∙ input_called_before a w.names samples k at

    input_free : (at : List ℤ) → costs_before a samples k a.input at ≡ 0
    input_free at = costs_miss a.input at (record { calls = input_calls a samples; costs = λ called at. 0 }) (take k a.functions) (none_before_is_input a w.names k)

    pub input_cost : (s : Stage) (at : List ℤ) → costs_at a samples k s a.input at ≡ 0
    input_cost Pure at = input_free at
    input_cost (Before i) at = input_free at
    input_cost (Left i n) at = input_free at
    input_cost (Right i n) at =
        let f = function_at a k in
        let pick : Bool → ℕ = λ b. elim b [ true ↦ (after a samples k i n).counts at | false ↦ costs_before a samples k a.input at ] in
        ap pick (name_differs f.name a.input (none_is_input a w.names k f (stands k below))) ∙ input_free at

    pub takes_few_at : (s : Stage) (name : List ℕ) (count : ℕ) → TakesCall (callable a (take (callees_at s k) a.functions) name) count → count ≤ 4
    takes_few_at s = takes_few a (take (callees_at s k) a.functions) (few_extents a.input_extents w.input_extents) (λ j g e. let r = (w.functions j g (from_take a.functions (callees_at s k) j g e).1).few in omega arith)

  -- what calls answer is of its type
  module _ (t : AreSamples a samples) (k : ℕ) (below : k < length a.functions) where
    values_fold : (c : Counted) (us : List Change) → ValuesAre (function_at a k).ty c.values → All (IsUpdate a (take k a.functions) (function_at a k)) us →
        ValuesAre (function_at a k).ty (fold (counted_updated (calls_before a samples k) (costs_before a samples k) (function_at a k)) c us).values
    values_fold c [] h us = h
    values_fold c (u ∷ us) h k' =
        let f = function_at a k in
        let P = IsUpdate a (take k a.functions) f in
        let answers = before_answers a samples w t k (omega arith) in
        values_fold (counted_updated (calls_before a samples k) (costs_before a samples k) f c u) us
        (after_is a (take k a.functions) f (is_function k below) (none_named k below) (calls_before a samples k) answers c.values h u (All-head P u us k') (size u.ranges)) (All-tail P u us k')

    pub through_values : (d : ℕ) → ValuesAre (function_at a k).ty (through a samples k d).values
    through_values d =
        let f = function_at a k in
        let P = IsUpdate a (take k a.functions) f in
        let answers = before_answers a samples w t k (omega arith) in
        values_fold (record { values = pure_value (calls_before a samples k) f; counts = pure_count (calls_before a samples k) (costs_before a samples k) f }) (take d f.changes)
        (pure_is a (take k a.functions) f (is_function k below) (none_named k below) (calls_before a samples k) answers) (All-take P f.changes d (is_function k below).updates)

    pub answers_at : (s : Stage) → IsStage (function_at a k) s → AnswersAre (callable a (take (callees_at s k) a.functions)) (calls_at a samples k s)
    answers_at Pure h = before_answers a samples w t k (omega arith)
    answers_at (Before i) h = before_answers a samples w t k (omega arith)
    answers_at (Left i n) h = before_answers a samples w t k (omega arith)
    answers_at (Right i n) h =
        let f = function_at a k in
        let answers = before_answers a samples w t k (omega arith) in
        let values = after_is a (take k a.functions) f (is_function k below) (none_named k below) (calls_before a samples k) answers (through a samples k i).values (through_values i) (change_at f i) (is_update k below i h) n in
        subst (λ (fs : List Function). AnswersAre (callable a fs) (calls_at a samples k (Right i n))) (sym (with_itself k below))
        (with_own a (take k a.functions) f (calls_before a samples k) (after a samples k i n).values (none_named k below) answers values)
