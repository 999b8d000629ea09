-- The values of a well-formed algorithm's functions are values of their types.
use Rattle.std.proofs.Common.{◌≡◌, ℕ, zero, suc, ◌-◌, ◌≤◌, Bool, true, false, List, [], ◌∷◌, ◌++◌, length, take, Option, Some, ℤ, pos, refl, sym, ap, ◌∙◌, subst, arith, ◌⊎◌, inl, inr, leb}
use Rattle.std.specs.Prelude.{slice_index, fold, All, if◌then◌else◌, ◌≤ℤ◌, unwrap_or}
use Rattle.std.proofs.lemmas.Int.{ints}
use Rattle.std.proofs.lemmas.Option.{slice_get_within, slice_get_cases, unwrap_or-slice_get}
use Rattle.std.proofs.lemmas.List.Sums.{fold-append}
use Rattle.std.proofs.lemmas.List.Elements.{All-head, All-tail, All-nil, All-cons, All-append}
use Rattle.numeric.specs.declared.ty.Ty.{Ty}
use Rattle.numeric.specs.declared.ty.Ty.TheVariants.{I32}
use Rattle.numeric.specs.Wrap.{IsOf}
use Rattle.tree.specs.declared.value.Value.{Value}
use Rattle.tree.specs.Meaning.{typed}
use Rattle.meaning.specs.Image.Raster.{sample, is_within, place}
use Rattle.meaning.specs.Algorithm.{Range, Change, Function, Algorithm}
use Rattle.meaning.specs.Names.{same_name, same_point, is_among, bound}
use Rattle.meaning.specs.Reduction.{size, point}
use Rattle.meaning.specs.Points.{AreRanges, IsIn}
use Rattle.meaning.specs.Conditions.{IsAlgorithm, IsFunction, IsUpdate, IsRange, callable, names_in}
use Rattle.meaning.specs.Functions.{IsAt, IsPoint, AreSamples}
use Rattle.meaning.specs.Value.{Calls, with_name, with_function, left_side, right_side, pure_value, value_after, value_updated, value_stepped, value_at_step, value, input_calls, calls_before, all_steps, value_of_function, value_of_function_at_step}
use Rattle.meaning.proofs.Cases.{same_name_is}
use Rattle.meaning.proofs.Points.{point_within}
use Rattle.meaning.proofs.Steps.{stepped_all}
use Rattle.meaning.proofs.Calls.{NoneNamed, callable_own, callable_other, callable_input, callable_none, take_one_more, none_before_is, of_function, of_function_at_step}
use Rattle.meaning.proofs.Types.{IsValue, AnswersAre, zero_is_of, value_is, bound_is}

-- a reduction point's coordinates are i32 values
ranges_rise : (ds : List Range) → All IsRange ds → AreRanges ds
ranges_rise [] h = tt
ranges_rise (d ∷ ds) h = ((All-head IsRange d ds h).rises, ranges_rise ds (All-tail IsRange d ds h))

small_is : (d : Range) (z : ℤ) → IsRange d → d.low ≤ℤ z → z ≤ℤ d.high → IsOf I32 z
small_is d z h k l = record { from = omega (arith, ints, h.from, h.to); to = omega (arith, ints, h.from, h.to) }

inside_is : (ds : List Range) (p : List ℤ) → All IsRange ds → IsIn ds p → IsPoint p
inside_is [] [] h k = All-nil (IsOf I32)
inside_is [] (z ∷ zs) h k = elim k [ ]
inside_is (d ∷ ds) [] h k = elim k [ ]
inside_is (d ∷ ds) (z ∷ zs) h k =
    All-cons (IsOf I32) z zs (small_is d z (All-head IsRange d ds h) k.0 k.1) (inside_is ds zs (All-tail IsRange d ds h) k.2)

pub reduction_point_is : (ds : List Range) (n : ℕ) → All IsRange ds → IsPoint (point ds n)
reduction_point_is ds n h = inside_is ds (point ds n) h (point_within ds n (ranges_rise ds h))

-- at each point a value of the type
abbrev pub ValuesAre : Ty → (List ℤ → ℤ) → Type 0
ValuesAre t v = (p : List ℤ) → IsPoint p → IsOf t (v p)

some_bool : (b : Bool) → (b ≡ true) ⊎ (b ≡ false)
some_bool true = inl refl
some_bool false = inr refl

some_sig : {A : Type 0} {x y : A} → Some x ≡ Some y → x ≡ y
some_sig e = cc

-- one function over calls that answer as declared
module _ (a : Algorithm) (before : List Function) (f : Function) (h : IsFunction a before f) (none : NoneNamed f.name before) (calls : Calls) (answers : AnswersAre (callable a before) calls) where
  pub pure_is : ValuesAre f.ty (pure_value calls f)
  pure_is p inside =
      (value_is (bound f.variables p) (λ name. bound_is f.variables p name inside) (is_among f.variables) (callable a before) calls answers f.value f.ty h.pure.typed).within

  -- with the function's own values
  with_own : (v : List ℤ → ℤ) → ValuesAre f.ty v → AnswersAre (callable a (before ++ f ∷ [])) (with_name calls f.name f.ty v)
  with_own v is name s e at inside =
      let pick : Bool → Value = λ b. elim b [ true ↦ typed f.ty (v at) | false ↦ calls name at ] in
      elim (some_bool (same_name f.name name)) [
        | inl test ↦
            let named = same_name_is f.name name test in
            let own = ap (callable a (before ++ f ∷ [])) (sym named) ∙ callable_own a before f none in
            let same : (f.ty, length f.variables) ≡ s = some_sig (sym own ∙ e) in
            let ty : f.ty ≡ s.0 = ap (λ (x : Ty × ℕ). x.0) same in
            subst (IsValue s.0) (sym (ap pick test)) (record { ty = ty; within = subst (λ (t : Ty). IsOf t (v at)) ty (is at inside) })
        | inr test ↦
            let other = sym (callable_other a before f name test) ∙ e in
            subst (IsValue s.0) (sym (ap pick test)) (answers name s other at inside)
      ]

  pub right_is : (v : List ℤ → ℤ) → ValuesAre f.ty v → (u : Change) → IsUpdate a before f u → (p r : List ℤ) → IsPoint p → IsPoint r → IsOf f.ty (right_side calls f v u p r)
  right_is v is u k p r hp hr =
      let both = All-append (IsOf I32) p r hp hr in
      (value_is (bound (names_in f u) (p ++ r)) (λ name. bound_is (names_in f u) (p ++ r) name both) (is_among (names_in f u)) (callable a (before ++ f ∷ [])) (with_name calls f.name f.ty v) (with_own v is) u.value f.ty k.right.typed).within

  pub after_is : (v : List ℤ → ℤ) → ValuesAre f.ty v → (u : Change) → IsUpdate a before f u → (n : ℕ) → ValuesAre f.ty (value_after calls f v u n)
  after_is v is u k zero = is
  after_is v is u k (suc n) = λ p hp.
      elim (same_point (left_side calls f u p (point u.ranges n)) p) as
      (λ (b : Bool). IsOf f.ty (elim b [ true ↦ right_side calls f (value_after calls f v u n) u p (point u.ranges n) | false ↦ value_after calls f v u n p ])) [
        | true ↦ right_is (value_after calls f v u n) (after_is v is u k n) u k p (point u.ranges n) hp (reduction_point_is u.ranges n k.domain.ranges)
        | false ↦ after_is v is u k n p hp
      ]

  pub stepped_is : (v : List ℤ → ℤ) → ValuesAre f.ty v → (us : List Change) → All (IsUpdate a before f) us → (s : ℕ) → ValuesAre f.ty (value_stepped calls f v us s)
  stepped_is v is [] k s = is
  stepped_is v is (u ∷ us) k s =
      let here = All-head (IsUpdate a before f) u us k in
      elim (leb s (size u.ranges)) as
      (λ (b : Bool). ValuesAre f.ty (elim b [ true ↦ value_after calls f v u s | false ↦ value_stepped calls f (value_updated calls f v u) us (s - size u.ranges) ])) [
        | true ↦ after_is v is u here s
        | false ↦ stepped_is (value_updated calls f v u) (after_is v is u here (size u.ranges)) us (All-tail (IsUpdate a before f) u us k) (s - size u.ranges)
      ]

  pub at_step_is : (s : ℕ) → ValuesAre f.ty (value_at_step calls f s)
  at_step_is s = stepped_is (pure_value calls f) pure_is f.changes h.updates s

  pub whole_is : ValuesAre f.ty (value calls f)
  whole_is p hp = subst (λ (g : List ℤ → ℤ). IsOf f.ty (g p)) (stepped_all calls f (pure_value calls f) f.changes) (at_step_is (all_steps f) p hp)

-- the samples
sample_is : (t : Ty) (extents samples : List ℕ) (p : List ℤ) → All (λ s. IsOf t (pos s)) samples → IsOf t (sample extents samples p)
sample_is t extents samples p h =
    elim (is_within extents p) as (λ (b : Bool). IsOf t (if b then pos (slice_index samples (place extents p)) else pos 0)) [
      | true ↦ elim (slice_get_cases samples (place extents p)).1 [
        | inl g ↦ h (place extents p) 0 g.1
        | inr g ↦
            let none : slice_index samples (place extents p) ≡ 0 = sym (unwrap_or-slice_get samples (place extents p) 0) ∙ ap (λ (o : Option ℕ). unwrap_or o 0) g.1 in
            subst (λ (n : ℕ). IsOf t (pos n)) (sym none) (zero_is_of t)
      ]
      | false ↦ zero_is_of t
    ]

module _ (a : Algorithm) (samples : List ℕ) (w : IsAlgorithm a) (in_type : AreSamples a samples) where
  input_answers : AnswersAre (callable a []) (input_calls a samples)
  input_answers name s e at inside = elim (some_bool (same_name a.input name)) [
    | inl test ↦
        let same : (a.input_ty, length a.input_extents) ≡ s = some_sig (sym (callable_input a name test) ∙ e) in
        let ty : a.input_ty ≡ s.0 = ap (λ (x : Ty × ℕ). x.0) same in
        record { ty = ty; within = subst (λ (t : Ty). IsOf t (sample a.input_extents samples at)) ty (sample_is a.input_ty a.input_extents samples at in_type) }
    | inr test ↦ let none = sym (callable_none a name test) ∙ e in absurd (cc)
  ]

  with_one_more : (before : List Function) (f : Function) (calls : Calls) → IsFunction a before f → NoneNamed f.name before → AnswersAre (callable a before) calls → AnswersAre (callable a (before ++ f ∷ [])) (with_function calls f)
  with_one_more before f calls h none answers = with_own a before f h none calls answers (value calls f) (whole_is a before f h none calls answers)

  pub before_answers : (k : ℕ) → k ≤ length a.functions → AnswersAre (callable a (take k a.functions)) (calls_before a samples k)
  before_answers zero h = input_answers
  before_answers (suc k) h = elim (slice_get_cases a.functions k).1 [
    | inl g ↦
        let e = take_one_more a.functions k g.0 g.2 in
        let one = with_one_more (take k a.functions) g.0 (calls_before a samples k) (w.functions k g.0 g.2) (none_before_is a w.names k g.0 g.2) (before_answers k (omega arith)) in
        let folded : fold with_function (input_calls a samples) (take k a.functions ++ g.0 ∷ []) ≡ with_function (calls_before a samples k) g.0 = fold-append with_function (input_calls a samples) (take k a.functions) (g.0 ∷ []) in
        subst (λ (fs : List Function). AnswersAre (callable a fs) (fold with_function (input_calls a samples) fs)) (sym e)
        (subst (λ (calls : Calls). AnswersAre (callable a (take k a.functions ++ g.0 ∷ [])) calls) (sym folded) one)
    | inr g ↦ absurd (omega arith)
  ]

  module _ (k : ℕ) (f : Function) (e : IsAt a k f) where
    inside_list : k ≤ length a.functions
    inside_list = let r = slice_get_within a.functions k f e in omega arith

    pub step_is_typed : (s : ℕ) (p : List ℤ) → IsPoint p → IsOf f.ty (value_of_function_at_step a samples k s p)
    step_is_typed s p hp =
        subst (IsOf f.ty) (sym (of_function_at_step a w.names samples k f s p e))
        (at_step_is a (take k a.functions) f (w.functions k f e) (none_before_is a w.names k f e) (calls_before a samples k) (before_answers k inside_list) s p hp)

    pub value_is_typed : (p : List ℤ) → IsPoint p → IsOf f.ty (value_of_function a samples k p)
    value_is_typed p hp =
        subst (IsOf f.ty) (sym (of_function a w.names samples k f p e))
        (whole_is a (take k a.functions) f (w.functions k f e) (none_before_is a w.names k f e) (calls_before a samples k) (before_answers k inside_list) p hp)
