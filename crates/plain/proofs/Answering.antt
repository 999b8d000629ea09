-- What is recorded answers as the calls do, so far as it is asked for.
use Rattle.std.proofs.Common.{◌≡◌, ◌<◌, ◌≤◌, ℕ, zero, suc, Bool, true, false, List, [], ◌∷◌, map, length, take, Option, Some, None, IsSome, ℤ, pos, refl, sym, ap, ◌∙◌, subst, arith, not, ◌&&◌, ◌⊎◌, inl, inr, All}
use Rattle.std.specs.Prelude.{slice_get}
use Rattle.std.specs.List.{filter}
use Rattle.std.proofs.lemmas.Bool.{false≢true}
use Rattle.std.proofs.lemmas.List.{append-nil}
use Rattle.std.proofs.lemmas.List.Elements.{All-nil, All-cons, All-head, All-tail, All-append}
use Rattle.numeric.specs.declared.ty.Ty.{Ty}
use Rattle.numeric.specs.declared.ty.Ty.TheVariants.{I32}
use Rattle.tree.specs.declared.value.Value.{Value}
use Rattle.tree.specs.Term.{Term, Terms, End, More, indices}
use Rattle.numeric.specs.Wrap.{IsOf}
use Rattle.tree.specs.Names.{typed_answers, called_type, TakesCall, AnswersWithin}
use Rattle.tree.specs.Meaning.{numbers_of, value_of, typed}
use Rattle.tree.specs.Typing.{type_of, is_index, are_indices, index_count, HasFewIndices}
use Rattle.tree.specs.Uses.{Asked, calls_made_by_all, EachCallOfAll}
use Rattle.tree.proofs.Uses.{each_stands_in_all, same_indices}
use Rattle.tree.proofs.Typed.{index-is}
use Rattle.tree.proofs.Soundness.{few_indices}
use Rattle.meaning.specs.Image.View.{Picture}
use Rattle.meaning.specs.Image.Raster.{sample}
use Rattle.meaning.specs.Algorithm.{Function, Algorithm}
use Rattle.meaning.specs.Names.{same_name, same_point, is_among, bound}
use Rattle.meaning.specs.Reduction.{point}
use Rattle.meaning.specs.Conditions.{IsAlgorithm, IsExpression, callable, names_in}
use Rattle.meaning.specs.Functions.{IsPoint, AreSamples}
use Rattle.meaning.specs.Value.{Calls}
use Rattle.meaning.proofs.Cases.{name_same, name_differs, same_name_is, point_same}
use Rattle.std.specs.Ordering.{int_eq}
use Rattle.std.proofs.lemmas.Bool.Decides.{Decides-int_eq, nat_tests}
use Rattle.std.proofs.lemmas.Cmp.{int_eq_equiv}
use lib.Pointwise.{pointwise_decides}
use Rattle.meaning.proofs.Calls.{NoneNamed, callable_miss, callable_input, none_before_is_input}
use Rattle.meaning.proofs.Types.{IsValue, AnswersAre, value_is, bound_is, zero_is_of}
use Rattle.meaning.proofs.Typed.{reduction_point_is}
use Rattle.plain.specs.declared.frame.Stage.{Stage}
use Rattle.plain.specs.declared.frame.Stage.TheVariants.{Pure, Before, Left, Right}
use Rattle.plain.specs.Sites.{Site, is_other, sites, sites_of_all, asked_at}
use Rattle.plain.specs.Works.{Work, Entry, recorded, asked_list, true_entry}
use Rattle.plain.specs.Scopes.{function_at, change_at, answered}
use Rattle.plain.specs.Stages.{names_at, numbers_at, terms_at, work, IsStage, callees_at}
use Rattle.plain.proofs.Standing.{made_of_all, ordered_of_all, TypedSite, all_typed, all_typed_of_all, All-get, All-take, All-through, All-filtered}
use Rattle.plain.proofs.Known.{is_function, is_update, with_itself, input_answer, answers_at, takes_few_at}

some_bool : (b : Bool) → (b ≡ true) ⊎ (b ≡ false)
some_bool true = inl refl
some_bool false = inr refl

both_true : (b c : Bool) → (b && c) ≡ true → (b ≡ true) × (c ≡ true)
both_true true c h = (refl, h)
both_true false c h = absurd (false≢true h)

not_false : (b : Bool) → not b ≡ false → b ≡ true
not_false true h = refl
not_false false h = absurd (false≢true (sym h))

not_true : (b : Bool) → not b ≡ true → b ≡ false
not_true false h = refl
not_true true h = absurd (false≢true h)

value_same : (u v : Value) → u.ty ≡ v.ty → u.number ≡ v.number → u ≡ v
value_same u v e h = λ i. record { ty = e i; number = h i }

take_over : {A : Type 0} (xs : List A) (n : ℕ) → length xs ≤ n → take n xs ≡ xs
take_over [] zero h = refl
take_over [] (suc n) h = refl
take_over (x ∷ xs) zero h = absurd (omega arith)
take_over (x ∷ xs) (suc n) h = ap (λ ys. x ∷ ys) (take_over xs n (omega arith))

everywhere : (cs : List Asked) (P : Asked → Type 0) → ((n : ℕ) (c : Asked) → slice_get cs n ≡ Some c → P c) → All P cs
everywhere [] P f = All-nil P
everywhere (c ∷ cs) P f = All-cons P c cs (f 0 c refl) (everywhere cs P (λ n d e. f (suc n) d e))

number_decides : (x y : ℤ) → (int_eq x y ≡ true → x ≡ y) × (x ≡ y → int_eq x y ≡ true)
number_decides x y = (λ e. grind (arith, nat_tests, Decides-int_eq x y), λ e. ap (int_eq x) (sym e) ∙ int_eq_equiv.refl x)

pub same_point_is : (p q : List ℤ) → same_point p q ≡ true → p ≡ q
same_point_is p q e = (pointwise_decides number_decides p q).0 e

-- a call that is among those answered is recorded with its answer
module _ (calls : Calls) where
  abbrev entry : Asked → Entry
  entry c = record { name = c.name; at = c.at; number = (calls c.name c.at).number }

  further : (d : Asked) (cs : List Asked) (c : Asked) → ((n : ℕ) → slice_get cs n ≡ Some c → recorded (map entry cs) c.name c.at ≡ (calls c.name c.at).number) →
      (n : ℕ) → slice_get (d ∷ cs) n ≡ Some c → (same_name d.name c.name && same_point d.at c.at) ≡ false → recorded (map entry cs) c.name c.at ≡ (calls c.name c.at).number
  further d cs c more zero e h =
      let same : d ≡ c = cc in
      let name = name_same d.name c.name (ap (λ (x : Asked). x.name) same) in
      let at = point_same d.at c.at (ap (λ (x : Asked). x.at) same) in
      absurd (false≢true (sym h ∙ (λ i. name i && at i)))
  further d cs c more (suc n) e h = more n e

  pub recorded_true : (cs : List Asked) (n : ℕ) (c : Asked) → slice_get cs n ≡ Some c → recorded (map entry cs) c.name c.at ≡ (calls c.name c.at).number
  recorded_true [] n c e = absurd (cc)
  recorded_true (d ∷ cs) n c e =
      let test = same_name d.name c.name && same_point d.at c.at in
      let pick : Bool → ℤ = λ b. elim b [ true ↦ (calls d.name d.at).number | false ↦ recorded (map entry cs) c.name c.at ] in
      elim (some_bool test) [
        | inl h ↦
            let both = both_true (same_name d.name c.name) (same_point d.at c.at) h in
            let name = same_name_is d.name c.name both.0 in
            let at = same_point_is d.at c.at both.1 in
            ap pick h ∙ (λ i. (calls (name i) (at i)).number)
        | inr h ↦ ap pick h ∙ further d cs c (λ m g. recorded_true cs m c g) n e h
      ]

  -- what is recorded is an answer, or nothing is
  pub recorded_cases : (cs : List Asked) (name : List ℕ) (at : List ℤ) → (recorded (map entry cs) name at ≡ pos 0) ⊎ (recorded (map entry cs) name at ≡ (calls name at).number)
  recorded_cases [] name at = inl refl
  recorded_cases (d ∷ cs) name at =
      let test = same_name d.name name && same_point d.at at in
      let pick : Bool → ℤ = λ b. elim b [ true ↦ (calls d.name d.at).number | false ↦ recorded (map entry cs) name at ] in
      elim (some_bool test) [
        | inl h ↦
            let both = both_true (same_name d.name name) (same_point d.at at) h in
            inr (ap pick h ∙ (λ i. (calls (same_name_is d.name name both.0 i) (same_point_is d.at at both.1 i)).number))
        | inr h ↦ elim (recorded_cases cs name at) [ inl e ↦ inl (ap pick h ∙ e) | inr e ↦ inr (ap pick h ∙ e) ]
      ]

  -- each call that is answered
  pub all_recorded : (cs : List Asked) → All (λ c. recorded (map entry cs) c.name c.at ≡ (calls c.name c.at).number) cs
  all_recorded cs = everywhere cs (λ c. recorded (map entry cs) c.name c.at ≡ (calls c.name c.at).number) (λ n c e. recorded_true cs n c e)

numbers-length : (vs : List ℕ → ℤ) (calls : Calls) (at : Terms) → length (numbers_of vs calls at) ≡ index_count at
numbers-length vs calls End = refl
numbers-length vs calls (More a rest) = let h : length (numbers_of vs calls rest) ≡ index_count rest = numbers-length vs calls rest in omega (arith, h)

indices_inside : (vs : List ℕ → ℤ) → ((name : List ℕ) → IsOf I32 (vs name)) → (named : List ℕ → Bool) (functions : List ℕ → Option (Ty × ℕ)) (calls : Calls) → AnswersAre functions calls → (at : Terms) → are_indices named functions at ≡ true → IsPoint (numbers_of vs calls at)
indices_inside vs inside named functions calls answers End h = All-nil (IsOf I32)
indices_inside vs inside named functions calls answers (More a rest) h =
    let b = both_true (is_index (type_of named functions a)) (are_indices named functions rest) h in
    All-cons (IsOf I32) (value_of vs calls a).number (numbers_of vs calls rest)
    (value_is vs inside named functions calls answers a I32 (index-is (type_of named functions a) b.0)).within (indices_inside vs inside named functions calls answers rest b.1)

-- the input can be called
input_named : (a : Algorithm) (fs : List Function) → NoneNamed a.input fs → callable a fs a.input ≡ Some (a.input_ty, length a.input_extents)
input_named a [] h = callable_input a a.input (name_same a.input a.input refl)
input_named a (f ∷ fs) h = callable_miss a f fs a.input (name_differs f.name a.input (h 0 f refl)) ∙ input_named a fs (λ j g e. h (suc j) g e)

-- indices of the left side
module _ (a : Algorithm) (fs : List Function) (few : (name : List ℕ) (count : ℕ) → TakesCall (callable a fs name) count → count ≤ 4) (names : List (List ℕ)) where
  pub small_one : (e : Term) (t : Ty) → IsExpression names (callable a fs) t e → IsSome (type_of (is_among names) (callable a fs) e) × HasFewIndices e
  small_one e t h =
      let some : IsSome (type_of (is_among names) (callable a fs) e) = subst (λ (o : Option Ty). IsSome o) (sym h.typed) refl in
      (some, few_indices (is_among names) (callable a fs) few e some)

  index_typed : (e : Term) (es : List Term) → type_of (is_among names) (callable a fs) e ≡ Some I32 → are_indices (is_among names) (callable a fs) (indices es) ≡ true → are_indices (is_among names) (callable a fs) (indices (e ∷ es)) ≡ true
  index_typed e es h k = (λ i. is_index (h i) && k i)

  pub left_typed : (es : List Term) → All (IsExpression names (callable a fs) I32) es → (are_indices (is_among names) (callable a fs) (indices es) ≡ true) × EachCallOfAll (λ name at. index_count at ≤ 4) (indices es)
  left_typed [] h = (refl, tt)
  left_typed (e ∷ es) h =
      let P = IsExpression names (callable a fs) I32 in
      let one = All-head P e es h in
      let rest = left_typed es (All-tail P e es h) in
      (index_typed e es one.typed rest.0, ((small_one e I32 one).1, rest.1))

module _ (a : Algorithm) (samples : List ℕ) (w : IsAlgorithm a) (t : AreSamples a samples) (k : ℕ) (below : k < length a.functions) (s : Stage) (ok : IsStage (function_at a k) s) where
  abbrev pub names_known : List ℕ → Bool
  names_known = is_among (names_at (function_at a k) s)

  abbrev pub functions_known : List ℕ → Option (Ty × ℕ)
  functions_known = callable a (take (callees_at s k) a.functions)

  -- the coordinates of bindings
  pub numbers_inside : (p : List ℤ) → IsPoint p → IsPoint (numbers_at (function_at a k) s p)
  numbers_inside p h = inside s ok
    where
      inside : (s : Stage) → IsStage (function_at a k) s → IsPoint (numbers_at (function_at a k) s p)
      inside Pure ok = h
      inside (Before i) ok = h
      inside (Left i n) ok = All-append (IsOf I32) p (point (change_at (function_at a k) i).ranges n) h (reduction_point_is (change_at (function_at a k) i).ranges n (is_update a samples w k below i ok).domain.ranges)
      inside (Right i n) ok = All-append (IsOf I32) p (point (change_at (function_at a k) i).ranges n) h (reduction_point_is (change_at (function_at a k) i).ranges n (is_update a samples w k below i ok).domain.ranges)

  -- the expressions have types
  pub sites_typed : All (TypedSite names_known functions_known) (sites_of_all a.input (terms_at (function_at a k) s))
  sites_typed = typed_at s ok
    where
      one_typed : (s : Stage) (e : Term) (u : Ty) → IsExpression (names_at (function_at a k) s) (callable a (take (callees_at s k) a.functions)) u e →
          All (TypedSite (is_among (names_at (function_at a k) s)) (callable a (take (callees_at s k) a.functions))) (sites_of_all a.input (More e End))
      one_typed s e u h =
          let fs = take (callees_at s k) a.functions in
          let small = small_one a fs (takes_few_at a samples w k below s) (names_at (function_at a k) s) e u h in
          let T = TypedSite (is_among (names_at (function_at a k) s)) (callable a fs) in
          subst (λ (l : List Site). All T l) (sym (append-nil (sites a.input e))) (all_typed (is_among (names_at (function_at a k) s)) (callable a fs) a.input e small.0 small.1)

      typed_at : (s : Stage) → IsStage (function_at a k) s → All (TypedSite (is_among (names_at (function_at a k) s)) (callable a (take (callees_at s k) a.functions))) (sites_of_all a.input (terms_at (function_at a k) s))
      typed_at Pure ok = one_typed Pure (function_at a k).value (function_at a k).ty (is_function a samples w k below).pure
      typed_at (Before i) ok = All-nil (TypedSite (is_among (function_at a k).variables) (callable a (take k a.functions)))
      typed_at (Left i n) ok =
          let f = function_at a k in
          let u = change_at f i in
          let fs = take k a.functions in
          let few = takes_few_at a samples w k below (Left i n) in
          let l = left_typed a fs few (names_in f u) u.at (is_update a samples w k below i ok).left in
          all_typed_of_all (is_among (names_in f u)) (callable a fs) a.input (indices u.at) l.0 l.1
      typed_at (Right i n) ok =
          let f = function_at a k in
          let u = change_at f i in
          let right = (is_update a samples w k below i ok).right in
          one_typed (Right i n) u.value f.ty (subst (λ (fs : List Function). IsExpression (names_in f u) (callable a fs) f.ty u.value) (sym (with_itself a samples w k below)) right)

  -- over the point p, with the first n calls recorded
  module _ (p : List ℤ) (hp : IsPoint p) where
    abbrev pub here : Work
    here = work a samples k s p

    abbrev pub bindings_here : List ℕ → ℤ
    bindings_here = bound here.names here.numbers

    -- a call that can be made
    pub record Askable (c : Asked) : Type 0 where
      pub known : IsSome (functions_known c.name)
      pub inside : IsPoint c.at
      pub takes : TakesCall (functions_known c.name) (length c.at)

    site_askable : (x : Site) → TypedSite names_known functions_known x → Askable (asked_at bindings_here here.calls x)
    site_askable x h = record {
      known = h.known;
      inside = indices_inside bindings_here (λ name. bound_is here.names here.numbers name (numbers_inside p hp)) names_known functions_known here.calls (answers_at a samples w t k below s ok) x.at h.typed;
      takes = subst (TakesCall (functions_known x.name)) (sym (numbers-length bindings_here here.calls x.at)) h.takes;
    }

    pub all_asked : map (asked_at bindings_here here.calls) (sites_of_all a.input here.terms) ≡ asked_list a.input here
    all_asked = made_of_all bindings_here here.calls a.input here.terms

    pub all_askable : All Askable (asked_list a.input here)
    all_askable = subst (λ (l : List Asked). All Askable l) all_asked (All-through (TypedSite names_known functions_known) Askable (asked_at bindings_here here.calls) (sites_of_all a.input here.terms) site_askable sites_typed)

    -- what is asked answers with a value of its type
    pub asked_value : (c : Asked) → Askable c → IsValue (called_type (functions_known c.name)) (here.calls c.name c.at)
    asked_value c h = by (functions_known c.name) refl h.known
      where
        by : (o : Option (Ty × ℕ)) → functions_known c.name ≡ o → IsSome o → IsValue (called_type (functions_known c.name)) (here.calls c.name c.at)
        by None e g = absurd (false≢true g)
        by (Some f) e g = subst (λ (o : Option (Ty × ℕ)). IsValue (called_type o) (here.calls c.name c.at)) (sym e) (answers_at a samples w t k below s ok c.name f e c.at h.inside)

    module _ (picture : Picture) (extents : picture.extents ≡ a.input_extents) (content : picture.samples ≡ samples) (n : ℕ) where
      abbrev pub entries_here : List Entry
      entries_here = map (true_entry here) (take n (asked_list a.input here))

      abbrev pub answers_here : List ℕ → List ℤ → Value
      answers_here = typed_answers functions_known (answered a picture entries_here)

      abbrev Same : Asked → Type 0
      Same c = here.calls c.name c.at ≡ answers_here c.name c.at

      input_same : (c : Asked) → is_other a.input c.name ≡ false → Same c
      input_same c h =
          let test = not_false (same_name a.input c.name) h in
          let named = same_name_is a.input c.name test in
          let pick : Bool → ℤ = λ b. elim b [ true ↦ sample picture.extents picture.samples c.at | false ↦ recorded entries_here c.name c.at ] in
          let calls : here.calls c.name c.at ≡ typed a.input_ty (sample a.input_extents samples c.at) = ap (λ (x : List ℕ). here.calls x c.at) (sym named) ∙ input_answer a samples w k below s c.at in
          let ty = ap called_type (ap functions_known (sym named) ∙ input_named a (take (callees_at s k) a.functions) (none_before_is_input a w.names (callees_at s k))) in
          calls ∙ sym (λ i. record { ty = ty i; number = (ap pick test ∙ (λ j. sample (extents j) (content j) c.at)) i })

      asked_same : (c : Asked) → Askable c → recorded entries_here c.name c.at ≡ (here.calls c.name c.at).number → Same c
      asked_same c h r = elim (some_bool (is_other a.input c.name)) [
        | inl other ↦
            let test = not_true (same_name a.input c.name) other in
            let pick : Bool → ℤ = λ b. elim b [ true ↦ sample picture.extents picture.samples c.at | false ↦ recorded entries_here c.name c.at ] in
            value_same (here.calls c.name c.at) (answers_here c.name c.at) (asked_value c h).ty (sym (ap pick test ∙ r))
        | inr input ↦ input_same c input
      ]

      -- the calls that are recorded are answered as the calls are
      pub all_same : All Same (take n (asked_list a.input here))
      all_same =
          let cs = take n (asked_list a.input here) in
          everywhere cs Same (λ i c e. asked_same c (All-get Askable cs i c e (All-take Askable (asked_list a.input here) n all_askable)) (recorded_true here.calls cs i c e))

      -- indices all of whose calls are recorded
      pub numbers_same : (at : Terms) → All Same (filter (λ c. is_other a.input c.name) (calls_made_by_all bindings_here here.calls at)) →
          numbers_of bindings_here answers_here at ≡ numbers_of bindings_here here.calls at
      numbers_same at h =
          let made = All-filtered Same (λ c. is_other a.input c.name) (calls_made_by_all bindings_here here.calls at) input_same h in
          let stands = each_stands_in_all Same bindings_here here.calls at made in
          sym (same_indices bindings_here bindings_here here.calls answers_here at (λ i x l. refl) stands).value

      -- the indices of the call that is asked for next
      pub site_same : (x : Site) → slice_get (sites_of_all a.input here.terms) n ≡ Some x → numbers_of bindings_here answers_here x.at ≡ numbers_of bindings_here here.calls x.at
      site_same x e =
          let before = subst (λ (l : List Asked). All Same (take n l)) (sym all_asked) all_same in
          numbers_same x.at (ordered_of_all bindings_here here.calls a.input Same here.terms n x e before)

      -- all expressions, where all calls are recorded
      pub terms_same : length (asked_list a.input here) ≤ n → numbers_of bindings_here answers_here here.terms ≡ numbers_of bindings_here here.calls here.terms
      terms_same h = numbers_same here.terms (subst (λ (l : List Asked). All Same l) (take_over (asked_list a.input here) n h) all_same)

      -- what is recorded is of its type
      pub answered_within : (name : List ℕ) (at : List ℤ) → IsPoint at → AnswersWithin (functions_known name) (answered a picture entries_here name at)
      answered_within name at inside = by (functions_known name) refl
        where
          number : (f : Ty × ℕ) → functions_known name ≡ Some f → IsOf f.0 (answered a picture entries_here name at)
          number f e =
              let v = answers_at a samples w t k below s ok name f e at inside in
              let pick : Bool → ℤ = λ b. elim b [ true ↦ sample picture.extents picture.samples at | false ↦ recorded entries_here name at ] in
              elim (some_bool (same_name a.input name)) [
                | inl test ↦
                    let named = same_name_is a.input name test in
                    let calls = ap (λ (x : List ℕ). (here.calls x at).number) (sym named) ∙ ap (λ (x : Value). x.number) (input_answer a samples w k below s at) in
                    subst (IsOf f.0) (calls ∙ sym (ap pick test ∙ (λ j. sample (extents j) (content j) at))) v.within
                | inr test ↦ elim (recorded_cases here.calls (take n (asked_list a.input here)) name at) [
                  | inl zero_is ↦ subst (IsOf f.0) (sym (ap pick test ∙ zero_is)) (zero_is_of f.0)
                  | inr r ↦ subst (IsOf f.0) (sym (ap pick test ∙ r)) v.within
                ]
              ]

          by : (o : Option (Ty × ℕ)) → functions_known name ≡ o → AnswersWithin (functions_known name) (answered a picture entries_here name at)
          by None e = subst (λ (o : Option (Ty × ℕ)). AnswersWithin o (answered a picture entries_here name at)) (sym e) tt
          by (Some f) e = subst (λ (o : Option (Ty × ℕ)). AnswersWithin o (answered a picture entries_here name at)) (sym e) (number f e)
