-- What follows in a frame, by what its scope gives.
use Rattle.std.proofs.Common.{◌≡◌, ◌≢◌, ◌<◌, ◌≤◌, ℕ, ◌+◌, Bool, true, false, List, [], ◌∷◌, map, length, take, Option, Some, IsSome, ℤ, refl, sym, ap, ◌∙◌, subst, arith}
use Rattle.std.specs.Prelude.{slice_get, nat_eq}
use Rattle.std.proofs.lemmas.Bool.{false≢true}
use Rattle.numeric.specs.declared.ty.Ty.{Ty}
use borrow.Author.Tests.{eqb-true}
use Rattle.tree.specs.Term.{Term, indices}
use Rattle.tree.specs.Names.{TakesCall}
use Rattle.tree.specs.Meaning.{numbers_of, value_of}
use Rattle.tree.specs.Typing.{type_of, are_indices, HasFewIndices}
use Rattle.meaning.specs.Algorithm.{Function, Algorithm}
use Rattle.meaning.specs.Names.{is_among, bound, same_point}
use Rattle.meaning.specs.Conditions.{IsAlgorithm, IsExpression, callable, names_in}
use Rattle.meaning.specs.Functions.{IsPoint}
use Rattle.meaning.specs.Value.{left_side}
use Rattle.meaning.proofs.Cases.{point_same}
use Rattle.algo.specs.declared.algorithm.Algo.{Algo}
use Rattle.algo.specs.declared.inputs.Inputs.{Inputs}
use Rattle.algo.specs.View.{algorithm_of, picture_of, samples_of, IsFor}
use Rattle.plain.specs.declared.frame.Stage.{Stage}
use Rattle.plain.specs.declared.frame.Stage.TheVariants.{Pure, Before, Left, Right}
use Rattle.plain.specs.declared.frame.Frame.{Frame}
use Rattle.plain.specs.declared.frame.Goal.{Goal}
use Rattle.plain.specs.declared.frame.Step.TheVariants.{Gives, Asks, Falls}
use Rattle.plain.specs.declared.scope.Scope.{Scope}
use Rattle.plain.specs.Sites.{Site, site_of}
use Rattle.plain.specs.Scopes.{function_at, change_at, IsFirstNamed}
use Rattle.plain.specs.Stages.{outcome, later, open_count, level, point_of, calls_at, names_at, numbers_at, terms_at, IsStage, callees_at, size_before, stage_weight, finished_level}
use Rattle.plain.specs.Goals.{IsFrame, Follows, IsGoalOf, level_asked, frame_work, frame_count}
use Rattle.plain.specs.Seen.{IsScopeOf, CanEvaluateAll, scope_variables, scope_answers, turned}
use Rattle.plain.proofs.Callables.{callable_first}
use Rattle.plain.proofs.Known.{is_function, is_update, with_itself, takes_few_at}
use Rattle.plain.proofs.Answering.{small_one, left_typed, same_point_is}
use Rattle.plain.proofs.Following.{numbers-list, none_left, falls_value, falls_count, turns_value, turns_count, kept_value, kept_count, call_answers, asked_level}
use Rattle.plain.proofs.Scoped.{callees_few, all_few, all_numbers, asked_next, next_asked, next_askable, site_numbers, same_functions, same_names, same_variables, same_answers, named_in, functions_in}

head_same : {A : Type 0} {x y : A} → x ∷ [] ≡ y ∷ [] → x ≡ y
head_same e = cc

-- how far a value counts that is asked for is within its function's updates
level_within : (a : Algorithm) (k j : ℕ) (s : Stage) → IsStage (function_at a k) s → (level_asked a k s j).0 ≤ length (function_at a j).changes
level_within a k j Pure h = omega arith
level_within a k j (Before i) h = omega arith
level_within a k j (Left i n) h = omega arith
level_within a k j (Right i n) h = by (nat_eq j k) refl
  where
    by : (b : Bool) → nat_eq j k ≡ b → (level_asked a k (Right i n) j).0 ≤ length (function_at a j).changes
    by true e =
        let pick : Bool → ℕ × ℕ = λ b. elim b [ true ↦ (i + 1, n) | false ↦ finished_level (function_at a j) ] in
        let first : (level_asked a k (Right i n) j).0 ≡ i + 1 = ap (λ b. (pick b).0) e in
        let same : j ≡ k = eqb-true j k e in
        let own : i < length (function_at a j).changes = subst (λ m. i < length (function_at a m).changes) (sym same) h in
        omega (arith, first, own)
    by false e =
        let pick : Bool → ℕ × ℕ = λ b. elim b [ true ↦ (i + 1, n) | false ↦ finished_level (function_at a j) ] in
        let first : (level_asked a k (Right i n) j).0 ≡ length (function_at a j).changes = ap (λ b. (pick b).0) e in
        omega (arith, first)

takes_some : (o : Option (Ty × ℕ)) (t : Ty) (m n : ℕ) → o ≡ Some (t, m) → TakesCall o n → m ≡ n
takes_some o t m n e h = subst (λ (x : Option (Ty × ℕ)). TakesCall x n) e h

module _ (algo : Algo) (inputs : Inputs) (f : Frame) (s : Scope) (sc : IsScopeOf algo inputs f s) (w : IsAlgorithm (algorithm_of algo)) (h : IsFor algo inputs) (fr : IsFrame (algorithm_of algo) (samples_of inputs) f) where
  -- the call that is asked for next
  pub ask_follows : (x : Site) (e : slice_get (map site_of f.calls.items) (length f.answers.items) ≡ Some x) (at : List ℤ) (j : ℕ) (g : Goal) → at ≡ numbers_of (scope_variables s) (scope_answers s) x.at → IsFirstNamed (algorithm_of algo) s.callees x.name j → IsGoalOf (algorithm_of algo) f j at g →
      Follows (algorithm_of algo) (samples_of inputs) f (Asks g)
  ask_follows x e at j g is first goal =
      let al = algorithm_of algo in
      let c = asked_next al w (picture_of inputs) h f fr x e in
      let there : g.at.items ≡ c.at = goal.at ∙ is ∙ site_numbers algo inputs f s sc w h fr x e in
      let few = callees_few al w (picture_of inputs) h f fr in
      let named = subst (λ n. IsFirstNamed al n x.name j) sc.callees first in
      let below : j < callees_at f.stage f.function = named.below in
      let askable = next_askable al w (picture_of inputs) h f fr x e in
      let found = callable_first al (callees_at f.stage f.function) x.name j few named in
      let dims = takes_some _ _ _ _ found askable.takes in
      let fits : length (function_at al j).variables ≡ length c.at = dims in
      let within = level_within al f.function j f.stage fr.stage in
      let updates : g.updates ≡ (level_asked al f.function f.stage j).0 = ap (λ (l : ℕ × ℕ). l.0) goal.level in
      let answers = call_answers al (samples_of inputs) w f.function fr.place.below f.stage j c.at below in
      let counted : level al (samples_of inputs) g.function g.updates g.points ≡ asked_level al (samples_of inputs) w f.function fr.place.below f.stage j = (λ i. level al (samples_of inputs) (goal.function i) (goal.level i).0 (goal.level i).1) in (
        record {
          place = record {
            below = omega (arith, goal.function, below, few);
            indices = subst IsPoint (sym there) askable.inside;
            dimensions = ap length there ∙ sym fits ∙ ap (λ n. length (function_at al n).variables) (sym goal.function);
          };
          updates = subst (λ n. g.updates ≤ length (function_at al n).changes) (sym goal.function) (omega (arith, updates, within));
        },
        record {
          call = c;
          next = next_asked al w (picture_of inputs) h f fr x e;
          at = sym there;
          answer = ap (λ n. (calls_at al (samples_of inputs) f.function f.stage n c.at).number) (sym named.named) ∙ answers.value ∙ (λ i. (sym counted i).values (sym there i));
          cost = ap (λ n. (frame_work al (samples_of inputs) f).costs n c.at) (sym named.named) ∙ answers.cost ∙ (λ i. (sym counted i).counts (sym there i));
        },
      )

  -- the expressions of a stage all of whose calls are answered
  module _ (all : length f.calls.items ≤ length f.answers.items) where
    pub stage_numbers : (t : Stage) → f.stage ≡ t →
        numbers_of (scope_variables s) (scope_answers s) (terms_at (function_at (algorithm_of algo) f.function) t)
        ≡ numbers_of (bound (names_at (function_at (algorithm_of algo) f.function) t) (numbers_at (function_at (algorithm_of algo) f.function) t f.at.items)) (calls_at (algorithm_of algo) (samples_of inputs) f.function t) (terms_at (function_at (algorithm_of algo) f.function) t)
    stage_numbers t e =
        subst (λ (t : Stage). numbers_of (scope_variables s) (scope_answers s) (terms_at (function_at (algorithm_of algo) f.function) t)
        ≡ numbers_of (bound (names_at (function_at (algorithm_of algo) f.function) t) (numbers_at (function_at (algorithm_of algo) f.function) t f.at.items)) (calls_at (algorithm_of algo) (samples_of inputs) f.function t) (terms_at (function_at (algorithm_of algo) f.function) t)) e
        ((λ i. numbers_of (same_variables algo inputs f s sc w h fr i) (same_answers algo inputs f s sc w h fr i) (frame_work (algorithm_of algo) (samples_of inputs) f).terms) ∙ all_numbers (algorithm_of algo) w (picture_of inputs) h f fr all)

    stage_paid : (t : Stage) → f.stage ≡ t → frame_count (algorithm_of algo) (samples_of inputs) f ≡ later (algorithm_of algo) (samples_of inputs) f.function t f.at.items
    stage_paid t e =
        none_left (algorithm_of algo) (samples_of inputs) w f.function fr.place.below f.stage f.at.items (length f.answers.items) (all_few (algorithm_of algo) w (picture_of inputs) h f fr all)
        ∙ ap (λ (t : Stage). later (algorithm_of algo) (samples_of inputs) f.function t f.at.items) e

    pub pure_follows : (v : ℤ) → f.stage ≡ Pure → v ≡ (value_of (scope_variables s) (scope_answers s) (function_at (algorithm_of algo) f.function).value).number → Follows (algorithm_of algo) (samples_of inputs) f (Gives v)
    pure_follows v e is =
        (ap (λ (t : Stage). outcome (algorithm_of algo) (samples_of inputs) f.function t f.at.items) e ∙ sym (head_same (stage_numbers Pure e)) ∙ sym is, stage_paid Pure e)

    pub right_follows : (i n : ℕ) (v : ℤ) → f.stage ≡ Right i n → v ≡ (value_of (scope_variables s) (scope_answers s) (change_at (function_at (algorithm_of algo) f.function) i).value).number → Follows (algorithm_of algo) (samples_of inputs) f (Gives v)
    right_follows i n v e is =
        (ap (λ (t : Stage). outcome (algorithm_of algo) (samples_of inputs) f.function t f.at.items) e ∙ sym (head_same (stage_numbers (Right i n) e)) ∙ sym is, stage_paid (Right i n) e)

    pub before_follows : (i n : ℕ) → f.stage ≡ Before i → n ≡ size_before (function_at (algorithm_of algo) f.function) i → Follows (algorithm_of algo) (samples_of inputs) f (Falls i n)
    before_follows i n e is =
        let ok : i < length (function_at (algorithm_of algo) f.function).changes = subst (λ (t : Stage). IsStage (function_at (algorithm_of algo) f.function) t) e fr.stage in
        let value = falls_value (algorithm_of algo) (samples_of inputs) w f.function fr.place.below i f.at.items (omega arith) in
        let count = falls_count (algorithm_of algo) (samples_of inputs) w f.function fr.place.below i f.at.items (length f.answers.items) (omega arith) in (
          omega (arith, ok),
          ap (λ (t : Stage). outcome (algorithm_of algo) (samples_of inputs) f.function t f.at.items) e ∙ value ∙ ap (λ m. (level (algorithm_of algo) (samples_of inputs) f.function i m).values f.at.items) (sym is),
          ap (λ (t : Stage). open_count (algorithm_of algo) (samples_of inputs) f.function t f.at.items (length f.answers.items)) e ∙ count ∙ ap (λ m. (level (algorithm_of algo) (samples_of inputs) f.function i m).counts f.at.items) (sym is),
        )

    pub left_place : (i n : ℕ) → f.stage ≡ Left i n → numbers_of (scope_variables s) (scope_answers s) (indices (change_at (function_at (algorithm_of algo) f.function) i).at)
        ≡ left_side (calls_at (algorithm_of algo) (samples_of inputs) f.function (Left i n)) (function_at (algorithm_of algo) f.function) (change_at (function_at (algorithm_of algo) f.function) i) f.at.items (point_of (algorithm_of algo) (samples_of inputs) f.function i n)
    left_place i n e = stage_numbers (Left i n) e ∙ numbers-list _ _ (change_at (function_at (algorithm_of algo) f.function) i).at

    pub left_follows : (i n : ℕ) (place : List ℤ) → f.stage ≡ Left i n → place ≡ numbers_of (scope_variables s) (scope_answers s) (indices (change_at (function_at (algorithm_of algo) f.function) i).at) →
        Follows (algorithm_of algo) (samples_of inputs) f (turned (same_point place f.at.items) i n)
    left_follows i n place e is = by (same_point place f.at.items) refl
      where
        ok : i < length (function_at (algorithm_of algo) f.function).changes
        ok = subst (λ (t : Stage). IsStage (function_at (algorithm_of algo) f.function) t) e fr.stage

        by : (b : Bool) → same_point place f.at.items ≡ b → Follows (algorithm_of algo) (samples_of inputs) f (turned b i n)
        by true t =
            let there = sym (is ∙ left_place i n e) ∙ same_point_is place f.at.items t in (
              ok,
              ap (λ (t : Stage). outcome (algorithm_of algo) (samples_of inputs) f.function t f.at.items) e ∙ turns_value (algorithm_of algo) (samples_of inputs) w f.function fr.place.below i n f.at.items there,
              stage_paid (Left i n) e ∙ turns_count (algorithm_of algo) (samples_of inputs) w f.function fr.place.below i n f.at.items there,
              subst (λ (t : Stage). 0 < stage_weight t) (sym e) (omega arith),
            )
        by false t =
            let differs : left_side (calls_at (algorithm_of algo) (samples_of inputs) f.function (Left i n)) (function_at (algorithm_of algo) f.function) (change_at (function_at (algorithm_of algo) f.function) i) f.at.items (point_of (algorithm_of algo) (samples_of inputs) f.function i n) ≢ f.at.items =
            (λ d. false≢true (sym t ∙ point_same place f.at.items (is ∙ left_place i n e ∙ d))) in (
              omega (arith, ok),
              ap (λ (t : Stage). outcome (algorithm_of algo) (samples_of inputs) f.function t f.at.items) e ∙ kept_value (algorithm_of algo) (samples_of inputs) w f.function fr.place.below i n f.at.items differs,
              stage_paid (Left i n) e ∙ kept_count (algorithm_of algo) (samples_of inputs) w f.function fr.place.below i n f.at.items differs,
            )

  -- what a stage evaluates has a type
  one_evaluates : (t : Stage) (e : Term) (u : Ty) → f.stage ≡ t → IsExpression (names_at (function_at (algorithm_of algo) f.function) t) (callable (algorithm_of algo) (take (callees_at t f.function) (algorithm_of algo).functions)) u e →
      IsSome (type_of (named_in algo inputs f s sc s) (functions_in algo inputs f s sc s) e) × HasFewIndices e
  one_evaluates t e u st x =
      let al = algorithm_of algo in
      let small = small_one al (take (callees_at t f.function) al.functions) (takes_few_at al (samples_of inputs) w f.function fr.place.below t) (names_at (function_at al f.function) t) e u x in
      let names = same_names algo inputs f s sc w h fr ∙ ap (λ (t : Stage). is_among (names_at (function_at al f.function) t)) st in
      let functions = same_functions algo inputs f s sc ∙ ap (λ (t : Stage). callable al (take (callees_at t f.function) al.functions)) st in
      (subst (λ (x : (List ℕ → Bool) × (List ℕ → Option (Ty × ℕ))). IsSome (type_of x.0 x.1 e)) (λ i. (sym names i, sym functions i)) small.0, small.1)

  pub pure_evaluates : f.stage ≡ Pure → IsSome (type_of (named_in algo inputs f s sc s) (functions_in algo inputs f s sc s) (function_at (algorithm_of algo) f.function).value) × HasFewIndices (function_at (algorithm_of algo) f.function).value
  pure_evaluates e = one_evaluates Pure (function_at (algorithm_of algo) f.function).value (function_at (algorithm_of algo) f.function).ty e (is_function (algorithm_of algo) (samples_of inputs) w f.function fr.place.below).pure

  pub right_evaluates : (i n : ℕ) → f.stage ≡ Right i n → IsSome (type_of (named_in algo inputs f s sc s) (functions_in algo inputs f s sc s) (change_at (function_at (algorithm_of algo) f.function) i).value) × HasFewIndices (change_at (function_at (algorithm_of algo) f.function) i).value
  right_evaluates i n e =
      let al = algorithm_of algo in
      let ok : i < length (function_at al f.function).changes = subst (λ (t : Stage). IsStage (function_at al f.function) t) e fr.stage in
      let u = change_at (function_at al f.function) i in
      let right = (is_update al (samples_of inputs) w f.function fr.place.below i ok).right in
      one_evaluates (Right i n) u.value (function_at al f.function).ty e (subst (λ (fs : List Function). IsExpression (names_in (function_at al f.function) u) (callable al fs) (function_at al f.function).ty u.value) (sym (with_itself al (samples_of inputs) w f.function fr.place.below)) right)

  pub left_evaluates : (i n : ℕ) → f.stage ≡ Left i n → CanEvaluateAll s (indices (change_at (function_at (algorithm_of algo) f.function) i).at)
  left_evaluates i n e =
      let al = algorithm_of algo in
      let ok : i < length (function_at al f.function).changes = subst (λ (t : Stage). IsStage (function_at al f.function) t) e fr.stage in
      let u = change_at (function_at al f.function) i in
      let l = left_typed al (take f.function al.functions) (takes_few_at al (samples_of inputs) w f.function fr.place.below (Left i n)) (names_in (function_at al f.function) u) u.at (is_update al (samples_of inputs) w f.function fr.place.below i ok).left in
      let names = same_names algo inputs f s sc w h fr ∙ ap (λ (t : Stage). is_among (names_at (function_at al f.function) t)) e in
      let functions = same_functions algo inputs f s sc ∙ ap (λ (t : Stage). callable al (take (callees_at t f.function) al.functions)) e in
      record { typed = (λ i. are_indices (names i) (functions i) (indices u.at)) ∙ l.0; few = l.1 }
