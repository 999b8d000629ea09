-- What a frame's scope gives to its expressions.
use Rattle.std.proofs.Common.{◌≡◌, ◌<◌, ◌≤◌, ℕ, zero, suc, ◌+◌, Bool, true, false, cond, List, [], ◌∷◌, ◌++◌, map, length, take, Option, Some, IsSome, ℤ, pos, refl, sym, ap, ◌∙◌, subst, arith, All, get_or}
use Rattle.std.specs.Prelude.{slice_get, not}
use Rattle.std.specs.List.{filter}
use Rattle.std.proofs.lemmas.Bool.{false≢true}
use Rattle.std.proofs.lemmas.Int.{ints}
use Rattle.std.proofs.lemmas.List.{take_more, length-map}
use Rattle.std.proofs.lemmas.List.Elements.{All-nil, All-cons, All-head, All-tail}
use Rattle.numeric.specs.declared.ty.Ty.{Ty}
use Rattle.numeric.specs.declared.ty.Ty.TheVariants.{U8, U16, U32, I8, I16, I32}
use Rattle.numeric.specs.Wrap.{IsOf}
use Rattle.tree.specs.declared.value.Value.{Value}
use Rattle.tree.specs.declared.expr.Expr.{Expr}
use Rattle.tree.specs.Term.{term_of, list_terms, indices}
use Rattle.tree.specs.Names.{typed_answers, AnswersWithin}
use Rattle.tree.specs.Meaning.{numbers_of, value_of}
use Rattle.tree.specs.Typing.{type_of, is_index, are_indices, index_count, HasFewIndices}
use Rattle.tree.specs.Uses.{Asked, EachCallOfAll}
use Rattle.tree.proofs.Typed.{both_true, index-is}
use Rattle.meaning.specs.Image.View.{Picture, HasShape, IsSampleType, max_sample}
use Rattle.meaning.specs.Algorithm.{Algorithm}
use Rattle.meaning.specs.Names.{is_among, bound, same_name}
use Rattle.meaning.specs.Conditions.{IsAlgorithm, callable}
use Rattle.meaning.specs.Functions.{AreSamples}
use Rattle.meaning.proofs.Calls.{callable_none}
use Rattle.algo.specs.Parts.{input_frame}
use Rattle.algo.specs.declared.algorithm.Algo.{Algo}
use Rattle.algo.specs.declared.inputs.Inputs.{Inputs}
use Rattle.algo.specs.View.{algorithm_of, picture_of, samples_of, IsFor}
use Rattle.plain.specs.declared.frame.Stage.{Stage}
use Rattle.plain.specs.declared.frame.Stage.TheVariants.{Pure, Before, Left, Right}
use Rattle.plain.specs.declared.frame.Frame.{Frame}
use Rattle.plain.specs.declared.scope.Scope.{Scope}
use Rattle.plain.specs.Sites.{Site, is_other, site_of, sites_of_all, asked_at}
use Rattle.plain.specs.Works.{Entry, asked_list, entry_of, bound_name, bound_number}
use Rattle.plain.specs.Scopes.{answered, AreIndices, AnswerWithin, NoneBefore}
use Rattle.plain.specs.Stages.{callees_at}
use Rattle.plain.specs.Goals.{IsFrame, frame_work}
use Rattle.plain.specs.Seen.{IsScopeOf, CanEvaluateAll, scope_variables, scope_answers}
use Rattle.plain.proofs.Standing.{TypedSite, All-get}
use Rattle.plain.proofs.Callables.{callable_alone}
use Rattle.plain.proofs.Answering.{numbers_inside, sites_typed, all_asked, all_askable, Askable, site_same, terms_same, answered_within, answers_here}

-- ---- lists of expressions

module _ (named : List ℕ → Bool) (functions : List ℕ → Option (Ty × ℕ)) where
  -- one of the indices
  pub index_at : (at : List Expr) (i : ℕ) (x : Expr) → x ≡ get_or at i x → i < length at → are_indices named functions (indices (list_terms at)) ≡ true → EachCallOfAll (λ name at. index_count at ≤ 4) (indices (list_terms at)) →
      IsSome (type_of named functions (term_of x)) × HasFewIndices (term_of x)
  index_at [] i x is lt h few = absurd (omega arith)
  index_at (y ∷ ys) zero x is lt h few =
      let b = both_true (is_index (type_of named functions (term_of y))) (are_indices named functions (indices (list_terms ys))) h in
      let some : IsSome (type_of named functions (term_of y)) = subst (λ (o : Option Ty). IsSome o) (sym (index-is (type_of named functions (term_of y)) b.0)) refl in
      subst (λ (e : Expr). IsSome (type_of named functions (term_of e)) × HasFewIndices (term_of e)) (sym is) (some, few.0)
  index_at (y ∷ ys) (suc i) x is lt h few =
      let b = both_true (is_index (type_of named functions (term_of y))) (are_indices named functions (indices (list_terms ys))) h in
      index_at ys i x is (omega arith) b.1 few.1

module _ (vs : List ℕ → ℤ) (calls : List ℕ → List ℤ → Value) where
  numbers-two : (xs ys : List Expr) → numbers_of vs calls (indices (list_terms (xs ++ ys))) ≡ numbers_of vs calls (indices (list_terms xs)) ++ numbers_of vs calls (indices (list_terms ys))
  numbers-two [] ys = refl
  numbers-two (x ∷ xs) ys = ap (λ zs. (value_of vs calls (term_of x)).number ∷ zs) (numbers-two xs ys)

  -- one more number
  pub numbers-more : (at : List Expr) (i : ℕ) (x : Expr) → x ≡ get_or at i x → i < length at →
      numbers_of vs calls (indices (list_terms (take (i + 1) at))) ≡ numbers_of vs calls (indices (list_terms (take i at))) ++ (value_of vs calls (term_of x)).number ∷ []
  numbers-more at i x is lt =
      let e : take (i + 1) at ≡ take i at ++ x ∷ [] = take_more at i x lt ∙ ap (λ y. take i at ++ y ∷ []) (sym is) in
      ap (λ (xs : List Expr). numbers_of vs calls (indices (list_terms xs))) e ∙ numbers-two (take i at) (x ∷ [])

-- ---- samples of an image are values of its type

sample_of : (t : Ty) (n : ℕ) → IsSampleType t → n ≤ max_sample t → IsOf t (pos n)
sample_of U8 n h k = record { from = omega (arith, ints); to = omega (arith, ints) }
sample_of U16 n h k = record { from = omega (arith, ints); to = omega (arith, ints) }
sample_of U32 n h k = absurd h
sample_of I8 n h k = absurd h
sample_of I16 n h k = absurd h
sample_of I32 n h k = absurd h

samples_of_type : (t : Ty) (ss : List ℕ) → IsSampleType t → All (λ s. s ≤ max_sample t) ss → All (λ s. IsOf t (pos s)) ss
samples_of_type t [] h k = All-nil (λ s. IsOf t (pos s))
samples_of_type t (s ∷ ss) h k =
    All-cons (λ s. IsOf t (pos s)) s ss (sample_of t s h (All-head (λ s. s ≤ max_sample t) s ss k)) (samples_of_type t ss h (All-tail (λ s. s ≤ max_sample t) s ss k))

pub are_samples : (a : Algorithm) (p : Picture) → IsAlgorithm a → HasShape (input_frame a) p → AreSamples a p.samples
are_samples a p w h = samples_of_type a.input_ty p.samples w.input_sampled h.range

first_true : {A : Type 0} (test : A → Bool) (y : A) (ys : List A) (x : A) → test y ≡ true → ((n : ℕ) → slice_get (filter test ys) n ≡ Some x → test x ≡ true) → (n : ℕ) → slice_get (y ∷ filter test ys) n ≡ Some x → test x ≡ true
first_true test y ys x t more zero e = let same : y ≡ x = cc in ap test (sym same) ∙ t
first_true test y ys x t more (suc n) e = more n e

filter_true : {A : Type 0} (test : A → Bool) (xs : List A) (n : ℕ) (x : A) → slice_get (filter test xs) n ≡ Some x → test x ≡ true
filter_true test [] n x e = absurd (cc)
filter_true {A} test (y ∷ ys) n x e =
    let go = elim (test y) as (λ (b : Bool). (test y ≡ b) → (n : ℕ) → slice_get (cond b (y ∷ filter test ys) (filter test ys)) n ≡ Some x → test x ≡ true) [
      | true ↦ λ t n e. first_true test y ys x t (λ m g. filter_true test ys m x g) n e
      | false ↦ λ t n e. filter_true test ys n x e
    ] in
    go refl n e

get_map : {A B : Type 0} (f : A → B) (xs : List A) (n : ℕ) (x : A) → slice_get xs n ≡ Some x → slice_get (map f xs) n ≡ Some (f x)
get_map f [] n x e = absurd (cc)
get_map f (y ∷ ys) zero x e = let same : y ≡ x = cc in ap (λ z. Some (f z)) same
get_map f (y ∷ ys) (suc n) x e = get_map f ys n x e

not_true : (b : Bool) → not b ≡ true → b ≡ false
not_true false h = refl
not_true true h = absurd (false≢true h)

-- ---- a frame and its scope

module _ (a : Algorithm) (w : IsAlgorithm a) (pic : Picture) (h : HasShape (input_frame a) pic) (f : Frame) (fr : IsFrame a pic.samples f) where
  abbrev pub count : ℕ
  count = length f.answers.items

  pub callees_few : callees_at f.stage f.function ≤ length a.functions
  callees_few = by f.stage
    where
      by : (s : Stage) → callees_at s f.function ≤ length a.functions
      by Pure = omega (arith, fr.place.below)
      by (Before i) = omega (arith, fr.place.below)
      by (Left i n) = omega (arith, fr.place.below)
      by (Right i n) = omega (arith, fr.place.below)

  pub frame_indices : AreIndices (map bound_number f.bindings.items)
  frame_indices = subst AreIndices (sym fr.numbers) (numbers_inside a pic.samples w (are_samples a pic w h) f.function fr.place.below f.stage fr.stage f.at.items fr.place.indices)

  pub frame_within : AnswerWithin a (callees_at f.stage f.function) (answered a pic (map entry_of f.answers.items))
  frame_within name at inside =
      subst (λ (es : List Entry). AnswersWithin (callable a (take (callees_at f.stage f.function) a.functions) name) (answered a pic es name at)) (sym fr.answers)
      (answered_within a pic.samples w (are_samples a pic w h) f.function fr.place.below f.stage fr.stage f.at.items fr.place.indices pic h.extents refl count name at inside)

  abbrev pub true_calls : List ℕ → List ℤ → Value
  true_calls = (frame_work a pic.samples f).calls

  abbrev pub variables : List ℕ → ℤ
  variables = bound (frame_work a pic.samples f).names (frame_work a pic.samples f).numbers

  abbrev pub recorded_calls : List ℕ → List ℤ → Value
  recorded_calls = answers_here a pic.samples w (are_samples a pic w h) f.function fr.place.below f.stage fr.stage f.at.items fr.place.indices pic h.extents refl count

  -- the site of the next call
  module _ (x : Site) (e : slice_get (map site_of f.calls.items) count ≡ Some x) where
    pub site_next : slice_get (sites_of_all a.input (frame_work a pic.samples f).terms) count ≡ Some x
    site_next = ap (λ (l : List Site). slice_get l count) (sym fr.sites) ∙ e

    pub site_typed : TypedSite (is_among (frame_work a pic.samples f).names) (callable a (take (callees_at f.stage f.function) a.functions)) x
    site_typed = All-get (TypedSite (is_among (frame_work a pic.samples f).names) (callable a (take (callees_at f.stage f.function) a.functions))) (sites_of_all a.input (frame_work a pic.samples f).terms) count x site_next
        (sites_typed a pic.samples w (are_samples a pic w h) f.function fr.place.below f.stage fr.stage)

    abbrev pub asked_next : Asked
    asked_next = asked_at variables true_calls x

    pub next_asked : slice_get (asked_list a.input (frame_work a pic.samples f)) count ≡ Some asked_next
    next_asked =
        ap (λ (l : List Asked). slice_get l count) (sym (all_asked a pic.samples w (are_samples a pic w h) f.function fr.place.below f.stage fr.stage f.at.items fr.place.indices))
        ∙ get_map (asked_at variables true_calls) (sites_of_all a.input (frame_work a pic.samples f).terms) count x site_next

    pub next_askable : Askable a pic.samples w (are_samples a pic w h) f.function fr.place.below f.stage fr.stage f.at.items fr.place.indices asked_next
    next_askable = All-get (Askable a pic.samples w (are_samples a pic w h) f.function fr.place.below f.stage fr.stage f.at.items fr.place.indices) (asked_list a.input (frame_work a pic.samples f)) count asked_next next_asked
        (all_askable a pic.samples w (are_samples a pic w h) f.function fr.place.below f.stage fr.stage f.at.items fr.place.indices)

    pub next_numbers : numbers_of variables recorded_calls x.at ≡ numbers_of variables true_calls x.at
    next_numbers = site_same a pic.samples w (are_samples a pic w h) f.function fr.place.below f.stage fr.stage f.at.items fr.place.indices pic h.extents refl count x site_next

    -- a function of its name stands among those that may be called
    pub next_named : NoneBefore a (callees_at f.stage f.function) x.name → ⊥
    next_named none =
        let other = filter_true (λ (c : Asked). is_other a.input c.name) _ count asked_next next_asked in
        let test : same_name a.input x.name ≡ false = not_true (same_name a.input x.name) other in
        let nothing = callable_alone a (callees_at f.stage f.function) x.name callees_few none ∙ callable_none a x.name test in
        false≢true (subst (λ (o : Option (Ty × ℕ)). IsSome o) nothing site_typed.known)

  pub all_few : length f.calls.items ≤ count → length (asked_list a.input (frame_work a pic.samples f)) ≤ count
  all_few l =
      let sites : length f.calls.items ≡ length (asked_list a.input (frame_work a pic.samples f)) =
      sym (length-map f.calls.items site_of) ∙ ap length fr.sites
      ∙ sym (length-map (sites_of_all a.input (frame_work a pic.samples f).terms) (asked_at variables true_calls))
      ∙ ap length (all_asked a pic.samples w (are_samples a pic w h) f.function fr.place.below f.stage fr.stage f.at.items fr.place.indices) in
      omega (arith, sites)

  -- where all calls are answered
  pub all_numbers : length f.calls.items ≤ count → numbers_of variables recorded_calls (frame_work a pic.samples f).terms ≡ numbers_of variables true_calls (frame_work a pic.samples f).terms
  all_numbers l = terms_same a pic.samples w (are_samples a pic w h) f.function fr.place.below f.stage fr.stage f.at.items fr.place.indices pic h.extents refl count (all_few l)

-- ---- the scope of a frame

module _ (algo : Algo) (inputs : Inputs) (f : Frame) (s : Scope) (sc : IsScopeOf algo inputs f s) where
  abbrev pub named_in : Scope → List ℕ → Bool
  named_in s = is_among (map bound_name s.bindings.now)

  abbrev pub functions_in : Scope → List ℕ → Option (Ty × ℕ)
  functions_in s = callable (algorithm_of s.algo.now) (take s.callees (algorithm_of s.algo.now).functions)

  pub same_functions : functions_in s ≡ callable (algorithm_of algo) (take (callees_at f.stage f.function) (algorithm_of algo).functions)
  same_functions i = callable (algorithm_of (sc.algo i)) (take (sc.callees i) (algorithm_of (sc.algo i)).functions)

  module _ (w : IsAlgorithm (algorithm_of algo)) (h : IsFor algo inputs) (fr : IsFrame (algorithm_of algo) (samples_of inputs) f) where
    pub same_names : named_in s ≡ is_among (frame_work (algorithm_of algo) (samples_of inputs) f).names
    same_names = (λ i. is_among (map bound_name (sc.bindings i))) ∙ ap is_among fr.names

    pub same_variables : scope_variables s ≡ variables (algorithm_of algo) w (picture_of inputs) h f fr
    same_variables = (λ i. bound (map bound_name (sc.bindings i)) (map bound_number (sc.bindings i))) ∙ (λ i. bound (fr.names i) (fr.numbers i))

    pub same_answers : scope_answers s ≡ recorded_calls (algorithm_of algo) w (picture_of inputs) h f fr
    same_answers =
        (λ i. typed_answers (same_functions i) (answered (algorithm_of (sc.algo i)) (picture_of (sc.inputs i)) (map entry_of (sc.answers i))))
        ∙ (λ i. typed_answers (callable (algorithm_of algo) (take (callees_at f.stage f.function) (algorithm_of algo).functions)) (answered (algorithm_of algo) (picture_of inputs) (fr.answers i)))

    pub site_evaluates : (x : Site) → slice_get (map site_of f.calls.items) (length f.answers.items) ≡ Some x → CanEvaluateAll s x.at
    site_evaluates x e =
        let t = site_typed (algorithm_of algo) w (picture_of inputs) h f fr x e in
        record { typed = (λ i. are_indices (same_names i) (same_functions i) x.at) ∙ t.typed; few = t.few }

    pub site_numbers : (x : Site) (e : slice_get (map site_of f.calls.items) (length f.answers.items) ≡ Some x) → numbers_of (scope_variables s) (scope_answers s) x.at ≡ (asked_next (algorithm_of algo) w (picture_of inputs) h f fr x e).at
    site_numbers x e = (λ i. numbers_of (same_variables i) (same_answers i) x.at) ∙ next_numbers (algorithm_of algo) w (picture_of inputs) h f fr x e
