-- At a store of a pure definition the checker's bounds of an index are those that are known of it where the definition's calls are bounded.
use Rattle.std.proofs.Common.{◌≡◌, ℕ, zero, suc, ◌-◌, ◌<◌, ◌≤◌, ◌^◌, Bool, true, false, ◌&&◌, ◌||◌, List, [], ◌∷◌, ◌++◌, length, map, Option, Some, refl, sym, ap, ◌∙◌, arith}
use Rattle.std.proofs.Common.{append_assoc, append-nil}
use Rattle.std.specs.Prelude.{◌+ℤ◌, replicate, ℤ, pos, negsuc, ◌≤ℤ◌, ◌==◌, if◌then◌else◌, is_some, slice_get}
use Rattle.std.specs.List.{AllByRecursion, list_all}
use Rattle.std.specs.Int.RustNames.{unsigned_abs}
use Rattle.std.proofs.lemmas.Int.{ints}
use Rattle.std.proofs.lemmas.List.{length-append}
use Rattle.numeric.specs.declared.ty.Ty.{Ty}
use Rattle.numeric.specs.declared.ty.Ty.TheVariants.{I32}
use Rattle.numeric.specs.Wrap.{least, greatest}
use Rattle.tree.specs.Term.{Term, Number, Name, Call, Minus, Binary, Clamp, Cast, Choice, Terms, End, More, Test, Compares, Fails, Both, Either}
use Rattle.tree.specs.Uses.{EachCall, EachCallOfTest, EachCallOfAll}
use Rattle.tree.specs.Substitution.{with_calls, test_with_calls, all_with_calls}
use Rattle.tree.specs.Typing.{type_of, is_index, are_indices, index_count}
use Rattle.lin.specs.Forms.{number}
use Rattle.lin.specs.Regions.{span_inside}
use Rattle.lin.specs.Search.{at_most}
use Rattle.lin.specs.declared.scope.Binding.{Binding}
use Rattle.lin.specs.declared.scope.Binding.TheVariants.{Loop as LoopBinding, LetMin, LetMax}
use Rattle.lin.specs.declared.span.Span1.{Span1}
use Rattle.bounds.specs.Interval.{interval}
use Rattle.bounds.proofs.ListSound.{all-append}
use Rattle.plan.specs.Plan.{Index, At, Found, Coordinate, Plan}
use Rattle.plan.specs.Certificate.Certificate.{Certificate}
use Rattle.meaning.specs.Algorithm.{Function, Algorithm}
use Rattle.meaning.specs.Names.{same_name, is_among}
use Rattle.meaning.specs.Conditions.{callable, function_named}
use Rattle.meaning.proofs.InliningTyped.{both_true, index-is}
use Rattle.soundness.specs.Origins.{Outline}
use Rattle.soundness.specs.Obligations.{Binder, Known, Rules, Obligation, anything, exactly}
use Rattle.soundness.specs.Obligations.{load_obligations, loads, loads_of_test, loads_of_all, intervals, index_span, variable_span, target_span}
use Rattle.soundness.specs.Shown.{Nests, is_shown, is_within, are_within}
use Rattle.soundness.specs.Binders.View.{grid_span}
use Rattle.rules.specs.Bounding.Called.{called}
use Rattle.rules.specs.Bounding.Scopes.{scope_of}
use Rattle.rules.specs.Bounding.Rules.{is_index_span, or_anything, is_bounded_in, rules_of}
use Rattle.blocks.proofs.Laying.{bound, same}
use Rattle.sched.specs.Standing.{counted_from, alone}
use Rattle.sched.specs.declared.skeleton.Step.{Step}
use Rattle.sched.specs.declared.skeleton.Step.TheVariants.{Turns, Named, Tested}
use Rattle.plan.specs.declared.stmt.Pick.TheVariants.{Min, Max}
use Rattle.sched.specs.Called.{function_call, input_call, or_input, called as called_there}
use Rattle.sched.specs.Around.{AroundText, anything as anywhere, skip_to, bind, bind_steps, interval_in}
use Rattle.blocks.specs.Bounded.{is_on_input}
use Rattle.regions.specs.Taken.{add_spans}
use Rattle.sched.specs.Loading.{Loads, loaded_name, as_load}
use Rattle.completeness.proofs.LoadedTerms.{Same, type_same, interval_same}
use Rattle.completeness.proofs.Searched.{symbol_over, symbol_below, counted_over, counted_under}

-- ---- what can be called

abbrev One : Algorithm → List Function → List ℕ → Option (Ty × ℕ)
One a fs x = or_input (function_call (function_named fs x)) (input_call a x)

called_one : (a : Algorithm) (fs : List Function) (x : List ℕ) → One a fs x ≡ callable a fs x
called_one a [] x = refl
called_one a (f ∷ fs) x = of (same_name f.name x) (called_one a fs x)
  where
    of : (b : Bool) → One a fs x ≡ callable a fs x →
        or_input (function_call (elim b [ true ↦ Some f | false ↦ function_named fs x ])) (input_call a x) ≡ elim b [ true ↦ Some (f.ty, length f.variables) | false ↦ callable a fs x ]
    of true h = refl
    of false h = h

pub called_is : (a : Algorithm) → called_there a ≡ callable a a.functions
called_is a = λ i x. called_one a a.functions x i

-- ---- coordinates by forms alone

abbrev pub IsAt : Index → Type 0
IsAt (At l) = Unit {0}
IsAt (Found e) = ⊥

abbrev pub AreAt : List Coordinate → Type 0
AreAt cs = AllByRecursion (λ c. IsAt c.index) cs

module _ (O : Outline) (R : Rules) where
  pub targets_are : (known : Known) (names : List (List ℕ)) (left : List Span1) (cs : List Coordinate) → AreAt cs → map (target_span O R known names left) cs ≡ map (variable_span O R) cs
  targets_are known names left [] h = refl
  targets_are known names left (c ∷ cs) h = (let here = of c.index h.0 in let rest = targets_are known names left cs h.1 in λ i. here i ∷ rest i)
    where
      of : (x : Index) → IsAt x → target_span O R known names left (record { variable = c.variable; index = x }) ≡ index_span O R x
      of (At l) k = refl
      of (Found e) k = absurd k

-- ---- a loop's symbol is a number of 32 bits

-- the span of a loop over these numbers
pub symbol_inside : (scope : List Binding) (i : ℕ) (x : Span1) (low last : ℤ) → i < length scope → slice_get scope i ≡ Some (LoopBinding x) → x.lower ≡ number low ∷ [] →
    x.upper ≡ number last ∷ [] → negsuc 2147483647 ≤ℤ low → low ≤ℤ pos 2147483647 → last ≤ℤ pos 2147483647 → unsigned_abs last ≤ 2 ^ 38 →
    is_index_span scope (exactly (alone i)) ≡ true
symbol_inside scope i x low last less there lower upper from to ends near =
    let one_near : unsigned_abs (negsuc 2147483647) ≤ 2 ^ 38 = omega (arith, ints) in
    let two_near : unsigned_abs (pos 2147483647) ≤ 2 ^ 38 = omega (arith, ints) in
    let above : at_most scope (number (least I32)) (alone i) ≡ true = symbol_over scope i x less there (negsuc 2147483647) low lower from one_near (omega (arith, ints, from, to)) in
    let below : at_most scope (alone i) (number (greatest I32)) ≡ true = symbol_below scope i x less there last (pos 2147483647) upper ends near two_near in
    λ k. ((above k || false) && true) && ((below k || false) && true)

-- so is one of the grid with a number before it
pub counted_inside : (scope : List Binding) (i : ℕ) (x : Span1) (low first last : ℤ) → i < length scope → slice_get scope i ≡ Some (LoopBinding x) → x.lower ≡ number first ∷ [] →
    x.upper ≡ number last ∷ [] → negsuc 2147483647 ≤ℤ (low +ℤ first) → (low +ℤ last) ≤ℤ pos 2147483647 → unsigned_abs low ≤ 2 ^ 38 → unsigned_abs first ≤ 2 ^ 38 →
    unsigned_abs last ≤ 2 ^ 38 → is_index_span scope (exactly (counted_from low i)) ≡ true
counted_inside scope i x low first last less there lower upper from to near first_near last_near =
    let one_near : unsigned_abs (negsuc 2147483647) ≤ 2 ^ 38 = omega (arith, ints) in
    let two_near : unsigned_abs (pos 2147483647) ≤ 2 ^ 38 = omega (arith, ints) in
    let above : at_most scope (number (least I32)) (counted_from low i) ≡ true = counted_over scope i x less there (negsuc 2147483647) low first lower from one_near near first_near in
    let below : at_most scope (counted_from low i) (number (greatest I32)) ≡ true = counted_under scope i x less there low last (pos 2147483647) upper to near last_near two_near in
    λ k. ((above k || false) && true) && ((below k || false) && true)

-- ---- what is known first stays

get_kept : {A : Type 0} (xs ys : List A) (i : ℕ) → i < length xs → slice_get (xs ++ ys) i ≡ slice_get xs i
get_kept [] ys i less = absurd (omega (arith, less))
get_kept (x ∷ xs) ys zero less = refl
get_kept (x ∷ xs) ys (suc i) less = get_kept xs ys i (omega (arith, less))

bind_keeps : (scope : List Binding) (s : ℕ) (b : Binding) (i : ℕ) → i < length scope → (slice_get (bind scope s b) i ≡ slice_get scope i) × (i < length (bind scope s b))
bind_keeps scope s b i less =
    let more = length-append scope (replicate (s - length scope) (LoopBinding anywhere)) in
    let all = length-append (skip_to scope s) (b ∷ []) in
    let within : i < length (skip_to scope s) = omega (arith, less, more) in
    (get_kept (skip_to scope s) (b ∷ []) i within ∙ get_kept scope (replicate (s - length scope) (LoopBinding anywhere)) i less, omega (arith, within, all))

pub steps_keep : (scope : List Binding) (ts : List Step) (i : ℕ) → i < length scope → slice_get (bind_steps scope ts) i ≡ slice_get scope i
steps_keep scope [] i less = refl
steps_keep scope (Turns s x kind ∷ ts) i less = (let k = bind_keeps scope s (LoopBinding x) i less in steps_keep (bind scope s (LoopBinding x)) ts i k.1 ∙ k.0)
steps_keep scope (Named s Min fs ∷ ts) i less = (let k = bind_keeps scope s (LetMin fs) i less in steps_keep (bind scope s (LetMin fs)) ts i k.1 ∙ k.0)
steps_keep scope (Named s Max fs ∷ ts) i less = (let k = bind_keeps scope s (LetMax fs) i less in steps_keep (bind scope s (LetMax fs)) ts i k.1 ∙ k.0)
steps_keep scope (Tested low high ∷ ts) i less = steps_keep scope ts i less

-- ---- the bounds of an index

module _ (a : Algorithm) (p : Plan) (c : Certificate) (n : ℕ) (O : Outline) (bs : List Binder) (names : List (List ℕ)) (vars : List Span1) (r : AroundText) (scope_is : scope_of bs ≡ r.scope)
    (names_are : names ≡ r.variables) (vars_are : vars ≡ r.coordinates) (inside : list_all (is_index_span (scope_of bs)) vars ≡ true) (long : (length names == length vars) ≡ true) (ms : Loads) where
  abbrev R : Rules
  R = rules_of a p c n

  abbrev pub IsSame : List ℕ → Terms → Type 0
  IsSame = Same (called a p c) (callable a a.functions) ms

  pub index_bounds : (e : Term) → EachCall IsSame e → type_of (is_among names) (callable a a.functions) e ≡ Some I32 → (s : Span1) → interval_in a r e ≡ Some s →
      R.interval bs names vars (with_calls (as_load ms) e) ≡ s
  index_bounds e h t s is =
      let f = with_calls (as_load ms) e in
      let F = called a p c in
      let G = callable a a.functions in
      let typed : is_some (type_of (is_among names) F f) ≡ true = ap is_some (type_same F G ms (is_among names) e h ∙ t) in
      let bounded : is_bounded_in a p c (scope_of bs) names vars f ≡ true = λ i. inside i && (long i && typed i) in
      let told : interval (scope_of bs) F names vars f ≡ Some s =
      interval_same F G ms (scope_of bs) names vars e h ∙ (λ i. interval (scope_is i) (sym (called_is a) i) (names_are i) (vars_are i) e) ∙ is in
      ap (λ (b : Bool). if b then or_anything (interval (scope_of bs) F names vars f) else anything) bounded ∙ ap or_anything told

  pub intervals_long : (at : Terms) → length (intervals O R bs names vars (all_with_calls (as_load ms) at)) ≡ index_count at
  intervals_long End = refl
  intervals_long (More e es) = (let rest = intervals_long es in omega (arith, rest))

  -- of all indices of a call
  pub spans_same : (at : Terms) (before out : List Span1) → add_spans a r at before ≡ Some out → EachCallOfAll IsSame at → are_indices (is_among names) (callable a a.functions) at ≡ true →
      before ++ intervals O R bs names vars (all_with_calls (as_load ms) at) ≡ out
  spans_same End before out h k t = append-nil before ∙ same before out h
  spans_same (More e es) before out h k t =
      let y = both_true (is_index (type_of (is_among names) (callable a a.functions) e)) (are_indices (is_among names) (callable a a.functions) es) t in
      let b = bound (interval_in a r e) (λ s. add_spans a r es (before ++ s ∷ [])) out h in
      let here = index_bounds e k.0 (index-is (type_of (is_among names) (callable a a.functions) e) y.0) b.value b.is in
      let rest = intervals O R bs names vars (all_with_calls (as_load ms) es) in
      ap (λ (s : Span1). before ++ s ∷ rest) here ∙ sym (append_assoc before (b.value ∷ []) rest) ∙ spans_same es (before ++ b.value ∷ []) out b.comes k.1 y.1

  -- of a call of the input
  pub input_within : (at : Terms) (ns : List ℕ) → is_on_input a r at ns ≡ Some true → index_count at ≡ length ns → EachCallOfAll IsSame at →
      are_indices (is_among names) (callable a a.functions) at ≡ true → are_within R bs (intervals O R bs names vars (all_with_calls (as_load ms) at)) (map grid_span ns) ≡ true
  input_within End [] h count k t = refl
  input_within End (m ∷ ns) h count k t = absurd (omega (arith, count))
  input_within (More e es) [] h count k t = absurd (omega (arith, count))
  input_within (More e es) (m ∷ ns) h count k t =
      let y = both_true (is_index (type_of (is_among names) (callable a a.functions) e)) (are_indices (is_among names) (callable a a.functions) es) t in
      let test : Span1 → Option Bool = λ s. if span_inside r.scope s (grid_span m) then is_on_input a r es ns else Some false in
      let b = bound (interval_in a r e) test true h in
      let o = of b.value (span_inside r.scope b.value (grid_span m)) refl b.comes in
      let here : is_within R bs (R.interval bs names vars (with_calls (as_load ms) e)) (grid_span m) ≡ true =
      (λ i. span_inside (scope_is i) (index_bounds e k.0 (index-is (type_of (is_among names) (callable a a.functions) e) y.0) b.value b.is i) (grid_span m)) ∙ o.0 in
      let rest = input_within es ns o.1 (omega (arith, count)) k.1 y.1 in
      λ i. here i && rest i
    where
      of : (s : Span1) (v : Bool) → span_inside r.scope s (grid_span m) ≡ v → (if v then is_on_input a r es ns else Some false) ≡ Some true →
          (span_inside r.scope s (grid_span m) ≡ true) × (is_on_input a r es ns ≡ Some true)
      of s true e q = (e, q)
      of s false e q = absurd (cc q)

-- ---- what the loads of an expression owe

module _ (O : Outline) (R : Rules) (nests : Nests) (T : Obligation → Type 0) where
  -- what is wanted of this kind is shown
  abbrev pub Shows : List Obligation → Type 0
  Shows os = AllByRecursion (λ o. T o → is_shown R nests o ≡ true) os

  shows_both : (xs ys : List Obligation) → Shows xs → Shows ys → Shows (xs ++ ys)
  shows_both xs ys h k = all-append (λ o. T o → is_shown R nests o ≡ true) xs ys h k

  module _ (line : ℕ) (known : Known) (may : ℕ → Bool) (meets : ℕ → List (List Span1)) (names : List (List ℕ)) (vars : List Span1) (ms : Loads) where
    abbrev These : Term → List Obligation
    These e = loads O R line known may meets names vars (with_calls (as_load ms) e)

    abbrev TheseOf : Test → List Obligation
    TheseOf c = loads_of_test O R line known may meets names vars (test_with_calls (as_load ms) c)

    -- so it is of a call
    abbrev pub CallShows : List ℕ → Terms → Type 0
    CallShows x at =
        Shows (load_obligations O R line known may meets (O.source (loaded_name ms x)) (intervals O R known.binders names vars (all_with_calls (as_load ms) at)))

    mutual
      pub term_shows : (e : Term) → EachCall CallShows e → Shows (These e)
      term_shows (Number t n) h = tt
      term_shows (Name x) h = tt
      term_shows (Call x at) h =
          let inner = all_with_calls (as_load ms) at in
          shows_both (loads_of_all O R line known may meets names vars inner)
          (load_obligations O R line known may meets (O.source (loaded_name ms x)) (intervals O R known.binders names vars inner)) (all_show at h.1) h.0
      term_shows (Minus a) h = term_shows a h
      term_shows (Binary op a b) h = shows_both (These a) (These b) (term_shows a h.0) (term_shows b h.1)
      term_shows (Clamp a l u) h = shows_both (These a) (These l ++ These u) (term_shows a h.0) (shows_both (These l) (These u) (term_shows l h.1) (term_shows u h.2))
      term_shows (Cast t a) h = term_shows a h
      term_shows (Choice c a b) h = shows_both (TheseOf c) (These a ++ These b) (test_shows c h.0) (shows_both (These a) (These b) (term_shows a h.1) (term_shows b h.2))

      test_shows : (c : Test) → EachCallOfTest CallShows c → Shows (TheseOf c)
      test_shows (Compares by a b) h = shows_both (These a) (These b) (term_shows a h.0) (term_shows b h.1)
      test_shows (Fails c) h = test_shows c h
      test_shows (Both c d) h = shows_both (TheseOf c) (TheseOf d) (test_shows c h.0) (test_shows d h.1)
      test_shows (Either c d) h = shows_both (TheseOf c) (TheseOf d) (test_shows c h.0) (test_shows d h.1)

      all_show : (at : Terms) → EachCallOfAll CallShows at → Shows (loads_of_all O R line known may meets names vars (all_with_calls (as_load ms) at))
      all_show End h = tt
      all_show (More a rest) h = shows_both (These a) (loads_of_all O R line known may meets names vars (all_with_calls (as_load ms) rest)) (term_shows a h.0) (all_show rest h.1)
