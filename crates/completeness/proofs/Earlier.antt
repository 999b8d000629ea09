-- What a stored function calls is the input, the function itself, or a stored function before it.
use Rattle.std.proofs.Common.{◌≡◌, ℕ, zero, suc, ◌+◌, ◌<◌, ◌≤◌, Bool, true, false, ◌&&◌, ◌||◌, not, List, [], ◌∷◌, ◌++◌, map, Option, Some, None, refl, sym, ap, ◌∙◌, subst, inl, inr, ◌⊎◌}
use Rattle.std.proofs.Common.{arith}
use Rattle.std.specs.Prelude.{◌-◌, if◌then◌else◌, slice_get}
use Rattle.std.specs.List.{AllByRecursion, flat_map}
use Rattle.tree.specs.Term.{Term, Number, Name, Call, Minus, Binary, Clamp, Cast, Choice, Terms, End, More, Test, Compares, Fails, Both, Either}
use Rattle.tree.specs.Uses.{EachCall, EachCallOfTest, EachCallOfAll}
use Rattle.tree.specs.Substitution.{put_in as put_in_name, substituted, test_substituted, all_substituted, with_calls}
use Rattle.meaning.specs.Algorithm.{Change, Function, Algorithm}
use Rattle.meaning.specs.Names.{same_name}
use Rattle.meaning.specs.Conditions.{IsAlgorithm, is_variable}
use Rattle.meaning.specs.Functions.{GoesBack}
use Rattle.meaning.specs.Inlining.PutIn.{Replacement, index_for, with_definition, with_definitions, put_in, calls_updates}
use Rattle.meaning.proofs.Alone.{each_call, all_at}
use Rattle.meaning.proofs.Back.{pure_goes_back, left_goes_back, right_goes_back}
use Rattle.meaning.proofs.Stays.{IsDone, done}
use Rattle.soundness.proofs.Refines.{name_true}
use Rattle.algo.specs.Scoping.Standing.{Written, calls_of, calls_of_test, calls_of_all}
use Rattle.sched.specs.Schedule.{Schedule}
use Rattle.sched.specs.Subjects.{subject_said}
use Rattle.sched.specs.Legal.{said, loops_after}
use Rattle.sched.specs.Standing.{◌>>=◌}
use Rattle.sched.specs.Stored.{FormulaText, StoredText, calls_left, calls_in, are_calls_of}
use Rattle.regions.specs.Stored.{some_calls}
use Rattle.blocks.specs.Stored.{is_small, put, left_put, lefts_put, pure_put, change_put, changes_put, formulas_put}
use Rattle.blocks.specs.Stored.{stored_by, stored_among, flags}
use Rattle.lower.specs.Stored.{stored_functions}
use Rattle.blocks.proofs.Laying.{bound, same}
use Rattle.completeness.proofs.Laid.{subjects}

-- ---- calls that are kept by putting in

module _ (P : List ℕ → Type 0) where
  abbrev Stays : Term → Type 0
  Stays e = EachCall (λ name at. P name) e

  abbrev StayAll : Terms → Type 0
  StayAll at = EachCallOfAll (λ name at. P name) at

  named_stays : (o : Option Term) (name : List ℕ) → ((u : Term) → o ≡ Some u → Stays u) → Stays (put_in_name o name)
  named_stays None name h = tt
  named_stays (Some u) name h = h u refl

  module _ (to : List ℕ → Option Term) (stays : (name : List ℕ) (u : Term) → to name ≡ Some u → Stays u) where
    mutual
      substituted_stays : (e : Term) → Stays e → Stays (substituted to e)
      substituted_stays (Number u n) h = tt
      substituted_stays (Name name) h = named_stays (to name) name (stays name)
      substituted_stays (Call name at) h = (h.0, all_stays at h.1)
      substituted_stays (Minus a) h = substituted_stays a h
      substituted_stays (Binary op a b) h = (substituted_stays a h.0, substituted_stays b h.1)
      substituted_stays (Clamp a l u) h = (substituted_stays a h.0, substituted_stays l h.1, substituted_stays u h.2)
      substituted_stays (Cast t a) h = substituted_stays a h
      substituted_stays (Choice c a b) h = (test_stays c h.0, substituted_stays a h.1, substituted_stays b h.2)

      test_stays : (c : Test) → EachCallOfTest (λ name at. P name) c → EachCallOfTest (λ name at. P name) (test_substituted to c)
      test_stays (Compares by a b) h = (substituted_stays a h.0, substituted_stays b h.1)
      test_stays (Fails c) h = test_stays c h
      test_stays (Both c d) h = (test_stays c h.0, test_stays d h.1)
      test_stays (Either c d) h = (test_stays c h.0, test_stays d h.1)

      all_stays : (at : Terms) → StayAll at → StayAll (all_substituted to at)
      all_stays End h = tt
      all_stays (More a rest) h = (substituted_stays a h.0, all_stays rest h.1)

  index_stays : (names : List (List ℕ)) (at : Terms) (name : List ℕ) (u : Term) → StayAll at → index_for names at name ≡ Some u → Stays u
  index_stays [] End name u h e = absurd (cc e)
  index_stays [] (More a rest) name u h e = absurd (cc e)
  index_stays (x ∷ xs) End name u h e = absurd (cc e)
  index_stays (x ∷ xs) (More a rest) name u h e = of (same_name x name) e (index_stays xs rest name u h.1)
    where
      of : (b : Bool) → elim b [ true ↦ Some a | false ↦ index_for xs rest name ] ≡ Some u → (index_for xs rest name ≡ Some u → Stays u) → Stays u
      of true q later = subst (λ (v : Term). Stays v) (same a u q) h.0
      of false q later = later q

  -- the calls of an expression, one by one
  join : (xs ys : List Written) → AllByRecursion (λ c. P c.name) xs → AllByRecursion (λ c. P c.name) ys → AllByRecursion (λ c. P c.name) (xs ++ ys)
  join [] ys a b = b
  join (x ∷ xs) ys a b = (a.0, join xs ys a.1 b)

  mutual
    all_calls : (e : Term) → Stays e → AllByRecursion (λ c. P c.name) (calls_of e)
    all_calls (Number t n) h = tt
    all_calls (Name name) h = tt
    all_calls (Call name at) h = (h.0, indices_calls at h.1)
    all_calls (Minus a) h = all_calls a h
    all_calls (Binary op a b) h = join (calls_of a) (calls_of b) (all_calls a h.0) (all_calls b h.1)
    all_calls (Clamp a l u) h = join (calls_of a ++ calls_of l) (calls_of u) (join (calls_of a) (calls_of l) (all_calls a h.0) (all_calls l h.1)) (all_calls u h.2)
    all_calls (Cast t a) h = all_calls a h
    all_calls (Choice c a b) h = join (calls_of_test c ++ calls_of a) (calls_of b) (join (calls_of_test c) (calls_of a) (test_calls c h.0) (all_calls a h.1)) (all_calls b h.2)

    test_calls : (c : Test) → EachCallOfTest (λ name at. P name) c → AllByRecursion (λ c. P c.name) (calls_of_test c)
    test_calls (Compares by a b) h = join (calls_of a) (calls_of b) (all_calls a h.0) (all_calls b h.1)
    test_calls (Fails c) h = test_calls c h
    test_calls (Both c d) h = join (calls_of_test c) (calls_of_test d) (test_calls c h.0) (test_calls d h.1)
    test_calls (Either c d) h = join (calls_of_test c) (calls_of_test d) (test_calls c h.0) (test_calls d h.1)

    indices_calls : (at : Terms) → StayAll at → AllByRecursion (λ c. P c.name) (calls_of_all at)
    indices_calls End h = tt
    indices_calls (More a rest) h = join (calls_of a) (calls_of_all rest) (all_calls a h.0) (indices_calls rest h.1)

-- ---- functions, in the order of declaration

module _ (a : Algorithm) (is : IsAlgorithm a) (k : ℕ) where
  abbrev Back : List ℕ → Type 0
  Back name = GoesBack a k name

  -- a name that goes back is that of a function before, where it is a function's
  pub before : (i : ℕ) (f : Function) (name : List ℕ) → slice_get a.functions i ≡ Some f → f.name ≡ name → Back name → i < k
  before i f name at e (inl input) =
      let there : slice_get (a.input ∷ map (λ f. f.name) a.functions) (suc i) ≡ Some a.input = named_at a.functions i f at ∙ ap (λ (x : List ℕ). Some x) (e ∙ input) in
      let clash : suc i ≡ 0 = is.names (suc i) 0 a.input there refl in
      absurd (omega (arith, clash))
    where
      named_at : (fs : List Function) (i : ℕ) (f : Function) → slice_get fs i ≡ Some f → slice_get (map (λ f. f.name) fs) i ≡ Some f.name
      named_at [] i f q = absurd (cc q)
      named_at (g ∷ fs) zero f q = let one : g ≡ f = cc q in ap (λ (u : Function). Some u.name) one
      named_at (g ∷ fs) (suc i) f q = named_at fs i f q
  before i f name at e (inr back) =
      let one : slice_get (a.input ∷ map (λ f. f.name) a.functions) (suc i) ≡ Some name = named_at a.functions i f at ∙ ap (λ (x : List ℕ). Some x) e in
      let two : slice_get (a.input ∷ map (λ f. f.name) a.functions) (suc back.0) ≡ Some name = named_at a.functions back.0 back.1 back.3 ∙ ap (λ (x : List ℕ). Some x) back.4 in
      let here : suc i ≡ suc back.0 = is.names (suc i) (suc back.0) name one two in
      let less = back.2 in
      omega (arith, here, less)
    where
      named_at : (fs : List Function) (i : ℕ) (f : Function) → slice_get fs i ≡ Some f → slice_get (map (λ f. f.name) fs) i ≡ Some f.name
      named_at [] i f q = absurd (cc q)
      named_at (g ∷ fs) zero f q = let one : g ≡ f = cc q in ap (λ (u : Function). Some u.name) one
      named_at (g ∷ fs) (suc i) f q = named_at fs i f q

  weaker : (i : ℕ) (name : List ℕ) → i ≤ k → GoesBack a i name → Back name
  weaker i name le (inl input) = inl input
  weaker i name le (inr back) = let less = back.2 in inr (back.0, back.1, omega (arith, less, le), back.3, back.4)

  -- from the function of this number on, what stands for a call that goes back has calls that do
  pub ready_on : (r : Replacement) (fs : List Function) (stored : List Bool) (i : ℕ) → ((j : ℕ) (f : Function) → slice_get fs j ≡ Some f → slice_get a.functions (i + j) ≡ Some f) →
      ((name : List ℕ) → Back name → IsDone Back r name) → (name : List ℕ) → Back name → IsDone Back (with_definitions r fs stored) name
  ready_on r [] stored i at ready = ready
  ready_on r (f ∷ fs) [] i at ready = ready
  ready_on r (f ∷ fs) (true ∷ stored) i at ready = ready_on r fs stored (i + 1) (λ j g e. let next : (i + 1) + j ≡ i + suc j = omega arith in ap (slice_get a.functions) next ∙ at (suc j) g e) ready
  ready_on r (f ∷ fs) (false ∷ stored) i at ready =
      ready_on (with_definition r f) fs stored (i + 1) (λ j g e. let next : (i + 1) + j ≡ i + suc j = omega arith in ap (slice_get a.functions) next ∙ at (suc j) g e) one
    where
      here : slice_get a.functions i ≡ Some f
      here = (let none : i + 0 ≡ i = omega arith in ap (slice_get a.functions) (sym none)) ∙ at 0 f refl

      one : (name : List ℕ) → Back name → IsDone Back (with_definition r f) name
      one name back at stay = of (same_name f.name name) refl
        where
          of : (b : Bool) → same_name f.name name ≡ b → EachCall (λ name at. Back name) (elim b [ true ↦ substituted (index_for f.variables at) (with_calls r f.value) | false ↦ r name at ])
          of true e =
              let less = before i f name here (name_true f.name name e) back in
              let calls = each_call (λ name at. GoesBack a i name) (λ name at. IsDone Back r name) (λ name at h. ready name (weaker i name (omega (arith, less)) h)) f.value
              (pure_goes_back a i f is here) in
              substituted_stays Back (index_for f.variables at) (λ m u. index_stays Back f.variables at m u stay) (with_calls r f.value) (done Back r f.value calls)
          of false e = ready name back at stay

  pub put_back : (stored : List Bool) (e : Term) → EachCall (λ name at. Back name) e → EachCall (λ name at. Back name) (put_in a stored e)
  put_back stored e h =
      done Back (with_definitions Call a.functions stored) e
      (each_call (λ name at. Back name) (λ name at. IsDone Back (with_definitions Call a.functions stored) name)
      (λ name at back. ready_on Call a.functions stored 0 (λ j f q. let none : 0 + j ≡ j = omega arith in ap (slice_get a.functions) none ∙ q) (λ name back at stay. (back, stay)) name back) e h)

  abbrev CallsBack : List Written → Type 0
  CallsBack cs = AllByRecursion (λ c. Back c.name) cs

  some_put : (stored : List Bool) (e u : Term) → EachCall (λ name at. Back name) e → put a stored e ≡ Some u → CallsBack (calls_of u)
  some_put stored e u h q = of (not (calls_updates a stored e) && is_small (put_in a stored e)) q
    where
      of : (b : Bool) → (if b then Some (put_in a stored e) else None) ≡ Some u → CallsBack (calls_of u)
      of true k = subst (λ (t : Term). CallsBack (calls_of t)) (same (put_in a stored e) u k) (all_calls Back (put_in a stored e) (put_back stored e h))
      of false k = absurd (cc k)

  lefts_back : (stored : List Bool) (xs : List (List ℕ)) (es : List Term) (os : List (Option Term)) → AllByRecursion (EachCall (λ name at. Back name)) es → lefts_put a stored xs es ≡ Some os →
      CallsBack (flat_map calls_left os)
  lefts_back stored [] es os h q = subst (λ (w : List (Option Term)). CallsBack (flat_map calls_left w)) (same [] os q) tt
  lefts_back stored (x ∷ xs) [] os h q = subst (λ (w : List (Option Term)). CallsBack (flat_map calls_left w)) (same [] os q) tt
  lefts_back stored (x ∷ xs) (e ∷ es) os h q =
      let b = bound (left_put a stored x e) (λ o. lefts_put a stored xs es >>= λ rest. Some (o ∷ rest)) os q in
      let c = bound (lefts_put a stored xs es) (λ rest. Some (b.value ∷ rest)) os b.comes in
      subst (λ (w : List (Option Term)). CallsBack (flat_map calls_left w)) (same (b.value ∷ c.value) os c.comes)
      (join Back (calls_left b.value) (flat_map calls_left c.value) (left b.value (is_variable x e) b.is) (lefts_back stored xs es c.value h.1 c.is))
    where
      left : (o : Option Term) (v : Bool) → (if v then Some None else (put a stored e >>= λ i. Some (Some i))) ≡ Some o → CallsBack (calls_left o)
      left o true k = subst (λ (w : Option Term). CallsBack (calls_left w)) (same None o k) tt
      left o false k =
          let d = bound (put a stored e) (λ i. Some (Some i)) o k in
          subst (λ (w : Option Term). CallsBack (calls_left w)) (same (Some d.value) o d.comes) (some_put stored e d.value h.0 d.is)

  none_left : (xs : List (List ℕ)) → CallsBack (flat_map calls_left (map (λ x. None) xs))
  none_left [] = tt
  none_left (x ∷ xs) = none_left xs

  abbrev FormulaBack : FormulaText → Type 0
  FormulaBack f = CallsBack (calls_in f)

  changes_back : (stored : List Bool) (xs : List (List ℕ)) (us : List Change) (fs : List FormulaText) →
      AllByRecursion (λ u. AllByRecursion (EachCall (λ name at. Back name)) u.at × EachCall (λ name at. Back name) u.value) us → changes_put a stored xs us ≡ Some fs → AllByRecursion FormulaBack fs
  changes_back stored xs [] fs h q = subst (AllByRecursion FormulaBack) (same [] fs q) tt
  changes_back stored xs (u ∷ us) fs h q =
      let b = bound (change_put a stored xs u) (λ f. changes_put a stored xs us >>= λ rest. Some (f ∷ rest)) fs q in
      let c = bound (changes_put a stored xs us) (λ rest. Some (b.value ∷ rest)) fs b.comes in
      let d = bound (lefts_put a stored xs u.at) (λ at. put a stored u.value >>= λ v. Some (record { at = at; value = v })) b.value b.is in
      let e = bound (put a stored u.value) (λ v. Some (record { at = d.value; value = v })) b.value d.comes in
      let made : FormulaText = record { at = d.value; value = e.value } in
      subst (AllByRecursion FormulaBack) (same (b.value ∷ c.value) fs c.comes) (
        subst FormulaBack (same made b.value e.comes) (join Back (flat_map calls_left d.value) (calls_of e.value) (lefts_back stored xs u.at d.value h.0.0 d.is)
            (some_put stored u.value e.value h.0.1 e.is)),
        changes_back stored xs us c.value h.1 c.is,
      )

  pub formulas_back : (stored : List Bool) (xs : List (List ℕ)) (v : Term) (us : List Change) (fs : List FormulaText) → EachCall (λ name at. Back name) v →
      AllByRecursion (λ u. AllByRecursion (EachCall (λ name at. Back name)) u.at × EachCall (λ name at. Back name) u.value) us → formulas_put a stored xs v us ≡ Some fs → AllByRecursion FormulaBack fs
  formulas_back stored xs v us fs pure h q =
      let b = bound (pure_put a stored xs v) (λ f. changes_put a stored xs us >>= λ rest. Some (f ∷ rest)) fs q in
      let c = bound (changes_put a stored xs us) (λ rest. Some (b.value ∷ rest)) fs b.comes in
      let d = bound (put a stored v) (λ w. Some (record { at = map (λ x. None) xs; value = w })) b.value b.is in
      let made : FormulaText = record { at = map (λ x. None) xs; value = d.value } in
      subst (AllByRecursion FormulaBack) (same (b.value ∷ c.value) fs c.comes) (
        subst FormulaBack (same made b.value d.comes) (join Back (flat_map calls_left (map (λ x. None) xs)) (calls_of d.value) (none_left xs) (some_put stored v d.value pure d.is)),
        changes_back stored xs us c.value h c.is,
      )

-- ---- of a stored function

some_called : (P : List ℕ → Type 0) (x : List ℕ) (cs : List Written) → AllByRecursion (λ c. P c.name) cs → are_calls_of x cs ≡ true → P x
some_called P x [] a h = absurd (cc h)
some_called P x (c ∷ cs) a h = of (same_name c.name x) refl h (some_called P x cs a.1)
  where
    of : (b : Bool) → same_name c.name x ≡ b → (b || are_calls_of x cs) ≡ true → (are_calls_of x cs ≡ true → P x) → P x
    of true e k rest = subst P (name_true c.name x e) a.0
    of false e k rest = rest k

some_formula : (P : List ℕ → Type 0) (x : List ℕ) (fs : List FormulaText) → AllByRecursion (λ f. AllByRecursion (λ c. P c.name) (calls_in f)) fs → some_calls x fs ≡ true → P x
some_formula P x [] a h = absurd (cc h)
some_formula P x (f ∷ fs) a h = of (are_calls_of x (calls_in f)) refl h (some_formula P x fs a.1)
  where
    of : (b : Bool) → are_calls_of x (calls_in f) ≡ b → (b || some_calls x fs) ≡ true → (some_calls x fs ≡ true → P x) → P x
    of true e k rest = some_called P x (calls_in f) a.0 e
    of false e k rest = rest k

module _ (a : Algorithm) (s : Schedule) (is : IsAlgorithm a) where
  abbrev of_function : List Bool → Function → StoredText
  of_function stored f = stored_by a stored f.variables f.value f.changes (subject_said a s f) (loops_after (said s) f)

  abbrev among : List Bool → List Function → List StoredText
  among stored fs = stored_among a stored fs (map (subject_said a s) fs) (map (loops_after (said s)) fs)

  -- the place of a stored function among all
  abbrev place_of : List Function → ℕ → ℕ
  place_of [] n = 0
  place_of (f ∷ fs) zero = if (subject_said a s f).is_stored then 0 else suc (place_of fs zero)
  place_of (f ∷ fs) (suc n) = if (subject_said a s f).is_stored then suc (place_of fs n) else suc (place_of fs (suc n))

  record IsPlaced (stored : List Bool) (fs : List Function) (n : ℕ) (g : StoredText) : Type 0 where
    function : Function
    at : slice_get fs (place_of fs n) ≡ Some function
    made : g ≡ of_function stored function

  module _ (stored : List Bool) (g : StoredText) where
    placed : (fs : List Function) (n : ℕ) → slice_get (among stored fs) n ≡ Some g → IsPlaced stored fs n g
    placed [] n e = absurd (cc e)
    placed (f ∷ fs) zero e = of (subject_said a s f).is_stored refl e (placed fs zero)
      where
        of : (b : Bool) → (subject_said a s f).is_stored ≡ b → slice_get (if b then of_function stored f ∷ among stored fs else among stored fs) 0 ≡ Some g →
            (slice_get (among stored fs) 0 ≡ Some g → IsPlaced stored fs 0 g) → IsPlaced stored (f ∷ fs) 0 g
        of true t q rest =
            record { function = f; at = ap (λ (b : Bool). slice_get (f ∷ fs) (if b then 0 else suc (place_of fs 0))) t; made = sym (same (of_function stored f) g q) }
        of false t q rest =
            let r = rest q in
            record { function = r.function; at = ap (λ (b : Bool). slice_get (f ∷ fs) (if b then 0 else suc (place_of fs 0))) t ∙ r.at; made = r.made }
    placed (f ∷ fs) (suc n) e = of (subject_said a s f).is_stored refl e (placed fs n) (placed fs (suc n))
      where
        of : (b : Bool) → (subject_said a s f).is_stored ≡ b → slice_get (if b then of_function stored f ∷ among stored fs else among stored fs) (suc n) ≡ Some g →
            (slice_get (among stored fs) n ≡ Some g → IsPlaced stored fs n g) → (slice_get (among stored fs) (suc n) ≡ Some g → IsPlaced stored fs (suc n) g) → IsPlaced stored (f ∷ fs) (suc n) g
        of true t q one two =
            let r = one q in
            record { function = r.function; at = ap (λ (b : Bool). slice_get (f ∷ fs) (if b then suc (place_of fs n) else suc (place_of fs (suc n)))) t ∙ r.at; made = r.made }
        of false t q one two =
            let r = two q in
            record { function = r.function; at = ap (λ (b : Bool). slice_get (f ∷ fs) (if b then suc (place_of fs n) else suc (place_of fs (suc n)))) t ∙ r.at; made = r.made }

  -- of stored functions a later one is declared later
  next_rises : (fs : List Function) (stored : List Bool) (n : ℕ) (g : StoredText) → slice_get (among stored fs) (suc n) ≡ Some g → place_of fs n < place_of fs (suc n)
  next_rises [] stored n g e = absurd (cc e)
  next_rises (f ∷ fs) stored zero g e = of (subject_said a s f).is_stored e (next_rises fs stored zero g)
    where
      of : (b : Bool) → slice_get (if b then of_function stored f ∷ among stored fs else among stored fs) 1 ≡ Some g → (slice_get (among stored fs) 1 ≡ Some g → place_of fs 0 < place_of fs 1) →
          (if b then 0 else suc (place_of fs 0)) < (if b then suc (place_of fs 0) else suc (place_of fs 1))
      of true q rest = omega arith
      of false q rest = let h = rest q in omega (arith, h)
  next_rises (f ∷ fs) stored (suc n) g e = of (subject_said a s f).is_stored e (next_rises fs stored n g) (next_rises fs stored (suc n) g)
    where
      of : (b : Bool) → slice_get (if b then of_function stored f ∷ among stored fs else among stored fs) (suc (suc n)) ≡ Some g →
          (slice_get (among stored fs) (suc n) ≡ Some g → place_of fs n < place_of fs (suc n)) →
          (slice_get (among stored fs) (suc (suc n)) ≡ Some g → place_of fs (suc n) < place_of fs (suc (suc n))) →
          (if b then suc (place_of fs n) else suc (place_of fs (suc n))) < (if b then suc (place_of fs (suc n)) else suc (place_of fs (suc (suc n))))
      of true q one two = let h = one q in omega (arith, h)
      of false q one two = let h = two q in omega (arith, h)

  some_before : {A : Type 0} (xs : List A) (n : ℕ) (x : A) → slice_get xs (suc n) ≡ Some x → (y : A) × (slice_get xs n ≡ Some y)
  some_before [] n x e = absurd (cc e)
  some_before (y ∷ xs) zero x e = (y, refl)
  some_before (y ∷ xs) (suc n) x e = some_before xs n x e

  rises : (fs : List Function) (stored : List Bool) (d m : ℕ) (g : StoredText) → slice_get (among stored fs) (m + suc d) ≡ Some g → place_of fs m < place_of fs (m + suc d)
  rises fs stored zero m g e =
      let next : m + 1 ≡ suc m = omega arith in
      subst (λ (n : ℕ). place_of fs m < place_of fs n) (sym next) (next_rises fs stored m g (ap (slice_get (among stored fs)) (sym next) ∙ e))
  rises fs stored (suc d) m g e =
      let next : m + suc (suc d) ≡ suc (m + suc d) = omega arith in
      let here = ap (slice_get (among stored fs)) (sym next) ∙ e in
      let y = some_before (among stored fs) (m + suc d) g here in
      let one = rises fs stored d m y.0 y.1 in
      let two = next_rises fs stored (m + suc d) g here in
      subst (λ (n : ℕ). place_of fs m < place_of fs n) (sym next) (omega (arith, one, two))

  update_back : (k : ℕ) (f : Function) → slice_get a.functions k ≡ Some f →
      AllByRecursion (λ u. AllByRecursion (EachCall (λ name at. GoesBack a (suc k) name)) u.at × EachCall (λ name at. GoesBack a (suc k) name) u.value) f.changes
  update_back k f at = each f.changes 0 (λ i u e. ap (slice_get f.changes) (let none : 0 + i ≡ i = omega arith in none) ∙ e)
    where
      terms : (es : List Term) → ((i : ℕ) (e : Term) → slice_get es i ≡ Some e → EachCall (λ name at. GoesBack a (suc k) name) e) → AllByRecursion (EachCall (λ name at. GoesBack a (suc k) name)) es
      terms [] h = tt
      terms (e ∷ es) h = (h 0 e refl, terms es (λ i x q. h (suc i) x q))

      raised : (name : List ℕ) → GoesBack a k name → GoesBack a (suc k) name
      raised name h = weaker a is (suc k) k name (omega arith) h

      own : (name : List ℕ) → GoesBack a k name ⊎ (name ≡ f.name) → GoesBack a (suc k) name
      own name (inl h) = raised name h
      own name (inr e) = inr (k, f, omega arith, at, sym e)

      each : (us : List Change) (base : ℕ) → ((i : ℕ) (u : Change) → slice_get us i ≡ Some u → slice_get f.changes (base + i) ≡ Some u) →
          AllByRecursion (λ u. AllByRecursion (EachCall (λ name at. GoesBack a (suc k) name)) u.at × EachCall (λ name at. GoesBack a (suc k) name) u.value) us
      each [] base h = tt
      each (u ∷ us) base h =
          let there = h 0 u refl in (
            (
              terms u.at (λ i e q. each_call (λ name at. GoesBack a k name) (λ name at. GoesBack a (suc k) name) (λ name at. raised name) e
                  (all_at (EachCall (λ name at. GoesBack a k name)) u.at i e (left_goes_back a k f is at (base + 0) u there) q)),
              each_call (λ name at. GoesBack a k name ⊎ (name ≡ f.name)) (λ name at. GoesBack a (suc k) name) (λ name at. own name) u.value (right_goes_back a k f is at (base + 0) u there),
            ),
            each us (base + 1) (λ i v q. let next : (base + 1) + i ≡ base + suc i = omega arith in ap (slice_get f.changes) next ∙ h (suc i) v q),
          )

  -- a stored function that another one calls is declared before it
  pub called_before : (h n : ℕ) (g u : StoredText) (fs : List FormulaText) → slice_get (stored_functions a s) h ≡ Some g → slice_get (stored_functions a s) n ≡ Some u →
      u.formulas ≡ Some fs → some_calls g.subject.name fs ≡ true → (h ≡ n → ⊥) → h < n
  called_before h n g u fs at_h at_n is_fs calls differs =
      let st = flags (subjects a s) in
      let one = placed st g a.functions h at_h in
      let two = placed st u a.functions n at_n in
      let k = place_of a.functions n in
      let f = two.function in
      let formulas : formulas_put a st f.variables f.value f.changes ≡ Some fs = ap (λ (w : StoredText). w.formulas) (sym two.made) ∙ is_fs in
      let pure = each_call (λ name at. GoesBack a k name) (λ name at. GoesBack a (suc k) name) (λ name at. weaker a is (suc k) k name (omega arith)) f.value (pure_goes_back a k f is two.at) in
      let back = formulas_back a is (suc k) st f.variables f.value f.changes fs pure (update_back k f two.at) formulas in
      let goes : GoesBack a (suc k) g.subject.name = some_formula (λ name. GoesBack a (suc k) name) g.subject.name fs back calls in
      let named : one.function.name ≡ g.subject.name = ap (λ (w : StoredText). w.subject.name) (sym one.made) in
      let less : place_of a.functions h < suc k = before a is (suc k) (place_of a.functions h) one.function g.subject.name one.at named goes in
      let not_behind : (n < h → ⊥) = λ lt. behind lt less in
      omega (arith, differs, not_behind)
    where
      behind : n < h → place_of a.functions h < suc (place_of a.functions n) → ⊥
      behind lt less =
          let d = h - suc n in
          let whole : n + suc d ≡ h = omega (arith, lt) in
          let more = rises a.functions (flags (subjects a s)) d n g (ap (slice_get (stored_functions a s)) whole ∙ at_h) in
          let there : place_of a.functions n < place_of a.functions h = subst (λ (m : ℕ). place_of a.functions n < place_of a.functions m) whole more in
          omega (arith, there, less)
