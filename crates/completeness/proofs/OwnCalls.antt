-- In an update, a call of the function itself keeps its indices where calls of other functions are put in.
use Rattle.std.proofs.Common.{◌≡◌, ℕ, zero, suc, ◌+◌, ◌≤◌, Bool, true, false, List, [], ◌∷◌, Option, Some, None, refl, sym, ap, ◌∙◌, subst, inl, inr, ◌⊎◌, arith}
use Rattle.std.specs.Prelude.{All, IsTrue, slice_get}
use Rattle.tree.specs.Term.{Term, Number, Name, Call, Minus, Binary, Clamp, Cast, Choice, Terms, End, More, Test, Compares, Fails, Both, Either}
use Rattle.tree.specs.Uses.{variables_of, EachCall, EachCallOfTest, EachCallOfAll}
use Rattle.tree.specs.Substitution.{put_in as put_in_name, substituted, test_substituted, all_substituted, with_calls, test_with_calls, all_with_calls}
use Rattle.meaning.specs.Algorithm.{Change, Function, Algorithm}
use Rattle.meaning.specs.Names.{same_name, is_among}
use Rattle.meaning.specs.Conditions.{IsAlgorithm, is_variable, has_variable}
use Rattle.meaning.specs.Functions.{GoesBack}
use Rattle.meaning.specs.Inlining.Laws.{StaysCalled}
use Rattle.meaning.specs.Inlining.PutIn.{Replacement, index_for, with_definition, with_definitions, put_in}
use Rattle.meaning.proofs.Alone.{each_call}
use Rattle.meaning.proofs.Back.{update_is, pure_goes_back, right_goes_back}
use Rattle.meaning.proofs.Stays.{IsDone, done}
use Rattle.soundness.proofs.Refines.{name_refl, name_true}
use Rattle.blocks.specs.Stored.{put}
use Rattle.blocks.proofs.Laying.{same}
use Rattle.completeness.proofs.Defined.{put_is}
use Rattle.completeness.proofs.Earlier.{before, ready_on}

-- ---- a variable alone at its place stays there

pub variable_stays : (r : Replacement) (v : List ℕ) (k : ℕ) (at : Terms) → has_variable v k at ≡ true → has_variable v k (all_with_calls r at) ≡ true
variable_stays r v k End e = absurd (cc e)
variable_stays r v zero (More a rest) e = of a e
  where
    of : (a : Term) → is_variable v a ≡ true → is_variable v (with_calls r a) ≡ true
    of (Number t n) q = absurd (cc q)
    of (Name name) q = q
    of (Call name at) q = absurd (cc q)
    of (Minus b) q = absurd (cc q)
    of (Binary op b c) q = absurd (cc q)
    of (Clamp b l h) q = absurd (cc q)
    of (Cast t b) q = absurd (cc q)
    of (Choice c b d) q = absurd (cc q)
variable_stays r v (suc k) (More a rest) e = variable_stays r v k rest e

-- ---- calls of the function itself

module _ (own : List ℕ) (K : Terms → Type 0) where
  -- where a call is of the function itself, this is so of its indices
  abbrev pub OfOwn : List ℕ → Terms → Type 0
  OfOwn name at = name ≡ own → K at

  abbrev Stays : Term → Type 0
  Stays e = EachCall OfOwn e

  abbrev StayAll : Terms → Type 0
  StayAll at = EachCallOfAll OfOwn at

  abbrev Other : List ℕ → Terms → Type 0
  Other name at = name ≡ own → ⊥

  named_stays : (o : Option Term) (name : List ℕ) → ((u : Term) → o ≡ Some u → Stays u) → Stays (put_in_name o name)
  named_stays None name h = tt
  named_stays (Some u) name h = h u refl

  index_stays : (names : List (List ℕ)) (at : Terms) (name : List ℕ) (u : Term) → StayAll at → index_for names at name ≡ Some u → Stays u
  index_stays [] End name u h e = absurd (cc e)
  index_stays [] (More a rest) name u h e = absurd (cc e)
  index_stays (x ∷ xs) End name u h e = absurd (cc e)
  index_stays (x ∷ xs) (More a rest) name u h e = of (same_name x name) e (index_stays xs rest name u h.1)
    where
      of : (b : Bool) → elim b [ true ↦ Some a | false ↦ index_for xs rest name ] ≡ Some u → (index_for xs rest name ≡ Some u → Stays u) → Stays u
      of true q later = subst (λ (v : Term). Stays v) (same a u q) h.0
      of false q later = later q

  -- an expression that calls others alone, with such expressions for its variables
  module _ (to : List ℕ → Option Term) (stays : (name : List ℕ) (u : Term) → to name ≡ Some u → Stays u) where
    mutual
      others_stay : (e : Term) → EachCall Other e → Stays (substituted to e)
      others_stay (Number u n) h = tt
      others_stay (Name name) h = named_stays (to name) name (stays name)
      others_stay (Call name at) h = ((λ q. absurd (h.0 q)), all_others at h.1)
      others_stay (Minus a) h = others_stay a h
      others_stay (Binary op a b) h = (others_stay a h.0, others_stay b h.1)
      others_stay (Clamp a l u) h = (others_stay a h.0, others_stay l h.1, others_stay u h.2)
      others_stay (Cast t a) h = others_stay a h
      others_stay (Choice c a b) h = (test_others c h.0, others_stay a h.1, others_stay b h.2)

      test_others : (c : Test) → EachCallOfTest Other c → EachCallOfTest OfOwn (test_substituted to c)
      test_others (Compares by a b) h = (others_stay a h.0, others_stay b h.1)
      test_others (Fails c) h = test_others c h
      test_others (Both c d) h = (test_others c h.0, test_others d h.1)
      test_others (Either c d) h = (test_others c h.0, test_others d h.1)

      all_others : (at : Terms) → EachCallOfAll Other at → StayAll (all_substituted to at)
      all_others End h = tt
      all_others (More a rest) h = (others_stay a h.0, all_others rest h.1)

  -- what stands for the name keeps this, where its indices do
  abbrev IsKept : Replacement → List ℕ → Type 0
  IsKept r name = (at : Terms) → StayAll at → (name ≡ own → K at) → Stays (r name at)

  module _ (r : Replacement) (closes : (at : Terms) → K at → K (all_with_calls r at)) where
    mutual
      kept : (e : Term) → EachCall (λ name at. IsKept r name) e → Stays e → Stays (with_calls r e)
      kept (Number u n) h k = tt
      kept (Name name) h k = tt
      kept (Call name at) h k = h.0 (all_with_calls r at) (all_kept at h.1 k.1) (λ q. closes at (k.0 q))
      kept (Minus a) h k = kept a h k
      kept (Binary op a b) h k = (kept a h.0 k.0, kept b h.1 k.1)
      kept (Clamp a l u) h k = (kept a h.0 k.0, kept l h.1 k.1, kept u h.2 k.2)
      kept (Cast t a) h k = kept a h k
      kept (Choice c a b) h k = (test_kept c h.0 k.0, kept a h.1 k.1, kept b h.2 k.2)

      test_kept : (c : Test) → EachCallOfTest (λ name at. IsKept r name) c → EachCallOfTest OfOwn c → EachCallOfTest OfOwn (test_with_calls r c)
      test_kept (Compares by a b) h k = (kept a h.0 k.0, kept b h.1 k.1)
      test_kept (Fails c) h k = test_kept c h k
      test_kept (Both c d) h k = (test_kept c h.0 k.0, test_kept d h.1 k.1)
      test_kept (Either c d) h k = (test_kept c h.0 k.0, test_kept d h.1 k.1)

      all_kept : (at : Terms) → EachCallOfAll (λ name at. IsKept r name) at → StayAll at → StayAll (all_with_calls r at)
      all_kept End h k = tt
      all_kept (More a rest) h k = (kept a h.0 k.0, all_kept rest h.1 k.1)

-- ---- the definitions of functions before it

module _ (a : Algorithm) (well : IsAlgorithm a) (place : ℕ) (f : Function) (at_place : slice_get a.functions place ≡ Some f) (K : Terms → Type 0) where
  abbrev Back : List ℕ → Type 0
  Back name = GoesBack a place name

  abbrev Allowed : List ℕ → Type 0
  Allowed name = Back name ⊎ (name ≡ f.name)

  -- a name of a function before is not the function's own
  pub back_other : (name : List ℕ) → Back name → name ≡ f.name → ⊥
  back_other name back e = (let less = before a well place place f name at_place (sym e) back in absurd (omega (arith, less)))

  weaker : (i : ℕ) (name : List ℕ) → i ≤ place → GoesBack a i name → Back name
  weaker i name le (inl input) = inl input
  weaker i name le (inr back) = (let less = back.2 in inr (back.0, back.1, omega (arith, less, le), back.3, back.4))

  module _ (flags : List Bool) (stays : StaysCalled a flags f.name) where
    kept_on : (r : Replacement) (fs : List Function) (stored : List Bool) (i : ℕ) → ((j : ℕ) (g : Function) → slice_get fs j ≡ Some g → slice_get a.functions (i + j) ≡ Some g) →
        ((j : ℕ) (b : Bool) → slice_get stored j ≡ Some b → slice_get flags (i + j) ≡ Some b) → ((name : List ℕ) → Back name → IsDone Back r name) →
        ((name : List ℕ) → Allowed name → IsKept f.name K r name) → (name : List ℕ) → Allowed name → IsKept f.name K (with_definitions r fs stored) name
    kept_on r [] stored i at marks ready good = good
    kept_on r (g ∷ fs) [] i at marks ready good = good
    kept_on r (g ∷ fs) (true ∷ stored) i at marks ready good =
        kept_on r fs stored (i + 1) (λ j u e. let next : (i + 1) + j ≡ i + suc j = omega arith in ap (slice_get a.functions) next ∙ at (suc j) u e)
        (λ j b e. let next : (i + 1) + j ≡ i + suc j = omega arith in ap (slice_get flags) next ∙ marks (suc j) b e) ready good
    kept_on r (g ∷ fs) (false ∷ stored) i at marks ready good =
        kept_on (with_definition r g) fs stored (i + 1) (λ j u e. let next : (i + 1) + j ≡ i + suc j = omega arith in ap (slice_get a.functions) next ∙ at (suc j) u e)
        (λ j b e. let next : (i + 1) + j ≡ i + suc j = omega arith in ap (slice_get flags) next ∙ marks (suc j) b e)
        (ready_on a well place r (g ∷ []) (false ∷ []) i one_at ready) one
      where
        none : i + 0 ≡ i
        none = omega arith

        here : slice_get a.functions i ≡ Some g
        here = ap (slice_get a.functions) (sym none) ∙ at 0 g refl

        one_at : (j : ℕ) (u : Function) → slice_get (g ∷ []) j ≡ Some u → slice_get a.functions (i + j) ≡ Some u
        one_at zero u e = at 0 u e
        one_at (suc j) u e = absurd (cc e)

        one : (name : List ℕ) → Allowed name → IsKept f.name K (with_definition r g) name
        one name allowed args stay own_so = of (same_name g.name name) refl allowed
          where
            of : (b : Bool) → same_name g.name name ≡ b → Allowed name →
                EachCall (OfOwn f.name K) (elim b [ true ↦ substituted (index_for g.variables args) (with_calls r g.value) | false ↦ r name args ])
            of true e (inr q) = (let flag = ap (slice_get flags) (sym none) ∙ marks 0 false refl in absurd (stays i g here flag (name_true g.name name e ∙ q)))
            of true e (inl back) =
                let less = before a well place i g name here (name_true g.name name e) back in
                let calls = each_call (λ name at. GoesBack a i name) (λ name at. IsDone Back r name) (λ name at h. ready name (weaker i name (omega (arith, less)) h)) g.value
                (pure_goes_back a i g well here) in
                let others = each_call (λ name at. Back name) (λ name at. name ≡ f.name → ⊥) (λ name at h. back_other name h) (with_calls r g.value) (done Back r g.value calls) in
                others_stay f.name K (index_for g.variables args) (λ m u. index_stays f.name K g.variables args m u stay) (with_calls r g.value) others
            of false e al = good name al args stay own_so

    -- so it is of an expression that calls the function itself, and those before
    pub own_calls : ((r : Replacement) (at : Terms) → K at → K (all_with_calls r at)) → (e : Term) → EachCall (λ name at. Allowed name) e → EachCall (OfOwn f.name K) e →
        EachCall (OfOwn f.name K) (put_in a flags e)
    own_calls closes e allowed h =
        let r = with_definitions Call a.functions flags in
        let all = kept_on Call a.functions flags 0 (λ j g q. let none : 0 + j ≡ j = omega arith in ap (slice_get a.functions) none ∙ q)
        (λ j b q. let none : 0 + j ≡ j = omega arith in ap (slice_get flags) none ∙ q) (λ name back at stay. (back, stay)) (λ name al at stay own_so. (own_so, stay)) in
        kept f.name K r (closes r) e (each_call (λ name at. Allowed name) (λ name at. IsKept f.name K r name) (λ name at al. all name al) e allowed) h

-- in the value of an update with the calls put in, each call of the function itself has each variable at its place that stands there alone on the left side
module _ (a : Algorithm) (well : IsAlgorithm a) (place : ℕ) (f : Function) (at_place : slice_get a.functions place ≡ Some f) (flags : List Bool) (stays : StaysCalled a flags f.name) (i : ℕ)
    (y : Change) (at : slice_get f.changes i ≡ Some y) (value : Term) (is : put a flags y.value ≡ Some value) where
  pub own_variable : (j : ℕ) (v : List ℕ) (e : Term) → slice_get f.variables j ≡ Some v → slice_get y.at j ≡ Some e → is_variable v e ≡ true →
      EachCall (OfOwn f.name (λ args. has_variable v j args ≡ true)) value
  own_variable j v e named stands alone =
      let K : Terms → Type 0 = λ args. has_variable v j args ≡ true in
      let Told : List ℕ → Terms → Type 0 = λ name args. IsTrue (same_name f.name name) → IsTrue (has_variable v j args) in
      let keeps : EachCall Told y.value =
      subst (λ (b : Bool). elim b as (λ w. Type 0) [ true ↦ EachCall Told y.value | false ↦ All (λ name. is_among f.variables name ≡ false) (variables_of e) ]) alone
      ((update_is a place f well at_place i y at).kept j v e named stands) in
      let here : EachCall (OfOwn f.name K) y.value = each_call Told (OfOwn f.name K) (λ name args h q. h (ap (same_name f.name) q ∙ name_refl f.name)) y.value keeps in
      subst (EachCall (OfOwn f.name K)) (put_is a flags y.value value is).1
      (own_calls a well place f at_place K flags stays (λ r args h. variable_stays r v j args h) y.value (right_goes_back a place f well at_place i y at) here)
