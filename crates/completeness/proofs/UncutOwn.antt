-- Where each left index of an update is the variable at its place, each call of the function itself has all variables at their places.
use Rattle.std.proofs.Common.{◌≡◌, ℕ, zero, suc, Bool, true, false, List, [], ◌∷◌, length, map, Option, Some, None, refl, sym, ap, ◌∙◌, subst, arith}
use Rattle.std.specs.Prelude.{if◌then◌else◌, slice_get}
use Rattle.tree.specs.Term.{Term, Number, Name, Call, Minus, Binary, Clamp, Cast, Choice, Terms, End, More, Test, Compares, Fails, Both, Either}
use Rattle.tree.specs.Uses.{EachCall, EachCallOfTest, EachCallOfAll}
use Rattle.tree.proofs.Uses.{each_call-weaker}
use Rattle.meaning.specs.Algorithm.{Function, Algorithm}
use Rattle.meaning.specs.Conditions.{IsAlgorithm, is_variable, has_variable}
use Rattle.meaning.specs.Inlining.Laws.{StaysCalled}
use Rattle.meaning.proofs.Back.{update_is}
use Rattle.meaning.proofs.Own.{stored_stays}
use Rattle.headline.proofs.Lists.{at_map}
use Rattle.sched.specs.Schedule.{Schedule}
use Rattle.sched.specs.Legal.{said, loops_after}
use Rattle.sched.specs.Subjects.{subject_said}
use Rattle.sched.specs.Standing.{◌>>=◌}
use Rattle.sched.specs.Stored.{FormulaText, StoredText}
use Rattle.blocks.specs.Stored.{put, left_put, lefts_put, formulas_put, stored_by, stored_among, flags}
use Rattle.lower.specs.Stored.{stored_functions}
use Rattle.blocks.proofs.Laying.{bound, same}
use Rattle.completeness.proofs.Laid.{subjects}
use Rattle.completeness.proofs.Defined.{other_put}
use Rattle.completeness.proofs.OwnCalls.{own_variable}

-- ---- what is so of each call for each of these is so for all of them

module _ (A : Type 0) (P : A → List ℕ → Terms → Type 0) where
  abbrev ForAll : List ℕ → Terms → Type 0
  ForAll name at = (x : A) → P x name at

  mutual
    pub all_calls : (e : Term) → ((x : A) → EachCall (P x) e) → EachCall ForAll e
    all_calls (Number t n) h = tt
    all_calls (Name x) h = tt
    all_calls (Call name at) h = ((λ x. (h x).0), all_of at (λ x. (h x).1))
    all_calls (Minus a) h = all_calls a h
    all_calls (Binary op a b) h = (all_calls a (λ x. (h x).0), all_calls b (λ x. (h x).1))
    all_calls (Clamp a l u) h = (all_calls a (λ x. (h x).0), all_calls l (λ x. (h x).1), all_calls u (λ x. (h x).2))
    all_calls (Cast t a) h = all_calls a h
    all_calls (Choice c a b) h = (all_of_test c (λ x. (h x).0), all_calls a (λ x. (h x).1), all_calls b (λ x. (h x).2))

    all_of_test : (c : Test) → ((x : A) → EachCallOfTest (P x) c) → EachCallOfTest ForAll c
    all_of_test (Compares by a b) h = (all_calls a (λ x. (h x).0), all_calls b (λ x. (h x).1))
    all_of_test (Fails c) h = all_of_test c h
    all_of_test (Both c d) h = (all_of_test c (λ x. (h x).0), all_of_test d (λ x. (h x).1))
    all_of_test (Either c d) h = (all_of_test c (λ x. (h x).0), all_of_test d (λ x. (h x).1))

    all_of : (at : Terms) → ((x : A) → EachCallOfAll (P x) at) → EachCallOfAll ForAll at
    all_of End h = tt
    all_of (More a rest) h = (all_calls a (λ x. (h x).0), all_of rest (λ x. (h x).1))

-- ---- calls of a stored function stay

module _ (a : Algorithm) (s : Schedule) (g : StoredText) where
  record IsFlagged (fs : List Function) : Type 0 where
    place : ℕ
    function : Function
    at : slice_get fs place ≡ Some function
    named : function.name ≡ g.subject.name
    stored : (subject_said a s function).is_stored ≡ true

  flagged : (st : List Bool) (fs : List Function) (n : ℕ) → slice_get (stored_among a st fs (map (subject_said a s) fs) (map (loops_after (said s)) fs)) n ≡ Some g → IsFlagged fs
  flagged st [] n e = absurd (cc e)
  flagged st (f ∷ fs) n e = of (subject_said a s f).is_stored refl n e (flagged st fs)
    where
      here : StoredText
      here = stored_by a st f.variables f.value f.changes (subject_said a s f) (loops_after (said s) f)

      rest : List StoredText
      rest = stored_among a st fs (map (subject_said a s) fs) (map (loops_after (said s)) fs)

      later : IsFlagged fs → IsFlagged (f ∷ fs)
      later h = record { place = suc h.place; function = h.function; at = h.at; named = h.named; stored = h.stored }

      of : (b : Bool) → (subject_said a s f).is_stored ≡ b → (n : ℕ) → slice_get (if b then here ∷ rest else rest) n ≡ Some g → ((m : ℕ) → slice_get rest m ≡ Some g → IsFlagged fs) →
          IsFlagged (f ∷ fs)
      of true t zero q more = record { place = 0; function = f; at = refl; named = ap (λ (u : StoredText). u.subject.name) (same here g q); stored = t }
      of true t (suc m) q more = later (more m q)
      of false t m q more = later (more m q)

pub own_stays : (a : Algorithm) (s : Schedule) → IsAlgorithm a → (n : ℕ) (g : StoredText) → slice_get (stored_functions a s) n ≡ Some g → StaysCalled a (flags (subjects a s)) g.subject.name
own_stays a s well n g at =
    let r = flagged a s g (flags (subjects a s)) a.functions n at in
    let flag : slice_get (flags (subjects a s)) r.place ≡ Some true =
    at_map (λ u. u.is_stored) (subjects a s) r.place (subject_said a s r.function) (at_map (subject_said a s) a.functions r.place r.function r.at) ∙ ap (λ (b : Bool). Some b) r.stored in
    subst (StaysCalled a (flags (subjects a s))) r.named (stored_stays a well (flags (subjects a s)) r.place r.function r.at flag)

-- ---- where some left indices are others

variable_at : (a : Algorithm) (st : List Bool) (xs : List (List ℕ)) (es : List Term) (os : List (Option Term)) → lefts_put a st xs es ≡ Some os → length es ≡ length xs →
    (j : ℕ) (v : List ℕ) → slice_get xs j ≡ Some v → ((e : Term) → slice_get os j ≡ Some (Some e) → ⊥) → (e : Term) × (slice_get es j ≡ Some e) × (is_variable v e ≡ true)
variable_at a st [] es os q long j v at none = absurd (cc at)
variable_at a st (x ∷ xs) [] os q long j v at none = absurd (omega (arith, long))
variable_at a st (x ∷ xs) (e ∷ es) os q long j v at none =
    let b = bound (left_put a st x e) (λ o. lefts_put a st xs es >>= λ rest. Some (o ∷ rest)) os q in
    let c = bound (lefts_put a st xs es) (λ rest. Some (b.value ∷ rest)) os b.comes in
    let is = same (b.value ∷ c.value) os c.comes in
    by b.value c.value b.is j at (λ u k. none u (ap (λ (l : List (Option Term)). slice_get l j) (sym is) ∙ k)) (λ k w never. variable_at a st xs es c.value c.is (omega (arith, long)) k v w never)
  where
    of : (o : Option Term) (t : Bool) → is_variable x e ≡ t → (if t then Some None else (put a st e >>= λ i. Some (Some i))) ≡ Some o → ((u : Term) → Some o ≡ Some (Some u) → ⊥) →
        is_variable x e ≡ true
    of o true h k never = h
    of o false h k never =
        let d = bound (put a st e) (λ i. Some (Some i)) o k in
        absurd (never d.value (sym d.comes))

    by : (o : Option Term) (rest : List (Option Term)) → left_put a st x e ≡ Some o → (j : ℕ) → slice_get (x ∷ xs) j ≡ Some v → ((u : Term) → slice_get (o ∷ rest) j ≡ Some (Some u) → ⊥) →
        ((k : ℕ) → slice_get xs k ≡ Some v → ((u : Term) → slice_get rest k ≡ Some (Some u) → ⊥) → (u : Term) × (slice_get es k ≡ Some u) × (is_variable v u ≡ true)) →
        (u : Term) × (slice_get (e ∷ es) j ≡ Some u) × (is_variable v u ≡ true)
    by o rest made zero w never later = (e, refl, ap (λ (y : List ℕ). is_variable y e) (sym (same x v w)) ∙ of o (is_variable x e) refl made never)
    by o rest made (suc k) w never later = later k w never

module _ (a : Algorithm) (well : IsAlgorithm a) (place : ℕ) (f : Function) (at_place : slice_get a.functions place ≡ Some f) (st : List Bool) (stays : StaysCalled a st f.name) (fs : List FormulaText)
    (defined : formulas_put a st f.variables f.value f.changes ≡ Some fs) where
  -- each variable that is no other index stands at its place, where the call is of the function itself
  abbrev pub KeepsPlaces : List (Option Term) → List ℕ → Terms → Type 0
  KeepsPlaces os name at =
      name ≡ f.name → (j : ℕ) (v : List ℕ) → slice_get f.variables j ≡ Some v → ((e : Term) → slice_get os j ≡ Some (Some e) → ⊥) → has_variable v j at ≡ true

  pub own_keep : (i : ℕ) (u : FormulaText) → slice_get fs (suc i) ≡ Some u → EachCall (KeepsPlaces u.at) u.value
  own_keep i u there =
      let o = other_put a st f.variables f.value f.changes fs i u defined there in
      let y = o.change in
      let m = bound (lefts_put a st f.variables y.at) (λ at. put a st y.value >>= λ v. Some (record { at = at; value = v })) u o.is in
      let r = bound (put a st y.value) (λ v. Some (record { at = m.value; value = v })) u m.comes in
      let made : FormulaText = record { at = m.value; value = r.value } in
      let is : made ≡ u = same made u r.comes in
      let value : put a st y.value ≡ Some u.value = r.is ∙ ap (λ (z : FormulaText). Some z.value) is in
      let lefts : lefts_put a st f.variables y.at ≡ Some u.at = m.is ∙ ap (λ (z : FormulaText). Some z.at) is in
      let long = (update_is a place f well at_place i y o.at).places in
      let A : Type 0 = (j : ℕ) × (v : List ℕ) × (slice_get f.variables j ≡ Some v) × ((e : Term) → slice_get u.at j ≡ Some (Some e) → ⊥) in
      let P : A → List ℕ → Terms → Type 0 = λ x name args. name ≡ f.name → has_variable x.1 x.0 args ≡ true in
      let each : (x : A) → EachCall (P x) u.value = λ x.
      (let e = variable_at a st f.variables y.at u.at lefts long x.0 x.1 x.2 x.3 in own_variable a well place f at_place st stays i y o.at u.value value x.0 x.1 e.0 x.2 e.1 e.2) in
      each_call-weaker (ForAll A P) (KeepsPlaces u.at) (λ name args z q j v t none. z (j, v, t, none) q) u.value (all_calls A P u.value each)
