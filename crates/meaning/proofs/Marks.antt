-- Names with a mark, and expressions that call none of them.
use Rattle.std.proofs.Common.{◌≡◌, ◌≢◌, ℕ, zero, suc, ◌≤◌, Bool, true, false, List, [], ◌∷◌, take, Some, refl, ap, ◌∙◌, arith, inl, inr}
use Rattle.std.specs.Prelude.{slice_get, ◌||◌}
use Rattle.tree.specs.Term.{Term, Number, Name, Call, Minus, Binary, Clamp, Cast, Choice, Terms, End, More, Test, Compares, Fails, Both, Either}
use Rattle.tree.specs.Uses.{EachCall, EachCallOfTest, EachCallOfAll}
use Rattle.tree.proofs.Uses.{each_call as every_call}
use Rattle.meaning.specs.Algorithm.{Change, Function}
use Rattle.meaning.specs.Names.{same_name}
use Rattle.meaning.proofs.Cases.{name_same, name_differs}
use Rattle.meaning.proofs.InliningTyped.{some_bool}
use Rattle.meaning.specs.Inlining.PutIn.{over_unstored, calls_some, test_calls_some, all_call_some, has_updates, with_updates}

pub neither_of : (b c : Bool) → (b || c) ≡ false → (b ≡ false) × (c ≡ false)
neither_of true c h = absurd (cc)
neither_of false c h = (refl, h)

pub no_updates : (us : List Change) → has_updates us ≡ false → us ≡ []
no_updates [] h = refl
no_updates (u ∷ us) h = absurd (cc)

-- no call with the mark
module _ (mark : List ℕ → Bool) where
  mutual
    pub calls_none : (e : Term) → calls_some mark e ≡ false → EachCall (λ name at. mark name ≡ false) e
    calls_none (Number t n) h = tt
    calls_none (Name name) h = tt
    calls_none (Call name at) h = let n = neither_of (mark name) (all_call_some mark at) h in (n.0, all_call_none at n.1)
    calls_none (Minus a) h = calls_none a h
    calls_none (Binary op a b) h = let n = neither_of (calls_some mark a) (calls_some mark b) h in (calls_none a n.0, calls_none b n.1)
    calls_none (Clamp a l u) h =
        let n = neither_of (calls_some mark a) (calls_some mark l || calls_some mark u) h in
        let m = neither_of (calls_some mark l) (calls_some mark u) n.1 in
        (calls_none a n.0, calls_none l m.0, calls_none u m.1)
    calls_none (Cast t a) h = calls_none a h
    calls_none (Choice c a b) h =
        let n = neither_of (test_calls_some mark c) (calls_some mark a || calls_some mark b) h in
        let m = neither_of (calls_some mark a) (calls_some mark b) n.1 in
        (test_calls_none c n.0, calls_none a m.0, calls_none b m.1)

    test_calls_none : (c : Test) → test_calls_some mark c ≡ false → EachCallOfTest (λ name at. mark name ≡ false) c
    test_calls_none (Compares by a b) h = let n = neither_of (calls_some mark a) (calls_some mark b) h in (calls_none a n.0, calls_none b n.1)
    test_calls_none (Fails c) h = test_calls_none c h
    test_calls_none (Both c d) h = let n = neither_of (test_calls_some mark c) (test_calls_some mark d) h in (test_calls_none c n.0, test_calls_none d n.1)
    test_calls_none (Either c d) h = let n = neither_of (test_calls_some mark c) (test_calls_some mark d) h in (test_calls_none c n.0, test_calls_none d n.1)

    all_call_none : (at : Terms) → all_call_some mark at ≡ false → EachCallOfAll (λ name at. mark name ≡ false) at
    all_call_none End h = tt
    all_call_none (More a rest) h = let n = neither_of (calls_some mark a) (all_call_some mark rest) h in (calls_none a n.0, all_call_none rest n.1)

  mutual
    pub no_call : (e : Term) → EachCall (λ name at. mark name ≡ false) e → calls_some mark e ≡ false
    no_call (Number t n) h = refl
    no_call (Name name) h = refl
    no_call (Call name at) h = λ i. h.0 i || no_call_of_all at h.1 i
    no_call (Minus a) h = no_call a h
    no_call (Binary op a b) h = λ i. no_call a h.0 i || no_call b h.1 i
    no_call (Clamp a l u) h = λ i. no_call a h.0 i || (no_call l h.1 i || no_call u h.2 i)
    no_call (Cast t a) h = no_call a h
    no_call (Choice c a b) h = λ i. no_call_of_test c h.0 i || (no_call a h.1 i || no_call b h.2 i)

    no_call_of_test : (c : Test) → EachCallOfTest (λ name at. mark name ≡ false) c → test_calls_some mark c ≡ false
    no_call_of_test (Compares by a b) h = λ i. no_call a h.0 i || no_call b h.1 i
    no_call_of_test (Fails c) h = no_call_of_test c h
    no_call_of_test (Both c d) h = λ i. no_call_of_test c h.0 i || no_call_of_test d h.1 i
    no_call_of_test (Either c d) h = λ i. no_call_of_test c h.0 i || no_call_of_test d h.1 i

    no_call_of_all : (at : Terms) → EachCallOfAll (λ name at. mark name ≡ false) at → all_call_some mark at ≡ false
    no_call_of_all End h = refl
    no_call_of_all (More a rest) h = λ i. no_call a h.0 i || no_call_of_all rest h.1 i

-- two marks that agree on the names that an expression calls
module _ (mark other : List ℕ → Bool) where
  mutual
    pub same_marks : (e : Term) → EachCall (λ name at. mark name ≡ other name) e → calls_some mark e ≡ calls_some other e
    same_marks (Number t n) h = refl
    same_marks (Name name) h = refl
    same_marks (Call name at) h = λ i. h.0 i || same_marks_of_all at h.1 i
    same_marks (Minus a) h = same_marks a h
    same_marks (Binary op a b) h = λ i. same_marks a h.0 i || same_marks b h.1 i
    same_marks (Clamp a l u) h = λ i. same_marks a h.0 i || (same_marks l h.1 i || same_marks u h.2 i)
    same_marks (Cast t a) h = same_marks a h
    same_marks (Choice c a b) h = λ i. same_marks_of_test c h.0 i || (same_marks a h.1 i || same_marks b h.2 i)

    same_marks_of_test : (c : Test) → EachCallOfTest (λ name at. mark name ≡ other name) c → test_calls_some mark c ≡ test_calls_some other c
    same_marks_of_test (Compares by a b) h = λ i. same_marks a h.0 i || same_marks b h.1 i
    same_marks_of_test (Fails c) h = same_marks_of_test c h
    same_marks_of_test (Both c d) h = λ i. same_marks_of_test c h.0 i || same_marks_of_test d h.1 i
    same_marks_of_test (Either c d) h = λ i. same_marks_of_test c h.0 i || same_marks_of_test d h.1 i

    same_marks_of_all : (at : Terms) → EachCallOfAll (λ name at. mark name ≡ other name) at → all_call_some mark at ≡ all_call_some other at
    same_marks_of_all End h = refl
    same_marks_of_all (More a rest) h = λ i. same_marks a h.0 i || same_marks_of_all rest h.1 i

-- no function of the list that is not marked as stored has the name
abbrev pub NonePutIn : List Function → List Bool → List ℕ → Type 0
NonePutIn fs stored name = (k : ℕ) (f : Function) → slice_get fs k ≡ Some f → slice_get stored k ≡ Some false → f.name ≢ name

-- what is seen at a name, where only a step of a function of this name changes it
module _ {A B : Type 0} (step : A → Function → A) (name : List ℕ) (seen : A → B) (miss : (x : A) (f : Function) → f.name ≢ name → seen (step x f) ≡ seen x) where
  pub steps_miss : (x : A) (fs : List Function) (stored : List Bool) → NonePutIn fs stored name → seen (over_unstored step x fs stored) ≡ seen x
  steps_miss x [] stored h = refl
  steps_miss x (f ∷ fs) [] h = refl
  steps_miss x (f ∷ fs) (true ∷ stored) h = steps_miss x fs stored (λ k g. h (suc k) g)
  steps_miss x (f ∷ fs) (false ∷ stored) h = steps_miss (step x f) fs stored (λ k g. h (suc k) g) ∙ miss x f (h 0 f refl refl)

  -- only the first functions count for a name that no later one has
  pub steps_before : (x : A) (fs : List Function) (stored : List Bool) (k : ℕ) →
      ((j : ℕ) (g : Function) → k ≤ j → slice_get fs j ≡ Some g → slice_get stored j ≡ Some false → g.name ≢ name) →
      seen (over_unstored step x fs stored) ≡ seen (over_unstored step x (take k fs) stored)
  steps_before x [] stored zero h = refl
  steps_before x [] stored (suc k) h = refl
  steps_before x (f ∷ fs) stored zero h = steps_miss x (f ∷ fs) stored (λ j g. h j g (omega arith))
  steps_before x (f ∷ fs) [] (suc k) h = refl
  steps_before x (f ∷ fs) (true ∷ stored) (suc k) h = steps_before x fs stored k (λ j g le. h (suc j) g (omega arith))
  steps_before x (f ∷ fs) (false ∷ stored) (suc k) h = steps_before (step x f) fs stored k (λ j g le. h (suc j) g (omega arith))

  -- what the function of a name made of it, where no later one has the name
  pub steps_at : (x : A) (fs : List Function) (stored : List Bool) (k : ℕ) (f : Function) →
      ((j : ℕ) (g : Function) → suc k ≤ j → slice_get fs j ≡ Some g → slice_get stored j ≡ Some false → g.name ≢ name) →
      slice_get fs k ≡ Some f → slice_get stored k ≡ Some false →
      seen (over_unstored step x fs stored) ≡ seen (step (over_unstored step x (take k fs) stored) f)
  steps_at x [] stored k f h e m = absurd (cc)
  steps_at x (g ∷ fs) [] k f h e m = absurd (cc)
  steps_at x (g ∷ fs) (true ∷ stored) zero f h e m = absurd (cc)
  steps_at x (g ∷ fs) (false ∷ stored) zero f h e m =
      let same : g ≡ f = cc in
      steps_miss (step x g) fs stored (λ j p. h (suc j) p (omega arith)) ∙ ap (λ (p : Function). seen (step x p)) same
  steps_at x (g ∷ fs) (true ∷ stored) (suc k) f h e m = steps_at x fs stored k f (λ j p le. h (suc j) p (omega arith)) e m
  steps_at x (g ∷ fs) (false ∷ stored) (suc k) f h e m = steps_at (step x g) fs stored k f (λ j p le. h (suc j) p (omega arith)) e m

pub with_updates-miss : (name : List ℕ) (mark : List ℕ → Bool) (f : Function) → f.name ≢ name → with_updates mark f name ≡ mark name
with_updates-miss name mark f d =
    let pick : Bool → Bool = λ b. elim b [ true ↦ has_updates f.changes || calls_some mark f.value | false ↦ mark name ] in
    ap pick (name_differs f.name name d)

pub with_updates-hit : (mark : List ℕ → Bool) (f : Function) → with_updates mark f f.name ≡ (has_updates f.changes || calls_some mark f.value)
with_updates-hit mark f =
    let pick : Bool → Bool = λ b. elim b [ true ↦ has_updates f.changes || calls_some mark f.value | false ↦ mark f.name ] in
    ap pick (name_same f.name f.name refl)

-- without unstored functions that have updates, no name has the mark
pub none_marked : (fs : List Function) (stored : List Bool) (mark : List ℕ → Bool) → ((k : ℕ) (f : Function) → slice_get fs k ≡ Some f → slice_get stored k ≡ Some false → f.changes ≡ []) →
    ((name : List ℕ) → mark name ≡ false) → (name : List ℕ) → over_unstored with_updates mark fs stored name ≡ false
none_marked [] stored mark may unmarked name = unmarked name
none_marked (f ∷ fs) [] mark may unmarked name = unmarked name
none_marked (f ∷ fs) (true ∷ stored) mark may unmarked name = none_marked fs stored mark (λ k g. may (suc k) g) unmarked name
none_marked (f ∷ fs) (false ∷ stored) mark may unmarked name = none_marked fs stored (with_updates mark f) (λ k g. may (suc k) g) next name
  where
    next : (n : List ℕ) → with_updates mark f n ≡ false
    next n =
        let updates : has_updates f.changes ≡ false = ap has_updates (may 0 f refl refl) in
        let calls : calls_some mark f.value ≡ false = no_call mark f.value (every_call (λ n at. mark n ≡ false) (λ n at. unmarked n) f.value) in
        let pick : Bool → Bool = λ b. elim b [ true ↦ has_updates f.changes || calls_some mark f.value | false ↦ mark n ] in
        elim (some_bool (same_name f.name n)) [
          | inl t ↦ ap pick t ∙ (λ i. updates i || calls i)
          | inr t ↦ ap pick t ∙ unmarked n
        ]
