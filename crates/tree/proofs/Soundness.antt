-- Values are of their type, and typed expressions make only calls that can be made.
use Rattle.std.proofs.Common.{◌≡◌, ℕ, ◌≤◌, ℤ, List, [], ◌∷◌, ◌++◌, length, subst, Bool, true, false, Option, Some, IsSome, IsTrue, All, refl, sym, ap, ◌∙◌, arith, if◌then◌else◌}
use Rattle.std.proofs.lemmas.Int.{ints, clamps}
use Rattle.std.proofs.lemmas.List.Elements.{All-nil, All-cons, All-append}
use Rattle.std.specs.Int.{int_min, int_max}
use Rattle.std.specs.Prelude.{is_some, neg_ℤ}
use Rattle.numeric.specs.declared.ty.Ty.{Ty}
use Rattle.numeric.specs.declared.ty.Ty.TheVariants.{I32}
use Rattle.numeric.specs.Wrap.{IsOf}
use Rattle.numeric.specs.Apply.{exact, result_type}
use Rattle.numeric.proofs.Wraps.{wraps_to}
use Rattle.tree.specs.declared.value.Value.{Value}
use Rattle.tree.specs.Term.{Term, Number, Name, Call, Minus, Binary, Clamp, Cast, Choice, Terms, End, More, Test, Compares, Fails, Both, Either}
use Rattle.tree.specs.Names.{TakesCall, IsIndex, AreAsTold}
use Rattle.tree.specs.Typing.{common, only_if, is_of, is_index, answer_type, index_count, type_of, is_typed, are_indices, operator_type, HasFewIndices}
use Rattle.tree.specs.Meaning.{value_of, holds, numbers_of}
use Rattle.tree.specs.Uses.{Asked, asked, calls_made, calls_made_by_test, calls_made_by_all, EachCall, EachCallOfTest, EachCallOfAll}
use Rattle.tree.specs.Laws.{CanBeAsked, DoesAsTyped}
use Rattle.tree.proofs.Typed.{some_only_if, some_common, both_true, is_of-true, some_answer, index-is, some_of, some_same, same_shape, some_operator, FewIndices}
use Rattle.tree.proofs.Uses.{each_call-weaker}

clamped_within : (t : Ty) (a l h : ℤ) → IsOf t a → IsOf t l → IsOf t h → IsOf t (int_max (int_min a h) l)
clamped_within t a l h p q r = record { from = omega (arith, ints, clamps, p.from, p.to, q.from, q.to, r.from, r.to); to = omega (arith, ints, clamps, p.from, p.to, q.from, q.to, r.from, r.to) }

module _ (known : List ℕ → Bool) (functions : List ℕ → Option (Ty × ℕ)) where
  abbrev Known : List ℕ → Terms → Type 0
  Known name at = TakesCall (functions name) (index_count at)

  mutual
    known_calls : (a : Term) → IsSome (type_of known functions a) → EachCall Known a
    known_calls (Number t n) h = tt
    known_calls (Name name) h = tt
    known_calls (Call name at) h =
        let answer = answer_type (functions name) (index_count at) in
        let s = some_only_if (are_indices known functions at) answer h in
        let t = some_answer (functions name) (index_count at) (some_of (only_if (are_indices known functions at) answer) answer s.1 h) in
        (t.takes, known_calls_of_all at s.0)
    known_calls (Minus a) h = known_calls a h
    known_calls (Binary op a b) h =
        let both = some_operator op (common (type_of known functions a) (type_of known functions b)) h in
        let s = some_common (type_of known functions a) (type_of known functions b) both in
        let some = some_of _ _ s.is both in
        (known_calls a some, known_calls b (some_of _ _ s.same some))
    known_calls (Clamp a l u) h =
        let s = some_common (type_of known functions a) (common (type_of known functions l) (type_of known functions u)) h in
        let some = some_of _ _ s.is h in
        let both = some_common (type_of known functions l) (type_of known functions u) (some_of _ _ s.same some) in
        let low = some_of _ _ (s.same ∙ both.is) some in
        (known_calls a some, known_calls l low, known_calls u (some_of _ _ both.same low))
    known_calls (Cast t a) h = known_calls a (some_only_if (is_some (type_of known functions a)) (Some t) h).0
    known_calls (Choice c a b) h =
        let arms = common (type_of known functions a) (type_of known functions b) in
        let g = some_only_if (is_typed known functions c) arms h in
        let some_arms = some_of _ arms g.1 h in
        let s = some_common (type_of known functions a) (type_of known functions b) some_arms in
        let some = some_of _ _ s.is some_arms in
        (known_calls_of_test c g.0, known_calls a some, known_calls b (some_of _ _ s.same some))

    known_calls_of_test : (c : Test) → IsTrue (is_typed known functions c) → EachCallOfTest Known c
    known_calls_of_test (Compares by a b) h =
        let s = some_common (type_of known functions a) (type_of known functions b) h in
        let some = some_of _ _ s.is h in
        (known_calls a some, known_calls b (some_of _ _ s.same some))
    known_calls_of_test (Fails c) h = known_calls_of_test c h
    known_calls_of_test (Both c d) h = let b = both_true (is_typed known functions c) (is_typed known functions d) h in (known_calls_of_test c b.0, known_calls_of_test d b.1)
    known_calls_of_test (Either c d) h = let b = both_true (is_typed known functions c) (is_typed known functions d) h in (known_calls_of_test c b.0, known_calls_of_test d b.1)

    known_calls_of_all : (at : Terms) → IsTrue (are_indices known functions at) → EachCallOfAll Known at
    known_calls_of_all End h = tt
    known_calls_of_all (More a rest) h =
        let b = both_true (is_index (type_of known functions a)) (are_indices known functions rest) h in
        (known_calls a (some_of _ _ (sym (index-is (type_of known functions a) b.0)) refl), known_calls_of_all rest b.1)

  pub few_indices : ((name : List ℕ) (count : ℕ) → TakesCall (functions name) count → count ≤ 4) → (a : Term) → IsSome (type_of known functions a) → HasFewIndices a
  few_indices few a h = each_call-weaker Known FewIndices (λ name at k. few name (index_count at) k) a (known_calls a h)

module _ (known : List ℕ → Bool) (functions : List ℕ → Option (Ty × ℕ)) (variables : List ℕ → ℤ) (answers : List ℕ → List ℤ → Value) (told : AreAsTold known functions variables answers) where
  record Sound (a : Term) : Type 0 where
    is : type_of known functions a ≡ Some (value_of variables answers a).ty
    within : IsOf (value_of variables answers a).ty (value_of variables answers a).number
    calls : All (CanBeAsked functions) (calls_made variables answers a)

  abbrev OfTest : Test → Type 0
  OfTest c = All (CanBeAsked functions) (calls_made_by_test variables answers c)

  record SoundIndices (at : Terms) : Type 0 where
    count : length (numbers_of variables answers at) ≡ index_count at
    within : All IsIndex (numbers_of variables answers at)
    calls : All (CanBeAsked functions) (calls_made_by_all variables answers at)

  -- the calls of two parts, and of three
  two : (xs ys : List Asked) → All (CanBeAsked functions) xs → All (CanBeAsked functions) ys → All (CanBeAsked functions) (xs ++ ys)
  two xs ys = All-append (CanBeAsked functions) xs ys

  three : (xs ys zs : List Asked) → All (CanBeAsked functions) xs → All (CanBeAsked functions) ys → All (CanBeAsked functions) zs → All (CanBeAsked functions) (xs ++ ys ++ zs)
  three xs ys zs p q r = two (xs ++ ys) zs (two xs ys p q) r

  record Chosen (t : Ty) (v : Value) : Type 0 where
    ty : v.ty ≡ t
    within : IsOf v.ty v.number

  chosen : (b : Bool) (t : Ty) (v w : Value) → v.ty ≡ t → w.ty ≡ t → IsOf v.ty v.number → IsOf w.ty w.number → Chosen t (if b then v else w)
  chosen true t v w e f p q = record { ty = e; within = p }
  chosen false t v w e f p q = record { ty = f; within = q }

  mutual
    sound : (a : Term) → IsSome (type_of known functions a) → Sound a
    sound (Number t n) h = let s = some_only_if (is_of t n) (Some t) h in record { is = s.1; within = is_of-true t n s.0; calls = All-nil (CanBeAsked functions) }
    sound (Name name) h = let s = some_only_if (known name) (Some I32) h in record { is = s.1; within = told.variables_within name s.0; calls = All-nil (CanBeAsked functions) }
    sound (Call name at) h =
        let answer = answer_type (functions name) (index_count at) in
        let s = some_only_if (are_indices known functions at) answer h in
        let t = some_answer (functions name) (index_count at) (some_of (only_if (are_indices known functions at) answer) answer s.1 h) in
        let i = sound_indices at s.0 in
        let zs = numbers_of variables answers at in
        let takes = subst (TakesCall (functions name)) (sym i.count) t.takes in
        let v = told.answers_within name zs takes i.within in
        let this : CanBeAsked functions (asked name zs) = record { known = takes; indices = i.within } in
        record {
          is = s.1 ∙ t.is ∙ ap Some (sym v.ty);
          within = subst (λ k. IsOf k (answers name zs).number) (sym v.ty) v.within;
          calls = two (calls_made_by_all variables answers at) (asked name zs ∷ []) i.calls (All-cons (CanBeAsked functions) (asked name zs) [] this (All-nil (CanBeAsked functions)));
        }
    sound (Minus a) h =
        let s = sound a h in
        let v = value_of variables answers a in
        record { is = s.is; within = (wraps_to v.ty (neg_ℤ v.number)).within; calls = s.calls }
    sound (Binary op a b) h =
        let both = some_operator op (common (type_of known functions a) (type_of known functions b)) h in
        let s = some_common (type_of known functions a) (type_of known functions b) both in
        let some = some_of _ _ s.is both in
        let r = sound a some in
        let q = sound b (some_of _ _ s.same some) in
        let v = value_of variables answers a in
        let w = value_of variables answers b in
        record {
          is = ap (operator_type op) (s.is ∙ r.is);
          within = (wraps_to (result_type op v.ty) (exact op v.number w.number)).within;
          calls = two (calls_made variables answers a) (calls_made variables answers b) r.calls q.calls;
        }
    sound (Clamp a l u) h =
        let s = some_common (type_of known functions a) (common (type_of known functions l) (type_of known functions u)) h in
        let some = some_of _ _ s.is h in
        let both = some_common (type_of known functions l) (type_of known functions u) (some_of _ _ s.same some) in
        let low = some_of _ _ (s.same ∙ both.is) some in
        let r = sound a some in
        let p = sound l low in
        let q = sound u (some_of _ _ both.same low) in
        let v = value_of variables answers a in
        let x = value_of variables answers l in
        let y = value_of variables answers u in
        let e = same_shape _ _ _ _ r.is p.is (s.same ∙ both.is) in
        let f = same_shape _ _ _ _ r.is q.is (s.same ∙ both.is ∙ both.same) in
        record {
          is = s.is ∙ r.is;
          within = clamped_within v.ty v.number x.number y.number r.within (subst (λ k. IsOf k x.number) (sym e) p.within) (subst (λ k. IsOf k y.number) (sym f) q.within);
          calls = three (calls_made variables answers a) (calls_made variables answers l) (calls_made variables answers u) r.calls p.calls q.calls;
        }
    sound (Cast t a) h =
        let s = some_only_if (is_some (type_of known functions a)) (Some t) h in
        let r = sound a s.0 in
        record { is = s.1; within = (wraps_to t (value_of variables answers a).number).within; calls = r.calls }
    sound (Choice c a b) h =
        let arms = common (type_of known functions a) (type_of known functions b) in
        let g = some_only_if (is_typed known functions c) arms h in
        let some_arms = some_of _ arms g.1 h in
        let s = some_common (type_of known functions a) (type_of known functions b) some_arms in
        let some = some_of _ _ s.is some_arms in
        let r = sound a some in
        let q = sound b (some_of _ _ s.same some) in
        let v = value_of variables answers a in
        let w = value_of variables answers b in
        let e = same_shape _ _ _ _ r.is q.is s.same in
        let k = chosen (holds variables answers c) v.ty v w refl (sym e) r.within q.within in
        record {
          is = g.1 ∙ s.is ∙ r.is ∙ ap Some (sym k.ty);
          within = k.within;
          calls = three (calls_made_by_test variables answers c) (calls_made variables answers a) (calls_made variables answers b) (sound_test c g.0) r.calls q.calls;
        }

    sound_test : (c : Test) → IsTrue (is_typed known functions c) → OfTest c
    sound_test (Compares by a b) h =
        let s = some_common (type_of known functions a) (type_of known functions b) h in
        let some = some_of _ _ s.is h in
        two (calls_made variables answers a) (calls_made variables answers b) (sound a some).calls (sound b (some_of _ _ s.same some)).calls
    sound_test (Fails c) h = sound_test c h
    sound_test (Both c d) h =
        let b = both_true (is_typed known functions c) (is_typed known functions d) h in
        two (calls_made_by_test variables answers c) (calls_made_by_test variables answers d) (sound_test c b.0) (sound_test d b.1)
    sound_test (Either c d) h =
        let b = both_true (is_typed known functions c) (is_typed known functions d) h in
        two (calls_made_by_test variables answers c) (calls_made_by_test variables answers d) (sound_test c b.0) (sound_test d b.1)

    sound_indices : (at : Terms) → IsTrue (are_indices known functions at) → SoundIndices at
    sound_indices End h = record { count = refl; within = All-nil IsIndex; calls = All-nil (CanBeAsked functions) }
    sound_indices (More a rest) h =
        let b = both_true (is_index (type_of known functions a)) (are_indices known functions rest) h in
        let i = index-is (type_of known functions a) b.0 in
        let r = sound a (some_of _ _ (sym i) refl) in
        let more = sound_indices rest b.1 in
        let v = value_of variables answers a in
        let ty : v.ty ≡ I32 = some_same (sym r.is ∙ i) in
        record {
          count = omega (arith, more.count);
          within = All-cons IsIndex v.number (numbers_of variables answers rest) (subst (λ k. IsOf k v.number) ty r.within) more.within;
          calls = two (calls_made variables answers a) (calls_made_by_all variables answers rest) r.calls more.calls;
        }

  pub does_as_typed : (a : Term) (t : Ty) → type_of known functions a ≡ Some t → DoesAsTyped functions variables answers t a
  does_as_typed a t h =
      let s = sound a (some_of _ _ (sym h) refl) in
      let v = value_of variables answers a in
      let ty : v.ty ≡ t = some_same (sym s.is ∙ h) in
      record { value = record { ty = ty; within = subst (λ k. IsOf k v.number) ty s.within }; calls = s.calls }
