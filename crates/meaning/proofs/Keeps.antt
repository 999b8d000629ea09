-- To put calls in keeps the value and the type, for any replacement that is right.
use Rattle.std.proofs.Common.{◌≡◌, ◌==◌, ℕ, suc, ◌+◌, Bool, true, false, List, [], ◌∷◌, length, Option, Some, IsTrue, ℤ, refl, sym, ap, ◌∙◌, arith, inl, inr, ◌&&◌}
use Rattle.std.specs.Prelude.{slice_get, All, if◌then◌else◌, not, ◌||◌, is_some}
use Rattle.std.proofs.lemmas.Bool.{false≢true}
use Rattle.std.proofs.lemmas.List.Elements.{All-weaker}
use Rattle.numeric.specs.declared.ty.Ty.{Ty}
use Rattle.numeric.specs.declared.ty.Ty.TheVariants.{I32}
use Rattle.numeric.specs.Wrap.{wrap}
use Rattle.numeric.specs.Apply.{compare}
use Rattle.tree.specs.declared.value.Value.{Value}
use Rattle.tree.specs.Term.{Term, Number, Name, Call, Minus, Binary, Clamp, Cast, Choice, Terms, End, More, Test, Compares, Fails, Both, Either}
use Rattle.tree.specs.Meaning.{value_of, holds, numbers_of, typed, negated, applied, clamped}
use Rattle.tree.specs.Typing.{common, only_if, cast_type, operator_type, is_index, answer_type, index_count, type_of, is_typed, are_indices}
use Rattle.tree.specs.Uses.{variables_of, EachCall, EachCallOfTest, EachCallOfAll}
use Rattle.tree.specs.Substitution.{put_in as put_in_name, number_put_in, substituted, updated, with_calls, test_with_calls, all_with_calls}
use Rattle.tree.proofs.Substitution.{value_of-substituted}
use Rattle.tree.proofs.Uses.{each_call, same_use, SameAnswer}
use Rattle.meaning.specs.Algorithm.{Function}
use Rattle.meaning.specs.Names.{same_name, is_among, bound}
use Rattle.meaning.specs.Value.{Calls, pure_value}
use Rattle.meaning.proofs.Cases.{same_name_is}
use Rattle.meaning.specs.Inlining.PutIn.{Replacement, index_for, over_unstored, with_definition, with_definitions, calls_some, has_updates, with_updates}
use Rattle.meaning.proofs.Marks.{neither_of, no_updates, calls_none}
use Rattle.meaning.proofs.InliningTyped.{some_is, only_if-is, common-is, operator-is, some-is, both_true, index-is, answer-is, some_bool, AnswersTyped, type_is, type_of-put_in}

pub same_count : (r : Replacement) (at : Terms) → index_count (all_with_calls r at) ≡ index_count at
same_count r End = refl
same_count r (More a rest) = ap (λ n. 1 + n) (same_count r rest)

-- values
module _ (signature : List ℕ → Option (Ty × ℕ)) (calls : Calls) (answers : AnswersTyped signature calls) where
  -- indices whose values are of the type of indices
  abbrev pub AreIndices : (List ℕ → ℤ) → Terms → Type 0
  AreIndices variables End = Unit {0}
  AreIndices variables (More a rest) = ((value_of variables calls a).ty ≡ I32) × AreIndices variables rest

  -- what stands for a call of a name without the mark has its value
  abbrev pub IsRight : (List ℕ → Bool) → Replacement → Type 0
  IsRight mark r = (variables : List ℕ → ℤ) (name : List ℕ) (at : Terms) (s : Ty × ℕ) → mark name ≡ false → signature name ≡ Some s → s.1 ≡ index_count at → AreIndices variables at →
      value_of variables calls (r name at) ≡ calls name (numbers_of variables calls at)

  module _ (mark : List ℕ → Bool) (r : Replacement) (right : IsRight mark r) (variables : List ℕ → ℤ) (known : List ℕ → Bool) where
    mutual
      pub keeps : (e : Term) (t : Ty) → type_of known signature e ≡ Some t → EachCall (λ name at. mark name ≡ false) e → value_of variables calls (with_calls r e) ≡ value_of variables calls e
      keeps (Number u n) t e m = refl
      keeps (Name name) t e m = refl
      keeps (Call name at) t e m =
          let s = only_if-is (are_indices known signature at) (answer_type (signature name) (index_count at)) t e in
          let q = answer-is (signature name) (index_count at) t s.1 in
          let k = keeps_all at s.0 m.1 in
          right variables name (all_with_calls r at) q.0 m.0 q.1 (q.2 ∙ sym (same_count r at)) k.1 ∙ ap (calls name) k.0
      keeps (Minus a) t e m = ap negated (keeps a t e m)
      keeps (Binary op a b) t e m =
          let s = operator-is op (common (type_of known signature a) (type_of known signature b)) t e in
          let c = common-is (type_of known signature a) (type_of known signature b) s.0 s.1 in
          λ i. applied op (keeps a s.0 c.0 m.0 i) (keeps b s.0 c.1 m.1 i)
      keeps (Clamp a l h) t e m =
          let s = common-is (type_of known signature a) (common (type_of known signature l) (type_of known signature h)) t e in
          let c = common-is (type_of known signature l) (type_of known signature h) t s.1 in
          λ i. clamped (keeps a t s.0 m.0 i) (keeps l t c.0 m.1 i) (keeps h t c.1 m.2 i)
      keeps (Cast u a) t e m =
          let s = only_if-is (is_some (type_of known signature a)) (Some u) t e in
          let o = some-is (type_of known signature a) s.0 in
          ap (λ (v : Value). typed u (wrap u v.number)) (keeps a o.0 o.1 m)
      keeps (Choice c a b) t e m =
          let s = only_if-is (is_typed known signature c) (common (type_of known signature a) (type_of known signature b)) t e in
          let arms = common-is (type_of known signature a) (type_of known signature b) t s.1 in
          λ i. if keeps_test c s.0 m.0 i then keeps a t arms.0 m.1 i else keeps b t arms.1 m.2 i

      keeps_test : (c : Test) → is_typed known signature c ≡ true → EachCallOfTest (λ name at. mark name ≡ false) c → holds variables calls (test_with_calls r c) ≡ holds variables calls c
      keeps_test (Compares by a b) e m =
          let o = some-is (common (type_of known signature a) (type_of known signature b)) e in
          let s = common-is (type_of known signature a) (type_of known signature b) o.0 o.1 in
          λ i. compare by (keeps a o.0 s.0 m.0 i).number (keeps b o.0 s.1 m.1 i).number
      keeps_test (Fails c) e m = ap not (keeps_test c e m)
      keeps_test (Both c d) e m = let b = both_true (is_typed known signature c) (is_typed known signature d) e in λ i. keeps_test c b.0 m.0 i && keeps_test d b.1 m.1 i
      keeps_test (Either c d) e m = let b = both_true (is_typed known signature c) (is_typed known signature d) e in λ i. keeps_test c b.0 m.0 i || keeps_test d b.1 m.1 i

      keeps_all : (at : Terms) → are_indices known signature at ≡ true → EachCallOfAll (λ name at. mark name ≡ false) at → (numbers_of variables calls (all_with_calls r at) ≡ numbers_of variables calls at) × AreIndices variables (all_with_calls r at)
      keeps_all End e m = (refl, tt)
      keeps_all (More a rest) e m =
          let b = both_true (is_index (type_of known signature a)) (are_indices known signature rest) e in
          let i32 = index-is (type_of known signature a) b.0 in
          let same = keeps a I32 i32 m.0 in
          let later = keeps_all rest b.1 m.1 in
          let ty = ap (λ (v : Value). v.ty) same ∙ type_is variables known signature calls answers a I32 i32 in
          ((λ i. (same i).number ∷ later.0 i), (ty, later.1))

  -- the indices put in for variables have the numbers that are bound to them
  numbers_bound : (variables : List ℕ → ℤ) (names : List (List ℕ)) (at : Terms) (name : List ℕ) → length names ≡ index_count at → is_among names name ≡ true →
      updated variables calls (index_for names at) name ≡ bound names (numbers_of variables calls at) name
  numbers_bound variables [] End name e m = absurd (false≢true m)
  numbers_bound variables [] (More a rest) name e m = absurd (false≢true m)
  numbers_bound variables (x ∷ xs) End name e m = absurd (omega arith)
  numbers_bound variables (x ∷ xs) (More a rest) name e m =
      let put : Bool → ℤ = λ b. number_put_in variables calls (elim b [ true ↦ Some a | false ↦ index_for xs rest name ]) name in
      let get : Bool → ℤ = λ b. elim b [ true ↦ (value_of variables calls a).number | false ↦ bound xs (numbers_of variables calls rest) name ] in
      elim (some_bool (same_name x name)) [
        | inl h ↦ ap put h ∙ sym (ap get h)
        | inr h ↦
            let later : is_among xs name ≡ true = ap (λ b. b || is_among xs name) (sym h) ∙ m in
            ap put h ∙ numbers_bound variables xs rest name (omega arith) later ∙ sym (ap get h)
      ]

  indices_typed : (variables : List ℕ → ℤ) (names : List (List ℕ)) (at : Terms) (name : List ℕ) (u : Term) → AreIndices variables at → index_for names at name ≡ Some u → (value_of variables calls u).ty ≡ I32
  indices_typed variables [] End name u h e = absurd (cc)
  indices_typed variables [] (More a rest) name u h e = absurd (cc)
  indices_typed variables (x ∷ xs) End name u h e = absurd (cc)
  indices_typed variables (x ∷ xs) (More a rest) name u h e =
      let pick : Bool → Option Term = λ b. elim b [ true ↦ Some a | false ↦ index_for xs rest name ] in
      elim (some_bool (same_name x name)) [
        | inl t ↦ let same : a ≡ u = some_is (sym (ap pick t) ∙ e) in ap (λ (v : Term). (value_of variables calls v).ty) (sym same) ∙ h.0
        | inr t ↦ indices_typed variables xs rest name u h.1 (sym (ap pick t) ∙ e)
      ]

  -- a function that can be put in where it has no updates: its calls then give its pure definition
  pub record CanPutIn (f : Function) : Type 0 where
    pub declared : signature f.name ≡ Some (f.ty, length f.variables)
    pub has_type : type_of (is_among f.variables) signature f.value ≡ Some f.ty
    pub named : All (λ name. IsTrue (is_among f.variables name)) (variables_of f.value)
    pub defined : f.changes ≡ [] → (at : List ℤ) → calls f.name at ≡ typed f.ty (pure_value calls f at)

  right_with : (mark : List ℕ → Bool) (r : Replacement) (f : Function) → IsRight mark r → CanPutIn f → IsRight (with_updates mark f) (with_definition r f)
  right_with mark r f right can variables name at s m e count indices =
      let comes : Bool → Bool = λ b. elim b [ true ↦ has_updates f.changes || calls_some mark f.value | false ↦ mark name ] in
      let pick : Bool → Term = λ b. elim b [ true ↦ substituted (index_for f.variables at) (with_calls r f.value) | false ↦ r name at ] in
      elim (some_bool (same_name f.name name)) [
        | inl t ↦
            let named = same_name_is f.name name t in
            let neither = neither_of (has_updates f.changes) (calls_some mark f.value) (sym (ap comes t) ∙ m) in
            let map = index_for f.variables at in
            let numbers = numbers_of variables calls at in
            let after = updated variables calls map in
            let same : (f.ty, length f.variables) ≡ s = some_is (sym can.declared ∙ ap signature named ∙ e) in
            let counted : length f.variables ≡ index_count at = ap (λ (x : Ty × ℕ). x.1) same ∙ count in
            let bounds : All (λ n. after n ≡ bound f.variables numbers n) (variables_of f.value) =
            All-weaker (λ n. IsTrue (is_among f.variables n)) (λ n. after n ≡ bound f.variables numbers n) (λ n h. numbers_bound variables f.variables at n counted h) (variables_of f.value) can.named in
            let one = value_of-substituted variables calls map (λ n u. indices_typed variables f.variables at n u indices) (with_calls r f.value) in
            let two = keeps mark r right after (is_among f.variables) f.value f.ty can.has_type (calls_none mark f.value neither.1) in
            let three = (same_use after (bound f.variables numbers) calls calls f.value bounds (each_call (SameAnswer after (bound f.variables numbers) calls calls) (λ n ps. refl) f.value)).value in
            let ty = type_is (bound f.variables numbers) (is_among f.variables) signature calls answers f.value f.ty can.has_type in
            let four : value_of (bound f.variables numbers) calls f.value ≡ typed f.ty (pure_value calls f numbers) = λ i. typed (ty i) (pure_value calls f numbers) in
            ap (λ (x : Term). value_of variables calls x) (ap pick t) ∙ one ∙ two ∙ three ∙ four ∙ sym (can.defined (no_updates f.changes neither.0) numbers) ∙ ap (λ n. calls n numbers) named
        | inr t ↦ ap (λ (x : Term). value_of variables calls x) (ap pick t) ∙ right variables name at s (sym (ap comes t) ∙ m) e count indices
      ]

  pub right_with_all : (mark : List ℕ → Bool) (r : Replacement) (fs : List Function) (stored : List Bool) → IsRight mark r → ((k : ℕ) (f : Function) → slice_get fs k ≡ Some f → CanPutIn f) →
      IsRight (over_unstored with_updates mark fs stored) (with_definitions r fs stored)
  right_with_all mark r [] stored right can = right
  right_with_all mark r (f ∷ fs) [] right can = right
  right_with_all mark r (f ∷ fs) (true ∷ stored) right can = right_with_all mark r fs stored right (λ k g. can (suc k) g)
  right_with_all mark r (f ∷ fs) (false ∷ stored) right can = right_with_all (with_updates mark f) (with_definition r f) fs stored (right_with mark r f right (can 0 f refl)) (λ k g. can (suc k) g)

-- types
module _ (signature : List ℕ → Option (Ty × ℕ)) where
  -- what stands for a call has its type
  abbrev pub HasCallsType : Replacement → Type 0
  HasCallsType r = (known : List ℕ → Bool) (name : List ℕ) (at : Terms) (s : Ty × ℕ) → signature name ≡ Some s → s.1 ≡ index_count at → are_indices known signature at ≡ true →
      type_of known signature (r name at) ≡ Some s.0

  module _ (r : Replacement) (right : HasCallsType r) (known : List ℕ → Bool) where
    mutual
      pub keeps_type : (e : Term) (t : Ty) → type_of known signature e ≡ Some t → type_of known signature (with_calls r e) ≡ type_of known signature e
      keeps_type (Number u n) t e = refl
      keeps_type (Name name) t e = refl
      keeps_type (Call name at) t e =
          let s = only_if-is (are_indices known signature at) (answer_type (signature name) (index_count at)) t e in
          let q = answer-is (signature name) (index_count at) t s.1 in
          right known name (all_with_calls r at) q.0 q.1 (q.2 ∙ sym (same_count r at)) (keeps_indices at s.0 ∙ s.0) ∙ ap Some q.3 ∙ sym e
      keeps_type (Minus a) t e = keeps_type a t e
      keeps_type (Binary op a b) t e =
          let s = operator-is op (common (type_of known signature a) (type_of known signature b)) t e in
          let c = common-is (type_of known signature a) (type_of known signature b) s.0 s.1 in
          λ i. operator_type op (common (keeps_type a s.0 c.0 i) (keeps_type b s.0 c.1 i))
      keeps_type (Clamp a l h) t e =
          let s = common-is (type_of known signature a) (common (type_of known signature l) (type_of known signature h)) t e in
          let c = common-is (type_of known signature l) (type_of known signature h) t s.1 in
          λ i. common (keeps_type a t s.0 i) (common (keeps_type l t c.0 i) (keeps_type h t c.1 i))
      keeps_type (Cast u a) t e =
          let s = only_if-is (is_some (type_of known signature a)) (Some u) t e in
          let o = some-is (type_of known signature a) s.0 in
          ap (cast_type u) (keeps_type a o.0 o.1)
      keeps_type (Choice c a b) t e =
          let s = only_if-is (is_typed known signature c) (common (type_of known signature a) (type_of known signature b)) t e in
          let arms = common-is (type_of known signature a) (type_of known signature b) t s.1 in
          λ i. only_if (keeps_typed c s.0 i) (common (keeps_type a t arms.0 i) (keeps_type b t arms.1 i))

      keeps_typed : (c : Test) → is_typed known signature c ≡ true → is_typed known signature (test_with_calls r c) ≡ is_typed known signature c
      keeps_typed (Compares by a b) e =
          let o = some-is (common (type_of known signature a) (type_of known signature b)) e in
          let s = common-is (type_of known signature a) (type_of known signature b) o.0 o.1 in
          λ i. is_some (common (keeps_type a o.0 s.0 i) (keeps_type b o.0 s.1 i))
      keeps_typed (Fails c) e = keeps_typed c e
      keeps_typed (Both c d) e = let b = both_true (is_typed known signature c) (is_typed known signature d) e in λ i. keeps_typed c b.0 i && keeps_typed d b.1 i
      keeps_typed (Either c d) e = let b = both_true (is_typed known signature c) (is_typed known signature d) e in λ i. keeps_typed c b.0 i && keeps_typed d b.1 i

      keeps_indices : (at : Terms) → are_indices known signature at ≡ true → are_indices known signature (all_with_calls r at) ≡ are_indices known signature at
      keeps_indices End e = refl
      keeps_indices (More a rest) e =
          let b = both_true (is_index (type_of known signature a)) (are_indices known signature rest) e in
          λ i. is_index (keeps_type a I32 (index-is (type_of known signature a) b.0) i) && keeps_indices rest b.1 i

  -- an index is an i32
  index_fits : (known : List ℕ → Bool) (names : List (List ℕ)) (at : Terms) (name : List ℕ) → length names ≡ index_count at → are_indices known signature at ≡ true → is_among names name ≡ true →
      type_of known signature (put_in_name (index_for names at name) name) ≡ Some I32
  index_fits known [] End name e h m = absurd (false≢true m)
  index_fits known [] (More a rest) name e h m = absurd (false≢true m)
  index_fits known (x ∷ xs) End name e h m = absurd (omega arith)
  index_fits known (x ∷ xs) (More a rest) name e h m =
      let put : Bool → Option Ty = λ b. type_of known signature (put_in_name (elim b [ true ↦ Some a | false ↦ index_for xs rest name ]) name) in
      let both = both_true (is_index (type_of known signature a)) (are_indices known signature rest) h in
      elim (some_bool (same_name x name)) [
        | inl t ↦ ap put t ∙ index-is (type_of known signature a) both.0
        | inr t ↦
            let later : is_among xs name ≡ true = ap (λ b. b || is_among xs name) (sym t) ∙ m in
            ap put t ∙ index_fits known xs rest name (omega arith) both.1 later
      ]

  -- a function whose definition has its type
  pub record IsOfItsType (f : Function) : Type 0 where
    pub declared : signature f.name ≡ Some (f.ty, length f.variables)
    pub has_type : type_of (is_among f.variables) signature f.value ≡ Some f.ty

  type_with : (r : Replacement) (f : Function) → HasCallsType r → IsOfItsType f → HasCallsType (with_definition r f)
  type_with r f right of_type known name at s e count indices =
      let pick : Bool → Term = λ b. elim b [ true ↦ substituted (index_for f.variables at) (with_calls r f.value) | false ↦ r name at ] in
      elim (some_bool (same_name f.name name)) [
        | inl t ↦
            let named = same_name_is f.name name t in
            let same : (f.ty, length f.variables) ≡ s = some_is (sym of_type.declared ∙ ap signature named ∙ e) in
            let counted : length f.variables ≡ index_count at = ap (λ (x : Ty × ℕ). x.1) same ∙ count in
            let inner = keeps_type r right (is_among f.variables) f.value f.ty of_type.has_type ∙ of_type.has_type in
            let outer = type_of-put_in known (is_among f.variables) signature (index_for f.variables at) (λ n m. index_fits known f.variables at n counted indices m) (with_calls r f.value) f.ty inner in
            ap (λ (x : Term). type_of known signature x) (ap pick t) ∙ outer ∙ inner ∙ ap (λ (x : Ty × ℕ). Some x.0) same
        | inr t ↦ ap (λ (x : Term). type_of known signature x) (ap pick t) ∙ right known name at s e count indices
      ]

  pub type_with_all : (r : Replacement) (fs : List Function) (stored : List Bool) → HasCallsType r → ((k : ℕ) (f : Function) → slice_get fs k ≡ Some f → IsOfItsType f) → HasCallsType (with_definitions r fs stored)
  type_with_all r [] stored right can = right
  type_with_all r (f ∷ fs) [] right can = right
  type_with_all r (f ∷ fs) (true ∷ stored) right can = type_with_all r fs stored right (λ k g. can (suc k) g)
  type_with_all r (f ∷ fs) (false ∷ stored) right can = type_with_all (with_definition r f) fs stored (type_with r f right (can 0 f refl)) (λ k g. can (suc k) g)

  pub calls_have_types : HasCallsType Call
  calls_have_types known name at s e count indices =
      let typed : answer_type (Some s) (index_count at) ≡ Some s.0 = ap (λ n. only_if (s.1 == n) (Some s.0)) (sym count) ∙ ap (λ b. only_if b (Some s.0)) (same s.1) in
      (λ i. only_if (indices i) (answer_type (e i) (index_count at))) ∙ typed
    where
      same : (n : ℕ) → (n == n) ≡ true
      same n = grind arith
