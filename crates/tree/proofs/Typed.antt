-- What a typed expression's parts are.
use Rattle.std.proofs.Common.{◌≡◌, ◌==◌, ℕ, ◌≤◌, ℤ, List, subst, Bool, true, false, Option, Some, None, IsSome, IsTrue, refl, sym, ap, ◌∙◌, arith, ◌&&◌}
use Rattle.std.proofs.lemmas.Bool.{false≢true}
use Rattle.numeric.specs.declared.ty.Ty.{Ty}
use Rattle.numeric.specs.declared.ty.Ty.TheVariants.{U8, U16, U32, I8, I16, I32}
use Rattle.tree.specs.Typing.{same_type, common, only_if, is_of, is_index, answer_type, index_count, type_of, is_typed, are_indices, shape_type, CanEvaluate, CanDecide, AreEvaluable, operator_type, HasFewIndices}
use Rattle.tree.specs.Uses.{EachCallOfTest, EachCallOfAll}
use Rattle.numeric.specs.declared.op.Op.{Op}
use Rattle.tree.specs.Names.{TakesCall, called_type}
use Rattle.tree.specs.Term.{Term, Number, Name, Call, Minus, Binary, Clamp, Cast, Choice, Terms, End, More, Test, Compares, Fails, Both, Either}
use Rattle.numeric.specs.Wrap.{IsOf, least, greatest}
use Rattle.std.specs.Prelude.{is_some, int_le}
use Rattle.std.proofs.lemmas.Int.{ints}
use borrow.Author.Tests.{eqb-true}

pub same_type-true : (t u : Ty) → same_type t u ≡ true → t ≡ u
same_type-true U8 U8 h = refl
same_type-true U16 U16 h = refl
same_type-true U32 U32 h = refl
same_type-true I8 I8 h = refl
same_type-true I16 I16 h = refl
same_type-true I32 I32 h = refl
same_type-true t u h = cc

pub some_only_if : (b : Bool) (o : Option Ty) → IsSome (only_if b o) → IsTrue b × (only_if b o ≡ o)
some_only_if true o h = (refl, refl)
some_only_if false o h = absurd (false≢true h)

-- a common type is the type of both
pub record Shares (o p : Option Ty) : Type 0 where
  pub same : o ≡ p
  pub is : common o p ≡ o

pub some_common : (o p : Option Ty) → IsSome (common o p) → Shares o p
some_common None p h = absurd (false≢true h)
some_common (Some t) None h = absurd (false≢true h)
some_common (Some t) (Some u) h = by (same_type t u) refl
  where
    by : (b : Bool) → same_type t u ≡ b → Shares (Some t) (Some u)
    by true e = record { same = ap Some (same_type-true t u e); is = ap (λ b. only_if b (Some t)) e }
    by false e = absurd (false≢true (rw e at h))

pub both_true : (a b : Bool) → IsTrue (a && b) → IsTrue a × IsTrue b
both_true true true h = (refl, refl)
both_true true false h = absurd (false≢true h)
both_true false b h = absurd (false≢true h)

pub is_of-true : (t : Ty) (n : ℤ) → IsTrue (is_of t n) → IsOf t n
is_of-true t n h = let b = both_true (int_le (least t) n) (int_le n (greatest t)) h in record { from = omega (arith, ints, b.0); to = omega (arith, ints, b.1) }

pub record Answers (f : Option (Ty × ℕ)) (count : ℕ) : Type 0 where
  pub takes : TakesCall f count
  pub is : answer_type f count ≡ Some (called_type f)

pub some_answer : (f : Option (Ty × ℕ)) (count : ℕ) → IsSome (answer_type f count) → Answers f count
some_answer None count h = absurd (false≢true h)
some_answer (Some f) count h =
    let s = some_only_if (f.1 == count) (Some f.0) h in
    record { takes = eqb-true f.1 count s.0; is = s.1 }

pub index-is : (o : Option Ty) → IsTrue (is_index o) → o ≡ Some I32
index-is (Some I32) h = refl
index-is o h = absurd (false≢true h)

pub some_of : (o p : Option Ty) → o ≡ p → IsSome o → IsSome p
some_of o p e h = subst (λ q. IsSome q) e h

pub some_same : {t u : Ty} → Some t ≡ Some u → t ≡ u
some_same e = cc

pub same_shape : (o p : Option Ty) (t u : Ty) → o ≡ Some t → p ≡ Some u → o ≡ p → t ≡ u
same_shape o p t u e f g = cc

pub some_operator : (op : Op) (o : Option Ty) → IsSome (operator_type op o) → IsSome o
some_operator op None h = absurd (false≢true h)
some_operator op (Some t) h = refl

abbrev pub FewIndices : List ℕ → Terms → Type 0
FewIndices name at = index_count at ≤ 4

module _ (vs : List ℕ → Bool) (fs : List ℕ → Option (Ty × ℕ)) where
  -- what a type tells
  pub record Ready (a : Term) : Type 0 where
    pub can : CanEvaluate vs fs a
    pub is : type_of vs fs a ≡ Some (shape_type fs a)

  mutual
    pub ready : (a : Term) → IsSome (type_of vs fs a) → HasFewIndices a → Ready a
    ready (Number t n) h few = let s = some_only_if (is_of t n) (Some t) h in record { can = is_of-true t n s.0; is = s.1 }
    ready (Name name) h few = let s = some_only_if (vs name) (Some I32) h in record { can = s.0; is = s.1 }
    ready (Call name at) h few =
        let answer = answer_type (fs name) (index_count at) in
        let s = some_only_if (are_indices vs fs at) answer h in
        let t = some_answer (fs name) (index_count at) (some_of (only_if (are_indices vs fs at) answer) answer s.1 h) in
        record { can = (t.takes, few.0, all_ready at s.0 few.1); is = s.1 ∙ t.is }
    ready (Minus a) h few = let r = ready a h few in record { can = r.can; is = r.is }
    ready (Binary op a b) h few =
        let both = some_operator op (common (type_of vs fs a) (type_of vs fs b)) h in
        let s = some_common (type_of vs fs a) (type_of vs fs b) both in
        let some = some_of _ _ s.is both in
        let r = ready a some few.0 in
        let q = ready b (some_of _ _ s.same some) few.1 in
        record { can = (r.can, q.can, same_shape _ _ _ _ r.is q.is s.same); is = ap (operator_type op) (s.is ∙ r.is) }
    ready (Clamp a l u) h few =
        let s = some_common (type_of vs fs a) (common (type_of vs fs l) (type_of vs fs u)) h in
        let some = some_of _ _ s.is h in
        let both = some_common (type_of vs fs l) (type_of vs fs u) (some_of _ _ s.same some) in
        let low = some_of _ _ (s.same ∙ both.is) some in
        let r = ready a some few.0 in
        let p = ready l low few.1 in
        let q = ready u (some_of _ _ both.same low) few.2 in
        record {
          can = (r.can, p.can, q.can, same_shape _ _ _ _ r.is p.is (s.same ∙ both.is), same_shape _ _ _ _ r.is q.is (s.same ∙ both.is ∙ both.same));
          is = s.is ∙ r.is;
        }
    ready (Cast t a) h few =
        let s = some_only_if (is_some (type_of vs fs a)) (Some t) h in
        let r = ready a s.0 few in
        record { can = r.can; is = s.1 }
    ready (Choice c a b) h few =
        let arms = common (type_of vs fs a) (type_of vs fs b) in
        let g = some_only_if (is_typed vs fs c) arms h in
        let some_arms = some_of _ arms g.1 h in
        let s = some_common (type_of vs fs a) (type_of vs fs b) some_arms in
        let some = some_of _ _ s.is some_arms in
        let r = ready a some few.1 in
        let q = ready b (some_of _ _ s.same some) few.2 in
        record { can = (test_ready c g.0 few.0, r.can, q.can, same_shape _ _ _ _ r.is q.is s.same); is = g.1 ∙ s.is ∙ r.is }

    test_ready : (c : Test) → IsTrue (is_typed vs fs c) → EachCallOfTest FewIndices c → CanDecide vs fs c
    test_ready (Compares by a b) h few =
        let s = some_common (type_of vs fs a) (type_of vs fs b) h in
        let some = some_of _ _ s.is h in
        let r = ready a some few.0 in
        let q = ready b (some_of _ _ s.same some) few.1 in
        (r.can, q.can, same_shape _ _ _ _ r.is q.is s.same)
    test_ready (Fails c) h few = test_ready c h few
    test_ready (Both c d) h few = let b = both_true (is_typed vs fs c) (is_typed vs fs d) h in (test_ready c b.0 few.0, test_ready d b.1 few.1)
    test_ready (Either c d) h few = let b = both_true (is_typed vs fs c) (is_typed vs fs d) h in (test_ready c b.0 few.0, test_ready d b.1 few.1)

    all_ready : (at : Terms) → IsTrue (are_indices vs fs at) → EachCallOfAll FewIndices at → AreEvaluable vs fs at
    all_ready End h few = few
    all_ready (More a rest) h few =
        let b = both_true (is_index (type_of vs fs a)) (are_indices vs fs rest) h in
        let i = index-is (type_of vs fs a) b.0 in
        let r = ready a (some_of _ _ (sym i) refl) few.0 in
        (r.can, some_same (sym r.is ∙ i), all_ready rest b.1 few.1)
