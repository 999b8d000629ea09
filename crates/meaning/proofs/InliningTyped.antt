-- Types of expressions: what a typed expression's parts are, and how types go with more that can be called.
use Rattle.std.proofs.Common.{◌≡◌, ◌==◌, ℕ, ◌+◌, Bool, true, false, List, Option, Some, None, ℤ, refl, sym, ap, ◌∙◌, ◌⊎◌, inl, inr, ◌&&◌}
use Rattle.std.specs.Prelude.{if◌then◌else◌, is_some}
use Rattle.std.proofs.lemmas.Bool.{false≢true}
use borrow.Author.Tests.{eqb-true}
use Rattle.numeric.specs.declared.ty.Ty.{Ty}
use Rattle.numeric.specs.declared.ty.Ty.TheVariants.{I32}
use Rattle.numeric.specs.declared.op.Op.{Op}
use Rattle.numeric.specs.Apply.{result_type}
use Rattle.tree.specs.declared.value.Value.{Value}
use Rattle.tree.specs.Term.{Term, Number, Name, Call, Minus, Binary, Clamp, Cast, Choice, Terms, End, More, Test, Compares, Fails, Both, Either}
use Rattle.tree.specs.Meaning.{value_of, holds, numbers_of}
use Rattle.tree.specs.Typing.{is_of, same_type, common, only_if, cast_type, operator_type, is_index, answer_type, index_count, type_of, is_typed, are_indices}
use Rattle.tree.specs.Uses.{EachCall, EachCallOfTest, EachCallOfAll}
use Rattle.tree.specs.Substitution.{put_in, substituted, test_substituted, all_substituted}
use Rattle.tree.proofs.Typed.{same_type-true}

pub some_is : {A : Type 0} {x y : A} → Some x ≡ Some y → x ≡ y
some_is e = cc

pub only_if-is : (b : Bool) (o : Option Ty) (t : Ty) → only_if b o ≡ Some t → (b ≡ true) × (o ≡ Some t)
only_if-is true o t e = (refl, e)
only_if-is false o t e = absurd (cc)

pub common-is : (o p : Option Ty) (t : Ty) → common o p ≡ Some t → (o ≡ Some t) × (p ≡ Some t)
common-is None p t e = absurd (cc)
common-is (Some u) None t e = absurd (cc)
common-is (Some u) (Some v) t e =
    let s = only_if-is (same_type u v) (Some u) t e in
    (s.1, ap Some (sym (same_type-true u v s.0)) ∙ s.1)

pub operator-is : (op : Op) (o : Option Ty) (t : Ty) → operator_type op o ≡ Some t → (u : Ty) × (o ≡ Some u) × (result_type op u ≡ t)
operator-is op None t e = absurd (cc)
operator-is op (Some u) t e = let same : result_type op u ≡ t = cc in (u, refl, same)

pub some-is : (o : Option Ty) → is_some o ≡ true → (u : Ty) × (o ≡ Some u)
some-is None e = absurd (false≢true e)
some-is (Some u) e = (u, refl)

pub both_true : (a b : Bool) → (a && b) ≡ true → (a ≡ true) × (b ≡ true)
both_true true b h = (refl, h)
both_true false b h = absurd (false≢true h)

pub index-is : (o : Option Ty) → is_index o ≡ true → o ≡ Some I32
index-is (Some I32) h = refl
index-is o h = absurd (false≢true h)

pub answer-is : (o : Option (Ty × ℕ)) (n : ℕ) (t : Ty) → answer_type o n ≡ Some t → (s : Ty × ℕ) × (o ≡ Some s) × (s.1 ≡ n) × (s.0 ≡ t)
answer-is None n t e = absurd (cc)
answer-is (Some s) n t e = let r = only_if-is (s.1 == n) (Some s.0) t e in (s, refl, eqb-true s.1 n r.0, some_is r.1)

pub some_bool : (b : Bool) → (b ≡ true) ⊎ (b ≡ false)
some_bool true = inl refl
some_bool false = inr refl

-- calls answer with the types that they are declared with
abbrev pub AnswersTyped : (List ℕ → Option (Ty × ℕ)) → (List ℕ → List ℤ → Value) → Type 0
AnswersTyped signature calls = (name : List ℕ) (s : Ty × ℕ) → signature name ≡ Some s → (at : List ℤ) → (calls name at).ty ≡ s.0

module _ (variables : List ℕ → ℤ) (known : List ℕ → Bool) (signature : List ℕ → Option (Ty × ℕ)) (calls : List ℕ → List ℤ → Value) (answers : AnswersTyped signature calls) where
  -- the value of a typed expression has its type
  pub type_is : (e : Term) (t : Ty) → type_of known signature e ≡ Some t → (value_of variables calls e).ty ≡ t
  type_is (Number u n) t e = some_is (only_if-is (is_of u n) (Some u) t e).1
  type_is (Name name) t e = some_is (only_if-is (known name) (Some I32) t e).1
  type_is (Call name at) t e =
      let s = only_if-is (are_indices known signature at) (answer_type (signature name) (index_count at)) t e in
      let r = answer-is (signature name) (index_count at) t s.1 in
      answers name r.0 r.1 (numbers_of variables calls at) ∙ r.3
  type_is (Minus a) t e = type_is a t e
  type_is (Binary op a b) t e =
      let s = operator-is op (common (type_of known signature a) (type_of known signature b)) t e in
      let c = common-is (type_of known signature a) (type_of known signature b) s.0 s.1 in
      ap (result_type op) (type_is a s.0 c.0) ∙ s.2
  type_is (Clamp a l h) t e = type_is a t (common-is (type_of known signature a) (common (type_of known signature l) (type_of known signature h)) t e).0
  type_is (Cast u a) t e = some_is (only_if-is (is_some (type_of known signature a)) (Some u) t e).1
  type_is (Choice c a b) t e =
      let s = only_if-is (is_typed known signature c) (common (type_of known signature a) (type_of known signature b)) t e in
      let arms = common-is (type_of known signature a) (type_of known signature b) t s.1 in
      let yes = type_is a t arms.0 in
      let no = type_is b t arms.1 in
      elim (holds variables calls c) as (λ (x : Bool). (if x then value_of variables calls a else value_of variables calls b).ty ≡ t) [ true ↦ yes | false ↦ no ]

-- what can be called stays with more functions
module _ (known : List ℕ → Bool) (one two : List ℕ → Option (Ty × ℕ)) where
  mutual
    pub same_type_of : (e : Term) → EachCall (λ name at. one name ≡ two name) e → type_of known one e ≡ type_of known two e
    same_type_of (Number t n) h = refl
    same_type_of (Name name) h = refl
    same_type_of (Call name at) h = λ i. only_if (same_are at h.1 i) (answer_type (h.0 i) (index_count at))
    same_type_of (Minus a) h = same_type_of a h
    same_type_of (Binary op a b) h = λ i. operator_type op (common (same_type_of a h.0 i) (same_type_of b h.1 i))
    same_type_of (Clamp a l u) h = λ i. common (same_type_of a h.0 i) (common (same_type_of l h.1 i) (same_type_of u h.2 i))
    same_type_of (Cast t a) h = ap (cast_type t) (same_type_of a h)
    same_type_of (Choice c a b) h = λ i. only_if (same_is c h.0 i) (common (same_type_of a h.1 i) (same_type_of b h.2 i))

    same_is : (c : Test) → EachCallOfTest (λ name at. one name ≡ two name) c → is_typed known one c ≡ is_typed known two c
    same_is (Compares by a b) h = λ i. is_some (common (same_type_of a h.0 i) (same_type_of b h.1 i))
    same_is (Fails c) h = same_is c h
    same_is (Both c d) h = λ i. same_is c h.0 i && same_is d h.1 i
    same_is (Either c d) h = λ i. same_is c h.0 i && same_is d h.1 i

    same_are : (at : Terms) → EachCallOfAll (λ name at. one name ≡ two name) at → are_indices known one at ≡ are_indices known two at
    same_are End h = refl
    same_are (More a rest) h = λ i. is_index (same_type_of a h.0 i) && same_are rest h.1 i

-- i32 expressions put in for the variables of a typed expression
module _ (known before : List ℕ → Bool) (signature : List ℕ → Option (Ty × ℕ)) (map : List ℕ → Option Term)
    (fits : (name : List ℕ) → before name ≡ true → type_of known signature (put_in (map name) name) ≡ Some I32) where
  count-substituted : (at : Terms) → index_count (all_substituted map at) ≡ index_count at
  count-substituted End = refl
  count-substituted (More a rest) = ap (λ n. 1 + n) (count-substituted rest)

  mutual
    pub type_of-put_in : (e : Term) (t : Ty) → type_of before signature e ≡ Some t → type_of known signature (substituted map e) ≡ type_of before signature e
    type_of-put_in (Number u n) t e = refl
    type_of-put_in (Name name) t e =
        let s = only_if-is (before name) (Some I32) t e in
        fits name s.0 ∙ sym (ap (λ b. only_if b (Some I32)) s.0)
    type_of-put_in (Call name at) t e =
        let s = only_if-is (are_indices before signature at) (answer_type (signature name) (index_count at)) t e in
        λ i. only_if (are_put_in at s.0 i) (answer_type (signature name) (count-substituted at i))
    type_of-put_in (Minus a) t e = type_of-put_in a t e
    type_of-put_in (Binary op a b) t e =
        let s = operator-is op (common (type_of before signature a) (type_of before signature b)) t e in
        let c = common-is (type_of before signature a) (type_of before signature b) s.0 s.1 in
        λ i. operator_type op (common (type_of-put_in a s.0 c.0 i) (type_of-put_in b s.0 c.1 i))
    type_of-put_in (Clamp a l h) t e =
        let s = common-is (type_of before signature a) (common (type_of before signature l) (type_of before signature h)) t e in
        let c = common-is (type_of before signature l) (type_of before signature h) t s.1 in
        λ i. common (type_of-put_in a t s.0 i) (common (type_of-put_in l t c.0 i) (type_of-put_in h t c.1 i))
    type_of-put_in (Cast u a) t e =
        let s = only_if-is (is_some (type_of before signature a)) (Some u) t e in
        let o = some-is (type_of before signature a) s.0 in
        ap (cast_type u) (type_of-put_in a o.0 o.1)
    type_of-put_in (Choice c a b) t e =
        let s = only_if-is (is_typed before signature c) (common (type_of before signature a) (type_of before signature b)) t e in
        let arms = common-is (type_of before signature a) (type_of before signature b) t s.1 in
        λ i. only_if (is_put_in c s.0 i) (common (type_of-put_in a t arms.0 i) (type_of-put_in b t arms.1 i))

    is_put_in : (c : Test) → is_typed before signature c ≡ true → is_typed known signature (test_substituted map c) ≡ is_typed before signature c
    is_put_in (Compares by a b) e =
        let o = some-is (common (type_of before signature a) (type_of before signature b)) e in
        let s = common-is (type_of before signature a) (type_of before signature b) o.0 o.1 in
        λ i. is_some (common (type_of-put_in a o.0 s.0 i) (type_of-put_in b o.0 s.1 i))
    is_put_in (Fails c) e = is_put_in c e
    is_put_in (Both c d) e = let b = both_true (is_typed before signature c) (is_typed before signature d) e in λ i. is_put_in c b.0 i && is_put_in d b.1 i
    is_put_in (Either c d) e = let b = both_true (is_typed before signature c) (is_typed before signature d) e in λ i. is_put_in c b.0 i && is_put_in d b.1 i

    are_put_in : (at : Terms) → are_indices before signature at ≡ true → are_indices known signature (all_substituted map at) ≡ are_indices before signature at
    are_put_in End e = refl
    are_put_in (More a rest) e =
        let b = both_true (is_index (type_of before signature a)) (are_indices before signature rest) e in
        λ i. is_index (type_of-put_in a I32 (index-is (type_of before signature a) b.0) i) && are_put_in rest b.1 i

-- each expression put in for nothing is itself
mutual
  nothing_put_in : (e : Term) → substituted (λ name. None) e ≡ e
  nothing_put_in (Number t n) = refl
  nothing_put_in (Name name) = refl
  nothing_put_in (Call name at) = ap (Call name) (nothing_in_all at)
  nothing_put_in (Minus a) = ap Minus (nothing_put_in a)
  nothing_put_in (Binary op a b) = λ i. Binary op (nothing_put_in a i) (nothing_put_in b i)
  nothing_put_in (Clamp a l h) = λ i. Clamp (nothing_put_in a i) (nothing_put_in l i) (nothing_put_in h i)
  nothing_put_in (Cast t a) = ap (Cast t) (nothing_put_in a)
  nothing_put_in (Choice c a b) = λ i. Choice (nothing_in_test c i) (nothing_put_in a i) (nothing_put_in b i)

  nothing_in_test : (c : Test) → test_substituted (λ name. None) c ≡ c
  nothing_in_test (Compares by a b) = λ i. Compares by (nothing_put_in a i) (nothing_put_in b i)
  nothing_in_test (Fails c) = ap Fails (nothing_in_test c)
  nothing_in_test (Both c d) = λ i. Both (nothing_in_test c i) (nothing_in_test d i)
  nothing_in_test (Either c d) = λ i. Either (nothing_in_test c i) (nothing_in_test d i)

  nothing_in_all : (at : Terms) → all_substituted (λ name. None) at ≡ at
  nothing_in_all End = refl
  nothing_in_all (More a rest) = λ i. More (nothing_put_in a i) (nothing_in_all rest i)

-- a typed expression has its type where more variables are known
pub type_anywhere : (known : List ℕ → Bool) (signature : List ℕ → Option (Ty × ℕ)) (e : Term) (t : Ty) → type_of known signature e ≡ Some t → type_of (λ name. true) signature e ≡ Some t
type_anywhere known signature e t h =
    ap (type_of (λ name. true) signature) (sym (nothing_put_in e)) ∙ type_of-put_in (λ name. true) known signature (λ name. None) (λ name m. refl) e t h ∙ h

-- a fact that follows from two of the same call
module _ (P Q R : List ℕ → Terms → Type 0) (go : (name : List ℕ) (at : Terms) → P name at → Q name at → R name at) where
  mutual
    pub both_calls : (e : Term) → EachCall P e → EachCall Q e → EachCall R e
    both_calls (Number t n) h k = tt
    both_calls (Name name) h k = tt
    both_calls (Call name at) h k = (go name at h.0 k.0, both_calls_of_all at h.1 k.1)
    both_calls (Minus a) h k = both_calls a h k
    both_calls (Binary op a b) h k = (both_calls a h.0 k.0, both_calls b h.1 k.1)
    both_calls (Clamp a l u) h k = (both_calls a h.0 k.0, both_calls l h.1 k.1, both_calls u h.2 k.2)
    both_calls (Cast t a) h k = both_calls a h k
    both_calls (Choice c a b) h k = (both_calls_of_test c h.0 k.0, both_calls a h.1 k.1, both_calls b h.2 k.2)

    both_calls_of_test : (c : Test) → EachCallOfTest P c → EachCallOfTest Q c → EachCallOfTest R c
    both_calls_of_test (Compares by a b) h k = (both_calls a h.0 k.0, both_calls b h.1 k.1)
    both_calls_of_test (Fails c) h k = both_calls_of_test c h k
    both_calls_of_test (Both c d) h k = (both_calls_of_test c h.0 k.0, both_calls_of_test d h.1 k.1)
    both_calls_of_test (Either c d) h k = (both_calls_of_test c h.0 k.0, both_calls_of_test d h.1 k.1)

    both_calls_of_all : (at : Terms) → EachCallOfAll P at → EachCallOfAll Q at → EachCallOfAll R at
    both_calls_of_all End h k = tt
    both_calls_of_all (More a rest) h k = (both_calls a h.0 k.0, both_calls_of_all rest h.1 k.1)
