-- The value of a typed expression is a value of its type.
use Rattle.std.proofs.Common.{◌≡◌, ◌==◌, ℕ, Bool, true, false, List, [], ◌∷◌, Option, Some, None, ℤ, pos, refl, sym, ap, ◌∙◌, subst, arith, ◌&&◌}
use Rattle.std.specs.Prelude.{if◌then◌else◌, is_some, int_le, int_lt, neg_ℤ}
use Rattle.std.specs.Int.{int_min, int_max}
use Rattle.std.proofs.lemmas.Bool.{false≢true}
use Rattle.std.proofs.lemmas.Int.{ints}
use Rattle.std.proofs.lemmas.List.Elements.{All-head, All-tail, All-nil, All-cons}
use Rattle.numeric.specs.declared.ty.Ty.{Ty}
use Rattle.numeric.specs.declared.ty.Ty.TheVariants.{U8, U16, U32, I8, I16, I32}
use Rattle.numeric.specs.declared.op.Op.{Op}
use Rattle.numeric.specs.Wrap.{IsOf, wrap, least, greatest}
use Rattle.numeric.specs.Apply.{exact, result_type}
use Rattle.numeric.proofs.Wraps.{wraps_to}
use Rattle.tree.specs.declared.value.Value.{Value}
use Rattle.tree.specs.Term.{Term, Number, Name, Call, Minus, Binary, Clamp, Cast, Choice, Terms, End, More}
use Rattle.tree.specs.Meaning.{value_of, holds, numbers_of}
use Rattle.tree.specs.Typing.{is_of, same_type, common, only_if, operator_type, is_index, answer_type, index_count, type_of, is_typed, are_indices}
use Rattle.tree.proofs.Typed.{same_type-true}
use Rattle.meaning.specs.Names.{same_name, bound}
use Rattle.meaning.specs.Functions.{IsPoint}

-- 0 is a value of each type
pub zero_is_of : (t : Ty) → IsOf t (pos 0)
zero_is_of U8 = record { from = omega (arith, ints); to = omega (arith, ints) }
zero_is_of U16 = record { from = omega (arith, ints); to = omega (arith, ints) }
zero_is_of U32 = record { from = omega (arith, ints); to = omega (arith, ints) }
zero_is_of I8 = record { from = omega (arith, ints); to = omega (arith, ints) }
zero_is_of I16 = record { from = omega (arith, ints); to = omega (arith, ints) }
zero_is_of I32 = record { from = omega (arith, ints); to = omega (arith, ints) }

-- what a test's result says
only_if-is : (b : Bool) (o : Option Ty) (t : Ty) → only_if b o ≡ Some t → (b ≡ true) × (o ≡ Some t)
only_if-is true o t e = (refl, e)
only_if-is false o t e = absurd (cc)

common-is : (o p : Option Ty) (t : Ty) → common o p ≡ Some t → (o ≡ Some t) × (p ≡ Some t)
common-is None p t e = absurd (cc)
common-is (Some u) None t e = absurd (cc)
common-is (Some u) (Some v) t e =
    let s = only_if-is (same_type u v) (Some u) t e in
    let same = same_type-true u v s.0 in
    (s.1, ap Some (sym same) ∙ s.1)

operator-is : (op : Op) (o : Option Ty) (t : Ty) → operator_type op o ≡ Some t → (u : Ty) × (o ≡ Some u) × (result_type op u ≡ t)
operator-is op None t e = absurd (cc)
operator-is op (Some u) t e = let same : result_type op u ≡ t = cc in (u, refl, same)

both_true : (a b : Bool) → (a && b) ≡ true → (a ≡ true) × (b ≡ true)
both_true true b h = (refl, h)
both_true false b h = absurd (false≢true h)

is_of-is : (t : Ty) (n : ℤ) → is_of t n ≡ true → IsOf t n
is_of-is t n h = let b = both_true (int_le (least t) n) (int_le n (greatest t)) h in record { from = omega (arith, ints, b.0); to = omega (arith, ints, b.1) }

index-is : (o : Option Ty) → is_index o ≡ true → o ≡ Some I32
index-is (Some I32) h = refl
index-is o h = absurd (false≢true h)

some_is : {t u : Ty} → Some t ≡ Some u → t ≡ u
some_is e = cc

-- a value with its type, which is t
pub record IsValue (t : Ty) (v : Value) : Type 0 where
  pub ty : v.ty ≡ t
  pub within : IsOf t v.number

wrapped : (t u : Ty) (z : ℤ) → u ≡ t → IsOf t (wrap u z)
wrapped t u z e = subst (λ (v : Ty). IsOf v (wrap u z)) e (wraps_to u z).within

within_min : (t : Ty) (x y : ℤ) → IsOf t x → IsOf t y → IsOf t (int_min x y)
within_min t x y h k = elim (int_lt y x) as (λ (b : Bool). IsOf t (if b then y else x)) [ true ↦ k | false ↦ h ]

within_max : (t : Ty) (x y : ℤ) → IsOf t x → IsOf t y → IsOf t (int_max x y)
within_max t x y h k = elim (int_lt y x) as (λ (b : Bool). IsOf t (if b then x else y)) [ true ↦ h | false ↦ k ]

chosen : (t : Ty) (b : Bool) (x y : Value) → IsValue t x → IsValue t y → IsValue t (if b then x else y)
chosen t true x y h k = h
chosen t false x y h k = k

-- what calls answer at indices is of the type that they are declared with
abbrev pub AnswersAre : (List ℕ → Option (Ty × ℕ)) → (List ℕ → List ℤ → Value) → Type 0
AnswersAre callable calls = (name : List ℕ) (s : Ty × ℕ) → callable name ≡ Some s → (at : List ℤ) → IsPoint at → IsValue s.0 (calls name at)

module _ (variables : List ℕ → ℤ) (inside : (name : List ℕ) → IsOf I32 (variables name)) (named : List ℕ → Bool) (callable : List ℕ → Option (Ty × ℕ)) (calls : List ℕ → List ℤ → Value) (answers : AnswersAre callable calls) where
  answer : (o : Option (Ty × ℕ)) (n : ℕ) (t : Ty) → answer_type o n ≡ Some t → (s : Ty × ℕ) × (o ≡ Some s) × (s.0 ≡ t)
  answer None n t e = absurd (cc)
  answer (Some s) n t e = let r = only_if-is (s.1 == n) (Some s.0) t e in (s, refl, some_is r.1)

  mutual
    pub value_is : (e : Term) (t : Ty) → type_of named callable e ≡ Some t → IsValue t (value_of variables calls e)
    value_is (Number u n) t e =
        let s = only_if-is (is_of u n) (Some u) t e in
        let same : u ≡ t = some_is s.1 in
        record { ty = same; within = subst (λ (v : Ty). IsOf v n) same (is_of-is u n s.0) }
    value_is (Name name) t e =
        let s = only_if-is (named name) (Some I32) t e in
        let same : I32 ≡ t = some_is s.1 in
        record { ty = same; within = subst (λ (v : Ty). IsOf v (variables name)) same (inside name) }
    value_is (Call name at) t e =
        let s = only_if-is (are_indices named callable at) (answer_type (callable name) (index_count at)) t e in
        let r = answer (callable name) (index_count at) t s.1 in
        let v = answers name r.0 r.1 (numbers_of variables calls at) (indices_are at s.0) in
        record { ty = v.ty ∙ r.2; within = subst (λ (u : Ty). IsOf u (calls name (numbers_of variables calls at)).number) r.2 v.within }
    value_is (Minus a) t e =
        let v = value_is a t e in
        record { ty = v.ty; within = wrapped t (value_of variables calls a).ty (neg_ℤ (value_of variables calls a).number) v.ty }
    value_is (Binary op a b) t e =
        let s = operator-is op (common (type_of named callable a) (type_of named callable b)) t e in
        let c = common-is (type_of named callable a) (type_of named callable b) s.0 s.1 in
        let v = value_is a s.0 c.0 in
        let same : result_type op (value_of variables calls a).ty ≡ t = ap (result_type op) v.ty ∙ s.2 in
        record { ty = same; within = wrapped t (result_type op (value_of variables calls a).ty) (exact op (value_of variables calls a).number (value_of variables calls b).number) same }
    value_is (Clamp a l h) t e =
        let s = common-is (type_of named callable a) (common (type_of named callable l) (type_of named callable h)) t e in
        let c = common-is (type_of named callable l) (type_of named callable h) t s.1 in
        let v = value_is a t s.0 in
        let low = value_is l t c.0 in
        let high = value_is h t c.1 in
        record {
          ty = v.ty;
          within = within_max t (int_min (value_of variables calls a).number (value_of variables calls h).number) (value_of variables calls l).number
              (within_min t (value_of variables calls a).number (value_of variables calls h).number v.within high.within) low.within;
        }
    value_is (Cast u a) t e =
        let s = only_if-is (is_some (type_of named callable a)) (Some u) t e in
        let same : u ≡ t = some_is s.1 in
        record { ty = same; within = wrapped t u (value_of variables calls a).number same }
    value_is (Choice c a b) t e =
        let s = only_if-is (is_typed named callable c) (common (type_of named callable a) (type_of named callable b)) t e in
        let arms = common-is (type_of named callable a) (type_of named callable b) t s.1 in
        chosen t (holds variables calls c) (value_of variables calls a) (value_of variables calls b) (value_is a t arms.0) (value_is b t arms.1)

    indices_are : (at : Terms) → are_indices named callable at ≡ true → IsPoint (numbers_of variables calls at)
    indices_are End h = All-nil (IsOf I32)
    indices_are (More a rest) h =
        let b = both_true (is_index (type_of named callable a)) (are_indices named callable rest) h in
        All-cons (IsOf I32) (value_of variables calls a).number (numbers_of variables calls rest) (value_is a I32 (index-is (type_of named callable a) b.0)).within (indices_are rest b.1)

-- what is bound to names is an i32 value where all numbers are
pub bound_is : (names : List (List ℕ)) (numbers : List ℤ) (name : List ℕ) → IsPoint numbers → IsOf I32 (bound names numbers name)
bound_is [] [] name h = zero_is_of I32
bound_is [] (z ∷ zs) name h = zero_is_of I32
bound_is (x ∷ xs) [] name h = zero_is_of I32
bound_is (x ∷ xs) (z ∷ zs) name h =
    elim (same_name x name) as (λ (b : Bool). IsOf I32 (elim b [ true ↦ z | false ↦ bound xs zs name ])) [
      | true ↦ All-head (IsOf I32) z zs h
      | false ↦ bound_is xs zs name (All-tail (IsOf I32) z zs h)
    ]
