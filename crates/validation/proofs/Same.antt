-- Expressions that are alike are the same.
use Rattle.std.proofs.Common.{◌≡◌, ℕ, true, refl, sym, ap, ◌∙◌}
use Rattle.std.specs.Prelude.{◌&&◌, ◌==◌, if◌then◌else◌}
use Rattle.std.specs.Ordering.{int_eq}
use Rattle.std.proofs.lemmas.Bool.{false≢true}
use Rattle.numeric.specs.declared.ty.Ty.{Ty}
use Rattle.numeric.specs.declared.ty.Ty.TheVariants.{U8, U16, U32, I8, I16, I32}
use Rattle.numeric.specs.declared.op.Op.{Op}
use Rattle.numeric.specs.declared.op.Op.TheVariants.{Add, Sub, Mul, Div, Rem, Min, Max}
use Rattle.numeric.specs.declared.op.Comparison.{Comparison}
use Rattle.numeric.specs.declared.op.Comparison.TheVariants.{Less, AtMost, Greater, AtLeast, Equal, Different}
use Rattle.tree.specs.Term.{Term, Number, Name, Call, Minus, Binary, Clamp, Cast, Choice, Terms, End, More, Test, Compares, Fails, Both, Either}
use Rattle.meaning.specs.Names.{same_name}
use Rattle.meaning.proofs.Cases.{same_name_is}
use Rattle.soundness.proofs.Refines.{and_parts, eq_true, number_true}
use Rattle.validation.specs.Stored.Alike.{type_number, op_number, comparison_number, same_type, same_op, same_comparison, same_term, same_terms, same_test}

type_at : ℕ → Ty
type_at n = if n == 0 then U8 else (if n == 1 then U16 else (if n == 2 then U32 else (if n == 3 then I8 else (if n == 4 then I16 else I32))))

type_back : (t : Ty) → type_at (type_number t) ≡ t
unfolding type_at
type_back U8 = refl
type_back U16 = refl
type_back U32 = refl
type_back I8 = refl
type_back I16 = refl
type_back I32 = refl

type_is : (t u : Ty) → same_type t u ≡ true → t ≡ u
type_is t u h = sym (type_back t) ∙ ap type_at (eq_true (type_number t) (type_number u) h) ∙ type_back u

op_at : ℕ → Op
op_at n = if n == 0 then Add else (if n == 1 then Sub else (if n == 2 then Mul else (if n == 3 then Div else (if n == 4 then Rem else (if n == 5 then Min else Max)))))

op_back : (t : Op) → op_at (op_number t) ≡ t
unfolding op_at
op_back Add = refl
op_back Sub = refl
op_back Mul = refl
op_back Div = refl
op_back Rem = refl
op_back Min = refl
op_back Max = refl

op_is : (t u : Op) → same_op t u ≡ true → t ≡ u
op_is t u h = sym (op_back t) ∙ ap op_at (eq_true (op_number t) (op_number u) h) ∙ op_back u

comparison_at : ℕ → Comparison
comparison_at n = if n == 0 then Less else (if n == 1 then AtMost else (if n == 2 then Greater else (if n == 3 then AtLeast else (if n == 4 then Equal else Different))))

comparison_back : (t : Comparison) → comparison_at (comparison_number t) ≡ t
unfolding comparison_at
comparison_back Less = refl
comparison_back AtMost = refl
comparison_back Greater = refl
comparison_back AtLeast = refl
comparison_back Equal = refl
comparison_back Different = refl

comparison_is : (t u : Comparison) → same_comparison t u ≡ true → t ≡ u
comparison_is t u h = sym (comparison_back t) ∙ ap comparison_at (eq_true (comparison_number t) (comparison_number u) h) ∙ comparison_back u

mutual
  pub term_is : (e d : Term) → same_term e d ≡ true → e ≡ d
  term_is (Number t n) (Number u m) h = let k = and_parts (same_type t u) (int_eq n m) h in λ i. Number (type_is t u k.0 i) (number_true n m k.1 i)
  term_is (Name x) (Name y) h = ap Name (same_name_is x y h)
  term_is (Call x at) (Call y by) h = let k = and_parts (same_name x y) (same_terms at by) h in λ i. Call (same_name_is x y k.0 i) (terms_are at by k.1 i)
  term_is (Minus a) (Minus b) h = ap Minus (term_is a b h)
  term_is (Binary f a b) (Binary g c d) h =
      let k = and_parts (same_op f g) (same_term a c && same_term b d) h in
      let l = and_parts (same_term a c) (same_term b d) k.1 in
      λ i. Binary (op_is f g k.0 i) (term_is a c l.0 i) (term_is b d l.1 i)
  term_is (Clamp a l h) (Clamp b m j) e =
      let k = and_parts (same_term a b) (same_term l m && same_term h j) e in
      let q = and_parts (same_term l m) (same_term h j) k.1 in
      λ i. Clamp (term_is a b k.0 i) (term_is l m q.0 i) (term_is h j q.1 i)
  term_is (Cast t a) (Cast u b) h = let k = and_parts (same_type t u) (same_term a b) h in λ i. Cast (type_is t u k.0 i) (term_is a b k.1 i)
  term_is (Choice x a b) (Choice y c d) h =
      let k = and_parts (same_test x y) (same_term a c && same_term b d) h in
      let l = and_parts (same_term a c) (same_term b d) k.1 in
      λ i. Choice (test_is x y k.0 i) (term_is a c l.0 i) (term_is b d l.1 i)
  term_is _ _ h = absurd (false≢true h)

  pub terms_are : (at by : Terms) → same_terms at by ≡ true → at ≡ by
  terms_are End End h = refl
  terms_are (More a rest) (More b more) h = let k = and_parts (same_term a b) (same_terms rest more) h in λ i. More (term_is a b k.0 i) (terms_are rest more k.1 i)
  terms_are _ _ h = absurd (false≢true h)

  pub test_is : (c d : Test) → same_test c d ≡ true → c ≡ d
  test_is (Compares f a b) (Compares g c d) h =
      let k = and_parts (same_comparison f g) (same_term a c && same_term b d) h in
      let l = and_parts (same_term a c) (same_term b d) k.1 in
      λ i. Compares (comparison_is f g k.0 i) (term_is a c l.0 i) (term_is b d l.1 i)
  test_is (Fails x) (Fails y) h = ap Fails (test_is x y h)
  test_is (Both x y) (Both z w) h = let k = and_parts (same_test x z) (same_test y w) h in λ i. Both (test_is x z k.0 i) (test_is y w k.1 i)
  test_is (Either x y) (Either z w) h = let k = and_parts (same_test x z) (same_test y w) h in λ i. Either (test_is x z k.0 i) (test_is y w k.1 i)
  test_is _ _ h = absurd (false≢true h)
