-- Whether two expressions are the same, as a test.
use Rattle.std.specs.Prelude.{ℕ, ◌==◌, ◌&&◌, Bool, true, false}
use Rattle.std.specs.Ordering.{int_eq}
use Rattle.numeric.specs.declared.ty.Ty.{Ty}
use Rattle.numeric.specs.declared.ty.Ty.TheVariants.{U8, U16, U32, I8, I16, I32}
use Rattle.numeric.specs.declared.op.Op.{Op}
use Rattle.numeric.specs.declared.op.Op.TheVariants.{Add, Sub, Mul, Div, Rem, Min, Max}
use Rattle.numeric.specs.declared.op.Comparison.{Comparison}
use Rattle.numeric.specs.declared.op.Comparison.TheVariants.{Less, AtMost, Greater, AtLeast, Equal, Different}
use Rattle.tree.specs.Term.{Term, Number, Name, Call, Minus, Binary, Clamp, Cast, Choice, Terms, End, More, Test, Compares, Fails, Both, Either}
use Rattle.meaning.specs.Names.{same_name}

-- a choice
abbrev pub IsChoice : Term → Type 0
IsChoice (Choice c a b) = Unit {0}
IsChoice _ = ⊥

-- types, operators and comparisons by number
abbrev pub type_number : Ty → ℕ
type_number U8 = 0
type_number U16 = 1
type_number U32 = 2
type_number I8 = 3
type_number I16 = 4
type_number I32 = 5

abbrev pub op_number : Op → ℕ
op_number Add = 0
op_number Sub = 1
op_number Mul = 2
op_number Div = 3
op_number Rem = 4
op_number Min = 5
op_number Max = 6

abbrev pub comparison_number : Comparison → ℕ
comparison_number Less = 0
comparison_number AtMost = 1
comparison_number Greater = 2
comparison_number AtLeast = 3
comparison_number Equal = 4
comparison_number Different = 5

abbrev pub same_type : Ty → Ty → Bool
same_type t u = type_number t == type_number u

abbrev pub same_op : Op → Op → Bool
same_op f g = op_number f == op_number g

abbrev pub same_comparison : Comparison → Comparison → Bool
same_comparison f g = comparison_number f == comparison_number g

abbrev mutual
  pub same_term : Term → Term → Bool
  same_term (Number t n) (Number u m) = same_type t u && int_eq n m
  same_term (Name x) (Name y) = same_name x y
  same_term (Call x at) (Call y by) = same_name x y && same_terms at by
  same_term (Minus a) (Minus b) = same_term a b
  same_term (Binary f a b) (Binary g c d) = same_op f g && (same_term a c && same_term b d)
  same_term (Clamp a l h) (Clamp b m i) = same_term a b && (same_term l m && same_term h i)
  same_term (Cast t a) (Cast u b) = same_type t u && same_term a b
  same_term (Choice x a b) (Choice y c d) = same_test x y && (same_term a c && same_term b d)
  same_term _ _ = false

  pub same_terms : Terms → Terms → Bool
  same_terms End End = true
  same_terms (More a rest) (More b more) = same_term a b && same_terms rest more
  same_terms _ _ = false

  pub same_test : Test → Test → Bool
  same_test (Compares f a b) (Compares g c d) = same_comparison f g && (same_term a c && same_term b d)
  same_test (Fails x) (Fails y) = same_test x y
  same_test (Both x y) (Both z w) = same_test x z && same_test y w
  same_test (Either x y) (Either z w) = same_test x z && same_test y w
  same_test _ _ = false
