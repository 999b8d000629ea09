-- How a stored expression is written in a plan's text.
use Rattle.std.specs.Prelude.{ℕ, zero, suc, List, [], ◌++◌, codes}
use Rattle.numeric.specs.declared.ty.Ty.{Ty}
use Rattle.numeric.specs.declared.ty.Ty.TheVariants as ty
use Rattle.numeric.specs.declared.op.Op.{Op}
use Rattle.numeric.specs.declared.op.Op.TheVariants as op
use Rattle.numeric.specs.declared.op.Comparison.{Comparison}
use Rattle.numeric.specs.declared.op.Comparison.TheVariants as by
use Rattle.tree.specs.Token.Spelling.{type_text, word_text}
use Rattle.tree.specs.declared.token.token.Word.TheVariants as word
use Rattle.tree.specs.Term.{Term, Number, Name, Call, Minus, Binary, Clamp, Cast, Choice, Terms, End, More, Test, Compares, Fails, Both, Either}
use Rattle.spelling.specs.Words.Spelling.{number_text}

-- the type behind a literal, which an i32 leaves out
abbrev pub suffix_text : Ty → List ℕ
suffix_text ty.I32 = []
suffix_text t = type_text t

-- between round brackets
abbrev pub in_brackets : List ℕ → List ℕ
in_brackets inside = codes "(" ++ (inside ++ codes ")")

-- two parts with a comma between
abbrev pub listed : List ℕ → List ℕ → List ℕ
listed a b = a ++ (codes "," ++ b)

-- the word before the bracket of an operator, if it has one
abbrev pub operator_word : Op → List ℕ
operator_word op.Min = word_text word.Min
operator_word op.Max = word_text word.Max
operator_word _ = []

-- what stands between the operands
abbrev pub operator_sign : Op → List ℕ
operator_sign op.Add = codes "+"
operator_sign op.Sub = codes "-"
operator_sign op.Mul = codes "*"
operator_sign op.Div = codes "/"
operator_sign op.Rem = codes "%"
operator_sign op.Min = codes ","
operator_sign op.Max = codes ","

abbrev pub comparison_text : Comparison → List ℕ
comparison_text by.Less = codes "<"
comparison_text by.AtMost = codes "<="
comparison_text by.Greater = codes ">"
comparison_text by.AtLeast = codes ">="
comparison_text by.Equal = codes "=="
comparison_text by.Different = codes "!="

-- what stands before an index of a call, by its place
abbrev pub comma_before : ℕ → List ℕ
comma_before zero = []
comma_before (suc n) = codes ","

abbrev mutual
  -- without blanks, each operator and each negation between round brackets
  pub term_text : Term → List ℕ
  term_text (Number t n) = number_text n ++ suffix_text t
  term_text (Name name) = name
  term_text (Call name at) = name ++ (codes "[" ++ (row_text 0 at ++ codes "]"))
  term_text (Minus a) = in_brackets (codes "-" ++ term_text a)
  term_text (Binary op a b) = operator_word op ++ in_brackets (term_text a ++ (operator_sign op ++ term_text b))
  term_text (Clamp a l h) = word_text word.Clamp ++ in_brackets (listed (term_text a) (listed (term_text l) (term_text h)))
  term_text (Cast t a) = type_text t ++ in_brackets (term_text a)
  term_text (Choice c a b) = word_text word.Select ++ in_brackets (listed (test_text c) (listed (term_text a) (term_text b)))

  -- a comparison stands without brackets
  pub test_text : Test → List ℕ
  test_text (Compares by a b) = term_text a ++ (comparison_text by ++ term_text b)
  test_text (Fails c) = word_text word.Not ++ in_brackets (test_text c)
  test_text (Both c d) = word_text word.All ++ in_brackets (listed (test_text c) (test_text d))
  test_text (Either c d) = word_text word.Any ++ in_brackets (listed (test_text c) (test_text d))

  -- indices from a place on, with a comma between one and the next
  pub row_text : ℕ → Terms → List ℕ
  row_text n End = []
  row_text n (More a rest) = comma_before n ++ (term_text a ++ row_text (suc n) rest)
