-- The grammar of expressions. A value of these types is a way to put an expression's text together by the
-- grammar's rules; it has its tokens and the term that it stands for.
use Rattle.std.specs.Prelude.{◌≡◌, ℕ, ◌≤◌, List, ◌∷◌, None}
use Rattle.numeric.specs.declared.ty.Ty.{Ty}
use Rattle.numeric.specs.declared.op.Op.{Op}
use Rattle.numeric.specs.declared.op.Op.TheVariants as op
use Rattle.numeric.specs.declared.op.Comparison.{Comparison}
use Rattle.numeric.specs.declared.op.Comparison.TheVariants as by
use Rattle.tree.specs.declared.token.token.Symbol.{Symbol}
use Rattle.tree.specs.declared.token.token.Symbol.TheVariants as symbol
use Rattle.tree.specs.declared.token.token.Word.TheVariants as word
use Rattle.tree.specs.declared.token.token.Literal.{Literal}
use Rattle.tree.specs.declared.token.token.Token.{Token}
use Rattle.tree.specs.declared.token.token.Token.TheVariants as token
use Rattle.tree.specs.Token.Cursor.{after}
use Rattle.tree.specs.Term.{Term, Name, Call, Minus, Binary, Clamp, Cast, Choice, Terms, End, More as MoreTerms, Test, Compares, Fails, Both, Either}
use Rattle.tree.specs.Tree.{node_count, cond_count, depth, test_depth}
use Rattle.expr.specs.declared.parser.Level.TheVariants.{Sum, Product}
use Rattle.expr.specs.Parsing.{literal, operator_at}

pub data AddSign : Type 0 where
  plus : AddSign
  minus : AddSign

pub data MulSign : Type 0 where
  times : MulSign
  over : MulSign
  modulo : MulSign

pub data Extreme : Type 0 where
  least : Extreme
  greatest : Extreme

mutual
  -- expr = term { ("+"|"-") term }
  pub data Sums : Type 0 where
    term : Products → Sums
    add : Sums → AddSign → Products → Sums

  -- term = unary { ("*"|"/"|"%") unary }
  pub data Products : Type 0 where
    factor : Signed → Products
    multiply : Products → MulSign → Signed → Products

  -- unary = "-" unary | prim
  pub data Signed : Type 0 where
    unsigned : Primary → Signed
    negated : Signed → Signed

  -- prim = number | name | name "[" expr {"," expr} "]" | "(" expr ")" | type "(" expr ")"
  --      | ("min"|"max") "(" expr "," expr ")" | "clamp" "(" expr "," expr "," expr ")" | "select" "(" cond "," expr "," expr ")"
  pub data Primary : Type 0 where
    number : Literal → Primary
    variable : List ℕ → Primary
    call : List ℕ → Sums → More → Primary
    group : Sums → Primary
    cast : Ty → Sums → Primary
    extreme : Extreme → Sums → Sums → Primary
    clamp : Sums → Sums → Sums → Primary
    select : Condition → Sums → Sums → Primary

  -- the indices after the first
  pub data More : Type 0 where
    no_more : More
    next : Sums → More → More

  -- cond = expr ("<"|"<="|">"|">="|"=="|"!=") expr | "not" "(" cond ")" | ("all"|"any") "(" cond "," cond ")"
  pub data Condition : Type 0 where
    compare : Sums → Comparison → Sums → Condition
    deny : Condition → Condition
    all : Condition → Condition → Condition
    any : Condition → Condition → Condition

-- ---- tokens

abbrev pub sign : Symbol → Token
sign s = token.Symbol s

abbrev pub add_symbol : AddSign → Symbol
add_symbol plus = symbol.Plus
add_symbol minus = symbol.Minus

abbrev pub mul_symbol : MulSign → Symbol
mul_symbol times = symbol.Star
mul_symbol over = symbol.Slash
mul_symbol modulo = symbol.Percent

abbrev pub comparison_symbol : Comparison → Symbol
comparison_symbol by.Less = symbol.Less
comparison_symbol by.AtMost = symbol.LessEquals
comparison_symbol by.Greater = symbol.Greater
comparison_symbol by.AtLeast = symbol.GreaterEquals
comparison_symbol by.Equal = symbol.EqualsEquals
comparison_symbol by.Different = symbol.NotEquals

abbrev pub extreme_word : Extreme → Token
extreme_word least = token.Word word.Min
extreme_word greatest = token.Word word.Max

-- the tokens, and then the rest
abbrev mutual
  pub sums_then : Sums → List Token → List Token
  sums_then (term p) rest = products_then p rest
  sums_then (add s o p) rest = sums_then s (sign (add_symbol o) ∷ products_then p rest)

  pub products_then : Products → List Token → List Token
  products_then (factor s) rest = signed_then s rest
  products_then (multiply p o s) rest = products_then p (sign (mul_symbol o) ∷ signed_then s rest)

  pub signed_then : Signed → List Token → List Token
  signed_then (unsigned p) rest = primary_then p rest
  signed_then (negated s) rest = sign symbol.Minus ∷ signed_then s rest

  pub primary_then : Primary → List Token → List Token
  primary_then (number n) rest = token.Number n ∷ rest
  primary_then (variable x) rest = token.Name x ∷ rest
  primary_then (call f a more) rest = token.Name f ∷ sign symbol.LeftBracket ∷ sums_then a (more_then more rest)
  primary_then (group a) rest = sign symbol.LeftParen ∷ sums_then a (sign symbol.RightParen ∷ rest)
  primary_then (cast t a) rest = token.Type t ∷ sign symbol.LeftParen ∷ sums_then a (sign symbol.RightParen ∷ rest)
  primary_then (extreme o a b) rest = extreme_word o ∷ sign symbol.LeftParen ∷ sums_then a (sign symbol.Comma ∷ sums_then b (sign symbol.RightParen ∷ rest))
  primary_then (clamp a l h) rest = token.Word word.Clamp ∷ sign symbol.LeftParen ∷ sums_then a (sign symbol.Comma ∷ sums_then l (sign symbol.Comma ∷ sums_then h (sign symbol.RightParen ∷ rest)))
  primary_then (select c a b) rest = token.Word word.Select ∷ sign symbol.LeftParen ∷ condition_then c (sign symbol.Comma ∷ sums_then a (sign symbol.Comma ∷ sums_then b (sign symbol.RightParen ∷ rest)))

  pub more_then : More → List Token → List Token
  more_then no_more rest = sign symbol.RightBracket ∷ rest
  more_then (next a more) rest = sign symbol.Comma ∷ sums_then a (more_then more rest)

  pub condition_then : Condition → List Token → List Token
  condition_then (compare a o b) rest = sums_then a (sign (comparison_symbol o) ∷ sums_then b rest)
  condition_then (deny c) rest = token.Word word.Not ∷ sign symbol.LeftParen ∷ condition_then c (sign symbol.RightParen ∷ rest)
  condition_then (all c d) rest = token.Word word.All ∷ sign symbol.LeftParen ∷ condition_then c (sign symbol.Comma ∷ condition_then d (sign symbol.RightParen ∷ rest))
  condition_then (any c d) rest = token.Word word.Any ∷ sign symbol.LeftParen ∷ condition_then c (sign symbol.Comma ∷ condition_then d (sign symbol.RightParen ∷ rest))

-- ---- terms

abbrev pub add_op : AddSign → Op
add_op plus = op.Add
add_op minus = op.Sub

abbrev pub mul_op : MulSign → Op
mul_op times = op.Mul
mul_op over = op.Div
mul_op modulo = op.Rem

abbrev pub extreme_op : Extreme → Op
extreme_op least = op.Min
extreme_op greatest = op.Max

abbrev mutual
  pub sums_term : Sums → Term
  sums_term (term p) = products_term p
  sums_term (add s o p) = Binary (add_op o) (sums_term s) (products_term p)

  pub products_term : Products → Term
  products_term (factor s) = signed_term s
  products_term (multiply p o s) = Binary (mul_op o) (products_term p) (signed_term s)

  pub signed_term : Signed → Term
  signed_term (unsigned p) = primary_term p
  signed_term (negated s) = Minus (signed_term s)

  pub primary_term : Primary → Term
  primary_term (number n) = literal n
  primary_term (variable x) = Name x
  primary_term (call f a more) = Call f (MoreTerms (sums_term a) (more_terms more))
  primary_term (group a) = sums_term a
  primary_term (cast t a) = Cast t (sums_term a)
  primary_term (extreme o a b) = Binary (extreme_op o) (sums_term a) (sums_term b)
  primary_term (clamp a l h) = Clamp (sums_term a) (sums_term l) (sums_term h)
  primary_term (select c a b) = Choice (condition_test c) (sums_term a) (sums_term b)

  pub more_terms : More → Terms
  more_terms no_more = End
  more_terms (next a more) = MoreTerms (sums_term a) (more_terms more)

  pub condition_test : Condition → Test
  condition_test (compare a o b) = Compares o (sums_term a) (sums_term b)
  condition_test (deny c) = Fails (condition_test c)
  condition_test (all c d) = Both (condition_test c) (condition_test d)
  condition_test (any c d) = Either (condition_test c) (condition_test d)

-- ---- what tokens stand for

-- the term has at most so many nodes and so many levels
pub record Fits (most levels : ℕ) (t : Term) : Type 0 where
  pub few : node_count t ≤ most
  pub shallow : depth t ≤ levels

pub record CondFits (most levels : ℕ) (c : Test) : Type 0 where
  pub few : cond_count c ≤ most
  pub shallow : test_depth c ≤ levels

-- The tokens up to the rest are put together by the grammar's rules, and stand for the term.
pub record StandsFor (tokens rest : List Token) (t : Term) : Type 0 where
  pub rules : Sums
  pub spelled : tokens ≡ sums_then rules rest
  pub is : sums_term rules ≡ t

-- No expression that ends before these tokens could go on with them.
pub record Ends (rest : List Token) : Type 0 where
  pub no_bracket : after symbol.LeftBracket rest ≡ None
  pub no_product : operator_at Product rest ≡ None
  pub no_sum : operator_at Sum rest ≡ None
