-- Reading an expression from its tokens, from left to right.
use Rattle.std.specs.Prelude.{◌≡◌, ℕ, zero, suc, Bool, ◌&&◌, nat_le, if◌then◌else◌, List, [], ◌∷◌, ◌++◌, length, Option, Some, None, option_map, Result, Ok, Err, pos}
use Rattle.numeric.specs.declared.ty.Ty.{Ty}
use Rattle.numeric.specs.declared.ty.Ty.TheVariants.{I32}
use Rattle.numeric.specs.declared.op.Op.{Op}
use Rattle.numeric.specs.declared.op.Op.TheVariants as op
use Rattle.numeric.specs.declared.op.Comparison.{Comparison}
use Rattle.numeric.specs.declared.op.Comparison.TheVariants as by
use Rattle.tree.specs.declared.token.token.Symbol.{Symbol}
use Rattle.tree.specs.declared.token.token.Symbol.TheVariants as symbol
use Rattle.tree.specs.declared.token.token.Word.TheVariants as word
use Rattle.tree.specs.declared.token.token.Literal.{Literal}
use Rattle.tree.specs.declared.token.token.Token.{Token}
use Rattle.tree.specs.declared.token.token.Token.TheVariants as token
use Rattle.tree.specs.Token.Cursor.{after}
use Rattle.tree.specs.Term.{Term, Number, Name, Call, Minus, Binary, Clamp, Cast, Choice, Test, Compares, Fails, Both, Either, indices as index_terms}
use Rattle.tree.specs.Tree.{node_count, cond_count, depth, test_depth}
use Rattle.expr.specs.declared.parser.Level.{Level}
use Rattle.expr.specs.declared.parser.Level.TheVariants.{Sum, Product, Unary}
use Rattle.expr.specs.declared.measured.Joint.{Joint}
use Rattle.expr.specs.declared.measured.Joint.TheVariants as joint
use Rattle.expr.specs.declared.error.Refusal.{Refusal}
use Rattle.expr.specs.declared.error.Refusal.TheVariants.{BadForm, LongName, TooLarge}
use Rattle.expr.specs.declared.error.Stop.{Stop}
use Rattle.expr.specs.declared.error.Stop.TheVariants as stop

-- ---- what a step answers: a value and the tokens after it

abbrev pub Parse : Type 0 → Type 0
Parse A = List Token → Result (A × List Token) Refusal

infixl 10 ◌>>=◌
abbrev pub ◌>>=◌ : {A B : Type 0} → Result A Refusal → (A → Result B Refusal) → Result B Refusal
(Ok x) >>= f = f x
(Err r) >>= f = Err r

abbrev pub Stops : {Y : Type 0} → Stop → Result Y Refusal → Type 0
Stops stop.Memory read = Unit {0}
Stops (stop.Refused r) read = read ≡ Err r

-- What a function returned, seen by view, is what reading gives, unless memory ran out.
abbrev pub Gives : {X Y : Type 0} → (X → Y) → Result X Stop → Result Y Refusal → Type 0
Gives view (Ok x) read = read ≡ Ok (view x)
Gives view (Err s) read = Stops s read

-- ---- limits

abbrev pub max_nodes : ℕ
max_nodes = 512

abbrev pub max_levels : ℕ
max_levels = 64

-- the term has at most so many nodes, and at most so many levels below its top
abbrev pub fits : ℕ → ℕ → Term → Bool
fits most below t = nat_le (node_count t) most && nat_le (depth t) (suc below)

abbrev pub cond_fits : ℕ → ℕ → Test → Bool
cond_fits most below c = nat_le (cond_count c) most && nat_le (test_depth c) (suc below)

-- the term, unless it is too large
unfoldable pub fitted : ℕ → ℕ → Term → Result Term Refusal
fitted most below t = if fits most below t then Ok t else Err TooLarge

unfoldable pub cond_fitted : ℕ → ℕ → Test → Result Test Refusal
cond_fitted most below c = if cond_fits most below c then Ok c else Err TooLarge

-- the same, with the tokens after it
unfoldable pub made : ℕ → ℕ → Term → Parse Term
made most below t ts = fitted most below t >>= λ x. Ok (x, ts)

unfoldable pub cond_made : ℕ → ℕ → Test → Parse Test
cond_made most below c ts = cond_fitted most below c >>= λ x. Ok (x, ts)

-- ---- single tokens

abbrev pub or_refuse : Option (List Token) → ℕ → Result (List Token) Refusal
or_refuse (Some ts) left = Ok ts
or_refuse None left = Err (BadForm left)

-- the tokens after the symbol, which must come first
unfoldable pub expect : Symbol → List Token → Result (List Token) Refusal
expect s ts = or_refuse (after s ts) (length ts)

abbrev pub operator : Level → Symbol → Option Op
operator Sum symbol.Plus = Some op.Add
operator Sum symbol.Minus = Some op.Sub
operator Product symbol.Star = Some op.Mul
operator Product symbol.Slash = Some op.Div
operator Product symbol.Percent = Some op.Rem
operator _ _ = None

-- an operator of the level, and the tokens after it
abbrev pub operator_at : Level → List Token → Option (Op × List Token)
operator_at level [] = None
operator_at level (token.Symbol s ∷ ts) = option_map (λ o. (o, ts)) (operator level s)
operator_at level (_ ∷ ts) = None

abbrev pub comparison : Symbol → Option Comparison
comparison symbol.Less = Some by.Less
comparison symbol.LessEquals = Some by.AtMost
comparison symbol.Greater = Some by.Greater
comparison symbol.GreaterEquals = Some by.AtLeast
comparison symbol.EqualsEquals = Some by.Equal
comparison symbol.NotEquals = Some by.Different
comparison _ = None

abbrev pub or_bad : Option Comparison → List Token → ℕ → Result (Comparison × List Token) Refusal
or_bad (Some b) ts left = Ok (b, ts)
or_bad None ts left = Err (BadForm left)

-- a comparison, which must come first, and the tokens after it
abbrev pub comparison_at : Parse Comparison
comparison_at [] = Err (BadForm 0)
comparison_at (token.Symbol s ∷ ts) = or_bad (comparison s) ts (length (token.Symbol s ∷ ts))
comparison_at (t ∷ ts) = Err (BadForm (length (t ∷ ts)))

abbrev pub type_or_i32 : Option Ty → Ty
type_or_i32 (Some t) = t
type_or_i32 None = I32

-- the term of a literal, whose type is i32 if it has none
abbrev pub literal : Literal → Term
literal l = Number (type_or_i32 l.ty) (pos l.value)

abbrev pub joint_test : Joint → Test → Test → Test
joint_test joint.All c d = Both c d
joint_test joint.Any c d = Either c d

-- ---- what stands one level deeper in the tree

pub record Reader : Type 0 where
  pub sum : Parse Term
  pub product : Parse Term
  pub unary : Parse Term
  pub condition : Parse Test

abbrev pub part : Level → Reader → Parse Term
part Sum inner = inner.sum
part Product inner = inner.product
part Unary inner = inner.unary

-- what the operators of a level stand between
abbrev pub operand_level : Level → Level
operand_level Sum = Product
operand_level Product = Unary
operand_level Unary = Unary

-- ---- expressions of at most `most` nodes, and at most `below` levels below their tops

-- operators of one level group from the left. The last number bounds the turns.
abbrev pub join_step : ℕ → ℕ → Parse Term → (Term → Parse Term) → Term → List Token → Option (Op × List Token) → Result (Term × List Token) Refusal
join_step most below operand more left ts None = Ok (left, ts)
join_step most below operand more left ts (Some p) = operand p.1 >>= λ r. made most below (Binary p.0 left r.0) r.1 >>= λ x. more x.0 x.1

abbrev pub if_joined : Term → List Token → Option (Op × List Token) → Result (Term × List Token) Refusal
if_joined left ts None = Ok (left, ts)
if_joined left ts (Some p) = Err TooLarge

unfoldable pub joined : ℕ → ℕ → Level → Parse Term → ℕ → Term → Parse Term
joined most below level operand zero left ts = if_joined left ts (operator_at level ts)
joined most below level operand (suc n) left ts = join_step most below operand (joined most below level operand n) left ts (operator_at level ts)

-- the operators of a level behind a first part
unfoldable pub chained : ℕ → ℕ → Reader → Level → Term → Parse Term
chained most below inner level first ts = joined most below level (part (operand_level level) inner) below first ts

unfoldable pub cast : ℕ → ℕ → Reader → Ty → Parse Term
cast most below inner ty ts = do
  start ← expect symbol.LeftParen ts
  a ← inner.sum start
  rest ← expect symbol.RightParen a.1
  made most below (Cast ty a.0) rest

unfoldable pub pair : ℕ → ℕ → Reader → Op → Parse Term
pair most below inner o ts = do
  start ← expect symbol.LeftParen ts
  a ← inner.sum start
  second ← expect symbol.Comma a.1
  b ← inner.sum second
  rest ← expect symbol.RightParen b.1
  made most below (Binary o a.0 b.0) rest

unfoldable pub clamp : ℕ → ℕ → Reader → Parse Term
clamp most below inner ts = do
  start ← expect symbol.LeftParen ts
  a ← inner.sum start
  second ← expect symbol.Comma a.1
  low ← inner.sum second
  third ← expect symbol.Comma low.1
  high ← inner.sum third
  rest ← expect symbol.RightParen high.1
  made most below (Clamp a.0 low.0 high.0) rest

unfoldable pub select : ℕ → ℕ → Reader → Parse Term
select most below inner ts = do
  start ← expect symbol.LeftParen ts
  c ← inner.condition start
  second ← expect symbol.Comma c.1
  a ← inner.sum second
  third ← expect symbol.Comma a.1
  b ← inner.sum third
  rest ← expect symbol.RightParen b.1
  made most below (Choice c.0 a.0 b.0) rest

-- the indices up to the closing bracket. The number bounds them.
abbrev pub indices_step : (List Term → Parse (List Term)) → List Term → List Token → Option (List Token) → Result (List Term × List Token) Refusal
indices_step more found ts (Some next) = more found next
indices_step more found ts None = expect symbol.RightBracket ts >>= λ rest. Ok (found, rest)

unfoldable pub indices : Parse Term → ℕ → List Term → Parse (List Term)
indices inner zero found ts = Err TooLarge
indices inner (suc n) found ts = inner ts >>= λ r. indices_step (indices inner n) (found ++ r.0 ∷ []) r.1 (after symbol.Comma r.1)

abbrev pub named_step : ℕ → ℕ → Reader → List ℕ → List Token → Option (List Token) → Result (Term × List Token) Refusal
named_step most below inner name ts None = made most below (Name name) ts
named_step most below inner name ts (Some next) = indices inner.sum most [] next >>= λ r. made most below (Call name (index_terms r.0)) r.1

unfoldable pub named : ℕ → ℕ → Reader → List ℕ → Parse Term
named most below inner name ts = named_step most below inner name ts (after symbol.LeftBracket ts)

unfoldable pub negation : ℕ → ℕ → Reader → Parse Term
negation most below inner ts = inner.unary ts >>= λ a. made most below (Minus a.0) a.1

-- a sign with what stands behind it, or a part without brackets round it
abbrev pub bare : ℕ → ℕ → Reader → Parse Term
bare most below inner (token.Symbol symbol.Minus ∷ ts) = negation most below inner ts
bare most below inner (token.Number n ∷ ts) = made most below (literal n) ts
bare most below inner (token.Name x ∷ ts) = named most below inner x ts
bare most below inner (token.LongName ∷ ts) = Err (LongName (length (token.LongName ∷ ts)))
bare most below inner (token.Type t ∷ ts) = cast most below inner t ts
bare most below inner (token.Word word.Min ∷ ts) = pair most below inner op.Min ts
bare most below inner (token.Word word.Max ∷ ts) = pair most below inner op.Max ts
bare most below inner (token.Word word.Clamp ∷ ts) = clamp most below inner ts
bare most below inner (token.Word word.Select ∷ ts) = select most below inner ts
bare most below inner ts = Err (BadForm (length ts))

-- what follows a part up to the bracket that closes round it
unfoldable pub closed : ℕ → ℕ → Reader → Term → Parse Term
closed most below inner a ts = do
  p ← chained most below inner Product a ts
  s ← chained most below inner Sum p.0 p.1
  rest ← expect symbol.RightParen s.1
  Ok (s.0, rest)

-- Brackets make no node and no level, so only the text bounds them.
unfoldable pub unary : ℕ → ℕ → Reader → Parse Term
unary most below inner (token.Symbol symbol.LeftParen ∷ ts) = unary most below inner ts >>= λ a. closed most below inner a.0 a.1
unary most below inner ts = bare most below inner ts

unfoldable pub product : ℕ → ℕ → Reader → Parse Term
product most below inner ts = unary most below inner ts >>= λ a. chained most below inner Product a.0 a.1

unfoldable pub sum : ℕ → ℕ → Reader → Parse Term
sum most below inner ts = product most below inner ts >>= λ a. chained most below inner Sum a.0 a.1

-- ---- conditions

unfoldable pub compared : ℕ → ℕ → Reader → Parse Test
compared most below inner ts = do
  a ← inner.sum ts
  sign ← comparison_at a.1
  b ← inner.sum sign.1
  cond_made most below (Compares sign.0 a.0 b.0) b.1

unfoldable pub denied : ℕ → ℕ → Reader → Parse Test
denied most below inner ts = do
  start ← expect symbol.LeftParen ts
  c ← inner.condition start
  rest ← expect symbol.RightParen c.1
  cond_made most below (Fails c.0) rest

unfoldable pub combined : ℕ → ℕ → Reader → Joint → Parse Test
combined most below inner joint ts = do
  start ← expect symbol.LeftParen ts
  c ← inner.condition start
  second ← expect symbol.Comma c.1
  d ← inner.condition second
  rest ← expect symbol.RightParen d.1
  cond_made most below (joint_test joint c.0 d.0) rest

abbrev pub condition : ℕ → ℕ → Reader → Parse Test
condition most below inner (token.Word word.Not ∷ ts) = denied most below inner ts
condition most below inner (token.Word word.All ∷ ts) = combined most below inner joint.All ts
condition most below inner (token.Word word.Any ∷ ts) = combined most below inner joint.Any ts
condition most below inner ts = compared most below inner ts

-- ---- any number of levels

abbrev pub too_large : {A : Type 0} → Parse A
too_large ts = Err TooLarge

-- what reads parts of at most `most` nodes and so many levels
unfoldable pub within : ℕ → ℕ → Reader
within most zero = record { sum = too_large; product = too_large; unary = too_large; condition = too_large }
within most (suc n) = record {
  sum = sum most n (within most n);
  product = product most n (within most n);
  unary = unary most n (within most n);
  condition = condition most n (within most n);
}

-- ---- a whole text

-- an expression within the limits, and the tokens after it
abbrev pub expression : Parse Term
expression ts = (within max_nodes max_levels).sum ts

abbrev pub ended : Term → List Token → Result Term Refusal
ended t [] = Ok t
ended t (u ∷ us) = Err (BadForm (length (u ∷ us)))

-- an expression, and nothing after it
unfoldable pub whole : List Token → Result Term Refusal
whole ts = expression ts >>= λ r. ended r.0 r.1
