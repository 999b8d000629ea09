-- Reading the statements of an algorithm from its tokens, from left to right.
use Rattle.std.specs.Prelude.{◌≡◌, ℕ, zero, suc, true, false, List, [], ◌∷◌, ◌++◌, length, Option, Some, None, IsSome, Result, Ok, Err}
use Rattle.numeric.specs.declared.ty.Ty.{Ty}
use Rattle.tree.specs.declared.token.token.Symbol.{Symbol}
use Rattle.tree.specs.declared.token.token.Symbol.TheVariants as symbol
use Rattle.tree.specs.declared.token.token.Word.{Word}
use Rattle.tree.specs.declared.token.token.Word.TheVariants as word
use Rattle.tree.specs.declared.token.token.Token.{Token}
use Rattle.tree.specs.declared.token.token.Token.TheVariants as token
use Rattle.tree.specs.Token.Cursor.{after, after_word}
use Rattle.tree.specs.Term.{Term}
use Rattle.expr.specs.declared.error.Refusal.{Refusal as ExprRefusal}
use Rattle.expr.specs.declared.error.Refusal.TheVariants as within
use Rattle.expr.specs.Parsing.{expression as expression_at}
use Rattle.expr.specs.declared.statements.error.Refusal.{Refusal}
use Rattle.expr.specs.declared.statements.error.Refusal.TheVariants.{BadForm, LongName, TooLarge}
use Rattle.expr.specs.declared.statements.error.Stop.{Stop}
use Rattle.expr.specs.declared.statements.error.Stop.TheVariants as stop
use Rattle.expr.specs.Statements.Text.{BoundText, DomainText, InputText, FunctionText, UpdateText, StatementText, function as a_function, update as an_update, OutputText, FileText}

-- ---- what a step answers: a value and the tokens after it

abbrev pub Parse : Type 0 → Type 0
Parse A = List Token → Result (A × List Token) Refusal

infixl 10 ◌>>=◌
abbrev pub ◌>>=◌ : {A B : Type 0} → Result A Refusal → (A → Result B Refusal) → Result B Refusal
(Ok x) >>= f = f x
(Err r) >>= f = Err r

abbrev pub Stops : {Y : Type 0} → Stop → Result Y Refusal → Type 0
Stops stop.Memory read = Unit {0}
Stops (stop.Refused r) read = read ≡ Err r

-- What a function returned, seen by view, is what reading gives, unless memory ran out.
abbrev pub Gives : {X Y : Type 0} → (X → Y) → Result X Stop → Result Y Refusal → Type 0
Gives view (Ok x) read = read ≡ Ok (view x)
Gives view (Err s) read = Stops s read

-- Memory is wanted only behind the text's first word.
abbrev pub WantsMemory : List Token → Stop → Type 0
WantsMemory ts stop.Memory = IsSome (after_word word.Pipeline ts)
WantsMemory ts (stop.Refused r) = Unit {0}

-- ---- single tokens

abbrev pub or_refuse : Option (List Token) → ℕ → Result (List Token) Refusal
or_refuse (Some ts) left = Ok ts
or_refuse None left = Err (BadForm left)

-- the tokens after the symbol, which must come first
unfoldable pub expect : Symbol → List Token → Result (List Token) Refusal
expect s ts = or_refuse (after s ts) (length ts)

-- the tokens after the word, which must come first
unfoldable pub expect_word : Word → List Token → Result (List Token) Refusal
expect_word w ts = or_refuse (after_word w ts) (length ts)

abbrev pub name : Parse (List ℕ)
name (token.Name x ∷ ts) = Ok (x, ts)
name (token.LongName ∷ ts) = Err (LongName (length (token.LongName ∷ ts)))
name ts = Err (BadForm (length ts))

abbrev pub type_name : Parse Ty
type_name (token.Type t ∷ ts) = Ok (t, ts)
type_name ts = Err (BadForm (length ts))

-- a number must not have a type here
abbrev pub untyped : Option Ty → ℕ → List Token → ℕ → Result (ℕ × List Token) Refusal
untyped None n ts left = Ok (n, ts)
untyped (Some t) n ts left = Err (BadForm left)

abbrev pub number : Parse ℕ
number (token.Number n ∷ ts) = untyped n.ty n.value ts (length (token.Number n ∷ ts))
number ts = Err (BadForm (length ts))

-- ---- expressions

-- A too large expression stands where it begins.
abbrev pub from_here : {A : Type 0} → ℕ → Result A ExprRefusal → Result A Refusal
from_here left (Ok x) = Ok x
from_here left (Err (within.BadForm n)) = Err (BadForm n)
from_here left (Err (within.LongName n)) = Err (LongName n)
from_here left (Err within.TooLarge) = Err (TooLarge left)

unfoldable pub expression : Parse Term
expression ts = from_here (length ts) (expression_at ts)

-- ---- lists

-- further items, each behind a comma. The number bounds them.
abbrev pub next_of : {A : Type 0} → Parse A → (A → Parse (List A)) → List A → List Token → Option (List Token) → Result (List A × List Token) Refusal
next_of item more found ts None = Ok (found, ts)
next_of item more found ts (Some next) = item next >>= λ r. more r.0 r.1

unfoldable pub more_of : {A : Type 0} → Parse A → ℕ → List A → Parse (List A)
more_of item zero found ts = Ok (found, ts)
more_of item (suc n) found ts = next_of item (λ x. more_of item n (found ++ x ∷ [])) found ts (after symbol.Comma ts)

-- one or more items with commas between them
unfoldable pub separated : {A : Type 0} → Parse A → Parse (List A)
separated item ts = item ts >>= λ r. more_of item (length r.1) (r.0 ∷ []) r.1

unfoldable pub names : Parse (List (List ℕ))
names ts = separated name ts

unfoldable pub numbers : Parse (List ℕ)
numbers ts = separated number ts

unfoldable pub expressions : Parse (List Term)
expressions ts = separated expression ts

-- ---- parts of statements

abbrev pub signed_number : List Token → Option (List Token) → Result (BoundText × List Token) Refusal
signed_number ts None = number ts >>= λ r. Ok (record { negative = false; number = r.0 }, r.1)
signed_number ts (Some next) = number next >>= λ r. Ok (record { negative = true; number = r.0 }, r.1)

unfoldable pub bound : Parse BoundText
bound ts = signed_number ts (after symbol.Minus ts)

unfoldable pub domain : Parse DomainText
domain ts = do
  v ← name ts
  low ← bound v.1
  dots ← expect symbol.DotDot low.1
  high ← bound dots
  Ok (record { variable = v.0; low = low.0; high = high.0 }, high.1)

unfoldable pub domains : Parse (List DomainText)
domains ts = separated domain ts

unfoldable pub size : Parse (List ℕ)
size ts = do
  start ← expect symbol.LeftBracket ts
  ns ← numbers start
  rest ← expect symbol.RightBracket ns.1
  Ok (ns.0, rest)

abbrev pub over_domains : List Token → Option (List Token) → Result (List DomainText × List Token) Refusal
over_domains ts None = Ok ([], ts)
over_domains ts (Some next) = do
  start ← expect symbol.LeftParen next
  ds ← domains start
  rest ← expect symbol.RightParen ds.1
  Ok (ds.0, rest)

-- the domain of an update, which may be left out
unfoldable pub over : Parse (List DomainText)
over ts = over_domains ts (after_word word.Over ts)

-- the right side of a statement
unfoldable pub right_side : Parse Term
right_side ts = do
  start ← expect symbol.Equals ts
  e ← expression start
  rest ← expect symbol.Semicolon e.1
  Ok (e.0, rest)

-- ---- statements, each behind its word

unfoldable pub input : Parse InputText
input ts = do
  start ← expect_word word.Input ts
  n ← name start
  t ← type_name n.1
  s ← size t.1
  rest ← expect symbol.Semicolon s.1
  Ok (record { name = n.0; ty = t.0; extents = s.0 }, rest)

unfoldable pub function : Parse (FunctionText Term)
function ts = do
  n ← name ts
  t ← type_name n.1
  start ← expect symbol.LeftParen t.1
  vs ← names start
  rest ← expect symbol.RightParen vs.1
  e ← right_side rest
  Ok (record { name = n.0; ty = t.0; variables = vs.0; value = e.0 }, e.1)

unfoldable pub update : Parse (UpdateText Term)
update ts = do
  n ← name ts
  ds ← over n.1
  start ← expect symbol.LeftBracket ds.1
  at ← expressions start
  rest ← expect symbol.RightBracket at.1
  e ← right_side rest
  Ok (record { name = n.0; domains = ds.0; at = at.0; value = e.0 }, e.1)

unfoldable pub output : Parse OutputText
output ts = do
  start ← expect_word word.Output ts
  n ← name start
  s ← size n.1
  rest ← expect symbol.Semicolon s.1
  Ok (record { name = n.0; extents = s.0 }, rest)

abbrev pub begun : List Token → Option (List Token) → Option (List Token) → Result (Option (StatementText Term) × List Token) Refusal
begun ts (Some us) u = function us >>= λ r. Ok (Some (a_function r.0), r.1)
begun ts None (Some us) = update us >>= λ r. Ok (Some (an_update r.0), r.1)
begun ts None None = Ok (None, ts)

-- the statement that begins here, if one does
unfoldable pub statement : Parse (Option (StatementText Term))
statement ts = begun ts (after_word word.Func ts) (after_word word.Update ts)

abbrev pub next_statement : (StatementText Term → Parse (List (StatementText Term))) → List (StatementText Term) → List Token → Option (StatementText Term) → Result (List (StatementText Term) × List Token) Refusal
next_statement more found ts None = Ok (found, ts)
next_statement more found ts (Some s) = more s ts

-- statements as long as they follow. The number bounds them.
unfoldable pub statements : ℕ → List (StatementText Term) → Parse (List (StatementText Term))
statements zero found ts = Ok (found, ts)
statements (suc n) found ts = statement ts >>= λ r. next_statement (λ x. statements n (found ++ x ∷ [])) found r.1 r.0

abbrev pub led_by : List Token → Option (List Token) → Result (List Token) Refusal
led_by ts None = Ok ts
led_by ts (Some us) = Err (BadForm (length ts))

-- the same tokens, where no update begins here
unfoldable pub led : List Token → Result (List Token) Refusal
led ts = led_by ts (after_word word.Update ts)

abbrev pub ended : FileText Term → List Token → Result (FileText Term) Refusal
ended f [] = Ok f
ended f (t ∷ ts) = Err (BadForm (length (t ∷ ts)))

-- a whole text
unfoldable pub file : List Token → Result (FileText Term) Refusal
file ts = do
  start ← expect_word word.Pipeline ts
  n ← name start
  head ← expect symbol.Semicolon n.1
  i ← input head
  front ← led i.1
  s ← statements (length front) [] front
  o ← output s.1
  ended (record { name = n.0; input = i.0; statements = s.0; output = o.0 }) o.1
