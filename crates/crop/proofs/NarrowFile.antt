-- What a narrow text stands for.
use Rattle.std.proofs.Common.{◌≡◌, ℕ, ◌<◌, Bool, true, false, List, [], ◌∷◌, length, None, refl, ap, ◌∙◌, arith}
use Rattle.std.specs.Prelude.{not, ◌&&◌, nat_lt, nat_le, if◌then◌else◌}
use Rattle.std.proofs.lemmas.Bool.Decides.{nat_tests}
use Rattle.tree.specs.declared.token.token.Symbol.{Symbol}
use Rattle.tree.specs.declared.token.token.Symbol.TheVariants as symbol
use Rattle.tree.specs.declared.token.token.Word.TheVariants as word
use Rattle.tree.specs.declared.token.token.Token.{Token}
use Rattle.tree.specs.declared.token.token.Token.TheVariants as token
use Rattle.tree.specs.declared.token.token.Lexeme.{Lexeme}
use Rattle.tree.specs.Token.Cursor.{kinds}
use Rattle.tree.specs.Token.Lexical.{AreLexemes}
use Rattle.tree.specs.Term.{Term}
use Rattle.expr.specs.Grammar.{sign, add_symbol, mul_symbol, comparison_symbol, Extreme, least, greatest, extreme_word}
use Rattle.expr.specs.Grammar.{Sums, term, add, Products, factor, multiply, Signed, unsigned, negated, Primary, number, variable, call, group, cast, extreme, clamp, select, More, no_more, next, Condition, compare, deny, all, any}
use Rattle.expr.specs.Grammar.{sums_then, products_then, signed_then, primary_then, more_then, condition_then}
use Rattle.expr.specs.Statements.Text.{DomainText, StatementText, function, update, FileText}
use Rattle.expr.specs.Statements.Grammar.{others_then, items_then, name_then, number_then, signed_then as sign_then, bound_then, domain_then, size_then, over_then, right_side_then, statement_then, statements_then, output_then, file_then, StandsFor, IsTextOf}
use Rattle.crop.specs.Narrow.{is_wide, narrow_extent, narrow_extents, narrow_file, sides_left, is_wide_token, narrow_text}
use Rattle.crop.proofs.NarrowText.{one, narrow_lexeme, narrow_lexemes, narrow_lexed}

abbrev pub narrow_tokens : ℕ → List Token → List Token
narrow_tokens n [] = []
narrow_tokens n (t ∷ ts) = (if is_wide_token n t then one else t) ∷ narrow_tokens (sides_left n t) ts

narrow_kind : (l : Lexeme) (w : Bool) → (if w then narrow_lexeme l else l).token ≡ (if w then one else l.token)
narrow_kind l true = refl
narrow_kind l false = refl

narrow_kinds : (b : ℕ) (ls : List Lexeme) → kinds (narrow_lexemes b ls) ≡ narrow_tokens b (kinds ls)
narrow_kinds b [] = refl
narrow_kinds b (l ∷ ls) = λ i. narrow_kind l (is_wide_token b l.token) i ∷ narrow_kinds (sides_left b l.token) ls i

-- ---- outside of the sizes all tokens stay
abbrev outside : List Token → List Token
outside ts = narrow_tokens 0 ts

sign_follow : (s : Symbol) → sides_left 0 (token.Symbol s) ≡ 0
sign_follow symbol.DotDot = refl
sign_follow symbol.EqualsEquals = refl
sign_follow symbol.NotEquals = refl
sign_follow symbol.LessEquals = refl
sign_follow symbol.GreaterEquals = refl
sign_follow symbol.Plus = refl
sign_follow symbol.Minus = refl
sign_follow symbol.Star = refl
sign_follow symbol.Slash = refl
sign_follow symbol.Percent = refl
sign_follow symbol.LeftParen = refl
sign_follow symbol.RightParen = refl
sign_follow symbol.LeftBracket = refl
sign_follow symbol.RightBracket = refl
sign_follow symbol.Comma = refl
sign_follow symbol.Semicolon = refl
sign_follow symbol.Dot = refl
sign_follow symbol.Equals = refl
sign_follow symbol.Less = refl
sign_follow symbol.Greater = refl

sign_stays : (s : Symbol) (rest : List Token) → outside (sign s ∷ rest) ≡ sign s ∷ outside rest
sign_stays s rest = ap (λ b. sign s ∷ narrow_tokens b rest) (sign_follow s)

extreme_stays : (o : Extreme) (rest : List Token) → outside (extreme_word o ∷ rest) ≡ extreme_word o ∷ outside rest
extreme_stays least rest = refl
extreme_stays greatest rest = refl

mutual
  sums_stay : (s : Sums) (rest : List Token) → outside (sums_then s rest) ≡ sums_then s (outside rest)
  sums_stay (term p) rest = products_stay p rest
  sums_stay (add s o p) rest =
      sums_stay s (sign (add_symbol o) ∷ products_then p rest) ∙ ap (sums_then s) (sign_stays (add_symbol o) (products_then p rest) ∙ ap (λ r. sign (add_symbol o) ∷ r) (products_stay p rest))

  products_stay : (p : Products) (rest : List Token) → outside (products_then p rest) ≡ products_then p (outside rest)
  products_stay (factor s) rest = signed_stay s rest
  products_stay (multiply p o s) rest =
      products_stay p (sign (mul_symbol o) ∷ signed_then s rest) ∙ ap (products_then p) (sign_stays (mul_symbol o) (signed_then s rest) ∙ ap (λ r. sign (mul_symbol o) ∷ r) (signed_stay s rest))

  signed_stay : (s : Signed) (rest : List Token) → outside (signed_then s rest) ≡ signed_then s (outside rest)
  signed_stay (unsigned p) rest = primary_stays p rest
  signed_stay (negated s) rest = ap (λ r. sign symbol.Minus ∷ r) (signed_stay s rest)

  primary_stays : (p : Primary) (rest : List Token) → outside (primary_then p rest) ≡ primary_then p (outside rest)
  primary_stays (number n) rest = refl
  primary_stays (variable x) rest = refl
  primary_stays (call f a more) rest = ap (λ r. token.Name f ∷ sign symbol.LeftBracket ∷ r) (sums_stay a (more_then more rest) ∙ ap (sums_then a) (more_stays more rest))
  primary_stays (group a) rest = ap (λ r. sign symbol.LeftParen ∷ r) (sums_stay a (sign symbol.RightParen ∷ rest))
  primary_stays (cast t a) rest = ap (λ r. token.Type t ∷ sign symbol.LeftParen ∷ r) (sums_stay a (sign symbol.RightParen ∷ rest))
  primary_stays (extreme o a b) rest =
      extreme_stays o (sign symbol.LeftParen ∷ sums_then a (sign symbol.Comma ∷ sums_then b (sign symbol.RightParen ∷ rest)))
      ∙ ap (λ r. extreme_word o ∷ sign symbol.LeftParen ∷ r) (sums_stay a (sign symbol.Comma ∷ sums_then b (sign symbol.RightParen ∷ rest))
      ∙ ap (λ r. sums_then a (sign symbol.Comma ∷ r)) (sums_stay b (sign symbol.RightParen ∷ rest)))
  primary_stays (clamp a l h) rest =
      ap (λ r. token.Word word.Clamp ∷ sign symbol.LeftParen ∷ r) (sums_stay a (sign symbol.Comma ∷ sums_then l (sign symbol.Comma ∷ sums_then h (sign symbol.RightParen ∷ rest)))
      ∙ ap (λ r. sums_then a (sign symbol.Comma ∷ r)) (sums_stay l (sign symbol.Comma ∷ sums_then h (sign symbol.RightParen ∷ rest))
      ∙ ap (λ r. sums_then l (sign symbol.Comma ∷ r)) (sums_stay h (sign symbol.RightParen ∷ rest))))
  primary_stays (select c a b) rest =
      ap (λ r. token.Word word.Select ∷ sign symbol.LeftParen ∷ r) (condition_stays c (sign symbol.Comma ∷ sums_then a (sign symbol.Comma ∷ sums_then b (sign symbol.RightParen ∷ rest)))
      ∙ ap (λ r. condition_then c (sign symbol.Comma ∷ r)) (sums_stay a (sign symbol.Comma ∷ sums_then b (sign symbol.RightParen ∷ rest))
      ∙ ap (λ r. sums_then a (sign symbol.Comma ∷ r)) (sums_stay b (sign symbol.RightParen ∷ rest))))

  more_stays : (more : More) (rest : List Token) → outside (more_then more rest) ≡ more_then more (outside rest)
  more_stays no_more rest = refl
  more_stays (next a more) rest = ap (λ r. sign symbol.Comma ∷ r) (sums_stay a (more_then more rest) ∙ ap (sums_then a) (more_stays more rest))

  condition_stays : (c : Condition) (rest : List Token) → outside (condition_then c rest) ≡ condition_then c (outside rest)
  condition_stays (compare a o b) rest =
      sums_stay a (sign (comparison_symbol o) ∷ sums_then b rest)
      ∙ ap (sums_then a) (sign_stays (comparison_symbol o) (sums_then b rest) ∙ ap (λ r. sign (comparison_symbol o) ∷ r) (sums_stay b rest))
  condition_stays (deny c) rest = ap (λ r. token.Word word.Not ∷ sign symbol.LeftParen ∷ r) (condition_stays c (sign symbol.RightParen ∷ rest))
  condition_stays (all c d) rest =
      ap (λ r. token.Word word.All ∷ sign symbol.LeftParen ∷ r) (condition_stays c (sign symbol.Comma ∷ condition_then d (sign symbol.RightParen ∷ rest))
      ∙ ap (λ r. condition_then c (sign symbol.Comma ∷ r)) (condition_stays d (sign symbol.RightParen ∷ rest)))
  condition_stays (any c d) rest =
      ap (λ r. token.Word word.Any ∷ sign symbol.LeftParen ∷ r) (condition_stays c (sign symbol.Comma ∷ condition_then d (sign symbol.RightParen ∷ rest))
      ∙ ap (λ r. condition_then c (sign symbol.Comma ∷ r)) (condition_stays d (sign symbol.RightParen ∷ rest)))

-- ---- statements
abbrev Stays : {A : Type 0} → (A → List Token → List Token) → Type 0
Stays {A} item = (x : A) (rest : List Token) → outside (item x rest) ≡ item x (outside rest)

module _ {A : Type 0} (item : A → List Token → List Token) (stays : Stays item) where
  others_stay : (xs : List A) (rest : List Token) → outside (others_then item xs rest) ≡ others_then item xs (outside rest)
  others_stay [] rest = refl
  others_stay (x ∷ xs) rest = ap (λ r. sign symbol.Comma ∷ r) (stays x (others_then item xs rest) ∙ ap (item x) (others_stay xs rest))

  items_stay : (xs : List A) (rest : List Token) → outside (items_then item xs rest) ≡ items_then item xs (outside rest)
  items_stay [] rest = refl
  items_stay (x ∷ xs) rest = stays x (others_then item xs rest) ∙ ap (item x) (others_stay xs rest)

name_stays : Stays name_then
name_stays x rest = refl

signed_stays : (negative : Bool) (n : ℕ) (rest : List Token) → outside (sign_then negative n rest) ≡ sign_then negative n (outside rest)
signed_stays true n rest = refl
signed_stays false n rest = refl

domain_stays : Stays domain_then
domain_stays d rest =
    ap (λ r. token.Name d.variable ∷ r) (signed_stays d.low.negative d.low.number (sign symbol.DotDot ∷ bound_then d.high rest)
    ∙ ap (λ r. bound_then d.low (sign symbol.DotDot ∷ r)) (signed_stays d.high.negative d.high.number rest))

over_stays : (ds : List DomainText) (rest : List Token) → outside (over_then ds rest) ≡ over_then ds (outside rest)
over_stays [] rest = refl
over_stays (d ∷ ds) rest = ap (λ r. token.Word word.Over ∷ sign symbol.LeftParen ∷ r) (items_stay domain_then domain_stays (d ∷ ds) (sign symbol.RightParen ∷ rest))

side_stays : (e : Sums) (rest : List Token) → outside (right_side_then e rest) ≡ right_side_then e (outside rest)
side_stays e rest = ap (λ r. sign symbol.Equals ∷ r) (sums_stay e (sign symbol.Semicolon ∷ rest))

statement_stays : (s : StatementText Sums) (rest : List Token) → outside (statement_then s rest) ≡ statement_then s (outside rest)
statement_stays (function s) rest =
    ap (λ r. token.Word word.Func ∷ token.Name s.name ∷ token.Type s.ty ∷ sign symbol.LeftParen ∷ r)
    (items_stay name_then name_stays s.variables (sign symbol.RightParen ∷ right_side_then s.value rest)
    ∙ ap (λ r. items_then name_then s.variables (sign symbol.RightParen ∷ r)) (side_stays s.value rest))
statement_stays (update s) rest =
    ap (λ r. token.Word word.Update ∷ token.Name s.name ∷ r) (over_stays s.domains (sign symbol.LeftBracket ∷ items_then sums_then s.at (sign symbol.RightBracket ∷ right_side_then s.value rest))
    ∙ ap (λ r. over_then s.domains (sign symbol.LeftBracket ∷ r)) (items_stay sums_then sums_stay s.at (sign symbol.RightBracket ∷ right_side_then s.value rest)
    ∙ ap (λ r. items_then sums_then s.at (sign symbol.RightBracket ∷ r)) (side_stays s.value rest)))

statements_stay : (ss : List (StatementText Sums)) (rest : List Token) → outside (statements_then ss rest) ≡ statements_then ss (outside rest)
statements_stay [] rest = refl
statements_stay (s ∷ ss) rest = statement_stays s (statements_then ss rest) ∙ ap (statement_then s) (statements_stay ss rest)

-- ---- sizes
abbrev number_token : ℕ → Token
number_token n = token.Number (record { value = n; ty = None })

not_above : (n : ℕ) (b : Bool) → nat_le n 8192 ≡ b → nat_lt 8192 n ≡ not b
not_above n true e = grind (arith, nat_tests)
not_above n false e = grind (arith, nat_tests)

number_by : (n : ℕ) (b c : Bool) → (if not b && c then one else number_token n) ≡ number_token (if b then n else (if c then 1 else n))
number_by n true c = refl
number_by n false true = refl
number_by n false false = refl

number_narrows : (n : ℕ) → (if is_wide n then one else number_token n) ≡ number_token (narrow_extent n)
number_narrows n = ap (λ b. if b && nat_le n 16777216 then one else number_token n) (not_above n (nat_le n 8192) refl) ∙ number_by n (nat_le n 8192) (nat_le n 16777216)

number_stays : Stays number_then
number_stays n rest = refl

abbrev ending : List Token → List Token
ending rest = sign symbol.RightBracket ∷ sign symbol.Semicolon ∷ rest

size_narrows : (ns : List ℕ) (rest : List Token) → narrow_tokens 2 (size_then ns (sign symbol.Semicolon ∷ rest)) ≡ size_then (narrow_extents ns) (sign symbol.Semicolon ∷ outside rest)
size_narrows [] rest = refl
size_narrows (n ∷ []) rest = λ i. sign symbol.LeftBracket ∷ number_narrows n i ∷ ending (outside rest)
size_narrows (n ∷ m ∷ ns) rest =
    λ i. sign symbol.LeftBracket ∷ number_narrows n i ∷ sign symbol.Comma ∷ number_narrows m i ∷ others_stay number_then number_stays ns (ending rest) i

file_narrows : (f : FileText Sums) → narrow_tokens 0 (file_then f) ≡ file_then (narrow_file f)
file_narrows f =
    ap (λ r. token.Word word.Pipeline ∷ token.Name f.name ∷ sign symbol.Semicolon ∷ token.Word word.Input ∷ token.Name f.input.name ∷ token.Type f.input.ty ∷ r)
    (size_narrows f.input.extents (statements_then f.statements (output_then f.output []))
    ∙ ap (λ r. size_then (narrow_extents f.input.extents) (sign symbol.Semicolon ∷ r)) (statements_stay f.statements (output_then f.output [])
    ∙ ap (λ r. statements_then f.statements (token.Word word.Output ∷ token.Name f.output.name ∷ r)) (size_narrows f.output.extents [])))

some_narrow : (ns : List ℕ) → 0 < length ns → 0 < length (narrow_extents ns)
some_narrow [] h = h
some_narrow (n ∷ []) h = h
some_narrow (n ∷ m ∷ ns) h = omega arith

-- the narrow text stands for the file with narrow extents
pub narrow_stands : (text : List ℕ) (ls : List Lexeme) (file : FileText Term) → AreLexemes text ls → StandsFor (kinds ls) file → IsTextOf (narrow_text text ls) (narrow_file file)
narrow_stands text ls file are h = record {
  lexemes = narrow_lexemes 0 ls;
  tokens = (narrow_lexed text ls are).tokens;
  stands = record {
    rules = narrow_file h.rules;
    whole = record {
      input = some_narrow h.rules.input.extents h.whole.input;
      led = h.whole.led;
      statements = h.whole.statements;
      output = some_narrow h.rules.output.extents h.whole.output;
    };
    spelled = narrow_kinds 0 ls ∙ ap (narrow_tokens 0) h.spelled ∙ file_narrows h.rules;
    is = ap (λ (f : FileText Term). narrow_file f) h.is;
  };
}
