-- Where a fault of the form stands, and why a text is refused.
use Rattle.std.specs.Prelude.{◌≡◌, ◌-◌, ◌+◌, ◌==◌, if◌then◌else◌, ◌⊎◌, ℕ, List, [], ◌∷◌, length, drop, Option, Some, None, Err}
use Rattle.tree.specs.declared.token.span.Span.{Span}
use Rattle.tree.specs.declared.token.token.Symbol.TheVariants as symbol
use Rattle.tree.specs.declared.token.token.Token.{Token}
use Rattle.tree.specs.declared.token.token.Token.TheVariants as token
use Rattle.tree.specs.declared.token.token.Lexeme.{Lexeme}
use Rattle.tree.specs.declared.token.error.TokenError.{TokenError}
use Rattle.tree.specs.declared.token.error.TokenError.TheVariants as token_error
use Rattle.tree.specs.Token.Cursor.{kinds, place}
use Rattle.tree.specs.Token.Lexical.{AreLexemes, IsBadAt, IsRefused as AreRefused}
use Rattle.tree.specs.Term.{Term}
use Rattle.expr.specs.Text.{TooLongAt}
use Rattle.expr.specs.declared.statements.error.Refusal.{Refusal}
use Rattle.expr.specs.declared.statements.error.Refusal.TheVariants as refusal
use Rattle.expr.specs.declared.statements.error.FormError.{FormError}
use Rattle.expr.specs.declared.statements.error.FormError.TheVariants as error
use Rattle.expr.specs.Statements.Text.{FileText}
use Rattle.expr.specs.Statements.Reading.{file}
use Rattle.expr.specs.Statements.Grammar.{IsTextOf, IsSmall}

-- the tokens of which so many are left
abbrev pub left_of : List Lexeme → ℕ → List Lexeme
left_of ls left = drop (length ls - left) ls

abbrev pub closed : ℕ → Option ℕ
closed n = if n == 0 then None else Some (n - 1)

abbrev pub inside : ℕ → Option ℕ
inside n = if n == 0 then None else Some n

-- How many brackets stand open after the token, if so many do before it. An expression ends before a comma or a
-- closing bracket that stands in none of its brackets, and before a semicolon.
abbrev pub open_after : ℕ → Token → Option ℕ
open_after n (token.Symbol symbol.LeftParen) = Some (n + 1)
open_after n (token.Symbol symbol.LeftBracket) = Some (n + 1)
open_after n (token.Symbol symbol.RightParen) = closed n
open_after n (token.Symbol symbol.RightBracket) = closed n
open_after n (token.Symbol symbol.Comma) = inside n
open_after n (token.Symbol symbol.Semicolon) = None
open_after n t = Some n

abbrev pub or_end : Option ℕ → (ℕ → ℕ) → ℕ → ℕ
or_end None more end = end
or_end (Some n) more end = more n

-- where the last token of an expression ends, of which so many brackets stand open and the part so far ends there
abbrev pub end_from : ℕ → List Lexeme → ℕ → ℕ
end_from n [] end = end
end_from n (l ∷ ls) end = or_end (open_after n l.token) (λ m. end_from m ls l.span.end) end

-- the place of the expression at the front
abbrev pub extent : List Lexeme → ℕ → Span
extent ls end = record { start = (place ls end).start; end = end_from 0 ls (place ls end).end }

-- what a refusal of the tokens says of the text, which ends there
abbrev pub fault : Refusal → List Lexeme → ℕ → FormError
fault (refusal.BadForm left) ls end = error.BadForm (place (left_of ls left) end)
fault (refusal.LongName left) ls end = error.TooLarge (place (left_of ls left) end)
fault (refusal.TooLarge left) ls end = error.TooLarge (extent (left_of ls left) end)

-- the tokens do not go on as the grammar says at this place, and the text stands for nothing
pub record BadFormAt (text : List ℕ) (span : Span) : Type 0 where
  pub lexemes : List Lexeme
  pub tokens : AreLexemes text lexemes
  pub left : ℕ
  pub read : file (kinds lexemes) ≡ Err (refusal.BadForm left)
  pub at : span ≡ place (left_of lexemes left) (length text)
  pub none : (f : FileText Term) → IsTextOf text f → ⊥

-- a name of more than 16 bytes stands at this place, and the text stands for nothing
pub record LongNameAt (text : List ℕ) (span : Span) : Type 0 where
  pub lexemes : List Lexeme
  pub tokens : AreLexemes text lexemes
  pub left : ℕ
  pub read : file (kinds lexemes) ≡ Err (refusal.LongName left)
  pub at : span ≡ place (left_of lexemes left) (length text)
  pub none : (f : FileText Term) → IsTextOf text f → ⊥

-- a too large expression stands at this place, and the text stands for no file whose expressions are within the limits
pub record TooLargeAt (text : List ℕ) (span : Span) : Type 0 where
  pub lexemes : List Lexeme
  pub tokens : AreLexemes text lexemes
  pub left : ℕ
  pub read : file (kinds lexemes) ≡ Err (refusal.TooLarge left)
  pub at : span ≡ extent (left_of lexemes left) (length text)
  pub none : (f : FileText Term) → IsTextOf text f → IsSmall f → ⊥

-- Why a text is refused. Memory is wanted only where a token stands.
abbrev pub IsRefused : List ℕ → FormError → Type 0
IsRefused text error.Memory = AreRefused text token_error.Memory
IsRefused text (error.BadToken span) = IsBadAt text span × ((f : FileText Term) → IsTextOf text f → ⊥)
IsRefused text (error.BadForm span) = BadFormAt text span
IsRefused text (error.TooLarge span) = TooLongAt text span ⊎ LongNameAt text span ⊎ TooLargeAt text span

-- a refusal of the text's bytes as one of its form
abbrev pub token_refusal : TokenError → FormError
token_refusal token_error.Memory = error.Memory
token_refusal (token_error.TooLong span) = error.TooLarge span
token_refusal (token_error.BadToken span) = error.BadToken span
