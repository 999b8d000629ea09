-- What a text stands for, and why a text is refused.
use Rattle.std.specs.Prelude.{◌≡◌, ◌≤◌, ◌<◌, ℕ, ◌-◌, ◌⊎◌, List, [], ◌∷◌, length, drop, Err}
use Rattle.tree.specs.declared.token.span.Span.{Span}
use Rattle.tree.specs.declared.token.token.Lexeme.{Lexeme}
use Rattle.tree.specs.declared.token.error.TokenError.{TokenError}
use Rattle.tree.specs.declared.token.error.TokenError.TheVariants as token_error
use Rattle.tree.specs.Token.Cursor.{kinds, place}
use Rattle.tree.specs.Token.Lexical.{AreLexemes, IsBadAt, max_text}
use Rattle.tree.specs.Term.{Term}
use Rattle.expr.specs.declared.error.ExprError.{ExprError}
use Rattle.expr.specs.declared.error.ExprError.TheVariants as error
use Rattle.expr.specs.declared.error.Refusal.TheVariants.{BadForm, LongName, TooLarge}
use Rattle.expr.specs.Parsing.{whole}
use Rattle.expr.specs.Grammar.{Fits, StandsFor}

-- The text is made of tokens that the grammar's rules put together, and stands for the term.
pub record IsTextOf (text : List ℕ) (t : Term) : Type 0 where
  pub lexemes : List Lexeme
  pub tokens : AreLexemes text lexemes
  pub stands : StandsFor (kinds lexemes) [] t

-- at most 512 nodes and 64 levels
abbrev pub IsSmall : Term → Type 0
IsSmall t = Fits 512 64 t

-- where so many tokens are left: at the first of them, or at the end of the text
abbrev pub place_left : List Lexeme → ℕ → ℕ → Span
place_left lexemes left end = place (drop (length lexemes - left) lexemes) end

-- where the last token ends
abbrev pub last_end : List Lexeme → ℕ → ℕ
last_end [] end = end
last_end (l ∷ ls) end = last_end ls l.span.end

-- all tokens, from the first to the last
abbrev pub extent : List Lexeme → ℕ → Span
extent lexemes end = record { start = (place lexemes end).start; end = last_end lexemes end }

-- the tokens do not go on as the grammar says at this place, and the text stands for nothing
pub record BadFormAt (text : List ℕ) (span : Span) : Type 0 where
  pub lexemes : List Lexeme
  pub tokens : AreLexemes text lexemes
  pub left : ℕ
  pub read : whole (kinds lexemes) ≡ Err (BadForm left)
  pub at : span ≡ place_left lexemes left (length text)
  pub none : (t : Term) → IsTextOf text t → ⊥

-- a name of more than 16 bytes stands at this place, and the text stands for nothing
pub record LongNameAt (text : List ℕ) (span : Span) : Type 0 where
  pub lexemes : List Lexeme
  pub tokens : AreLexemes text lexemes
  pub left : ℕ
  pub read : whole (kinds lexemes) ≡ Err (LongName left)
  pub at : span ≡ place_left lexemes left (length text)
  pub none : (t : Term) → IsTextOf text t → ⊥

-- the whole text stands for no term within the limits
pub record TooLargeAt (text : List ℕ) (span : Span) : Type 0 where
  pub lexemes : List Lexeme
  pub tokens : AreLexemes text lexemes
  pub read : whole (kinds lexemes) ≡ Err TooLarge
  pub at : span ≡ extent lexemes (length text)
  pub none : (t : Term) → IsTextOf text t → IsSmall t → ⊥

-- the text is longer than it may be
pub record TooLongAt (text : List ℕ) (span : Span) : Type 0 where
  pub long : max_text < length text
  pub at : span ≡ record { start = max_text; end = length text }

-- Why a text is refused. Memory is wanted only where the text is no longer than it may be.
abbrev pub IsRefused : List ℕ → ExprError → Type 0
IsRefused text error.Memory = length text ≤ max_text
IsRefused text (error.BadToken span) = IsBadAt text span × ((t : Term) → IsTextOf text t → ⊥)
IsRefused text (error.BadForm span) = BadFormAt text span
IsRefused text (error.TooLarge span) = TooLongAt text span ⊎ LongNameAt text span ⊎ TooLargeAt text span

-- a refusal of tokens as one of an expression
abbrev pub token_refusal : TokenError → ExprError
token_refusal token_error.Memory = error.Memory
token_refusal (token_error.TooLong span) = error.TooLarge span
token_refusal (token_error.BadToken span) = error.BadToken span
