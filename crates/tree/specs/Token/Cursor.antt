-- The tokens that are left to a reader.
use Rattle.std.specs.Prelude.{ℕ, Bool, if◌then◌else◌, List, [], ◌∷◌, map, Option, Some, None}
use denote.Enum.Bare.{sameb}
use Rattle.tree.specs.contracts.token.token.Symbol.{the_type as symbol_type}
use Rattle.tree.specs.contracts.token.token.Word.{the_type as word_type}
use Rattle.tree.specs.declared.token.span.Span.{Span}
use Rattle.tree.specs.declared.token.token.Symbol.{Symbol}
use Rattle.tree.specs.declared.token.token.Word.{Word}
use Rattle.tree.specs.declared.token.token.Token.{Token}
use Rattle.tree.specs.declared.token.token.Token.TheVariants as token
use Rattle.tree.specs.declared.token.token.Lexeme.{Lexeme}

-- the tokens without their places
abbrev pub kinds : List Lexeme → List Token
kinds lexemes = map (λ l. l.token) lexemes

abbrev pub same_symbol : Symbol → Symbol → Bool
same_symbol = sameb symbol_type

abbrev pub same_word : Word → Word → Bool
same_word = sameb word_type

-- the tokens after the symbol, if it comes first
abbrev pub after : Symbol → List Token → Option (List Token)
after s [] = None
after s (token.Symbol t ∷ ts) = if same_symbol t s then Some ts else None
after s (_ ∷ ts) = None

-- the tokens after the word, if it comes first
abbrev pub after_word : Word → List Token → Option (List Token)
after_word w [] = None
after_word w (token.Word v ∷ ts) = if same_word v w then Some ts else None
after_word w (_ ∷ ts) = None

-- where the first of the tokens that are left stands, or the end of the text
abbrev pub place : List Lexeme → ℕ → Span
place [] end = record { start = end; end = end }
place (l ∷ ls) end = l.span
