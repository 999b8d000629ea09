-- Where a fault of the form stands, and why a text is refused.
use Rattle.std.specs.Prelude.{◌≡◌, ◌-◌, ◌<◌, ◌≤◌, ◌⊎◌, ℕ, List, length, drop, Err}
use Rattle.tree.specs.declared.token.span.Span.{Span}
use Rattle.tree.specs.declared.token.token.Lexeme.{Lexeme}
use Rattle.tree.specs.declared.token.error.TokenError.{TokenError}
use Rattle.tree.specs.declared.token.error.TokenError.TheVariants as token_error
use Rattle.tree.specs.Token.Cursor.{kinds, place}
use Rattle.tree.specs.Token.Lexical.{AreLexemes, IsBadAt, IsRefused as AreRefused, max_text}
use Rattle.sched.specs.declared.error.Refusal.{Refusal}
use Rattle.sched.specs.declared.error.Refusal.TheVariants as refusal
use Rattle.sched.specs.declared.error.SchedError.{SchedError}
use Rattle.sched.specs.declared.error.SchedError.TheVariants as error
use Rattle.sched.specs.Schedule.{Schedule}
use Rattle.sched.specs.Reading.{file}
use Rattle.sched.specs.Grammar.{IsTextOf}

-- where so many tokens are left: at the first of them, or at the end of the text
abbrev pub place_left : List Lexeme → ℕ → ℕ → Span
place_left lexemes left end = place (drop (length lexemes - left) lexemes) end

-- what a refusal of the tokens says of the text, which ends there
abbrev pub fault : Refusal → List Lexeme → ℕ → SchedError
fault (refusal.BadForm left) lexemes end = error.BadForm (place_left lexemes left end)
fault (refusal.LongName left) lexemes end = error.TooLarge (place_left lexemes left end)

-- the tokens do not go on as the grammar says at this place, and the text stands for nothing
pub record BadFormAt (text : List ℕ) (span : Span) : Type 0 where
  pub lexemes : List Lexeme
  pub tokens : AreLexemes text lexemes
  pub left : ℕ
  pub read : file (kinds lexemes) ≡ Err (refusal.BadForm left)
  pub at : span ≡ place_left lexemes left (length text)
  pub none : (s : Schedule) → IsTextOf text s → ⊥

-- a name of more than 16 bytes stands at this place, and the text stands for nothing
pub record LongNameAt (text : List ℕ) (span : Span) : Type 0 where
  pub lexemes : List Lexeme
  pub tokens : AreLexemes text lexemes
  pub left : ℕ
  pub read : file (kinds lexemes) ≡ Err (refusal.LongName left)
  pub at : span ≡ place_left lexemes left (length text)
  pub none : (s : Schedule) → IsTextOf text s → ⊥

-- the text is longer than it may be: the bytes from there on
pub record TooLongAt (text : List ℕ) (span : Span) : Type 0 where
  pub long : max_text < length text
  pub at : span ≡ record { start = max_text; end = length text }

-- Why a text is refused; rules of schedules are not asked here. Memory is wanted only where the text is no longer than it may be.
abbrev pub IsRefused : List ℕ → SchedError → Type 0
IsRefused text error.Memory = length text ≤ max_text
IsRefused text (error.BadToken span) = IsBadAt text span × ((s : Schedule) → IsTextOf text s → ⊥)
IsRefused text (error.BadForm span) = BadFormAt text span
IsRefused text (error.TooLarge span) = TooLongAt text span ⊎ LongNameAt text span
IsRefused text (error.Broken rule function) = ⊥
IsRefused text error.UnfitNames = ⊥

-- a refusal of the text's bytes as one of its form
abbrev pub token_refusal : TokenError → SchedError
token_refusal token_error.Memory = error.Memory
token_refusal (token_error.TooLong span) = error.TooLarge span
token_refusal (token_error.BadToken span) = error.BadToken span
