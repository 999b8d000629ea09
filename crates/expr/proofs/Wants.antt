-- Memory is wanted only where a token stands.
use Rattle.std.proofs.Common.{◌≡◌, ℕ, ◌≤◌, List, [], ◌∷◌, length, Option, Some, None, IsSome, IfErr, Result, Ok, Err, refl, sym, subst}
use Rattle.tree.specs.declared.token.token.Word.TheVariants as word
use Rattle.tree.specs.declared.token.token.Token.{Token}
use Rattle.tree.specs.declared.token.token.Lexeme.{Lexeme}
use Rattle.tree.specs.declared.token.error.TokenError.TheVariants as token_error
use Rattle.tree.specs.Token.Cursor.{kinds, after_word}
use Rattle.tree.specs.Token.Lexical.{AreLexemes, IsRefused as AreRefused, max_text}
use Rattle.expr.specs.declared.statements.error.Stop.{Stop}
use Rattle.expr.specs.declared.statements.error.Stop.TheVariants as stop
use Rattle.expr.specs.Statements.Reading.{expect_word, or_refuse, WantsMemory}

some_if : (o : Option (List Token)) (left : ℕ) (us : List Token) → or_refuse o left ≡ Ok us → IsSome o
some_if (Some ts) left us h = refl
some_if None left us h = absurd cc

wants : (ts us : List Token) (s : Stop) → expect_word word.Pipeline ts ≡ Ok us → WantsMemory ts s
unfolding expect_word
wants ts us stop.Memory h = some_if (after_word word.Pipeline ts) (length ts) us h
wants ts us (stop.Refused r) h = tt

-- whatever stops the reading behind the first word
pub behind_word : {X : Type 0} (r : Result X Stop) (ts us : List Token) → expect_word word.Pipeline ts ≡ Ok us → IfErr r (λ s. WantsMemory ts s)
behind_word (Ok x) ts us h = tt
behind_word (Err s) ts us h = wants ts us s h

pub token_stands : (text : List ℕ) (ls : List Lexeme) → length text ≤ max_text → AreLexemes text ls → IsSome (after_word word.Pipeline (kinds ls)) → AreRefused text token_error.Memory
token_stands text [] short are some = absurd cc
token_stands text (l ∷ ls) short are some = (short, are.0, subst IsSome (sym are.2) refl)
