-- A whole text.
use Rattle.std.proofs.Common.{◌≡◌, ℕ, List, length, Err, refl, sym, ap, subst, inl, inr, Result, ◌∙◌, Ok}
use Rattle.tree.specs.declared.token.token.Token.{Token}
use Rattle.tree.specs.declared.token.token.Lexeme.{Lexeme}
use Rattle.tree.specs.Token.Cursor.{kinds}
use Rattle.tree.specs.Token.Lexical.{AreLexemes}
use Rattle.sched.specs.declared.error.Refusal.{Refusal}
use Rattle.sched.specs.declared.error.Refusal.TheVariants.{BadForm, LongName}
use Rattle.sched.specs.Schedule.{Schedule}
use Rattle.sched.specs.Reading.{file}
use Rattle.sched.specs.Grammar.{StandsFor, IsTextOf}
use Rattle.sched.specs.Text.{fault, IsRefused}
use Rattle.sched.proofs.Complete.{file_reads}

-- tokens that are refused stand for nothing
none_of : (ts : List Token) (r : Refusal) (s : Schedule) → file ts ≡ Err r → StandsFor ts s → ⊥
none_of ts r s h stands =
    let same = ap file stands.spelled in
    let read = file_reads s stands.whole in
    absurd cc

abbrev done : Schedule → Result Schedule Refusal
done f = Ok f

done_is : (f g : Schedule) → done f ≡ done g → f ≡ g
done_is f g h = cc

-- tokens that are read stand for nothing else
only_read : (ts : List Token) (f g : Schedule) → file ts ≡ Ok f → StandsFor ts g → g ≡ f
only_read ts f g h s = done_is g f (sym (file_reads g s.whole) ∙ sym (ap file s.spelled) ∙ h)

module _ (text : List ℕ) (found : List Lexeme) (are : AreLexemes text found) (only : (others : List Lexeme) → AreLexemes text others → others ≡ found) where
  stands_at : (f : Schedule) → IsTextOf text f → StandsFor (kinds found) f
  stands_at f s = subst (λ (ls : List Lexeme). StandsFor (kinds ls) f) (only s.lexemes s.tokens) s.stands

  pub nothing_else : (f g : Schedule) → file (kinds found) ≡ Ok f → IsTextOf text g → g ≡ f
  nothing_else f g h s = only_read (kinds found) f g h (stands_at g s)

  -- a refusal of the tokens
  pub refused_as : (r : Refusal) → file (kinds found) ≡ Err r → IsRefused text (fault r found (length text))
  refused_as (BadForm left) h = record { lexemes = found; tokens = are; left = left; read = h; at = refl; none = λ f s. none_of (kinds found) (BadForm left) f h (stands_at f s) }
  refused_as (LongName left) h = inr (record { lexemes = found; tokens = are; left = left; read = h; at = refl; none = λ f s. none_of (kinds found) (LongName left) f h (stands_at f s) })
