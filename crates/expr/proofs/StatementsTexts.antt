-- A whole text.
use Rattle.std.proofs.Common.{◌≡◌, ℕ, List, length, Err, refl, sym, ap, subst, inl, inr, Result, ◌∙◌, Ok}
use Rattle.tree.specs.declared.token.token.Token.{Token}
use Rattle.tree.specs.declared.token.token.Lexeme.{Lexeme}
use Rattle.tree.specs.Token.Cursor.{kinds}
use Rattle.tree.specs.Token.Lexical.{AreLexemes}
use Rattle.tree.specs.Term.{Term}
use Rattle.expr.specs.declared.statements.error.Refusal.{Refusal}
use Rattle.expr.specs.declared.statements.error.Refusal.TheVariants.{BadForm, LongName, TooLarge}
use Rattle.expr.specs.Grammar.{sums_term}
use Rattle.expr.specs.Statements.Text.{FileText, file_with}
use Rattle.expr.specs.Statements.Reading.{file}
use Rattle.expr.specs.Statements.Grammar.{StandsFor, IsTextOf, IsSmall}
use Rattle.expr.specs.Statements.Places.{fault, IsRefused}
use Rattle.expr.proofs.StatementsComplete.{file_reads, reads_small}

-- ---- tokens that are refused stand for nothing

none_of_form : (ts : List Token) (left : ℕ) (f : FileText Term) → file ts ≡ Err (BadForm left) → StandsFor ts f → ⊥
none_of_form ts left f h s =
    let same = ap file s.spelled in
    elim (file_reads s.rules s.whole) [ inl ok ↦ absurd cc | inr e ↦ let err = e.1 in absurd cc ]

none_of_name : (ts : List Token) (left : ℕ) (f : FileText Term) → file ts ≡ Err (LongName left) → StandsFor ts f → ⊥
none_of_name ts left f h s =
    let same = ap file s.spelled in
    elim (file_reads s.rules s.whole) [ inl ok ↦ absurd cc | inr e ↦ let err = e.1 in absurd cc ]

none_of_size : (ts : List Token) (left : ℕ) (f : FileText Term) → file ts ≡ Err (TooLarge left) → StandsFor ts f → IsSmall f → ⊥
none_of_size ts left f h s small =
    let same = ap file s.spelled in
    let read = reads_small s.rules s.whole (subst IsSmall (sym s.is) small) in
    absurd cc

-- ---- tokens that are read stand for nothing else

abbrev done : FileText Term → Result (FileText Term) Refusal
done f = Ok f

done_is : (f g : FileText Term) → done f ≡ done g → f ≡ g
done_is f g h = cc

only_read : (ts : List Token) (f g : FileText Term) → file ts ≡ Ok f → StandsFor ts g → g ≡ f
only_read ts f g h s =
    let same = ap file s.spelled in
    elim (file_reads s.rules s.whole) [
      | inl ok ↦ sym s.is ∙ done_is (file_with sums_term s.rules) f (sym ok ∙ sym same ∙ h)
      | inr e ↦ let err = e.1 in absurd cc
    ]

-- ---- the text

module _ (text : List ℕ) (found : List Lexeme) (are : AreLexemes text found) (only : (others : List Lexeme) → AreLexemes text others → others ≡ found) where
  stands_at : (f : FileText Term) → IsTextOf text f → StandsFor (kinds found) f
  stands_at f s = subst (λ (ls : List Lexeme). StandsFor (kinds ls) f) (only s.lexemes s.tokens) s.stands

  pub nothing_else : (f g : FileText Term) → file (kinds found) ≡ Ok f → IsTextOf text g → g ≡ f
  nothing_else f g h s = only_read (kinds found) f g h (stands_at g s)

  -- a refusal of the tokens
  pub refused_as : (r : Refusal) → file (kinds found) ≡ Err r → IsRefused text (fault r found (length text))
  refused_as (BadForm left) h = record { lexemes = found; tokens = are; left = left; read = h; at = refl; none = λ f s. none_of_form (kinds found) left f h (stands_at f s) }
  refused_as (LongName left) h =
      inr (inl (record { lexemes = found; tokens = are; left = left; read = h; at = refl; none = λ f s. none_of_name (kinds found) left f h (stands_at f s) }))
  refused_as (TooLarge left) h =
      inr (inr (record { lexemes = found; tokens = are; left = left; read = h; at = refl; none = λ f s small. none_of_size (kinds found) left f h (stands_at f s) small }))
