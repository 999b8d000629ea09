-- A text stands for one file alone.
use Rattle.std.proofs.Common.{◌≡◌, ℕ, ◌+◌, ◌-◌, ◌≤◌, ◌<◌, List, [], ◌∷◌, length, drop, inl, inr, Option, Some, Result, Ok, Err, refl, sym, ap, subst, ◌∙◌, arith}
use Rattle.tree.specs.declared.token.token.Token.{Token}
use Rattle.tree.specs.declared.token.token.Lexeme.{Lexeme}
use Rattle.tree.specs.Token.Cursor.{kinds}
use Rattle.tree.specs.Token.Lexical.{gap, token_at, AreUpTo, AreLexemes}
use Rattle.tree.specs.Term.{Term}
use Rattle.expr.specs.declared.statements.error.Refusal.{Refusal}
use Rattle.expr.specs.declared.statements.error.Refusal.TheVariants.{TooLarge}
use Rattle.expr.specs.Grammar.{sums_term}
use Rattle.expr.specs.Statements.Text.{FileText, file_with}
use Rattle.expr.specs.Statements.Reading.{file}
use Rattle.expr.specs.Statements.Grammar.{StandsFor, IsTextOf, IsSmall}
use Rattle.expr.proofs.StatementsComplete.{file_reads, reads_small}

abbrev Ended : List ℕ → ℕ → List Lexeme → Type 0
Ended text at ls = AreUpTo (λ (place : ℕ). length text ≤ place) text at ls

some_is : {A : Type 0} (o : Option A) (x y : A) → o ≡ Some x → o ≡ Some y → x ≡ y
some_is o x y p q = cc

same_lexeme : (l m : Lexeme) → l.token ≡ m.token → l.span.start ≡ m.span.start → l.span.end ≡ m.span.end → l ≡ m
same_lexeme l m p q r i = record { token = p i; span = record { start = q i; end = r i } }

-- the tokens of a text are determined
same_from : (text : List ℕ) (at : ℕ) (ls ms : List Lexeme) → Ended text at ls → Ended text at ms → ls ≡ ms
same_from text at [] [] h k = refl
same_from text at [] (m ∷ ms) h k = absurd (omega (arith, h, k.0))
same_from text at (l ∷ ls) [] h k = absurd (omega (arith, k, h.0))
same_from text at (l ∷ ls) (m ∷ ms) h k =
    let pair = some_is (token_at (drop at text)) (l.token, l.span.end - at) (m.token, m.span.end - at) h.2 k.2 in
    let width : l.span.end - at ≡ m.span.end - at = ap (λ (p : Token × ℕ). p.1) pair in
    let end : l.span.end ≡ m.span.end = omega (arith, width, h.3, k.3) in
    let one = same_lexeme l m (ap (λ (p : Token × ℕ). p.0) pair) (h.1 ∙ sym k.1) end in
    let rest = same_from text (m.span.end + gap (drop m.span.end text)) ls ms (subst (λ (e : ℕ). Ended text (e + gap (drop e text)) ls) end h.4) k.4 in
    λ i. one i ∷ rest i

abbrev done : FileText Term → Result (FileText Term) Refusal
done f = Ok f

done_is : (f g : FileText Term) → done f ≡ done g → f ≡ g
done_is f g h = cc

-- of small files only one has these tokens
same_file : (ts : List Token) (f g : FileText Term) → IsSmall f → StandsFor ts f → StandsFor ts g → g ≡ f
same_file ts f g small p q =
    let first : file ts ≡ Ok f = ap file p.spelled ∙ reads_small p.rules p.whole (subst IsSmall (sym p.is) small) ∙ ap done p.is in
    let same = ap file q.spelled in
    elim (file_reads q.rules q.whole) [
      | inl ok ↦ sym q.is ∙ done_is (file_with sums_term q.rules) f (sym ok ∙ sym same ∙ first)
      | inr e ↦ let err = e.1 in absurd cc
    ]

pub only_file : (text : List ℕ) (f g : FileText Term) → IsSmall f → IsTextOf text f → IsTextOf text g → g ≡ f
only_file text f g small p q =
    same_file (kinds p.lexemes) f g small p.stands (subst (λ (ls : List Lexeme). StandsFor (kinds ls) g) (same_from text (gap text) q.lexemes p.lexemes q.tokens p.tokens) q.stands)
