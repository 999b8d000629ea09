-- Names stand in the text where their spans say.
use Rattle.std.proofs.Common.{◌≡◌, ℕ, List, [], ◌∷◌, ◌++◌, drop, All, ap, subst, sym, ◌∙◌}
use Rattle.std.proofs.lemmas.List.Elements.{All-drop, All-nil, All-cons}
use Rattle.tree.specs.declared.token.token.Lexeme.{Lexeme}
use Rattle.tree.specs.Token.Spelling.{IsSpelled}
use Rattle.tree.specs.Token.Lexical.{slice, AreSlices}
use Rattle.expr.specs.Statements.Standing.{AreOf}

pub dropped : (text : List ℕ) (n : ℕ) (ls us : List Lexeme) → us ≡ drop n ls → AreOf text ls → AreOf text us
dropped text n ls us is h = record { slices = subst (AreSlices text) (sym is) (All-drop (λ (l : Lexeme). IsSpelled l.token (slice text l.span)) n ls h.slices) }

-- the tokens after the first
pub after_kept : (text : List ℕ) (ls us : List Lexeme) → us ≡ drop 1 ls → AreOf text ls → AreOf text us
after_kept text ls us is h = dropped text 1 ls us is h

-- a list of one
pub one_found : {X : Type 0} (P : X → Type 0) (xs ys : List X) (x : X) → ys ≡ [] → xs ≡ ys ++ x ∷ [] → P x → All P xs
one_found {X} P xs ys x none is p = subst (All P) (sym (is ∙ ap (λ (zs : List X). zs ++ x ∷ []) none)) (All-cons P x [] p (All-nil P))
