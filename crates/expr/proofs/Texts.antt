-- A whole text.
use Rattle.std.proofs.Common.{◌≡◌, ℕ, zero, suc, ◌≤◌, ◌<◌, Bool, true, false, List, [], ◌∷◌, Result, Ok, Err, refl, sym, ap, subst, ◌∙◌, ◌⊎◌, inl, inr, arith}
use Rattle.tree.specs.declared.token.token.Token.{Token}
use Rattle.tree.specs.declared.token.token.Lexeme.{Lexeme}
use Rattle.tree.specs.declared.token.error.TokenError.{TokenError}
use Rattle.tree.specs.declared.token.error.TokenError.TheVariants as token_error
use Rattle.tree.specs.Token.Cursor.{kinds}
use Rattle.tree.specs.Token.Lexical.{AreLexemes, IsRefused as AreRefused}
use Rattle.tree.specs.Term.{Term}
use Rattle.tree.specs.Tree.{node_count, depth}
use Rattle.expr.specs.declared.error.Refusal.{Refusal}
use Rattle.expr.specs.declared.error.Refusal.TheVariants.{BadForm, LongName, TooLarge}
use Rattle.expr.specs.Parsing.{◌>>=◌, expression, ended, whole}
use Rattle.expr.specs.Grammar.{Fits, StandsFor, Ends, Sums, sums_then, sums_term}
use Rattle.expr.specs.Text.{IsTextOf, IsSmall, IsRefused, token_refusal}
use Rattle.expr.proofs.Limits.{part_made, fitting, too_large}
use Rattle.expr.proofs.Complete.{sums_read}
use Rattle.expr.proofs.Sound.{expression_sound}

abbrev done : Term → Result Term Refusal
done t = Ok t

done_is : (t u : Term) → done t ≡ done u → t ≡ u
done_is t u h = cc

ended_is : (t u : Term) (ts : List Token) → ended t ts ≡ Ok u → (t ≡ u) × (ts ≡ [])
ended_is t u [] h = (done_is t u h, refl)
ended_is t u (v ∷ vs) h = absurd cc

abbrev read_to : Term → List Token → Result (Term × List Token) Refusal
read_to t us = Ok (t, us)

whole_at : (ts : List Token) (t : Term) (r : Result (Term × List Token) Refusal) → expression ts ≡ r → (r >>= λ p. ended p.0 p.1) ≡ Ok t → expression ts ≡ Ok (t, [])
whole_at ts t (Ok p) at h = let q = ended_is p.0 t p.1 h in at ∙ ap (λ (x : Term). read_to x p.1) q.0 ∙ ap (read_to t) q.1
whole_at ts t (Err d) at h = absurd cc

-- what is read stands for the tokens
pub whole_stands : (ts : List Token) (t : Term) → whole ts ≡ Ok t → StandsFor ts [] t × Fits 512 64 t
unfolding whole
whole_stands ts t h = expression_sound ts [] t (whole_at ts t (expression ts) refl h)

ends : Ends []
ends = record { no_bracket = refl; no_product = refl; no_sum = refl }

abbrev end_here : Term × List Token → Result Term Refusal
end_here r = ended r.0 r.1

whole_rules : (ts : List Token) (rules : Sums) → ts ≡ sums_then rules [] → whole ts ≡ (part_made 512 64 (sums_term rules) [] >>= end_here)
unfolding whole
whole_rules ts rules h = ap (λ (us : List Token). expression us >>= end_here) h ∙ ap (λ (r : Result (Term × List Token) Refusal). r >>= end_here) (sums_read 512 64 rules [] ends)

-- the tokens were refused, and not since they are too many
is_bad : Result Term Refusal → Bool
is_bad (Err (BadForm left)) = true
is_bad (Err (LongName left)) = true
is_bad _ = false

le_or : (a b : ℕ) → (a ≤ b) ⊎ (b < a)
le_or zero b = inl (omega arith)
le_or (suc a) zero = inr (omega arith)
le_or (suc a) (suc b) = elim (le_or a b) [ inl h ↦ inl (omega (arith, h)) | inr h ↦ inr (omega (arith, h)) ]

fine_if_fit : (t : Term) → Fits 512 64 t → is_bad (part_made 512 64 t [] >>= end_here) ≡ false
unfolding is_bad
fine_if_fit t f = ap (λ (r : Result (Term × List Token) Refusal). is_bad (r >>= end_here)) (fitting 512 64 t [] f)

fine_if_not : (t : Term) → (Fits 512 64 t → ⊥) → is_bad (part_made 512 64 t [] >>= end_here) ≡ false
unfolding is_bad
fine_if_not t h = sym (ap (λ (r : Result (Term × List Token) Refusal). is_bad (r >>= end_here)) (too_large 512 64 t [] h))

made_is_fine : (t : Term) → is_bad (part_made 512 64 t [] >>= end_here) ≡ false
made_is_fine t =
    elim (le_or (node_count t) 512) [
      | inl few ↦ elim (le_or (depth t) 64) [
        | inl shallow ↦ fine_if_fit t (record { few = few; shallow = shallow })
        | inr deep ↦ fine_if_not t (λ f. omega (arith, f.shallow, deep))
      ]
      | inr many ↦ fine_if_not t (λ f. omega (arith, f.few, many))
    ]

none_if_bad : (ts : List Token) (t : Term) → is_bad (whole ts) ≡ true → StandsFor ts [] t → ⊥
none_if_bad ts t h s =
    let fine : is_bad (whole ts) ≡ false = ap is_bad (whole_rules ts s.rules s.spelled) ∙ made_is_fine (sums_term s.rules) in
    absurd cc

bad_form : (ts : List Token) (left : ℕ) → whole ts ≡ Err (BadForm left) → is_bad (whole ts) ≡ true
unfolding is_bad
bad_form ts left h = ap is_bad h

long_name : (ts : List Token) (left : ℕ) → whole ts ≡ Err (LongName left) → is_bad (whole ts) ≡ true
unfolding is_bad
long_name ts left h = ap is_bad h

none_small : (ts : List Token) (t : Term) → whole ts ≡ Err TooLarge → StandsFor ts [] t → Fits 512 64 t → ⊥
none_small ts t h s f =
    let g : Fits 512 64 (sums_term s.rules) = subst (Fits 512 64) (sym s.is) f in
    let k : whole ts ≡ done (sums_term s.rules) = whole_rules ts s.rules s.spelled ∙ ap (λ (r : Result (Term × List Token) Refusal). r >>= end_here) (fitting 512 64 (sums_term s.rules) [] g) in
    absurd cc

-- ---- the text

module _ (text : List ℕ) (found : List Lexeme) (only : (others : List Lexeme) → AreLexemes text others → others ≡ found) where
  stands_at : (t : Term) → IsTextOf text t → StandsFor (kinds found) [] t
  stands_at t s = subst (λ (ls : List Lexeme). StandsFor (kinds ls) [] t) (only s.lexemes s.tokens) s.stands

  pub none_of_form : (left : ℕ) → whole (kinds found) ≡ Err (BadForm left) → (t : Term) → IsTextOf text t → ⊥
  none_of_form left h t s = none_if_bad (kinds found) t (bad_form (kinds found) left h) (stands_at t s)

  pub none_of_name : (left : ℕ) → whole (kinds found) ≡ Err (LongName left) → (t : Term) → IsTextOf text t → ⊥
  none_of_name left h t s = none_if_bad (kinds found) t (long_name (kinds found) left h) (stands_at t s)

  pub none_of_size : whole (kinds found) ≡ Err TooLarge → (t : Term) → IsTextOf text t → IsSmall t → ⊥
  none_of_size h t s f = none_small (kinds found) t h (stands_at t s) f

-- a refusal of the tokens
pub none_of_tokens : (text : List ℕ) (e : TokenError) → AreRefused text e → IsRefused text (token_refusal e)
none_of_tokens text token_error.Memory h = h.0
none_of_tokens text (token_error.TooLong span) h = inl (record { long = h.0; at = h.1 })
none_of_tokens text (token_error.BadToken span) h = (h.1, λ t s. h.2 s.lexemes s.tokens)
