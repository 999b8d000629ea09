-- A run of opening brackets is read as the brackets one within another.
use Rattle.std.proofs.Common.{◌≡◌, ℕ, zero, suc, ◌+◌, cond, List, [], ◌∷◌, length, drop, Result, Ok, Err, refl, sym, ap, ◌∙◌, arith}
use Rattle.std.specs.List.{prefix_len}
use Rattle.tree.specs.declared.token.token.Symbol.TheVariants as symbol
use Rattle.tree.specs.declared.token.token.Token.{Token}
use Rattle.tree.specs.declared.token.token.Token.TheVariants as token
use Rattle.tree.specs.declared.token.token.Lexeme.{Lexeme}
use Rattle.tree.specs.Token.Cursor.{kinds}
use Rattle.tree.specs.Term.{Term}
use Rattle.expr.specs.declared.error.Refusal.{Refusal}
use Rattle.expr.specs.declared.error.Stop.{Stop}
use Rattle.expr.specs.declared.error.Stop.TheVariants as stop
use Rattle.expr.specs.Parsing.{◌>>=◌, Reader, Stops, bare, closed, unary}
use Rattle.expr.specs.Brackets.{is_opening, all_closed}

bind_assoc : {A B C : Type 0} (r : Result A Refusal) (f : A → Result B Refusal) (g : B → Result C Refusal) → ((r >>= f) >>= g) ≡ (r >>= λ x. f x >>= g)
bind_assoc (Ok x) f g = refl
bind_assoc (Err e) f g = refl

bind_same : {A B : Type 0} (r : Result A Refusal) (f g : A → Result B Refusal) → ((x : A) → f x ≡ g x) → (r >>= f) ≡ (r >>= g)
bind_same (Ok x) f g h = h x
bind_same (Err e) f g h = refl

abbrev whole : (Term × List Token) → Result (Term × List Token) Refusal
whole p = Ok (p.0, p.1)

bind_done : (r : Result (Term × List Token) Refusal) → (r >>= whole) ≡ r
bind_done (Ok p) = refl
bind_done (Err e) = refl

-- how many opening brackets come first
opening : List Token → ℕ
opening (token.Symbol symbol.LeftParen ∷ ts) = suc (opening ts)
opening ts = 0

opening_at : (t : Token) (n : ℕ) (ts : List Token) → n ≡ opening ts → cond (is_opening t) (1 + n) 0 ≡ opening (t ∷ ts)
unfolding opening
opening_at (token.Symbol symbol.LeftParen) n ts h = omega (arith, h)
opening_at t n ts h = refl

opening_is : (ls : List Lexeme) → prefix_len (λ l. is_opening l.token) ls ≡ opening (kinds ls)
unfolding opening
opening_is [] = refl
opening_is (l ∷ ls) = opening_at l.token (prefix_len (λ x. is_opening x.token) ls) (kinds ls) (opening_is ls)

kinds_drop : (n : ℕ) (ls : List Lexeme) → kinds (drop n ls) ≡ drop n (kinds ls)
kinds_drop zero ls = refl
kinds_drop (suc n) [] = refl
kinds_drop (suc n) (l ∷ ls) = kinds_drop n ls

module _ (most below : ℕ) (inner : Reader) where
  abbrev close : (Term × List Token) → Result (Term × List Token) Refusal
  close r = closed most below inner r.0 r.1

  abbrev close_all : ℕ → (Term × List Token) → Result (Term × List Token) Refusal
  close_all n r = all_closed most below inner n r.0 r.1

  -- the outermost bracket is closed last
  closed_last : (n : ℕ) (r : Term × List Token) → close_all (suc n) r ≡ (close_all n r >>= close)
  unfolding all_closed
  closed_last zero r = bind_done (close r)
  closed_last (suc n) r = bind_same (close r) (close_all (suc n)) (λ x. close_all n x >>= close) (closed_last n) ∙ sym (bind_assoc (close r) (close_all n) close)

  opens : (ts : List Token) → unary most below inner ts ≡ (bare most below inner (drop (opening ts) ts) >>= close_all (opening ts))
  unfolding unary opening all_closed
  opens (token.Symbol symbol.LeftParen ∷ ts) =
      let n = opening ts in
      let r = bare most below inner (drop n ts) in
      ap (λ x. x >>= close) (opens ts) ∙ bind_assoc r (close_all n) close ∙ sym (bind_same r (close_all (suc n)) (λ x. close_all n x >>= close) (closed_last n))
  opens ts = sym (bind_done (bare most below inner ts))

  opens_lexemes : (ls back : List Lexeme) (n : ℕ) → n ≡ prefix_len (λ l. is_opening l.token) ls → back ≡ drop n ls → unary most below inner (kinds ls) ≡ (bare most below inner (kinds back) >>= close_all n)
  opens_lexemes ls back n count is =
      let same : n ≡ opening (kinds ls) = count ∙ opening_is ls in
      let rest : kinds back ≡ drop n (kinds ls) = ap kinds is ∙ kinds_drop n ls in
      opens (kinds ls) ∙ (λ i. bare most below inner (drop (sym same i) (kinds ls)) >>= close_all (sym same i)) ∙ ap (λ ts. bare most below inner ts >>= close_all n) (sym rest)

  pub unary_read : (ls front back : List Lexeme) (n : ℕ) (a : Term) (us : List Token) → n ≡ prefix_len (λ l. is_opening l.token) ls → length front ≡ n → back ≡ drop n ls
      → bare most below inner (kinds back) ≡ Ok (a, us) → unary most below inner (kinds ls) ≡ all_closed most below inner (length front) a us
  unary_read ls front back n a us count len is read = opens_lexemes ls back n count is ∙ ap (λ r. r >>= close_all n) read ∙ ap (λ k. all_closed most below inner k a us) (sym len)

  pub unary_stops : (ls back : List Lexeme) (n : ℕ) (s : Stop) → n ≡ prefix_len (λ l. is_opening l.token) ls → back ≡ drop n ls → Stops s (bare most below inner (kinds back)) → Stops s (unary most below inner (kinds ls))
  unary_stops ls back n stop.Memory count is h = tt
  unary_stops ls back n (stop.Refused r) count is h = opens_lexemes ls back n count is ∙ ap (λ x. x >>= close_all n) h
