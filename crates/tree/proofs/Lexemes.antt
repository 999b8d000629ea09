-- One token after another.
use Rattle.std.proofs.Common.{◌≡◌, ℕ, ◌+◌, ◌-◌, ◌≤◌, ◌<◌, List, [], ◌∷◌, ◌++◌, length, drop, Option, Some, None, refl, sym, ap, subst, ◌∙◌, append_assoc, arith}
use Rattle.std.specs.Prelude.{IsSome, is_some, take}
use Rattle.std.proofs.lemmas.List.{append-nil}
use Rattle.std.proofs.lemmas.List.Elements.{All-push}
use Rattle.tree.specs.declared.token.token.Token.{Token}
use Rattle.tree.specs.declared.token.token.Lexeme.{Lexeme}
use Rattle.tree.specs.Token.Spelling.{IsSpelled}
use Rattle.tree.specs.Token.Lexical.{gap, token_at, AreUpTo, AreLexemes, SpansRise, slice, AreSlices}
use Rattle.tree.proofs.Spelled.{token_spelled}

abbrev pub lexeme : Token → ℕ → ℕ → Lexeme
lexeme token start end = record { token = token; span = record { start = start; end = end } }

-- these tokens lead up to the place
abbrev pub Reached : List ℕ → ℕ → List Lexeme → Type 0
Reached text at found = AreUpTo (λ (place : ℕ). place ≡ at) text (gap text) found

abbrev pub Only : List ℕ → ℕ → List Lexeme → Type 0
Only text at found = (all : List Lexeme) → AreLexemes text all → (after : List Lexeme) × (all ≡ found ++ after) × AreUpTo (λ (place : ℕ). length text ≤ place) text at after

abbrev pub after_token : List ℕ → ℕ → ℕ
after_token text end = end + gap (drop end text)

lead_on : (Ends : ℕ → Type 0) (text : List ℕ) (from at : ℕ) (found after : List Lexeme) → AreUpTo (λ (place : ℕ). place ≡ at) text from found → AreUpTo Ends text at after → AreUpTo Ends text from (found ++ after)
lead_on Ends text from at [] after h more = subst (λ (place : ℕ). AreUpTo Ends text place after) (sym h) more
lead_on Ends text from at (l ∷ ls) after h more = (h.0, h.1, h.2, h.3, lead_on Ends text (l.span.end + gap (drop l.span.end text)) at ls after h.4 more)

reached_more : (text : List ℕ) (at len : ℕ) (found : List Lexeme) (token : Token) → at < length text → 0 < len → token_at (drop at text) ≡ Some (token, len)
    → Reached text at found → Reached text (after_token text (at + len)) (found ++ lexeme token at (at + len) ∷ [])
reached_more text at len found token lt some is h =
    let width : (at + len) - at ≡ len = omega arith in
    let here : token_at (drop at text) ≡ Some (token, (at + len) - at) = rw width is in
    lead_on (λ (place : ℕ). place ≡ after_token text (at + len)) text (gap text) at found (lexeme token at (at + len) ∷ []) h (lt, refl, here, omega arith, refl)

-- at the end of the text these are its tokens
pub whole_found : (text : List ℕ) (at : ℕ) (found : List Lexeme) → length text ≤ at → Reached text at found → AreLexemes text found
whole_found text at found le h = subst (AreLexemes text) (append-nil found) (lead_on (λ (place : ℕ). length text ≤ place) text (gap text) at found [] h le)

-- memory is taken only for a token
pub has_token : (text : List ℕ) (at len : ℕ) (found : List Lexeme) (token : Token) → at < length text → token_at (drop at text) ≡ Some (token, len) → Reached text at found
    → (gap text < length text) × IsSome (token_at (drop (gap text) text))
has_token text at len [] token lt is h = (omega (arith, h), ap is_some (ap (λ (place : ℕ). token_at (drop place text)) h ∙ is))
has_token text at len (l ∷ ls) token lt is h = (h.0, ap is_some h.2)

same_lexeme : (l : Lexeme) (token : Token) (start end : ℕ) → l.token ≡ token → l.span.start ≡ start → l.span.end ≡ end → l ≡ lexeme token start end
same_lexeme l token start end p q r i = record { token = p i; span = record { start = q i; end = r i } }

some_is : {A : Type 0} (o : Option A) (x y : A) → o ≡ Some x → o ≡ Some y → x ≡ y
some_is o x y p q = cc

abbrev Ended : List ℕ → ℕ → List Lexeme → Type 0
Ended text at rest = AreUpTo (λ (place : ℕ). length text ≤ place) text at rest

only_at : (text : List ℕ) (at len : ℕ) (token : Token) (rest : List Lexeme) → at < length text → token_at (drop at text) ≡ Some (token, len) → Ended text at rest
    → (after : List Lexeme) × (rest ≡ lexeme token at (at + len) ∷ after) × Ended text (after_token text (at + len)) after
only_at text at len token [] lt is h = absurd (omega (arith, h))
only_at text at len token (l ∷ ls) lt is h =
    let pair = some_is (token_at (drop at text)) (l.token, l.span.end - at) (token, len) h.2 is in
    let kind : l.token ≡ token = ap (λ (p : Token × ℕ). p.0) pair in
    let width : l.span.end - at ≡ len = ap (λ (p : Token × ℕ). p.1) pair in
    let end : l.span.end ≡ at + len = omega (arith, h.3, width) in
    let same = same_lexeme l token at (at + len) kind h.1 end in
    (ls, ap (λ (x : Lexeme). x ∷ ls) same, subst (λ (e : ℕ). Ended text (after_token text e) ls) end h.4)

only_more : (text : List ℕ) (at len : ℕ) (found : List Lexeme) (token : Token) → at < length text → token_at (drop at text) ≡ Some (token, len)
    → Only text at found → Only text (after_token text (at + len)) (found ++ lexeme token at (at + len) ∷ [])
only_more text at len found token lt is so_far all h =
    let before = so_far all h in
    let next = only_at text at len token before.0 lt is before.2 in
    (next.0, before.1 ∙ ap (λ (ls : List Lexeme). found ++ ls) next.1 ∙ sym (append_assoc found (lexeme token at (at + len) ∷ []) next.0), next.2)

no_token_at : (text : List ℕ) (at : ℕ) (rest : List Lexeme) → at < length text → token_at (drop at text) ≡ None → Ended text at rest → ⊥
no_token_at text at [] lt is h = omega (arith, h)
no_token_at text at (l ∷ ls) lt is h = absurd (let e = h.2 in cc)

-- where no token begins, the text has no tokens
pub none_stands : (text : List ℕ) (at : ℕ) (found : List Lexeme) → at < length text → token_at (drop at text) ≡ None → Only text at found → (all : List Lexeme) → AreLexemes text all → ⊥
none_stands text at found lt is so_far all h = let before = so_far all h in no_token_at text at before.0 lt is before.2

ended_at : (text : List ℕ) (at : ℕ) (rest : List Lexeme) → length text ≤ at → Ended text at rest → rest ≡ []
ended_at text at [] le h = refl
ended_at text at (l ∷ ls) le h = absurd (omega (arith, h.0))

-- at the end there are no other tokens
pub only_ended : (text : List ℕ) (at : ℕ) (found : List Lexeme) → length text ≤ at → Only text at found → (all : List Lexeme) → AreLexemes text all → all ≡ found
only_ended text at found le so_far all h =
    let before = so_far all h in
    before.1 ∙ ap (λ (ls : List Lexeme). found ++ ls) (ended_at text at before.0 le before.2) ∙ append-nil found

rise_more : (from : ℕ) (ls : List Lexeme) (at end next : ℕ) (token : Token) → at < end → end ≤ next → SpansRise from ls at → SpansRise from (ls ++ lexeme token at end ∷ []) next
rise_more from [] at end next token lt le h = (h, lt, le)
rise_more from (l ∷ ls) at end next token lt le h = (h.0, h.1, rise_more l.span.end ls at end next token lt le h.2)

slices_more : (text : List ℕ) (at len : ℕ) (found : List Lexeme) (token : Token) → token_at (drop at text) ≡ Some (token, len) → AreSlices text found → AreSlices text (found ++ lexeme token at (at + len) ∷ [])
slices_more text at len found token is h =
    let width : len ≡ (at + len) - at = omega arith in
    All-push (λ (l : Lexeme). IsSpelled l.token (slice text l.span)) found (lexeme token at (at + len)) h
    (subst (λ (n : ℕ). IsSpelled token (take n (drop at text))) width (token_spelled (drop at text) token len is))

-- what the loop over the tokens keeps
pub record Kept (text : List ℕ) (at : ℕ) (found : List Lexeme) : Type 0 where
  pub within : at ≤ length text
  pub reached : Reached text at found
  pub only : Only text at found
  pub rise : SpansRise 0 found at
  pub slices : AreSlices text found

kept_after : (text : List ℕ) (at len : ℕ) (found : List Lexeme) (token : Token) → at < length text → 0 < len → token_at (drop at text) ≡ Some (token, len)
    → after_token text (at + len) ≤ length text → Kept text at found → Kept text (after_token text (at + len)) (found ++ lexeme token at (at + len) ∷ [])
kept_after text at len found token lt some here inside kept = record {
  within = inside;
  reached = reached_more text at len found token lt some here kept.reached;
  only = only_more text at len found token lt here kept.only;
  rise = rise_more 0 found at (at + len) (after_token text (at + len)) token (omega arith) (omega arith) kept.rise;
  slices = slices_more text at len found token here kept.slices;
}

pub kept_more : (text : List ℕ) (at len next : ℕ) (found more : List Lexeme) (token : Token) → at < length text → 0 < len → token_at (drop at text) ≡ Some (token, len)
    → next ≤ length text → next ≡ after_token text (at + len) → more ≡ found ++ lexeme token at (at + len) ∷ [] → Kept text at found → Kept text next more
kept_more text at len next found more token lt some here inside is pushed kept =
    subst (λ (n : ℕ). Kept text n more) (sym is) (subst (Kept text (after_token text (at + len))) (sym pushed)
    (kept_after text at len found token lt some here (subst (λ (n : ℕ). n ≤ length text) is inside) kept))

pub kept_first : (text : List ℕ) → gap text ≤ length text → Kept text (gap text) []
kept_first text le = record {
  within = le;
  reached = refl;
  only = λ all h. (all, refl, h);
  rise = omega arith;
  slices = λ k d lt. absurd (omega arith);
}
