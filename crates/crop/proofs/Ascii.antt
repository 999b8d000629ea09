-- A text that has tokens is ASCII.
use Rattle.std.proofs.Common.{◌≡◌, ℕ, zero, suc, ◌+◌, ◌-◌, ◌≤◌, ◌<◌, Bool, true, false, cond, List, [], ◌∷◌, ◌++◌, length, take, drop, Option, Some, None, refl, sym, ap, subst, ◌∙◌, arith}
use Rattle.std.specs.Prelude.{if◌then◌else◌, slice_index, nat_lt, ◌==◌}
use Rattle.std.specs.List.{prefix_len, AllByRecursion}
use Rattle.std.specs.Str.{IsAscii, IsUtf8}
use Rattle.std.proofs.lemmas.Bool.Decides.{nat_tests}
use Rattle.std.proofs.lemmas.Str.{IsUtf8-from_ascii}
use Rattle.std.proofs.lemmas.List.{take-append-drop, drop-drop, drop_all}
use Rattle.tree.specs.declared.token.token.Symbol.{Symbol}
use Rattle.tree.specs.declared.token.token.Symbol.TheVariants as symbol
use Rattle.tree.specs.declared.token.token.Token.{Token}
use Rattle.tree.specs.declared.token.token.Token.TheVariants as token
use Rattle.tree.specs.declared.token.token.Lexeme.{Lexeme}
use Rattle.tree.specs.Token.Spelling.{is_word_byte, symbol_text}
use Rattle.tree.specs.Token.Lexical.{gap, gap_from, gap_goes_on, one_more, is_blank, word_token, symbol_at, token_at, AreUpTo, AreLexemes}
use Rattle.tree.proofs.Spelled.{token_spelled}
use Rattle.crop.proofs.NarrowText.{sized, worded, signed, with_length, no_pair}

abbrev pub Small : List ℕ → Type 0
Small = AllByRecursion (λ b. b < 128)

both_small : (xs ys : List ℕ) → Small xs → Small ys → Small (xs ++ ys)
both_small [] ys h k = k
both_small (x ∷ xs) ys h k = (h.0, both_small xs ys h.1 k)

drop_next : (n : ℕ) (x : ℕ) (xs : List ℕ) → drop (1 + n) (x ∷ xs) ≡ drop n xs
drop_next n x xs = let e : 1 + n ≡ suc n = omega arith in ap (λ k. drop k (x ∷ xs)) e

-- ---- white space and comments
gap_byte : (c : Bool) (b : ℕ) (n : Bool) → gap_goes_on c b ≡ Some n → b < 128
gap_byte true b n e = by (b == 10) refl (nat_lt b 128) refl e
  where
    by : (t : Bool) → (b == 10) ≡ t → (u : Bool) → nat_lt b 128 ≡ u → (if t then Some false else (if u then Some true else None)) ≡ Some n → b < 128
    by true t u v e = grind (arith, nat_tests)
    by false t true v e = grind (arith, nat_tests)
    by false t false v e = absurd (no_pair e)
gap_byte false b n e = by (b == 35) refl (is_blank b) refl e
  where
    by : (t : Bool) → (b == 35) ≡ t → (u : Bool) → is_blank b ≡ u → (if t then Some true else (if u then Some false else None)) ≡ Some n → b < 128
    by true t u v e = grind (arith, nat_tests)
    by false t true v e = grind (arith, nat_tests)
    by false t false v e = absurd (no_pair e)

gap_by : (o : Option Bool) (b : ℕ) (bs : List ℕ) → ((n : Bool) → o ≡ Some n → b < 128) → ((n : Bool) → Small (drop (gap_from n bs) bs) → Small bs)
    → Small (drop (one_more o (λ next. gap_from next bs)) (b ∷ bs)) → Small (b ∷ bs)
gap_by None b bs byte more h = h
gap_by (Some n) b bs byte more h = (byte n refl, more n (subst Small (drop_next (gap_from n bs) b bs) h))

gap_small : (c : Bool) (bs : List ℕ) → Small (drop (gap_from c bs) bs) → Small bs
gap_small c [] h = tt
gap_small c (b ∷ bs) h = gap_by (gap_goes_on c b) b bs (gap_byte c b) (λ n k. gap_small n bs k) h

-- ---- words
word_byte : (b : ℕ) → is_word_byte b ≡ true → b < 128
word_byte b h = grind (arith, nat_tests)

prefix_by : (t : Bool) (b : ℕ) (bs : List ℕ) → (t ≡ true → b < 128) → (Small (drop (prefix_len is_word_byte bs) bs) → Small bs)
    → Small (drop (cond t (1 + prefix_len is_word_byte bs) 0) (b ∷ bs)) → Small (b ∷ bs)
prefix_by true b bs byte more h = (byte refl, more (subst Small (drop_next (prefix_len is_word_byte bs) b bs) h))
prefix_by false b bs byte more h = h

prefix_small : (bs : List ℕ) → Small (drop (prefix_len is_word_byte bs) bs) → Small bs
prefix_small [] h = tt
prefix_small (b ∷ bs) h = prefix_by (is_word_byte b) b bs (word_byte b) (prefix_small bs) h

-- ---- symbols
symbol_small : (s : Symbol) → Small (symbol_text s)
symbol_small symbol.DotDot = (omega arith, (omega arith, tt))
symbol_small symbol.EqualsEquals = (omega arith, (omega arith, tt))
symbol_small symbol.NotEquals = (omega arith, (omega arith, tt))
symbol_small symbol.LessEquals = (omega arith, (omega arith, tt))
symbol_small symbol.GreaterEquals = (omega arith, (omega arith, tt))
symbol_small symbol.Plus = (omega arith, tt)
symbol_small symbol.Minus = (omega arith, tt)
symbol_small symbol.Star = (omega arith, tt)
symbol_small symbol.Slash = (omega arith, tt)
symbol_small symbol.Percent = (omega arith, tt)
symbol_small symbol.LeftParen = (omega arith, tt)
symbol_small symbol.RightParen = (omega arith, tt)
symbol_small symbol.LeftBracket = (omega arith, tt)
symbol_small symbol.RightBracket = (omega arith, tt)
symbol_small symbol.Comma = (omega arith, tt)
symbol_small symbol.Semicolon = (omega arith, tt)
symbol_small symbol.Dot = (omega arith, tt)
symbol_small symbol.Equals = (omega arith, tt)
symbol_small symbol.Less = (omega arith, tt)
symbol_small symbol.Greater = (omega arith, tt)

spelled_small : (bytes : List ℕ) (s : Symbol) (n : ℕ) → token_at bytes ≡ Some (token.Symbol s, n) → Small (drop n bytes) → Small bytes
spelled_small bytes s n e h =
    let front : take n bytes ≡ symbol_text s = token_spelled bytes (token.Symbol s) n e in
    subst Small (take-append-drop n bytes) (both_small (take n bytes) (drop n bytes) (subst Small (sym front) (symbol_small s)) h)

signed_is : (o : Option Symbol) (t : Token) (n : ℕ) → signed o ≡ Some (t, n) → (s : Symbol) × (t ≡ token.Symbol s)
signed_is None t n e = absurd (no_pair e)
signed_is (Some s) t n e = (s, sym (ap (λ (p : Option (Token × ℕ)). elim p [ None ↦ t | Some q ↦ q.0 ]) e))

token_small : (bytes : List ℕ) (t : Token) (n : ℕ) → token_at bytes ≡ Some (t, n) → Small (drop n bytes) → Small bytes
unfolding token_at
token_small bytes t n e h = by (is_word_byte (slice_index bytes 0)) e
  where
    by : (c : Bool) → (if c then worded bytes else signed (symbol_at bytes)) ≡ Some (t, n) → Small bytes
    by true d =
        let m = prefix_len is_word_byte bytes in
        let long : m ≡ n = with_length (word_token (take m bytes)) m t n d in
        prefix_small bytes (subst (λ k. Small (drop k bytes)) (sym long) h)
    by false d = let s = signed_is (symbol_at bytes) t n d in spelled_small bytes s.0 n (e ∙ ap (λ u. Some (sized n u)) s.1) h

-- ---- texts
drop_to : (text : List ℕ) (at e : ℕ) → at < e → drop (e - at) (drop at text) ≡ drop e text
drop_to text at e lt = let k : at + (e - at) ≡ e = omega (arith, lt) in drop-drop (e - at) at text ∙ ap (λ n. drop n text) k

up_small : (text : List ℕ) (at : ℕ) (ls : List Lexeme) → AreUpTo (λ (at : ℕ). length text ≤ at) text at ls → Small (drop at text)
up_small text at [] h = subst Small (sym (drop_all at text h)) tt
up_small text at (l ∷ ls) h =
    let e = l.span.end in
    let rest = up_small text (e + gap (drop e text)) ls h.4 in
    let behind : Small (drop e text) = gap_small false (drop e text) (subst Small (sym (drop-drop (gap (drop e text)) e text)) rest) in
    token_small (drop at text) l.token (e - at) h.2 (subst Small (sym (drop_to text at e h.3)) behind)

text_small : (text : List ℕ) (ls : List Lexeme) → AreLexemes text ls → Small text
text_small text ls h = gap_small false text (up_small text (gap text) ls h)

small_ascii : (text : List ℕ) → Small text → IsAscii text
small_ascii [] h i = omega arith
small_ascii (b ∷ bs) h zero = h.0
small_ascii (b ∷ bs) h (suc i) = small_ascii bs h.1 i

pub lexed_utf8 : (text : List ℕ) (ls : List Lexeme) → AreLexemes text ls → IsUtf8 text
lexed_utf8 text ls h = IsUtf8-from_ascii text (small_ascii text (text_small text ls h))
