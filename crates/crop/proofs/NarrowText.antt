-- The tokens of a narrow text.
use Rattle.std.proofs.Common.{◌≡◌, ℕ, zero, suc, ◌+◌, ◌-◌, ◌≤◌, ◌<◌, Bool, true, false, cond, List, [], ◌∷◌, ◌++◌, length, take, drop, Option, Some, None, refl, sym, ap, subst, ◌∙◌, append_assoc, arith, ◌⊎◌, inl, inr}
use Rattle.std.specs.Prelude.{if◌then◌else◌, slice_index, nat_lt, nat_le, nat_eq, ◌==◌, option_map, replicate, fold}
use Rattle.std.specs.List.{prefix_len}
use Rattle.std.proofs.lemmas.Bool.Decides.{nat_tests}
use Rattle.std.proofs.lemmas.List.{drop-drop, drop_at, take-append-drop, length-take-le, length-replicate}
use Rattle.std.proofs.lemmas.List.Sums.{prefix_len-le-length}
use Rattle.std.proofs.lemmas.Bool.{false≢true}
use Rattle.numeric.specs.declared.ty.Ty.{Ty}
use Rattle.tree.specs.declared.token.token.Word.{Word}
use Rattle.tree.specs.declared.token.token.Symbol.{Symbol}
use Rattle.tree.specs.declared.token.token.Literal.{Literal}
use Rattle.tree.specs.declared.token.token.Token.{Token}
use Rattle.tree.specs.declared.token.token.Token.TheVariants as token
use Rattle.tree.specs.declared.token.token.Lexeme.{Lexeme}
use Rattle.tree.specs.Token.Spelling.{is_digit, is_word_byte, symbol_text}
use Rattle.tree.specs.Token.Lexical.{gap, gap_from, gap_goes_on, one_more, word_token, type_named, word_named, or_name, number_of, symbol_at, token_at, AreUpTo, AreLexemes}
use Rattle.crop.specs.Narrow.{sides_left, is_wide_token, wide_places, with_one, narrow_text}

abbrev pub one : Token
one = token.Number (record { value = 1; ty = None })

abbrev pub narrow_lexeme : Lexeme → Lexeme
narrow_lexeme l = record { token = one; span = record { start = l.span.start; end = l.span.start + 1 } }

abbrev pub narrow_lexemes : ℕ → List Lexeme → List Lexeme
narrow_lexemes n [] = []
narrow_lexemes n (l ∷ ls) = (if is_wide_token n l.token then narrow_lexeme l else l) ∷ narrow_lexemes (sides_left n l.token) ls

some_bool : (b : Bool) → (b ≡ true) ⊎ (b ≡ false)
some_bool true = inl refl
some_bool false = inr refl

-- ---- lists
drop_front : (n : ℕ) (xs ys : List ℕ) → n ≤ length xs → drop n (xs ++ ys) ≡ drop n xs ++ ys
drop_front zero xs ys h = refl
drop_front (suc n) [] ys h = absurd (omega (arith, h))
drop_front (suc n) (x ∷ xs) ys h = drop_front n xs ys (omega (arith, h))

drop_long : (n : ℕ) (xs : List ℕ) → n ≤ length xs → length (drop n xs) + n ≡ length xs
drop_long zero xs h = omega arith
drop_long (suc n) [] h = absurd (omega (arith, h))
drop_long (suc n) (x ∷ xs) h = let r = drop_long n xs (omega (arith, h)) in omega (arith, r)

take_front : (n : ℕ) (xs ys : List ℕ) → n ≤ length xs → take n (xs ++ ys) ≡ take n xs
take_front zero xs ys h = refl
take_front (suc n) [] ys h = absurd (omega (arith, h))
take_front (suc n) (x ∷ xs) ys h = ap (λ r. x ∷ r) (take_front n xs ys (omega (arith, h)))

both_long : (xs ys : List ℕ) → length (xs ++ ys) ≡ length xs + length ys
both_long [] ys = omega arith
both_long (x ∷ xs) ys = let e = both_long xs ys in omega (arith, e)

-- ---- what stands before the changed bytes: a digit d that becomes 1, and whatever follows
digit_goes_on : (d : ℕ) → is_digit d ≡ true → gap_goes_on true d ≡ Some true
digit_goes_on d h =
    let a : (d == 10) ≡ false = grind (arith, nat_tests) in
    let b : nat_lt d 128 ≡ true = grind (arith, nat_tests) in
    rw (a, b) refl

digit_word : (d : ℕ) → is_digit d ≡ true → is_word_byte d ≡ true
digit_word d h = rw h refl

-- what stands at the front, in two cases
abbrev pub sized : ℕ → Token → Token × ℕ
sized n t = (t, n)

abbrev pub with_size : ℕ → Option Token → Option (Token × ℕ)
with_size n o = option_map (sized n) o

abbrev pub worded : List ℕ → Option (Token × ℕ)
worded bytes = with_size (prefix_len is_word_byte bytes) (word_token (take (prefix_len is_word_byte bytes) bytes))

abbrev pub sign_sized : Symbol → Token × ℕ
sign_sized s = (token.Symbol s, length (symbol_text s))

abbrev pub signed : Option Symbol → Option (Token × ℕ)
signed o = option_map sign_sized o

pub no_pair : {X : Type 0} {x : X} → None ≡ Some x → ⊥
no_pair e = cc

pub with_length : (o : Option Token) (m : ℕ) (t : Token) (n : ℕ) → with_size m o ≡ Some (t, n) → m ≡ n
with_length None m t n e = absurd (no_pair e)
with_length (Some u) m t n e = ap (λ (p : Option (Token × ℕ)). elim p [ None ↦ m | Some q ↦ q.1 ]) e

with_token : (o : Option Token) (m : ℕ) (t : Token) (n : ℕ) → with_size m o ≡ Some (t, n) → o ≡ Some t
with_token None m t n e = absurd (no_pair e)
with_token (Some u) m t n e = ap (λ (p : Option (Token × ℕ)). elim p [ None ↦ Some u | Some q ↦ Some q.0 ]) e

module _ (d : ℕ) (h : is_digit d ≡ true) (us vs : List ℕ) where
  -- white space that ends before
  gap_by : (o : Option Bool) (xs : List ℕ) → ((n : Bool) → gap_from n (xs ++ d ∷ us) ≤ length xs → gap_from n (xs ++ 49 ∷ vs) ≡ gap_from n (xs ++ d ∷ us))
      → one_more o (λ next. gap_from next (xs ++ d ∷ us)) ≤ suc (length xs) → one_more o (λ next. gap_from next (xs ++ 49 ∷ vs)) ≡ one_more o (λ next. gap_from next (xs ++ d ∷ us))
  gap_by None xs more l = refl
  gap_by (Some n) xs more l = ap (λ k. 1 + k) (more n (omega (arith, l)))

  gap_none : (o : Option Bool) → one_more o (λ next. gap_from next us) ≤ 0 → 0 ≡ one_more o (λ next. gap_from next us)
  gap_none None l = refl
  gap_none (Some b) l = absurd (omega (arith, l))

  gap_some : gap_from true (d ∷ us) ≡ 1 + gap_from true us
  gap_some = ap (λ (o : Option Bool). one_more o (λ next. gap_from next us)) (digit_goes_on d h)

  gap_same : (c : Bool) (xs : List ℕ) → gap_from c (xs ++ d ∷ us) ≤ length xs → gap_from c (xs ++ 49 ∷ vs) ≡ gap_from c (xs ++ d ∷ us)
  gap_same false [] l = gap_none (gap_goes_on false d) l
  gap_same true [] l = absurd (omega (arith, l, gap_some))
  gap_same c (x ∷ xs) l = gap_by (gap_goes_on c x) xs (λ n k. gap_same n xs k) l

  -- a word that ends before
  word_by : (b : Bool) (xs : List ℕ) → (prefix_len is_word_byte (xs ++ d ∷ us) ≤ length xs → prefix_len is_word_byte (xs ++ 49 ∷ vs) ≡ prefix_len is_word_byte (xs ++ d ∷ us))
      → cond b (1 + prefix_len is_word_byte (xs ++ d ∷ us)) 0 ≤ suc (length xs)
      → cond b (1 + prefix_len is_word_byte (xs ++ 49 ∷ vs)) 0 ≡ cond b (1 + prefix_len is_word_byte (xs ++ d ∷ us)) 0
  word_by true xs more l = ap (λ k. 1 + k) (more (omega (arith, l)))
  word_by false xs more l = refl

  word_same : (xs : List ℕ) → prefix_len is_word_byte (xs ++ d ∷ us) ≤ length xs → prefix_len is_word_byte (xs ++ 49 ∷ vs) ≡ prefix_len is_word_byte (xs ++ d ∷ us)
  word_same [] l =
      let e : prefix_len is_word_byte (d ∷ us) ≡ 1 + prefix_len is_word_byte us = ap (λ b. cond b (1 + prefix_len is_word_byte us) 0) (digit_word d h) in
      absurd (omega (arith, e, l))
  word_same (x ∷ xs) l = word_by (is_word_byte x) xs (λ k. word_same xs k) l

  -- a symbol
  symbol_same : (x : ℕ) (xs : List ℕ) → symbol_at ((x ∷ xs) ++ 49 ∷ vs) ≡ symbol_at ((x ∷ xs) ++ d ∷ us)
  unfolding symbol_at
  symbol_same x [] =
      let a : nat_eq 46 d ≡ false = grind (arith, nat_tests) in
      let b : nat_eq 61 d ≡ false = grind (arith, nat_tests) in
      rw (a, b) refl
  symbol_same x (y ∷ ys) = refl

  -- a token that ends before
  token_same : (x : ℕ) (xs : List ℕ) (t : Token) (n : ℕ) → n ≤ suc (length xs) → token_at ((x ∷ xs) ++ d ∷ us) ≡ Some (t, n) → token_at ((x ∷ xs) ++ 49 ∷ vs) ≡ Some (t, n)
  unfolding token_at
  token_same x xs t n l e = by (is_word_byte x) e
    where
      by : (b : Bool) → (if b then worded ((x ∷ xs) ++ d ∷ us) else signed (symbol_at ((x ∷ xs) ++ d ∷ us))) ≡ Some (t, n)
          → (if b then worded ((x ∷ xs) ++ 49 ∷ vs) else signed (symbol_at ((x ∷ xs) ++ 49 ∷ vs))) ≡ Some (t, n)
      by true e =
          let m = prefix_len is_word_byte ((x ∷ xs) ++ d ∷ us) in
          let long : m ≡ n = with_length (word_token (take m ((x ∷ xs) ++ d ∷ us))) m t n e in
          let le : m ≤ suc (length xs) = omega (arith, long, l) in
          ap (λ k. with_size k (word_token (take k ((x ∷ xs) ++ 49 ∷ vs)))) (word_same (x ∷ xs) le)
          ∙ ap (λ w. with_size m (word_token w)) (take_front m (x ∷ xs) (49 ∷ vs) le ∙ sym (take_front m (x ∷ xs) (d ∷ us) le)) ∙ e
      by false e = ap signed (symbol_same x xs) ∙ e

  token_here : (xs : List ℕ) (t : Token) (n : ℕ) → 0 < n → n ≤ length xs → token_at (xs ++ d ∷ us) ≡ Some (t, n) → token_at (xs ++ 49 ∷ vs) ≡ Some (t, n)
  token_here [] t n s l e = absurd (omega (arith, s, l))
  token_here (x ∷ xs) t n s l e = token_same x xs t n l e

-- ---- the number that is changed
one_token : (rest : List ℕ) → prefix_len is_word_byte rest ≡ 0 → token_at (49 ∷ rest) ≡ Some (one, 1)
unfolding token_at word_token number_of
one_token rest h = rw h refl

blank_gap : (m : ℕ) (rest : List ℕ) → gap_from false (replicate m 32 ++ rest) ≡ m + gap_from false rest
blank_gap zero rest = omega arith
blank_gap (suc m) rest = let e = blank_gap m rest in omega (arith, e)

-- the first byte of a number is a digit
abbrev is_number : Option Token → Bool
is_number (Some (token.Number n)) = true
is_number _ = false

name_is_none : (w : List ℕ) (b : Bool) → is_number (Some (if b then token.Name w else token.LongName)) ≡ false
name_is_none w true = refl
name_is_none w false = refl

word_is_none : (w : List ℕ) (o : Option Ty) (p : Option Word) → is_number (Some (or_name w o p)) ≡ false
word_is_none w (Some t) p = refl
word_is_none w None (Some q) = refl
word_is_none w None None = name_is_none w (nat_le (length w) 16)

number_first : (w : List ℕ) (n : Literal) → word_token w ≡ Some (token.Number n) → is_digit (slice_index w 0) ≡ true
unfolding word_token
number_first w n e = by (is_digit (slice_index w 0)) e
  where
    by : (b : Bool) → (if b then option_map (λ n. token.Number n) (number_of w) else Some (or_name w (type_named w) (word_named w))) ≡ Some (token.Number n) → b ≡ true
    by true e = refl
    by false e = sym (word_is_none w (type_named w) (word_named w)) ∙ ap is_number e

-- what is known of a number at the front
pub record NumberAt (bytes : List ℕ) (n : ℕ) : Type 0 where
  pub first : ℕ
  pub others : List ℕ
  pub is : bytes ≡ first ∷ others
  pub digit : is_digit first ≡ true
  pub long : prefix_len is_word_byte bytes ≡ n

kept_first : (m b : ℕ) (bs : List ℕ) → is_digit (slice_index (take m (b ∷ bs)) 0) ≡ true → is_digit b ≡ true
kept_first zero b bs e = absurd (false≢true e)
kept_first (suc m) b bs e = e

abbrev token_of : Option (Token × ℕ) → Option Token
token_of None = None
token_of (Some p) = Some p.0

sign_is_none : (o : Option Symbol) → is_number (token_of (signed o)) ≡ false
sign_is_none None = refl
sign_is_none (Some s) = refl

number_at : (bytes : List ℕ) (n : Literal) (k : ℕ) → token_at bytes ≡ Some (token.Number n, k) → NumberAt bytes k
unfolding token_at
number_at [] n k e = absurd (false≢true (sym (sign_is_none (symbol_at [])) ∙ ap (λ p. is_number (token_of p)) e))
number_at (b ∷ bs) n k e = by (is_word_byte b) e
  where
    by : (c : Bool) → (if c then worded (b ∷ bs) else signed (symbol_at (b ∷ bs))) ≡ Some (token.Number n, k) → NumberAt (b ∷ bs) k
    by true e =
        let m = prefix_len is_word_byte (b ∷ bs) in
        let w = with_token (word_token (take m (b ∷ bs))) m (token.Number n) k e in
        record {
          first = b;
          others = bs;
          is = refl;
          digit = kept_first m b bs (number_first (take m (b ∷ bs)) n w);
          long = with_length (word_token (take m (b ∷ bs))) m (token.Number n) k e;
        }
    by false e = absurd (false≢true (sym (sign_is_none (symbol_at (b ∷ bs))) ∙ ap (λ p. is_number (token_of p)) e))

-- ---- one number is replaced
starts_before : (Ends : ℕ → Type 0) (text : List ℕ) (at : ℕ) (xs : List Lexeme) (l : Lexeme) (after : List Lexeme) → AreUpTo Ends text at (xs ++ l ∷ after) → at ≤ l.span.start
starts_before Ends text at [] l after h = let s = h.1 in omega (arith, s)
starts_before Ends text at (x ∷ xs) l after h =
    let r = starts_before Ends text (x.span.end + gap (drop x.span.end text)) xs l after h.4 in let k = h.3 in omega (arith, r, k)

part_at : (Ends : ℕ → Type 0) (text : List ℕ) (at : ℕ) (xs : List Lexeme) (l : Lexeme) (after : List Lexeme) → AreUpTo Ends text at (xs ++ l ∷ after) → AreUpTo Ends text l.span.start (l ∷ after)
part_at Ends text at [] l after h = subst (λ p. AreUpTo Ends text p (l ∷ after)) (sym h.1) h
part_at Ends text at (x ∷ xs) l after h = part_at Ends text (x.span.end + gap (drop x.span.end text)) xs l after h.4

-- from the end of the changed bytes on all is the same
behind : (Ends : ℕ → Type 0) (text other : List ℕ) (e : ℕ) → length text ≡ length other → ((q : ℕ) → e ≤ q → drop q text ≡ drop q other) → (at : ℕ) (ls : List Lexeme) → e ≤ at
    → AreUpTo Ends text at ls → AreUpTo Ends other at ls
behind Ends text other e long same at [] le h = h
behind Ends text other e long same at (l ∷ ls) le h =
    let lt = h.0 in let ends = h.3 in
    let far : e ≤ l.span.end = omega (arith, le, ends) in
    let g : gap (drop l.span.end text) ≡ gap (drop l.span.end other) = ap gap (same l.span.end far) in (
      omega (arith, lt, long),
      h.1,
      ap token_at (sym (same at le)) ∙ h.2,
      h.3,
      subst (λ p. AreUpTo Ends other (l.span.end + p) ls) g (behind Ends text other e long same (l.span.end + gap (drop l.span.end text)) ls (omega (arith, far)) h.4),
    )

module _ (Ends : ℕ → Type 0) (F : List ℕ) (d : ℕ) (digit : is_digit d ≡ true) (us vs : List ℕ) (long : length us ≡ length vs) where
  text_long : length (F ++ d ∷ us) ≡ length (F ++ 49 ∷ vs)
  text_long = both_long F (d ∷ us) ∙ ap (λ n. length F + suc n) long ∙ sym (both_long F (49 ∷ vs))

  before : (at : ℕ) (xs : List Lexeme) (l m : Lexeme) (after : List Lexeme) → l.span.start ≡ length F → AreUpTo Ends (F ++ d ∷ us) at (xs ++ l ∷ after)
      → AreUpTo Ends (F ++ 49 ∷ vs) l.span.start (m ∷ after) → AreUpTo Ends (F ++ 49 ∷ vs) at (xs ++ m ∷ after)
  before at [] l m after s h k = subst (λ p. AreUpTo Ends (F ++ 49 ∷ vs) p (m ∷ after)) h.1 k
  before at (x ∷ xs) l m after s h k =
      let e = x.span.end in
      let next = e + gap (drop e (F ++ d ∷ us)) in
      let r : next ≤ l.span.start = starts_before Ends (F ++ d ∷ us) next xs l after h.4 in
      let lt = h.0 in let ends = h.3 in
      let far : next ≤ length F = omega (arith, r, s) in
      let fe : e ≤ length F = omega (arith, far) in
      let fa : at ≤ length F = omega (arith, fe, ends) in
      let here : drop at (F ++ d ∷ us) ≡ drop at F ++ d ∷ us = drop_front at F (d ∷ us) fa in
      let here' : drop at (F ++ 49 ∷ vs) ≡ drop at F ++ 49 ∷ vs = drop_front at F (49 ∷ vs) fa in
      let there : drop e (F ++ d ∷ us) ≡ drop e F ++ d ∷ us = drop_front e F (d ∷ us) fe in
      let there' : drop e (F ++ 49 ∷ vs) ≡ drop e F ++ 49 ∷ vs = drop_front e F (49 ∷ vs) fe in
      let la = drop_long at F fa in
      let le = drop_long e F fe in
      let token : token_at (drop at F ++ 49 ∷ vs) ≡ Some (x.token, e - at) =
      token_here d digit us vs (drop at F) x.token (e - at) (omega (arith, ends)) (omega (arith, la, fe, ends)) (ap token_at (sym here) ∙ h.2) in
      let gaps : gap (drop e F ++ d ∷ us) ≡ gap (drop e (F ++ d ∷ us)) = ap gap (sym there) in
      let same : gap (drop e F ++ 49 ∷ vs) ≡ gap (drop e F ++ d ∷ us) = gap_same d digit us vs false (drop e F) (omega (arith, gaps, far, le)) in
      let moved : gap (drop e (F ++ d ∷ us)) ≡ gap (drop e (F ++ 49 ∷ vs)) = sym (ap gap there' ∙ same ∙ gaps) in (
        omega (arith, lt, text_long),
        h.1,
        ap token_at here' ∙ token,
        h.3,
        subst (λ p. AreUpTo Ends (F ++ 49 ∷ vs) (e + p) (xs ++ m ∷ after)) moved (before next xs l m after s h.4 k),
      )

  first_gap : (xs : List Lexeme) (l : Lexeme) (after : List Lexeme) → l.span.start ≡ length F → AreUpTo Ends (F ++ d ∷ us) (gap (F ++ d ∷ us)) (xs ++ l ∷ after)
      → gap (F ++ d ∷ us) ≡ gap (F ++ 49 ∷ vs)
  first_gap xs l after s h =
      let r = starts_before Ends (F ++ d ∷ us) (gap (F ++ d ∷ us)) xs l after h in
      sym (gap_same d digit us vs false F (omega (arith, r, s)))

stops : (m : ℕ) (rest : List ℕ) → (m ≡ 0 → prefix_len is_word_byte rest ≡ 0) → prefix_len is_word_byte (replicate m 32 ++ rest) ≡ 0
stops zero rest h = h refl
stops (suc m) rest h = refl

-- the bytes round the number
module _ (Ends : ℕ → Type 0) (F : List ℕ) (d : ℕ) (digit : is_digit d ≡ true) (us : List ℕ) (l : Lexeme) (after : List Lexeme) (n : Literal) (number : l.token ≡ token.Number n)
    (s : l.span.start ≡ length F) (h : AreUpTo Ends (F ++ d ∷ us) l.span.start (l ∷ after)) where
  abbrev old_text : List ℕ
  old_text = F ++ d ∷ us

  abbrev e : ℕ
  e = l.span.end

  abbrev m : ℕ
  m = (l.span.end - l.span.start) - 1

  abbrev B : List ℕ
  B = drop l.span.end (F ++ d ∷ us)

  abbrev vs : List ℕ
  vs = replicate ((l.span.end - l.span.start) - 1) 32 ++ drop l.span.end (F ++ d ∷ us)

  at_start : drop l.span.start (F ++ d ∷ us) ≡ d ∷ us
  at_start = drop_at F (d ∷ us) l.span.start (sym s)

  found : NumberAt (d ∷ us) (l.span.end - l.span.start)
  found = number_at (d ∷ us) n (l.span.end - l.span.start) (ap token_at (sym at_start) ∙ h.2 ∙ ap (λ t. Some (sized (l.span.end - l.span.start) t)) number)

  within : l.span.end ≤ length (F ++ d ∷ us)
  within =
      let a = prefix_len-le-length is_word_byte (d ∷ us) in let b = found.long in let c = both_long F (d ∷ us) in let k = h.3 in
      omega (arith, a, b, c, s, k)

  rest_long : length us ≡ length vs
  rest_long =
      let a = both_long (replicate m 32) B in let b = length-replicate {A = ℕ} m 32 in let c = drop_long l.span.end old_text within in let g = both_long F (d ∷ us) in let k = h.3 in
      omega (arith, a, b, c, g, s, k)

  behind_one : drop (l.span.start + 1) (F ++ 49 ∷ vs) ≡ vs
  behind_one = sym (drop-drop 1 l.span.start (F ++ 49 ∷ vs)) ∙ ap (drop 1) (drop_at F (49 ∷ vs) l.span.start (sym s))

  -- the number ends where its run of letters and digits does
  ended : m ≡ 0 → prefix_len is_word_byte B ≡ 0
  ended z =
      let k = h.3 in
      let one_long : l.span.end ≡ l.span.start + 1 = omega (arith, z, k) in
      let is_us : B ≡ us = ap (λ q. drop q (F ++ d ∷ us)) one_long ∙ sym (drop-drop 1 l.span.start (F ++ d ∷ us)) ∙ ap (drop 1) at_start in
      let all : prefix_len is_word_byte (d ∷ us) ≡ 1 + prefix_len is_word_byte us = ap (λ b. cond b (1 + prefix_len is_word_byte us) 0) (digit_word d digit) in
      let size = found.long in
      ap (prefix_len is_word_byte) is_us ∙ omega (arith, all, size, one_long)

  one_here : token_at (drop l.span.start (F ++ 49 ∷ vs)) ≡ Some (one, (l.span.start + 1) - l.span.start)
  one_here =
      let w : 1 ≡ (l.span.start + 1) - l.span.start = omega arith in
      ap token_at (drop_at F (49 ∷ vs) l.span.start (sym s)) ∙ one_token vs (stops m B ended) ∙ ap (λ k. Some (sized k one)) w

  same_behind : (q : ℕ) → l.span.end ≤ q → drop q (F ++ d ∷ us) ≡ drop q (F ++ 49 ∷ vs)
  same_behind q le =
      let k = h.3 in
      let front = F ++ 49 ∷ replicate m 32 in
      let there : q ≡ l.span.end + (q - l.span.end) = omega (arith, le) in
      let a = both_long F (49 ∷ replicate m 32) in let b = length-replicate {A = ℕ} m 32 in
      let size : length (F ++ 49 ∷ replicate m 32) ≡ l.span.end = omega (arith, a, b, s, k) in
      let parts : F ++ 49 ∷ vs ≡ (F ++ 49 ∷ replicate m 32) ++ B = sym (append_assoc F (49 ∷ replicate m 32) B) in
      ap (λ p. drop p (F ++ d ∷ us)) there ∙ sym (drop-drop (q - l.span.end) l.span.end (F ++ d ∷ us))
      ∙ ap (drop (q - l.span.end)) (sym (ap (drop l.span.end) parts ∙ drop_at (F ++ 49 ∷ replicate m 32) B l.span.end size))
      ∙ drop-drop (q - l.span.end) l.span.end (F ++ 49 ∷ vs) ∙ ap (λ p. drop p (F ++ 49 ∷ vs)) (sym there)

  text_same : length (F ++ d ∷ us) ≡ length (F ++ 49 ∷ vs)
  text_same = text_long Ends F d digit us vs rest_long

  here_narrow : AreUpTo Ends (F ++ 49 ∷ vs) l.span.start (narrow_lexeme l ∷ after)
  here_narrow =
      let lt = h.0 in let k = h.3 in
      let later = behind Ends (F ++ d ∷ us) (F ++ 49 ∷ vs) l.span.end text_same same_behind (l.span.end + gap B) after (omega arith) h.4 in
      let g : gap (drop (l.span.start + 1) (F ++ 49 ∷ vs)) ≡ m + gap B = ap gap behind_one ∙ blank_gap m B in
      let place : l.span.end + gap B ≡ (l.span.start + 1) + gap (drop (l.span.start + 1) (F ++ 49 ∷ vs)) = omega (arith, g, k) in
      (omega (arith, lt, text_same), refl, one_here, omega arith, subst (λ p. AreUpTo Ends (F ++ 49 ∷ vs) p after) place later)

  all_narrow : (xs : List Lexeme) → AreUpTo Ends (F ++ d ∷ us) (gap (F ++ d ∷ us)) (xs ++ l ∷ after) → AreUpTo Ends (F ++ 49 ∷ vs) (gap (F ++ 49 ∷ vs)) (xs ++ narrow_lexeme l ∷ after)
  all_narrow xs all =
      subst (λ p. AreUpTo Ends (F ++ 49 ∷ vs) p (xs ++ narrow_lexeme l ∷ after)) (first_gap Ends F d digit us vs rest_long xs l after s all)
      (before Ends F d digit us vs rest_long (gap (F ++ d ∷ us)) xs l (narrow_lexeme l) after s all here_narrow)

-- another text of the same length with these tokens
pub record Narrowed (text other : List ℕ) (ls : List Lexeme) : Type 0 where
  pub tokens : AreLexemes other ls
  pub long : length other ≡ length text

-- a text one of whose numbers is replaced
replaced_at : (text F : List ℕ) (d : ℕ) (us : List ℕ) (l : Lexeme) (xs after : List Lexeme) (n : Literal) → F ++ d ∷ us ≡ text → F ≡ take l.span.start text → is_digit d ≡ true
    → l.token ≡ token.Number n → l.span.start ≡ length F → AreLexemes text (xs ++ l ∷ after) → Narrowed text (with_one text l.span) (xs ++ narrow_lexeme l ∷ after)
replaced_at text F d us l xs after n is front digit number s h =
    let rest : List ℕ → List ℕ = λ t. 49 ∷ (replicate ((l.span.end - l.span.start) - 1) 32 ++ drop l.span.end t) in
    let h' : AreLexemes (F ++ d ∷ us) (xs ++ l ∷ after) = subst (λ t. AreLexemes t (xs ++ l ∷ after)) (sym is) h in
    let Ends : ℕ → Type 0 = λ (at : ℕ). length (F ++ d ∷ us) ≤ at in
    let here = part_at Ends (F ++ d ∷ us) (gap (F ++ d ∷ us)) xs l after h' in
    let made = all_narrow Ends F d digit us l after n number s here xs h' in
    let size = text_same Ends F d digit us l after n number s here in
    let whole : AreLexemes (F ++ rest (F ++ d ∷ us)) (xs ++ narrow_lexeme l ∷ after) =
    subst (λ k. AreUpTo (λ (at : ℕ). k ≤ at) (F ++ rest (F ++ d ∷ us)) (gap (F ++ rest (F ++ d ∷ us))) (xs ++ narrow_lexeme l ∷ after)) size made in
    let same : F ++ rest (F ++ d ∷ us) ≡ with_one text l.span = λ i. front i ++ rest (is i) in
    record { tokens = subst (λ t. AreLexemes t (xs ++ narrow_lexeme l ∷ after)) same whole; long = sym (ap length same) ∙ sym size ∙ ap length is }

replaced : (text : List ℕ) (l : Lexeme) (xs after : List Lexeme) (n : Literal) → l.token ≡ token.Number n → AreLexemes text (xs ++ l ∷ after)
    → Narrowed text (with_one text l.span) (xs ++ narrow_lexeme l ∷ after)
replaced text l xs after n number h =
    let here = part_at (λ (at : ℕ). length text ≤ at) text (gap text) xs l after h in
    let lt = here.0 in
    let found = number_at (drop l.span.start text) n (l.span.end - l.span.start) (here.2 ∙ ap (λ t. Some (sized (l.span.end - l.span.start) t)) number) in
    replaced_at text (take l.span.start text) found.first found.others l xs after n (ap (λ r. take l.span.start text ++ r) (sym found.is) ∙ take-append-drop l.span.start text) refl found.digit
    number (sym (length-take-le l.span.start text (omega (arith, lt)))) h

-- ---- all wide extents
wide_number : (k : ℕ) (t : Token) → is_wide_token k t ≡ true → (n : Literal) × (t ≡ token.Number n)
wide_number (suc k) (token.Number n) e = (n, refl)
wide_number (suc k) (token.Name x) e = absurd (false≢true e)
wide_number (suc k) token.LongName e = absurd (false≢true e)
wide_number (suc k) (token.Type t) e = absurd (false≢true e)
wide_number (suc k) (token.Word w) e = absurd (false≢true e)
wide_number (suc k) (token.Symbol s) e = absurd (false≢true e)
wide_number zero t e = absurd (false≢true e)

narrowed_same : (text : List ℕ) (ls : List Lexeme) → AreLexemes text ls → Narrowed text text ls
narrowed_same text ls h = record { tokens = h; long = refl }

narrowed_more : {text other last : List ℕ} {ls ms ns : List Lexeme} → Narrowed text other ls → Narrowed other last ms → ms ≡ ns → Narrowed text last ns
narrowed_more {text} {other} {last} {ls} {ms} {ns} p q e = record { tokens = subst (λ k. AreLexemes last k) e q.tokens; long = q.long ∙ p.long }

next_narrow : (text : List ℕ) (done : List Lexeme) (l : Lexeme) (ls : List Lexeme) (c : ℕ) (w : Bool) → (w ≡ true → (n : Literal) × (l.token ≡ token.Number n))
    → ((other : List ℕ) (more : List Lexeme) → AreLexemes other (more ++ ls) → Narrowed other (fold with_one other (wide_places c ls)) (more ++ narrow_lexemes c ls))
    → AreLexemes text (done ++ l ∷ ls)
    → Narrowed text (fold with_one text ((if w then l.span ∷ [] else []) ++ wide_places c ls)) (done ++ (if w then narrow_lexeme l else l) ∷ narrow_lexemes c ls)
next_narrow text done l ls c true number more h =
    let n = number refl in
    let one_less = replaced text l done ls n.0 n.1 h in
    let next = more (with_one text l.span) (done ++ narrow_lexeme l ∷ []) (subst (λ k. AreLexemes (with_one text l.span) k) (sym (append_assoc done (narrow_lexeme l ∷ []) ls)) one_less.tokens) in
    narrowed_more one_less next (append_assoc done (narrow_lexeme l ∷ []) (narrow_lexemes c ls))
next_narrow text done l ls c false number more h =
    let next = more text (done ++ l ∷ []) (subst (λ k. AreLexemes text k) (sym (append_assoc done (l ∷ []) ls)) h) in
    narrowed_more (narrowed_same text (done ++ l ∷ ls) h) next (append_assoc done (l ∷ []) (narrow_lexemes c ls))

all_narrowed : (text : List ℕ) (done ls : List Lexeme) (b : ℕ) → AreLexemes text (done ++ ls) → Narrowed text (fold with_one text (wide_places b ls)) (done ++ narrow_lexemes b ls)
all_narrowed text done [] b h = narrowed_same text (done ++ []) h
all_narrowed text done (l ∷ ls) b h = next_narrow text done l ls (sides_left b l.token) (is_wide_token b l.token) (wide_number b l.token)
    (λ other more k. all_narrowed other more ls (sides_left b l.token) k) h

-- the tokens of the narrow text
pub narrow_lexed : (text : List ℕ) (ls : List Lexeme) → AreLexemes text ls → Narrowed text (narrow_text text ls) (narrow_lexemes 0 ls)
narrow_lexed text ls h = all_narrowed text [] ls 0 h
