-- The text of tokens that have one is read as these tokens.
use Rattle.std.proofs.Common.{◌≡◌, ℕ, zero, suc, ◌+◌, ◌-◌, ◌≤◌, ◌<◌, ◌^◌, Bool, true, false, not, ◌&&◌, ◌||◌, ltb, leb, List, [], ◌∷◌, ◌++◌, length}
use Rattle.std.proofs.Common.{take, drop, get_or, inl, inr, Option, Some, None, refl, sym, ap, subst, ◌∙◌, append_assoc, arith, length-append}
use Rattle.std.specs.Prelude.{◌⊎◌, if◌then◌else◌, slice_index, find, nat_lt, nat_le, ◌==◌, option_map, codes}
use Rattle.std.specs.List.{list_all, list_any, prefix_len}
use Rattle.std.specs.Str.{bytes_eq}
use Rattle.std.specs.Fmt.{decimal}
use Rattle.std.proofs.lemmas.Bool.{leb-true}
use Rattle.std.proofs.lemmas.Bool.Decides.{nat_tests}
use Rattle.std.proofs.lemmas.List.{append-nil, take_at, drop_at, drop-drop, length-drop}
use Rattle.std.proofs.lemmas.Fmt.{decimal_is_IsNumeral, decimal_digit, first_decimal}
use Rattle.numeric.specs.declared.ty.Ty.{Ty}
use Rattle.numeric.specs.declared.ty.Ty.TheVariants as ty
use Rattle.tree.specs.declared.token.token.Symbol.{Symbol}
use Rattle.tree.specs.declared.token.token.Symbol.TheVariants as symbol
use Rattle.tree.specs.declared.token.token.Word.{Word}
use Rattle.tree.specs.declared.token.token.Word.TheVariants as word
use Rattle.tree.specs.declared.token.token.Token.{Token}
use Rattle.tree.specs.declared.token.token.Token.TheVariants as token
use Rattle.tree.specs.declared.token.token.Lexeme.{Lexeme}
use Rattle.tree.specs.Token.Cursor.{kinds}
use Rattle.tree.specs.Token.Spelling.{is_digit, is_word_byte, type_text, word_text, symbol_text, suffix_text}
use Rattle.tree.specs.Token.Lexical.{types, words, gap, largest, is_plain, suffix_type, type_named, word_named, number_of, word_token, symbol_at, token_at, AreUpTo, AreLexemes}
use Rattle.tree.proofs.Lexemes.{lexeme}
use Rattle.spelling.specs.Words.Reading.{Stops}
use Rattle.spelling.specs.Words.Fitting.{is_name, is_reserved}
use Rattle.spelling.proofs.Runs.{both, neither, run_is, decimal_passes, decimal_first}
use Rattle.spelling.proofs.WordsAgain.{type_word}
use Rattle.printer.specs.Spacing.{has_text, token_text, gap_before, gap_closed, gap_typed, gap_worded, gap_stated, gap_behind, gap_between, operand_before, gap_after, text_of, ends_operand}

-- ---- words

unset : (b : Bool) → not b ≡ true → b ≡ false
unset true h = absurd cc
unset false h = refl

not_found : {X : Type 0} (p : X → Bool) (xs : List X) → list_any p xs ≡ false → find p xs ≡ None
not_found p [] h = refl
not_found p (x ∷ xs) h = let n = neither (p x) (list_any p xs) h in rw (n.0, not_found p xs n.1) refl

first_of : (w rest : List ℕ) → 0 < length w → slice_index (w ++ rest) 0 ≡ slice_index w 0
first_of [] rest some = absurd (omega arith)
first_of (b ∷ w) rest some = refl

lead_of : (w : List ℕ) → 0 < length w → list_all is_word_byte w ≡ true → is_word_byte (slice_index w 0) ≡ true
lead_of [] some all = absurd (omega arith)
lead_of (b ∷ w) some all = (both (is_word_byte b) (list_all is_word_byte w) all).0

-- a run of letters, digits and `_` is read as the token that it is
word_at : (w rest : List ℕ) → 0 < length w → list_all is_word_byte w ≡ true → Stops is_word_byte rest → token_at (w ++ rest) ≡ option_map (λ t. (t, length w)) (word_token w)
unfolding token_at
word_at w rest some all stops =
    let first : is_word_byte (slice_index (w ++ rest) 0) ≡ true = ap is_word_byte (first_of w rest some) ∙ lead_of w some all in
    rw (first, run_is is_word_byte w rest all stops, take_at w rest (length w) refl) refl

word_no_gap_at : (b : ℕ) (rest : List ℕ) → is_word_byte b ≡ true → gap (b ∷ rest) ≡ 0
word_no_gap_at b rest h =
    let a : (b == 35) ≡ false = grind (arith, nat_tests) in
    let c : (b == 32) ≡ false = grind (arith, nat_tests) in
    let d : (b == 9) ≡ false = grind (arith, nat_tests) in
    let e : (b == 13) ≡ false = grind (arith, nat_tests) in
    let f : (b == 10) ≡ false = grind (arith, nat_tests) in
    rw (a, c, d, e, f) refl

word_no_gap : (w rest : List ℕ) → 0 < length w → list_all is_word_byte w ≡ true → gap (w ++ rest) ≡ 0
word_no_gap [] rest some all = absurd (omega arith)
word_no_gap (b ∷ w) rest some all = word_no_gap_at b (w ++ rest) (both (is_word_byte b) (list_all is_word_byte w) all).0

-- ---- names

pub record IsNameText (x : List ℕ) : Type 0 where
  pub some : 0 < length x
  pub bytes : list_all is_word_byte x ≡ true
  pub token : word_token x ≡ Some (token.Name x)

name_text : (x : List ℕ) → is_name x ≡ true → IsNameText x
unfolding word_token type_named word_named
name_text x fits =
    let size = nat_lt 0 (length x) && nat_le (length x) 16 in
    let own = both (size && list_all is_word_byte x && not (is_digit (slice_index x 0))) (not (is_reserved x)) fits in
    let front = both (size && list_all is_word_byte x) (not (is_digit (slice_index x 0))) own.0 in
    let sized = both size (list_all is_word_byte x) front.0 in
    let sizes = both (nat_lt 0 (length x)) (nat_le (length x) 16) sized.0 in
    let some : 0 < length x = let h = sizes.0 in grind (arith, nat_tests) in
    let free = neither (list_any (λ t. bytes_eq (type_text t) x) types) (list_any (λ w. bytes_eq (word_text w) x) words) (unset (is_reserved x) own.1) in
    let no_digit : is_digit (slice_index x 0) ≡ false = unset (is_digit (slice_index x 0)) front.1 in
    record {
      some = some;
      bytes = sized.1;
      token = rw (no_digit, not_found (λ t. bytes_eq (type_text t) x) types free.0, not_found (λ w. bytes_eq (word_text w) x) words free.1, sizes.1) refl;
    }

-- ---- numbers

plain_at : (n : ℕ) (b : Bool) → nat_lt 0 n ≡ b → n < 2 ^ 64 → is_plain (decimal n) ≡ true
plain_at n true e lt =
    let some : 0 < n = grind (arith, nat_tests) in
    let first = first_decimal n some lt in
    let other : (slice_index (decimal n) 0 == 48) ≡ false = grind (arith, nat_tests) in
    rw other refl
plain_at n false e lt =
    let none : n ≡ 0 = grind (arith, nat_tests) in
    let zero_text : decimal n ≡ 48 ∷ [] = decimal_digit n (omega (arith, none)) ∙ ap (λ (m : ℕ). (48 + m) ∷ []) none in
    rw zero_text refl

plain : (n : ℕ) → n < 2 ^ 64 → is_plain (decimal n) ≡ true
plain n lt = plain_at n (nat_lt 0 n) refl lt

largest_fits : (t : Option Ty) → largest t < 2 ^ 64
largest_fits None = omega arith
largest_fits (Some ty.U8) = omega arith
largest_fits (Some ty.U16) = omega arith
largest_fits (Some ty.U32) = omega arith
largest_fits (Some ty.I8) = omega arith
largest_fits (Some ty.I16) = omega arith
largest_fits (Some ty.I32) = omega arith

suffix_stops : (t : Option Ty) → Stops is_digit (suffix_text t)
suffix_stops None = refl
suffix_stops (Some ty.U8) = refl
suffix_stops (Some ty.U16) = refl
suffix_stops (Some ty.U32) = refl
suffix_stops (Some ty.I8) = refl
suffix_stops (Some ty.I16) = refl
suffix_stops (Some ty.I32) = refl

suffix_word : (t : Option Ty) → list_all is_word_byte (suffix_text t) ≡ true
suffix_word None = refl
suffix_word (Some t) = type_word t

suffix_is : (t : Option Ty) → suffix_type (suffix_text t) ≡ Some t
unfolding type_named
suffix_is None = refl
suffix_is (Some ty.U8) = refl
suffix_is (Some ty.U16) = refl
suffix_is (Some ty.U32) = refl
suffix_is (Some ty.I8) = refl
suffix_is (Some ty.I16) = refl
suffix_is (Some ty.I32) = refl

digits_word : (ds : List ℕ) → list_all is_digit ds ≡ true → list_all is_word_byte ds ≡ true
digits_word [] h = refl
digits_word (d ∷ ds) h = let one = both (is_digit d) (list_all is_digit ds) h in rw (one.0, digits_word ds one.1) refl

all_both : (p : ℕ → Bool) (xs ys : List ℕ) → list_all p xs ≡ true → list_all p ys ≡ true → list_all p (xs ++ ys) ≡ true
all_both p [] ys a b = b
all_both p (x ∷ xs) ys a b = let one = both (p x) (list_all p xs) a in rw (one.0, all_both p xs ys one.1 b) refl

some_front : (xs ys : List ℕ) → 0 < length xs → 0 < length (xs ++ ys)
some_front [] ys h = absurd (omega arith)
some_front (x ∷ xs) ys h = omega arith

pub record IsNumberText (n : ℕ) (t : Option Ty) : Type 0 where
  pub some : 0 < length (decimal n ++ suffix_text t)
  pub bytes : list_all is_word_byte (decimal n ++ suffix_text t) ≡ true
  pub token : word_token (decimal n ++ suffix_text t) ≡ Some (token.Number (record { value = n; ty = t }))

number_text : (n : ℕ) (t : Option Ty) → nat_le n (largest t) ≡ true → IsNumberText n t
unfolding word_token number_of
number_text n t fits =
    let le : n ≤ largest t = leb-true n (largest t) fits in
    let lt : n < 2 ^ 64 = omega (arith, le, largest_fits t) in
    let ds = decimal n in
    let numeral = decimal_is_IsNumeral n lt in
    let digit : is_digit (slice_index (ds ++ suffix_text t) 0) ≡ true = decimal_first n (suffix_text t) lt in
    let run : prefix_len is_digit (ds ++ suffix_text t) ≡ length ds = run_is is_digit ds (suffix_text t) (decimal_passes n lt) (suffix_stops t) in
    record {
      some = some_front ds (suffix_text t) numeral.0.0;
      bytes = all_both is_word_byte ds (suffix_text t) (digits_word ds (decimal_passes n lt)) (suffix_word t);
      token = rw (digit, run, take_at ds (suffix_text t) (length ds) refl, drop_at ds (suffix_text t) (length ds) refl, suffix_is t, plain n lt, numeral.1, fits) refl;
    }

-- ---- types, words and symbols

type_token : (t : Ty) → word_token (type_text t) ≡ Some (token.Type t)
unfolding word_token type_named word_named
type_token ty.U8 = refl
type_token ty.U16 = refl
type_token ty.U32 = refl
type_token ty.I8 = refl
type_token ty.I16 = refl
type_token ty.I32 = refl

type_some : (t : Ty) → 0 < length (type_text t)
type_some ty.U8 = omega arith
type_some ty.U16 = omega arith
type_some ty.U32 = omega arith
type_some ty.I8 = omega arith
type_some ty.I16 = omega arith
type_some ty.I32 = omega arith

keyword_token : (w : Word) → word_token (word_text w) ≡ Some (token.Word w)
unfolding word_token type_named word_named
keyword_token word.Pipeline = refl
keyword_token word.Input = refl
keyword_token word.Func = refl
keyword_token word.Update = refl
keyword_token word.Over = refl
keyword_token word.Output = refl
keyword_token word.Min = refl
keyword_token word.Max = refl
keyword_token word.Clamp = refl
keyword_token word.Select = refl
keyword_token word.Not = refl
keyword_token word.All = refl
keyword_token word.Any = refl

keyword_some : (w : Word) → 0 < length (word_text w)
keyword_some word.Pipeline = omega arith
keyword_some word.Input = omega arith
keyword_some word.Func = omega arith
keyword_some word.Update = omega arith
keyword_some word.Over = omega arith
keyword_some word.Output = omega arith
keyword_some word.Min = omega arith
keyword_some word.Max = omega arith
keyword_some word.Clamp = omega arith
keyword_some word.Select = omega arith
keyword_some word.Not = omega arith
keyword_some word.All = omega arith
keyword_some word.Any = omega arith

keyword_bytes : (w : Word) → list_all is_word_byte (word_text w) ≡ true
keyword_bytes word.Pipeline = refl
keyword_bytes word.Input = refl
keyword_bytes word.Func = refl
keyword_bytes word.Update = refl
keyword_bytes word.Over = refl
keyword_bytes word.Output = refl
keyword_bytes word.Min = refl
keyword_bytes word.Max = refl
keyword_bytes word.Clamp = refl
keyword_bytes word.Select = refl
keyword_bytes word.Not = refl
keyword_bytes word.All = refl
keyword_bytes word.Any = refl

-- a blank or the end of a line comes next
abbrev Apart : List ℕ → Type 0
Apart rest = ((more : List ℕ) × (rest ≡ 32 ∷ more)) ⊎ ((more : List ℕ) × (rest ≡ 10 ∷ more))

-- what may follow a symbol: a blank after those that begin others
abbrev SymbolFollows : Symbol → List ℕ → Type 0
SymbolFollows symbol.Dot rest = Apart rest
SymbolFollows symbol.Equals rest = Apart rest
SymbolFollows symbol.Less rest = Apart rest
SymbolFollows symbol.Greater rest = Apart rest
SymbolFollows _ rest = Unit {0}

dot_at : (rest : List ℕ) → Apart rest → token_at (symbol_text symbol.Dot ++ rest) ≡ Some (token.Symbol symbol.Dot, length (symbol_text symbol.Dot))
unfolding token_at symbol_at
dot_at rest (inl h) = rw h.1 refl
dot_at rest (inr h) = rw h.1 refl

equals_at : (rest : List ℕ) → Apart rest → token_at (symbol_text symbol.Equals ++ rest) ≡ Some (token.Symbol symbol.Equals, length (symbol_text symbol.Equals))
unfolding token_at symbol_at
equals_at rest (inl h) = rw h.1 refl
equals_at rest (inr h) = rw h.1 refl

less_at : (rest : List ℕ) → Apart rest → token_at (symbol_text symbol.Less ++ rest) ≡ Some (token.Symbol symbol.Less, length (symbol_text symbol.Less))
unfolding token_at symbol_at
less_at rest (inl h) = rw h.1 refl
less_at rest (inr h) = rw h.1 refl

greater_at : (rest : List ℕ) → Apart rest → token_at (symbol_text symbol.Greater ++ rest) ≡ Some (token.Symbol symbol.Greater, length (symbol_text symbol.Greater))
unfolding token_at symbol_at
greater_at rest (inl h) = rw h.1 refl
greater_at rest (inr h) = rw h.1 refl

symbol_here : (s : Symbol) (rest : List ℕ) → SymbolFollows s rest → token_at (symbol_text s ++ rest) ≡ Some (token.Symbol s, length (symbol_text s))
unfolding token_at symbol_at
symbol_here symbol.Plus rest h = refl
symbol_here symbol.Minus rest h = refl
symbol_here symbol.Star rest h = refl
symbol_here symbol.Slash rest h = refl
symbol_here symbol.Percent rest h = refl
symbol_here symbol.LeftParen rest h = refl
symbol_here symbol.RightParen rest h = refl
symbol_here symbol.LeftBracket rest h = refl
symbol_here symbol.RightBracket rest h = refl
symbol_here symbol.Comma rest h = refl
symbol_here symbol.Semicolon rest h = refl
symbol_here symbol.Dot rest h = dot_at rest h
symbol_here symbol.DotDot rest h = refl
symbol_here symbol.Equals rest h = equals_at rest h
symbol_here symbol.EqualsEquals rest h = refl
symbol_here symbol.NotEquals rest h = refl
symbol_here symbol.Less rest h = less_at rest h
symbol_here symbol.LessEquals rest h = refl
symbol_here symbol.Greater rest h = greater_at rest h
symbol_here symbol.GreaterEquals rest h = refl

symbol_no_gap : (s : Symbol) (rest : List ℕ) → gap (symbol_text s ++ rest) ≡ 0
symbol_no_gap symbol.Plus rest = refl
symbol_no_gap symbol.Minus rest = refl
symbol_no_gap symbol.Star rest = refl
symbol_no_gap symbol.Slash rest = refl
symbol_no_gap symbol.Percent rest = refl
symbol_no_gap symbol.LeftParen rest = refl
symbol_no_gap symbol.RightParen rest = refl
symbol_no_gap symbol.LeftBracket rest = refl
symbol_no_gap symbol.RightBracket rest = refl
symbol_no_gap symbol.Comma rest = refl
symbol_no_gap symbol.Semicolon rest = refl
symbol_no_gap symbol.Dot rest = refl
symbol_no_gap symbol.DotDot rest = refl
symbol_no_gap symbol.Equals rest = refl
symbol_no_gap symbol.EqualsEquals rest = refl
symbol_no_gap symbol.NotEquals rest = refl
symbol_no_gap symbol.Less rest = refl
symbol_no_gap symbol.LessEquals rest = refl
symbol_no_gap symbol.Greater rest = refl
symbol_no_gap symbol.GreaterEquals rest = refl

symbol_some : (s : Symbol) → 0 < length (symbol_text s)
symbol_some symbol.Plus = omega arith
symbol_some symbol.Minus = omega arith
symbol_some symbol.Star = omega arith
symbol_some symbol.Slash = omega arith
symbol_some symbol.Percent = omega arith
symbol_some symbol.LeftParen = omega arith
symbol_some symbol.RightParen = omega arith
symbol_some symbol.LeftBracket = omega arith
symbol_some symbol.RightBracket = omega arith
symbol_some symbol.Comma = omega arith
symbol_some symbol.Semicolon = omega arith
symbol_some symbol.Dot = omega arith
symbol_some symbol.DotDot = omega arith
symbol_some symbol.Equals = omega arith
symbol_some symbol.EqualsEquals = omega arith
symbol_some symbol.NotEquals = omega arith
symbol_some symbol.Less = omega arith
symbol_some symbol.LessEquals = omega arith
symbol_some symbol.Greater = omega arith
symbol_some symbol.GreaterEquals = omega arith

-- ---- one token

abbrev Follows : Token → List ℕ → Type 0
Follows (token.Symbol s) rest = SymbolFollows s rest
Follows _ rest = Stops is_word_byte rest

-- the text of the token is read as it
record Reads (t : Token) : Type 0 where
  some : 0 < length (token_text t)
  lead : (rest : List ℕ) → gap (token_text t ++ rest) ≡ 0
  here : (rest : List ℕ) → Follows t rest → token_at (token_text t ++ rest) ≡ Some (t, length (token_text t))

reads : (t : Token) → has_text t ≡ true → Reads t
reads (token.Name x) h = let n = name_text x h in record {
  some = n.some;
  lead = λ rest. word_no_gap x rest n.some n.bytes;
  here = λ rest stops. word_at x rest n.some n.bytes stops ∙ ap (option_map (λ t. (t, length x))) n.token;
}
reads token.LongName h = absurd cc
reads (token.Number l) h = let n = number_text l.value l.ty h in let w = decimal l.value ++ suffix_text l.ty in record {
  some = n.some;
  lead = λ rest. word_no_gap w rest n.some n.bytes;
  here = λ rest stops. word_at w rest n.some n.bytes stops ∙ ap (option_map (λ t. (t, length w))) n.token;
}
reads (token.Type t) h = record {
  some = type_some t;
  lead = λ rest. word_no_gap (type_text t) rest (type_some t) (type_word t);
  here = λ rest stops. word_at (type_text t) rest (type_some t) (type_word t) stops ∙ ap (option_map (λ x. (x, length (type_text t)))) (type_token t);
}
reads (token.Word w) h = record {
  some = keyword_some w;
  lead = λ rest. word_no_gap (word_text w) rest (keyword_some w) (keyword_bytes w);
  here = λ rest stops. word_at (word_text w) rest (keyword_some w) (keyword_bytes w) stops ∙ ap (option_map (λ x. (x, length (word_text w)))) (keyword_token w);
}
reads (token.Symbol s) h = record {
  some = symbol_some s;
  lead = λ rest. symbol_no_gap s rest;
  here = λ rest follows. symbol_here s rest follows;
}

-- ---- gaps

abbrev IsGap : List ℕ → Type 0
IsGap g = (rest : List ℕ) → gap rest ≡ 0 → gap (g ++ rest) ≡ length g

no_gap : IsGap []
no_gap rest h = h

blank_gap : IsGap (codes " ")
blank_gap rest h = ap (λ n. 1 + n) h

line_gap : IsGap (codes "\n")
line_gap rest h = ap (λ n. 1 + n) h

indent_gap : IsGap (codes "\n    ")
indent_gap rest h = ap (λ n. 1 + (1 + (1 + (1 + (1 + n))))) h

before_gap : (u : Token) → IsGap (gap_before u)
before_gap (token.Symbol symbol.Plus) = blank_gap
before_gap (token.Symbol symbol.Minus) = blank_gap
before_gap (token.Symbol symbol.Star) = blank_gap
before_gap (token.Symbol symbol.Slash) = blank_gap
before_gap (token.Symbol symbol.Percent) = blank_gap
before_gap (token.Symbol symbol.LeftParen) = no_gap
before_gap (token.Symbol symbol.RightParen) = no_gap
before_gap (token.Symbol symbol.LeftBracket) = no_gap
before_gap (token.Symbol symbol.RightBracket) = no_gap
before_gap (token.Symbol symbol.Comma) = no_gap
before_gap (token.Symbol symbol.Semicolon) = no_gap
before_gap (token.Symbol symbol.Dot) = blank_gap
before_gap (token.Symbol symbol.DotDot) = no_gap
before_gap (token.Symbol symbol.Equals) = blank_gap
before_gap (token.Symbol symbol.EqualsEquals) = blank_gap
before_gap (token.Symbol symbol.NotEquals) = blank_gap
before_gap (token.Symbol symbol.Less) = blank_gap
before_gap (token.Symbol symbol.LessEquals) = blank_gap
before_gap (token.Symbol symbol.Greater) = blank_gap
before_gap (token.Symbol symbol.GreaterEquals) = blank_gap
before_gap (token.Name x) = blank_gap
before_gap token.LongName = blank_gap
before_gap (token.Number n) = blank_gap
before_gap (token.Type t) = blank_gap
before_gap (token.Word v) = blank_gap

closed_gap : (u : Token) → IsGap (gap_closed u)
closed_gap (token.Symbol symbol.Plus) = blank_gap
closed_gap (token.Symbol symbol.Minus) = blank_gap
closed_gap (token.Symbol symbol.Star) = blank_gap
closed_gap (token.Symbol symbol.Slash) = blank_gap
closed_gap (token.Symbol symbol.Percent) = blank_gap
closed_gap (token.Symbol symbol.LeftParen) = no_gap
closed_gap (token.Symbol symbol.RightParen) = no_gap
closed_gap (token.Symbol symbol.LeftBracket) = blank_gap
closed_gap (token.Symbol symbol.RightBracket) = no_gap
closed_gap (token.Symbol symbol.Comma) = no_gap
closed_gap (token.Symbol symbol.Semicolon) = no_gap
closed_gap (token.Symbol symbol.Dot) = blank_gap
closed_gap (token.Symbol symbol.DotDot) = no_gap
closed_gap (token.Symbol symbol.Equals) = blank_gap
closed_gap (token.Symbol symbol.EqualsEquals) = blank_gap
closed_gap (token.Symbol symbol.NotEquals) = blank_gap
closed_gap (token.Symbol symbol.Less) = blank_gap
closed_gap (token.Symbol symbol.LessEquals) = blank_gap
closed_gap (token.Symbol symbol.Greater) = blank_gap
closed_gap (token.Symbol symbol.GreaterEquals) = blank_gap
closed_gap (token.Name x) = blank_gap
closed_gap token.LongName = blank_gap
closed_gap (token.Number n) = blank_gap
closed_gap (token.Type t) = blank_gap
closed_gap (token.Word v) = blank_gap

chosen_gap : (operand : Bool) → IsGap (if operand then codes " " else [])
chosen_gap true = blank_gap
chosen_gap false = no_gap

typed_gap : (operand : Bool) (u : Token) → IsGap (gap_typed operand u)
typed_gap operand (token.Symbol symbol.Plus) = blank_gap
typed_gap operand (token.Symbol symbol.Minus) = blank_gap
typed_gap operand (token.Symbol symbol.Star) = blank_gap
typed_gap operand (token.Symbol symbol.Slash) = blank_gap
typed_gap operand (token.Symbol symbol.Percent) = blank_gap
typed_gap operand (token.Symbol symbol.LeftParen) = chosen_gap operand
typed_gap operand (token.Symbol symbol.RightParen) = no_gap
typed_gap operand (token.Symbol symbol.LeftBracket) = blank_gap
typed_gap operand (token.Symbol symbol.RightBracket) = no_gap
typed_gap operand (token.Symbol symbol.Comma) = no_gap
typed_gap operand (token.Symbol symbol.Semicolon) = no_gap
typed_gap operand (token.Symbol symbol.Dot) = blank_gap
typed_gap operand (token.Symbol symbol.DotDot) = no_gap
typed_gap operand (token.Symbol symbol.Equals) = blank_gap
typed_gap operand (token.Symbol symbol.EqualsEquals) = blank_gap
typed_gap operand (token.Symbol symbol.NotEquals) = blank_gap
typed_gap operand (token.Symbol symbol.Less) = blank_gap
typed_gap operand (token.Symbol symbol.LessEquals) = blank_gap
typed_gap operand (token.Symbol symbol.Greater) = blank_gap
typed_gap operand (token.Symbol symbol.GreaterEquals) = blank_gap
typed_gap operand (token.Name x) = blank_gap
typed_gap operand token.LongName = blank_gap
typed_gap operand (token.Number n) = blank_gap
typed_gap operand (token.Type t) = blank_gap
typed_gap operand (token.Word v) = blank_gap

worded_gap : (w : Word) (u : Token) → IsGap (gap_worded w u)
worded_gap word.Pipeline u = before_gap u
worded_gap word.Input u = before_gap u
worded_gap word.Func u = before_gap u
worded_gap word.Update u = before_gap u
worded_gap word.Over u = blank_gap
worded_gap word.Output u = before_gap u
worded_gap word.Min u = before_gap u
worded_gap word.Max u = before_gap u
worded_gap word.Clamp u = before_gap u
worded_gap word.Select u = before_gap u
worded_gap word.Not u = before_gap u
worded_gap word.All u = before_gap u
worded_gap word.Any u = before_gap u

stated_gap : (u : Token) → IsGap (gap_stated u)
stated_gap (token.Word word.Pipeline) = line_gap
stated_gap (token.Word word.Input) = line_gap
stated_gap (token.Word word.Func) = line_gap
stated_gap (token.Word word.Update) = indent_gap
stated_gap (token.Word word.Over) = line_gap
stated_gap (token.Word word.Output) = line_gap
stated_gap (token.Word word.Min) = line_gap
stated_gap (token.Word word.Max) = line_gap
stated_gap (token.Word word.Clamp) = line_gap
stated_gap (token.Word word.Select) = line_gap
stated_gap (token.Word word.Not) = line_gap
stated_gap (token.Word word.All) = line_gap
stated_gap (token.Word word.Any) = line_gap
stated_gap (token.Name x) = line_gap
stated_gap token.LongName = line_gap
stated_gap (token.Number n) = line_gap
stated_gap (token.Type t) = line_gap
stated_gap (token.Symbol s) = line_gap

behind_gap : (operand : Bool) (s : Symbol) (u : Token) → IsGap (gap_behind operand s u)
behind_gap operand symbol.Plus u = blank_gap
behind_gap operand symbol.Minus u = chosen_gap operand
behind_gap operand symbol.Star u = blank_gap
behind_gap operand symbol.Slash u = blank_gap
behind_gap operand symbol.Percent u = blank_gap
behind_gap operand symbol.LeftParen u = no_gap
behind_gap operand symbol.RightParen u = closed_gap u
behind_gap operand symbol.LeftBracket u = no_gap
behind_gap operand symbol.RightBracket u = before_gap u
behind_gap operand symbol.Comma u = blank_gap
behind_gap operand symbol.Semicolon u = stated_gap u
behind_gap operand symbol.Dot u = blank_gap
behind_gap operand symbol.DotDot u = no_gap
behind_gap operand symbol.Equals u = blank_gap
behind_gap operand symbol.EqualsEquals u = blank_gap
behind_gap operand symbol.NotEquals u = blank_gap
behind_gap operand symbol.Less u = blank_gap
behind_gap operand symbol.LessEquals u = blank_gap
behind_gap operand symbol.Greater u = blank_gap
behind_gap operand symbol.GreaterEquals u = blank_gap

between_gap : (operand : Bool) (t u : Token) → IsGap (gap_between operand t u)
between_gap operand (token.Symbol s) u = behind_gap operand s u
between_gap operand (token.Type t) u = typed_gap operand u
between_gap operand (token.Name x) u = before_gap u
between_gap operand token.LongName u = before_gap u
between_gap operand (token.Number n) u = before_gap u
between_gap operand (token.Word v) u = worded_gap v u

stops_before : (u : Token) (rest : List ℕ) → Stops is_word_byte (gap_before u ++ (token_text u ++ rest))
stops_before (token.Symbol symbol.Plus) rest = refl
stops_before (token.Symbol symbol.Minus) rest = refl
stops_before (token.Symbol symbol.Star) rest = refl
stops_before (token.Symbol symbol.Slash) rest = refl
stops_before (token.Symbol symbol.Percent) rest = refl
stops_before (token.Symbol symbol.LeftParen) rest = refl
stops_before (token.Symbol symbol.RightParen) rest = refl
stops_before (token.Symbol symbol.LeftBracket) rest = refl
stops_before (token.Symbol symbol.RightBracket) rest = refl
stops_before (token.Symbol symbol.Comma) rest = refl
stops_before (token.Symbol symbol.Semicolon) rest = refl
stops_before (token.Symbol symbol.Dot) rest = refl
stops_before (token.Symbol symbol.DotDot) rest = refl
stops_before (token.Symbol symbol.Equals) rest = refl
stops_before (token.Symbol symbol.EqualsEquals) rest = refl
stops_before (token.Symbol symbol.NotEquals) rest = refl
stops_before (token.Symbol symbol.Less) rest = refl
stops_before (token.Symbol symbol.LessEquals) rest = refl
stops_before (token.Symbol symbol.Greater) rest = refl
stops_before (token.Symbol symbol.GreaterEquals) rest = refl
stops_before (token.Name x) rest = refl
stops_before token.LongName rest = refl
stops_before (token.Number n) rest = refl
stops_before (token.Type t) rest = refl
stops_before (token.Word v) rest = refl

stops_typed : (operand : Bool) (u : Token) (rest : List ℕ) → Stops is_word_byte (gap_typed operand u ++ (token_text u ++ rest))
stops_typed operand (token.Symbol symbol.Plus) rest = refl
stops_typed operand (token.Symbol symbol.Minus) rest = refl
stops_typed operand (token.Symbol symbol.Star) rest = refl
stops_typed operand (token.Symbol symbol.Slash) rest = refl
stops_typed operand (token.Symbol symbol.Percent) rest = refl
stops_typed true (token.Symbol symbol.LeftParen) rest = refl
stops_typed false (token.Symbol symbol.LeftParen) rest = refl
stops_typed operand (token.Symbol symbol.RightParen) rest = refl
stops_typed operand (token.Symbol symbol.LeftBracket) rest = refl
stops_typed operand (token.Symbol symbol.RightBracket) rest = refl
stops_typed operand (token.Symbol symbol.Comma) rest = refl
stops_typed operand (token.Symbol symbol.Semicolon) rest = refl
stops_typed operand (token.Symbol symbol.Dot) rest = refl
stops_typed operand (token.Symbol symbol.DotDot) rest = refl
stops_typed operand (token.Symbol symbol.Equals) rest = refl
stops_typed operand (token.Symbol symbol.EqualsEquals) rest = refl
stops_typed operand (token.Symbol symbol.NotEquals) rest = refl
stops_typed operand (token.Symbol symbol.Less) rest = refl
stops_typed operand (token.Symbol symbol.LessEquals) rest = refl
stops_typed operand (token.Symbol symbol.Greater) rest = refl
stops_typed operand (token.Symbol symbol.GreaterEquals) rest = refl
stops_typed operand (token.Name x) rest = refl
stops_typed operand token.LongName rest = refl
stops_typed operand (token.Number n) rest = refl
stops_typed operand (token.Type t) rest = refl
stops_typed operand (token.Word v) rest = refl

stops_worded : (w : Word) (u : Token) (rest : List ℕ) → Stops is_word_byte (gap_worded w u ++ (token_text u ++ rest))
stops_worded word.Pipeline u rest = stops_before u rest
stops_worded word.Input u rest = stops_before u rest
stops_worded word.Func u rest = stops_before u rest
stops_worded word.Update u rest = stops_before u rest
stops_worded word.Over u rest = refl
stops_worded word.Output u rest = stops_before u rest
stops_worded word.Min u rest = stops_before u rest
stops_worded word.Max u rest = stops_before u rest
stops_worded word.Clamp u rest = stops_before u rest
stops_worded word.Select u rest = stops_before u rest
stops_worded word.Not u rest = stops_before u rest
stops_worded word.All u rest = stops_before u rest
stops_worded word.Any u rest = stops_before u rest

behind_follows : (operand : Bool) (s : Symbol) (u : Token) (rest : List ℕ) → SymbolFollows s (gap_behind operand s u ++ rest)
behind_follows operand symbol.Plus u rest = tt
behind_follows operand symbol.Minus u rest = tt
behind_follows operand symbol.Star u rest = tt
behind_follows operand symbol.Slash u rest = tt
behind_follows operand symbol.Percent u rest = tt
behind_follows operand symbol.LeftParen u rest = tt
behind_follows operand symbol.RightParen u rest = tt
behind_follows operand symbol.LeftBracket u rest = tt
behind_follows operand symbol.RightBracket u rest = tt
behind_follows operand symbol.Comma u rest = tt
behind_follows operand symbol.Semicolon u rest = tt
behind_follows operand symbol.Dot u rest = inl (rest, refl)
behind_follows operand symbol.DotDot u rest = tt
behind_follows operand symbol.Equals u rest = inl (rest, refl)
behind_follows operand symbol.EqualsEquals u rest = tt
behind_follows operand symbol.NotEquals u rest = tt
behind_follows operand symbol.Less u rest = inl (rest, refl)
behind_follows operand symbol.LessEquals u rest = tt
behind_follows operand symbol.Greater u rest = inl (rest, refl)
behind_follows operand symbol.GreaterEquals u rest = tt

ended_follows : (s : Symbol) → SymbolFollows s (codes "\n")
ended_follows symbol.Plus = tt
ended_follows symbol.Minus = tt
ended_follows symbol.Star = tt
ended_follows symbol.Slash = tt
ended_follows symbol.Percent = tt
ended_follows symbol.LeftParen = tt
ended_follows symbol.RightParen = tt
ended_follows symbol.LeftBracket = tt
ended_follows symbol.RightBracket = tt
ended_follows symbol.Comma = tt
ended_follows symbol.Semicolon = tt
ended_follows symbol.Dot = inr ([], refl)
ended_follows symbol.DotDot = tt
ended_follows symbol.Equals = inr ([], refl)
ended_follows symbol.EqualsEquals = tt
ended_follows symbol.NotEquals = tt
ended_follows symbol.Less = inr ([], refl)
ended_follows symbol.LessEquals = tt
ended_follows symbol.Greater = inr ([], refl)
ended_follows symbol.GreaterEquals = tt

between_follows : (operand : Bool) (t u : Token) (rest : List ℕ) → Follows t (gap_between operand t u ++ (token_text u ++ rest))
between_follows operand (token.Symbol s) u rest = behind_follows operand s u (token_text u ++ rest)
between_follows operand (token.Type t) u rest = stops_typed operand u rest
between_follows operand (token.Name x) u rest = stops_before u rest
between_follows operand token.LongName u rest = stops_before u rest
between_follows operand (token.Number n) u rest = stops_before u rest
between_follows operand (token.Word v) u rest = stops_worded v u rest

end_follows : (t : Token) → Follows t (codes "\n")
end_follows (token.Symbol s) = ended_follows s
end_follows (token.Type t) = refl
end_follows (token.Name x) = refl
end_follows token.LongName = refl
end_follows (token.Number n) = refl
end_follows (token.Word v) = refl

after_follows : (operand next : Bool) (t : Token) (ts : List Token) → Follows t (gap_after operand t ts ++ text_of next ts)
after_follows operand next t [] = end_follows t
after_follows operand next t (u ∷ us) = between_follows (operand_before operand us) t u (gap_after next u us ++ text_of (ends_operand u) us)

after_gap : (operand next : Bool) (t : Token) (ts : List Token) → list_all has_text ts ≡ true → gap (gap_after operand t ts ++ text_of next ts) ≡ length (gap_after operand t ts)
after_gap operand next t [] h = refl
after_gap operand next t (u ∷ us) h =
    between_gap (operand_before operand us) t u (text_of next (u ∷ us)) ((reads u (both (has_text u) (list_all has_text us) h).0).lead (gap_after next u us ++ text_of (ends_operand u) us))

-- ---- all tokens

record Lexed (text : List ℕ) (at : ℕ) (ts : List Token) : Type 0 where
  lexemes : List Lexeme
  are : AreUpTo (λ (place : ℕ). length text ≤ place) text at lexemes
  same : kinds lexemes ≡ ts

lexed : (text : List ℕ) (at : ℕ) (operand : Bool) (ts : List Token) → at ≤ length text → list_all has_text ts ≡ true → drop at text ≡ text_of operand ts → Lexed text at ts
lexed text at operand [] le all is = record { lexemes = []; are = let l = ap length is in omega (arith, l, length-drop at text); same = refl }
lexed text at operand (t ∷ ts) le all is =
    let own = both (has_text t) (list_all has_text ts) all in
    let r = reads t own.0 in
    let word = token_text t in
    let blanks = gap_after operand t ts in
    let rest = text_of (ends_operand t) ts in
    let n = length word in
    let g = length blanks in
    let long : length text - at ≡ n + (g + length rest) = sym (length-drop at text) ∙ ap length is ∙ length-append word (blanks ++ rest) ∙ ap (λ m. n + m) (length-append blanks rest) in
    let behind : drop (at + n) text ≡ blanks ++ rest = sym (drop-drop n at text) ∙ ap (drop n) is ∙ drop_at word (blanks ++ rest) n refl in
    let width : gap (drop (at + n) text) ≡ g = ap gap behind ∙ after_gap operand (ends_operand t) t ts own.1 in
    let next : drop ((at + n) + g) text ≡ rest = sym (drop-drop g (at + n) text) ∙ ap (drop g) behind ∙ drop_at blanks rest g refl in
    let size : (at + n) - at ≡ n = omega arith in
    let here : token_at (drop at text) ≡ Some (t, (at + n) - at) = rw size (ap token_at is ∙ r.here (blanks ++ rest) (after_follows operand (ends_operand t) t ts)) in
    let more = lexed text ((at + n) + g) (ends_operand t) ts (omega (arith, long, le)) own.1 next in
    record {
      lexemes = lexeme t at (at + n) ∷ more.lexemes;
      are = (omega (arith, long, r.some), refl, here, omega (arith, r.some), subst (λ (m : ℕ). AreUpTo (λ (place : ℕ). length text ≤ place) text ((at + n) + m) more.lexemes) (sym width) more.are);
      same = ap (λ us. t ∷ us) more.same;
    }

pub record AreTokens (text : List ℕ) (ts : List Token) : Type 0 where
  pub lexemes : List Lexeme
  pub tokens : AreLexemes text lexemes
  pub same : kinds lexemes ≡ ts

no_gap_first : (operand : Bool) (ts : List Token) → list_all has_text ts ≡ true → gap (text_of operand ts) ≡ 0
no_gap_first operand [] all = refl
no_gap_first operand (t ∷ ts) all = (reads t (both (has_text t) (list_all has_text ts) all).0).lead (gap_after operand t ts ++ text_of (ends_operand t) ts)

-- the text of tokens that have one has these tokens
pub text_has_tokens : (ts : List Token) → list_all has_text ts ≡ true → AreTokens (text_of false ts) ts
text_has_tokens ts all =
    let text = text_of false ts in
    let found = lexed text 0 false ts (omega arith) all refl in
    record {
      lexemes = found.lexemes;
      tokens = subst (λ (n : ℕ). AreUpTo (λ (place : ℕ). length text ≤ place) text n found.lexemes) (sym (no_gap_first false ts all)) found.are;
      same = found.same;
    }
