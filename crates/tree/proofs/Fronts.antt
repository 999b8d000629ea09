-- What stands at the front of a text.
use Rattle.std.proofs.Common.{◌≡◌, get_or, ℕ, ◌≤◌, ◌<◌, Bool, true, false, cond, List, [], ◌∷◌, length, take, Option, Some, None, refl, sym, ap, ◌∙◌, arith}
use Rattle.std.specs.Prelude.{find, nat_eq, nat_lt, IfSome}
use Rattle.std.specs.List.{prefix_len, starts_with, AllPass}
use Rattle.std.specs.Str.{IsAscii}
use Rattle.std.proofs.lemmas.Bool.Decides.{nat_tests}
use Rattle.std.proofs.lemmas.List.{get_or-take, get_or_past, length-take}
use Rattle.std.proofs.lemmas.List.Sums.{prefix_len_is, prefix_len_passes}
use Rattle.std.proofs.lemmas.List.Folds.{length-prefix_len}
use Rattle.std.proofs.lemmas.Slice.Eq.{bytes_eq-Decides}
use Rattle.tree.specs.declared.token.token.Symbol.{Symbol}
use Rattle.tree.specs.declared.token.token.Symbol.TheVariants as symbol
use Rattle.tree.specs.Token.Spelling.{symbol_text, is_word_byte}
use Rattle.tree.specs.Token.Lexical.{symbol_at, symbols}

-- the longest front that passes passes whole
pub whole_front : (p : ℕ → Bool) (xs : List ℕ) → prefix_len p (take (prefix_len p xs) xs) ≡ length (take (prefix_len p xs) xs)
whole_front p xs =
    let n = prefix_len p xs in
    let len : length (take n xs) ≡ n = length-prefix_len p xs in
    let passes : prefix_len p (take n xs) ≡ n = prefix_len_is p (take n xs) n 0 (omega arith)
    (λ k lt. ap p (get_or-take n xs k 0 lt) ∙ prefix_len_passes p xs k 0 lt) (λ lt. absurd (omega arith)) in
    passes ∙ sym len

found_passes_at : {X : Type 0} (p : X → Bool) (x : X) (b : Bool) (rest : Option X) → p x ≡ b → IfSome rest (λ y. p y ≡ true) → IfSome (cond b (Some x) rest) (λ y. p y ≡ true)
found_passes_at p x true rest e h = e
found_passes_at p x false rest e h = h

-- what is found passes
pub found_passes : {X : Type 0} (p : X → Bool) (xs : List X) → IfSome (find p xs) (λ y. p y ≡ true)
found_passes p [] = tt
found_passes p (x ∷ xs) = found_passes_at p x (p x) (find p xs) refl (found_passes p xs)

fits : (bytes needle : List ℕ) → starts_with nat_eq bytes needle ≡ true → length needle ≤ length bytes
fits bytes needle h =
    let same = (bytes_eq-Decides needle (take (length needle) bytes)).0 h in
    let long : length needle ≡ length (take (length needle) bytes) = ap length same in
    omega (arith, long, length-take (length needle) bytes)

symbol_fits_at : (bytes : List ℕ) (r : Option Symbol) → IfSome r (λ s. starts_with nat_eq bytes (symbol_text s) ≡ true) → IfSome r (λ s. length (symbol_text s) ≤ length bytes)
symbol_fits_at bytes None h = tt
symbol_fits_at bytes (Some s) h = fits bytes (symbol_text s) h

-- the symbol at the front is within the text
pub symbol_fits : (bytes : List ℕ) → IfSome (symbol_at bytes) (λ s. length (symbol_text s) ≤ length bytes)
unfolding symbol_at
symbol_fits bytes = symbol_fits_at bytes (find (λ s. starts_with nat_eq bytes (symbol_text s)) symbols) (found_passes (λ s. starts_with nat_eq bytes (symbol_text s)) symbols)

pub some_text : (s : Symbol) → 0 < length (symbol_text s)
some_text symbol.DotDot = omega arith
some_text symbol.EqualsEquals = omega arith
some_text symbol.NotEquals = omega arith
some_text symbol.LessEquals = omega arith
some_text symbol.GreaterEquals = omega arith
some_text symbol.Plus = omega arith
some_text symbol.Minus = omega arith
some_text symbol.Star = omega arith
some_text symbol.Slash = omega arith
some_text symbol.Percent = omega arith
some_text symbol.LeftParen = omega arith
some_text symbol.RightParen = omega arith
some_text symbol.LeftBracket = omega arith
some_text symbol.RightBracket = omega arith
some_text symbol.Comma = omega arith
some_text symbol.Semicolon = omega arith
some_text symbol.Dot = omega arith
some_text symbol.Equals = omega arith
some_text symbol.Less = omega arith
some_text symbol.Greater = omega arith

word_byte_is_ascii : (b : ℕ) → is_word_byte b ≡ true → b < 128
word_byte_is_ascii b h = grind (arith, nat_tests)

ascii_at : (text : List ℕ) (i : ℕ) (b : Bool) → AllPass is_word_byte text → nat_lt i (length text) ≡ b → get_or text i 0 < 128
ascii_at text i true h e = let lt : i < length text = grind (arith, nat_tests) in word_byte_is_ascii (get_or text i 0) (h i 0 lt)
ascii_at text i false h e = let le : length text ≤ i = grind (arith, nat_tests) in omega (arith, get_or_past text i 0 le)

-- words are ASCII
pub word_is_ascii : (text : List ℕ) → AllPass is_word_byte text → IsAscii text
word_is_ascii text h i = ascii_at text i (nat_lt i (length text)) h refl

-- each byte of the longest front that passes passes
pub front_passes : (p : ℕ → Bool) (xs : List ℕ) → AllPass p (take (prefix_len p xs) xs)
front_passes p xs k d lt =
    let n = prefix_len p xs in
    let len : length (take n xs) ≡ n = length-prefix_len p xs in
    ap p (get_or-take n xs k d (omega arith)) ∙ prefix_len_passes p xs k d (omega arith)
