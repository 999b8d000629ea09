-- The words of a text by what stands in front.
use Rattle.std.proofs.Common.{◌≡◌, ℕ, ◌<◌, Bool, true, false, not, List, [], ◌∷◌, ◌++◌, length, filter, refl, ap, ◌∙◌, append-nil, arith}
use Rattle.std.specs.List.{list_all}
use Rattle.std.specs.Prelude.{if◌then◌else◌}
use Rattle.std.proofs.lemmas.Bool.Decides.{nat_tests}
use Rattle.std.proofs.lemmas.Fmt.{decimal_nonempty}
use Rattle.tree.specs.Token.Spelling.{is_digit}
use Rattle.spelling.specs.Words.Spelling.{count_text}
use Rattle.spelling.proofs.Runs.{both, decimal_passes}
use Rattle.commands.specs.Order.Order.{is_white, in_front, pieces, is_word, words}

-- no white space
abbrev pub is_dark : List ℕ → Bool
is_dark bytes = list_all (λ b. not (is_white b)) bytes

-- a first piece and others
abbrev pub IsCut : List (List ℕ) → Type 0
IsCut parts = (first : List ℕ) × (others : List (List ℕ)) × (parts ≡ first ∷ others)

either_cut : (white : Bool) (b : ℕ) (w : List ℕ) (ws : List (List ℕ)) → IsCut (if white then [] ∷ w ∷ ws else (b ∷ w) ∷ ws)
either_cut true b w ws = ([], w ∷ ws, refl)
either_cut false b w ws = (b ∷ w, ws, refl)

in_front_cut : (b : ℕ) (parts : List (List ℕ)) → IsCut parts → IsCut (in_front b parts)
in_front_cut b [] cut = absurd cc
in_front_cut b (w ∷ ws) cut = either_cut (is_white b) b w ws

pub pieces_cut : (text : List ℕ) → IsCut (pieces text)
pieces_cut [] = ([], [], refl)
pieces_cut (b ∷ text) = in_front_cut b (pieces text) (pieces_cut text)

not_white : (b : ℕ) → not (is_white b) ≡ true → is_white b ≡ false
not_white b h = grind (arith, nat_tests)

-- bytes that are no white space belong to the first piece
pieces_front : (front rest w : List ℕ) (ws : List (List ℕ)) → is_dark front ≡ true → pieces rest ≡ w ∷ ws → pieces (front ++ rest) ≡ (front ++ w) ∷ ws
pieces_front [] rest w ws dark cut = cut
pieces_front (b ∷ front) rest w ws dark cut =
    let one = both (not (is_white b)) (is_dark front) dark in
    let behind : pieces (front ++ rest) ≡ (front ++ w) ∷ ws = pieces_front front rest w ws one.1 cut in
    ap (in_front b) behind ∙ rw (not_white b one.0) refl

pieces_white : (b : ℕ) (rest : List ℕ) → is_white b ≡ true → pieces (b ∷ rest) ≡ [] ∷ pieces rest
pieces_white b rest white =
    let cut = pieces_cut rest in
    ap (in_front b) cut.2 ∙ rw (white, cut.2) refl

pub words_white : (b : ℕ) (rest : List ℕ) → is_white b ≡ true → words (b ∷ rest) ≡ words rest
words_white b rest white = ap (λ parts. filter is_word parts) (pieces_white b rest white)

-- a word in front of white space, and at the end
pub word_white : (front : List ℕ) (b : ℕ) (rest : List ℕ) → 0 < length front → is_dark front ≡ true → is_white b ≡ true → words (front ++ (b ∷ rest)) ≡ front ∷ words rest
word_white [] b rest some dark white = absurd (omega arith)
word_white (c ∷ front) b rest some dark white =
    let cut : pieces ((c ∷ front) ++ (b ∷ rest)) ≡ ((c ∷ front) ++ []) ∷ pieces rest = pieces_front (c ∷ front) (b ∷ rest) [] (pieces rest) dark (pieces_white b rest white) in
    ap (λ parts. filter is_word parts) cut ∙ rw (append-nil front) refl

pub word_last : (front : List ℕ) → 0 < length front → is_dark front ≡ true → words (front ++ []) ≡ front ∷ []
word_last [] some dark = absurd (omega arith)
word_last (c ∷ front) some dark =
    let cut : pieces ((c ∷ front) ++ []) ≡ ((c ∷ front) ++ []) ∷ [] = pieces_front (c ∷ front) [] [] [] dark refl in
    ap (λ parts. filter is_word parts) cut ∙ rw (append-nil front) refl

-- the first word begins with what stands in front
pub word_begins : (front rest : List ℕ) → 0 < length front → is_dark front ≡ true → (more : List ℕ) × (others : List (List ℕ)) × (words (front ++ rest) ≡ (front ++ more) ∷ others)
word_begins [] rest some dark = absurd (omega arith)
word_begins (c ∷ front) rest some dark =
    let cut = pieces_cut rest in
    (cut.0, filter is_word cut.1, ap (λ parts. filter is_word parts) (pieces_front (c ∷ front) rest cut.0 cut.1 dark cut.2))

digit_dark : (b : ℕ) → is_digit b ≡ true → not (is_white b) ≡ true
digit_dark b h = grind (arith, nat_tests)

digits_dark : (bytes : List ℕ) → list_all is_digit bytes ≡ true → is_dark bytes ≡ true
digits_dark [] all = refl
digits_dark (b ∷ bytes) all =
    let one = both (is_digit b) (list_all is_digit bytes) all in
    rw (digit_dark b one.0, digits_dark bytes one.1) refl

pub number_dark : (n : ℕ) → n < 64 → is_dark (count_text n) ≡ true
number_dark n lt = digits_dark (count_text n) (decimal_passes n (omega arith))

pub number_some : (n : ℕ) → n < 64 → 0 < length (count_text n)
number_some n lt = decimal_nonempty n (omega arith)
