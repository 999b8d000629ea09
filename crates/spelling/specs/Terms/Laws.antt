-- What is written is read again, and is plain text.
use Rattle.std.specs.Prelude.{◌≡◌, ℕ, Bool, true, ◌&&◌, nat_lt, List, ◌++◌}
use Rattle.std.specs.List.{list_all}
use Rattle.tree.specs.Term.{Term}
use Rattle.spelling.specs.Words.Reading.{Stops}
use Rattle.spelling.specs.Terms.Spelling.{term_text}
use Rattle.spelling.specs.Terms.Fitting.{fits_term}
use Rattle.spelling.specs.Terms.Reading.{is_term_byte, term_from}

-- The text of an expression that fits, before a byte that goes on with no name, literal or call, is read as that
-- expression, and what follows it is left.
abbrev pub TermIsReadAgain : Type 0
TermIsReadAgain = (t : Term) (rest : List ℕ) → fits_term t ≡ true → Stops is_term_byte rest → term_from (term_text t ++ rest) ≡ (t, rest)

-- a sign, digit or letter of ASCII: no blank and no line feed
abbrev pub is_plain : ℕ → Bool
is_plain b = nat_lt 32 b && nat_lt b 127

abbrev pub TermIsPlain : Type 0
TermIsPlain = (t : Term) → fits_term t ≡ true → list_all is_plain (term_text t) ≡ true
