-- What is written is read again, and has no line feed.
use Rattle.std.specs.Prelude.{◌≡◌, ℕ, Bool, true, not, ◌==◌, List, ◌++◌}
use Rattle.std.specs.List.{list_all}
use Rattle.spelling.specs.Words.Reading.{Stops}

-- the text of each value that fits, before a byte that does not go on, is read as that value, and what follows it is left
abbrev pub ReadsAgain : {X : Type 0} → (X → Bool) → (ℕ → Bool) → (X → List ℕ) → (List ℕ → X × List ℕ) → Type 0
ReadsAgain {X} fits goes_on text read = (x : X) (rest : List ℕ) → fits x ≡ true → Stops goes_on rest → read (text x ++ rest) ≡ (x, rest)

-- no line feed stands in a text
abbrev pub is_feedless : List ℕ → Bool
is_feedless bytes = list_all (λ b. not (b == 10)) bytes

-- no value that fits has a line feed in its text
abbrev pub IsFeedless : {X : Type 0} → (X → Bool) → (X → List ℕ) → Type 0
IsFeedless {X} fits text = (x : X) → fits x ≡ true → is_feedless (text x) ≡ true
