-- A worker's number that is read digit by digit.
use Rattle.std.specs.Prelude.{◌≡◌, ◌<◌, ◌++◌, ℕ, List, [], ◌∷◌, Option, None, Some}
use Rattle.spelling.specs.Words.Spelling.{count_text}

-- the digits of the number so far, none before its first
abbrev pub digits_of : Option ℕ → List ℕ
digits_of None = []
digits_of (Some number) = count_text number

-- the number as the last of the workers, where there is one
abbrev pub with_number : List ℕ → Option ℕ → List ℕ
with_number workers None = workers
with_number workers (Some number) = workers ++ number ∷ []

-- no worker's number is spelled with these bytes in front
abbrev pub BeginsNone : List ℕ → Type 0
BeginsNone front = (worker : ℕ) (more : List ℕ) → worker < 64 → ¬ (count_text worker ≡ front ++ more)

-- the bytes spell the number of a worker
abbrev pub Spells : List ℕ → ℕ → Type 0
Spells bytes number = (number < 64) × (count_text number ≡ bytes)
