-- Texts of orders: which worker makes each step.
use Rattle.std.specs.Prelude.{◌≡◌, ◌==◌, ◌||◌, ◌<◌, ◌≤◌, ◌^◌, ℕ, Bool, if◌then◌else◌, List, [], ◌∷◌, All, filter, length, map, true, false}
use Rattle.spelling.specs.Words.Spelling.{count_text}

-- blank, tab, line feed and carriage return
abbrev pub is_white : ℕ → Bool
is_white b = (b == 32) || ((b == 9) || ((b == 10) || (b == 13)))

-- a byte in front of the pieces of a text: white space begins another piece, and any other byte belongs to the first
abbrev pub in_front : ℕ → List (List ℕ) → List (List ℕ)
in_front b [] = []
in_front b (w ∷ ws) = if is_white b then [] ∷ w ∷ ws else (b ∷ w) ∷ ws

-- what stands between white space
abbrev pub pieces : List ℕ → List (List ℕ)
pieces [] = [] ∷ []
pieces (b ∷ bs) = in_front b (pieces bs)

abbrev pub is_word : List ℕ → Bool
is_word [] = false
is_word (b ∷ bs) = true

abbrev pub words : List ℕ → List (List ℕ)
words text = filter is_word (pieces text)

-- the text's words are these workers' numbers, from 0 to 63, at most 2^24 of them
pub record IsOrder (text workers : List ℕ) : Type 0 where
  pub words : words text ≡ map count_text workers
  pub known : All (λ worker. worker < 64) workers
  pub few : length workers ≤ 2 ^ 24

-- the text is no order
abbrev pub IsNoOrder : List ℕ → Type 0
IsNoOrder text = (workers : List ℕ) → ¬ IsOrder text workers
