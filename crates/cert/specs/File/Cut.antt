-- Where a plan's text ends and its certificate's begins.
use Rattle.std.specs.Prelude.{◌≡◌, ◌⊎◌, ◌≤◌, ℕ, List, [], ◌∷◌, ◌++◌, length, codes}
use Rattle.spelling.specs.Lines.Lines.{lines_text}

-- the line `cert`, with its line feed
abbrev pub certificate_head : List ℕ
certificate_head = codes "cert\n"

-- a line begins behind this
abbrev pub EndsLine : List ℕ → Type 0
EndsLine front = (front ≡ []) ⊎ ((bytes : List ℕ) × (front ≡ bytes ++ 10 ∷ []))

-- the text before the first line `cert`, and the rest from that line on, which is nothing where there is no such line
pub record IsCut (text front back : List ℕ) : Type 0 where
  pub spelled : text ≡ front ++ back
  pub begins : (back ≡ []) ⊎ (EndsLine front × ((rest : List ℕ) × (back ≡ certificate_head ++ rest)))
  pub first : (lines : List (List ℕ)) (rest : List ℕ) → text ≡ lines_text lines ++ (certificate_head ++ rest) → length front ≤ length (lines_text lines)
