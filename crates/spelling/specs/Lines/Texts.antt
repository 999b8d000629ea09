-- Values that are written as lines, and the texts that are none of them.
use Rattle.std.specs.Prelude.{◌≡◌, ℕ, ◌+◌, Bool, true, not, ◌||◌, List, [], ◌∷◌, ◌++◌, length}
use Rattle.spelling.specs.declared.lines.error.TextError.{TextError}
use Rattle.spelling.specs.declared.lines.error.TextError.TheVariants as error
use Rattle.spelling.specs.Lines.Lines.{is_line, lines_text, is_within, are_within}

-- How values are written: the lines of each, which values have a text, and which lines, behind others, pass a limit of what they say.
pub record Notation (V : Type 0) : Type 0 where
  pub lines : V → List (List ℕ)
  pub fits : V → Bool
  pub is_large : List (List ℕ) → List ℕ → Bool

-- the text is the value's, where its first line has that number
pub record IsTextOf {V : Type 0} (notation : Notation V) (first : ℕ) (text : List ℕ) (value : V) : Type 0 where
  pub spelled : text ≡ lines_text (notation.lines value)
  pub fit : notation.fits value ≡ true
  pub within : are_within first (notation.lines value) ≡ true

-- some value's lines begin with these
pub record Begins {V : Type 0} (notation : Notation V) (first : ℕ) (front : List (List ℕ)) : Type 0 where
  pub value : V
  pub more : List (List ℕ)
  pub fit : notation.fits value ≡ true
  pub begun : notation.lines value ≡ front ++ more
  pub within : are_within first front ≡ true

-- behind the lines in front stands a line with its line feed, and it passes a limit
pub record PassesLimit {V : Type 0} (notation : Notation V) (number : ℕ) (front : List (List ℕ)) (text : List ℕ) : Type 0 where
  pub line : List ℕ
  pub after : List ℕ
  pub spelled : text ≡ line ++ 10 ∷ after
  pub one : is_line line ≡ true
  pub passed : (not (is_within number line) || notation.is_large front line) ≡ true

-- The lines before the one of that number begin some value's text, and those up to it begin none and are no value's.
pub record IsBadLine {V : Type 0} (notation : Notation V) (first : ℕ) (text : List ℕ) (number : ℕ) : Type 0 where
  pub front : List (List ℕ)
  pub rest : List ℕ
  pub spelled : text ≡ lines_text front ++ rest
  pub counted : number ≡ first + length front
  pub begins : Begins notation first front
  pub no_line : (line after : List ℕ) → rest ≡ line ++ 10 ∷ after → Begins notation first (front ++ line ∷ []) → ⊥
  pub no_end : rest ≡ [] → (value : V) → notation.fits value ≡ true → notation.lines value ≡ front → ⊥

-- the line that is named is the first bad one, and its code is that of a limit where it passes one
abbrev pub IsRefused : {V : Type 0} → Notation V → ℕ → List ℕ → TextError → Type 0
IsRefused notation first text error.Memory = Unit {0}
IsRefused notation first text (error.Form n) = (bad : IsBadLine notation first text n) × (PassesLimit notation n bad.front bad.rest → ⊥)
IsRefused notation first text (error.Limit n) = (bad : IsBadLine notation first text n) × PassesLimit notation n bad.front bad.rest

-- each text has one value at most
abbrev pub OneValue : {V : Type 0} → Notation V → Type 0
OneValue {V} notation = (first : ℕ) (text : List ℕ) (a b : V) → IsTextOf notation first text a → IsTextOf notation first text b → a ≡ b

-- no line of a value's text is bad
abbrev pub NeverBad : {V : Type 0} → Notation V → Type 0
NeverBad {V} notation = (first : ℕ) (text : List ℕ) (value : V) (number : ℕ) → IsTextOf notation first text value → IsBadLine notation first text number → ⊥
