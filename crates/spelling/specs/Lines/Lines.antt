-- Texts of lines, each with a line feed behind it.
use Rattle.std.specs.Prelude.{ℕ, ◌+◌, Bool, true, not, ◌&&◌, ◌==◌, nat_le, List, [], ◌∷◌, ◌++◌, length}
use Rattle.std.specs.List.{flat_map, list_all}

abbrev pub is_line_feed : ℕ → Bool
is_line_feed b = b == 10

-- whether the bytes are those of one line, without its line feed
abbrev pub is_line : List ℕ → Bool
is_line bytes = list_all (λ b. not (is_line_feed b)) bytes

abbrev pub whole_line : List ℕ → List ℕ
whole_line line = line ++ 10 ∷ []

abbrev pub lines_text : List (List ℕ) → List ℕ
lines_text lines = flat_map whole_line lines

-- a file has at most 65,536 lines of at most 65,536 bytes
abbrev pub is_within : ℕ → List ℕ → Bool
is_within number line = nat_le number 65536 && nat_le (length line) 65536

-- lines of which the first has that number
abbrev pub are_within : ℕ → List (List ℕ) → Bool
are_within number [] = true
are_within number (l ∷ ls) = is_within number l && are_within (number + 1) ls
