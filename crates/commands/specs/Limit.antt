-- Which limit a text says.
use Rattle.std.specs.Prelude.{◌^◌, ◌&&◌, ℕ, List, Option, None, Some, if◌then◌else◌, nat_lt}
use Rattle.std.specs.Str.{bytes_eq}
use Rattle.std.specs.Str.Parse.{digits_value}
use Rattle.spelling.specs.Words.Spelling.{count_text}

-- the number, where the text is its digits and it is below 2^64
abbrev pub limit_of : ℕ → List ℕ → Option ℕ
limit_of n text = if nat_lt n (2 ^ 64) && bytes_eq (count_text n) text then Some n else None

-- the number below 2^64 whose digits are the text
unfoldable pub limit_spelled : List ℕ → Option ℕ
limit_spelled text = limit_of (digits_value 10 text) text

-- the number, where the text is its digits and it is below 2^32
abbrev pub side_of : ℕ → List ℕ → Option ℕ
side_of n text = if nat_lt n (2 ^ 32) && bytes_eq (count_text n) text then Some n else None

-- the number below 2^32 whose digits are the text
unfoldable pub side_spelled : List ℕ → Option ℕ
side_spelled text = side_of (digits_value 10 text) text
