-- How many workers a text says.
use Rattle.std.specs.Prelude.{ℕ, List, Option, find}
use Rattle.std.specs.List.{range_with_len}
use Rattle.std.specs.Str.{bytes_eq}
use Rattle.spelling.specs.Words.Spelling.{count_text}

-- the number from 1 to 64 whose digits are the text
unfoldable pub workers_spelled : List ℕ → Option ℕ
workers_spelled text = find (λ n. bytes_eq (count_text n) text) (range_with_len 1 64)
