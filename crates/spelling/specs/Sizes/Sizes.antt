-- Numbers that may pass 32 bits: extents, counts of places, and numbers of lines, groups and definitions. Their texts are
-- those of counts.
use Rattle.std.specs.Prelude.{ℕ, ◌^◌, Bool, nat_lt, List}
use Rattle.std.specs.List.{list_all}
use Rattle.spelling.specs.Words.Reading.{digits_from, bracketed_from}

-- numbers of 64 bits with a sign that are not negative
abbrev pub fits_size : ℕ → Bool
fits_size n = nat_lt n (2 ^ 63)

abbrev pub fits_sizes : List ℕ → Bool
fits_sizes sizes = list_all fits_size sizes

-- the number that the digits at the front are, or 0 where it does not fit, and what follows the digits
unfoldable pub size_from : List ℕ → ℕ × List ℕ
size_from text = digits_from (2 ^ 63) text

-- sizes by commas, in brackets
abbrev pub sizes_from : List ℕ → List ℕ × List ℕ
sizes_from text = bracketed_from 44 size_from text
