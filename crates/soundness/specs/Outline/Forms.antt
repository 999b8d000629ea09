-- Tests of the forms of a line: their symbols, their limits, and how many there are.
use Rattle.std.specs.Prelude.{ℕ, ◌==◌, nat_le, Bool, ◌&&◌, List, length}
use Rattle.std.specs.List.{list_all, list_any, range_with_len}
use Rattle.lin.specs.Forms.{Form, is_within_limits}
use Rattle.lin.specs.declared.span.Span1.{Span1}

-- all symbols of the form are among these
abbrev pub is_over : List ℕ → Form → Bool
is_over symbols f = list_all (λ t. list_any (λ s. s == t.symbol) symbols) f.terms

-- the same of forms, and of the forms of spans
abbrev pub are_over : List ℕ → List Form → Bool
are_over symbols = list_all (is_over symbols)

abbrev pub spans_are_over : List ℕ → List Span1 → Bool
spans_are_over symbols = list_all (λ x. are_over symbols x.lower && are_over symbols x.upper)

-- the forms are within the limits of linear forms
abbrev pub are_within_limits : List Form → Bool
are_within_limits = list_all is_within_limits

abbrev pub spans_are_within_limits : List Span1 → Bool
spans_are_within_limits = list_all (λ x. are_within_limits x.lower && are_within_limits x.upper)

-- one to four forms
abbrev pub is_listed : List Form → Bool
is_listed ls = nat_le 1 (length ls) && nat_le (length ls) 4

-- one to four forms at each end
abbrev pub have_ends : List Span1 → Bool
have_ends = list_all (λ x. is_listed x.lower && is_listed x.upper)

-- the symbols of a grid of so many numbers
abbrev pub grid_symbols : ℕ → List ℕ
grid_symbols count = range_with_len 0 count
