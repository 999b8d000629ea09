-- The table of a plan's costs, as text.
use Rattle.std.specs.Prelude.{ℕ, ◌-◌, List, [], ◌∷◌, ◌++◌, length, replicate, flat_map, codes, decimal}
use Rattle.report.specs.Costs.{Row}

-- spaces that make a text so wide
abbrev pub gap : ℕ → List ℕ → List ℕ
gap width text = replicate (width - length text) 32

-- the text, and spaces behind it
abbrev pub left : ℕ → List ℕ → List ℕ
left width text = text ++ gap width text

-- spaces, and the text behind them
abbrev pub right : ℕ → List ℕ → List ℕ
right width text = gap width text ++ text

-- a line of five columns: the first left in 16 places, the others right in 12
abbrev pub line : List ℕ → List ℕ → List ℕ → List ℕ → List ℕ → List ℕ
line a b c d e = left 16 a ++ right 12 b ++ right 12 c ++ right 12 d ++ right 12 e ++ 10 ∷ []

abbrev pub heading : List ℕ
heading = line (codes "function") (codes "stores") (codes "private") (codes "fetched") (codes "pieces")

abbrev pub row_line : Row → List ℕ
row_line r = line r.name (decimal r.stores) (decimal r.private) (decimal r.fetched) (decimal r.pieces)

abbrev pub table : List Row → List ℕ
table rows = heading ++ flat_map row_line rows
