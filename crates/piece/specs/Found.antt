-- Values by the numbers of their cells, as far as they are known.
use Rattle.std.specs.Prelude.{ℕ, ℤ, pos, List, ◌∷◌, Option, Some, None, ◌==◌, if◌then◌else◌}

-- a value that may be known, and 0 where it is not
abbrev pub number_or_zero : Option ℤ → ℤ
number_or_zero None = pos 0
number_or_zero (Some v) = v

-- what is known first, or else what is known next
abbrev pub or_else : Option ℤ → Option ℤ → Option ℤ
or_else None next = next
or_else (Some v) next = Some v

-- this value for this number, and none for any other
abbrev pub value_for : Option ℕ → ℕ → ℤ → Option ℤ
value_for None n v = None
value_for (Some m) n v = if m == n then Some v else None

-- the value at the first place of these that has the number, if one has it
abbrev pub first_found : ℕ → List ℕ → List ℤ → Option ℤ
first_found n (m ∷ ms) (v ∷ vs) = if m == n then Some v else first_found n ms vs
first_found n _ _ = None
