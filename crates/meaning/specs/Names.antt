-- Names and the values bound to them.
use Rattle.std.specs.Prelude.{ℕ, List, ◌∷◌, Bool, true, false, nat_eq, ℤ, pos}
use Rattle.std.specs.Ordering.{int_eq}
use Rattle.std.specs.List.{list_any}
use Rattle.std.specs.Cmp.Lexicographic.{pointwise}

abbrev pub same_name : List ℕ → List ℕ → Bool
same_name = pointwise nat_eq

abbrev pub same_point : List ℤ → List ℤ → Bool
same_point = pointwise int_eq

-- whether the name is one of these
abbrev pub is_among : List (List ℕ) → List ℕ → Bool
is_among names name = list_any (λ x. same_name x name) names

-- the first value bound to a name, and 0 where there is none
abbrev pub bound : List (List ℕ) → List ℤ → List ℕ → ℤ
bound (x ∷ xs) (z ∷ zs) name = elim (same_name x name) [ true ↦ z | false ↦ bound xs zs name ]
bound _ _ name = pos 0
