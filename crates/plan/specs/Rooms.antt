-- Where the points of a function lie in a buffer.
use Rattle.std.specs.Prelude.{ℕ, ◌==◌, ◌&&◌, nat_lt, Bool, true, false, if◌then◌else◌, List, [], ◌∷◌, Option, Some, None, ℤ, pos, negsuc, ◌-ℤ◌}
use Rattle.std.specs.Int.{int_rem_euclid}
use Rattle.plan.specs.declared.stmt.Places.{Places}
use Rattle.plan.specs.declared.stmt.Places.TheVariants.{From, Folded}
use Rattle.plan.specs.Symbols.{Symbols, form_value}

-- the places of one coordinate: so many from an origin on, or so many used again and again
pub data Room : Type 0 where
  Straight : (origin : ℤ) (count : ℕ) → Room
  Wrapped : (count : ℕ) → Room

abbrev pub room : Symbols → Places → Room
room s (From l n) = Straight (form_value l s) n
room s (Folded n) = Wrapped n

-- the number, if it is one below n
abbrev pub below : ℕ → ℤ → Option ℕ
below n (pos k) = if nat_lt k n then Some k else None
below n (negsuc k) = None

-- where a coordinate lies
abbrev pub seat : Room → ℤ → Option ℕ
seat (Straight origin n) z = below n (z -ℤ origin)
seat (Wrapped n) z = below n (int_rem_euclid z (pos n))

-- a first part and the rest, where there are both
abbrev pub joined : Option ℕ → Option (List ℕ) → Option (List ℕ)
joined None _ = None
joined (Some k) None = None
joined (Some k) (Some ks) = Some (k ∷ ks)

-- where a point lies, unless that is outside the buffer
abbrev pub place : List Room → List ℤ → Option (List ℕ)
place [] [] = Some []
place [] (z ∷ zs) = None
place (r ∷ rs) [] = None
place (r ∷ rs) (z ∷ zs) = joined (seat r z) (place rs zs)

abbrev pub same_place : List ℕ → List ℕ → Bool
same_place [] [] = true
same_place [] (k ∷ ks) = false
same_place (j ∷ js) [] = false
same_place (j ∷ js) (k ∷ ks) = (j == k) && same_place js ks
