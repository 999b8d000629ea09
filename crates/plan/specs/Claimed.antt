-- Loads by claim, which stand in a plan as calls of the name `@C`.
use Rattle.std.specs.Prelude.{ℕ, ◌+◌, ◌-◌, ◌*◌, ◌==◌, ◌&&◌, Bool, true, false, not, nat_le, if◌then◌else◌, List, [], ◌∷◌, Option, Some, None}
use Rattle.std.specs.List.{list_all}

-- a decimal digit, the codes 48 to 57
abbrev pub is_digit : ℕ → Bool
is_digit d = nat_le 48 d && nat_le d 57

-- decimal digits without a leading zero, or a 0 alone
abbrev pub is_numeral : List ℕ → Bool
is_numeral [] = false
is_numeral (d ∷ []) = is_digit d
is_numeral (d ∷ e ∷ ds) = is_digit d && not (d == 48) && list_all is_digit (e ∷ ds)

-- the number that these digits write, after n
abbrev pub digits_after : ℕ → List ℕ → ℕ
digits_after n [] = n
digits_after n (d ∷ ds) = digits_after (10 * n + (d - 48)) ds

-- the claim that a call's name means, if it means one: an `@`, whose code is 64, then its number
abbrev pub claim_of : List ℕ → Option ℕ
claim_of [] = None
claim_of (c ∷ ds) = if (c == 64) && is_numeral ds then Some (digits_after 0 ds) else None
