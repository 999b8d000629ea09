-- Expressions as a plan stores them: each call of a stored function is a load by a claim.
use Rattle.std.specs.Prelude.{ℕ, List, [], ◌∷◌, Option, Some, None, if◌then◌else◌}
use Rattle.std.specs.Fmt.{decimal}
use Rattle.tree.specs.Term.{Term, Terms, Call}
use Rattle.meaning.specs.Names.{same_name}

-- loads
abbrev pub Loads : Type 0
Loads = List (List ℕ × ℕ)

-- the claim of the last load of this function, or this one where there is none
abbrev pub last_of : Option ℕ → Loads → List ℕ → Option ℕ
last_of o [] x = o
last_of o (l ∷ ls) x = last_of (if same_name l.0 x then Some l.1 else o) ls x

-- `@`, whose code is 64, and the claim; a function that is not loaded stays
abbrev pub name_by : Option ℕ → List ℕ → List ℕ
name_by None x = x
name_by (Some c) x = 64 ∷ decimal c

abbrev pub loaded_name : Loads → List ℕ → List ℕ
loaded_name ls x = name_by (last_of None ls x) x

-- what stands for a call
abbrev pub as_load : Loads → List ℕ → Terms → Term
as_load ls x at = Call (loaded_name ls x) at
