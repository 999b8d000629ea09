-- The stored functions, and their definitions with the calls of other functions put in.
-- What crates below need of it stands there: `sched`.
use Rattle.std.specs.Prelude.{◌≡◌, ℕ, Bool, ◌&&◌, not, nat_le, if◌then◌else◌, List, [], ◌∷◌, map, Option, Some, None, Result, Ok, Err}
use Rattle.tree.specs.Term.{Term}
use Rattle.tree.specs.Tree.{node_count, depth}
use Rattle.meaning.specs.Algorithm.{Change, Function, Algorithm}
use Rattle.meaning.specs.Conditions.{is_variable}
use Rattle.meaning.specs.Inlining.PutIn.{put_in, calls_updates}
use Rattle.subst.specs.declared.error.SubstError.{SubstError}
use Rattle.subst.specs.declared.error.SubstError.TheVariants as subst
use Rattle.sched.specs.Placing.{SubjectText, PlacedText}
use Rattle.sched.specs.Standing.{◌>>=◌}
use Rattle.sched.specs.Stored.{FormulaText, StoredText}

-- ---- calls put in

-- at most 4096 nodes, and 256 on a way down
abbrev pub is_small : Term → Bool
is_small e = nat_le (node_count e) 4096 && nat_le (depth e) 256

-- an expression with the calls of functions that are not stored put in; None where that is not small, or comes to a function with updates
abbrev pub put : Algorithm → List Bool → Term → Option Term
put a stored e = if not (calls_updates a stored e) && is_small (put_in a stored e) then Some (put_in a stored e) else None

-- the left index of a variable; none where it is the variable alone
abbrev pub left_put : Algorithm → List Bool → List ℕ → Term → Option (Option Term)
left_put a stored x e = if is_variable x e then Some None else put a stored e >>= λ i. Some (Some i)

abbrev pub lefts_put : Algorithm → List Bool → List (List ℕ) → List Term → Option (List (Option Term))
lefts_put a stored (x ∷ xs) (e ∷ es) = left_put a stored x e >>= λ o. lefts_put a stored xs es >>= λ os. Some (o ∷ os)
lefts_put a stored _ _ = Some []

abbrev pub pure_put : Algorithm → List Bool → List (List ℕ) → Term → Option FormulaText
pure_put a stored xs e = put a stored e >>= λ v. Some (record { at = map (λ x. None) xs; value = v })

abbrev pub change_put : Algorithm → List Bool → List (List ℕ) → Change → Option FormulaText
change_put a stored xs u = lefts_put a stored xs u.at >>= λ at. put a stored u.value >>= λ v. Some (record { at = at; value = v })

abbrev pub changes_put : Algorithm → List Bool → List (List ℕ) → List Change → Option (List FormulaText)
changes_put a stored xs [] = Some []
changes_put a stored xs (u ∷ us) = change_put a stored xs u >>= λ f. changes_put a stored xs us >>= λ fs. Some (f ∷ fs)

-- all definitions of a function of these variables, the pure one first; None where one of them is too large
abbrev pub formulas_put : Algorithm → List Bool → List (List ℕ) → Term → List Change → Option (List FormulaText)
formulas_put a stored xs e us = pure_put a stored xs e >>= λ f. changes_put a stored xs us >>= λ fs. Some (f ∷ fs)

-- ---- the stored functions

abbrev pub flags : List SubjectText → List Bool
flags us = map (λ u. u.is_stored) us

abbrev pub stored_by : Algorithm → List Bool → List (List ℕ) → Term → List Change → SubjectText → PlacedText → StoredText
stored_by a stored xs e us u p = record { subject = u; placed = p; variables = xs; changes = us; formulas = formulas_put a stored xs e us }

-- a function before others, where it is stored
abbrev pub before_stored : Algorithm → List Bool → List (List ℕ) → Term → List Change → SubjectText → PlacedText → List StoredText → List StoredText
before_stored a stored xs e us u p rest = if u.is_stored then stored_by a stored xs e us u p ∷ rest else rest

-- of these functions, with what has to be known of them and the loops that a schedule gives them
abbrev pub stored_among : Algorithm → List Bool → List Function → List SubjectText → List PlacedText → List StoredText
stored_among a stored (f ∷ fs) (u ∷ us) (p ∷ ps) =
    before_stored a stored f.variables f.value f.changes u p (stored_among a stored fs us ps)
stored_among a stored _ _ _ = []

abbrev pub stored_of_all : Algorithm → List SubjectText → List PlacedText → List StoredText
stored_of_all a us ps = stored_among a (flags us) a.functions us ps

-- what calls are put into, unless memory ran out
abbrev pub Puts : {X A : Type 0} → Result X SubstError → (X → A) → Option A → Type 0
Puts (Ok x) seen told = told ≡ Some (seen x)
Puts (Err subst.Memory) seen told = Unit {0}
Puts (Err subst.Updates) seen told = told ≡ None
Puts (Err subst.TooLarge) seen told = told ≡ None
