-- Which expression the calls put in make, and when they are not put in.
use Rattle.std.specs.Prelude.{◌≡◌, List, Bool, true, Result, MatchResult, ⊤}
use Rattle.tree.specs.Term.{Term, term_of}
use Rattle.tree.specs.declared.expr.Expr.{Expr}
use Rattle.meaning.specs.Algorithm.{Algorithm}
use Rattle.meaning.specs.Inlining.PutIn.{put_in, calls_updates}
use Rattle.meaning.specs.Inlining.Laws.{TakesNoUpdates}
use Rattle.subst.specs.Limits.{IsWithin}
use Rattle.subst.specs.declared.error.SubstError.{SubstError}
use Rattle.subst.specs.declared.error.SubstError.TheVariants.{Memory, Updates, TooLarge}

-- updates exactly where the calls come to some, and otherwise too large where the result passes the limits
abbrev pub IsRefusalOf : Algorithm → List Bool → Term → SubstError → Type 0
IsRefusalOf a stored e Memory = ⊤
IsRefusalOf a stored e Updates = calls_updates a stored e ≡ true
IsRefusalOf a stored e TooLarge = TakesNoUpdates a stored e × ¬ IsWithin (put_in a stored e)

-- the expression with the calls put in, or why not
abbrev pub PutsIn : Algorithm → List Bool → Term → Result Expr SubstError → Type 0
PutsIn a stored e result = MatchResult result (λ x. (term_of x ≡ put_in a stored e) × TakesNoUpdates a stored e × IsWithin (term_of x)) (λ error. IsRefusalOf a stored e error)
