-- What was built, within the limits or refused.
use Rattle.std.specs.Prelude.{◌≡◌, MatchResult, Result, Option, MatchOption}
use Rattle.tree.specs.Term.{Term, Test, Terms, term_of, test_of, list_terms, indices}
use Rattle.subst.specs.declared.error.SubstError.{SubstError}
use Rattle.subst.specs.declared.built.Built.{Built}
use Rattle.subst.specs.declared.built.BuiltCond.{BuiltCond}
use Rattle.subst.specs.declared.built.Row.{Row}
use Rattle.subst.specs.Limits.{IsWithin, IsRefused, IsTestRefused, AreRefused}

-- it is this expression, or it was refused
abbrev pub Makes : Term → Result Built SubstError → Type 0
Makes e result = MatchResult result (λ b. term_of b.expr ≡ e) (λ error. IsRefused error e)

abbrev pub MakesTest : Test → Result BuiltCond SubstError → Type 0
MakesTest c result = MatchResult result (λ b. test_of b.cond.value ≡ c) (λ error. IsTestRefused error c)

abbrev pub MakesRow : Terms → Result Row SubstError → Type 0
MakesRow at result = MatchResult result (λ r. indices (list_terms r.at.items) ≡ at) (λ error. AreRefused error at)

-- it holds this expression, or nothing where the expression passes the limits
abbrev pub Holds : Term → Option Built → Type 0
Holds e held = MatchOption held (¬ IsWithin e) (λ b. term_of b.expr ≡ e)
