use Rattle.std.proofs.Common.{◌≡◌, List, [], inl, inr, subst, arith, MatchOption}
use Rattle.std.specs.Prelude.{slice_get}
use Rattle.algo.specs.Scoping.Doubles.{IsFirstDouble}
use Rattle.expr.specs.declared.statements.statement.Named.{Named}
use Rattle.algo.proofs.Placed.{doubled_at}
use Rattle.algo.proofs.statement.names_fault.Goals as goal

pub returns-in-Some-clause-place : goal.returns-in-Some-clause-place
returns-in-Some-clause-place c =
    let i = c.in-Some.i in
    let at = c.place_of.result in
    let named = subst (λ (l : List Named). MatchOption (slice_get l i) (at ≡ c.args.statement.now.name.span) (λ name. at ≡ name.span)) c.deref.ensures.value c.place_of.ensures in
    inr (inl (doubled_at [] c.args.statement.now.variables.items i i c.args.statement.now.name.span at (omega arith) (subst (λ l. IsFirstDouble l i) c.requires c.in-Some.ensures.some) named))
