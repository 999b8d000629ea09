use Rattle.std.proofs.Common.{◌≡◌, ℕ, ◌+◌, ◌<◌, ◌≤◌, Some, None, arith, subst, inl, inr}
use Rattle.std.specs.Prelude.{slice_get}
use Rattle.std.proofs.lemmas.Bool.{cases_lt, false≢true}
use Rattle.shares.proofs.own.has_gap.Goals as goal

pub returns-then-is_free-clause-gap : goal.returns-then-is_free-clause-gap
returns-then-is_free-clause-gap c _ =
    let less = c.loop-place-test.true in
    let end = c.loop-place.auto.place-end in
    (c.args.first + c.loop-place.place, omega arith, omega (arith, less, end), c.is_free.ensures.0 c.if-is_free.true)
