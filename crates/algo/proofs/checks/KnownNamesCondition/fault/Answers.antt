use Rattle.std.proofs.Common.{inl, inr, refl}
use Rattle.algo.specs.Parts.{names_of}
use Rattle.algo.specs.Faults.{UnknownAt}
use Rattle.algo.proofs.Placed.{one_of}
use Rattle.algo.proofs.checks.KnownNamesCondition.fault.Goals as goal

pub returns-in-Some-Some-clause-place : goal.returns-in-Some-Some-clause-place
returns-in-Some-Some-clause-place c =
    let arm = c.in-Some-Some in
    let variable = rw arm.is-0 at c.first_variable-variable.ensures.some in
    let call = rw arm.is-1 at c.first_call-call.ensures.some in
    let self = c.args.self.now in
    one_of (UnknownAt (names_of self.variables.now) (names_of self.declared.now) c.args.expr.now) arm.variable arm.call.name c.earlier.result _ c.earlier.ensures
    (inl variable) (inr (record { call = arm.call; refused = call; place = refl }))
