use Rattle.std.proofs.Common.{◌≡◌, ap, sym, subst, ◌∙◌, Some, [], IfOk, IfErr, slice_get, arith}
use Rattle.std.proofs.lemmas.Grind.{common_steps}
use Rattle.tree.specs.Term.{term_of}
use Rattle.tree.specs.Typing.{type_of}
use Rattle.tree.specs.Place.{misfits}
use Rattle.tree.specs.declared.typing.TypeError.{TypeError}
use Rattle.tree.proofs.Places.{ok_or-fits, ok_or-place}
use Rattle.tree.proofs.Rows.{type_of-untyped_call, first_misfit-call, first_misfit-rest, type_of-typed_call, misfits-typed_call}
use Rattle.tree.proofs.typing.+typing.Goals as goal

pub are_indices-returns-in_err-ty-clause-place : goal.are_indices-returns-in_err-ty-clause-place
are_indices-returns-in_err-ty-clause-place g t c =
    let vs = g.N.Names.variables c.args.names.now in
    let fs = g.N.Names.functions c.args.names.now in
    let first = first_misfit-rest vs fs c.args.at.now c.loop-index.index-index c.index-item.result c.in_err-ty.field-0.0.span c.loop-index-test.true c.index-item.is c.in_err-ty.ensures.place c.loop-index.invariant.places in
    grind (arith, common_steps, first)

pub ty_of-returns-in_err-fit-in-Call-clause-ty : goal.ty_of-returns-in_err-fit-in-Call-clause-ty
ty_of-returns-in_err-fit-in-Call-clause-ty g t c =
    let vs = g.N.Names.variables c.args.names.now in
    let fs = g.N.Names.functions c.args.names.now in
    let none = type_of-untyped_call vs fs c.in-Call.name c.in-Call.at c.in-Call.span c.deref.result.now c.deref.ensures.value c.in_err-fit-in-Call.ensures.typed in
    rw (c.in-Call.is, none) (grind (arith, common_steps))

pub ty_of-returns-in_err-fit-in-Call-clause-place : goal.ty_of-returns-in_err-fit-in-Call-clause-place
ty_of-returns-in_err-fit-in-Call-clause-place g t c =
    let vs = g.N.Names.variables c.args.names.now in
    let fs = g.N.Names.functions c.args.names.now in
    let first = first_misfit-call vs fs c.in-Call.name c.in-Call.at c.in-Call.span c.deref.result.now c.in_err-fit-in-Call.field-0.0.span c.deref.ensures.value c.in_err-fit-in-Call.ensures.place in
    rw c.in-Call.is (grind (arith, common_steps, first))

pub ty_of-returns-in_ok-fit-in-Call-clause-ty : goal.ty_of-returns-in_ok-fit-in-Call-clause-ty
ty_of-returns-in_ok-fit-in-Call-clause-ty g t c =
    let vs = g.N.Names.variables c.args.names.now in
    let fs = g.N.Names.functions c.args.names.now in
    let ty = type_of-typed_call vs fs c.in-Call.name c.in-Call.at c.in-Call.span c.deref.result.now c.in_ok-fit-in-Call.fit c.func.result c.as_str-in-Call.result.now c.len.result
    c.deref.ensures.value c.in_ok-fit-in-Call.ensures.indices c.func.ensures c.as_str-in-Call.ensures.value (c.len.ensures ∙ sym c.deref.ensures.len) in
    sym c.ok_or-in-Call.ensures.ok_part ∙ c.called.ensures ∙ ty ∙ ap (λ e. type_of vs fs (term_of e)) (sym c.in-Call.is)

pub ty_of-returns-in_ok-fit-in-Call-clause-fits : goal.ty_of-returns-in_ok-fit-in-Call-clause-fits
ty_of-returns-in_ok-fit-in-Call-clause-fits g t c =
    let vs = g.N.Names.variables c.args.names.now in
    let fs = g.N.Names.functions c.args.names.now in
    let ty = type_of-typed_call vs fs c.in-Call.name c.in-Call.at c.in-Call.span c.deref.result.now c.in_ok-fit-in-Call.fit c.func.result c.as_str-in-Call.result.now c.len.result
    c.deref.ensures.value c.in_ok-fit-in-Call.ensures.indices c.func.ensures c.as_str-in-Call.ensures.value (c.len.ensures ∙ sym c.deref.ensures.len) in
    let e : TypeError = record { span = c.in-Call.span } in
    let places = ap (misfits vs fs) c.in-Call.is ∙ misfits-typed_call vs fs c.in-Call.name c.in-Call.at c.in-Call.span c.deref.result.now c.called.result c.deref.ensures.value (c.called.ensures ∙ ty) c.in_ok-fit-in-Call.ensures.fits c.in_ok-fit-in-Call.ensures.typed in
    subst (λ r. IfOk r (λ t'. misfits vs fs c.args.expr.now ≡ [])) (sym c.ok_or-in-Call.ensures.value) (ok_or-fits c.called.result e (misfits vs fs c.args.expr.now) places)

pub ty_of-returns-in_ok-fit-in-Call-clause-place : goal.ty_of-returns-in_ok-fit-in-Call-clause-place
ty_of-returns-in_ok-fit-in-Call-clause-place g t c =
    let vs = g.N.Names.variables c.args.names.now in
    let fs = g.N.Names.functions c.args.names.now in
    let ty = type_of-typed_call vs fs c.in-Call.name c.in-Call.at c.in-Call.span c.deref.result.now c.in_ok-fit-in-Call.fit c.func.result c.as_str-in-Call.result.now c.len.result
    c.deref.ensures.value c.in_ok-fit-in-Call.ensures.indices c.func.ensures c.as_str-in-Call.ensures.value (c.len.ensures ∙ sym c.deref.ensures.len) in
    let e : TypeError = record { span = c.in-Call.span } in
    let places = ap (misfits vs fs) c.in-Call.is ∙ misfits-typed_call vs fs c.in-Call.name c.in-Call.at c.in-Call.span c.deref.result.now c.called.result c.deref.ensures.value (c.called.ensures ∙ ty) c.in_ok-fit-in-Call.ensures.fits c.in_ok-fit-in-Call.ensures.typed in
    subst (λ r. IfErr r (λ x. slice_get (misfits vs fs c.args.expr.now) 0 ≡ Some x.span)) (sym c.ok_or-in-Call.ensures.value) (ok_or-place c.called.result e (misfits vs fs c.args.expr.now) places)
