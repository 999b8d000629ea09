use Rattle.std.proofs.Common.{◌≡◌, List, ◌++◌, Option, sym, ap, ◌∙◌, subst}
use Rattle.std.specs.Prelude.{IfOk, flat_map}
use Rattle.lin.specs.declared.span.Span1.{Span1}
use Rattle.soundness.specs.declared.outline.refusals.code.Flaw.{Flaw}
use Rattle.tree.specs.Term.{term_of}
use Rattle.soundness.specs.Obligations.{coordinate_loads}
use Rattle.soundness.specs.Outline.View.{outline_in}
use Rattle.obligations.specs.Asked.{first_unmet}
use Rattle.obligations.specs.Loads.{coordinates_of, known_in, loads_in, may_in, meets_in, names_in, variable_spans}
use Rattle.obligations.proofs.Unmet.{go_append}
use Rattle.obligations.proofs.stores.unmet_reads.Goals as goal

pub returns : goal.returns
returns g c =
    let O = outline_in c.args.judge.now.outlined.now in
    let R = g.B.Bounds.rules c.args.judge.now.bounds.now in
    let N = g.T.NestTests.nests c.args.judge.now.tests.now in
    let P = c.args.judge.now.part in
    let r = c.args.reads.now in
    let e = term_of c.args.value.now in
    let spans = c.args.places ++ variable_spans O R c.args.over.now in
    let left = flat_map (coordinate_loads O R r.line (known_in r) (may_in O R r) (meets_in O R r) (names_in r) c.args.left.now) (coordinates_of r.at.now) in
    let all = go_append R N P left (loads_in O R r spans e) (sym c.in_ok-flaw.ensures ∙ c.in_default.is)
    ∙ ap (λ (xs : List Span1). first_unmet R N P (loads_in O R r xs e)) (sym c.in_ok-push_variables.ensures) in
    subst (λ (o : Option Flaw). IfOk c.unmet_loads.result (λ flaw. flaw ≡ o)) (sym all) c.unmet_loads.ensures
