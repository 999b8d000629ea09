use Rattle.std.proofs.Common.{◌≡◌, ℕ, List, ◌++◌, map, length, min, take, drop, Option, ap, ◌∙◌, subst}
use Rattle.std.specs.Prelude.{IfOk}
use Rattle.std.proofs.lemmas.List.{take_min, drop_min}
use Rattle.lin.specs.declared.span.Span1.{Span1}
use Rattle.soundness.specs.declared.outline.refusals.code.Flaw.{Flaw}
use Rattle.tree.specs.Term.{term_of}
use Rattle.soundness.specs.Obligations.{store_obligations}
use Rattle.soundness.specs.Outline.View.{outline_in}
use Rattle.obligations.specs.declared.loads.Reads.{Reads}
use Rattle.obligations.specs.Context.Around.{known_of}
use Rattle.obligations.specs.Asked.{first_unmet}
use Rattle.obligations.specs.Loads.{coordinates_of, names_in, names_of, variable_spans}
use Rattle.obligations.proofs.Asking.{store_of}
use Rattle.obligations.proofs.stores.unmet_store.Goals as goal

pub returns : goal.returns
returns g c =
    let O = outline_in c.args.judge.now.outlined.now in
    let R = g.B.Bounds.rules c.args.judge.now.bounds.now in
    let N = g.T.NestTests.nests c.args.judge.now.tests.now in
    let P = c.args.judge.now.part in
    let b = c.args.buffer in
    let n = O.setting.dimensions b in
    let cs = c.args.coordinates.now in
    let e = term_of c.args.value.now in
    let K = known_of c.args.known.now c.args.updating.now in
    let r : Reads = record {
      line = c.args.line;
      known = c.args.known;
      updating = c.args.updating;
      buffer = b;
      function = c.buffer_function.result;
      definition = c.args.definition;
      at = c.split_at.result.0;
      names = c.as_slice.result;
    } in
    let mid : c.min-dimensions.result ≡ min n (length cs) = c.min-dimensions.ensures ∙ ap (λ (d : ℕ). min d (length cs)) c.dimensions.ensures in
    let at : r.at.now ≡ take n cs = c.split_at.ensures.front ∙ ap (λ (m : ℕ). take m cs) mid ∙ take_min n cs in
    let over : c.split_at.result.1.now ≡ drop n cs = c.split_at.ensures.back ∙ ap (λ (m : ℕ). drop m cs) mid ∙ drop_min n cs in
    let names : names_in r ≡ names_of cs = ap (map (λ x. x.now)) c.as_slice.ensures.value ∙ c.in_ok-names.ensures in
    let left : c.push_variables.new.region ≡ variable_spans O R cs =
    c.in_ok-push_variables.ensures ∙ ap (λ (xs : List Span1). xs ++ variable_spans O R cs) c.new-left.ensures in
    let all = ap (first_unmet R N P) (store_of O R r c.split_at.result.1.now c.push_variables.new.region cs n e at over names left)
    ∙ ap (λ (f : List ℕ). first_unmet R N P (store_obligations O R c.args.line K b f c.args.definition (take n (coordinates_of cs)) (drop n (coordinates_of cs)) e)) c.buffer_function.ensures in
    subst (λ (o : Option Flaw). IfOk c.unmet_parts.result (λ flaw. flaw ≡ o)) all c.unmet_parts.ensures
