use Rattle.std.proofs.Common.{◌∙◌, ap, sym, arith}
use Rattle.std.proofs.lemmas.List.{length-map}
use Rattle.std.proofs.lemmas.Bool.{false≢true}
use Rattle.plan.specs.declared.plan.Group.{Group}
use Rattle.plan.specs.View.{group_of}
use Rattle.meaning.proofs.Cases.{same_name_is, name_same}
use Rattle.audit.proofs.Named.{is_here, none_more}
use Rattle.audit.proofs.output.group_named.Goals as goal

pub returns-then-same_name : goal.returns-then-same_name
returns-then-same_name c =
    is_here c.args.groups.now c.loop-number.number c.index-groups-number.result c.args.name.now c.loop-number-test.true c.index-groups-number.is
    (ap (λ (g : Group). (group_of g).function) c.index-groups-number.is ∙ sym c.as_str.ensures.value ∙ same_name_is c.as_str.result.now c.args.name.now (sym c.same_name.ensures ∙ c.if-same_name.true))

pub loop-number-preserved : goal.loop-number-preserved
loop-number-preserved c =
    none_more c.args.groups.now c.loop-number.number c.index-groups-number.result c.args.name.now c.loop-number-test.true c.index-groups-number.is
    (λ e. false≢true (sym c.if-same_name.false ∙ (c.same_name.ensures ∙ name_same c.as_str.result.now c.args.name.now (c.as_str.ensures.value ∙ ap (λ (g : Group). (group_of g).function) (sym c.index-groups-number.is) ∙ e))))
    c.loop-number.invariant

pub returns : goal.returns
returns c = λ k d less. c.loop-number.invariant k d (let end = c.loop-number-test.false in let long = length-map c.args.groups.now group_of in omega (arith, less, end, long))
