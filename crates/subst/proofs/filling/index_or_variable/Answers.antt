use Rattle.std.proofs.Common.{sym, ◌∙◌, arith}
use Rattle.meaning.proofs.Cases.{same_name_is}
use Rattle.subst.proofs.Indices.{differ, misses_none, misses_more, fills_index, fills_large, fills_variable}
use Rattle.subst.proofs.filling.index_or_variable.Goals as goal

pub loop-k-init : goal.loop-k-init
loop-k-init c = misses_none c.args.names.now c.args.name.now

pub returns-in-Some : goal.returns-in-Some
returns-in-Some c =
    let same = same_name_is c.as_str.result.now c.args.name.now (sym c.if-eq.ensures) in
    fills_index c.args.names.now c.args.at.now c.args.name.now c.loop-k.k c.index-names-k.result c.index-at-k.result c.in-Some.index c.copied.result
    (omega arith) (omega arith) c.index-names-k.is c.index-at-k.is c.loop-k.invariant (sym c.as_str.ensures.value ∙ same) c.in-Some.is c.copied.ensures

pub returns-in-None : goal.returns-in-None
returns-in-None c =
    let same = same_name_is c.as_str.result.now c.args.name.now (sym c.if-eq.ensures) in
    fills_large c.args.names.now c.args.at.now c.args.name.now c.loop-k.k c.index-names-k.result c.index-at-k.result
    (omega arith) (omega arith) c.index-names-k.is c.index-at-k.is c.loop-k.invariant (sym c.as_str.ensures.value ∙ same) c.in-None.is

pub loop-k-preserved : goal.loop-k-preserved
loop-k-preserved c =
    let apart = differ c.as_str.result.now c.args.name.now c.if-eq.ensures in
    misses_more c.args.names.now c.args.name.now c.loop-k.k c.index-names-k.result c.index-names-k.is (λ e. apart (c.as_str.ensures.value ∙ e)) c.loop-k.invariant

pub returns : goal.returns
returns c = fills_variable c.args.names.now c.args.at.now c.args.name.now c.loop-k.k c.variable.result (omega arith) c.loop-k.invariant c.variable.ensures
