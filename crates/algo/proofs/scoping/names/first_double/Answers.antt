use Rattle.std.proofs.Common.{◌≡◌, map, take, sym, ap, ◌∙◌, refl, arith, true, false}
use Rattle.std.specs.Prelude.{string_bytes}
use Rattle.std.proofs.lemmas.Bool.{false≢true}
use Rattle.meaning.specs.Names.{is_among}
use Rattle.algo.proofs.Doubles.{distinct_so_far, double_found, double_refuses, distinct_whole}
use Rattle.algo.proofs.scoping.names.first_double.Goals as goal

pub returns-then-is_among-clause-none : goal.returns-then-is_among-clause-none
returns-then-is_among-clause-none c =
    let before = map string_bytes (take c.loop-i.i c.args.names.now) in
    let old : is_among before (string_bytes c.index-names-i.result) ≡ true = ap (is_among before) (sym c.as_str.ensures.value) ∙ sym c.is_among.ensures ∙ c.if-is_among.true in
    (λ e. absurd (false≢true (sym e)), λ h. absurd (double_refuses string_bytes c.args.names.now c.loop-i.i c.index-names-i.result c.loop-i-test.true c.index-names-i.is old h))

pub returns-then-is_among-clause-some : goal.returns-then-is_among-clause-some
returns-then-is_among-clause-some c =
    let before = map string_bytes (take c.loop-i.i c.args.names.now) in
    let old : is_among before (string_bytes c.index-names-i.result) ≡ true = ap (is_among before) (sym c.as_str.ensures.value) ∙ sym c.is_among.ensures ∙ c.if-is_among.true in
    double_found string_bytes c.args.names.now c.loop-i.i c.index-names-i.result c.loop-i-test.true c.index-names-i.is old c.loop-i.invariant

pub loop-i-preserved : goal.loop-i-preserved
loop-i-preserved c =
    let before = map string_bytes (take c.loop-i.i c.args.names.now) in
    let new : is_among before (string_bytes c.index-names-i.result) ≡ false = ap (is_among before) (sym c.as_str.ensures.value) ∙ sym c.is_among.ensures ∙ c.if-is_among.false in
    distinct_so_far string_bytes c.args.names.now c.loop-i.i c.index-names-i.result c.loop-i-test.true c.index-names-i.is new c.loop-i.invariant

pub returns-clause-none : goal.returns-clause-none
returns-clause-none c = (λ e. distinct_whole string_bytes c.args.names.now c.loop-i.i (omega (arith, c.loop-i-test.false)) c.loop-i.invariant, λ h. refl)
