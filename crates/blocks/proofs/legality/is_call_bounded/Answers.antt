use Rattle.std.proofs.Common.{◌≡◌, ℕ, true, List, ap, sym, ◌∙◌}
use Rattle.algo.specs.View.{algorithm_of}
use Rattle.meaning.specs.Names.{same_name}
use Rattle.sched.specs.Stored.{formula_of}
use Rattle.sched.specs.Calls.{call_of}
use Rattle.sched.specs.Around.{around_of}
use Rattle.blocks.proofs.Inputs.{on_input}
use Rattle.blocks.proofs.legality.is_call_bounded.Goals as goal

pub returns-then-same_name : goal.returns-then-same_name
returns-then-same_name c =
    let a = algorithm_of c.args.algo.now in
    let x = c.args.call.now.name.now in
    let named : c.as_str.result.now ≡ a.input = c.as_str.ensures.value ∙ c.input-input.ensures.name in
    let same : same_name x a.input ≡ true = ap (λ (y : List ℕ). same_name x y) (sym named) ∙ sym c.same_name.ensures ∙ c.if-same_name.true in
    let extents : c.deref.result.now ≡ a.input_extents = c.deref.ensures.value ∙ (λ i. (c.input-input.ensures.shape i).extents) in
    on_input a (around_of c.args.around.now) (formula_of c.args.formula.now) c.args.region.now c.args.own.now (call_of c.args.call.now) c.deref.result.now c.is_on_input.result
    same extents c.is_on_input.ensures
