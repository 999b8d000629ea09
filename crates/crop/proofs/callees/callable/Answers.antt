use Rattle.std.proofs.Common.{◌≡◌, ap, sym, ◌∙◌, length, Some, List, ℕ, rules}
use Rattle.std.proofs.lemmas.List.{length-map}
use Rattle.std.specs.Prelude.{string_bytes}
use Rattle.meaning.specs.Names.{same_name}
use Rattle.algo.specs.Parts.{function_of}
use Rattle.algo.specs.View.{algorithm_of}
use Rattle.crop.proofs.Callable.{found_at, passed_at}
use Rattle.crop.proofs.callees.callable.Goals as goal

pub returns-then-same_name : goal.returns-then-same_name
returns-then-same_name c =
    let a = algorithm_of c.args.algo.now in
    let f = function_of (c.function_at.result.0.now, c.function_at.result.1.now) in
    let test = ap (λ (x : List ℕ). same_name x c.args.name.now) (sym c.as_str.ensures.value) ∙ sym c.same_name.ensures ∙ c.if-same_name.true in
    let items : c.len.result ≡ length c.function_at.result.1.now.variables.items = search rules in
    let count = items ∙ sym (length-map c.function_at.result.1.now.variables.items string_bytes) in
    (λ i. Some (c.function_at.result.1.now.ty, count i))
    ∙ sym (found_at a c.args.count c.loop-number.number c.args.name.now f c.function_at.ensures c.loop-number-test.true test) ∙ c.loop-number.invariant

pub loop-number-preserved : goal.loop-number-preserved
loop-number-preserved c =
    let a = algorithm_of c.args.algo.now in
    let f = function_of (c.function_at.result.0.now, c.function_at.result.1.now) in
    let test = ap (λ (x : List ℕ). same_name x c.args.name.now) (sym c.as_str.ensures.value) ∙ sym c.same_name.ensures ∙ c.if-same_name.false in
    sym (passed_at a c.args.count c.loop-number.number c.args.name.now f c.function_at.ensures c.loop-number-test.true test) ∙ c.loop-number.invariant
