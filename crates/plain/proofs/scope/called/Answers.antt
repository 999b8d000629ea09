use Rattle.std.proofs.Common.{◌≡◌, ap, sym, ◌∙◌, length, Some, ℕ, List, rules}
use Rattle.std.proofs.lemmas.List.{length-map}
use Rattle.std.specs.Prelude.{string_bytes}
use Rattle.meaning.specs.Image.View.{Frame}
use Rattle.meaning.specs.Names.{same_name}
use Rattle.meaning.specs.Algorithm.{Function}
use Rattle.meaning.proofs.Calls.{callable_input, callable_none}
use Rattle.algo.specs.View.{algorithm_of}
use Rattle.plain.proofs.Callables.{callable_first, callable_alone}
use Rattle.plain.proofs.scope.called.Goals as goal

pub returns-in-Some : goal.returns-in-Some
returns-in-Some c =
    let a = algorithm_of c.args.algo.now in
    let first = callable_first a c.args.callees c.args.name.now c.in-Some.number c.requires c.in-Some.ensures in
    let e = c.function_at.ensures in
    let ty = ap (λ (f : Function). f.ty) e in
    let items : c.len.result ≡ length c.function_at.result.1.now.variables.items = search rules in
    let count = items ∙ sym (length-map c.function_at.result.1.now.variables.items string_bytes) ∙ ap (λ (f : Function). length f.variables) e in
    (λ i. Some (ty i, count i)) ∙ sym first

pub returns-in-None : goal.returns-in-None
returns-in-None c =
    let a = algorithm_of c.args.algo.now in
    let name = c.args.name.now in
    let test = ap (λ (x : List ℕ). same_name x name) (sym (c.as_str.ensures.value ∙ c.input-input.ensures.name)) ∙ sym c.same_name.ensures ∙ c.if-same_name.true in
    let ty = ap (λ (f : Frame). f.ty) c.input-input.ensures.shape in
    let items : c.len-in-None.result ≡ length c.input-input.result.now.shape.extents.items = search rules in
    let count = items ∙ ap (λ (f : Frame). length f.extents) c.input-input.ensures.shape in
    (λ i. Some (ty i, count i)) ∙ sym (callable_alone a c.args.callees name c.requires c.in-None.ensures ∙ callable_input a name test)

pub returns-in-None-2 : goal.returns-in-None-2
returns-in-None-2 c =
    let a = algorithm_of c.args.algo.now in
    let name = c.args.name.now in
    let test = ap (λ (x : List ℕ). same_name x name) (sym (c.as_str.ensures.value ∙ c.input-input.ensures.name)) ∙ sym c.same_name.ensures ∙ c.if-same_name.false in
    sym (callable_alone a c.args.callees name c.requires c.in-None-2.ensures ∙ callable_none a name test)
