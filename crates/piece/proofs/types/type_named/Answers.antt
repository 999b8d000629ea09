use Rattle.std.proofs.Common.{◌≡◌, ◌∙◌, ap, sym, List, [], None, ℕ, drop, arith}
use Rattle.std.specs.declared.string.String.{String}
use Rattle.std.specs.Global.{Global}
use Rattle.std.proofs.lemmas.List.{drop_all}
use Rattle.meaning.specs.Image.View.{Frame}
use Rattle.meaning.specs.Algorithm.{Function}
use Rattle.meaning.specs.Names.{same_name}
use Rattle.meaning.specs.Conditions.{function_named}
use Rattle.algo.specs.Parts.{functions_of}
use Rattle.algo.specs.View.{algorithm_of}
use Rattle.algo.specs.declared.function.Function.{Function as Entry}
use Rattle.soundness.specs.Given.{function_named as first_named}
use Rattle.headline.specs.Work.{type_or_input}
use Rattle.headline.proofs.Named.{named_same}
use Rattle.checked_plan.proofs.Named.{found_here, found_later}
use Rattle.piece.proofs.types.type_named.Goals as goal

pub returns-then-same_name : goal.returns-then-same_name
returns-then-same_name c =
    let a = algorithm_of c.args.algo.now in
    let name = c.args.name.now in
    let entries = c.funcs-functions.result.now.entries in
    let e : String Global × Entry = (c.in-Some.known.now, c.in-Some.function.now) in
    let found = found_here entries name c.loop-k.k e c.same_name.result (sym c.in-Some.ensures.entry)
    (c.same_name.ensures ∙ ap (λ (n : List ℕ). same_name n name) c.as_str.ensures.value)
    (function_named (functions_of entries) name) c.if-same_name.true c.loop-k.invariant in
    ap (type_or_input a) (found ∙ sym (named_same (functions_of entries) name)) ∙ ap (λ (fs : List Function). type_or_input a (first_named fs name)) c.funcs-functions.ensures

pub loop-k-preserved : goal.loop-k-preserved
loop-k-preserved c =
    let entries = c.funcs-functions.result.now.entries in
    let e : String Global × Entry = (c.in-Some.known.now, c.in-Some.function.now) in
    found_later entries c.args.name.now c.loop-k.k e c.same_name.result (sym c.in-Some.ensures.entry)
    (c.same_name.ensures ∙ ap (λ (n : List ℕ). same_name n c.args.name.now) c.as_str.ensures.value)
    (function_named (functions_of entries) c.args.name.now) c.if-same_name.false c.loop-k.invariant

pub returns : goal.returns
returns c =
    let a = algorithm_of c.args.algo.now in
    let name = c.args.name.now in
    let entries = c.funcs-functions.result.now.entries in
    let end : drop c.loop-k.k entries ≡ [] = drop_all c.loop-k.k entries (omega (arith, c.loop-k-test.false, c.len-k-end.ensures.len)) in
    let none : None ≡ function_named (functions_of entries) name = ap (λ es. function_named (functions_of es) name) (sym end) ∙ c.loop-k.invariant in
    ap (λ (f : Frame). f.ty) c.input.ensures.shape ∙ ap (type_or_input a) (none ∙ sym (named_same (functions_of entries) name)) ∙ ap (λ (fs : List Function). type_or_input a (first_named fs name)) c.funcs-functions.ensures
