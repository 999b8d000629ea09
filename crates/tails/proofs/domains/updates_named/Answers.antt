use Rattle.std.proofs.Common.{◌∙◌, ap, sym, List, ℕ}
use Rattle.std.specs.declared.string.String.{String}
use Rattle.std.specs.Global.{Global}
use Rattle.meaning.specs.Names.{same_name}
use Rattle.soundness.specs.Given.{function_named}
use Rattle.algo.specs.Parts.{functions_of}
use Rattle.algo.specs.declared.function.Function.{Function as Entry}
use Rattle.tails.proofs.Functions.{found_here, found_later}
use Rattle.tails.proofs.domains.updates_named.Goals as goal

pub returns-then-same_name : goal.returns-then-same_name
returns-then-same_name c =
    let entries = c.args.functions.now.entries in
    let e : String Global × Entry = (c.in-Some.known.now, c.in-Some.function.now) in
    found_here entries c.args.name.now c.loop-k.k e c.same_name.result (sym c.in-Some.ensures.entry)
    (c.same_name.ensures ∙ ap (λ (n : List ℕ). same_name n c.args.name.now) c.as_str.ensures.value)
    (function_named (functions_of entries) c.args.name.now) c.deref.result.now c.deref.ensures.value c.if-same_name.true c.loop-k.invariant

pub loop-k-preserved : goal.loop-k-preserved
loop-k-preserved c =
    let entries = c.args.functions.now.entries in
    let e : String Global × Entry = (c.in-Some.known.now, c.in-Some.function.now) in
    found_later entries c.args.name.now c.loop-k.k e c.same_name.result (sym c.in-Some.ensures.entry)
    (c.same_name.ensures ∙ ap (λ (n : List ℕ). same_name n c.args.name.now) c.as_str.ensures.value)
    (function_named (functions_of entries) c.args.name.now) c.if-same_name.false c.loop-k.invariant
