use Rattle.std.proofs.Common.{◌≡◌, false, ap, sym, ◌∙◌, List}
use Rattle.std.specs.List.{list_all}
use Rattle.meaning.specs.Algorithm.{Function}
use Rattle.algo.specs.Parts.{function_of}
use Rattle.sched.specs.Subjects.{has_own_names}
use Rattle.sched.proofs.Functions.{Entry, entry_passes, entry_fails}
use Rattle.sched.proofs.subject.has_names.Goals as goal

pub returns-then-not-has_own_names : goal.returns-then-not-has_own_names
returns-then-not-has_own_names c =
    let entries = c.funcs-functions.result.now.entries in
    let e : Entry = (c.in-Some.name.now, c.in-Some.function.now) in
    let fails : has_own_names (function_of e) ≡ false = sym c.has_own_names.ensures ∙ c.if-not-has_own_names.true in
    sym (entry_fails entries c.loop-k.k e (sym c.in-Some.ensures.entry) fails) ∙ c.loop-k.invariant ∙ ap (λ (fs : List Function). list_all has_own_names fs) c.funcs-functions.ensures

pub loop-k-preserved : goal.loop-k-preserved
loop-k-preserved c =
    let entries = c.funcs-functions.result.now.entries in
    let e : Entry = (c.in-Some.name.now, c.in-Some.function.now) in
    entry_passes entries c.loop-k.k e (sym c.in-Some.ensures.entry) (sym c.has_own_names.ensures ∙ c.if-not-has_own_names.false) ∙ c.loop-k.invariant
