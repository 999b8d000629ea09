use Rattle.std.proofs.Common.{◌∙◌, ap, sym, List, ℕ}
use Rattle.std.specs.declared.string.String.{String}
use Rattle.std.specs.Global.{Global}
use Rattle.std.specs.List.{list_any}
use Rattle.plan.specs.Lists.{list_groups}
use Rattle.algo.specs.declared.function.Function.{Function as Entry}
use Rattle.validation.specs.Stored.Definitions.{group_stores}
use Rattle.validation.proofs.Functions.{marks_more}
use Rattle.validation.proofs.stored.defined.marks_of.Goals as goal

pub loop-k-preserved : goal.loop-k-preserved
loop-k-preserved c =
    let e : String Global × Entry = (c.in-Some.known.now, c.in-Some.field-0-1.now) in
    let mark = λ (n : List ℕ). list_any (group_stores n) (list_groups c.args.groups.now) in
    marks_more mark c.args.functions.now.entries c.loop-k.k e c.is_stored_among.result c.loop-k.marks.items c.push.new.self.items (sym c.in-Some.ensures.entry)
    (c.is_stored_among.ensures ∙ ap mark c.as_str.ensures.value)
    c.loop-k.invariant c.in_ok-push-in-Some.ensures.items
