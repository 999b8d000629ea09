use Rattle.std.proofs.Common.{sym, subst, take, ◌+◌, List, Vec}
use Rattle.std.specs.declared.string.String.{String}
use Rattle.std.specs.Global.{Global}
use Rattle.algo.specs.Parts.{function_of}
use Rattle.algo.specs.declared.function.Function.{Function as Entry}
use Rattle.subst.specs.declared.bodies.Body.{Body}
use Rattle.subst.specs.Table.{IsBodyOf, IsTableOf}
use Rattle.subst.proofs.Steps.{table_more, table_kept}
use Rattle.subst.proofs.bodies.bodies_of.Goals.{then-not-stored-k+in-Some+in_ok-body-in-Some+in_ok-push-in-Some, else-not-stored-k}
use Rattle.subst.proofs.bodies.bodies_of.Goals as goal

pub loop-k-preserved : goal.loop-k-preserved
loop-k-preserved c =
    let entries = c.args.functions.now.entries in
    let stored = c.args.stored.now in
    elim c.if-not-stored-k.branch [
      | then-not-stored-k+in-Some+in_ok-body-in-Some+in_ok-push-in-Some w ↦
          let f : String Global × Entry = (w.in-Some.name.now, w.in-Some.function.now) in
          let body = subst (λ (before : List Body). IsBodyOf before (function_of f) w.in_ok-body-in-Some.body) w.deref.ensures.value w.in_ok-body-in-Some.ensures in
          subst (λ (v : Vec Body Global). IsTableOf (take (c.loop-k.k + 1) entries) stored v.items) (sym w.bodies-is)
          (table_more entries stored c.loop-k.bodies.items c.loop-k.k f w.in_ok-body-in-Some.body w.push.new.self.items c.loop-k-test.true w.if-not-stored-k.true (sym w.in-Some.ensures.entry) c.loop-k.invariant body w.in_ok-push-in-Some.ensures.items)
      | else-not-stored-k w ↦
          subst (λ (v : Vec Body Global). IsTableOf (take (c.loop-k.k + 1) entries) stored v.items) (sym w.bodies-is)
          (table_kept entries stored c.loop-k.bodies.items c.loop-k.k c.loop-k-test.true w.if-not-stored-k.false c.loop-k.invariant)
    ]
