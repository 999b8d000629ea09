use Rattle.std.proofs.Common.{◌≡◌, true, sym, subst, ◌∙◌, List, ℕ}
use Rattle.algo.specs.Parts.{function_of}
use Rattle.sched.specs.Subjects.{is_name}
use Rattle.sched.proofs.Functions.{Entry, entry_here, entry_later, own_name, name_pushed}
use Rattle.sched.proofs.subject.function_names.Goals as goal

pub name_of-own-requires : goal.name_of-own-requires
name_of-own-requires c =
    let e : Entry = (c.in-Some.name.now, c.in-Some.field-0-1.now) in
    let own = own_name (function_of e) (entry_here c.funcs-functions.result.now.entries c.loop-k.k e (sym c.in-Some.ensures.entry) c.loop-k.invariant.named) in
    subst (λ (x : List ℕ). is_name x ≡ true) (sym c.as_str.ensures.value) own

pub loop-k-preserved : goal.loop-k-preserved
loop-k-preserved c =
    let entries = c.funcs-functions.result.now.entries in
    let e : Entry = (c.in-Some.name.now, c.in-Some.field-0-1.now) in
    let at = sym c.in-Some.ensures.entry in
    record {
      named = entry_later entries c.loop-k.k e at c.loop-k.invariant.named;
      left = name_pushed entries c.loop-k.k e at c.loop-k.names.items c.push.new.self.items c.name_of-own.result _ (c.name_of-own.ensures ∙ c.as_str.ensures.value) c.in_ok-push-in-Some.ensures.items c.loop-k.invariant.left;
    }
