use Rattle.std.proofs.Common.{◌≡◌, ℕ, ◌+◌, Bool, List, map, arith, sym, ◌∙◌}
use Rattle.std.specs.Prelude.{◌||◌, string_bytes}
use Rattle.std.specs.declared.string.String.{String}
use Rattle.std.specs.Global.{Global}
use Rattle.meaning.specs.Names.{same_name}
use Rattle.algo.specs.declared.function.Function.{Function as Held}
use Rattle.algo.specs.View.{algorithm_of}
use Rattle.sched.specs.declared.calls.Call.{Call}
use Rattle.sched.specs.Calls.{call_of}
use Rattle.sched.specs.Stored.{are_calls_of}
use Rattle.regions.proofs.Gathering.{called_by_text, other_by_text}
use Rattle.regions.proofs.lacking.+calls_by_text.Goals as goal

pub returns-then-is_named_or_called : goal.returns-then-is_named_or_called
returns-then-is_named_or_called t c =
    let a = algorithm_of c.args.algo.now in
    let e : String Global × Held = (c.in-Some.own.now, c.in-Some.function.now) in
    let x = c.args.name.now in
    let behind = c.in_ok-behind.behind.items in
    let next : c.in-Some-checked_add.next ≡ c.args.number + 1 = omega (arith, c.in-Some-checked_add.ensures) in
    let test : List ℕ → List Call → Bool = λ y cs. same_name y x || are_calls_of y (map call_of cs) in
    let named : test c.as_str.result.now c.deref.result.now ≡ test (string_bytes c.in-Some.own.now) behind = (λ i. test (c.as_str.ensures.value i) (c.deref.ensures.value i)) in
    called_by_text a.functions c.funcs.result.now.entries c.args.number c.in-Some-checked_add.next e x behind c.in_ok-calls.calls.items c.append.new.self.items
    c.funcs.ensures (sym c.in-Some.ensures.entry) next c.in_ok-behind.ensures c.in_ok-calls.ensures c.in_ok-append.ensures.items
    (sym named ∙ sym c.is_named_or_called.ensures ∙ c.if-is_named_or_called.true)

pub returns : goal.returns
returns t c =
    let a = algorithm_of c.args.algo.now in
    let e : String Global × Held = (c.in-Some.own.now, c.in-Some.function.now) in
    let x = c.args.name.now in
    let behind = c.in_ok-behind.behind.items in
    let next : c.in-Some-checked_add.next ≡ c.args.number + 1 = omega (arith, c.in-Some-checked_add.ensures) in
    let test : List ℕ → List Call → Bool = λ y cs. same_name y x || are_calls_of y (map call_of cs) in
    let named : test c.as_str.result.now c.deref.result.now ≡ test (string_bytes c.in-Some.own.now) behind = (λ i. test (c.as_str.ensures.value i) (c.deref.ensures.value i)) in
    other_by_text a.functions c.funcs.result.now.entries c.args.number c.in-Some-checked_add.next e x behind
    c.funcs.ensures (sym c.in-Some.ensures.entry) next c.in_ok-behind.ensures (sym named ∙ sym c.is_named_or_called.ensures ∙ c.if-is_named_or_called.false)
