use Rattle.std.proofs.Common.{◌≡◌, ◌+◌, IfOk, List, ◌∷◌, map, drop, sym, ap, subst, ◌∙◌, arith}
use Rattle.std.specs.declared.string.String.{String}
use Rattle.std.specs.Global.{Global}
use Rattle.algo.specs.declared.function.Function.{Function as Held}
use Rattle.algo.specs.Parts.{function_of}
use Rattle.algo.specs.View.{algorithm_of}
use Rattle.sched.specs.Placing.{subject_of, placed_of}
use Rattle.sched.specs.declared.definitions.Stored.{Stored}
use Rattle.sched.specs.Stored.{StoredText, stored_of}
use Rattle.sched.proofs.Entries.{function_here}
use Rattle.blocks.proofs.Entries.{none_known, none_placed, stored_next}
use Rattle.blocks.proofs.definitions.+stored_from.Goals as goal

pub returns-in-empty : goal.returns-in-empty
returns-in-empty t c =
    let a = algorithm_of c.args.algo.now in
    ap (λ (v : List Stored). map stored_of v) c.new-in-empty.ensures.items
    ∙ sym (none_known a c.args.stored.now (drop c.args.number a.functions) c.args.subjects.now (map placed_of c.args.placed.now) (omega (arith, c.in-empty.len_below)))

pub returns-in-empty-placed : goal.returns-in-empty-placed
returns-in-empty-placed t c =
    let a = algorithm_of c.args.algo.now in
    ap (λ (v : List Stored). map stored_of v) c.new-in-empty-placed.ensures.items
    ∙ sym (none_placed a c.args.stored.now (drop c.args.number a.functions) (map subject_of c.args.subjects.now) c.args.placed.now (omega (arith, c.in-empty-placed.len_below)))

pub returns-in_ok-found-in-len1-up-placed : goal.returns-in_ok-found-in-len1-up-placed
returns-in_ok-found-in-len1-up-placed t c =
    let a = algorithm_of c.args.algo.now in
    let n = c.args.number in
    let us = c.args.subjects.now in
    let ps = c.args.placed.now in
    let e : String Global × Held = (c.in-Some.field-0-0.now, c.in-Some.function.now) in
    let next : c.in-Some-checked_add.next ≡ n + 1 = omega (arith, c.in-Some-checked_add.ensures) in
    let here : drop n a.functions ≡ function_of e ∷ drop c.in-Some-checked_add.next a.functions =
    function_here a.functions c.funcs.result.now.entries n e c.funcs.ensures (sym c.in-Some.ensures.entry) ∙ ap (λ k. function_of e ∷ drop k a.functions) (sym next) in
    let is = stored_next a c.args.stored.now (drop n a.functions) (drop c.in-Some-checked_add.next a.functions) (function_of e)
    us c.subject-item.result ps c.first-item.result (map stored_of c.in_ok-found-in-len1-up-placed.found.items)
    here (omega (arith, c.in-len1-up.len_at_least)) c.subject-item.is (omega (arith, c.in-len1-up-placed.len_at_least)) c.first-item.is c.in_ok-found-in-len1-up-placed.ensures in
    let P : List StoredText → Type 0 = λ x. IfOk c.with_stored.result (λ v. map stored_of v.items ≡ x) in
    subst P is c.with_stored.ensures
