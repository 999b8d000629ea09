use Rattle.std.proofs.Common.{Err, map, sym, subst, ap, ◌∙◌}
use Rattle.std.proofs.lemmas.List.{length-map}
use Rattle.std.specs.Option.{option_map}
use Rattle.algo.specs.View.{algorithm_of}
use Rattle.sched.specs.Placing.{subject_of}
use Rattle.lower.specs.declared.error.LowerError.{LowerError}
use Rattle.lower.specs.Broken.{asked_count}
use Rattle.sched.specs.Stored.{stored_of}
use Rattle.sched.specs.Regions.{laid_of}
use Rattle.lower.specs.Groups.{IsKeptPlan, inside_at}
use Rattle.lower.specs.Refused.{AnswersBy, IsFirstOver, IsNoneOver}
use Rattle.lower.proofs.Told.{fault_told, placed_told, unplanned_told}
use Rattle.lower.proofs.lowering.plan_laid.Goals as goal

pub returns-in-Some : goal.returns-in-Some
returns-in-Some c =
    let a = algorithm_of c.args.algo.now in
    let us = map subject_of c.args.placement.now.subjects.items in
    let gs = map stored_of c.args.stored.now in
    let ls = map (option_map laid_of) c.args.laid.now in
    let n = c.in_ok-count.count in
    let o = c.args.placement.now.fault in
    let inside = map inside_at c.args.parties.now in
    let q = c.in_ok-first.first in
    let count = c.in_ok-count.ensures ∙ ap (λ k. asked_count us k o) (sym (length-map c.args.stored.now stored_of)) in
    let there = c.in_ok-first.ensures in
    let made = IsKeptPlan a gs ls c.args.parties.now in
    let told = sym c.unless_behind.ensures ∙ c.in-Some.is in
    let is = fault_told a us gs made o ls inside n c.in-Some.found q count there.first there.sizes there.uses told c.requires.laid in
    let P : LowerError → Type 0 = λ e. AnswersBy a gs made (IsFirstOver a us gs o ls inside) (IsNoneOver a us gs o ls inside) o (Err e) in
    subst P (sym c.refusal.ensures) is

pub returns-in-Some-fault : goal.returns-in-Some-fault
returns-in-Some-fault c =
    let a = algorithm_of c.args.algo.now in
    let us = map subject_of c.args.placement.now.subjects.items in
    let gs = map stored_of c.args.stored.now in
    let ls = map (option_map laid_of) c.args.laid.now in
    let n = c.in_ok-count.count in
    let o = c.args.placement.now.fault in
    let count = c.in_ok-count.ensures ∙ ap (λ k. asked_count us k o) (sym (length-map c.args.stored.now stored_of)) in
    let none = sym c.unless_behind.ensures ∙ c.in_default.is in
    placed_told a us gs (IsKeptPlan a gs ls c.args.parties.now) o ls (map inside_at c.args.parties.now) n (c.in-Some-fault.rule, c.in-Some-fault.name) c.in_ok-first.first count
    c.in_ok-first.ensures.first none c.in-Some-fault.is

pub returns : goal.returns
returns c =
    let a = algorithm_of c.args.algo.now in
    let us = map subject_of c.args.placement.now.subjects.items in
    let gs = map stored_of c.args.stored.now in
    let ls = map (option_map laid_of) c.args.laid.now in
    let n = c.in_ok-count.count in
    let o = c.args.placement.now.fault in
    let count = c.in_ok-count.ensures ∙ ap (λ k. asked_count us k o) (sym (length-map c.args.stored.now stored_of)) in
    let there = c.in_ok-first.ensures in
    let none = sym c.unless_behind.ensures ∙ c.in_default.is in
    unplanned_told a us gs o ls c.args.parties.now n c.in_ok-first.first c.planned.result c.in_default-fault.is count there.first there.sizes there.uses none c.requires.laid
    c.requires.roots c.requires.alone c.planned.ensures.made c.planned.ensures.told
