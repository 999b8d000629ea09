use Rattle.std.proofs.Common.{◌≡◌, ◌+◌, List, Option, None, map, sym, ap, subst, ◌∙◌, arith}
use Rattle.std.specs.List.{list_any}
use Rattle.std.specs.Option.{option_map}
use Rattle.algo.specs.View.{algorithm_of}
use Rattle.sched.specs.Placing.{subject_of}
use Rattle.lower.specs.declared.parties.Party.{Party}
use Rattle.lower.specs.Asked.{unless}
use Rattle.lower.specs.Groups.{IsKeptPlan, all_laid, asked, inside_at, is_missing, placed_in}
use Rattle.lower.specs.Refused.{AnswersBy, IsFirstOver, IsNoneOver}
use Rattle.sched.specs.Regions.{LaidText, laid_of}
use Rattle.sched.specs.Stored.{stored_of}
use Rattle.lower.proofs.Asking.{no_others}
use Rattle.lower.proofs.lowering.+plan_by_turns.Goals as goal

pub returns : goal.returns
returns t c =
    let a = algorithm_of c.args.algo.now in
    let gs = map stored_of c.args.stored.now in
    let ls = map (option_map laid_of) c.args.laid.now in
    let o = c.args.placement.now.fault in
    let r = c.plan_laid-in-None.result in
    let qs : List Party = c.in_ok-parties.parties.items in
    let next : c.args.rounds ≡ c.in-Some.left + 1 = omega (arith, c.in-Some.ensures) in
    let by : List Party → Option (List (Option LaidText)) = λ ps. unless (list_any is_missing (map inside_at ps)) (asked a gs ls (map placed_in (map inside_at ps))) in
    let none : None ≡ by qs = sym (ap (option_map all_laid) c.in-None.is) ∙ c.in_ok-others.ensures.asked ∙ ap by c.deref-2.ensures.value in
    let us = map subject_of c.args.placement.now.subjects.items in
    let P : List Party → Type 0 =
    λ ps. AnswersBy a gs (IsKeptPlan a gs ls ps) (IsFirstOver a us gs o ls (map inside_at ps)) (IsNoneOver a us gs o ls (map inside_at ps)) o r in
    let is : P qs = subst P c.deref-in-None.ensures.value c.plan_laid-in-None.ensures in
    let there = c.in_ok-parties.ensures in
    no_others a us gs ls qs o r there.roots there.homes there.found c.args.rounds c.in-Some.left next none is c.requires.laid
