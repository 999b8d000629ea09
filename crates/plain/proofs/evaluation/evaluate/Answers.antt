use Rattle.std.proofs.Common.{◌≡◌, sym, subst, refl, List, Result, Ok, Err, w64, to_z, of_z, rules}
use Rattle.std.proofs.lemmas.Int.{to_z-of_z}
use Rattle.std.specs.Prelude.{IfErr}
use Rattle.algo.specs.View.{algorithm_of, samples_of}
use Rattle.plain.specs.declared.frame.Frame.{Frame}
use Rattle.plain.specs.declared.frame.Step.{Step}
use Rattle.plain.specs.Stages.{level}
use Rattle.plain.specs.Goals.{Follows, Resumes}
use Rattle.plain.proofs.Loop.{Holds, holds_start, spent_start, waited, holds_resumed, spent_asking, holds_asked, spent_falling, holds_fallen, holds_turned}
use Rattle.plain.proofs.evaluation.evaluate.Goals as goal

always : {T E : Type 0} (r : Result T E) (Q : E → Type 0) → ((e : E) → Q e) → IfErr r Q
always (Ok x) Q f = tt
always (Err e) Q f = f e

pub returns-in_err-left-clause-spent : goal.returns-in_err-left-clause-spent
returns-in_err-left-clause-spent c =
    let a = algorithm_of c.args.algo.now in
    let s = samples_of c.args.inputs.now in
    let g = c.args.goal in
    let asked = level a s g.function g.updates g.points in
    always c.from_residual.result _ (λ e m. spent_start a s c.is_well_formed.ensures g.at.items (asked.values g.at.items) (asked.counts g.at.items) c.args.budget 0 g.function g.updates g.points c.requires.goal refl c.in_err-left.ensures.1)

pub loop-waiting-init : goal.loop-waiting-init
loop-waiting-init c =
    let a = algorithm_of c.args.algo.now in
    let s = samples_of c.args.inputs.now in
    let g = c.args.goal in
    let asked = level a s g.function g.updates g.points in
    let h = holds_start a s c.is_well_formed.ensures g.at.items (asked.values g.at.items) (asked.counts g.at.items) c.args.budget c.in_ok-left.left g.function g.updates g.points c.in_ok-frame.frame c.requires.goal c.in_ok-frame.ensures refl refl c.in_ok-left.ensures in
    subst (λ (ws : List Frame). Holds a s g.at.items (asked.values g.at.items) (asked.counts g.at.items) c.args.budget c.in_ok-left.left c.in_ok-frame.frame ws) (sym c.new-waiting.ensures.items) h

pub resumed-requires : goal.resumed-requires
resumed-requires c =
    let a = algorithm_of c.args.algo.now in
    let s = samples_of c.args.inputs.now in
    let g = c.args.goal in
    let asked = level a s g.function g.updates g.points in
    let follows = subst (λ (x : Step). Follows a s c.loop-waiting.frame x) c.in-Gives.is c.in_ok-number.ensures in
    waited a s c.is_well_formed.ensures g.at.items (asked.values g.at.items) (asked.counts g.at.items) c.args.budget c.loop-waiting.left c.loop-waiting.frame c.loop-waiting.waiting.items c.pop.new.self.items c.in-Some.below c.in-Gives.number c.loop-waiting.invariant c.in-Some.ensures.items follows.0

pub loop-waiting-preserved-in-Some : goal.loop-waiting-preserved-in-Some
loop-waiting-preserved-in-Some c =
    let a = algorithm_of c.args.algo.now in
    let s = samples_of c.args.inputs.now in
    let g = c.args.goal in
    let asked = level a s g.function g.updates g.points in
    let follows = subst (λ (x : Step). Follows a s c.loop-waiting.frame x) c.in-Gives.is c.in_ok-number.ensures in
    let back : to_z w64 (of_z w64 c.in-Gives.number) ≡ c.in-Gives.number = to_z-of_z w64 c.in-Gives.number (search rules) in
    let resumes = subst (λ z. Resumes c.in-Some.below c.loop-waiting.frame.at.items z c.in_ok-frame-in-Some.frame) back c.in_ok-frame-in-Some.ensures in
    holds_resumed a s c.is_well_formed.ensures g.at.items (asked.values g.at.items) (asked.counts g.at.items) c.args.budget c.loop-waiting.left c.loop-waiting.frame c.loop-waiting.waiting.items c.pop.new.self.items c.in-Some.below c.in-Gives.number c.in_ok-frame-in-Some.frame
    c.loop-waiting.invariant c.in-Some.ensures.items follows.0 follows.1 resumes

pub returns-in_err-left-in-Asks-clause-spent : goal.returns-in_err-left-in-Asks-clause-spent
returns-in_err-left-in-Asks-clause-spent c =
    let a = algorithm_of c.args.algo.now in
    let s = samples_of c.args.inputs.now in
    let g = c.args.goal in
    let asked = level a s g.function g.updates g.points in
    let q = c.in-Asks.goal in
    let follows = subst (λ (x : Step). Follows a s c.loop-waiting.frame x) c.in-Asks.is c.in_ok-number.ensures in
    always c.from_residual-in_err-left-in-Asks.result _ (λ e m. spent_asking a s c.is_well_formed.ensures g.at.items (asked.values g.at.items) (asked.counts g.at.items) c.args.budget c.loop-waiting.left c.loop-waiting.frame c.loop-waiting.waiting.items
    q.function q.updates q.points q.at.items c.loop-waiting.invariant follows.0 follows.1 c.in_err-left-in-Asks.ensures.1)

pub loop-waiting-preserved-in-Asks : goal.loop-waiting-preserved-in-Asks
loop-waiting-preserved-in-Asks c =
    let a = algorithm_of c.args.algo.now in
    let s = samples_of c.args.inputs.now in
    let g = c.args.goal in
    let asked = level a s g.function g.updates g.points in
    let q = c.in-Asks.goal in
    let follows = subst (λ (x : Step). Follows a s c.loop-waiting.frame x) c.in-Asks.is c.in_ok-number.ensures in
    holds_asked a s c.is_well_formed.ensures g.at.items (asked.values g.at.items) (asked.counts g.at.items) c.args.budget c.loop-waiting.left c.loop-waiting.frame c.loop-waiting.waiting.items
    q.function q.updates q.points q.at.items c.loop-waiting.invariant follows.0 follows.1 c.in_ok-left-in-Asks.left c.push.new.self.items c.in_ok-asked-in-Asks.asked c.in_ok-left-in-Asks.ensures c.in_ok-push-in-Asks.ensures.items c.in_ok-asked-in-Asks.ensures

pub returns-in_err-left-in-Falls-clause-spent : goal.returns-in_err-left-in-Falls-clause-spent
returns-in_err-left-in-Falls-clause-spent c =
    let a = algorithm_of c.args.algo.now in
    let s = samples_of c.args.inputs.now in
    let g = c.args.goal in
    let asked = level a s g.function g.updates g.points in
    let follows = subst (λ (x : Step). Follows a s c.loop-waiting.frame x) c.in-Falls.is c.in_ok-number.ensures in
    always c.from_residual-in_err-left-in-Falls.result _ (λ e m. spent_falling a s c.is_well_formed.ensures g.at.items (asked.values g.at.items) (asked.counts g.at.items) c.args.budget c.loop-waiting.left c.loop-waiting.frame c.loop-waiting.waiting.items
    c.in-Falls.updates c.in-Falls.points c.loop-waiting.invariant follows.0 follows.1 follows.2 c.in_err-left-in-Falls.ensures.1)

pub loop-waiting-preserved-in-Falls : goal.loop-waiting-preserved-in-Falls
loop-waiting-preserved-in-Falls c =
    let a = algorithm_of c.args.algo.now in
    let s = samples_of c.args.inputs.now in
    let g = c.args.goal in
    let asked = level a s g.function g.updates g.points in
    let follows = subst (λ (x : Step). Follows a s c.loop-waiting.frame x) c.in-Falls.is c.in_ok-number.ensures in
    holds_fallen a s c.is_well_formed.ensures g.at.items (asked.values g.at.items) (asked.counts g.at.items) c.args.budget c.loop-waiting.left c.loop-waiting.frame c.loop-waiting.waiting.items
    c.in-Falls.updates c.in-Falls.points c.loop-waiting.invariant follows.0 follows.1 follows.2 c.in_ok-left-in-Falls.left c.in_ok-frame-in-Falls.frame c.in_ok-left-in-Falls.ensures c.in_ok-frame-in-Falls.ensures

pub loop-waiting-preserved : goal.loop-waiting-preserved
loop-waiting-preserved c =
    let a = algorithm_of c.args.algo.now in
    let s = samples_of c.args.inputs.now in
    let g = c.args.goal in
    let asked = level a s g.function g.updates g.points in
    let follows = subst (λ (x : Step). Follows a s c.loop-waiting.frame x) c.in-Turns.is c.in_ok-number.ensures in
    holds_turned a s c.is_well_formed.ensures g.at.items (asked.values g.at.items) (asked.counts g.at.items) c.args.budget c.loop-waiting.left c.loop-waiting.frame c.loop-waiting.waiting.items c.in-Turns.stage c.in_ok-frame-in-Turns.frame
    c.loop-waiting.invariant follows.0 follows.1 follows.2 c.in_ok-frame-in-Turns.ensures
