use Rattle.std.proofs.Common.{◌≡◌, Some, None, sym, subst, ◌∙◌}
use Rattle.plan.specs.View.{plan_of}
use Rattle.spelling.specs.Lines.Texts.{IsRefused}
use Rattle.spelling.proofs.TermsAgain.{term_again}
use Rattle.spelling.proofs.Plain.{term_plain}
use Rattle.nest.specs.Notation.{plan_notation}
use Rattle.nest.specs.Reader.{state_of, next_state, finished_state}
use Rattle.nest.proofs.Exits.{reading_more, reading_whole, reading_ends, reading_refused, empty_is, some_left}
use Rattle.nest.proofs.text.read_bytes.Goals as goal

pub returns-in_default-2-clause-refused : goal.returns-in_default-2-clause-refused
returns-in_default-2-clause-refused c =
    let none : next_state c.loop-line.number c.in-Some.line.now (state_of c.loop-line.reader) ≡ None = rw c.in_default-2.is at c.in_ok-next.ensures in
    subst (λ e. IsRefused plan_notation 1 c.args.text.now e) (sym c.in_ok-refusal.ensures)
    (reading_refused term_again term_plain c.args.text.now c.loop-line.rest.now c.in-Some.line.now c.in-Some.after.now c.loop-line.number (state_of c.loop-line.reader) c.loop-line.invariant c.in-Some.ensures.spelled c.in-Some.ensures.line none)

pub loop-line-preserved : goal.loop-line-preserved
loop-line-preserved c =
    let some : next_state c.loop-line.number c.in-Some.line.now (state_of c.loop-line.reader) ≡ Some (state_of c.in-Some-2.next) = rw c.in-Some-2.is at c.in_ok-next.ensures in
    reading_more c.args.text.now c.loop-line.rest.now c.in-Some.line.now c.in-Some.after.now c.loop-line.number (state_of c.loop-line.reader) (state_of c.in-Some-2.next) c.loop-line.invariant c.in-Some.ensures.spelled some

pub returns-then-not-is_empty-clause-refused : goal.returns-then-not-is_empty-clause-refused
returns-then-not-is_empty-clause-refused c =
    reading_ends term_again term_plain c.args.text.now c.loop-line.rest.now c.loop-line.number (state_of c.loop-line.reader) c.loop-line.invariant c.in_default.ensures.none
    (λ none. absurd (some_left c.loop-line.rest.now (sym c.if-not-is_empty.true ∙ c.is_empty.ensures) none))

pub returns-in_default-3-clause-refused : goal.returns-in_default-3-clause-refused
returns-in_default-3-clause-refused c =
    let none : finished_state (state_of c.loop-line.reader) ≡ None = rw c.in_default-3.is at c.in_ok-plan.ensures in
    reading_ends term_again term_plain c.args.text.now c.loop-line.rest.now c.loop-line.number (state_of c.loop-line.reader) c.loop-line.invariant c.in_default.ensures.none (λ e. none)

pub returns-clause-said : goal.returns-clause-said
returns-clause-said c =
    let whole : finished_state (state_of c.loop-line.reader) ≡ Some (plan_of c.in-Some-3.plan) = rw c.in-Some-3.is at c.in_ok-plan.ensures in
    reading_whole c.args.text.now c.loop-line.rest.now c.loop-line.number (state_of c.loop-line.reader) (plan_of c.in-Some-3.plan) c.loop-line.invariant (empty_is c.loop-line.rest.now (sym c.if-not-is_empty.false ∙ c.is_empty.ensures)) whole
