use Rattle.std.proofs.Common.{length, ap, sym, subst, ◌∙◌}
use Rattle.tree.specs.Token.Cursor.{kinds}
use Rattle.sched.specs.View.{schedule_of}
use Rattle.sched.specs.Reading.{file}
use Rattle.sched.specs.Text.{fault, IsRefused}
use Rattle.sched.proofs.Sound.{file_is}
use Rattle.sched.proofs.Texts.{nothing_else, refused_as}
use Rattle.sched.proofs.schedule.Sched.read.Goals as goal

pub returns-in-Ok-clause-found : goal.returns-in-Ok-clause-found
returns-in-Ok-clause-found c =
    let read = ap (λ ls. file (kinds ls)) (sym c.deref.ensures.value) ∙ c.in-Ok.ensures in
    record { lexemes = c.in_ok-lexemes.lexemes.items; tokens = c.in_ok-lexemes.ensures.found; stands = file_is (kinds c.in_ok-lexemes.lexemes.items) (schedule_of c.in-Ok.found) read }

pub returns-in-Ok-clause-only : goal.returns-in-Ok-clause-only
returns-in-Ok-clause-only c other s =
    let read = ap (λ ls. file (kinds ls)) (sym c.deref.ensures.value) ∙ c.in-Ok.ensures in
    nothing_else c.args.text.now c.in_ok-lexemes.lexemes.items c.in_ok-lexemes.ensures.found c.in_ok-lexemes.ensures.only (schedule_of c.in-Ok.found) other read s

pub returns-clause-refused : goal.returns-clause-refused
returns-clause-refused c =
    let arm = c.in-Err-Refused in
    let text = c.args.text.now in
    let items = c.in_ok-lexemes.lexemes.items in
    let refused = rw arm.field-0-is at arm.ensures in
    let read = ap (λ ls. file (kinds ls)) (sym c.deref.ensures.value) ∙ refused in
    let is = c.fault.ensures ∙ ap (λ ls. fault arm.refusal ls (length text)) c.deref-in-Err-Refused.ensures.value in
    subst (IsRefused text) (sym is) (refused_as text items c.in_ok-lexemes.ensures.found c.in_ok-lexemes.ensures.only arm.refusal read)
