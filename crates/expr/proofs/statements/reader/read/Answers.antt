use Rattle.std.proofs.Common.{List, IsSome, length, ap, sym, subst, ◌∙◌}
use Rattle.tree.specs.declared.token.token.Lexeme.{Lexeme}
use Rattle.tree.specs.declared.token.token.Word.TheVariants as word
use Rattle.tree.specs.Token.Cursor.{kinds, after_word}
use Rattle.expr.specs.Statements.View.{file_text}
use Rattle.expr.specs.Statements.Reading.{file}
use Rattle.expr.specs.Statements.Places.{fault, IsRefused}
use Rattle.expr.specs.Statements.Standing.{AreOf}
use Rattle.expr.specs.Statements.Marks.{AreMarked, file_marks}
use Rattle.expr.proofs.StatementsSound.{file_sound}
use Rattle.expr.proofs.Wants.{token_stands}
use Rattle.expr.proofs.StatementsTexts.{nothing_else, refused_as}
use Rattle.expr.proofs.statements.reader.read.Goals as goal

pub returns-in-Ok-clause-found : goal.returns-in-Ok-clause-found
returns-in-Ok-clause-found c =
    let read = ap (λ ls. file (kinds ls)) (sym c.deref.ensures.value) ∙ c.in-Ok.ensures.read in
    record { lexemes = c.in_ok-lexemes.lexemes.items; tokens = c.in_ok-lexemes.ensures.found; stands = (file_sound (kinds c.in_ok-lexemes.lexemes.items) (file_text c.in-Ok.found) read).0 }

pub returns-in-Ok-clause-only : goal.returns-in-Ok-clause-only
returns-in-Ok-clause-only c other s =
    let read = ap (λ ls. file (kinds ls)) (sym c.deref.ensures.value) ∙ c.in-Ok.ensures.read in
    nothing_else c.args.text.now c.in_ok-lexemes.lexemes.items c.in_ok-lexemes.ensures.found c.in_ok-lexemes.ensures.only (file_text c.in-Ok.found) other read s

pub returns-in-Ok-clause-small : goal.returns-in-Ok-clause-small
returns-in-Ok-clause-small c =
    let read = ap (λ ls. file (kinds ls)) (sym c.deref.ensures.value) ∙ c.in-Ok.ensures.read in
    (file_sound (kinds c.in_ok-lexemes.lexemes.items) (file_text c.in-Ok.found) read).1

pub returns-in-Ok-clause-stands : goal.returns-in-Ok-clause-stands
returns-in-Ok-clause-stands c =
    let text = c.args.text.now in
    c.in-Ok.ensures.stands text (subst (AreOf text) (sym c.deref.ensures.value) (record { slices = c.in_ok-lexemes.ensures.slices }))

pub returns-in-Ok-clause-placed : goal.returns-in-Ok-clause-placed
returns-in-Ok-clause-placed c =
    record {
      lexemes = c.in_ok-lexemes.lexemes.items;
      tokens = c.in_ok-lexemes.ensures.found;
      marked = subst (AreMarked (file_marks c.in-Ok.found)) c.deref.ensures.value c.in-Ok.ensures.placed;
    }

pub returns-clause-refused : goal.returns-clause-refused
returns-clause-refused c =
    let arm = c.in-Err-Refused in
    let text = c.args.text.now in
    let items = c.in_ok-lexemes.lexemes.items in
    let refused = rw arm.field-0-is at arm.ensures.read in
    let read = ap (λ ls. file (kinds ls)) (sym c.deref.ensures.value) ∙ refused in
    let is = c.fault.ensures ∙ ap (λ ls. fault arm.refusal ls (length text)) c.deref-in-Err-Refused.ensures.value in
    subst (IsRefused text) (sym is) (refused_as text items c.in_ok-lexemes.ensures.found c.in_ok-lexemes.ensures.only arm.refusal read)

pub returns-in-Err-Memory-clause-refused : goal.returns-in-Err-Memory-clause-refused
returns-in-Err-Memory-clause-refused c =
    let arm = c.in-Err-Memory in
    let wanted = rw arm.field-0-is at arm.ensures.memory in
    let word_stands = subst (λ (ls : List Lexeme). IsSome (after_word word.Pipeline (kinds ls))) c.deref.ensures.value wanted in
    token_stands c.args.text.now c.in_ok-lexemes.lexemes.items c.in_ok-lexemes.ensures.long c.in_ok-lexemes.ensures.found word_stands
