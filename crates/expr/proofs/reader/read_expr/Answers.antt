use Rattle.std.proofs.Common.{length, inr, inl, Result, Err, ap, sym, subst, ◌∙◌}
use Rattle.tree.specs.Token.Cursor.{kinds}
use Rattle.tree.specs.Term.{Term, term_of}
use Rattle.expr.specs.declared.error.Refusal.{Refusal}
use Rattle.expr.specs.Parsing.{whole}
use Rattle.expr.specs.Places.{Part, Stands}
use Rattle.expr.specs.Text.{place_left, extent, LongNameAt, TooLargeAt}
use Rattle.expr.proofs.Texts.{whole_stands, none_of_form, none_of_name, none_of_size}
use Rattle.expr.proofs.reader.read_expr.Goals as goal

abbrev failed : Refusal → Result Term Refusal
failed r = Err r

pub returns-in-Ok-clause-found : goal.returns-in-Ok-clause-found
returns-in-Ok-clause-found c =
    let read = ap (λ ls. whole (kinds ls)) (sym c.deref.ensures.value) ∙ c.in-Ok.ensures.read in
    record { lexemes = c.in_ok-lexemes.lexemes.items; tokens = c.in_ok-lexemes.ensures.found; stands = (whole_stands (kinds c.in_ok-lexemes.lexemes.items) (term_of c.in-Ok.expr) read).0 }

pub returns-in-Ok-clause-small : goal.returns-in-Ok-clause-small
returns-in-Ok-clause-small c =
    let read = ap (λ ls. whole (kinds ls)) (sym c.deref.ensures.value) ∙ c.in-Ok.ensures.read in
    (whole_stands (kinds c.in_ok-lexemes.lexemes.items) (term_of c.in-Ok.expr) read).1

pub returns-in-Err-Refused-BadForm-clause-refused : goal.returns-in-Err-Refused-BadForm-clause-refused
returns-in-Err-Refused-BadForm-clause-refused c =
    let arm = c.in-Err-Refused-BadForm in
    let text = c.args.text.now in
    let items = c.in_ok-lexemes.lexemes.items in
    let refused = rw arm.field-0-is at arm.ensures.read in
    let read = ap (λ ls. whole (kinds ls)) (sym c.deref.ensures.value) ∙ refused ∙ ap failed arm.field-0-0-is in
    record {
      lexemes = items;
      tokens = c.in_ok-lexemes.ensures.found;
      left = arm.left;
      read = read;
      at = c.place_left.ensures ∙ ap (λ ls. place_left ls arm.left (length text)) c.deref-in-Err-Refused-BadForm.ensures.value;
      none = none_of_form text items c.in_ok-lexemes.ensures.only arm.left read;
    }

pub returns-in-Err-Refused-LongName-clause-refused : goal.returns-in-Err-Refused-LongName-clause-refused
returns-in-Err-Refused-LongName-clause-refused c =
    let arm = c.in-Err-Refused-LongName in
    let text = c.args.text.now in
    let items = c.in_ok-lexemes.lexemes.items in
    let refused = rw arm.field-0-is at arm.ensures.read in
    let read = ap (λ ls. whole (kinds ls)) (sym c.deref.ensures.value) ∙ refused ∙ ap failed arm.field-0-0-is in
    let found : LongNameAt text c.place_left-in-Err-Refused-LongName.result = record {
      lexemes = items;
      tokens = c.in_ok-lexemes.ensures.found;
      left = arm.left;
      read = read;
      at = c.place_left-in-Err-Refused-LongName.ensures ∙ ap (λ ls. place_left ls arm.left (length text)) c.deref-in-Err-Refused-LongName.ensures.value;
      none = none_of_name text items c.in_ok-lexemes.ensures.only arm.left read;
    } in
    inr (inl found)

pub returns-clause-refused : goal.returns-clause-refused
returns-clause-refused c =
    let arm = c.in-Err-Refused-TooLarge in
    let text = c.args.text.now in
    let items = c.in_ok-lexemes.lexemes.items in
    let refused = rw arm.field-0-is at arm.ensures.read in
    let read = ap (λ ls. whole (kinds ls)) (sym c.deref.ensures.value) ∙ refused ∙ ap failed arm.field-0-0-is in
    let found : TooLargeAt text c.extent.result = record {
      lexemes = items;
      tokens = c.in_ok-lexemes.ensures.found;
      read = read;
      at = c.extent.ensures ∙ ap (λ ls. extent ls (length text)) c.deref-in-Err-Refused-TooLarge.ensures.value;
      none = none_of_size text items c.in_ok-lexemes.ensures.only read;
    } in
    inr (inr found)

pub returns-in-Ok-clause-placed : goal.returns-in-Ok-clause-placed
returns-in-Ok-clause-placed c =
    record { lexemes = c.in_ok-lexemes.lexemes.items; tokens = c.in_ok-lexemes.ensures.found; stands = subst (Part (Stands c.in-Ok.expr)) c.deref.ensures.value c.in-Ok.ensures.placed }
