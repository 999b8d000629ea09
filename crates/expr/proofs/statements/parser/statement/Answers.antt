use Rattle.expr.proofs.Standing.{after_kept}
use Rattle.std.proofs.Common.{◌∷◌, ◌∙◌, subst, sym}
use Rattle.tree.specs.declared.token.span.Span.{Span}
use Rattle.tree.specs.declared.token.token.Token.TheVariants as token
use Rattle.tree.specs.declared.token.token.Word.TheVariants as word
use Rattle.expr.specs.Statements.Marks.{StandIn, stands, update_marks}
use Rattle.expr.proofs.Marked.{join, left_out, skip, word_stands}
use Rattle.expr.proofs.statements.parser.statement.Goals as goal

pub returns-in-Some-clause-stands : goal.returns-in-Some-clause-stands
returns-in-Some-clause-stands c text h = c.in_ok-found.ensures.stands text (after_kept text c.args.tokens.now c.in-Some.rest.now c.in-Some.ensures.rest h)

pub returns-in-Some-after_word-clause-stands : goal.returns-in-Some-after_word-clause-stands
returns-in-Some-after_word-clause-stands c text h =
    c.in_ok-found-2.ensures.stands text (after_kept text c.args.tokens.now c.in-Some-after_word.rest.now c.in-Some-after_word.ensures.rest h)

pub returns-in-Some-clause-placed : goal.returns-in-Some-clause-placed
returns-in-Some-clause-placed c = skip (left_out 1 c.args.tokens.now c.in-Some.rest.now c.in-Some.ensures.rest) c.in_ok-found.ensures.placed

pub returns-in-Some-after_word-clause-placed : goal.returns-in-Some-after_word-clause-placed
returns-in-Some-after_word-clause-placed c =
    let ts = c.args.tokens.now in
    let found = c.in_ok-found-2.found in
    let placed = join (word_stands word.Update ts c.in-Some-after_word.rest.now _ c.in-Some-after_word.ensures.kinds c.in-Some-after_word.ensures.rest) c.in_ok-found-2.ensures.placed in
    subst (λ (s : Span). StandIn (stands (token.Word word.Update) s ∷ update_marks found) ts c.in_ok-found-2.rest.now) (sym (c.in_ok-found-2.ensures.word ∙ c.place.ensures)) placed
