use Rattle.expr.proofs.Standing.{after_kept}
use Rattle.tree.specs.declared.token.token.Symbol.TheVariants as symbol
use Rattle.expr.specs.Grammar.{sign}
use Rattle.std.proofs.Common.{[], ◌∷◌, subst, sym}
use Rattle.tree.specs.declared.token.span.Span.{Span}
use Rattle.expr.specs.Statements.Marks.{StandIn, begins, ends, number_token}
use Rattle.expr.proofs.Marked.{ends_with, join, number_placed, sign_begins}
use Rattle.expr.proofs.statements.parser.bound.Goals as goal

pub returns-in_ok-found-in-Some-clause-kept : goal.returns-in_ok-found-in-Some-clause-kept
returns-in_ok-found-in-Some-clause-kept c text h =
    c.in_ok-found-in-Some.ensures.kept text (after_kept text c.args.tokens.now c.in-Some.next.now c.in-Some.ensures.rest h)

pub returns-in_ok-found-in-Some-clause-placed : goal.returns-in_ok-found-in-Some-clause-placed
returns-in_ok-found-in-Some-clause-placed c =
    let ts = c.args.tokens.now in
    let next = c.in-Some.next.now in
    let found = c.in_ok-found-in-Some.found in
    let rest = c.in_ok-found-in-Some.rest.now in
    let n = c.in_ok-found-in-Some.ensures in
    let number = ends_with (number_token found.number) found.span next rest (number_placed next rest found n.read n.at n.rest) in
    subst (λ (s : Span). StandIn (begins (sign symbol.Minus) s.start ∷ ends (number_token found.number) found.span.end ∷ []) ts rest) (sym c.place.ensures)
    (join (sign_begins symbol.Minus ts next _ c.in-Some.ensures.kinds c.in-Some.ensures.rest) number)

pub returns-in_ok-found-in-None-clause-placed : goal.returns-in_ok-found-in-None-clause-placed
returns-in_ok-found-in-None-clause-placed c =
    let n = c.in_ok-found-in-None.ensures in
    number_placed c.args.tokens.now c.in_ok-found-in-None.rest.now c.in_ok-found-in-None.found n.read n.at n.rest
