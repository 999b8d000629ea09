use Rattle.std.proofs.Common.{subst, sym}
use Rattle.std.specs.List.{flat_map}
use Rattle.std.proofs.lemmas.Result.{IfOk-weaker}
use Rattle.tree.specs.Token.Cursor.{kinds}
use Rattle.expr.specs.Statements.Standing.{AreOf, NamesStand}
use Rattle.expr.proofs.Wants.{behind_word}
use Rattle.expr.specs.Statements.Marks.{AreMarked, StandIn, file_marks, statement_marks}
use Rattle.expr.proofs.Marked.{close, in_all, join, name_placed, skip}
use Rattle.expr.proofs.statements.parser.file.Goals as goal

pub returns-clause-stands : goal.returns-clause-stands
returns-clause-stands c =
    IfOk-weaker c.ended.result _ _ (λ f is text h.
    let name = c.in_ok-name.ensures.stands text (c.in_ok-rest.ensures.kept text h) in
    let input = c.in_ok-input.ensures.stands text (c.in_ok-rest-2.ensures.kept text name.0) in
    let statements = c.in_ok-statements.ensures.stands text (subst (AreOf text) (sym c.in_ok-rest-3.ensures.same) input.0) in
    let output = c.in_ok-output.ensures.stands text statements.0 in
    subst (NamesStand text) (sym is) (record { name = name.1; input = input.1; statements = statements.1; output = output.1 })) c.ended.ensures.found

pub returns-in_err-name-clause-memory : goal.returns-in_err-name-clause-memory
returns-in_err-name-clause-memory c = behind_word _ (kinds c.args.tokens.now) (kinds c.in_ok-rest.rest.now) c.in_ok-rest.ensures.read

pub returns-in_err-rest-2-clause-memory : goal.returns-in_err-rest-2-clause-memory
returns-in_err-rest-2-clause-memory c = behind_word _ (kinds c.args.tokens.now) (kinds c.in_ok-rest.rest.now) c.in_ok-rest.ensures.read

pub returns-in_err-input-clause-memory : goal.returns-in_err-input-clause-memory
returns-in_err-input-clause-memory c = behind_word _ (kinds c.args.tokens.now) (kinds c.in_ok-rest.rest.now) c.in_ok-rest.ensures.read

pub returns-in_err-rest-3-clause-memory : goal.returns-in_err-rest-3-clause-memory
returns-in_err-rest-3-clause-memory c = behind_word _ (kinds c.args.tokens.now) (kinds c.in_ok-rest.rest.now) c.in_ok-rest.ensures.read

pub returns-in_err-statements-clause-memory : goal.returns-in_err-statements-clause-memory
returns-in_err-statements-clause-memory c = behind_word _ (kinds c.args.tokens.now) (kinds c.in_ok-rest.rest.now) c.in_ok-rest.ensures.read

pub returns-in_err-output-clause-memory : goal.returns-in_err-output-clause-memory
returns-in_err-output-clause-memory c = behind_word _ (kinds c.args.tokens.now) (kinds c.in_ok-rest.rest.now) c.in_ok-rest.ensures.read

pub returns-clause-memory : goal.returns-clause-memory
returns-clause-memory c = behind_word _ (kinds c.args.tokens.now) (kinds c.in_ok-rest.rest.now) c.in_ok-rest.ensures.read

pub returns-clause-placed : goal.returns-clause-placed
returns-clause-placed c =
    IfOk-weaker c.ended.result _ _ (λ f is.
    let n = c.in_ok-name.ensures in
    let name = skip c.in_ok-rest.ensures.placed (name_placed c.in_ok-rest.rest.now c.in_ok-name.rest.now c.in_ok-name.name n.read n.at n.rest) in
    let read = c.in_ok-statements in
    let statements = subst (λ ts. StandIn (flat_map statement_marks read.statements.items) ts read.rest.now) c.in_ok-rest-3.ensures.same read.ensures.placed in
    let placed = join (join (join (close name c.in_ok-rest-2.ensures.placed) c.in_ok-input.ensures.placed) statements) c.in_ok-output.ensures.placed in
    subst (λ g. AreMarked (file_marks g) c.args.tokens.now) (sym is) (in_all _ c.args.tokens.now _ placed)) c.ended.ensures.found
