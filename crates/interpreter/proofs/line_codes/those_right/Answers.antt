use Rattle.std.proofs.Common.{List, sym, subst}
use Rattle.plan.specs.View.{statement_of}
use Rattle.interpreter.specs.LineCodes.{StatementIsCoded}
use Rattle.interpreter.specs.declared.line_codes.LineCode.{LineCode}
use Rattle.interpreter.proofs.Codes.{none_coded}
use Rattle.interpreter.proofs.line_codes.those_right.Goals as goal

pub returns-then-not-are_coded : goal.returns-then-not-are_coded
returns-then-not-are_coded c =
    let body = statement_of c.args.stmt.now in
    subst (λ (l : List LineCode). StatementIsCoded l body) (sym c.clear.ensures.items) (none_coded body)
