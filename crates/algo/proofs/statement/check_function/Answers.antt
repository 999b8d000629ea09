use Rattle.std.proofs.Common.{ℕ, List, subst}
use Rattle.meaning.specs.Names.{is_among}
use Rattle.meaning.specs.Conditions.{callable}
use Rattle.algo.specs.Parts.{functions_of}
use Rattle.algo.specs.Context.{only_input}
use Rattle.algo.specs.Faults.{BadTypeAt}
use Rattle.algo.proofs.statement.check_function.Goals as goal

pub returns-in-Err-clause-place : goal.returns-in-Err-clause-place
returns-in-Err-clause-place c =
    let calls = callable (only_input c.args.context.now.input.now) (functions_of c.args.context.now.functions.now) in
    subst (λ (vs : List (List ℕ)). BadTypeAt (is_among vs) calls c.args.statement.now.ty c.args.statement.now.value c.in-Err.span) c.requires c.in-Err.ensures.place
