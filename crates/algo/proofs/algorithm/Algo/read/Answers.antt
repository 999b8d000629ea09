use Rattle.std.proofs.Common.{map, inr, IfErr, rules}
use Rattle.std.proofs.lemmas.Result.{IfErr-weaker}
use Rattle.expr.specs.Statements.View.{statement_text}
use Rattle.algo.specs.Refusal.{IsRefusedPlace, IsRefusedText}
use Rattle.algo.specs.Faults.{TellsOfFile}
use Rattle.algo.proofs.Calls.{calls_stand}
use Rattle.algo.proofs.Exclusion.{error_excludes}
use Rattle.algo.proofs.Small.{all_small}
use Rattle.algo.proofs.algorithm.Algo.read.Goals as goal

pub read_file-requires-clause-small : goal.read_file-requires-clause-small
read_file-requires-clause-small c = all_small (map statement_text c.in_ok-file.file.statements.items) c.in_ok-file.ensures.small

pub read_file-requires-clause-read : goal.read_file-requires-clause-read
read_file-requires-clause-read c =
    let read = c.in_ok-file.ensures in
    ∣ (c.args.text.now, record { found = read.found; only = read.only }) ∣₁

pub returns-in_err-file-clause-only : goal.returns-in_err-file-clause-only
returns-in_err-file-clause-only c =
    let refused : IfErr c.from_residual.result (IsRefusedText c.args.text.now) = search rules in
    error_excludes c.args.text.now c.from_residual.result refused

pub returns-clause-only : goal.returns-clause-only
returns-clause-only c =
    let refused : IfErr c.read_file.result (IsRefusedText c.args.text.now) = search rules in
    error_excludes c.args.text.now c.read_file.result refused

pub returns-clause-place : goal.returns-clause-place
returns-clause-place c =
    let file = c.in_ok-file.file in
    let read = c.in_ok-file.ensures in
    IfErr-weaker c.read_file.result (TellsOfFile file) (IsRefusedPlace c.args.text.now) (λ e h. inr (record { file = file; found = read.found; only = read.only; stands = read.stands; placed = read.placed; called = calls_stand c.args.text.now file read.placed; fault = h })) c.read_file.ensures.place
