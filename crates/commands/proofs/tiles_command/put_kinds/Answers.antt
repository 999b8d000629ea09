use Rattle.std.proofs.Common.{◌∙◌, ◌<◌, ◌≤◌, ◌^◌, length, rules}
use Rattle.std.proofs.lemmas.Result.{err_from_is_err_and}
use Rattle.commands.proofs.Kept.{of_device}
use Rattle.commands.proofs.Tiled.{all_kinds, kinds_next, kinds_stopped, none_put}
use Rattle.commands.proofs.tiles_command.put_kinds.Goals as goal

pub loop-kind-init : goal.loop-kind-init
loop-kind-init g c = none_put _ _ _

pub returns-in_err-put-clause-others : goal.returns-in_err-put-clause-others
returns-in_err-put-clause-others g c =
    let p = err_from_is_err_and c.from_residual-in_err-put.result c.from_residual-in_err-put.ensures.1 in
    rw p.1 (kinds_stopped _ _ _ c.args.folder.now c.args.kinds.now c.loop-kind.kind _ c.loop-kind-test.true (c.as_str.ensures.value ∙ c.in_ok-name.ensures)
    c.loop-kind.invariant.1 c.in_err-put.ensures.others)

pub returns-in_err-put-clause-device : goal.returns-in_err-put-clause-device
returns-in_err-put-clause-device g c =
    let p = err_from_is_err_and c.from_residual-in_err-put.result c.from_residual-in_err-put.ensures.1 in
    rw p.1 (of_device _ _ p.2)

pub loop-kind-preserved : goal.loop-kind-preserved
loop-kind-preserved g c =
    let small : c.loop-kind.kind < 2 ^ 64 = search rules in
    kinds_next _ _ _ c.args.folder.now c.args.kinds.now c.loop-kind.kind c.index-kinds-kind.result _ _ small c.loop-kind-test.true c.index-kinds-kind.is
    (c.as_str.ensures.value ∙ c.in_ok-name.ensures) c.as_bytes.ensures.value c.loop-kind.invariant c.in_ok-put.ensures.put

pub returns-clause-put : goal.returns-clause-put
returns-clause-put g c =
    let le : c.loop-kind.kind ≤ length c.args.kinds.now = search rules in
    all_kinds _ _ c.args.folder.now c.args.kinds.now c.loop-kind.kind le c.loop-kind-test.false c.loop-kind.invariant
