use Rattle.std.proofs.Common.{◌∙◌, length}
use Rattle.std.specs.Prelude.{string_bytes}
use Rattle.std.proofs.lemmas.Result.{err_from_is_err_and}
use Rattle.commands.specs.Tilings.{kinds_of}
use Rattle.commands.proofs.Kept.{of_device}
use Rattle.commands.proofs.Tiled.{beside_as, list_stopped, list_told, put_as}
use Rattle.commands.proofs.tiles_command.put_tiles.Goals as goal

pub returns-in_err-put_kinds-clause-others : goal.returns-in_err-put_kinds-clause-others
returns-in_err-put_kinds-clause-others g c =
    let p = err_from_is_err_and c.from_residual.result c.from_residual.ensures.1 in
    rw p.1 (beside_as _ _ _ _ _ c.as_slice.ensures.keys c.in_err-put_kinds.ensures.others)

pub returns-in_err-tell-clause-others : goal.returns-in_err-tell-clause-others
returns-in_err-tell-clause-others g c =
    let p = err_from_is_err_and c.from_residual-in_err-tell.result c.from_residual-in_err-tell.ensures.1 in
    rw p.1 ((put_as _ _ _ _ _ c.as_slice.ensures.keys c.in_ok-put_kinds.ensures.put).1)

pub returns-in_err-name-clause-others : goal.returns-in_err-name-clause-others
returns-in_err-name-clause-others g c =
    let p = err_from_is_err_and c.from_residual-in_err-name.result c.from_residual-in_err-name.ensures.1 in
    rw p.1 ((put_as _ _ _ _ _ c.as_slice.ensures.keys c.in_ok-put_kinds.ensures.put).1)

pub returns-in_err-put-clause-device : goal.returns-in_err-put-clause-device
returns-in_err-put-clause-device g c =
    let p = err_from_is_err_and c.from_residual-in_err-put.result c.from_residual-in_err-put.ensures.1 in
    rw p.1 (of_device _ _ p.2)

pub returns-in_err-put-clause-others : goal.returns-in_err-put-clause-others
returns-in_err-put-clause-others g c =
    let put = put_as _ _ _ _ _ c.as_slice.ensures.keys c.in_ok-put_kinds.ensures.put in
    let p = err_from_is_err_and c.from_residual-in_err-put.result c.from_residual-in_err-put.ensures.1 in
    rw p.1 (list_stopped _ _ _ c.args.folder.now (length (kinds_of c.args.tiles.now)) _ (c.as_str.ensures.value ∙ c.in_ok-name.ensures) put.1 c.in_err-put.ensures.others)

pub returns-clause-put : goal.returns-clause-put
returns-clause-put g c =
    list_told _ _ _ c.args.folder.now (kinds_of c.args.tiles.now) _ _ (string_bytes c.args.tiles.now.list)
    (put_as _ _ _ _ _ c.as_slice.ensures.keys c.in_ok-put_kinds.ensures.put) (c.as_str.ensures.value ∙ c.in_ok-name.ensures) c.as_bytes.ensures.value c.in_ok-put.ensures.put
