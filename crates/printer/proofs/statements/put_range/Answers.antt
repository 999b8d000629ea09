use Rattle.std.proofs.Common.{rules}
use Rattle.std.proofs.lemmas.Int.{to_z-of_z}
use Rattle.std.proofs.lemmas.Result.{on_ok_weaker}
use mir.Val.{to_z, of_z, SFits}
use mir.Syntax.{w32}
use Rattle.std.specs.Prelude.{string_bytes}
use Rattle.printer.proofs.Bounds.{range_put}
use Rattle.printer.proofs.statements.put_range.Goals as goal

pub returns : goal.returns
returns c =
    let low = c.args.range.now.low in
    let high = c.args.range.now.high in
    let low_fits : SFits w32 low = search rules in
    let high_fits : SFits w32 high = search rules in
    on_ok_weaker c.put_bounds.result (λ put.
    range_put c.args.tokens.now.items c.put_name.new.tokens.items c.put_bounds.new.tokens.items c.as_str.result.now (string_bytes c.args.range.now.variable) (to_z w32 (of_z w32 low)) low (to_z w32 (of_z w32 high)) high
    c.in_ok-put_name.ensures c.as_str.ensures.value (to_z-of_z w32 low low_fits) (to_z-of_z w32 high high_fits) put)
    c.put_bounds.ensures
