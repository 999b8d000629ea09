use Rattle.std.proofs.Common.{◌≡◌, ◌≤ℤ◌, arith, refl, rules, w64, to_z, of_z, SFits}
use Rattle.std.proofs.lemmas.Int.{ints, to_z-of_z}
use Rattle.interpreter.proofs.ShiftedLoops.{narrow_at}
use Rattle.interpreter.proofs.shifting.last_alike.Goals as goal

pub is_first_form-requires-clause-narrow : goal.is_first_form-requires-clause-narrow
is_first_form-requires-clause-narrow c =
    let t = c.args.outer in
    let fits : SFits w64 t.high = search rules in
    let same : to_z w64 (of_z w64 t.high) ≡ t.high = to_z-of_z w64 t.high fits in
    let from : t.low ≤ℤ t.high = first_of (omega (arith, ints), grind (arith, ints), search rules) in
    let to : t.high ≤ℤ t.high = omega (arith, ints) in
    narrow_at c.args.name.now t c.args.symbols.now c.args.symbols.now t.high (to_z w64 (of_z w64 t.high)) c.requires.narrow refl same from to

pub is_first_form-requires-2-clause-narrow : goal.is_first_form-requires-2-clause-narrow
is_first_form-requires-2-clause-narrow c =
    let t = c.args.outer in
    let z = c.turn_before-before.result in
    let fits : SFits w64 z = search rules in
    let same : to_z w64 (of_z w64 z) ≡ z = to_z-of_z w64 z fits in
    narrow_at c.args.name.now t c.args.symbols.now c.is_first_form.new.symbols z (to_z w64 (of_z w64 z)) c.requires.narrow c.is_first_form.ensures.symbols same
    c.turn_before-before.ensures.from c.turn_before-before.ensures.to
