use Rattle.std.proofs.Common.{ℤ, pos, ap, ◌∙◌, rules, w64, SFits}
use Rattle.std.specs.Prelude.{◌+ℤ◌}
use Rattle.std.specs.Int.{int_max, int_min}
use Rattle.std.proofs.lemmas.Int.{to_z-of_z}
use Rattle.interpreter.proofs.run_reading.clamped_at.Goals as goal

pub returns : goal.returns
returns c =
    let r = c.args.ramp in
    let z : ℤ = c.in_ok-value.value in
    let f : SFits w64 z = search rules in
    let g : SFits w64 r.first.value = search rules in
    c.clamped_number.ensures
    ∙ ap (λ (y : ℤ). int_max (int_min y r.high.value) r.low.value) (to_z-of_z w64 z f ∙ c.in_ok-value.ensures ∙ ap (λ (x : ℤ). x +ℤ pos c.args.turn) (to_z-of_z w64 r.first.value g))
