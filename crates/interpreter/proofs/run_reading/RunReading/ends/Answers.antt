use Rattle.std.proofs.Common.{◌≡◌, ◌<◌, ℤ, get_or, length, pos, sym, ◌∙◌, rules, w64, SFits}
use Rattle.std.proofs.lemmas.Int.{to_z-of_z}
use Rattle.std.proofs.lemmas.List.{get_or_read}
use Rattle.interpreter.proofs.Moving.{moved}
use Rattle.interpreter.proofs.NamedPlaces.{number_moved}
use Rattle.interpreter.specs.Runs.{numbers_at}
use Rattle.interpreter.proofs.run_reading.RunReading.ends.Goals as goal

pub returns : goal.returns
returns c = λ k.
    let r = c.args.self.now in
    let i = c.in_ok-place.place in
    let a : ℤ = c.in_ok-first.field-0.now in
    let b : ℤ = c.in_ok-second.field-0.now in
    let a_fits : SFits w64 a = search rules in
    let b_fits : SFits w64 b = search rules in
    let one : (i < length r.first.now) = c.in_ok-first.ensures.lookup.3.0 in
    let two : get_or r.first.now i (pos 0) ≡ a = sym (get_or_read r.first.now i a one c.in_ok-first.ensures.lookup.1 (pos 0)) in
    let three : (i < length r.second.now) = c.in_ok-second.ensures.lookup.3.0 in
    let four : get_or r.second.now i (pos 0) ≡ b = sym (get_or_read r.second.now i b three c.in_ok-second.ensures.lookup.1 (pos 0)) in
    c.in_ok-place.ensures (numbers_at r.first.now r.second.now k) ∙ number_moved r.first.now r.second.now i k one three ∙ (λ j. moved (two j) (four j) k)
    ∙ (λ j. moved (sym (to_z-of_z w64 a a_fits) j) (sym (to_z-of_z w64 b b_fits) j) k)
