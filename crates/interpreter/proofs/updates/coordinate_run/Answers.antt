use Rattle.std.proofs.Common.{◌<◌, ℕ, ℤ, List, Option, Some, length, map, pos, ◌+ℤ◌, sym, ap, ◌∙◌, rules, arith, w64, SFits}
use Rattle.std.specs.Prelude.{◌-ℤ◌, ◌*ℤ◌, string_bytes}
use Rattle.std.proofs.lemmas.Int.{to_z-of_z}
use Rattle.meaning.specs.Names.{bound}
use Rattle.plan.specs.View.{coordinate_of}
use Rattle.plan.specs.Semantics.Run.{look}
use Rattle.interpreter.specs.Pieces.{around, no_cells}
use Rattle.interpreter.specs.Runs.{numbers_at}
use Rattle.interpreter.specs.Updates.{place_number}
use Rattle.interpreter.proofs.Updating.{front_number}
use Rattle.interpreter.proofs.updates.coordinate_run.Goals as goal

pub returns : goal.returns
returns c = λ m but k lt.
    let r = c.args.reader.now in
    let names : List (List ℕ) = map (λ x. string_bytes x.variable) r.coordinates.now in
    let place : ℤ → ℤ → Option ℤ =
    λ a b. place_number (bound names (numbers_at r.first.now r.second.now k)) (look (around r.piece.now no_cells) m) c.args.places (coordinate_of c.args.coordinate.now).index (a +ℤ (b -ℤ a) *ℤ pos k) in
    let x : ℤ = c.args.first in
    let x_fits : SFits w64 x = search rules in
    let y : ℤ = c.args.second in
    let y_fits : SFits w64 y = search rules in
    let out = c.coordinate_numbers.new.out in
    let inside : k < length out = omega (arith, lt) in
    (λ i. place (sym (to_z-of_z w64 x x_fits) i) (sym (to_z-of_z w64 y y_fits) i))
    ∙ c.in_ok-coordinate_numbers.ensures m but k inside
    ∙ ap (λ (z : ℤ). Some z) (sym (front_number out _ k inside))
