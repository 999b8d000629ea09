use Rattle.std.proofs.Common.{◌≡◌, ◌+◌, ◌*◌, ℕ, rules, arith}
use Rattle.std.specs.Prelude.{length}
use Rattle.interpreter.specs.Evaluation.Words.{bits_at}
use Rattle.interpreter.specs.SampleRows.{sampled}
use Rattle.interpreter.proofs.Pixels.{pixel_word}
use Rattle.interpreter.proofs.scanlines.put_pixels.Goals as goal

pub returns-clause-there : goal.returns-clause-there
returns-clause-there c = λ k lt.
    let row = c.args.row in
    let out = c.put_colour.new.out in
    let first : ℕ = c.args.first in
    let start : ℕ = c.in_ok-start.start in
    let from : start ≡ first * row.colours + row.colour = search rules in
    let long : length out ≡ length c.args.out.now = search rules in
    pixel_word (sampled row.samples) first k row.colours row.colour start (bits_at out k) from (c.if-not-are_along.ensures k (omega (arith, lt, long))) (c.put_colour.ensures k lt).0
