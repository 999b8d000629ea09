use Rattle.std.proofs.Common.{◌≡◌, ◌+◌, ◌*◌, ◌≤◌, length, take, arith, ap, ◌∙◌}
use Rattle.std.proofs.Math.Nat.{mul-le-mul_right}
use Rattle.std.proofs.lemmas.List.{length-take-le}
use Rattle.shares.proofs.RowRuns.{rows_long}
use Rattle.shares.proofs.walked.runs_of.Goals as goal

pub push-requires-clause-room : goal.push-requires-clause-room
push-requires-clause-room c =
    let rows = c.args.rows.now in
    let k = c.loop-row.row-index in
    let count = c.args.count in
    let here : length (take k rows) ≡ k = length-take-le k rows (omega (arith, c.loop-row-test.true)) in
    let long : length c.loop-row.cells ≡ k * count = ap length c.loop-row.invariant ∙ rows_long (λ m. c.args.offset + c.args.extent * m) count (take k rows) ∙ ap (λ (n : _). n * count) here in
    let more : (k + 1) * count ≤ length rows * count = mul-le-mul_right count (let less : k + 1 ≤ length rows = omega (arith, c.loop-row-test.true) in less) in
    let few = c.requires.few in
    let next : (k + 1) * count ≡ k * count + count = omega arith in
    omega (arith, long, more, few, next)
