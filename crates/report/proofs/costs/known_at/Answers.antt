use Rattle.std.proofs.Common.{◌≡◌, ◌%◌, ℕ, get_or, pos, ap, ◌∙◌, arith}
use Rattle.interpreter.proofs.GridPoints.{quotient_small}
use Rattle.report.specs.Grid.{point_binding}
use Rattle.report.proofs.Grids.{one_further, ended, known_count}
use Rattle.report.proofs.costs.known_at.Goals as goal

pub loop-extent-preserved : goal.loop-extent-preserved
loop-extent-preserved c =
    let grid = c.args.grid.now in
    let l = c.loop-extent in
    let x : ℕ = l.rest % get_or grid l.extent-index 0 in
    let count = known_count grid c.args.rank l.extent-index l.known.items l.rest l.invariant.way in
    let long : c.len.result ≡ l.extent-index = omega (arith, c.len.ensures, l.known.ok.0, count) in
    record {
      way = one_further grid c.args.rank l.extent-index l.known.items c.push.new.self.items l.rest c.point_binding.result c.loop-extent-test.true l.invariant.way
          (c.point_binding.ensures ∙ ap (λ (n : ℕ). point_binding n (pos x)) long)
          c.in_ok-push.ensures.items;
      small = quotient_small l.rest (get_or grid l.extent-index 0) l.invariant.small;
    }

pub returns : goal.returns
returns c = ended c.args.grid.now c.args.rank c.loop-extent.extent-index c.loop-extent.known.items c.loop-extent.rest (omega arith) c.loop-extent.invariant.way
