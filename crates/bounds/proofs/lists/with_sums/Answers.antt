use Rattle.std.proofs.Common.{◌≡◌, ◌≤◌, length, List, arith, sym, ap, ◌∙◌}
use Rattle.std.specs.Prelude.{map, fold}
use Rattle.std.proofs.lemmas.Int.{to_z-of_z}
use Rattle.lin.specs.Forms.{Form, combined}
use Rattle.bounds.specs.Lists.{with_made}
use Rattle.bounds.proofs.ListLemmas.{drop_all}
use Rattle.bounds.proofs.lists.with_sums.Goals as goal
use mir.Val.{to_z, of_z}
use mir.Syntax.{w64}

pub returns : goal.returns
returns c =
    let factor : to_z w64 (of_z w64 c.args.factor) ≡ c.args.factor = to_z-of_z w64 c.args.factor c.ranges.factor in
    let past : length c.args.seconds.now ≤ c.loop-second.second-index = omega arith in
    sym ((rw factor at c.loop-second.invariant)
    ∙ ap (λ (rest : List Form). fold with_made c.loop-second.sums (map (λ b. combined c.args.first.now c.args.factor b) rest)) (drop_all c.args.seconds.now c.loop-second.second-index past))
