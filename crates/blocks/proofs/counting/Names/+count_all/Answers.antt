use Rattle.std.proofs.Common.{◌-◌, length, take, drop, rules, w64}
use mir.Val.{SFits}
use Rattle.std.proofs.lemmas.Int.{to_z-of_z}
use Rattle.blocks.specs.Rounded.{names_seen}
use Rattle.sched.proofs.Claimed.{one_first}
use Rattle.blocks.proofs.Naming.{count_next}
use Rattle.blocks.proofs.counting.Names.+count_all.Goals as goal

pub returns-in_ok-count-in-len1-up : goal.returns-in_ok-count-in-len1-up
returns-in_ok-count-in-len1-up t c =
    let fs = c.args.upper.now in
    let f = c.last-item.result in
    let fits : SFits w64 c.args.factor = first_of (search rules, assumption c) in
    let same = to_z-of_z w64 c.args.factor fits in
    count_next c.count_all.result _ c.args.low.now c.args.factor _ _ c.args.count f (take (length fs - 1) (drop 1 fs)) fs c.args.blocks.now _ (names_seen c.args.self.now) _ same same
    (one_first fs f c.in-len1-up.len_at_least c.last-item.is) c.in_ok-count-in-len1-up.ensures c.count_all.ensures
