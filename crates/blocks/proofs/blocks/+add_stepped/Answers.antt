use Rattle.std.proofs.Common.{◌-◌, length, take, drop, rules, w64}
use mir.Val.{SFits}
use Rattle.std.proofs.lemmas.Int.{to_z-of_z}
use Rattle.sched.proofs.Claimed.{one_first}
use Rattle.blocks.proofs.Stepping.{stepped_more}
use Rattle.blocks.proofs.blocks.+add_stepped.Goals as goal

pub returns-in_ok-push-in-len1-up : goal.returns-in_ok-push-in-len1-up
returns-in_ok-push-in-len1-up t c =
    let fs = c.args.forms.now in
    let f = c.form-item.result in
    let low_fits : SFits w64 c.args.low = first_of (search rules, assumption c) in
    let factor_fits : SFits w64 c.args.factor = first_of (search rules, assumption c) in
    stepped_more c.args.low c.args.factor _ _ f (take (length fs - 1) (drop 1 fs)) fs c.args.made.now.items c.push.new.self.items c.in_ok-one-in-len1-up.one c.add_stepped.new.made.items
    c.add_stepped.result (to_z-of_z w64 c.args.low low_fits) (to_z-of_z w64 c.args.factor factor_fits)
    (one_first fs f c.in-len1-up.len_at_least c.form-item.is) c.in_ok-one-in-len1-up.ensures c.in_ok-push-in-len1-up.ensures.items c.add_stepped.ensures
