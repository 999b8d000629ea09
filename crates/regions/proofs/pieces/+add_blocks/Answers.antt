use Rattle.std.proofs.Common.{◌≡◌, ◌-◌, [], ◌∷◌, ◌++◌, length, take, drop, rules, w64}
use Rattle.std.proofs.lemmas.Int.{to_z-of_z}
use mir.Val.{SFits}
use Rattle.sched.proofs.Claimed.{one_first}
use Rattle.regions.proofs.Stepping.{blocks_more}
use Rattle.regions.proofs.pieces.+add_blocks.Goals as goal

pub returns-in_ok-push-in-len1-up : goal.returns-in_ok-push-in-len1-up
returns-in_ok-push-in-len1-up t c =
    let fs = c.args.forms.now in
    let f = c.form-item.result in
    let low_fits : SFits w64 c.args.low = first_of (search rules, assumption c) in
    let length_fits : SFits w64 c.args.length = first_of (search rules, assumption c) in
    let more : c.push.new.self ≡ c.args.made ++ c.in-Some.block ∷ [] = search rules in
    blocks_more c.args.low c.args.length _ _ f (take (length fs - 1) (drop 1 fs)) fs c.args.made c.push.new.self c.in_ok-block-in-len1-up.field-0 c.in-Some.block c.add_blocks.result
    (to_z-of_z w64 c.args.low low_fits) (to_z-of_z w64 c.args.length length_fits) (one_first fs f c.in-len1-up.len_at_least c.form-item.is) c.in_ok-block-in-len1-up.ensures c.in-Some.is more
    c.add_blocks.ensures
