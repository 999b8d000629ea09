use Rattle.std.proofs.Common.{rules, ◌≡◌, ◌-◌, ◌∙◌, true, length, take, drop, sym, w64}
use Rattle.std.proofs.lemmas.Int.{to_z-of_z}
use mir.Val.{SFits}
use Rattle.meaning.specs.Names.{same_name}
use Rattle.sched.proofs.Claimed.{one_first}
use Rattle.blocks.proofs.Origins.{split_ended}
use Rattle.blocks.proofs.blocks.+end_of.Goals as goal

pub returns-then-eq : goal.returns-then-eq
returns-then-eq t c =
    let rs = c.args.numbers.now in
    let x = c.args.name.now in
    let all = c.args.cuts.now in
    let cut = c.cut-item.result in
    let rest = take (length all - 1) (drop 1 all) in
    let same : same_name cut.whole x ≡ true = (λ j. same_name (sym c.as_str.ensures.value j) (sym c.as_str-in-len1-up.ensures.value j)) ∙ sym c.if-eq.ensures in
    let made_fits : SFits w64 c.split_end.result = first_of (search rules, assumption c) in
    let outer_fits : SFits w64 c.end_of-outer.result = first_of (search rules, assumption c) in
    let inner_fits : SFits w64 c.end_of-inner.result = first_of (search rules, assumption c) in
    let outer = to_z-of_z w64 c.end_of-outer.result outer_fits ∙ c.end_of-outer.ensures in
    let inner = to_z-of_z w64 c.end_of-inner.result inner_fits ∙ c.end_of-inner.ensures in
    to_z-of_z w64 c.split_end.result made_fits
    ∙ (c.split_end.ensures ∙ split_ended rs x all rest cut c.numbers_named-own.result _ _ (one_first all cut c.in-len1-up.len_at_least c.cut-item.is) same c.numbers_named-own.ensures outer inner)
