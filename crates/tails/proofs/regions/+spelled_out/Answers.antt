use Rattle.lin.proofs.Limits.{if_ok}
use Rattle.tails.proofs.Spelling.{spelled_in}
use Rattle.tails.proofs.regions.+spelled_out.Goals as goal

pub returns-in_ok-spelled_out-in-len1-up : goal.returns-in_ok-spelled_out-in-len1-up
returns-in_ok-spelled_out-in-len1-up t c =
    if_ok c.spelled.result _ _
    (λ made by. spelled_in c.args.binders.now c.first-item.result c.args.span.now c.in_ok-spelled_out-in-len1-up.field-0 made c.in-len1-up.len_at_least c.first-item.is
    c.in_ok-spelled_out-in-len1-up.ensures by)
    c.spelled.ensures
