use Rattle.std.proofs.Common.{◌≡◌, true, length, nat_lt, leb, rules, tests}
use Rattle.std.specs.List.{list_all}
use Rattle.std.proofs.lemmas.Bool.{le-leb}
use Rattle.std.proofs.lemmas.Iterator.{YieldsList-from_slice}
use Rattle.std.proofs.lemmas.Iterator.Search.{all_from_yields_List}
use Rattle.sched.proofs.subject.is_name.Goals as goal

pub returns-then-text-le-MAX_NAME : goal.returns-then-text-le-MAX_NAME
returns-then-text-le-MAX_NAME c =
    let text = c.args.text.now in
    let ascii : c.all.result ≡ list_all (λ b. nat_lt b 128) text = all_from_yields_List (λ b. nat_lt b 128) _ _ c.all.result c.all.ensures.ran (YieldsList-from_slice text (cc)) (λ x b q k. search (rules, tests)) in
    let short : leb (length text) 16 ≡ true = le-leb (length text) 16 c.if-text-le-MAX_NAME.true in
    rw short ascii
