use Rattle.std.proofs.Common.{◌≡◌, ◌+◌, ◌∙◌, Some, ap, arith, ℕ}
use Rattle.std.proofs.lemmas.Option.{IfSome_then}
use Rattle.piece.proofs.RisingLists.{searched_row}
use Rattle.piece.proofs.rising.values_between.Goals as goal

pub returns-clause-count : goal.returns-clause-count
returns-clause-count c =
    let more : ℕ = c.in_ok-more.field-0 in
    let is : c.args.last ≡ c.args.first + more = omega (arith, c.in_ok-more.ensures) in
    IfSome_then c.window.result c.window.ensures.count (λ values h. omega (arith, h, is))

pub returns-clause-values : goal.returns-clause-values
returns-clause-values c =
    let more : ℕ = c.in_ok-more.field-0 in
    let is : c.args.last ≡ c.args.first + more = omega (arith, c.in_ok-more.ensures) in
    let same : c.in_ok-number_behind.field-0 ≡ c.args.last = omega (arith, c.if-branch-last.false) in
    IfSome_then c.window.result c.window.ensures.same (λ values h.
    searched_row c.args.first c.args.numbers.now c.args.looked.now c.requires c.binary_search.result c.binary_search.ensures.position c.in-Ok.place c.in-Ok.is more c.args.last is
    (c.in_ok-number_behind.ensures ∙ ap (λ (n : ℕ). Some n) same) values.now h)
