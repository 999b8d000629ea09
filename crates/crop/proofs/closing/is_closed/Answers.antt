use Rattle.std.proofs.Common.{◌≡◌, ◌∙◌, length, map, true, Some, sym, ap, arith, rules}
use Rattle.std.specs.Prelude.{option_map, slice_get}
use Rattle.std.proofs.lemmas.List.{length-map}
use Rattle.algo.specs.View.{algorithm_of}
use Rattle.crop.specs.View.{kept_of, cut_of}
use Rattle.crop.proofs.Closed.{index_below, mapped_at, next_closed}
use Rattle.crop.proofs.closing.is_closed.Goals as goal

pub loop-number-preserved : goal.loop-number-preserved
loop-number-preserved c =
    let a = algorithm_of c.args.algo.now in
    let cut = cut_of c.args.cut.now in
    let n = c.loop-number.number in
    let yes : c.in_ok-is_closed_if.field-0 ≡ true = search rules in
    let here : slice_get cut.kept n ≡ Some (option_map kept_of c.kept-item.result) =
    ap (λ l. slice_get (map (option_map kept_of) l) n) (sym c.deref-kept-items.ensures.value)
    ∙ mapped_at (option_map kept_of) c.deref-kept-items.result.now n c.kept-item.result c.loop-number-test.true c.kept-item.is in
    next_closed a cut n (option_map kept_of c.kept-item.result) here (c.in_ok-is_closed_if.ensures yes) c.loop-number.invariant

pub returns-clause-closed : goal.returns-clause-closed
returns-clause-closed c t k f one e g =
    let long = index_below (cut_of c.args.cut.now).kept k (Some one) g in
    let same = length-map c.args.cut.now.kept.items (option_map kept_of) in
    let items : length c.deref-kept-items.result.now ≡ length c.args.cut.now.kept.items = ap length c.deref-kept-items.ensures.value in
    c.loop-number.invariant k f one (omega (arith, long, same, items)) e g
