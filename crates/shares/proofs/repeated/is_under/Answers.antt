use Rattle.std.proofs.Common.{◌≡◌, ◌∙◌, sym, arith, true}
use Rattle.std.proofs.lemmas.Int.{ints}
use Rattle.lin.specs.Forms.{same_terms}
use Rattle.shares.proofs.Repeating.{same_terms_are}
use Rattle.shares.proofs.repeated.is_under.Goals as goal

pub returns-then-constant : goal.returns-then-constant
returns-then-constant c h =
    let f = c.args.low.now in
    let g = c.args.high.now in
    let same : same_terms f.terms g.terms ≡ true = (λ i. same_terms (sym c.terms.ensures.value i) (sym c.terms-then-constant.ensures.value i)) ∙ sym c.have_same_terms.ensures ∙ h in
    let a = c.constant.ensures in
    let b = c.constant-2.ensures in
    let le = c.if-constant.true in
    (same_terms_are f.terms g.terms same, omega (arith, ints, le, a, b))
