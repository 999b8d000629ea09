use Rattle.std.proofs.Common.{◌≡◌, ◌^◌, length, List, [], arith, ap}
use Rattle.std.proofs.lemmas.Int.{ints}
use Rattle.std.proofs.lemmas.Bool.Decides.{nat_tests}
use Rattle.lin.specs.declared.form.Multiple.{Multiple}
use Rattle.lin.specs.Forms.{IsWithin}
use Rattle.lin.proofs.TermLemmas.{too_large}
use Rattle.lin.proofs.terms.combined_terms.Goals as goal

pub returns-then-unsigned_abs-gt-LARGEST_MULTIPLIER : goal.returns-then-unsigned_abs-gt-LARGEST_MULTIPLIER
returns-then-unsigned_abs-gt-LARGEST_MULTIPLIER c =
    let ne : c.args.others.now ≡ [] → ⊥ = λ e. (let none : length c.args.others.now ≡ 0 = ap (λ (ts : List Multiple). length ts) e in absurd (grind (arith, nat_tests))) in
    let big : IsWithin (2 ^ 21) c.args.factor → ⊥ = λ w. omega (arith, ints, c.unsigned_abs.ensures.value) in
    too_large c.args.terms.now c.args.others.now c.args.factor c.requires.canonical c.requires.rising c.requires.room ne big
