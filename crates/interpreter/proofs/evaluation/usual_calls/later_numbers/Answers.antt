use Rattle.std.proofs.Common.{◌≡◌, ◌∷◌, [], ℤ, Some, length, sym, ap, ◌∙◌, rules, arith, w64, SFits}
use Rattle.std.proofs.lemmas.Bool.{ltb-true, ltb-false}
use Rattle.std.proofs.lemmas.Int.{to_z-of_z}
use Rattle.numeric.specs.declared.ty.Ty.TheVariants.{I32}
use Rattle.tree.specs.Meaning.{typed}
use Rattle.interpreter.proofs.UsualCalls.{found_none, found_only, found_two}
use Rattle.interpreter.proofs.evaluation.usual_calls.later_numbers.Goals as goal

pub returns-in-empty : goal.returns-in-empty
returns-in-empty g c = λ m ok k lt.
    let none : length c.args.later.now ≡ 0 = first_of (search rules, omega arith, omega (arith, ltb-true), omega (arith, ltb-false)) in
    found_none (g.R.RunReader.variables c.args.reader.now k) (g.R.RunReader.look c.args.reader.now m) c.args.later.now none

pub returns-in_ok-second-in-len1 : goal.returns-in_ok-second-in-len1
returns-in_ok-second-in-len1 g c = λ m ok k lt.
    let from = c.in-len1.len_at_least in
    let to = c.in-len1.len_below in
    let y : ℤ = c.in_ok-second-in-len1.second in
    let fits : SFits w64 y = search rules in
    found_only (g.R.RunReader.variables c.args.reader.now k) (g.R.RunReader.look c.args.reader.now m) c.args.later.now c.only-item.result (typed I32 y) (omega (arith, from, to)) c.only-item.is
    (c.in_ok-second-in-len1.ensures m ok k (omega arith))
    ∙ ap (λ (n : ℤ). Some (n ∷ [])) (sym (to_z-of_z w64 y fits))

pub returns-in_ok-third-in-len2 : goal.returns-in_ok-third-in-len2
returns-in_ok-third-in-len2 g c = λ m ok k lt.
    let from = c.in-len2.len_at_least in
    let to = c.in-len2.len_below in
    let y : ℤ = c.in_ok-second-in-len2.second in
    let z : ℤ = c.in_ok-third-in-len2.third in
    let y_fits : SFits w64 y = search rules in
    let z_fits : SFits w64 z = search rules in
    found_two (g.R.RunReader.variables c.args.reader.now k) (g.R.RunReader.look c.args.reader.now m) c.args.later.now c.next-item.result c.last-item.result (typed I32 y) (typed I32 z)
    (omega (arith, from, to)) c.next-item.is c.last-item.is
    (c.in_ok-second-in-len2.ensures m ok k (omega arith)) (c.in_ok-third-in-len2.ensures m ok k (omega arith))
    ∙ (λ i. Some (sym (to_z-of_z w64 y y_fits) i ∷ sym (to_z-of_z w64 z z_fits) i ∷ []))
