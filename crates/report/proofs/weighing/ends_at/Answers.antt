use Rattle.std.proofs.Common.{◌≡◌, ◌∷◌, ◌++◌, [], true, refl, ap, ◌∙◌, arith, rules, w64, SFits, to_z, of_z}
use Rattle.std.proofs.lemmas.Int.{ints, to_z-of_z}
use Rattle.report.specs.declared.known.Binding.{Binding}
use Rattle.report.specs.Known.{Allows}
use Rattle.report.proofs.Tallies.{allows_same}
use Rattle.report.proofs.weighing.ends_at.Goals as goal

pub returns : goal.returns
returns c = λ s allows at narrow.
    let known = c.args.known.now in
    let b : Binding = record { symbol = c.args.symbol; low = c.args.value; high = c.args.value; first = true; later = true } in
    let made = c.deref.ensures.value ∙ c.in_ok-here.ensures ∙ ap (λ (d : Binding). known ++ d ∷ []) c.one_value.ensures in
    let fits : SFits w64 c.args.value = search rules in
    let back : to_z w64 (of_z w64 c.args.value) ≡ c.args.value = to_z-of_z w64 c.args.value fits in
    let same = made ∙ (λ j. known ++ record { symbol = c.args.symbol; low = back j; high = back j; first = true; later = true } ∷ []) in
    let one : Allows b (s.value c.args.symbol) (s.first c.args.symbol) = record { low = omega (arith, ints, at); high = omega (arith, ints, at); first = λ e. refl; later = λ e. refl } in
    c.ends_of.ensures.holds s (allows_same known c.deref.result.now b s same allows one) narrow
