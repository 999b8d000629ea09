use Rattle.std.proofs.Common.{◌≡◌, ℤ, subst, ◌∙◌, rules, w64, to_z, of_z, SFits}
use Rattle.std.proofs.lemmas.Int.{to_z-of_z}
use Rattle.lin.specs.Forms.{factor_of}
use Rattle.interpreter.specs.Bindings.{symbols_of}
use Rattle.interpreter.specs.Shifting.{AreAlike, AreTurnsTo, IsSeries}
use Rattle.interpreter.proofs.FoundRuns.{if_some}
use Rattle.interpreter.proofs.shifting.alike_turns.Goals as goal

pub returns-clause-alike : goal.returns-clause-alike
returns-clause-alike c =
    let t = c.args.outer in
    let both = c.args.both.now in
    let r = c.factor-rise.result in
    let last = c.in_ok-last.last in
    let series = c.in_ok-series.series in
    let rise_fits : SFits w64 r = search rules in
    let last_fits : SFits w64 last = search rules in
    let rise : to_z w64 (of_z w64 r) ≡ factor_of both.name.form.now.terms t.symbol = to_z-of_z w64 r rise_fits ∙ c.factor-rise.ensures.value in
    let inner = subst (λ (k : ℤ). IsSeries both.inner t.symbol both.name.symbol k series) rise c.in_ok-series.ensures in
    if_some c.turns_to.result (AreTurnsTo t both.inner.symbol series (to_z w64 (of_z w64 last))) (AreAlike t both (symbols_of c.args.symbols.now))
    (λ y h. record {
      series = series;
      last = last;
      apart = c.if-not-are_apart.ensures;
      slower = c.if-not-is_slower.ensures;
      inner = inner;
      first = c.in_ok-last.ensures.last;
      turns = subst (λ (z : ℤ). AreTurnsTo t both.inner.symbol series z y) (to_z-of_z w64 last last_fits) h;
    })
    c.turns_to.ensures
