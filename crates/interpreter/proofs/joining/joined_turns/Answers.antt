use Rattle.std.proofs.Common.{◌≡◌, ◌≢◌, ◌∷◌, [], ◌*◌, ℤ, pos, refl, subst, sym, ap, ◌∙◌, rules, w64, to_z, of_z, SFits, false}
use Rattle.std.specs.Prelude.{◌==◌, ◌+ℤ◌}
use Rattle.std.proofs.lemmas.Int.{to_z-of_z}
use Rattle.lin.specs.Forms.{number}
use Rattle.interpreter.specs.Joining.{AreTurns, CoordinatesJoin, EndFalls}
use Rattle.interpreter.proofs.TwoLoops.{apart}
use Rattle.interpreter.proofs.joining.joined_turns.Goals as goal

pub returns : goal.returns
returns c =
    let outer = c.args.outer in
    let inner = c.args.inner.now in
    let low = c.in_ok-low.low in
    let high = c.args.ends.high in
    let last = c.in_ok-last.last in
    let turns = c.in_ok-turns.turns in
    let count = c.in_ok-count.count in
    let n = c.in_ok-rise.rise in
    let low_fits : SFits w64 low = search rules in
    let high_fits : SFits w64 high = search rules in
    let last_fits : SFits w64 last = search rules in
    let from_fits : SFits w64 outer.low = search rules in
    let to_fits : SFits w64 outer.high = search rules in
    let n_fits : SFits w64 n = search rules in
    let is : to_z w64 (of_z w64 low) ≡ low = to_z-of_z w64 low low_fits in
    let rise : n ≡ pos count = search rules in
    let all : c.in_ok-all.all ≡ turns * count = search rules in
    let differ : (outer.symbol == inner.symbol) ≡ false = search rules in
    let other : outer.symbol ≢ inner.symbol = apart outer.symbol inner.symbol differ in
    let outer_turns : AreTurns (to_z w64 (of_z w64 outer.low)) (to_z w64 (of_z w64 outer.high)) turns = c.in_ok-turns.ensures.turns in
    let inner_turns : AreTurns (to_z w64 (of_z w64 low)) (to_z w64 (of_z w64 high)) count = c.in_ok-count.ensures.turns in
    let all_turns : AreTurns (to_z w64 (of_z w64 low)) last c.in_ok-all.all = c.in_ok-last.ensures in
    let join : CoordinatesJoin outer.symbol inner.symbol (to_z w64 (of_z w64 n)) inner.line.coordinates.now = c.if-not-coordinates_join.ensures in
    let falls : EndFalls outer.symbol (to_z w64 (of_z w64 n)) c.args.ends.form = c.if-not-falls.ensures in
    record {
      symbol = refl;
      other = other;
      lower = c.in_ok-low.ensures ∙ ap (λ (z : ℤ). number z ∷ []) (sym is);
      turns = turns;
      count = count;
      some = c.in_ok-turns.ensures.some;
      outer_turns = record { to = (λ i. sym (to_z-of_z w64 outer.high to_fits) i +ℤ pos 1) ∙ outer_turns.to ∙ ap (λ (z : ℤ). z +ℤ pos turns) (to_z-of_z w64 outer.low from_fits) };
      inner_turns = record { to = (λ i. sym (to_z-of_z w64 high high_fits) i +ℤ pos 1) ∙ inner_turns.to };
      all_turns = record { to = (λ i. to_z-of_z w64 last last_fits i +ℤ pos 1) ∙ all_turns.to ∙ (λ i. to_z w64 (of_z w64 low) +ℤ pos (all i)) };
      coordinates = subst (λ (m : ℤ). CoordinatesJoin outer.symbol inner.symbol m inner.line.coordinates.now) (to_z-of_z w64 n n_fits ∙ rise) join;
      falls = subst (λ (m : ℤ). EndFalls outer.symbol m c.args.ends.form) (to_z-of_z w64 n n_fits ∙ rise) falls;
    }
