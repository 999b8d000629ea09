use Rattle.std.proofs.Common.{◌≡◌, ◌≤◌, ℕ, ℤ, List, subst, refl, ◌∷◌, [], ◌++◌, ap, sym, ◌∙◌, rules, w64, SFits, to_z, of_z, map, drop, length, length-append, arith, ◌+◌}
use Rattle.std.specs.Prelude.{string_bytes}
use Rattle.std.proofs.lemmas.Int.{to_z-of_z}
use Rattle.meaning.specs.Names.{bound}
use Rattle.plan.specs.Semantics.Run.{found_target, look}
use Rattle.interpreter.specs.Buffers.Blocks.{memory_of}
use Rattle.interpreter.specs.Bindings.{symbols_of}
use Rattle.interpreter.specs.Pieces.{around, no_cells}
use Rattle.interpreter.specs.Targets.{target_of, target_number}
use Rattle.interpreter.specs.Rows.{Listed}
use Rattle.interpreter.proofs.Ending.{goes_on}
use Rattle.interpreter.proofs.Fitting.{indices_left, indices_left_all, indices_left_more}
use Rattle.interpreter.proofs.Storing.{points_begin, points_on, coordinates_next}
use Rattle.interpreter.proofs.store.find_point.Goals as goal

pub loop-coordinate-init : goal.loop-coordinate-init
loop-coordinate-init c =
    let reading = c.args.reading.now in
    let A = around reading.piece.now no_cells in
    let names = bound (map (λ x. string_bytes x.variable) reading.coordinates.now) reading.numbers.now in
    let m = memory_of reading.memory.now in
    let s = symbols_of c.args.symbols.now in
    let cs = c.args.coordinates.now in
    let all = indices_left_all cs in
    record {
      room = subst (λ (r : Listed). length cs ≤ r.room) (sym c.clear.ensures) c.requires.room;
      same = ap (λ (r : Listed). r.room) c.clear.ensures;
      stack = refl;
      left = omega (arith, all, c.requires.stack);
      count = ap (λ (r : Listed). length r.items) c.clear.ensures;
      point = points_begin A names (map (target_of s) cs) m ∙ ap (λ (q : List ℤ). points_on A names (map (target_of s) cs) m q) (sym (ap (λ (r : Listed). r.items) c.clear.ensures));
    }

pub found_number-requires-clause-room : goal.found_number-requires-clause-room
found_number-requires-clause-room c =
    let more = indices_left_more c.args.coordinates.now c.loop-coordinate.coordinate-index c.coordinate-item.result c.loop-coordinate-test.true c.coordinate-item.is in
    omega (arith, more, c.loop-coordinate.invariant.left)

pub loop-coordinate-preserved : goal.loop-coordinate-preserved
loop-coordinate-preserved c =
    let reading = c.args.reading.now in
    let A = around reading.piece.now no_cells in
    let names = bound (map (λ x. string_bytes x.variable) reading.coordinates.now) reading.numbers.now in
    let m = memory_of reading.memory.now in
    let s = symbols_of c.args.symbols.now in
    let cs = c.args.coordinates.now in
    let l = c.loop-coordinate in
    let z : ℤ = c.in_ok-number.number in
    let fits : SFits w64 z = search rules in
    let pushed : c.push.new.self.items ≡ l.point.items ++ to_z w64 (of_z w64 z) ∷ [] = ap (λ (r : Listed). r.items) c.push.ensures in
    let more = indices_left_more cs l.coordinate-index c.coordinate-item.result c.loop-coordinate-test.true c.coordinate-item.is in
    let same : c.found_number.new.stack ≡ l.stack = c.found_number.ensures.stack in
    let next = coordinates_next A names s cs l.coordinate-index c.coordinate-item.result m l.point.items (found_target A names (map (target_of s) cs) m) c.loop-coordinate-test.true c.coordinate-item.is l.invariant.point in
    record {
      room = subst (λ (n : ℕ). length cs ≤ n) (sym (ap (λ (r : Listed). r.room) c.push.ensures)) l.invariant.room;
      same = ap (λ (r : Listed). r.room) c.push.ensures ∙ l.invariant.same;
      stack = same ∙ l.invariant.stack;
      left = subst (λ (r : Listed). length r.items + indices_left cs (l.coordinate-index + 1) ≤ r.room) (sym same) (omega (arith, more, l.invariant.left));
      count = ap length pushed ∙ length-append l.point.items (to_z w64 (of_z w64 z) ∷ []) ∙ ap (λ k. k + 1) l.invariant.count;
      point = goes_on (target_number names (look A m) (target_of s c.coordinate-item.result)) z (λ (y : ℤ). points_on A names (map (target_of s) (drop (l.coordinate-index + 1) cs)) m (l.point.items ++ y ∷ [])) _ next (sym c.found_number.ensures.number ∙ c.in_ok-number.was)
          ∙ ap (λ (zs : List ℤ). points_on A names (map (target_of s) (drop (l.coordinate-index + 1) cs)) m zs) (ap (λ (y : ℤ). l.point.items ++ y ∷ []) (sym (to_z-of_z w64 z fits)) ∙ sym pushed);
    }
