use Rattle.std.proofs.Common.{◌≡◌, ◌∷◌, ◌<◌, ◌≤◌, ℕ, ℤ, List, Some, drop, pos, refl, ap, sym, subst, ◌∙◌, arith, rules, w64, SFits}
use Rattle.std.specs.Prelude.{◌+ℤ◌, ◌≤ℤ◌}
use Rattle.std.proofs.lemmas.Int.{ints, to_z-of_z}
use Rattle.interpreter.specs.Buffers.Blocks.{limits_of, memory_of}
use Rattle.interpreter.specs.Buffers.Spots.{set_all, IsSpot}
use Rattle.interpreter.specs.CellRows.{along, row_value}
use Rattle.interpreter.specs.Pieces.{around}
use Rattle.interpreter.specs.RowVisits.{row_takes}
use Rattle.interpreter.specs.States.{progress_of}
use Rattle.interpreter.specs.Steps.{Progress, steps}
use Rattle.interpreter.proofs.RowVisits.{taken_all, taken_row}
use Rattle.interpreter.proofs.row_visits.fetch_cells.Goals as goal

pub put_cells-requires : goal.put_cells-requires
put_cells-requires g c = λ k lt. c.requires.inside k (subst (λ (n : ℕ). k < n) c.in-Some.ensures.long lt)

pub fetch_places-requires-clause-long : goal.fetch_places-requires-clause-long
fetch_places-requires-clause-long g c = omega (arith, c.set.ensures.count, c.requires.long)

pub returns-in-Some-clause-large : goal.returns-in-Some-clause-large
returns-in-Some-clause-large g c =
    let old = c.args.state.now in
    record {
      space = λ i. record { limits = c.put_cells.ensures.limits i; numbers = old.numbers.room; point = c.set.ensures.room i; stack = old.stack.room };
      given = refl;
    }

pub returns-in-Some-clause-kept : goal.returns-in-Some-clause-kept
returns-in-Some-clause-kept g c = record { from = ap (λ (zs : List ℤ). drop 1 zs) c.set.ensures.from; count = c.set.ensures.count }

pub returns-in-Some-clause-run : goal.returns-in-Some-clause-run
returns-in-Some-clause-run g c = λ x b here.
    let cell = g.C.Cells.cell c.args.cells.now in
    let f = c.args.function.now in
    let old = c.args.state.now in
    let others : List ℤ = drop 1 old.point.items in
    let low : ℤ = c.args.numbers.low in
    let high : ℤ = c.args.numbers.high in
    let count = c.args.count in
    let row = c.in-Some.row in
    let m = memory_of old.memory in
    let new = memory_of c.put_cells.new.self in
    let given = old.given.items in
    let fits : SFits w64 low = search rules in
    let front : c.as_slice.result.now ≡ low ∷ others = c.as_slice.ensures ∙ c.set.ensures.from ∙ (λ i. to_z-of_z w64 low fits i ∷ others) in
    let told : (k : ℕ) → k < count → row_value row k ≡ cell f ((low +ℤ pos k) ∷ others) =
    λ k lt. c.in-Some.ensures.values k lt ∙ ap (λ (p : List ℤ). cell f (along p k)) front in
    let set = c.put_cells.ensures.set b (λ k. (low +ℤ pos k) ∷ others) (λ k lt. here k (subst (λ (n : ℕ). k < n) c.in-Some.ensures.long lt)) in
    let all : set_all m b (λ k. (low +ℤ pos k) ∷ others) (row_value row) count ≡ Some new =
    subst (λ (n : ℕ). set_all m b (λ k. (low +ℤ pos k) ∷ others) (row_value row) n ≡ Some new) c.in-Some.ensures.long set in
    let counted : low +ℤ pos count ≡ high +ℤ pos 1 = c.requires.count in
    let few : (low +ℤ pos count) ≤ℤ (high +ℤ pos 1) = omega (arith, ints, counted) in
    let enough : count ≤ count = omega arith in
    let last : Progress = record { memory = new; given = given } in
    taken_row x cell b f others low high m given (row_value row) count few told count new enough all
    ∙ taken_all x cell b f others (low +ℤ pos count) high last (steps (around x cell) (row_takes b f others (low +ℤ pos count) high) last) counted refl

pub returns-in-None-clause-large : goal.returns-in-None-clause-large
returns-in-None-clause-large g c =
    let old = c.args.state.now in
    record {
      space = c.fetch_places.ensures.large.space ∙ (λ i. record { limits = limits_of old.memory; numbers = old.numbers.room; point = c.set.ensures.room i; stack = old.stack.room });
      given = c.fetch_places.ensures.large.given;
    }

pub returns-in-None-clause-kept : goal.returns-in-None-clause-kept
returns-in-None-clause-kept g c = record {
  from = c.fetch_places.ensures.kept.from ∙ ap (λ (zs : List ℤ). drop 1 zs) c.set.ensures.from;
  count = c.fetch_places.ensures.kept.count ∙ c.set.ensures.count;
}

pub returns-in-None-clause-run : goal.returns-in-None-clause-run
returns-in-None-clause-run g c = λ x b here.
    let cell = g.C.Cells.cell c.args.cells.now in
    let f = c.args.function.now in
    let old = c.args.state.now in
    let low : ℤ = c.args.numbers.low in
    let high : ℤ = c.args.numbers.high in
    let same : drop 1 c.set.new.self.items ≡ drop 1 old.point.items = ap (λ (zs : List ℤ). drop 1 zs) c.set.ensures.from in
    let run = c.fetch_places.ensures.run x b (λ k lt. subst (λ (p : List ℤ). IsSpot old.memory b ((low +ℤ pos k) ∷ p) c.args.spot k) (sym same) (here k lt)) in
    subst (λ (p : List ℤ). steps (around x cell) (row_takes b f p low high) (progress_of old) ≡ Some (progress_of c.fetch_places.new.state)) same run
