use Rattle.std.proofs.Common.{◌≡◌, List, ℤ, [], ◌∷◌, ◌++◌, length, ◌≤◌, ◌+◌, ◌-◌, take, drop, sym, ap, ◌∙◌, subst, rules, arith, w64, SFits, to_z, of_z, pos, ℕ, Err, ◌+ℤ◌, ◌≤ℤ◌, Option, Some}
use Rattle.std.specs.Prelude.{flat_map}
use Rattle.std.proofs.lemmas.Int.{ints, to_z-of_z}
use Rattle.std.proofs.lemmas.Bool.{ltb-false}
use Rattle.std.proofs.lemmas.Grind.{common_steps}
use Rattle.std.proofs.lemmas.List.Elements.{All-take}
use Rattle.std.proofs.lemmas.Result.{err_from_is_err_and}
use Rattle.lin.specs.declared.span.Span1.{Span1}
use Rattle.plan.specs.Symbols.{largest, smallest}
use Rattle.plan.specs.Semantics.Actions.{Action}
use Rattle.plan.specs.Semantics.Found.{with}
use Rattle.interpreter.specs.Bindings.{symbols_of}
use Rattle.interpreter.specs.Pieces.{around}
use Rattle.interpreter.specs.States.{progress_of, EndsIn}
use Rattle.interpreter.specs.Steps.{Progress, steps}
use Rattle.interpreter.specs.Visits.{at_point, between, extended}
use Rattle.interpreter.specs.Narrow.{SpanIsNarrow}
use Rattle.interpreter.specs.Buffers.Blocks.{limits_of}
use Rattle.interpreter.proofs.Pointwise.{actions-last, keeps_more}
use Rattle.interpreter.proofs.Shorts.{by_last}
use Rattle.interpreter.proofs.Ending.{goes_on}
use Rattle.interpreter.proofs.Steps.{stops_in}
use Rattle.interpreter.proofs.Running.{turns_next}
use Rattle.interpreter.proofs.Counting.{between_none}
use Rattle.interpreter.proofs.visits.+visiting.Goals as goal

pub visit_numbers-loop-number-preserved : goal.visit_numbers-loop-number-preserved
visit_numbers-loop-number-preserved g t c =
    let w = c.args.walk.now in
    let x = w.piece.now in
    let A = around x (g.C.Cells.cell c.args.cells.now) in
    let s = symbols_of w.symbols.now in
    let act : List ℤ → List Action = at_point x w.visit in
    let region = c.args.region.now in
    let l = c.loop-number in
    let z : ℤ = to_z w64 l.number-bits in
    let high = c.args.numbers.high in
    let rest = drop (length region + 1) c.args.state.now.point.items in
    let f : ℤ → List Action = λ y. flat_map act (extended s region (y ∷ rest)) in
    let p = progress_of l.state in
    let whole : Option Progress = steps A (flat_map f (between c.args.numbers.low high)) (progress_of c.args.state.now) in
    let to_high : z ≤ℤ high = first_of (omega (arith, ints), grind (arith, ints)) in
    let longer : drop (length region) c.set.new.self.items ≡ z ∷ rest = c.set.ensures.from ∙ ap (λ (q : List ℤ). z ∷ q) l.invariant.kept.from in
    let go : Progress → Option Progress = steps A (flat_map f (between (z +ℤ pos 1) high)) in
    let next = turns_next A f z high p whole to_high l.invariant.run in
    let done : steps A (f z) p ≡ Some (progress_of c.visit_region.new.state) = ap (λ (q : List ℤ). steps A (flat_map act (extended s region q)) p) (sym longer) ∙ c.in_ok-visit_region.ensures.run in
    let later : whole ≡ steps A (flat_map f (between (z +ℤ pos 1) high)) (progress_of c.visit_region.new.state) = goes_on (steps A (f z) p) (progress_of c.visit_region.new.state) go whole next done in
    record {
      large = record {
        space = c.in_ok-visit_region.ensures.large.space ∙ ap (λ (n : ℕ). record { limits = limits_of l.state.memory; numbers = l.state.numbers.room; point = n; stack = l.state.stack.room }) c.set.ensures.room ∙ l.invariant.large.space;
        given = c.in_ok-visit_region.ensures.large.given ∙ l.invariant.large.given;
      };
      kept = keeps_more (length region) c.args.state.now.point l.state.point c.set.new.self c.visit_region.new.state.point z l.invariant.kept c.set.ensures.from c.set.ensures.count c.in_ok-visit_region.ensures.kept;
      run = later ∙ ap (λ (y : ℤ). steps A (flat_map f (between y high)) (progress_of c.visit_region.new.state)) (omega (arith, ints));
    }

pub visit_numbers-returns-in_err-visit_region-clause-run : goal.visit_numbers-returns-in_err-visit_region-clause-run
visit_numbers-returns-in_err-visit_region-clause-run g t c =
    let w = c.args.walk.now in
    let x = w.piece.now in
    let A = around x (g.C.Cells.cell c.args.cells.now) in
    let s = symbols_of w.symbols.now in
    let act : List ℤ → List Action = at_point x w.visit in
    let region = c.args.region.now in
    let l = c.loop-number in
    let z : ℤ = to_z w64 l.number-bits in
    let high = c.args.numbers.high in
    let rest = drop (length region + 1) c.args.state.now.point.items in
    let f : ℤ → List Action = λ y. flat_map act (extended s region (y ∷ rest)) in
    let p = progress_of l.state in
    let whole : Option Progress = steps A (flat_map f (between c.args.numbers.low high)) (progress_of c.args.state.now) in
    let to_high : z ≤ℤ high = first_of (omega (arith, ints), grind (arith, ints)) in
    let longer : drop (length region) c.set.new.self.items ≡ z ∷ rest = c.set.ensures.from ∙ ap (λ (q : List ℤ). z ∷ q) l.invariant.kept.from in
    let go : Progress → Option Progress = steps A (flat_map f (between (z +ℤ pos 1) high)) in
    let next = turns_next A f z high p whole to_high l.invariant.run in
    let e = err_from_is_err_and c.from_residual.result c.from_residual.ensures.1 in
    let later : List Action = flat_map f (between (z +ℤ pos 1) high) in
    let o : Option Progress = steps A (flat_map act (extended s region (drop (length region) c.set.new.self.items))) p in
    let new : Progress = progress_of c.visit_region.new.state in
    let ended : EndsIn c.args.state.now.given.room (λ (_ : Unit {0}). new) (Err c.in_err-visit_region.field-0.0) o =
    subst (λ (n : ℕ). EndsIn n (λ (_ : Unit {0}). new) (Err c.in_err-visit_region.field-0.0) o) l.invariant.large.given c.in_err-visit_region.ensures.run in
    rw (e.1, e.2) (stops_in A c.args.state.now.given.room new new c.in_err-visit_region.field-0.0 o later whole
    (next ∙ ap (λ (q : List ℤ). with (steps A (flat_map act (extended s region q)) p) go) (sym longer)) ended)

pub visit_numbers-returns-in_ok-visit_region-clause-run : goal.visit_numbers-returns-in_ok-visit_region-clause-run
visit_numbers-returns-in_ok-visit_region-clause-run g t c =
    let w = c.args.walk.now in
    let x = w.piece.now in
    let A = around x (g.C.Cells.cell c.args.cells.now) in
    let s = symbols_of w.symbols.now in
    let act : List ℤ → List Action = at_point x w.visit in
    let region = c.args.region.now in
    let l = c.loop-number in
    let z : ℤ = to_z w64 l.number-bits in
    let high = c.args.numbers.high in
    let rest = drop (length region + 1) c.args.state.now.point.items in
    let f : ℤ → List Action = λ y. flat_map act (extended s region (y ∷ rest)) in
    let p = progress_of l.state in
    let whole : Option Progress = steps A (flat_map f (between c.args.numbers.low high)) (progress_of c.args.state.now) in
    let to_high : z ≤ℤ high = first_of (omega (arith, ints), grind (arith, ints)) in
    let longer : drop (length region) c.set.new.self.items ≡ z ∷ rest = c.set.ensures.from ∙ ap (λ (q : List ℤ). z ∷ q) l.invariant.kept.from in
    let go : Progress → Option Progress = steps A (flat_map f (between (z +ℤ pos 1) high)) in
    let next = turns_next A f z high p whole to_high l.invariant.run in
    let done : steps A (f z) p ≡ Some (progress_of c.visit_region.new.state) = ap (λ (q : List ℤ). steps A (flat_map act (extended s region q)) p) (sym longer) ∙ c.in_ok-visit_region.ensures.run in
    let later : whole ≡ steps A (flat_map f (between (z +ℤ pos 1) high)) (progress_of c.visit_region.new.state) = goes_on (steps A (f z) p) (progress_of c.visit_region.new.state) go whole next done in
    later ∙ ap (λ (ys : List ℤ). steps A (flat_map f ys) (progress_of c.visit_region.new.state)) (between_none (z +ℤ pos 1) high (omega (arith, ints)))

pub visit_numbers-returns-in_ok-visit_region-clause-kept : goal.visit_numbers-returns-in_ok-visit_region-clause-kept
visit_numbers-returns-in_ok-visit_region-clause-kept g t c =
    let l = c.loop-number in
    keeps_more (length c.args.region.now) c.args.state.now.point l.state.point c.set.new.self c.visit_region.new.state.point (to_z w64 l.number-bits) l.invariant.kept c.set.ensures.from c.set.ensures.count c.in_ok-visit_region.ensures.kept

pub visit_region-visit_numbers-requires : goal.visit_region-visit_numbers-requires
visit_region-visit_numbers-requires g t c κs within =
    let r = c.args.region.now in
    let long : 1 ≤ length r = omega (arith, ltb-false) in
    let short : length (take (length r - 1) r) + 1 ≡ length r = grind (arith, common_steps) in
    let P : Span1 → Type 0 = SpanIsNarrow (symbols_of c.args.walk.now.symbols.now) in
    (first_of (search rules, omega arith, grind (arith, common_steps)), (search rules, (All-take P (length r - 1) r c.requires.region, (c.requires.visit, omega (arith, c.requires.long)))))

pub visit_region-returns-in-len1-up-clause-run : goal.visit_region-returns-in-len1-up-clause-run
visit_region-returns-in-len1-up-clause-run g t c =
    let w = c.args.walk.now in
    let x = w.piece.now in
    let A = around x (g.C.Cells.cell c.args.cells.now) in
    let s = symbols_of w.symbols.now in
    let act : List ℤ → List Action = at_point x w.visit in
    let r = c.args.region.now in
    let items = c.args.state.now.point.items in
    let point = drop (length r) items in
    let span : Span1 = c.span-item.result in
    let outer : List Span1 = take (length r - 1) r in
    let f : ℤ → List Action = λ y. flat_map act (extended s outer (y ∷ point)) in
    let long : 1 ≤ length r = omega (arith, ltb-false) in
    let parts : r ≡ outer ++ span ∷ [] = by_last r span long ∙ ap (λ (y : Span1). outer ++ y ∷ []) (sym c.span-item.is) in
    let low_fits : SFits w64 c.largest.result = search rules in
    let high_fits : SFits w64 c.smallest.result = search rules in
    let low : to_z w64 (of_z w64 c.largest.result) ≡ largest s span.lower = to_z-of_z w64 c.largest.result low_fits ∙ c.largest.ensures in
    let high : to_z w64 (of_z w64 c.smallest.result) ≡ smallest s span.upper = to_z-of_z w64 c.smallest.result high_fits ∙ c.smallest.ensures in
    let short : length outer + 1 ≡ length r = grind (arith, common_steps) in
    let h : ℕ → ℤ → List Action = λ n y. flat_map act (extended s outer (y ∷ drop n items)) in
    let e : flat_map (h (length outer + 1)) (between (to_z w64 (of_z w64 c.largest.result)) (to_z w64 (of_z w64 c.smallest.result))) ≡ flat_map act (extended s r point) =
    (λ i. flat_map (h (short i)) (between (low i) (high i))) ∙ sym (actions-last s act outer span point) ∙ ap (λ (xs : List Span1). flat_map act (extended s xs point)) (sym parts) in
    let mid = c.visit_row-left.new.state in
    let left : List ℤ = between c.visit_row-left.result.low c.visit_row-left.result.high in
    let later : List ℤ → Option Progress = λ q. steps A (flat_map (λ y. flat_map act (extended s outer (y ∷ q))) left) (progress_of mid) in
    let same : later (drop (length outer + 1) mid.point.items) ≡ steps A (flat_map act (extended s r point)) (progress_of c.args.state.now) =
    ap later c.visit_row-left.ensures.kept.from
    ∙ sym c.visit_row-left.ensures.run ∙ ap (λ (xs : List Action). steps A xs (progress_of c.args.state.now)) e in
    let E : ℕ → Option Progress → Type 0 = λ n o. EndsIn n (λ (_ : Unit {0}). progress_of c.visit_numbers.new.state) c.visit_numbers.result o in
    subst (λ (n : ℕ). E n (steps A (flat_map act (extended s r point)) (progress_of c.args.state.now))) c.visit_row-left.ensures.large.given
    (subst (E mid.given.room) same c.visit_numbers.ensures.run)
