use Rattle.std.proofs.Common.{List, ℕ, arith, ap, subst, ◌∙◌}
use Rattle.std.specs.List.Sorted.{IsStrictlyIncreasing}
use Rattle.std.proofs.lemmas.Bool.{OnTrue_at}
use Rattle.checked_plan.specs.View.{plan_checked}
use Rattle.checked_plan.specs.declared.checked.Checked.{Checked}
use Rattle.piece.specs.Looked.{numbers_of_piece}
use Rattle.piece.proofs.Values.{none_yet}
use Rattle.piece.proofs.cells.LookedCells.new.Goals as goal

pub invariant_of-result : goal.invariant_of-result
invariant_of-result c =
    let list = c.fetched_of.ensures ∙ ap (λ (y : Checked). numbers_of_piece (plan_checked y) 0) c.checked.ensures in
    record {
      rise = (λ yes. subst (λ (ns : List ℕ). IsStrictlyIncreasing ns) list (OnTrue_at yes c.is_rising.ensures));
      found = (λ not n. none_yet n c.in_ok-with_capacity-2.field-0.entries _ c.in_ok-with_capacity.field-0.items c.in_ok-with_capacity-2.ensures.empty c.in_ok-with_capacity.ensures.items);
      few = omega (arith, c.in_ok-with_capacity-2.ensures.len);
      room = omega (arith, c.in_ok-with_capacity.ensures.exact, c.in_ok-with_capacity-2.ensures.spare);
    }
