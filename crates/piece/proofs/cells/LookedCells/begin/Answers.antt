use Rattle.std.proofs.Common.{List, ℕ, arith, ap, subst, ◌∙◌}
use Rattle.std.specs.List.Sorted.{IsStrictlyIncreasing}
use Rattle.std.proofs.lemmas.Bool.{OnTrue_at}
use Rattle.checked_plan.specs.View.{plan_checked}
use Rattle.checked_plan.specs.declared.checked.Checked.{Checked}
use Rattle.piece.specs.Looked.{numbers_of_piece}
use Rattle.piece.proofs.Values.{none_yet}
use Rattle.piece.proofs.cells.LookedCells.begin.Goals as goal

pub invariant_of-self : goal.invariant_of-self
invariant_of-self c =
    let list = c.fetched_of.ensures ∙ ap (λ (y : Checked). numbers_of_piece (plan_checked y) c.args.piece) c.checked.ensures in
    record {
      rise = (λ yes. subst (λ (ns : List ℕ). IsStrictlyIncreasing ns) list (OnTrue_at yes c.is_rising-self.ensures));
      found = (λ not n. none_yet n c.forget.new.index.entries _ c.clear.new.self.items c.forget.ensures.empty c.clear.ensures.items);
      few = omega (arith, c.forget.ensures.len);
      room = omega (arith, c.clear.ensures.capacity, c.forget.ensures.room, c.args.self.now.room);
    }
