use Rattle.std.proofs.Common.{◌≡◌, ◌+◌, ◌∷◌, [], List, ℤ, length, ap, sym, ◌∙◌, arith}
use Rattle.std.specs.Prelude.{None, if◌then◌else◌, slice_get}
use Rattle.std.proofs.lemmas.List.{length-append}
use Rattle.checked_plan.specs.View.{plan_checked}
use Rattle.piece.specs.Found.{first_found, or_else, value_for}
use Rattle.piece.specs.Looked.{numbers_of_piece}
use Rattle.piece.proofs.Values.{found_next}
use Rattle.piece.proofs.cells.LookedCells.push_noted.Goals as goal
use mir.Syntax.{w64}
use mir.Val.{of_z, to_z}

pub invariant_of-self : goal.invariant_of-self
invariant_of-self c =
    let s = c.args.self.now in
    let v = to_z w64 (of_z w64 c.args.value) in
    let numbers = numbers_of_piece (plan_checked s.cells.now.checked.now) s.piece in
    let long : length c.push_reserved.new.self.items ≡ length s.looked.items + 1 = ap (λ (vs : List ℤ). length vs) c.push_reserved.ensures.items ∙ length-append s.looked.items (v ∷ []) in
    record {
      rise = s.rise;
      found = (λ not n.
          let next = c.number_to_note-next.ensures ∙ (λ i. if not i then None else slice_get numbers (length s.looked.items)) in
          c.note.ensures.found n
          ∙ (λ i. or_else (s.found not n i) (value_for (next i) n v))
          ∙ sym (found_next n numbers s.looked.items v)
          ∙ ap (λ (vs : List ℤ). first_found n numbers vs) (sym c.push_reserved.ensures.items));
      few = omega (arith, long, c.note.ensures.count, s.few);
      room = omega (arith, c.push_reserved.ensures.capacity, c.note.ensures.room, s.room);
    }
