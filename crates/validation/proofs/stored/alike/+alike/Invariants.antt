use Rattle.std.proofs.Common.{◌≡◌, drop}
use Rattle.tree.specs.Term.{list_terms, indices}
use Rattle.tree.specs.Substitution.{all_with_calls}
use Rattle.soundness.specs.Outline.View.{outline_in}
use Rattle.validation.specs.Stored.Alike.{same_terms}
use Rattle.validation.specs.Stored.Stored.{call_read}
use Rattle.validation.proofs.stored.alike.+alike.Given as goal

abbrev pub invariant-are_read_as-loop-i : goal.invariant-are_read_as-loop-i
invariant-are_read_as-loop-i l =
    same_terms (all_with_calls (call_read (outline_in l.outlined)) (indices (list_terms (drop l.i l.at)))) (indices (list_terms (drop l.i l.by)))
    ≡ same_terms (all_with_calls (call_read (outline_in l.outlined)) (indices (list_terms l.at))) (indices (list_terms l.by))
