use Rattle.std.proofs.Common.{◌≡◌, ◌≤◌, ◌-◌, ◌++◌, length, take, drop}
use Rattle.lin.specs.Forms.{plus_term}
use Rattle.lin.proofs.terms.add_term.Given as goal

abbrev pub invariant-loop-place : goal.invariant-loop-place
invariant-loop-place l = record {
  same_terms : l.terms.items ≡ l.initial.terms.items;
  in_range : l.place ≤ length l.terms.items;
  passed : plus_term l.initial.terms.items l.term ≡ take l.place l.terms.items ++ plus_term (drop l.place l.terms.items) l.term;
}

abbrev pub decreases-loop-place : goal.decreases-loop-place
decreases-loop-place l = length l.initial.terms.items - l.place
