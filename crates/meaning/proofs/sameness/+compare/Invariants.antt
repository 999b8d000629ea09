use Rattle.std.proofs.Common.{◌≡◌, take}
use Rattle.tree.specs.Term.{list_terms}
use Rattle.meaning.proofs.sameness.+compare.Given as goal

abbrev pub invariant-same_row-loop-place : goal.invariant-same_row-loop-place
invariant-same_row-loop-place l = list_terms (take l.place l.first) ≡ list_terms (take l.place l.second)
