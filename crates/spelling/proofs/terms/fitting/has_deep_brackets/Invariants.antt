use Rattle.std.proofs.Common.{◌≡◌, ◌≤◌, drop}
use Rattle.spelling.specs.Terms.Fitting.{is_deep_after}
use Rattle.spelling.proofs.terms.fitting.has_deep_brackets.Given as goal

abbrev pub invariant-loop-byte : goal.invariant-loop-byte
invariant-loop-byte l = record {
  few : l.open ≤ 256;
  so_far : is_deep_after l.open (drop l.byte-index l.line) ≡ is_deep_after 0 l.line;
}
