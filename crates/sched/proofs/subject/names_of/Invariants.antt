use Rattle.std.proofs.Common.{◌≡◌, true, ◌++◌, map, drop, string_bytes}
use Rattle.std.specs.List.{list_all}
use Rattle.sched.specs.Subjects.{is_name}
use Rattle.sched.proofs.subject.names_of.Given as goal

abbrev pub invariant-loop-text : goal.invariant-loop-text
invariant-loop-text l = record {
  named : list_all is_name (map string_bytes (drop l.text-index l.texts)) ≡ true;
  left : l.names.items ++ map string_bytes (drop l.text-index l.texts) ≡ map string_bytes l.texts;
}
