use Rattle.std.proofs.Common.{◌≡◌, take, map, string_bytes}
use Rattle.plain.specs.Works.{bound_name, bound_number}
use Rattle.plain.proofs.opening.bind_variables.Given as goal

abbrev pub invariant-loop-i : goal.invariant-loop-i
invariant-loop-i l = record {
  names : map bound_name l.bindings.items ≡ map string_bytes (take l.i l.variables);
  numbers : map bound_number l.bindings.items ≡ take l.i l.at;
}
