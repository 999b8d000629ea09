use Rattle.std.proofs.Common.{◌≡◌, map, drop}
use Rattle.std.specs.Prelude.{string_bytes}
use Rattle.meaning.specs.Names.{is_among}
use Rattle.algo.proofs.scoping.names.is_among.Given as goal

abbrev pub invariant-loop-other : goal.invariant-loop-other
invariant-loop-other l = is_among (map string_bytes (drop l.other-index l.names)) l.name ≡ is_among (map string_bytes l.names) l.name
