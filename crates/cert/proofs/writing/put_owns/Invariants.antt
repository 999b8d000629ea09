use Rattle.std.proofs.Common.{◌≡◌, ◌++◌, take, map}
use Rattle.std.specs.Prelude.{string_bytes}
use Rattle.cert.specs.Lines.{OwnLine}
use Rattle.cert.specs.Notation.{text_of}
use Rattle.cert.proofs.writing.put_owns.Given as goal

abbrev pub invariant-loop-own : goal.invariant-loop-own
invariant-loop-own l = string_bytes l.text ≡ string_bytes l.fn.text ++ text_of (map OwnLine (take l.own-index l.owns))
