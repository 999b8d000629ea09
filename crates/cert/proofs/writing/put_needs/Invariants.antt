use Rattle.std.proofs.Common.{◌≡◌, ◌++◌, take, map}
use Rattle.std.specs.Prelude.{string_bytes}
use Rattle.cert.specs.Lines.{NeedLine}
use Rattle.cert.specs.Notation.{text_of}
use Rattle.cert.proofs.writing.put_needs.Given as goal

abbrev pub invariant-loop-need : goal.invariant-loop-need
invariant-loop-need l = string_bytes l.text ≡ string_bytes l.fn.text ++ text_of (map NeedLine (take l.need-index l.needs))
