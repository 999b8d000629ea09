use Rattle.std.proofs.Common.{◌≡◌, ◌++◌, take, map}
use Rattle.std.specs.Prelude.{string_bytes}
use Rattle.cert.specs.Lines.{WindowLine}
use Rattle.cert.specs.Notation.{text_of}
use Rattle.cert.proofs.writing.put_windows.Given as goal

abbrev pub invariant-loop-window : goal.invariant-loop-window
invariant-loop-window l = string_bytes l.text ≡ string_bytes l.fn.text ++ text_of (map WindowLine (take l.window-index l.windows))
