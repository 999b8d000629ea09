-- Whether each index of the input and of the function itself is shown to lie where it may, in a function's definitions over its region.
use Rattle.std.specs.Prelude.{◌+◌, pos, ◌+ℤ◌, ◌-ℤ◌}
use Rattle.lin.specs.declared.span.Span1.{Span1}
use Rattle.bounds.specs.Spans.{numbers}
use Rattle.sched.specs.declared.numbers.Extent.{Extent}

-- all numbers of an extent
abbrev pub whole : Extent → Span1
whole e = numbers e.low (e.low +ℤ pos e.count -ℤ pos 1)
