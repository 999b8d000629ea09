-- The bounds of an expression that is bounded.
use Rattle.std.proofs.Common.{◌≡◌, Bool, true, false, Option, Some, None, sym, ap}
use Rattle.std.specs.Prelude.{if◌then◌else◌}
use Rattle.lin.specs.declared.span.Span1.{Span1}
use Rattle.soundness.specs.Obligations.{anything}
use Rattle.rules.specs.Bounding.Rules.{or_anything}

pub shown_span : (b : Bool) (o : Option Span1) (x : Span1) → b ≡ true → o ≡ Some x → x ≡ (if b then or_anything o else anything)
shown_span true o x h e = sym (ap or_anything e)
shown_span false o x h e = absurd (cc h)

pub shown_nothing : (b : Bool) (o : Option Span1) → b ≡ true → o ≡ None → anything ≡ (if b then or_anything o else anything)
shown_nothing true o h e = sym (ap or_anything e)
shown_nothing false o h e = absurd (cc h)
