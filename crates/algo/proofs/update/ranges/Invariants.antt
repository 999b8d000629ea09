use Rattle.std.proofs.Common.{◌≡◌, map, take, All}
use Rattle.meaning.specs.Conditions.{IsRange}
use Rattle.expr.specs.Statements.View.{domain_text}
use Rattle.algo.specs.Parts.{range_of}
use Rattle.algo.specs.Saying.{range_said}
use Rattle.algo.proofs.update.ranges.Given as goal

abbrev pub invariant-loop-domain : goal.invariant-loop-domain
invariant-loop-domain l = (map range_of l.ranges.items ≡ map range_said (map domain_text (take l.domain-index l.domains))) × All IsRange (map range_of l.ranges.items)
