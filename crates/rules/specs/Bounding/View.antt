-- The rules of bounds in memory.
use Rattle.algo.specs.View.{algorithm_of}
use Rattle.soundness.specs.Obligations.{Rules}
use Rattle.soundness.specs.Outline.View.{plan_in, certificate_in, number_in}
use Rattle.rules.specs.Bounding.Rules.{rules_of}
use Rattle.rules.specs.declared.bounding.plan_bounds.PlanBounds.{PlanBounds}

abbrev pub rules_in : PlanBounds → Rules
rules_in b = rules_of (algorithm_of b.algo.now) (plan_in b.outlined.now) (certificate_in b.outlined.now) (number_in b.outlined.now)
