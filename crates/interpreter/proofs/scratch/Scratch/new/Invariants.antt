use Rattle.std.proofs.Common.{map}
use Rattle.plan.specs.View.{group_of}
use Rattle.plan.specs.Certificate.Certificate.{certificate_of}
use Rattle.interpreter.proofs.Sufficing.{HoldsFirst}
use Rattle.interpreter.proofs.scratch.Scratch.new.Given as goal

abbrev pub invariant-loop-number : goal.invariant-loop-number
invariant-loop-number l = HoldsFirst (certificate_of l.cert) (map group_of l.groups) l.needs l.counts l.sizes.items l.codes.items l.number
