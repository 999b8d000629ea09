use Rattle.std.proofs.Common.{◌≡◌, take, map, ◌++◌}
use Rattle.std.specs.Prelude.{filter}
use Rattle.soundness.specs.Obligations.{follows}
use Rattle.soundness.specs.Outline.View.{outline_in}
use Rattle.obligations.specs.Context.Around.{nest_of}
use Rattle.obligations.proofs.context.known.note_nests.Given as goal

abbrev pub invariant-loop-before : goal.invariant-loop-before
invariant-loop-before g l = map nest_of l.nests.items ≡ map nest_of l.initial.nests.items ++ map (λ d. record { before = d; next = l.claim }) (filter (λ d. follows (outline_in l.judge.outlined.now) (g.B.Bounds.rules l.judge.bounds.now) d l.claim) (take l.before-index l.own))
