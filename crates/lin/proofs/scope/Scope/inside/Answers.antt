use Rattle.std.proofs.Common.{◌≡◌, List, Bool}
use Rattle.std.specs.Prelude.{IsTrue}
use Rattle.lin.specs.declared.scope.Binding.{Binding}
use Rattle.lin.specs.declared.span.Span1.{Span1}
use Rattle.lin.specs.Regions.{inside, IsInside}
use Rattle.lin.proofs.Limits.{if_ok}
use Rattle.lin.proofs.RegionLemmas.{inside-means}
use Rattle.lin.proofs.scope.Scope.inside.Goals as goal

means_of : (scope : List Binding) (a a' b b' : List Span1) (answer : Bool) → a' ≡ a → b' ≡ b → answer ≡ inside scope a' b' → IsTrue answer → IsInside scope a b
means_of scope a a' b b' answer ea eb e = inside-means scope a b answer (rw (ea, eb) at e)

pub returns-clause-sound : goal.returns-clause-sound
returns-clause-sound c =
    if_ok c.are_spans_inside.result _ _
    (λ answer e. means_of c.args.self.now c.args.a.now c.as_slice.result.now c.args.b.now c.as_slice-2.result.now answer c.as_slice.ensures c.as_slice-2.ensures e) c.are_spans_inside.ensures
